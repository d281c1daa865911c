use Rattle.std.proofs.Common.{rules, ℕ, ◌∷◌, not, ◌&&◌, cond, count_by, refl, sym, subst, ap, ◌∙◌, arith}
use Rattle.std.proofs.lemmas.List.Elements.{All-contains}
use Rattle.limbo_bags.specs.Chains.{refs_of}
use Rattle.limbo_bags.specs.Wholes.{AreApart, KeepsTimes, passes, is_freed, is_returned, is_reusable, is_spent, is_last}
use Rattle.limbo_bags.proofs.Chains.{chain_empty}
use Rattle.limbo_bags.proofs.Moves.{empties_first, empties_popped, empties_put, popped_apart, sends_first, sends_step, sorted_apart, passes_same, others_kept, count_popped, count_fits}
use Rattle.limbo_bags.proofs.sifting.sift.Goals as goal

pub loop-r-init : goal.loop-r-init
loop-r-init g c =
    let none = chain_empty (g.W.ChainWords.owns c.args.words.now) (g.W.ChainWords.row_of c.args.words.now) c.new-kept.result c.new-kept.ensures.head c.new-kept.ensures.count in
    let free = refs_of (g.W.ChainWords.row_of c.args.words.now) c.args.free.now in
    record {
      bag = empties_first _ _ c.args.bag.now c.requires.bag;
      kept_list = none.1;
      free_list = c.requires.free;
      keeps = sends_first _ _ _ none.0;
      frees = record { apart = c.requires.apart; refs = refl };
      apart = subst (λ t. AreApart t free) (sym none.0) (λ i d k. absurd (omega arith));
      freed = search rules;
      spent = search rules;
      same = search rules;
    }

pub sort_one-requires-clause-kept_apart : goal.sort_one-requires-clause-kept_apart
sort_one-requires-clause-kept_apart g c =
    popped_apart _ _ _ _ c.in-Some.r c.loop-r.invariant.keeps.apart c.in-Some.ensures.refs (c.in-Some.ensures.chains c.loop-r.kept c.loop-r.invariant.kept_list).refs

pub sort_one-requires-clause-free_apart : goal.sort_one-requires-clause-free_apart
sort_one-requires-clause-free_apart g c =
    popped_apart _ _ _ _ c.in-Some.r c.loop-r.invariant.frees.apart c.in-Some.ensures.refs (c.in-Some.ensures.chains c.loop-r.free c.loop-r.invariant.free_list).refs

pub sort_one-requires-clause-room : goal.sort_one-requires-clause-room
sort_one-requires-clause-room g c =
    let list = c.requires.bag in
    let test = g.T.Keeps.kept c.args.test.now in
    let old = g.W.ChainWords.row_of c.args.words.now in
    let left = refs_of (g.W.ChainWords.row_of c.loop-r.words) c.loop-r.bag in
    (count_fits (is_freed test old) _ left _ list.distinct list.in_range c.loop-r.invariant.freed, count_fits (is_spent test old) _ left _ list.distinct list.in_range c.loop-r.invariant.spent)

pub loop-r-preserved : goal.loop-r-preserved
loop-r-preserved g c =
    let was = c.loop-r.invariant in
    let took = c.in-Some.ensures in
    let gave = c.sort_one.ensures in
    let r = c.in-Some.r in
    let test = g.T.Keeps.kept c.args.test.now in
    let old = g.W.ChainWords.row_of c.args.words.now in
    let now = g.W.ChainWords.row_of c.pop.new.words in
    let new = g.W.ChainWords.row_of c.sort_one.new.words in
    let before = g.W.ChainWords.row_of c.loop-r.words in
    let popped = empties_popped _ _ _ _ _ _ _ c.loop-r.bag c.pop.new.chain r was.bag took.refs took.list took.rows took.owns in
    let put = empties_put _ _ _ _ _ _ _ c.pop.new.chain r c.requires.bag.distinct popped.1 popped.0 took.apart gave.times gave.others gave.owns in
    let rest = put.0 in
    let same_test = passes_same test old now r (All-contains (λ q. KeepsTimes (old q) (now q)) _ r popped.1.times popped.0) in
    let kept = refs_of before c.loop-r.kept in
    let free = refs_of before c.loop-r.free in
    let kept_still = (took.chains c.loop-r.kept was.kept_list).refs in
    let free_still = (took.chains c.loop-r.free was.free_list).refs in
    let kept_after = gave.kept ∙ ap (λ t. cond (passes test now r) (r ∷ t) t) kept_still ∙ ap (λ b. cond b (r ∷ kept) kept) same_test in
    let free_after = gave.free ∙ ap (λ t. cond (is_returned test now r) (r ∷ t) t) free_still ∙ ap (λ b. cond (not b && is_reusable r) (r ∷ free) free) same_test in
    let keeps = sends_step (passes test old) _ _ _ _ _ _ r was.keeps took.refs rest took.apart kept_after in
    let frees = sends_step (is_returned test old) _ _ _ _ _ _ r was.frees took.refs rest took.apart free_after in
    let apart = sorted_apart (passes test old r) (is_reusable r) r kept free was.apart (popped_apart _ _ _ _ r was.keeps.apart took.refs refl) (popped_apart _ _ _ _ r was.frees.apart took.refs refl) in
    let same_then = g.met.W.ChainWords.same_then in
    record {
      bag = put.1;
      kept_list = gave.kept_list;
      free_list = gave.free_list;
      keeps = keeps;
      frees = frees;
      apart = rw (kept_after, free_after) apart;
      freed = omega (arith, gave.freed, was.freed, ap {B = ℕ} (λ b. cond (not b) 1 0) same_test, count_popped (is_freed test old) _ _ r took.refs, ap (count_by (is_freed test old)) rest);
      spent = omega (arith, gave.spent, was.spent, ap {B = ℕ} (λ b. cond (not b && is_last r) 1 0) same_test, count_popped (is_spent test old) _ _ r took.refs, ap (count_by (is_spent test old)) rest);
      same = same_then _ _ _ was.same (same_then _ _ _ took.same gave.same);
    }

pub returns-clause-chains : goal.returns-clause-chains
returns-clause-chains g c other list apart =
    let kept = others_kept _ _ _ _ _ c.loop-r.bag other c.loop-r.invariant.bag list apart in
    let still = c.in_default.ensures.chains other kept.list in
    record { refs = still.refs ∙ kept.refs; list = still.list }
