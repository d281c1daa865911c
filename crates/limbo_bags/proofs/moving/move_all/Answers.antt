use Rattle.std.proofs.Common.{rules, refl, ap, ◌∙◌, arith, length, count_by, cond, ◌∷◌}
use Rattle.limbo_bags.specs.Chains.{refs_of}
use Rattle.limbo_bags.specs.Wholes.{is_last, is_reusable}
use Rattle.limbo_bags.proofs.Moves.{empties_first, empties_popped, empties_put, popped_apart, sends_step, others_kept, count_popped, count_fits, length_fits}
use Rattle.limbo_bags.proofs.moving.move_all.Goals as goal

pub loop-r-init : goal.loop-r-init
loop-r-init g c = record {
  from = empties_first _ _ c.args.from.now c.requires.from;
  to = c.requires.to;
  sends = record { apart = c.requires.apart; refs = refl };
  freed = search rules;
  spent = search rules;
  same = search rules;
}

pub set_free-requires-clause-apart : goal.set_free-requires-clause-apart
set_free-requires-clause-apart g c =
    popped_apart _ _ _ _ c.in-Some.r c.loop-r.invariant.sends.apart c.in-Some.ensures.refs (c.in-Some.ensures.chains c.loop-r.to c.loop-r.invariant.to).refs

pub set_free-requires-clause-room : goal.set_free-requires-clause-room
set_free-requires-clause-room g c =
    let list = c.requires.from in
    let left = refs_of (g.W.ChainWords.row_of c.loop-r.words) c.loop-r.from in
    (length_fits _ left _ list.distinct list.in_range c.loop-r.invariant.freed, count_fits is_last _ left _ list.distinct list.in_range c.loop-r.invariant.spent)

pub loop-r-preserved : goal.loop-r-preserved
loop-r-preserved g c =
    let was = c.loop-r.invariant in
    let took = c.in-Some.ensures in
    let gave = c.set_free.ensures in
    let d = c.requires.from.distinct in
    let popped = empties_popped _ _ _ _ _ _ _ c.loop-r.from c.pop.new.chain c.in-Some.r was.from took.refs took.list took.rows took.owns in
    let put = empties_put _ _ _ _ _ _ _ c.pop.new.chain c.in-Some.r d popped.1 popped.0 took.apart gave.times gave.others gave.owns in
    let rest = put.0 in
    let same_then = g.met.W.ChainWords.same_then in
    let sent = sends_step is_reusable _ _ _ _ _ _ c.in-Some.r was.sends took.refs rest took.apart (gave.refs ∙ ap (λ t. cond (is_reusable c.in-Some.r) (c.in-Some.r ∷ t) t) (took.chains c.loop-r.to was.to).refs) in
    record {
      from = put.1;
      to = gave.list;
      sends = sent;
      freed = omega (arith, gave.freed, was.freed, ap length took.refs, ap length rest);
      spent = omega (arith, gave.spent, was.spent, count_popped is_last _ _ c.in-Some.r took.refs, ap (count_by is_last) rest);
      same = same_then _ _ _ was.same (same_then _ _ _ took.same gave.same);
    }

pub returns-clause-chains : goal.returns-clause-chains
returns-clause-chains g c other list apart =
    let was = c.loop-r.invariant in
    let kept = others_kept _ _ _ _ _ c.loop-r.from other was.from list apart in
    let still = c.in_default.ensures.chains other kept.list in
    record { refs = still.refs ∙ kept.refs; list = still.list }
