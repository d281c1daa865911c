use Rattle.std.proofs.Common.{ap, subst, sym, ◌∙◌, ◌≡◌, ◌+◌, ℕ, List}
use Rattle.record_memory.specs.declared.books.View.{View}
use Rattle.row_words.specs.Refs.{RefParts}
use Rattle.record_rule.specs.Kinds.{idle, IsKnown}
use Rattle.record_rule.specs.HandingOut.{HasOwn}
use Rattle.record_rule.specs.Asides.{took_spare, HasSpare}
use Rattle.record_rule.proofs.Asides.{own_again, idle_taken, found_chain}
use Rattle.record_table.proofs.table.Table.take_spare.Goals as goal

pub returns-clause-step : goal.returns-clause-step
returns-clause-step g c = let v : View = c.args.pass.now.seat.me.0 in let n : ℕ = c.load_spare-found.result in let i : c.r.inside.index ≡ c.args.r.index = ap (λ (z : RefParts). z.index) c.r.view_is in
    λ (row : List ℕ) (h : HasSpare v c.args.r row). c.load_spare-found.ensures.step
    ∙ (λ k. took_spare v (i k) (found_chain v c.args.r row n h (subst (λ (z : ℕ). IsKnown v z 1 n) i c.load_spare-found.ensures.found) k))

pub returns-clause-own : goal.returns-clause-own
returns-clause-own g c = let v : View = c.args.pass.now.seat.me.0 in λ (row : List ℕ) (h : HasSpare v c.args.r row). subst (λ (w : View). HasOwn w c.args.r row) (sym (returns-clause-step g c row h)) (own_again v c.args.r row _ h)

pub returns-clause-is_own : goal.returns-clause-is_own
returns-clause-is_own g c = (_, returns-clause-own g c c.requires.spare.0 c.requires.spare.1)

pub returns-clause-idle : goal.returns-clause-idle
returns-clause-idle g c = let v : View = c.args.pass.now.seat.me.0 in ap (λ (w : View). idle w.own + 1) (returns-clause-step g c c.requires.spare.0 c.requires.spare.1) ∙ idle_taken v c.args.r _ _ c.requires.spare.1
