-- When a guard started that starts with its first load of a link.
use Rattle.std.proofs.Common.{◌≡◌, ℕ, ◌+◌, ◌<◌, length, Bool, true, false, not, ◌&&◌, refl, sym, ap, ◌∙◌, subst, arith}
use Rattle.std.proofs.lemmas.Bool.{lt-ltb, ltb-true}
use Rattle.record_memory.specs.declared.books.View.{View}
use Rattle.record_memory.specs.declared.books.Guard.{Guard}
use Rattle.record_rule.specs.Facts.{ShapeFacts, CoverFacts, Moment}
use Rattle.record_rule.specs.Guards.{started_if}
use Rattle.record_rule.specs.Links.{Origin, LoadedLink}
use Rattle.record_table.specs.declared.passes.Pass.{Pass}
use Rattle.record_table.specs.Handles.{view, since}
use Rattle.record_table.specs.Nodes.{HasStarted, is_first}

module _ {S R : Type 0} (p : Pass S R) where
  -- a load after the guard started is a later one
  pub later_load : HasStarted p → is_first p ≡ false
  later_load h = ap not (lt-ltb (length (since p).own.steps) (view p).own.guard.start_step h)

  was_later : (b : Bool) → not b ≡ false → b ≡ true
  was_later true e = refl
  was_later false e = let none : ⊥ = cc in absurd none

  -- a guard that starts with this step started after it began, and so did one that goes on
  started_then : (b : Bool) (m : Moment) → is_first p ≡ b → since p ≡ view p → length (since p).own.steps < (started_if (true && b) m (view p).own.guard (length (view p).own.steps + 1)).start_step
  started_then true m is begun = let e = ap (λ (v : View). length v.own.steps) begun in omega arith
  started_then false m is begun = ltb-true (length (since p).own.steps) (view p).own.guard.start_step (was_later _ is)

  -- So a guard has started once a link was loaded in it, where the reclaimer has guards start so
  pub started_now : (q : Pass S R) (s : ShapeFacts) (c : CoverFacts) (o : Origin) (f n : ℕ) → c.begins_loading ≡ true → since p ≡ view p → since q ≡ since p → LoadedLink s c (view p) o f (is_first p) n (view q) → HasStarted q
  started_now q s c o f n loading begun same told =
      let m : Moment = record { epoch = told.epoch; taken_out = length (view q).seen_taken_out; updates = length (view q).seen_updates } in
      let guard : (view q).own.guard ≡ started_if (true && is_first p) m (view p).own.guard (length (view p).own.steps + 1) = ap (λ (v : View). v.own.guard) told.view ∙ ap (λ (b : Bool). started_if (b && is_first p) m (view p).own.guard (length (view p).own.steps + 1)) loading in
      subst (λ (z : View × Guard). length z.0.own.steps < z.1.start_step) (λ k. (sym same k, sym guard k)) (started_then (is_first p) m refl begun)
