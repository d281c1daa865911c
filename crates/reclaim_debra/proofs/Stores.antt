-- A store of the own announcement, and an exchange of the epoch, leave all records.
use Rattle.std.proofs.Common.{◌≡◌, ℕ, ◌+◌, ◌*◌, ◌<◌, ◌%◌, ◌≤◌, [], ◌∷◌, length, length-append, Bool, true, false, sym, refl, ap, ◌∙◌, subst, arith, inl}
use Rattle.std.specs.Prelude.{MatchResult, Result}
use Rattle.std.proofs.lemmas.Bool.{ne_eqb}
use Rattle.record_memory.specs.declared.steps.StepKind.TheVariants.{Exchange}
use Rattle.record_memory.specs.declared.books.View.{View}
use Rattle.record_rule.specs.Kinds.{control_step, made_step}
use Rattle.guard_facts.specs.Announcing.{LAST_EPOCH}
use Rattle.reclaim_api.specs.StepForms.{epoch_exchange}
use Rattle.reclaim_debra.specs.Entering.{HasTried}
use Rattle.record_rule.specs.ControlSteps.{seeing_if, own_store, StoredWord}
use Rattle.record_rule.specs.Links.{with_step, roots_kept}
use Rattle.debra_facts.specs.Rounds.{starts_by, stored_as}
use Rattle.debra_facts.specs.Debra.{debra}
use Rattle.reclaim_api.proofs.Words.{epoch_tried}
use Rattle.reclaim_debra.specs.declared.bags.Bags.{Bags}
use Rattle.reclaim_debra.specs.LocalParts.{KeepsBags}
use Rattle.reclaim_debra.specs.Stamped.{bags_stay}

-- The exchange is one step, which leaves the guard
pub tried_once : (v w : View) (e : ℕ) (r : Result (Unit {0}) ℕ) → e < LAST_EPOCH → MatchResult r (λ _. w ≡ made_step v (control_step v Exchange 1 e (e + 1))) (λ found. (found ≡ e → ⊥) × (w ≡ made_step v (control_step v Exchange 1 found found))) → HasTried v e w
tried_once v w e r lt told = let x = epoch_tried v w e r told in record {
  guard = ap (λ (y : View). y.own.guard) x.1;
  tried = epoch_exchange v.own e x.0 ∷ [];
  try = inl (lt, (x.0, refl));
  steps = ap (λ (y : View). y.own.steps) x.1;
}

-- and the bags
pub tried_bags : (l : Bags) (v w : View) (e : ℕ) (r : Result (Unit {0}) ℕ) → MatchResult r (λ _. w ≡ made_step v (control_step v Exchange 1 e (e + 1))) (λ found. (found ≡ e → ⊥) × (w ≡ made_step v (control_step v Exchange 1 found found))) → KeepsBags l v → KeepsBags l w
tried_bags l v w e r told k = let x = epoch_tried v w e r told in subst (KeepsBags l) (sym x.1) (bags_stay l v (made_step v (epoch_exchange v.own e x.0)) l.place refl (λ i h known q. known) (λ t. refl) refl k.place k)

module _ (v w : View) (value found : ℕ) (told : StoredWord debra v 0 value found w) where
  -- the view that it leaves, whether or not it starts a guard
  abbrev then : Bool → View
  then b = seeing_if b v told.updates told.taken_out (record (with_step v.own v.setup.records (own_store v 0 found value)) {
    guard = stored_as b told.moment v.own.guard (length v.own.steps + 1) 0 value;
    root_notes = roots_kept b v.own.root_notes;
  })

  -- the bags stay
  pub store_bags : (l : Bags) → KeepsBags l v → KeepsBags l w
  store_bags l k = subst (KeepsBags l) (sym told.view) (by (starts_by v.own.guard 0 value))
    where
      by : (b : Bool) → KeepsBags l (then b)
      by true = bags_stay l v (then true) l.place refl (λ i h known q. known) (λ u. refl) refl k.place k
      by false = bags_stay l v (then false) l.place refl (λ i h known q. known) (λ u. refl) refl k.place k

  -- an even one ends it
  pub store_quiet : (r : ℕ) → value ≡ 2 * r → w.own.guard.active ≡ false
  store_quiet r is = ap (λ (x : View). x.own.guard.active) told.view ∙ ap (λ (b : Bool). (then b).own.guard.active) (ne_eqb (value % 2) 1 (λ e. omega arith))

  -- an odd one starts one, behind the caller's front
  pub store_front : starts_by v.own.guard 0 value ≡ true → length v.front ≤ w.own.guard.start_updates
  store_front starts = let e : w.own.guard.start_updates ≡ told.moment.updates = ap (λ (x : View). x.own.guard.start_updates) told.view ∙ ap (λ (b : Bool). (then b).own.guard.start_updates) starts in
      let n = ap length told.whole.front.1 in let l = length-append v.front told.whole.front.0 in let m = told.updates_is in omega arith
