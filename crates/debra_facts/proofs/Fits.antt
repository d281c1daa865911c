-- A guard's facts where the records changed, or another caller's guard.
use Rattle.std.proofs.Common.{◌≡◌, ℕ, ◌≤◌, ◌⊎◌, List, get_or, Bool, true, false, sym, refl, ap, ◌∙◌, subst, arith, ⊎_elim, inl, Some}
use Rattle.atomic_table.proofs.Lists.{at_set}
use Rattle.record_memory.specs.declared.books.Setup.{Setup}
use Rattle.record_memory.specs.declared.books.Guard.{Guard}
use Rattle.row_words.specs.Refs.{RefParts}
use Rattle.record_rule.specs.Inputs.{SchemeCell, limbo, SchemeInput}
use Rattle.record_rule.specs.Facts.{At}
use Rattle.record_rule.specs.Laws.{with_guard, IsThere}
use Rattle.guard_facts.specs.Announcing.{reading, GuardsFit}
use Rattle.guard_facts.proofs.Replaced.{guards_fit}
use Rattle.debra_facts.specs.Debra.{DebraFits}

pub false_true : {A : Type 0} → false ≡ true → A
false_true e = let none : ⊥ = cc in absurd none

-- the new guard is active as the old one was, or became so at this epoch
abbrev pub IsActiveAs : SchemeInput → Guard → Guard → Type 0
IsActiveAs x g new = new.active ≡ true → ((g.active ≡ true) × (new.epoch ≡ g.epoch)) ⊎ (new.epoch ≡ x.epoch)

pub active_as : (x : SchemeInput) (g new : Guard) → new.active ≡ g.active → new.epoch ≡ g.epoch → IsActiveAs x g new
active_as x g new a b on = inl (sym a ∙ on, b)

module _ (setup : Setup) (x : SchemeInput) where
  -- the readings are the guard's
  pub first_reading : (d : ℕ) (g : Guard) (f : DebraFits setup x d g) → reading g 0 ≡ f.v
  first_reading d g f = ap (λ (l : List ℕ). get_or l 0 0) f.readings

  pub second_reading : (d : ℕ) (g : Guard) (f : DebraFits setup x d g) → reading g 1 ≡ f.w
  second_reading d g f = ap (λ (l : List ℕ). get_or l 1 0) f.readings

  pub third_reading : (d : ℕ) (g : Guard) (f : DebraFits setup x d g) → reading g 2 ≡ f.u
  third_reading d g f = ap (λ (l : List ℕ). get_or l 2 0) f.readings

  -- who holds something is active
  pub active_who : (e p : ℕ) (k : Guard) (t : RefParts) → DebraFits setup x e k → At k.holds p (Some t) → k.active ≡ true
  active_who e p k t f hold = by k.active refl
    where
      by : (b : Bool) → k.active ≡ b → k.active ≡ true
      by true on = on
      by false off = absurd ((f.quiet off).1 p t hold)

  -- records and the list of those taken out changed; what is in limbo was there before
  pub fits_over : (cells : List SchemeCell) (taken_out : List RefParts) → ((i c e b n stamp r : ℕ) → At cells i (limbo c e b n stamp r) → At x.cells i (limbo c e b n stamp r))
      → (d : ℕ) (g : Guard) → DebraFits setup x d g → (g.active ≡ true → (k : ℕ) (t : RefParts) → g.start_taken_out ≤ k → At taken_out k t → IsThere (record x { cells = cells; taken_out = taken_out }) t k)
      → DebraFits setup (record x { cells = cells; taken_out = taken_out }) d g
  fits_over cells taken_out was d g f stands = record {
    v = f.v;
    w = f.w;
    u = f.u;
    readings = f.readings;
    rise = f.rise;
    rose = f.rose;
    read = f.read;
    limit = f.limit;
    quiet = f.quiet;
    active = f.active;
    bags = λ i e b n stamp r at. f.bags i e b n stamp r (was i d e b n stamp r at);
    place = f.place;
    scanned = f.scanned;
    late = λ on c i e b n stamp r at. f.late on c i e b n stamp r (was i c e b n stamp r at);
    stands = stands;
  }

  module _ (d : ℕ) (g new : Guard) (at : At x.guards d g) (fresh : IsActiveAs x g new) where
    -- another guard was replaced
    guard_over : (e : ℕ) (k : Guard) → DebraFits setup x e k → DebraFits setup (with_guard x d new) e k
    guard_over e k f = record {
      v = f.v;
      w = f.w;
      u = f.u;
      readings = f.readings;
      rise = f.rise;
      rose = f.rose;
      read = f.read;
      limit = f.limit;
      quiet = f.quiet;
      active = f.active;
      bags = f.bags;
      place = f.place;
      scanned = λ j h lt there on. ⊎_elim
          (λ p. ⊎_elim (λ q. let o = f.scanned j g lt (subst (λ (z : ℕ). At x.guards z g) (sym p.0) at) q.0 in let s = ap (λ (z : Guard). z.epoch) p.1 in omega (arith, q.1))
          (λ q. let o = f.read in let s = ap (λ (z : Guard). z.epoch) p.1 in omega arith) (fresh (ap (λ (z : Guard). z.active) p.1 ∙ on)))
          (λ q. f.scanned j h lt q.1 on) (at_set x.guards d j new h there);
      late = f.late;
      stands = f.stands;
    }

    -- so each guard fits, where the new one does
    pub guards_over : GuardsFit DebraFits setup x → (DebraFits setup (with_guard x d new) d g → DebraFits setup (with_guard x d new) d new) → GuardsFit DebraFits setup (with_guard x d new)
    guards_over h mine = guards_fit DebraFits setup x d g new at h (λ e k there f. guard_over e k f) mine

  -- a guard that stays as it is
  pub stays_so : (d : ℕ) (g : Guard) → GuardsFit DebraFits setup x → At x.guards d g → GuardsFit DebraFits setup (with_guard x d g)
  stays_so d g h at = guards_over d g g at (active_as x g g refl refl) h (λ f. f)
