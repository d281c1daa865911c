-- One caller's guard is replaced by another.
use Rattle.std.proofs.Common.{◌≡◌, ℕ, List, length, map, Option, Some, None, true, false, refl, sym, ap, ◌∙◌, subst, inl}
use Rattle.std.proofs.lemmas.List.{length-map}
use Rattle.record_memory.specs.declared.books.Setup.{Setup}
use Rattle.record_memory.specs.declared.books.Guard.{Guard}
use Rattle.row_words.specs.Refs.{RefParts}
use Rattle.record_rule.specs.Inputs.{SchemeInput}
use Rattle.record_rule.specs.Facts.{At, Moment}
use Rattle.record_rule.specs.Guards.{nothing_at}
use Rattle.record_rule.specs.Laws.{with_guard, SameStart, HasLoaded, HasStored}
use Rattle.record_rule.proofs.Lists.{each_set, map_at}
use Rattle.guard_facts.specs.Announcing.{GuardsFit, entered, left}

-- each guard fits, where a replacement of this one is nothing to the guards that there were, and the new one fits as this one did
pub guards_fit : (F : Setup → SchemeInput → ℕ → Guard → Type 0) (setup : Setup) (x : SchemeInput) (d : ℕ) (g new : Guard) → At x.guards d g → GuardsFit F setup x
    → ((e : ℕ) (k : Guard) → At x.guards e k → F setup x e k → F setup (with_guard x d new) e k) → (F setup (with_guard x d new) d g → F setup (with_guard x d new) d new) → GuardsFit F setup (with_guard x d new)
guards_fit F setup x d g new at h others mine = each_set (λ e k. F setup (with_guard x d new) e k) x.guards d new (λ e k there. others e k there (h e k there)) (mine (others d g at (h d g at)))

-- where each place was emptied, nothing is held
pub empty_holds : (l : List (Option RefParts)) (p : ℕ) (t : RefParts) → ¬ At (map nothing_at l) p (Some t)
empty_holds l p t e = let y = map_at nothing_at l p (Some t) e in let z : None ≡ Some t = y.2 in cc

-- a load of a control word that leaves what is held as it was
pub holds_on : (x : SchemeInput) (g new : Guard) → new.holds ≡ g.holds → new.pending ≡ g.pending → new.announced ≡ g.announced → SameStart g new → HasLoaded x g new
holds_on x g new same wait words start = record {
  holds = λ p t e. inl (subst (λ (l : List (Option RefParts)). At l p (Some t)) same e);
  many = ap length same;
  words = words;
  start = start;
  waits = λ p r e. (sym wait ∙ e, same);
}

-- the announcing store of a guard that starts, and of one that ends
pub enters : (m : Moment) (g : Guard) (step k v : ℕ) → HasStored m g (entered m g step k v) true step k v
enters m g step k v = record { holds = λ p t e. absurd (empty_holds g.holds p t e); many = length-map g.holds nothing_at; words = refl; start = record { taken_out = refl; updates = refl; step_is = refl }; waits = refl }

pub leaves : (m : Moment) (g : Guard) (step k v : ℕ) → HasStored m g (left g k v) false step k v
leaves m g step k v = record { holds = λ p t e. absurd (empty_holds g.holds p t e); many = length-map g.holds nothing_at; words = refl; start = record { taken_out = refl; updates = refl; step = refl }; waits = refl }
