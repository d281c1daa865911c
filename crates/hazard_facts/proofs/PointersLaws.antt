-- Hazard pointers keep their facts.
use Rattle.std.proofs.Common.{◌≡◌, ◌≢◌, ℕ, ◌+◌, ◌-◌, List, [], ◌∷◌, ◌++◌, length, set, length-set, false, Some, None, sym, refl, ap, ◌∙◌, subst, arith, ⊎_elim, inl, get_or-set_other}
use Rattle.atomic_table.proofs.Lists.{at_set}
use Rattle.record_memory.specs.declared.books.Setup.{Setup}
use Rattle.record_memory.specs.declared.books.Guard.{Guard}
use Rattle.row_words.specs.Refs.{RefParts, refer}
use Rattle.record_rule.specs.Inputs.{SchemeCell, reachable, unpublished, unretired, limbo, SchemeInput}
use Rattle.record_rule.specs.Facts.{At, Moment}
use Rattle.record_rule.specs.Guards.{blank_guard, holding}
use Rattle.record_rule.specs.Laws.{moment, with_cell, with_guard, opening_scheme, HasStored, CoverLaws}
use Rattle.record_rule.specs.Least.{holds_nothing}
use Rattle.record_rule.proofs.Lists.{one_at, at_replicate}
use Rattle.guard_facts.specs.Announcing.{announcing, GuardsFit}
use Rattle.hazard_facts.specs.Pointers.{hazard_free, HazardFits, hazard}
use Rattle.hazard_facts.proofs.Frames.{cells_over, guard_over}
use Rattle.hazard_facts.proofs.Reaching.{has_reached, reaches_so, looks_so}
use Rattle.hazard_facts.proofs.Scanning.{loads_so, has_loaded}
use Rattle.hazard_facts.proofs.Freeing.{nobody_holds, ends_so, has_cleared}
use Rattle.guard_facts.proofs.Cells.{limbo_before, limbo_freed}

starts_so : (setup : Setup) → GuardsFit HazardFits setup (opening_scheme setup (blank_guard 3))
starts_so setup d g at = subst (HazardFits setup (opening_scheme setup (blank_guard 3)) d) (at_replicate setup.callers d (blank_guard 3) g at).1 record {
  names = λ p t e. absurd (holds_nothing 3 p t e);
  scan = λ j v k t e. let none : ⊥ = cc in absurd none;
}

-- a record is retired while its caller's scan isn't on, so no word of one has missed it
puts_so : (setup : Setup) (x : SchemeInput) (i d generation b n stamp : ℕ) (g : Guard) → GuardsFit HazardFits setup x → At x.guards d g → g.loaded ≡ [] → GuardsFit HazardFits setup (with_cell x i (limbo d generation b n stamp x.epoch))
puts_so setup x i d generation b n stamp g h mine idle e k there = let f = h e k there in record {
  names = f.names;
  scan = λ j v o t l caller hold a c m st r cell. ⊎_elim
      (λ p. let same : d ≡ e = (let q = p.1 in cc) in let is : g ≡ k = one_at x.guards e g k (subst (λ (q : ℕ). At x.guards q g) same mine) there in
      let none : At {A = ℕ} [] j v = subst (λ (q : List ℕ). At q j v) (sym (ap (λ (q : Guard). q.loaded) is) ∙ idle) l in let no_entry : ⊥ = cc in absurd no_entry)
      (λ p. f.scan j v o t l caller hold a c m st r p.1) (at_set x.cells i (t.index - 1) (limbo d generation b n stamp x.epoch) (limbo e a c m st r) cell);
}

-- a store in an own word ends the hold of its place
held_else : (g : Guard) (k v p : ℕ) (t : RefParts) → At (set g.holds k None) p (Some t) → (p ≢ k) × At g.holds p (Some t)
held_else g k v p t e = ⊎_elim (λ y. let none : ⊥ = (let z : None ≡ Some t = y.1 in cc) in absurd none) (λ y. y) (at_set g.holds k p None (Some t) e)

has_stored : (m : Moment) (g : Guard) (step k v : ℕ) → HasStored m g (holding (announcing g k v) k None) false step k v
has_stored m g step k v = record {
  holds = λ p t e. ((held_else g k v p t e).1, refl);
  many = length-set g.holds k None;
  words = refl;
  start = record { taken_out = refl; updates = refl; step = refl };
  waits = refl;
}

stores_so : (setup : Setup) (x : SchemeInput) (d k v : ℕ) (g : Guard) → GuardsFit HazardFits setup x → At x.guards d g → GuardsFit HazardFits setup (with_guard x d (holding (announcing g k v) k None))
stores_so setup x d k v g h at = guard_over setup x d g (holding (announcing g k v) k None) at (λ p t e. inl (held_else g k v p t e).1) h (λ f. record {
  names = λ p t e. let y = held_else g k v p t e in let z = f.names p t y.1 in (z.0, get_or-set_other g.announced k p v 0 y.0 ∙ z.1);
  scan = f.scan;
})

pub hazard_laws : CoverLaws hazard
hazard_laws = record {
  enough = omega arith;
  many = refl;
  nothing = holds_nothing 3;
  calm = refl;
  unstarted = (refl, refl, refl);
  silent = refl;
  starts = λ setup some. starts_so setup;
  hands = λ setup x i d generation b g safe h at guard may. cells_over setup x (set x.cells i (unpublished d generation b)) x.taken_out (limbo_before x.cells i (unpublished d generation b) (λ c a q n s r z. cc)) h;
  links = λ setup x i d generation b safe h at. cells_over setup x (set x.cells i (reachable generation b)) x.taken_out (limbo_before x.cells i (reachable generation b) (λ c a q n s r z. cc)) h;
  takes = λ setup x i d generation b safe h at. let new : SchemeCell = unretired d generation b (length x.taken_out) in cells_over setup x (set x.cells i new) (x.taken_out ++ refer (i + 1) generation ∷ []) (limbo_before x.cells i new (λ c a q n s r z. cc)) h;
  puts = λ setup x i d generation b n stamp g safe h at guard may. puts_so setup x i d generation b n stamp g h guard may.1;
  reaches = λ setup x d updates g q t safe h at may found. reaches_so setup x d updates g q t h at may found;
  reached = λ m g q t may. has_reached m g q t may;
  looks = λ setup x d step updates g safe h at begins. looks_so setup x d step updates g h at;
  loads = λ setup x d updates n g word safe h at is. loads_so setup x d updates n g word h at is;
  shown = λ setup x d n g word safe h at is. tt;
  loaded = λ setup x d updates n g word safe h at is. has_loaded setup x (moment x updates) d n g word;
  free_of = nobody_holds;
  frees = λ setup x d g cells safe h at freed. ends_so setup (record x { cells = cells }) d g (cells_over setup x cells x.taken_out (limbo_freed (hazard_free setup g) d x.cells cells freed) h) at;
  cleared = has_cleared;
  stores = λ setup x d k v step updates g safe h at low may. stores_so setup x d k v g h at;
  stored = λ setup m g step k v may. has_stored m g step k v;
  exchanges = λ setup x d old new g safe h at may is. absurd may;
}
