-- A record's moves from being handed out to limbo keep DEBRA's facts, and so does following a link.
use Rattle.std.proofs.Common.{◌≡◌, ◌≢◌, ℕ, ◌+◌, ◌-◌, ◌<◌, [], ◌∷◌, ◌++◌, length, length-set, set, true, Option, Some, sym, refl, ap, ◌∙◌, subst, arith, ⊎_elim, inl, inr}
use lib.ListN.{get_elem?}
use Rattle.atomic_table.proofs.Lists.{at_set, set_here}
use Rattle.record_memory.specs.declared.books.Setup.{Setup}
use Rattle.record_memory.specs.declared.books.Guard.{Guard}
use Rattle.row_words.specs.Refs.{RefParts, refer}
use Rattle.record_rule.specs.Inputs.{SchemeCell, reachable, unretired, limbo, SchemeInput}
use Rattle.record_rule.specs.Facts.{At, Moment, Reach}
use Rattle.record_rule.specs.Guards.{holding}
use Rattle.record_rule.specs.Laws.{with_cell, with_guard, IsThereAs, HasReached}
use Rattle.record_rule.proofs.Lists.{below_at, one_at}
use Rattle.record_rule.proofs.Seats.{at_end}
use Rattle.cover_facts.proofs.There.{stays_there, taken_stays, retired_stays}
use Rattle.guard_facts.specs.Announcing.{reading, GuardsFit}
use Rattle.guard_facts.proofs.Cells.{limbo_before}
use Rattle.debra_facts.specs.Debra.{DebraFits, debra}
use Rattle.debra_facts.proofs.Fits.{false_true, active_as, first_reading, fits_over, guards_over}

module _ (setup : Setup) (x : SchemeInput) (h : GuardsFit DebraFits setup x) where
  -- a record came to a cell that isn't in limbo
  pub moves_so : (i : ℕ) (new : SchemeCell) → ((c e b n stamp r : ℕ) → new ≢ limbo c e b n stamp r) → ((cell : SchemeCell) (t : RefParts) (k : ℕ) → At x.cells i cell → IsThereAs cell t.generation k → IsThereAs new t.generation k) → GuardsFit DebraFits setup (with_cell x i new)
  moves_so i new never moves d g at = let f = h d g at in
      fits_over setup x (set x.cells i new) x.taken_out (limbo_before x.cells i new never) d g f (λ on k t le there. stays_there x i new t k (f.stands on k t le there) (λ cell here same was. moves cell t k here was))

  -- what was taken out stands last, and is there
  pub takes_so : (i d generation b : ℕ) → At x.cells i (reachable generation b) → GuardsFit DebraFits setup (record x { cells = set x.cells i (unretired d generation b (length x.taken_out)); taken_out = x.taken_out ++ refer (i + 1) generation ∷ [] })
  takes_so i d generation b at e g there = let n : ℕ = length x.taken_out in let new : SchemeCell = unretired d generation b n in let f = h e g there in
      fits_over setup x (set x.cells i new) (x.taken_out ++ refer (i + 1) generation ∷ []) (limbo_before x.cells i new (λ c a q m s r z. cc)) e g f
      (λ on k t le y. ⊎_elim
      (λ p. stays_there x i new t k (f.stands on k t le p) (λ cell here same was. taken_stays x i d generation b n at cell t k (let l = below_at x.taken_out k t p in omega arith) here was))
      (λ p. let index : i + 1 ≡ t.index = ap (λ (r : RefParts). r.index) p.1 in (
        new,
        omega arith,
        ap (get_elem? (set x.cells i new)) (let z : t.index - 1 ≡ i = omega arith in z) ∙ set_here x.cells i new (below_at x.cells i (reachable generation b) at),
        (ap (λ (r : RefParts). r.generation) p.1, (let z = p.0 in omega arith)),
      ))
      (at_end x.taken_out (refer (i + 1) generation) t k y))

  -- a record is retired at this epoch, with its owner's last reading, which no reading of the owner is above
  pub puts_so : (i d generation b n stamp : ℕ) (g : Guard) → At x.cells i (unretired d generation b n) → At x.guards d g → stamp ≡ reading g 0 → GuardsFit DebraFits setup (with_cell x i (limbo d generation b n stamp x.epoch))
  puts_so i d generation b n stamp g at mine may e k there = let f = h e k there in let new : SchemeCell = limbo d generation b n stamp x.epoch in record {
    v = f.v;
    w = f.w;
    u = f.u;
    readings = f.readings;
    rise = f.rise;
    rose = f.rose;
    read = f.read;
    limit = f.limit;
    quiet = f.quiet;
    active = f.active;
    bags = λ j a c m st r y. ⊎_elim
        (λ p. let z : stamp ≡ st = (let q = p.1 in cc) in let y : x.epoch ≡ r = (let q = p.1 in cc) in let same : d ≡ e = (let q = p.1 in cc) in
        let k_is : g ≡ k = one_at x.guards e g k (subst (λ (q : ℕ). At x.guards q g) same mine) there in let now : st ≡ f.v = sym z ∙ may ∙ ap (λ (q : Guard). reading q 0) k_is ∙ first_reading setup x e k f in
        let up = f.rise in (omega arith, (λ lt. absurd (omega arith)), (λ lt. absurd (omega arith)), (λ lt. ⊎_elim (λ (q : f.u < f.w). absurd (omega arith)) (λ (q : f.u ≡ 0). absurd (omega arith)) f.rose)))
        (λ p. f.bags j a c m st r p.1) (at_set x.cells i j new (limbo e a c m st r) y);
    place = f.place;
    scanned = f.scanned;
    late = λ on c j a q m st r y le. ⊎_elim
        (λ p. let z : x.epoch ≡ r = (let w = p.1 in cc) in let s = (f.active on).3 in omega arith)
        (λ p. f.late on c j a q m st r p.1 le) (at_set x.cells i j new (limbo c a q m st r) y);
    stands = λ on j t le y. stays_there x i new t j (f.stands on j t le y) (λ cell here same z. retired_stays x i d generation b n stamp x.epoch at cell t j here z);
  }

  -- an active caller followed a link
  pub reaches_so : (d p : ℕ) (g : Guard) (t : Option RefParts) → At x.guards d g → g.active ≡ true → GuardsFit DebraFits setup (with_guard x d (holding g p t))
  reaches_so d p g t at on = guards_over setup x d g (holding g p t) at (active_as x g (holding g p t) refl refl) h (λ f. record {
    v = f.v;
    w = f.w;
    u = f.u;
    readings = f.readings;
    rise = f.rise;
    rose = f.rose;
    read = f.read;
    limit = f.limit;
    quiet = λ off. false_true (sym off ∙ on);
    active = f.active;
    bags = f.bags;
    place = f.place;
    scanned = f.scanned;
    late = f.late;
    stands = f.stands;
  })

pub reached_so : (m : Moment) (g : Guard) (q : Reach) (t : Option RefParts) → HasReached debra m g q t
reached_so m g q t = record {
  holds = λ p r e. ⊎_elim (λ y. inr (y.0, y.1)) (λ y. inl (y.1, refl)) (at_set g.holds q.place p t (Some r) e);
  many = length-set g.holds q.place t;
  words = refl;
  only = λ r e. ⊎_elim (λ y. y.1) (λ y. absurd (y.0 refl)) (at_set g.holds q.place q.place t (Some r) e);
  start = record { taken_out = refl; updates = refl; step = refl };
  waits = λ p r e. let none : ⊥ = cc in absurd none;
}
