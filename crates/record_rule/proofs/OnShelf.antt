-- Records before and after all of one shelf came to a caller: where they are, and what that caller knows of them. A chain that is put on a shelf is the same the other way.
use Rattle.std.proofs.Common.{◌≡◌, ◌≢◌, ℕ, zero, suc, ◌+◌, ◌-◌, ◌<◌, ◌≤◌, List, [], ◌∷◌, length-set, map, get_or, set, All, Bool, true, cond, eqb, Option, Some, None, sym, refl, ap, ◌∙◌, subst, arith}
use Rattle.std.specs.List.{count_by}
use Rattle.std.proofs.lemmas.Bool.{eq-eqb}
use Rattle.std.proofs.lemmas.List.{length-map}
use mathlib.Core.Option.{some}
use Rattle.atomic_table.proofs.Lists.{at_map}
use Rattle.record_memory.specs.declared.steps.Word.TheVariants.{Shelf}
use Rattle.record_memory.specs.declared.books.Setup.{Setup}
use Rattle.record_memory.specs.declared.books.Book.{Book}
use Rattle.record_memory.specs.declared.books.Standing.TheVariants.{Free}
use Rattle.record_memory.specs.declared.books.Place.{Place}
use Rattle.record_memory.specs.declared.books.Place.TheVariants.{Shelved}
use Rattle.record_memory.specs.Memory.{Memory, put}
use Rattle.row_words.specs.Refs.{RefParts}
use Rattle.row_words.specs.Packing.{link_in, ref_in}
use Rattle.record_rule.specs.Records.{Record, share_at, share}
use Rattle.record_rule.specs.Facts.{At}
use Rattle.record_rule.specs.Kinds.{is_idle}
use Rattle.record_rule.specs.Shelves.{on, pool_at, pool_cell, HasChain}
use Rattle.record_rule.specs.World.{Places, overshoot}
use Rattle.record_rule.proofs.Lists.{below_at, at_below, get_at, map_at}
use Rattle.record_rule.proofs.Owned.{share_of}
use Rattle.record_rule.proofs.Quiet.{same_overshoot, past_before, books_after}
use Rattle.record_rule.proofs.Fields.{left_same}
use Rattle.record_rule.proofs.ShelfCells.{shelves_took, shelves_gave, chain_count}
use Rattle.record_rule.proofs.OffShelf.{IsOff, came, kept, off_shelf, is_off, off_undrawn, off_sound, on_sound, off_records, off_rows, off_shares, off_cells, count_idle}

-- what a cell on a shelf says of its record
pub record IsShelved (k generation : ℕ) (next : Option RefParts) (r : Record) : Type 0 where
  pub place : r.place ≡ Shelved k
  pub generation_is : r.generation ≡ generation
  pub next_is : (link_in (get_or r.row 1 0)).target ≡ next

pub shelved_cell : (k generation : ℕ) (next : Option RefParts) (r : Record) → pool_cell r ≡ on k generation next → IsShelved k generation next r
shelved_cell k generation next r e = by r.place refl e
  where
    by : (p : Place) → r.place ≡ p → pool_at p r ≡ on k generation next → IsShelved k generation next r
    by (Shelved j) is same = record { place = is ∙ (let z : j ≡ k = cc in ap (λ (x : ℕ). Shelved x) z); generation_is = (let z : r.generation ≡ generation = cc in z); next_is = (let z : (link_in (get_or r.row 1 0)).target ≡ next = cc in z) }
    by p is same = let none : ⊥ = cc in absurd none

-- where each record of a list is so, each is
pub all_at : (P : RefParts → Type 0) (refs : List RefParts) → ((n : ℕ) (r : RefParts) → At refs n r → P r) → All P refs
all_at P refs h n d lt = let x = at_below refs n lt in subst P (sym (get_at refs n x.0 d x.1)) (h n x.0 x.1)

pub at_all : (P : RefParts → Type 0) (refs : List RefParts) → All P refs → (n : ℕ) (r : RefParts) → At refs n r → P r
at_all P refs h n r at = subst P (get_at refs n r r at) (h n r (below_at refs n r at))

module _ (setup : Setup) (c k : ℕ) (below : k < 16) where
  -- where the records are once they came off the shelf
  pub off_places : (records : List Record) (books : List Book) (m : Memory) (b own : Book) → Places setup records books m → At books c b → own.caller ≡ b.caller → own.mine ≡ map (share c) (off_records c k records) → overshoot own ≡ overshoot b
      → Places setup (off_records c k records) (set books c own) (put m (Shelf k) 0)
  off_places records books m b own p at caller mine weight = let m' : Memory = put m (Shelf k) 0 in let f = p.books_fit c b at in let low : c < setup.callers = let l = below_at books c b at in let e = p.callers in omega arith in record {
    many = length-map records (off_shelf c k) ∙ p.many;
    rows = off_rows c k records ∙ p.rows;
    sound = λ i x e. let y = map_at (off_shelf c k) records i x e in off_sound setup c k i y.0 low x (subst (IsOff c k y.0) y.2 (is_off c k y.0)) (p.sound i y.0 y.1);
    left = λ i x e l. let y = map_at (off_shelf c k) records i x e in (off_undrawn c k y.0 x (subst (IsOff c k y.0) y.2 (is_off c k y.0))).1 (p.left i y.0 y.1 (left_same setup.allocator setup m' m i refl refl l));
    undrawn = λ i x e q. let y = map_at (off_shelf c k) records i x e in left_same setup.allocator setup m m' i refl refl (p.undrawn i y.0 y.1 ((off_undrawn c k y.0 x (subst (IsOff c k y.0) y.2 (is_off c k y.0))).0 q));
    drawn = subst (λ (z : ℕ). m.drawn ≤ setup.records + z) (sym (same_overshoot books c b own at weight)) p.drawn;
    untouched = p.untouched;
    shelves = shelves_took k below (map pool_cell records) (map pool_cell (off_records c k records)) (off_cells c k records) m.shelves p.shelves;
    callers = length-set books c own ∙ p.callers;
    books_fit = books_after setup m m' records (off_records c k records) books c own (λ h. h) (λ d ne. off_shares c k d ne records)
        record { number = caller ∙ f.number; mine = mine; past = λ h. f.past (past_before b.drawing own.drawing weight h) } p.books_fit;
  }

  -- and where they were, or are once they are put there
  pub on_places : (records : List Record) (books : List Book) (m : Memory) (value : ℕ) (b own : Book) → Places setup (off_records c k records) books m → At books c b → HasChain (map pool_cell records) k (ref_in value)
      → own.caller ≡ b.caller → own.mine ≡ map (share c) records → overshoot own ≡ overshoot b → Places setup records (set books c own) (put m (Shelf k) value)
  on_places records books m value b own p at chain caller mine weight = let m' : Memory = put m (Shelf k) value in let f = p.books_fit c b at in record {
    many = sym (length-map records (off_shelf c k)) ∙ p.many;
    rows = sym (off_rows c k records) ∙ p.rows;
    sound = λ i x e. on_sound setup c k i x (off_shelf c k x) (is_off c k x) (p.sound i (off_shelf c k x) (at_map (off_shelf c k) records i x e));
    left = λ i x e l. (off_undrawn c k x (off_shelf c k x) (is_off c k x)).0 (p.left i (off_shelf c k x) (at_map (off_shelf c k) records i x e) (left_same setup.allocator setup m' m i refl refl l));
    undrawn = λ i x e q. left_same setup.allocator setup m m' i refl refl (p.undrawn i (off_shelf c k x) (at_map (off_shelf c k) records i x e) ((off_undrawn c k x (off_shelf c k x) (is_off c k x)).1 q));
    drawn = subst (λ (z : ℕ). m.drawn ≤ setup.records + z) (sym (same_overshoot books c b own at weight)) p.drawn;
    untouched = p.untouched;
    shelves = shelves_gave k below (map pool_cell records) (map pool_cell (off_records c k records)) (off_cells c k records) m.shelves value chain p.shelves;
    callers = length-set books c own ∙ p.callers;
    books_fit = books_after setup m m' (off_records c k records) records books c own (λ h. h) (λ d ne. sym (off_shares c k d ne records))
        record { number = caller ∙ f.number; mine = mine; past = λ h. f.past (past_before b.drawing own.drawing weight h) } p.books_fit;
  }

-- what the caller knows of the records, with the chain on the shelf and with it off there
module _ (c k : ℕ) (records : List Record) (head : Option RefParts) (chain : HasChain (map pool_cell records) k head) (first : (r : Record) → At records 0 r → r.place ≢ Shelved k) where
  -- of a record of the chain
  pub at_chain : (i : ℕ) (generation : ℕ) (next : Option RefParts) → At (map pool_cell records) i (on k generation next) → (r : Record) × At records i r × IsShelved k generation next r
  at_chain i generation next at = let x = map_at pool_cell records i (on k generation next) at in (x.0, x.1, shelved_cell k generation next x.0 x.2)

  -- with the chain on the shelf it knows nothing
  pub on_unknown : (i : ℕ) (r : Record) → At records i r → r.place ≡ Shelved k → get_or (map (share c) records) i None ≡ None
  on_unknown i r at is = get_at (map (share c) records) i (share c r) None (at_map (share c) records i r at) ∙ ap (λ (p : Place). share_at c p r) is

  -- with the chain off it the record is free
  pub off_known : (i : ℕ) (r : Record) → At records i r → r.place ≡ Shelved k → get_or (map (share c) (off_records c k records)) i None ≡ Some (share_of Free r)
  off_known i r at is = get_at (map (share c) (off_records c k records)) i (share c (off_shelf c k r)) None (at_map (share c) (off_records c k records) i (off_shelf c k r) (at_map (off_shelf c k) records i r at)) ∙ by (off_shelf c k r) (is_off c k r)
    where
      same : (z : ℕ) → eqb z z ≡ true
      same z = eq-eqb z z refl

      by : (x : Record) → IsOff c k r x → share c x ≡ Some (share_of Free r)
      by _ (came _) = ap (λ (b : Bool). cond b (Some (share_of Free r)) None) (same c)
      by _ (kept ne) = absurd (ne is)

  same_got : (l : List Record) (i : ℕ) → ((r : Record) → At l i r → r.place ≢ Shelved k) → get_or (map (share c) (off_records c k l)) i None ≡ get_or (map (share c) l) i None
  same_got [] i h = refl
  same_got (r ∷ rs) zero h = by (off_shelf c k r) (is_off c k r)
    where
      by : (x : Record) → IsOff c k r x → share c x ≡ share c r
      by _ (came is) = absurd (h r refl is)
      by _ (kept ne) = refl
  same_got (r ∷ rs) (suc i) h = same_got rs i h

  -- of any other record it knows the same
  pub off_other : (i : ℕ) → All (λ (r : RefParts). r.index ≢ i) chain.refs → get_or (map (share c) (off_records c k records)) (i - 1) None ≡ get_or (map (share c) records) (i - 1) None
  off_other i apart = same_got records (i - 1) (λ r at is. by i r at is apart)
    where
      by : (i : ℕ) (r : Record) → At records (i - 1) r → r.place ≡ Shelved k → All (λ (r : RefParts). r.index ≢ i) chain.refs → ⊥
      by zero r at is apart = first r at is
      by (suc j) r at is apart = let x = chain.all j r.generation (link_in (get_or r.row 1 0)).target (at_map pool_cell records j r (let e : suc j - 1 ≡ j = omega arith in subst (λ (z : ℕ). At records z r) e at) ∙ ap some (ap (λ (p : Place). pool_at p r) is)) in
          at_all (λ (q : RefParts). q.index ≢ suc j) chain.refs apart x.0 x.1 x.2 (let e = x.3 in omega arith)

  -- and it has 32 idle records more with the chain off it
  pub off_more : count_by is_idle (map (share c) (off_records c k records)) ≡ count_by is_idle (map (share c) records) + 32
  off_more = let a = count_idle c k records in let b = chain_count k (map pool_cell records) head chain in omega arith
