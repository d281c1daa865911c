-- The records once all of one shelf came to a caller, as free ones.
use Rattle.std.proofs.Common.{◌≡◌, ◌≢◌, ℕ, ◌+◌, ◌<◌, List, [], ◌∷◌, map, Bool, true, false, cond, eqb, sum_by, Option, sym, refl, ap, ◌∙◌, subst, arith}
use Rattle.std.specs.List.{count_by}
use Rattle.std.proofs.lemmas.Bool.{eqb-true, eqb-false}
use Rattle.std.proofs.lemmas.List.{length-map}
use Rattle.std.proofs.lemmas.List.Sums.{sum_by-cons}
use Rattle.atomic_table.proofs.Lists.{at_map}
use Rattle.record_memory.specs.declared.books.Setup.{Setup}
use Rattle.record_memory.specs.declared.books.Share.{Share}
use Rattle.record_memory.specs.declared.books.Standing.TheVariants.{Handing, Free}
use Rattle.record_memory.specs.declared.books.Place.{Place}
use Rattle.record_memory.specs.declared.books.Place.TheVariants.{Undrawn, Root, Linked, Shelved, Of}
use Rattle.record_rule.specs.Records.{Record, IsSound, carried, share_at, share}
use Rattle.record_rule.specs.Inputs.{shape_at, shape_cell, scheme_at, scheme_cell, taken_at, taken_cell}
use Rattle.record_rule.specs.Counts.{drawn_as, retired_as, freed_as, lives_before, was_drawn, times_retired, times_freed}
use Rattle.record_rule.specs.Kinds.{is_idle}
use Rattle.record_rule.specs.Shelves.{on, pool_at, pool_cell}
use Rattle.record_rule.proofs.Lists.{map_at}
use Rattle.record_rule.proofs.Owned.{seen_by, unseen_by}
use Rattle.record_rule.proofs.CountingPlaces.{bit, count_cons}
use Rattle.record_rule.proofs.ShelfCells.{Took, came_off, stayed_on, TookAll, is_on_cell}

-- whether a place is shelf k
abbrev pub is_on : ℕ → Place → Bool
is_on k Undrawn = false
is_on k Root = false
is_on k Linked = false
is_on k (Shelved j) = eqb j k
is_on k (Of c s) = false

-- the record once caller c took shelf k
abbrev pub off_shelf : ℕ → ℕ → Record → Record
off_shelf c k r = cond (is_on k r.place) (record r { place = Of c Free }) r

-- what became of it
pub data IsOff (c k : ℕ) (r : Record) : Record → Type 0 where
  came : r.place ≡ Shelved k → IsOff c k r (record r { place = Of c Free })
  kept : r.place ≢ Shelved k → IsOff c k r r

is_on_true : (k : ℕ) (p : Place) → is_on k p ≡ true → p ≡ Shelved k
is_on_true k (Shelved j) h = ap (λ (z : ℕ). Shelved z) (eqb-true j k h)
is_on_true k p h = let none : ⊥ = cc in absurd none

is_on_false : (k : ℕ) (p : Place) → is_on k p ≡ false → p ≢ Shelved k
is_on_false k (Shelved j) h e = let same : j ≡ k = cc in eqb-false j k h same
is_on_false k p h e = let none : ⊥ = cc in none

pub is_off : (c k : ℕ) (r : Record) → IsOff c k r (off_shelf c k r)
is_off c k r = by (is_on k r.place) refl
  where
    by : (b : Bool) → is_on k r.place ≡ b → IsOff c k r (cond b (record r { place = Of c Free }) r)
    by true e = came (is_on_true k r.place e)
    by false e = kept (is_on_false k r.place e)

module _ (c k : ℕ) (r : Record) where
  off_row : (x : Record) → IsOff c k r x → x.row ≡ r.row
  off_row _ (came is) = refl
  off_row _ (kept ne) = refl

  -- no fact of a set, of a reclaimer or of the list of those taken out sees it
  off_shape : (x : Record) → IsOff c k r x → shape_cell x ≡ shape_cell r
  off_shape _ (came is) = sym (ap (λ (p : Place). shape_at p r) is)
  off_shape _ (kept ne) = refl

  off_scheme : (x : Record) → IsOff c k r x → scheme_cell x ≡ scheme_cell r
  off_scheme _ (came is) = sym (ap (λ (p : Place). scheme_at p r) is)
  off_scheme _ (kept ne) = refl

  off_taken : (x : Record) → IsOff c k r x → taken_cell x ≡ taken_cell r
  off_taken _ (came is) = sym (ap (λ (p : Place). taken_at p r) is)
  off_taken _ (kept ne) = refl

  -- nor does another caller
  off_others : (d : ℕ) → d ≢ c → (x : Record) → IsOff c k r x → share d x ≡ share d r
  off_others d ne _ (came is) = unseen_by c d Free (record r { place = Of c Free }) refl ne ∙ sym (ap (λ (p : Place). share_at d p r) is)
  off_others d ne _ (kept it) = refl

  -- the shelves see that it is gone
  off_pool : (x : Record) → IsOff c k r x → Took k (pool_cell r) (pool_cell x)
  off_pool _ (came is) = came_off r.generation _ (ap (λ (p : Place). pool_at p r) is)
  off_pool _ (kept ne) = stayed_on (λ generation next e. on_shelf r.place ne generation next e)
    where
      on_shelf : (p : Place) → p ≢ Shelved k → (generation : ℕ) (next : Option _) → pool_at p r ≢ on k generation next
      on_shelf (Shelved j) ne2 generation next e = let same : j ≡ k = cc in ne2 (ap (λ (z : ℕ). Shelved z) same)
      on_shelf p ne2 generation next e = let none : ⊥ = cc in none

  -- it counts as it did
  off_drawn : (x : Record) → IsOff c k r x → was_drawn x ≡ was_drawn r
  off_drawn _ (came is) = sym (ap drawn_as is)
  off_drawn _ (kept ne) = refl

  off_lives : (first : ℕ) (x : Record) → IsOff c k r x → lives_before first x ≡ lives_before first r
  off_lives first _ (came is) = refl
  off_lives first _ (kept ne) = refl

  off_retired : (first : ℕ) (x : Record) → IsOff c k r x → times_retired first x ≡ times_retired first r
  off_retired first _ (came is) = let e = ap retired_as is in omega arith
  off_retired first _ (kept ne) = refl

  off_freed : (first : ℕ) (x : Record) → IsOff c k r x → times_freed first x ≡ times_freed first r
  off_freed first _ (came is) = let e = ap freed_as is in omega arith
  off_freed first _ (kept ne) = refl

  -- it is undrawn where it was
  pub off_undrawn : (x : Record) → IsOff c k r x → (x.place ≡ Undrawn → r.place ≡ Undrawn) × (r.place ≡ Undrawn → x.place ≡ Undrawn)
  off_undrawn _ (came is) = ((λ e. let none : ⊥ = cc in absurd none), (λ e. let two : Shelved k ≡ Undrawn = sym is ∙ e in let none : ⊥ = cc in absurd none))
  off_undrawn _ (kept ne) = ((λ e. e), (λ e. e))

  -- to its caller it is one more idle record
  off_idle : (x : Record) → IsOff c k r x → bit (is_idle (share c x)) ≡ bit (is_idle (share c r)) + bit (is_on_cell k (pool_cell r))
  off_idle _ (came is) = let new : bit (is_idle (share c (record r { place = Of c Free }))) ≡ 1 = ap (λ (h : Option Share). bit (is_idle h)) (seen_by c Free (record r { place = Of c Free }) refl) in
      let old : bit (is_idle (share c r)) ≡ 0 = ap (λ (p : Place). bit (is_idle (share_at c p r))) is in
      let shelf : bit (is_on_cell k (pool_cell r)) ≡ 1 = ap (λ (p : Place). bit (is_on_cell k (pool_at p r))) is ∙ ap bit (same k) in omega arith
    where
      same : (j : ℕ) → eqb j j ≡ true
      same j = by (eqb j j) refl
        where
          by : (b : Bool) → eqb j j ≡ b → b ≡ true
          by true e = refl
          by false e = absurd (eqb-false j j e refl)
  off_idle _ (kept ne) = let shelf : bit (is_on_cell k (pool_cell r)) ≡ 0 = by r.place ne in omega arith
    where
      none_of : (j : ℕ) (b : Bool) → eqb j k ≡ b → j ≢ k → bit b ≡ 0
      none_of j true e other = absurd (other (eqb-true j k e))
      none_of j false e other = refl

      by : (p : Place) → p ≢ Shelved k → bit (is_on_cell k (pool_at p r)) ≡ 0
      by (Shelved j) other = none_of j (eqb j k) refl (λ e. other (ap (λ (z : ℕ). Shelved z) e))
      by p other = refl

module _ (setup : Setup) (c k i : ℕ) (r : Record) where
  -- it is as sound
  pub off_sound : c < setup.callers → (x : Record) → IsOff c k r x → IsSound setup i r → IsSound setup i x
  off_sound caller _ (came is) s = record {
    eight = s.eight;
    generations = λ f h. s.generations f h ∙ ap (λ (p : Place). carried p r.generation f) is;
    links = s.links;
    within = s.within;
    roots = λ h. let two : Shelved k ≡ Root = sym is ∙ s.roots h in let none : ⊥ = cc in absurd none;
    no_root = λ e. let none : ⊥ = cc in absurd none;
    root_generation = λ e. let none : ⊥ = cc in absurd none;
    unborn = λ e. let none : ⊥ = cc in absurd none;
    blank = λ e. let none : ⊥ = cc in absurd none;
    born = λ _. s.born (λ e. let two : Shelved k ≡ Undrawn = sym is ∙ e in let none : ⊥ = cc in none);
    unfinished = λ d n e. let none : ⊥ = cc in absurd none;
    callers = λ d t e. let same : c ≡ d = cc in omega arith;
    renewable = λ d e. s.shelved k is;
    shelved = λ j e. let none : ⊥ = cc in absurd none;
  }
  off_sound caller _ (kept ne) s = s

  -- and was so before
  pub on_sound : (x : Record) → IsOff c k r x → IsSound setup i x → IsSound setup i r
  on_sound _ (came is) s = record {
    eight = s.eight;
    generations = λ f h. s.generations f h ∙ sym (ap (λ (p : Place). carried p r.generation f) is);
    links = s.links;
    within = s.within;
    roots = λ h. let none : ⊥ = (let e : Of c Free ≡ Root = s.roots h in cc) in absurd none;
    no_root = λ e. let two : Shelved k ≡ Root = sym is ∙ e in let none : ⊥ = cc in absurd none;
    root_generation = λ e. let two : Shelved k ≡ Root = sym is ∙ e in let none : ⊥ = cc in absurd none;
    unborn = λ e. let two : Shelved k ≡ Undrawn = sym is ∙ e in let none : ⊥ = cc in absurd none;
    blank = λ e. let two : Shelved k ≡ Undrawn = sym is ∙ e in let none : ⊥ = cc in absurd none;
    born = λ _. s.born (λ e. let none : ⊥ = cc in none);
    unfinished = λ d n e. let two : Shelved k ≡ Of d (Handing n) = sym is ∙ e in let none : ⊥ = cc in absurd none;
    callers = λ d t e. let two : Shelved k ≡ Of d t = sym is ∙ e in let none : ⊥ = cc in absurd none;
    renewable = λ d e. let two : Shelved k ≡ Of d Free = sym is ∙ e in let none : ⊥ = cc in absurd none;
    shelved = λ j e. s.renewable c refl;
  }
  on_sound _ (kept ne) s = s

-- the same of all records
module _ (c k : ℕ) where
  abbrev pub off_records : List Record → List Record
  off_records rs = map (off_shelf c k) rs

  off_each : {B : Type 0} (f : Record → B) (rs : List Record) → ((r x : Record) → IsOff c k r x → f x ≡ f r) → map f (off_records rs) ≡ map f rs
  off_each f [] h = refl
  off_each f (r ∷ rs) h = λ z. h r (off_shelf c k r) (is_off c k r) z ∷ off_each f rs h z

  off_sum : (f : Record → ℕ) (rs : List Record) → ((r x : Record) → IsOff c k r x → f x ≡ f r) → sum_by f (off_records rs) ≡ sum_by f rs
  off_sum f [] h = refl
  off_sum f (r ∷ rs) h = let a = sum_by-cons f (off_shelf c k r) (off_records rs) in let b = sum_by-cons f r rs in let e = h r (off_shelf c k r) (is_off c k r) in let t = off_sum f rs h in omega arith

  pub off_rows : (rs : List Record) → map (λ (r : Record). r.row) (off_records rs) ≡ map (λ (r : Record). r.row) rs
  off_rows rs = off_each (λ (r : Record). r.row) rs (λ r x w. off_row c k r x w)

  pub off_shapes : (rs : List Record) → map shape_cell (off_records rs) ≡ map shape_cell rs
  off_shapes rs = off_each shape_cell rs (λ r x w. off_shape c k r x w)

  pub off_schemes : (rs : List Record) → map scheme_cell (off_records rs) ≡ map scheme_cell rs
  off_schemes rs = off_each scheme_cell rs (λ r x w. off_scheme c k r x w)

  pub off_takings : (rs : List Record) → map taken_cell (off_records rs) ≡ map taken_cell rs
  off_takings rs = off_each taken_cell rs (λ r x w. off_taken c k r x w)

  pub off_shares : (d : ℕ) → d ≢ c → (rs : List Record) → map (share d) (off_records rs) ≡ map (share d) rs
  off_shares d ne rs = off_each (share d) rs (λ r x w. off_others c k r d ne x w)

  pub off_cells : (rs : List Record) → TookAll k (map pool_cell rs) (map pool_cell (off_records rs))
  off_cells rs = record {
    many = length-map (off_records rs) pool_cell ∙ length-map rs (off_shelf c k) ∙ sym (length-map rs pool_cell);
    each = λ i new at. let x = map_at pool_cell (off_records rs) i new at in let y = map_at (off_shelf c k) rs i x.0 x.1 in
        (pool_cell y.0, at_map pool_cell rs i y.0 y.1, subst (Took k (pool_cell y.0)) (ap pool_cell y.2 ∙ x.2) (off_pool c k y.0 (off_shelf c k y.0) (is_off c k y.0)));
  }

  -- the counts
  pub sum_drawn : (rs : List Record) → sum_by was_drawn (off_records rs) ≡ sum_by was_drawn rs
  sum_drawn rs = off_sum was_drawn rs (λ r x w. off_drawn c k r x w)

  pub sum_lives : (first : ℕ) (rs : List Record) → sum_by (lives_before first) (off_records rs) ≡ sum_by (lives_before first) rs
  sum_lives first rs = off_sum (lives_before first) rs (λ r x w. off_lives c k r first x w)

  pub sum_retired : (first : ℕ) (rs : List Record) → sum_by (times_retired first) (off_records rs) ≡ sum_by (times_retired first) rs
  sum_retired first rs = off_sum (times_retired first) rs (λ r x w. off_retired c k r first x w)

  pub sum_freed : (first : ℕ) (rs : List Record) → sum_by (times_freed first) (off_records rs) ≡ sum_by (times_freed first) rs
  sum_freed first rs = off_sum (times_freed first) rs (λ r x w. off_freed c k r first x w)

  -- the caller has so many idle records more
  pub count_idle : (rs : List Record) → count_by is_idle (map (share c) (off_records rs)) ≡ count_by is_idle (map (share c) rs) + count_by (is_on_cell k) (map pool_cell rs)
  count_idle [] = refl
  count_idle (r ∷ rs) = let x = off_shelf c k r in let a = count_cons is_idle (share c x) (map (share c) (off_records rs)) in let b = count_cons is_idle (share c r) (map (share c) rs) in
      let d = count_cons (is_on_cell k) (pool_cell r) (map pool_cell rs) in let e = off_idle c k r x (is_off c k r) in let t = count_idle rs in omega arith
