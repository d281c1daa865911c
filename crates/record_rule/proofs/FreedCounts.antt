-- Records that left limbo count as freed once more.
use Rattle.std.proofs.Common.{◌≡◌, ℕ, ◌+◌, ◌-◌, List, [], ◌∷◌, map, set, sum_by, Bool, true, false, cond, eqb, ◌&&◌, sym, refl, ap, ◌∙◌, arith, Option, Some, None}
use Rattle.std.proofs.lemmas.Bool.{eq-eqb}
use Rattle.std.proofs.lemmas.List.Sums.{sum_by-cons}
use mathlib.Core.Option.{some}
use lib.ListN.{get_elem?}
use Rattle.record_memory.specs.declared.books.Book.{Book}
use Rattle.record_memory.specs.declared.books.Moves.{Moves}
use Rattle.record_memory.specs.declared.books.Share.{Share}
use Rattle.record_memory.specs.declared.books.Place.{Place}
use Rattle.record_memory.specs.declared.books.Place.TheVariants.{Of}
use Rattle.record_memory.specs.declared.books.Standing.{Standing}
use Rattle.record_memory.specs.declared.books.Standing.TheVariants.{Limbo, Free, Spent}
use Rattle.record_rule.specs.Records.{Record, share}
use Rattle.record_rule.specs.Facts.{LimboRecord}
use Rattle.record_rule.specs.Kinds.{freed_more}
use Rattle.record_rule.specs.Freeing.{freed_standing, leaves_limbo, leaves_one, count_freed}
use Rattle.record_rule.specs.Counts.{drawn_as, retired_as, freed_as, lives_before, was_drawn, times_retired, times_freed, drawn_by, reused_by, retired_by, freed_by, CountsFit}
use Rattle.record_rule.proofs.Owned.{share_of, seen_by, has}
use Rattle.record_rule.proofs.Counts.{sum_set}
use Rattle.record_rule.proofs.Freed.{goes_at, freed_record, freed_records, went_at}

module _ (may : LimboRecord → Bool) (d : ℕ) where
  -- a record that goes was in limbo and now is free or spent
  goes_from : (f : Place → ℕ) → f (Of d Free) ≡ f (Of d Spent) → (i : ℕ) (r : Record) (more : ℕ) → f (Of d Free) ≡ f (Of d Limbo) + more → (b : Bool) → goes_at may d i r.place r ≡ b → f (cond b (record r { place = Of d (freed_standing r.generation) }) r).place ≡ f r.place + cond b more 0
  goes_from f alike i r more grows false e = omega arith
  goes_from f alike i r more grows true e = let was = ap f (went_at may d i r.place r e).0 in let now = freed_alike (eqb r.generation 1048575) in omega arith
    where
      freed_alike : (b : Bool) → f (Of d (cond b Spent Free)) ≡ f (Of d Free)
      freed_alike true = sym alike
      freed_alike false = refl

  -- and its caller counts it
  counted_mine : (i : ℕ) (s : Standing) (r : Record) → goes_at may d i (Of d s) r ≡ leaves_limbo may i (share_of s r)
  counted_mine i s r = ap (λ (b : Bool). b && leaves_limbo may i (share_of s r)) (eq-eqb d d refl)

  counted : (i : ℕ) (r : Record) (s : Option Share) → share d r ≡ s → cond (goes_at may d i r.place r) 1 0 ≡ leaves_one may i s
  counted i r (Some h) e = let x = has d r h e in ap (λ (b : Bool). cond {A = ℕ} b 1 0) (ap (λ (p : Place). goes_at may d i p r) x.0 ∙ counted_mine i h.standing r ∙ ap (leaves_limbo may i) (sym x.1))
  counted i r None e = by (goes_at may d i r.place r) refl
    where
      by : (b : Bool) → goes_at may d i r.place r ≡ b → cond {A = ℕ} b 1 0 ≡ 0
      by false g = refl
      by true g = let none : Some (share_of Limbo r) ≡ None = sym (seen_by d Limbo r (went_at may d i r.place r g).0) ∙ e in let no : ⊥ = cc in absurd no

  pub same_era : (i : ℕ) (r : Record) → (freed_record may d i r).generation ≡ r.generation
  same_era i r = by (goes_at may d i r.place r)
    where
      by : (b : Bool) → (cond b (record r { place = Of d (freed_standing r.generation) }) r).generation ≡ r.generation
      by true = refl
      by false = refl

  -- a sum over records that counts nothing more
  sum_same : (f : Record → ℕ) → ((i : ℕ) (r : Record) → f (freed_record may d i r) ≡ f r) → (i : ℕ) (rs : List Record) → sum_by f (freed_records may d i rs) ≡ sum_by f rs
  sum_same f h i [] = refl
  sum_same f h i (r ∷ rs) = let a = sum_by-cons f (freed_record may d i r) (freed_records may d (i + 1) rs) in let b = sum_by-cons f r rs in let c = h i r in let e = sum_same f h (i + 1) rs in omega arith

  -- and one that counts each of them once more
  sum_more : (f : Record → ℕ) → ((i : ℕ) (r : Record) → f (freed_record may d i r) ≡ f r + leaves_one may i (share d r)) → (i : ℕ) (rs : List Record) → sum_by f (freed_records may d i rs) ≡ sum_by f rs + count_freed may i (map (share d) rs)
  sum_more f h i [] = refl
  sum_more f h i (r ∷ rs) = let a = sum_by-cons f (freed_record may d i r) (freed_records may d (i + 1) rs) in let b = sum_by-cons f r rs in let c = h i r in let e = sum_more f h (i + 1) rs in omega arith

  module _ (first : ℕ) where
    drawn_once : (i : ℕ) (r : Record) → was_drawn (freed_record may d i r) ≡ was_drawn r
    drawn_once i r = let a = goes_from drawn_as refl i r 0 refl (goes_at may d i r.place r) refl in let b = zero_or (goes_at may d i r.place r) in omega arith
      where
        zero_or : (b : Bool) → cond {A = ℕ} b 0 0 ≡ 0
        zero_or true = refl
        zero_or false = refl

    lives_same : (i : ℕ) (r : Record) → lives_before first (freed_record may d i r) ≡ lives_before first r
    lives_same i r = ap (λ (z : ℕ). z - first) (same_era i r)

    retired_once : (i : ℕ) (r : Record) → times_retired first (freed_record may d i r) ≡ times_retired first r
    retired_once i r = let a = goes_from retired_as refl i r 0 refl (goes_at may d i r.place r) refl in let b = zero_or (goes_at may d i r.place r) in let c = lives_same i r in omega arith
      where
        zero_or : (b : Bool) → cond {A = ℕ} b 0 0 ≡ 0
        zero_or true = refl
        zero_or false = refl

    freed_once : (i : ℕ) (r : Record) → times_freed first (freed_record may d i r) ≡ times_freed first r + leaves_one may i (share d r)
    freed_once i r = let a = goes_from freed_as refl i r 1 refl (goes_at may d i r.place r) refl in let b = counted i r (share d r) refl in let c = lives_same i r in omega arith

    -- So the callers' moves are the records' still
    pub counts_freed : (records : List Record) (books : List Book) (b own : Book) → get_elem? books d ≡ some b → b.mine ≡ map (share d) records → own.moves ≡ freed_more b.moves (count_freed may 0 b.mine) → CountsFit first records books
        → CountsFit first (freed_records may d 0 records) (set books d own)
    counts_freed records books b own at mine moves h = record {
      drawn = let e = sum_set drawn_by books d b own at in let f = ap (λ (m : Moves). m.drawn) moves in let g = h.drawn in let k = sum_same was_drawn drawn_once 0 records in omega arith;
      reused = let e = sum_set reused_by books d b own at in let f = ap (λ (m : Moves). m.reused) moves in let g = h.reused in let k = sum_same (lives_before first) lives_same 0 records in omega arith;
      retired = let e = sum_set retired_by books d b own at in let f = ap (λ (m : Moves). m.retired) moves in let g = h.retired in let k = sum_same (times_retired first) retired_once 0 records in omega arith;
      freed = let e = sum_set freed_by books d b own at in let f = ap (λ (m : Moves). m.freed) moves in let g = h.freed in let k = sum_more (times_freed first) freed_once 0 records in let l = ap (count_freed may 0) mine in omega arith;
    }
