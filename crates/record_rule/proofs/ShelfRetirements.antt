-- Records show as many retirements on a shelf as off it.
use Rattle.std.proofs.Common.{◌≡◌, ℕ, zero, suc, List, [], ◌∷◌, sym, refl, ap, arith}
use mathlib.Core.Option.{some-injective, some-ne-none}
use lib.ListN.{get_elem?}
use Rattle.record_memory.specs.declared.books.Place.TheVariants.{Of}
use Rattle.record_memory.specs.declared.books.Standing.TheVariants.{Free}
use Rattle.record_rule.specs.Records.{Record}
use Rattle.record_rule.specs.Counts.{retired_as}
use Rattle.record_rule.specs.Retirements.{retired_at, retired_there}
use Rattle.record_rule.proofs.Retirements.{Grows, ShowsSame, kept_shows}
use Rattle.record_rule.proofs.OffShelf.{IsOff, came, kept, is_off, off_shelf, off_records}

module _ (c k first : ℕ) where
  off_one : (g : ℕ) (r x : Record) → IsOff c k r x → retired_at first g x ≡ retired_at first g r
  off_one g r _ (came is) = kept_shows first r (record r { place = Of c Free }) refl (sym (ap retired_as is)) g
  off_one g r _ (kept ne) = refl

  off_generation : (r x : Record) → IsOff c k r x → x.generation ≡ r.generation
  off_generation r _ (came is) = refl
  off_generation r _ (kept ne) = refl

  off_from : (rs : List Record) (j g : ℕ) → retired_there first g (get_elem? (off_records c k rs) j) ≡ retired_there first g (get_elem? rs j)
  off_from [] j g = refl
  off_from (r ∷ rs) zero g = off_one g r (off_shelf c k r) (is_off c k r)
  off_from (r ∷ rs) (suc j) g = off_from rs j g

  off_grows : (rs : List Record) → Grows rs (off_records c k rs)
  off_grows [] j x e = absurd (some-ne-none x (sym e))
  off_grows (r ∷ rs) zero x e = let a = off_generation r (off_shelf c k r) (is_off c k r) in let b = ap (λ (z : Record). z.generation) (some-injective r x e) in (off_shelf c k r, refl, omega arith)
  off_grows (r ∷ rs) (suc j) x e = off_grows rs j x e

  on_grows : (rs : List Record) → Grows (off_records c k rs) rs
  on_grows [] j x e = absurd (some-ne-none x (sym e))
  on_grows (r ∷ rs) zero x e = let a = off_generation r (off_shelf c k r) (is_off c k r) in let b = ap (λ (z : Record). z.generation) (some-injective (off_shelf c k r) x e) in (r, refl, omega arith)
  on_grows (r ∷ rs) (suc j) x e = on_grows rs j x e

  -- once the records of the shelf are off it
  pub off_shows : (rs : List Record) → ShowsSame first rs (off_records c k rs)
  off_shows rs = record { shows = off_from rs; grows = off_grows rs }

  -- and before
  pub on_shows : (rs : List Record) → ShowsSame first (off_records c k rs) rs
  on_shows rs = record { shows = λ j g. sym (off_from rs j g); grows = on_grows rs }
