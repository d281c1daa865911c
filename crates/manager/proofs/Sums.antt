-- What the moves of all callers add up to.
use Rattle.std.proofs.Common.{◌≡◌, ℕ, ◌+◌, List, [], ◌∷◌, sum_by, refl, arith}
use Rattle.std.proofs.lemmas.List.Sums.{sum_by-cons}
use Rattle.record_memory.specs.declared.books.Book.{Book}
use Rattle.record_memory.specs.declared.books.Place.{Place}
use Rattle.record_memory.specs.declared.books.Place.TheVariants.{Undrawn, Root, Linked, Shelved, Of}
use Rattle.record_memory.specs.declared.books.Standing.{Standing}
use Rattle.record_memory.specs.declared.books.Standing.TheVariants.{Handing, Own, Spare, TakenOut, Limbo, Free, Spent}
use Rattle.record_rule.specs.Records.{Record}
use Rattle.record_rule.specs.Counts.{retired_had, freed_had, retired_as, freed_as, lives_before, times_retired, times_freed, CountsFit}
use Rattle.record_rule.specs.Standings.{is_shelved, is_had, is_limbo, is_free, is_spent}
use Rattle.record_rule.specs.PlaceCounts.{count_in}
use Rattle.record_rule.proofs.CountingPlaces.{bit, in_cons}
use Rattle.record_memory.specs.declared.books.Setup.{Setup}
use Rattle.record_memory.specs.Memory.{Memory}
use Rattle.record_rule.specs.World.{Places}
use Rattle.manager.specs.Made.{MovesAddUp}
use Rattle.manager.proofs.CallerSums.{callers_had}

-- a record that was freed and not handed out anew is free or spent
freed_is : (s : Standing) → freed_had s ≡ bit (is_free s) + bit (is_spent s)
freed_is (Handing n) = refl
freed_is Own = refl
freed_is Spare = refl
freed_is TakenOut = refl
freed_is Limbo = refl
freed_is Free = refl
freed_is Spent = refl

freed_at : (p : Place) → freed_as p ≡ bit (is_shelved p) + bit (is_had is_free p) + bit (is_had is_spent p)
freed_at Undrawn = refl
freed_at Root = refl
freed_at Linked = refl
freed_at (Shelved k) = refl
freed_at (Of c s) = let e = freed_is s in omega arith

-- one that was retired and not handed out anew was freed, or is in limbo
retired_is : (s : Standing) → retired_had s ≡ freed_had s + bit (is_limbo s)
retired_is (Handing n) = refl
retired_is Own = refl
retired_is Spare = refl
retired_is TakenOut = refl
retired_is Limbo = refl
retired_is Free = refl
retired_is Spent = refl

retired_at : (p : Place) → retired_as p ≡ freed_as p + bit (is_had is_limbo p)
retired_at Undrawn = refl
retired_at Root = refl
retired_at Linked = refl
retired_at (Shelved k) = refl
retired_at (Of c s) = let e = retired_is s in omega arith

-- over all records
freed_sum : (first : ℕ) (rs : List Record) → sum_by (times_freed first) rs ≡ sum_by (lives_before first) rs + (count_in is_shelved rs + count_in (is_had is_free) rs) + count_in (is_had is_spent) rs
freed_sum first [] = refl
freed_sum first (r ∷ rs) = let h = freed_sum first rs in let a = sum_by-cons (times_freed first) r rs in let b = sum_by-cons (lives_before first) r rs in
    let c = in_cons is_shelved r rs in let d = in_cons (is_had is_free) r rs in let e = in_cons (is_had is_spent) r rs in let f = freed_at r.place in omega arith

limbo_sum : (first : ℕ) (rs : List Record) → count_in (is_had is_limbo) rs + sum_by (times_freed first) rs ≡ sum_by (times_retired first) rs
limbo_sum first [] = refl
limbo_sum first (r ∷ rs) = let h = limbo_sum first rs in let a = sum_by-cons (times_freed first) r rs in let b = sum_by-cons (times_retired first) r rs in let c = in_cons (is_had is_limbo) r rs in let d = retired_at r.place in omega arith

-- by what the callers have
pub moves_add_up : (setup : Setup) (records : List Record) (books : List Book) (m : Memory) → Places setup records books m → CountsFit setup.first records books → MovesAddUp records books
moves_add_up setup records books m p h = record {
  freed = let a = h.freed in let b = h.reused in let c = freed_sum setup.first records in let d = callers_had is_free setup records books m p in let e = callers_had is_spent setup records books m p in omega arith;
  limbo = let a = h.freed in let b = h.retired in let c = limbo_sum setup.first records in let d = callers_had is_limbo setup records books m p in omega arith;
}
