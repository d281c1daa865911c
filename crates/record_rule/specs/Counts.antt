-- How many moves of records all callers made, by where the records are: each life of a record is drawn or reused once, retired once and freed once.
use Rattle.std.specs.Prelude.{◌≡◌, ℕ, ◌+◌, ◌-◌, List, sum_by}
use Rattle.record_memory.specs.declared.books.Book.{Book}
use Rattle.record_memory.specs.declared.books.Standing.{Standing}
use Rattle.record_memory.specs.declared.books.Standing.TheVariants.{Handing, Own, Spare, TakenOut, Limbo, Free, Spent}
use Rattle.record_memory.specs.declared.books.Place.{Place}
use Rattle.record_memory.specs.declared.books.Place.TheVariants.{Undrawn, Root, Linked, Shelved, Of}
use Rattle.record_rule.specs.Records.{Record}

-- 1 for a record that was drawn
abbrev pub drawn_as : Place → ℕ
drawn_as Undrawn = 0
drawn_as Root = 0
drawn_as Linked = 1
drawn_as (Shelved k) = 1
drawn_as (Of c s) = 1

-- 1 for a record that was retired since it was handed out last
abbrev pub retired_had : Standing → ℕ
retired_had (Handing n) = 0
retired_had Own = 0
retired_had Spare = 0
retired_had TakenOut = 0
retired_had Limbo = 1
retired_had Free = 1
retired_had Spent = 1

-- where a record is that its caller has in a way that counts: on a shelf it counts, too
abbrev pub left_as : (Standing → ℕ) → Place → ℕ
left_as had Undrawn = 0
left_as had Root = 0
left_as had Linked = 0
left_as had (Shelved k) = 1
left_as had (Of c s) = had s

abbrev pub retired_as : Place → ℕ
retired_as = left_as retired_had

-- and 1 for one that was freed, too
abbrev pub freed_had : Standing → ℕ
freed_had (Handing n) = 0
freed_had Own = 0
freed_had Spare = 0
freed_had TakenOut = 0
freed_had Limbo = 0
freed_had Free = 1
freed_had Spent = 1

abbrev pub freed_as : Place → ℕ
freed_as = left_as freed_had

-- how many lives of a record have ended: its generations before this one
abbrev pub lives_before : ℕ → Record → ℕ
lives_before first r = r.generation - first

abbrev pub was_drawn : Record → ℕ
was_drawn r = drawn_as r.place

abbrev pub times_retired : ℕ → Record → ℕ
times_retired first r = lives_before first r + retired_as r.place

abbrev pub times_freed : ℕ → Record → ℕ
times_freed first r = lives_before first r + freed_as r.place

-- the moves that a caller made, by its book
abbrev pub drawn_by : Book → ℕ
drawn_by b = b.moves.drawn

abbrev pub reused_by : Book → ℕ
reused_by b = b.moves.reused

abbrev pub retired_by : Book → ℕ
retired_by b = b.moves.retired

abbrev pub freed_by : Book → ℕ
freed_by b = b.moves.freed

-- The callers' moves are the records'
pub record CountsFit (first : ℕ) (records : List Record) (books : List Book) : Type 0 where
  pub drawn : sum_by drawn_by books ≡ sum_by was_drawn records
  -- each life of a record but its first begins with a reuse
  pub reused : sum_by reused_by books ≡ sum_by (lives_before first) records
  pub retired : sum_by retired_by books ≡ sum_by (times_retired first) records
  pub freed : sum_by freed_by books ≡ sum_by (times_freed first) records
