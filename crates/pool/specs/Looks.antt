-- The looks at shelves among a caller's steps.
use Rattle.std.specs.Prelude.{◌≡◌, ◌≢◌, ℕ, zero, suc, ◌+◌, ◌<◌, ◌≤◌, List, [], ◌∷◌, ◌++◌, length, map, sum_by, All, ◌==◌, if◌then◌else◌}
use Rattle.record_memory.specs.declared.steps.Word.{Word}
use Rattle.record_memory.specs.declared.steps.Word.TheVariants.{Drawn, Epoch, Lock, Blank, Shelf, Announced, Cursor, Field}
use Rattle.record_memory.specs.declared.steps.StepKind.{StepKind}
use Rattle.record_memory.specs.declared.steps.StepKind.TheVariants.{Load, Store, Swap, Add, Exchange}
use Rattle.record_memory.specs.declared.steps.Step.{Step}

-- a look at a shelf, and the value that it found there: 0 where the shelf is empty
pub record Look : Type 0 where
  pub shelf : ℕ
  pub found : ℕ

abbrev pub look : ℕ → ℕ → Look
look shelf found = record { shelf = shelf; found = found }

abbrev pub seen_on : Word → ℕ → List Look
seen_on Drawn n = []
seen_on Epoch n = []
seen_on Lock n = []
seen_on Blank n = []
seen_on (Shelf k) n = look k n ∷ []
seen_on (Announced k) n = []
seen_on (Cursor c) n = []
seen_on (Field i f) n = []

-- A step on a shelf that finds what stands there is a look, and a store finds nothing. A load that finds a chain says nothing yet: a swap follows, which finds a chain or none
abbrev pub seen_as : StepKind → Word → ℕ → List Look
seen_as Load w n = if n == 0 then seen_on w n else []
seen_as Store w n = []
seen_as Swap w n = seen_on w n
seen_as Add w n = seen_on w n
seen_as Exchange w n = seen_on w n

-- the looks among these steps, in order
abbrev pub looks_in : List Step → List Look
looks_in [] = []
looks_in (t ∷ ts) = seen_as t.kind t.word t.found ++ looks_in ts

-- how often a step swaps, and how often it is a load of a shelf that finds a chain
abbrev pub swaps_by : StepKind → ℕ
swaps_by Load = 0
swaps_by Store = 0
swaps_by Swap = 1
swaps_by Add = 0
swaps_by Exchange = 0

abbrev pub chains_by : StepKind → Word → ℕ → ℕ
chains_by Load w n = if n == 0 then 0 else length (seen_on w n)
chains_by Store w n = 0
chains_by Swap w n = 0
chains_by Add w n = 0
chains_by Exchange w n = 0

-- these steps swap no more often than a load finds a chain
abbrev pub SwapsLoaded : List Step → Type 0
SwapsLoaded steps = sum_by (λ (t : Step). swaps_by t.kind) steps ≤ sum_by (λ (t : Step). chains_by t.kind t.word t.found) steps

-- the shelves from `from` on, `count` of them
abbrev pub shelves_from : ℕ → ℕ → List ℕ
shelves_from from zero = []
shelves_from from (suc count) = from ∷ shelves_from (from + 1) count

abbrev pub shelves_of : List Look → List ℕ
shelves_of looks = map (λ (l : Look). l.shelf) looks

-- each of these shelves was looked at once, in order, and found empty
pub record AreAllEmpty (shelves : ℕ) (looks : List Look) : Type 0 where
  pub all : shelves_of looks ≡ shelves_from 0 shelves
  pub empty : All (λ (l : Look). l.found ≡ 0) looks

-- each of these shelves was looked at once, in order, and found taken
pub record AreAllTaken (shelves : ℕ) (looks : List Look) : Type 0 where
  pub all : shelves_of looks ≡ shelves_from 0 shelves
  pub taken : All (λ (l : Look). l.found ≢ 0) looks

-- the first shelves were looked at once, in order, as far as this many
pub record AreFirst (shelves : ℕ) (looks : List Look) : Type 0 where
  pub count : ℕ
  pub within : count < shelves + 1
  pub first : shelves_of looks ≡ shelves_from 0 count
