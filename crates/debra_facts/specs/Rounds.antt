-- What a caller under DEBRA learns by its loads and says by its stores. Its first announcement word is 2 * e + 1 while it is active, e being the epoch that it read, and even while it is quiet.
use Rattle.std.specs.Prelude.{◌≡◌, ℕ, ◌+◌, ◌*◌, ◌%◌, ◌<◌, ◌⊎◌, ◌∷◌, [], Bool, true, false, if◌then◌else◌, ◌==◌, nat_lt}
use Rattle.record_memory.specs.declared.books.Setup.{Setup}
use Rattle.record_memory.specs.declared.steps.Word.{Word}
use Rattle.record_memory.specs.declared.steps.Word.TheVariants.{Epoch, Announced}
use Rattle.record_memory.specs.declared.books.Guard.{Guard}
use Rattle.record_rule.specs.Facts.{Moment, LimboRecord}
use Rattle.guard_facts.specs.Announcing.{LAST_EPOCH, reading, entered, left}

-- how many places a guard has
abbrev pub PLACES : ℕ
PLACES = 8

-- it read another epoch: that is the last of its three readings now, the oldest is dropped, and a scan begins
abbrev pub reads_anew : Guard → ℕ → Guard
reads_anew g e = record g { readings = e ∷ reading g 0 ∷ reading g 1 ∷ []; scan_place = 0 }

-- where it read the epoch of its last reading again, the scan goes on
abbrev pub debra_at : Guard → ℕ → Guard
debra_at g e = if e == reading g 0 then g else reads_anew g e

-- a caller's word lets the epoch advance: it is even, or announces this reading
abbrev pub is_passed : ℕ → ℕ → Bool
is_passed v n = if n % 2 == 0 then true else (n == 2 * v + 1)

-- the scan passed one caller more
abbrev pub one_passed : Guard → Guard
one_passed g = record g { scan_place = g.scan_place + 1 }

-- it does where the word is that of the caller whose turn it is, and lets the epoch advance
abbrev pub debra_look : Guard → ℕ → ℕ → Guard
debra_look g k n = if k == 4 * g.scan_place then (if is_passed (reading g 0) n then one_passed g else g) else g

abbrev pub debra_loaded : Setup → Moment → ℕ → Guard → Word → ℕ → Guard
debra_loaded setup m d g Epoch n = debra_at g n
debra_loaded setup m d g (Announced k) n = debra_look g k n
debra_loaded setup m d g word n = g

-- what was stamped with a reading older than the last three leaves limbo
abbrev pub debra_free : Setup → Guard → LimboRecord → Bool
debra_free setup g n = nat_lt n.stamp (reading g 2)

-- A caller that isn't active may announce its last reading and start; any may fall quiet
abbrev pub DebraMayStore : Setup → Guard → ℕ → ℕ → Type 0
DebraMayStore setup g k v = (k ≡ 0) × (((v ≡ 2 * reading g 0 + 1) × (g.active ≡ false)) ⊎ (v ≡ 2 * reading g 0))

-- an odd word starts its guard
abbrev pub starts_by : Guard → ℕ → ℕ → Bool
starts_by g k v = v % 2 == 1

-- its guard once it has started by such a store, or fell quiet
abbrev pub stored_as : Bool → Moment → Guard → ℕ → ℕ → ℕ → Guard
stored_as true m g step k v = entered m g step k v
stored_as false m g step k v = left g k v

abbrev pub debra_stored : Moment → Guard → ℕ → ℕ → ℕ → Guard
debra_stored m g step k v = stored_as (starts_by g k v) m g step k v

-- the epoch advances by one where the scan has passed all callers
abbrev pub DebraMayExchange : Setup → Guard → ℕ → ℕ → Type 0
DebraMayExchange setup g old new = (g.scan_place ≡ setup.callers) × (old ≡ reading g 0) × (old < LAST_EPOCH) × (new ≡ old + 1)
