-- Interval-based reclamation (2GEIBR): a caller holds only what its announced interval of epochs meets, and a record leaves limbo once it meets no announced interval.
use Rattle.std.specs.Prelude.{◌≡◌, ◌≢◌, ℕ, ◌+◌, ◌*◌, ◌/◌, ◌%◌, ◌<◌, ◌⊎◌, List, [], ◌∷◌, ◌++◌, length, Bool, true, false, not, Option, Some, None, nat_lt, ◌==◌, if◌then◌else◌}
use Rattle.record_memory.specs.declared.books.Setup.{Setup}
use Rattle.record_memory.specs.declared.books.Guard.{Guard}
use Rattle.record_memory.specs.declared.steps.Word.{Word}
use Rattle.record_memory.specs.declared.steps.Word.TheVariants.{Epoch, Announced}
use Rattle.row_words.specs.Refs.{RefParts}
use Rattle.set_model.specs.declared.names.ReclaimerName.TheVariants.{Ibr}
use Rattle.record_rule.specs.Inputs.{SchemeCell, SchemeInput}
use Rattle.record_rule.specs.Facts.{At, Moment, LimboRecord, CoverFacts}
use Rattle.record_rule.specs.Guards.{holding}
use Rattle.guard_facts.specs.Announcing.{LAST_EPOCH, shows_epoch, word_of, reading, GuardsFit, first_guard, announcing, entered, left}
use Rattle.ibr_facts.specs.Intervals.{IsBornBy, IbrFits}

-- how many places a guard has
abbrev pub PLACES : ℕ
PLACES = 8

-- each guard fits, and no birth is above the epoch
abbrev pub IbrCovered : Setup → SchemeInput → Type 0
IbrCovered setup x = GuardsFit IbrFits setup x × ((i : ℕ) (cell : SchemeCell) → At x.cells i cell → IsBornBy cell x.epoch)

-- What a caller reaches waits, and its place holds nothing
abbrev pub waiting_at : Option RefParts → ℕ → Option (ℕ × RefParts)
waiting_at None p = None
waiting_at (Some t) p = Some (p, t)

abbrev pub ibr_reached : Guard → ℕ → Option RefParts → Guard
ibr_reached g p t = record (holding g p None) { pending = waiting_at t p }

-- A load of the epoch that finds the upper end makes what waits held
abbrev pub ibr_confirmed : Option (ℕ × RefParts) → Guard → ℕ → Guard
ibr_confirmed None g e = g
ibr_confirmed (Some w) g e = if e == word_of g 1 then holding g w.0 (Some w.1) else g

-- it is the caller's last reading then
abbrev pub ibr_read : Option (ℕ × RefParts) → Guard → ℕ → ℕ → Guard
ibr_read w g e taken = record (ibr_confirmed w g e) { readings = e ∷ []; reading_taken_out = taken }

-- A scan loads both ends of each caller in order: the lower end, then the upper
abbrev pub ibr_scanned : Guard → ℕ → ℕ → Guard
ibr_scanned g k n = if k == 4 * (length g.loaded / 2) + length g.loaded % 2 then record g { loaded = g.loaded ++ n ∷ [] } else g

abbrev pub ibr_loaded : Setup → Moment → ℕ → Guard → Word → ℕ → Guard
ibr_loaded setup m d g Epoch n = ibr_read g.pending g n m.taken_out
ibr_loaded setup m d g (Announced k) n = ibr_scanned g k n
ibr_loaded setup m d g word n = g

-- one of the loaded intervals meets the life from b to s
abbrev pub is_met : List ℕ → ℕ → ℕ → Bool
is_met (l ∷ (u ∷ rest)) b s = if l == 0 then is_met rest b s else (if nat_lt s l then is_met rest b s else (if nat_lt u b then is_met rest b s else true))
is_met (l ∷ []) b s = true
is_met [] b s = false

-- the scan has loaded both ends of each caller
abbrev pub is_scanned : Setup → Guard → Bool
is_scanned setup g = length g.loaded == 2 * setup.callers

-- Then the records that no interval meets leave limbo, and the scan is over
abbrev pub ibr_free : Setup → Guard → LimboRecord → Bool
ibr_free setup g n = if is_scanned setup g then not (is_met g.loaded n.birth n.stamp) else false

abbrev pub ibr_cleared : Setup → Guard → Guard
ibr_cleared setup g = if is_scanned setup g then record g { loaded = [] } else g

-- A caller may store its last reading as the upper end, and as the lower end where it has none; a lower end of 0 it may always store
abbrev pub IbrMayStore : Setup → Guard → ℕ → ℕ → Type 0
IbrMayStore setup g k v = ((k ≡ 1) × (v ≡ reading g 0)) ⊎ ((k ≡ 0) × ((v ≡ 0) ⊎ ((v ≡ reading g 0) × (word_of g 0 ≡ 0))))

-- what waits doesn't outlast a store; a guard starts with its lower end, and ends with 0 there
abbrev pub raised : Guard → ℕ → Guard
raised g v = record (announcing g 1 v) { pending = None }

abbrev pub ibr_stored : Moment → Guard → ℕ → ℕ → ℕ → Guard
ibr_stored m g step k v = if k == 1 then raised g v else (if v == 0 then left g 0 v else entered m g step 0 v)

abbrev pub ibr_begins : Guard → ℕ → ℕ → Bool
ibr_begins g k v = if k == 1 then false else (if v == 0 then false else true)

-- A birth is the last reading, and so is a stamp, of a record that was taken out before that reading, while no scan is on
abbrev pub ibr : CoverFacts
ibr = record {
  name = Ibr;
  covered = IbrCovered;
  first = first_guard PLACES (1 ∷ []);
  places = PLACES;
  begins_loading = false;
  births = λ g b. b ≡ reading g 0;
  stamps = λ g n stamp. (stamp ≡ reading g 0) × (n < g.reading_taken_out) × (g.loaded ≡ []);
  may_reach = λ g q. (word_of g 0 ≢ 0) × (q.place < PLACES);
  reached = λ m g q t. ibr_reached g q.place t;
  shows = shows_epoch;
  loaded = ibr_loaded;
  may_free = ibr_free;
  cleared = ibr_cleared;
  may_store = IbrMayStore;
  stored = ibr_stored;
  begins = ibr_begins;
  may_exchange = λ setup g old new. (old ≡ reading g 0) × (old < LAST_EPOCH) × (new ≡ old + 1);
}
