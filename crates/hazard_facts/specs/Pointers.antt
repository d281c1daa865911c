-- Hazard pointers. A caller holds a record at a place where the own word of that place names it. It frees by scans: a scan loads the words of all callers, and what none of them names goes.
use Rattle.std.specs.Prelude.{◌≡◌, ℕ, ◌+◌, ◌-◌, ◌*◌, ◌/◌, ◌%◌, ◌<◌, List, [], ◌∷◌, ◌++◌, length, Bool, true, false, Option, Some, None, if◌then◌else◌, ◌==◌, not}
use Rattle.record_memory.specs.declared.books.Setup.{Setup}
use Rattle.record_memory.specs.declared.books.Guard.{Guard}
use Rattle.record_memory.specs.declared.steps.Word.{Word}
use Rattle.record_memory.specs.declared.steps.Word.TheVariants.{Announced}
use Rattle.row_words.specs.Refs.{RefParts}
use Rattle.row_words.specs.Packing.{packed_ref}
use Rattle.set_model.specs.declared.names.ReclaimerName.TheVariants.{Hazard}
use Rattle.record_rule.specs.Inputs.{limbo, SchemeInput}
use Rattle.record_rule.specs.Facts.{At, Moment, LimboRecord, CoverFacts}
use Rattle.record_rule.specs.Guards.{blank_guard, started_if, holding}
use Rattle.guard_facts.specs.Announcing.{word_of, announcing, GuardsFit}

-- the target, where the own word of the place names it
abbrev pub named_by : Guard → ℕ → Option RefParts → Option RefParts
named_by g p None = None
named_by g p (Some t) = if word_of g p == packed_ref (Some t) then Some t else None

-- the word that a scan loads next once it has loaded so many: it goes over the first three words of each caller, in order
abbrev pub scan_word : ℕ → ℕ
scan_word n = 4 * (n / 3) + n % 3

-- it goes on with a load of that word, and with no other
abbrev pub hazard_loaded : Setup → Moment → ℕ → Guard → Word → ℕ → Guard
hazard_loaded setup m d g (Announced k) n = if k == scan_word (length g.loaded) then record g { loaded = g.loaded ++ n ∷ [] } else g
hazard_loaded setup m d g word n = g

-- one of these words names the record
abbrev pub is_named : RefParts → List ℕ → Bool
is_named t [] = false
is_named t (v ∷ vs) = if v == packed_ref (Some t) then true else is_named t vs

-- the scan has loaded the words of all callers
abbrev pub has_scanned : Setup → Guard → Bool
has_scanned setup g = length g.loaded == 3 * setup.callers

abbrev pub hazard_free : Setup → Guard → LimboRecord → Bool
hazard_free setup g n = if has_scanned setup g then not (is_named n.reference g.loaded) else false

-- a scan ends where it frees
abbrev pub hazard_cleared : Setup → Guard → Guard
hazard_cleared setup g = if has_scanned setup g then record g { loaded = [] } else g

pub record HazardFits (setup : Setup) (x : SchemeInput) (d : ℕ) (g : Guard) : Type 0 where
  -- what is held at a place is named by the word of the place; a word may name what isn't held
  pub names : (p : ℕ) (t : RefParts) → At g.holds p (Some t) → (p < 3) × (word_of g p ≡ packed_ref (Some t))
  -- a word that the scan has loaded names what its caller holds at its place, where that is in this caller's limbo
  pub scan : (j v : ℕ) (k : Guard) (t : RefParts) → At g.loaded j v → At x.guards (j / 3) k → At k.holds (j % 3) (Some t) → (generation b n stamp r : ℕ) → At x.cells (t.index - 1) (limbo d generation b n stamp r) → v ≡ packed_ref (Some t)

-- A birth and a stamp are 0, and nothing is retired while a scan is on. A guard starts with its first load of a link; a store in a place's word ends what was held there; the epoch stays
abbrev pub hazard : CoverFacts
hazard = record {
  name = Hazard;
  covered = GuardsFit HazardFits;
  first = blank_guard 3;
  places = 3;
  begins_loading = true;
  births = λ g b. b ≡ 0;
  stamps = λ g n stamp. (stamp ≡ 0) × (g.loaded ≡ []);
  may_reach = λ g q. q.place < 3;
  reached = λ m g q t. holding (started_if q.first m g q.step) q.place (named_by g q.place t);
  shows = λ setup g word n. Unit {0};
  loaded = hazard_loaded;
  may_free = hazard_free;
  cleared = hazard_cleared;
  may_store = λ setup g k v. k < 3;
  stored = λ m g step k v. holding (announcing g k v) k None;
  begins = λ g k v. false;
  may_exchange = λ setup g old new. ⊥;
}
