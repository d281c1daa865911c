-- What each part of entering, of leaving, of a birth and of a try to hold leaves of what its pass knows.
use Rattle.std.specs.Prelude.{◌≡◌, ℕ, ◌+◌, ◌<◌, ◌≤◌, [], ◌∷◌, ◌++◌, length, Some}
use Rattle.record_memory.specs.declared.books.View.{View}
use Rattle.record_memory.specs.declared.books.Share.{Share}
use Rattle.record_memory.specs.declared.books.Standing.TheVariants.{TakenOut}
use Rattle.record_rule.specs.Facts.{Moment}
use Rattle.record_rule.specs.Kinds.{share_in}
use Rattle.record_rule.specs.Links.{with_step}
use Rattle.guard_facts.specs.Announcing.{LAST_EPOCH, reading, entered, left}
use Rattle.ibr_facts.specs.Keeping.{ibr_read, raised}
use Rattle.reclaim_api.specs.Frames.{LeavesRecords}
use Rattle.reclaim_api.specs.StepForms.{epoch_load, word_store}

-- what is known after a load of the epoch, when so many records were taken out: what waits is held where the epoch is the upper end
abbrev pub epoch_loaded : View → ℕ → ℕ → View
epoch_loaded v e taken = record v { own = record (with_step v.own v.setup.records (epoch_load v.own e)) { guard = ibr_read v.own.guard.pending v.own.guard e taken } }

pub record HasLoadedEpoch (v : View) (e : ℕ) (w : View) : Type 0 where
  pub taken_out : ℕ
  pub view : w ≡ epoch_loaded v e taken_out
  -- the epoch never falls
  pub rise : reading v.own.guard 0 ≤ e
  pub limit : e ≤ LAST_EPOCH
  -- each record that its caller took out and hasn't retired was taken out before
  pub behind : (i : ℕ) (h : Share) → share_in v i ≡ Some h → h.standing ≡ TakenOut → h.taken_number < taken_out

-- where nothing waits
abbrev pub epoch_read : View → ℕ → ℕ → View
epoch_read v e taken = record v { own = record (with_step v.own v.setup.records (epoch_load v.own e)) { guard = record v.own.guard { readings = e ∷ []; reading_taken_out = taken } } }

pub record HasRead (v : View) (e : ℕ) (w : View) : Type 0 where
  pub taken_out : ℕ
  pub view : w ≡ epoch_read v e taken_out
  pub rise : reading v.own.guard 0 ≤ e
  pub limit : e ≤ LAST_EPOCH
  pub behind : (i : ℕ) (h : Share) → share_in v i ≡ Some h → h.standing ≡ TakenOut → h.taken_number < taken_out

-- after a store of the upper end: nothing waits
abbrev pub upper_stored : View → ℕ → ℕ → View
upper_stored v e found = record v { own = record (with_step v.own v.setup.records (word_store v.own 1 e found)) { guard = raised v.own.guard e } }

-- and after the lower end was cleared: nothing is held
abbrev pub lower_cleared : View → ℕ → View
lower_cleared v found = record v { own = record (with_step v.own v.setup.records (word_store v.own 0 0 found)) { guard = left v.own.guard 0 0 } }

-- the lower end was stored, by which the guard begins
pub record HasBegun (v : View) (e : ℕ) (w : View) : Type 0 where
  pub lower : ℕ
  pub moment : Moment
  pub steps : w.own.steps ≡ v.own.steps ++ word_store v.own 0 e lower ∷ []
  pub guard : w.own.guard ≡ entered moment v.own.guard (length v.own.steps + 1) 0 e
  pub setup : w.setup ≡ v.setup
  pub caller : w.own.caller ≡ v.own.caller
  pub rest : LeavesRecords v w
