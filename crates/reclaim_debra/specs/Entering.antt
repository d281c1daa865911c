-- What each part of entering leaves of what its pass knows.
use Rattle.std.specs.Prelude.{◌≡◌, ℕ, ◌+◌, ◌*◌, ◌<◌, ◌≤◌, ◌⊎◌, List, [], ◌∷◌, ◌++◌, length, true}
use Rattle.record_memory.specs.declared.steps.Step.{Step}
use Rattle.record_memory.specs.declared.books.Setup.{Setup}
use Rattle.record_memory.specs.declared.books.View.{View}
use Rattle.row_words.specs.declared.links.Freed.{Freed}
use Rattle.reclaim_api.specs.StepForms.{epoch_load, epoch_exchange, word_store}
use Rattle.guard_facts.specs.Announcing.{LAST_EPOCH}
use Rattle.debra_facts.specs.Rounds.{debra_at}
use Rattle.reclaim_debra.specs.Running.{ShiftsIfNew, Looks, Tries}

-- the epoch was loaded, and the bags have shifted where it is another one
pub record HasRead (v : View) (e : ℕ) (f : Freed) (w : View) : Type 0 where
  pub made : List Step
  pub steps : w.own.steps ≡ v.own.steps ++ epoch_load v.own e ∷ made
  pub guard : w.own.guard ≡ debra_at v.own.guard e
  pub shifts : ShiftsIfNew v.own e made f w.own
  pub counted : w.own.caller < w.setup.callers

-- the scan came from one place to another
abbrev pub HasComeTo : ℕ → View → View → Type 0
HasComeTo place v w = w.own.guard ≡ record v.own.guard { scan_place = place }

-- one announcement was looked at, where there was one to look at
pub record HasLooked (setup : Setup) (v : View) (e before after : ℕ) (w : View) : Type 0 where
  pub place : HasComeTo after v w
  pub looked : List Step
  pub looks : Looks setup v.own e before looked after
  pub steps : w.own.steps ≡ v.own.steps ++ looked

-- the epoch was tried once, unless it was the last one
abbrev pub IsTry : View → ℕ → List Step → Type 0
IsTry v e tried = ((e < LAST_EPOCH) × ((n : ℕ) × (tried ≡ epoch_exchange v.own e n ∷ []))) ⊎ ((LAST_EPOCH ≤ e) × (tried ≡ []))

pub record HasTried (v : View) (e : ℕ) (w : View) : Type 0 where
  pub guard : w.own.guard ≡ v.own.guard
  pub tried : List Step
  pub try : IsTry v e tried
  pub steps : w.own.steps ≡ v.own.steps ++ tried

-- and the epoch was tried, where the scan reached the end
pub record HasScanned (setup : Setup) (v : View) (e before after : ℕ) (w : View) : Type 0 where
  pub place : HasComeTo after v w
  pub looked : List Step
  pub looks : Looks setup v.own e before looked after
  pub tried : List Step
  pub tries : Tries setup v.own e before after tried
  pub steps : w.own.steps ≡ v.own.steps ++ looked ++ tried

-- the caller is active from its next step on
pub record HasAnnounced (v : View) (e : ℕ) (w : View) : Type 0 where
  pub announced : ℕ
  pub steps : w.own.steps ≡ v.own.steps ++ word_store v.own 0 (2 * e + 1) announced ∷ []
  pub active : w.own.guard.active ≡ true
  pub start : w.own.guard.start_step ≡ length v.own.steps + 1
  pub front : length v.front ≤ w.own.guard.start_updates
  pub place : w.own.guard.scan_place ≡ v.own.guard.scan_place
  pub readings : w.own.guard.readings ≡ v.own.guard.readings
