-- Under DEBRA what was taken out behind an active caller's start stays there, since the epoch advances by one at most while the caller is active.
use Rattle.std.specs.Prelude.{◌≡◌, ℕ, ◌+◌, ◌*◌, ◌%◌, ◌<◌, ◌≤◌, ◌⊎◌, ◌∷◌, [], true, false}
use Rattle.record_memory.specs.declared.books.Setup.{Setup}
use Rattle.record_memory.specs.declared.books.Guard.{Guard}
use Rattle.row_words.specs.Refs.{RefParts}
use Rattle.set_model.specs.declared.names.ReclaimerName.TheVariants.{Debra}
use Rattle.record_rule.specs.Inputs.{SchemeInput, limbo}
use Rattle.record_rule.specs.Facts.{At, CoverFacts}
use Rattle.record_rule.specs.Guards.{holding}
use Rattle.record_rule.specs.Laws.{IsThere}
use Rattle.guard_facts.specs.Announcing.{LAST_EPOCH, shows_epoch, word_of, reading, HoldsNothing, GuardsFit, first_guard}
use Rattle.debra_facts.specs.Rounds.{PLACES, debra_loaded, debra_free, DebraMayStore, starts_by, debra_stored, DebraMayExchange}

pub record DebraFits (setup : Setup) (x : SchemeInput) (d : ℕ) (g : Guard) : Type 0 where
  -- the last three readings, the last first
  pub v : ℕ
  pub w : ℕ
  pub u : ℕ
  pub readings : g.readings ≡ v ∷ w ∷ u ∷ []
  pub rise : w < v
  pub rose : (u < w) ⊎ (u ≡ 0)
  pub read : v ≤ x.epoch
  pub limit : x.epoch ≤ LAST_EPOCH
  -- who isn't active announces so, and holds nothing
  pub quiet : g.active ≡ false → (word_of g 0 % 2 ≡ 0) × HoldsNothing g
  -- the announced epoch may be older than the one at the announcing store; the epoch is at most one above that
  pub active : g.active ≡ true → (a : ℕ) × (word_of g 0 ≡ 2 * a + 1) × (a ≤ g.epoch) × (g.epoch ≤ x.epoch) × (x.epoch ≤ g.epoch + 1)
  -- an own limbo record with a stamp below a reading was retired at an epoch of at most that reading
  pub bags : (i generation b n stamp r : ℕ) → At x.cells i (limbo d generation b n stamp r) → (r ≤ x.epoch) × (stamp < v → r ≤ v) × (stamp < w → r ≤ w) × (stamp < u → r ≤ u)
  pub place : g.scan_place ≤ setup.callers
  -- a caller that the scan has passed is active at no older epoch
  pub scanned : (e : ℕ) (k : Guard) → e < g.scan_place → At x.guards e k → k.active ≡ true → v ≤ k.epoch
  -- what was retired behind an active caller's start was retired no earlier than that caller's epoch
  pub late : g.active ≡ true → (c i generation b n stamp r : ℕ) → At x.cells i (limbo c generation b n stamp r) → g.start_taken_out ≤ n → g.epoch ≤ r
  -- what was taken out behind it is still there
  pub stands : g.active ≡ true → (k : ℕ) (t : RefParts) → g.start_taken_out ≤ k → At x.taken_out k t → IsThere x t k

-- A birth is 0, a stamp the last reading; an active caller holds what its load of a link led to; its guard starts with its announcing store
abbrev pub debra : CoverFacts
debra = record {
  name = Debra;
  covered = GuardsFit DebraFits;
  first = first_guard PLACES (1 ∷ 0 ∷ 0 ∷ []);
  places = PLACES;
  begins_loading = false;
  births = λ g b. b ≡ 0;
  stamps = λ g n stamp. stamp ≡ reading g 0;
  may_reach = λ g q. (g.active ≡ true) × (q.place < PLACES);
  reached = λ m g q t. holding g q.place t;
  shows = shows_epoch;
  loaded = debra_loaded;
  may_free = debra_free;
  cleared = λ setup g. g;
  may_store = DebraMayStore;
  stored = debra_stored;
  begins = starts_by;
  may_exchange = DebraMayExchange;
}
