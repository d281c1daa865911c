-- What a caller keeps for itself under 2GEIBR, as its pass knows it: its number, how many callers there are, its upper end, two counts, and a bag of all that it retired.
use Rattle.std.specs.Prelude.{◌≡◌, ◌≢◌, ℕ, ◌%◌, ◌<◌, ◌≤◌, [], length, Bool, true, false, None}
use Rattle.record_memory.specs.declared.books.View.{View}
use Rattle.record_memory.specs.declared.books.Standing.TheVariants.{Limbo}
use Rattle.record_rule.specs.Standings.{is_limbo}
use Rattle.guard_facts.specs.Announcing.{LAST_EPOCH, word_of, reading}
use Rattle.reclaim_api.specs.Chained.{IsChainOf}
use Rattle.reclaim_api.specs.Frames.{had}
use Rattle.reclaim_ibr.specs.declared.interval.Interval.{Interval}

-- at one birth in so many the epoch is tried, and at one retirement in so many the intervals are scanned
abbrev pub EACH : ℕ
EACH = 16

-- inside an operation it has an interval, and its guard started later than the operation began
pub record IsAnnounced (since v : View) : Type 0 where
  pub lower : word_of v.own.guard 0 ≢ 0
  pub started : length since.own.steps < v.own.guard.start_step

abbrev pub IsGuarded : Bool → View → View → Type 0
IsGuarded true since v = IsAnnounced since v
IsGuarded false since v = word_of v.own.guard 0 ≡ 0

-- the local part is this caller's
pub record IsLocal (l : Interval) (inside : Bool) (since v : View) : Type 0 where
  pub caller : v.own.caller ≡ l.caller
  pub callers : v.setup.callers ≡ l.callers
  pub counted : l.caller < l.callers
  pub few : l.callers ≤ 64
  -- it has its four announcement words, no scan is on, and nothing waits to be held
  pub words : length v.own.guard.announced ≡ 4
  pub calm : v.own.guard.loaded ≡ []
  pub settled : v.own.guard.pending ≡ None
  -- its upper end is what it stored last, and its last reading is an epoch
  pub upper : word_of v.own.guard 1 ≡ l.upper
  pub first : 1 ≤ reading v.own.guard 0
  pub limit : reading v.own.guard 0 ≤ LAST_EPOCH
  pub births : l.births ≡ v.own.moves.births % EACH
  pub retired : l.retired ≡ v.own.moves.retired % EACH
  -- the bag is a list of the caller's records in limbo, and has them all
  pub bag : IsChainOf Limbo v l.bag
  pub whole : l.bag.count ≡ had is_limbo v.own
  pub guarded : IsGuarded inside since v
