-- What a caller keeps for itself under hazard pointers, as its pass knows it: its number, how many callers there are, and a bag of all that it retired.
use Rattle.std.specs.Prelude.{◌≡◌, ◌<◌, ◌≤◌, [], length, Bool}
use Rattle.record_memory.specs.declared.books.View.{View}
use Rattle.record_memory.specs.declared.books.Standing.TheVariants.{Limbo}
use Rattle.record_rule.specs.Standings.{is_limbo}
use Rattle.reclaim_api.specs.Chained.{IsChainOf}
use Rattle.reclaim_api.specs.Frames.{had}
use Rattle.reclaim_hazard.specs.declared.retired.Retired.{Retired}

-- the local part is this caller's, inside an operation and outside
pub record IsLocal (l : Retired) (inside : Bool) (since v : View) : Type 0 where
  pub caller : v.own.caller ≡ l.caller
  pub callers : v.setup.callers ≡ l.callers
  pub counted : l.caller < l.callers
  pub few : l.callers ≤ 64
  -- it has its four announcement words, and no scan is on
  pub words : length v.own.guard.announced ≡ 4
  pub calm : v.own.guard.loaded ≡ []
  -- the bag is a list of the caller's records in limbo, and has them all
  pub bag : IsChainOf Limbo v l.bag
  pub whole : l.bag.count ≡ had is_limbo v.own
