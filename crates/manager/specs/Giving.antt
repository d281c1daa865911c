-- What a caller's giving of free records shows, and what it leaves as it was.
use Rattle.std.specs.Prelude.{◌≡◌, ℕ, ◌++◌, List, [], ◌∷◌, length, Option, None, slice_index_or}
use Rattle.record_memory.specs.declared.steps.Step.{Step}
use Rattle.record_memory.specs.declared.books.View.{View}
use Rattle.row_words.specs.Refs.{RefParts}
use Rattle.row_words.specs.declared.links.Chain.{Chain}
use Rattle.record_rule.specs.ChainRows.{row_in}
use Rattle.record_rule.specs.Kinds.{share_in}
use Rattle.record_rule.specs.Makes.{Makes}
use Rattle.reclaim_api.specs.Chained.{refs_in}
use Rattle.reclaim_api.specs.Frames.{in_away, in_rest}
use Rattle.record_pieces.specs.OwnSteps.{own_load}
use Rattle.record_pieces.specs.Giving.{chain_loads}

-- the caller went along the chain to its 32nd record, behind which this one comes, by loads of the chain words alone
pub record GoesAlong (v : View) (chain : Chain) (last : RefParts) (next : Option RefParts) (w : View) : Type 0 where
  pub place : slice_index_or (refs_in v chain) 31 last ≡ last
  pub next_is : next ≡ (row_in v last).next
  pub walked : List (RefParts × ℕ)
  pub many : length walked ≡ 31
  pub found : ℕ
  pub made : Makes v w (chain_loads v.own walked ++ own_load v.own last 1 found ∷ [])
  pub mine : w.own.mine ≡ v.own.mine
  pub moves : w.own.moves ≡ v.own.moves

-- of its records the caller knows the same but of free ones, and it moved none
pub record GivesFree (v w : View) : Type 0 where
  pub steps : List Step
  pub made : Makes v w steps
  pub moves : w.own.moves ≡ v.own.moves
  pub rest : (i : ℕ) → in_rest (share_in w i) ≡ in_rest (share_in v i)
  pub away : (i : ℕ) → in_away (slice_index_or w.own.mine i None) ≡ in_away (slice_index_or v.own.mine i None)
