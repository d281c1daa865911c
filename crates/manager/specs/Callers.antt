-- What clauses say of a caller, inside an operation and outside.
use Rattle.std.specs.Prelude.{◌≡◌, ◌≢◌, ℕ, ◌+◌, ◌-◌, [], Bool, false}
use Rattle.record_memory.specs.declared.books.View.{View}
use Rattle.record_memory.specs.declared.books.Standing.TheVariants.{Free, Spare}
use Rattle.row_words.specs.Refs.{RefParts}
use Rattle.row_words.specs.declared.links.Chain.{Chain}
use Rattle.record_rule.specs.HandingOut.{IsOwnOf}
use Rattle.record_table.specs.declared.passes.Pass.{Pass}
use Rattle.record_table.specs.Handles.{view, is_inside}
use Rattle.record_rule.specs.Kinds.{idle}
use Rattle.reclaim_api.specs.Chained.{IsChainOf}
use Rattle.reclaim_api.specs.Guarding.{IsInside}
use Rattle.reclaim_api.specs.Locals.{IsLocalOf}
use Rattle.manager.specs.declared.types.Caller.{Caller}
use Rattle.manager.specs.Counted.{AreCounted}

-- its local part is its own, and its two chains are lists through word 1 of just its free and its spare records
pub record HasChains {S R L : Type 0} (is_local : L → Bool → View → View → Type 0) (p : Pass S R) (l : L) (fs ss : Chain) : Type 0 where
  pub local : IsLocalOf is_local l p
  pub frees : IsChainOf Free (view p) fs
  pub spares : IsChainOf Spare (view p) ss
  -- no record is free or spare beside
  pub all : idle (view p).own ≡ fs.count + ss.count

module _ {S R L : Type 0} (is_local : L → Bool → View → View → Type 0) where
  abbrev pub Chains : Caller S R L → Type 0
  Chains c = HasChains is_local c.pass c.local c.free c.spare

  -- it is lent to a guard that isn't spent
  pub record IsWorking (c : Caller S R L) : Type 0 where
    pub inside : IsInside c.pass
    pub chains : Chains c
    pub counts : AreCounted c.moved (view c.pass).own

  -- it isn't
  pub record IsResting (c : Caller S R L) : Type 0 where
    pub outside : is_inside c.pass ≡ false
    pub chains : Chains c
    pub counts : AreCounted c.moved (view c.pass).own
    -- no word is locked
    pub unlocked : (view c.pass).own.locks ≡ []

-- no call was answered, and of no update it is known that it comes before
pub record AnswersNone (v w : View) : Type 0 where
  pub answered : w.own.answered ≡ v.own.answered
  pub front : w.front ≡ v.front

-- its own records are its own still
abbrev pub KeepsOwn : View → View → Type 0
KeepsOwn v w = (r : RefParts) → IsOwnOf v r → IsOwnOf w r

-- but for the one with this index
abbrev pub KeepsOwnBut : ℕ → View → View → Type 0
KeepsOwnBut i v w = (r : RefParts) → r.index - 1 ≢ i - 1 → IsOwnOf v r → IsOwnOf w r

-- the same words are locked, with the same values
abbrev pub KeepsLocks : View → View → Type 0
KeepsLocks v w = w.own.locks ≡ v.own.locks
