-- The chain words that a caller has through the rows of the table.
use Rattle.row_words.specs.Refs.{RefParts}
use Rattle.row_words.specs.declared.links.Chain.{Chain}
use Rattle.limbo_bags.specs.Chains.{IsChain, IsKept}
use Rattle.record_rule.specs.ChainRows.{row_in, OwnsAway}
use Rattle.record_table.specs.declared.table.Table.{Table}
use Rattle.record_table.specs.declared.passes.Pass.{Pass}
use Rattle.record_table.specs.Handles.{view, IsPassOf}

module _ {S R : Type 0} (t : Table S R) where
  -- it is a record that the caller of this pass retired
  abbrev pub OwnsBy : Pass S R → RefParts → Type 0
  OwnsBy p r = IsPassOf t p × OwnsAway (view p) r

  -- the chain is a list of such records
  abbrev pub IsRowChain : Pass S R → Chain → Type 0
  IsRowChain p chain = IsChain (OwnsBy p) (row_in (view p)) chain

  -- and is the same list afterwards
  abbrev pub IsRowKept : Pass S R → Pass S R → Chain → Type 0
  IsRowKept p q chain = IsKept (OwnsBy q) (row_in (view p)) (row_in (view q)) chain
