-- What was known of the rows is known of the pass that they had.
use Rattle.std.proofs.Common.{◌≡◌, sym, ◌∙◌, subst}
use Rattle.row_words.specs.declared.links.Chain.{Chain}
use Rattle.limbo_bags.specs.Chains.{IsKept}
use Rattle.record_rule.specs.ChainRows.{row_in}
use Rattle.record_table.specs.declared.table.Table.{Table}
use Rattle.record_table.specs.declared.passes.Pass.{Pass}
use Rattle.record_table.specs.Handles.{view, IsPassOf, IsSamePass}
use Rattle.reclaim_api.specs.Owned.{OwnsBy, IsRowChain, IsRowKept}

-- the pass is one of the table still
pub pass_still : {S R : Type 0} (t : Table S R) (p q : Pass S R) → IsPassOf t p → IsSamePass p q → IsPassOf t q
pass_still t p q is same = record { table = same.table ∙ is.table; setup = same.setup ∙ is.setup; present = same.present ∙ is.present }

module _ {S R : Type 0} (t t' : Table S R) (p q : Pass S R) (table : t' ≡ t) (pass : p ≡ q) where
  pub chain_back : (chain : Chain) → IsRowChain t' q chain → IsRowChain t p chain
  chain_back chain h = subst (λ (x : Table S R × Pass S R). IsRowChain x.0 x.1 chain) (λ k. (table k, sym pass k)) h

  pub kept_back : (old : Pass S R) (chain : Chain) → IsKept (OwnsBy t' q) (row_in (view old)) (row_in (view q)) chain → IsRowKept t old p chain
  kept_back old chain h = subst (λ (x : Table S R × Pass S R). IsKept (OwnsBy x.0 x.1) (row_in (view old)) (row_in (view x.1)) chain) (λ k. (table k, sym pass k)) h
