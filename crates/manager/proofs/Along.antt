-- Loads of the chain words of free records, one after another.
use Rattle.std.proofs.Common.{◌≡◌, ℕ, List, [], ◌∷◌, ◌++◌, None, sym, subst}
use Rattle.std.proofs.lemmas.List.{map-append}
use Rattle.record_memory.specs.declared.steps.Step.{Step}
use Rattle.record_memory.specs.declared.steps.Word.TheVariants.{Field}
use Rattle.record_memory.specs.declared.steps.StepKind.TheVariants.{Load}
use Rattle.record_memory.specs.declared.books.View.{View}
use Rattle.row_words.specs.Refs.{RefParts}
use Rattle.record_rule.specs.Kinds.{loaded, field_load}
use Rattle.record_rule.specs.Makes.{Makes}
use Rattle.record_rule.proofs.Makes.{makes_then, idle_mine}
use Rattle.record_pieces.specs.OwnSteps.{own_load}
use Rattle.record_pieces.specs.Giving.{chain_loads}
use Rattle.manager.proofs.FreeSteps.{load_made}

module _ (v u w : View) (walked : List (RefParts × ℕ)) (r : RefParts) (n : ℕ) (made : Makes v u (chain_loads v.own walked)) (mine : u.own.mine ≡ v.own.mine) (is : w ≡ loaded u r.index 1 n) where
  -- one load more
  pub loads_last : Makes v w (chain_loads v.own walked ++ own_load v.own r 1 n ∷ [])
  loads_last = subst (λ (i : ℕ). Makes v w (chain_loads v.own walked ++ record { kind = Load; word = Field r.index 1; held = None; found = n; left = n; idle = i } ∷ [])) (idle_mine v u mine)
      (makes_then v u w (chain_loads v.own walked) (field_load u r.index 1 n ∷ []) made (load_made u w r.index n is))

  -- of the list
  pub loads_more : Makes v w (chain_loads v.own (walked ++ (r, n) ∷ []))
  loads_more = subst (λ (l : List Step). Makes v w l) (sym (map-append (λ (x : RefParts × ℕ). own_load v.own x.0 1 x.1) walked ((r, n) ∷ []))) loads_last
