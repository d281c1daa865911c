-- How hazard pointers scan: the three words of each caller in order, and then what none of them names goes.
use Rattle.std.proofs.Common.{◌≡◌, ℕ, List, [], ◌∷◌, ◌++◌, length, Bool, true, false, cond, eqb, ◌||◌, Some, refl, ap, ◌∙◌}
use Rattle.std.specs.List.{list_any}
use Rattle.std.proofs.lemmas.Bool.{eq-eqb}
use Rattle.record_memory.specs.declared.books.Setup.{Setup}
use Rattle.row_words.specs.Refs.{RefParts}
use Rattle.row_words.specs.Packing.{packed_ref}
use Rattle.hazard_facts.specs.Pointers.{hazard, scan_word, is_named}
use Rattle.reclaim_api.proofs.Scanning.{ScansBy}
use Rattle.reclaim_hazard.specs.Running.{is_unnamed, words_of}

-- one of the words is the record's name
pub any_named : (t : RefParts) (vs : List ℕ) → list_any (λ (v : ℕ). eqb v (packed_ref (Some t))) vs ≡ is_named t vs
any_named t [] = refl
any_named t (v ∷ vs) = either (eqb v (packed_ref (Some t))) (list_any (λ (w : ℕ). eqb w (packed_ref (Some t))) vs) ∙ ap (λ (b : Bool). cond (eqb v (packed_ref (Some t))) true b) (any_named t vs)
  where
    either : (a b : Bool) → (a || b) ≡ cond a true b
    either true b = refl
    either false b = refl

pub hazard_scans : (setup : Setup) → ScansBy hazard scan_word is_unnamed setup (words_of setup)
hazard_scans setup = record {
  loads = λ m d g n. ap (λ (b : Bool). cond b (record g { loaded = g.loaded ++ n ∷ [] }) g) (eq-eqb (scan_word (length g.loaded)) (scan_word (length g.loaded)) refl);
  frees_then = λ g x. refl;
  ends = λ g. refl;
}
