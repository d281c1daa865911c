-- A load of an own row's word tells the same of each number that is the record's index.
use Rattle.std.proofs.Common.{◌≡◌, ◌∙◌, ℕ, ap, subst}
use Rattle.record_memory.specs.declared.books.View.{View}
use Rattle.record_rule.specs.Kinds.{loaded, IsKnown}

pub row_loaded : (v w : View) (i j f n : ℕ) → i ≡ j → IsKnown v i f n → w ≡ loaded v i f n → (found : ℕ) × IsKnown v j f found × (w ≡ loaded v j f found)
row_loaded v w i j f n same known step = (n, subst (λ (k : ℕ). IsKnown v k f n) same known, step ∙ ap (λ (k : ℕ). loaded v k f n) same)
