-- Rows, one after another.
use Rattle.std.proofs.Common.{◌≡◌, ℕ, zero, suc, ◌+◌, List, ◌++◌, sym, ap, ◌∙◌, arith}
use Rattle.std.proofs.lemmas.List.{append_assoc, append-nil}
use Rattle.record_rule.specs.Opening.{rows_of}

rows_suc : (n : ℕ) (row : List ℕ) → rows_of n row ++ row ≡ rows_of (suc n) row
rows_suc zero row = sym (append-nil row)
rows_suc (suc n) row = append_assoc row (rows_of n row) row ∙ ap (λ l. row ++ l) (rows_suc n row)

-- one more row at the end
pub rows_more : (n : ℕ) (row ws : List ℕ) → (ws ++ rows_of n row) ++ row ≡ ws ++ rows_of (n + 1) row
rows_more n row ws = append_assoc ws (rows_of n row) row ∙ ap (λ l. ws ++ l) (rows_suc n row ∙ ap (λ (k : ℕ). rows_of k row) (let e : suc n ≡ n + 1 = omega arith in e))
