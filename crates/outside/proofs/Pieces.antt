-- A piece that is copied from the middle of some bytes.
use Rattle.std.proofs.Common.{◌≡◌, ℕ, ◌+◌, List, ◌++◌, length, take, drop, sym, ap, ◌∙◌}
use Rattle.std.proofs.lemmas.List.{take-append-drop, drop-drop, take_at}

-- from i on there are the n bytes of the piece, and then those from i + n on
pub drop-by_piece : (bytes piece rest : List ℕ) (i n : ℕ) → length piece ≡ n → piece ≡ take n (drop i bytes) → drop i bytes ≡ take n (piece ++ rest) ++ drop (i + n) bytes
drop-by_piece bytes piece rest i n len is =
    sym (take-append-drop n (drop i bytes))
    ∙ ap (λ xs. xs ++ drop n (drop i bytes)) (sym is ∙ sym (take_at piece rest n len))
    ∙ ap (λ xs. take n (piece ++ rest) ++ xs) (drop-drop n i bytes)
