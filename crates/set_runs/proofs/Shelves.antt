-- What the words of a closed table's shelves add up to, shelf by shelf.
use Rattle.std.proofs.Common.{◌≡◌, ℕ, ◌+◌, ◌<◌, length, get_or, take, drop, sum_by, Bool, true, false, cond, eqb, refl, sym, ap, ◌∙◌, arith}
use Rattle.std.proofs.lemmas.List.{length-take, length-drop, take_all}
use Rattle.std.proofs.lemmas.List.Sums.{sum_by_more}
use Rattle.record_memory.specs.declared.steps.Word.TheVariants.{Shelf}
use Rattle.record_memory.specs.Memory.{memory}
use Rattle.record_memory.proofs.Stores.{loads}
use Rattle.record_table.specs.Closing.{closed_setup, closed_words}
use Rattle.record_table.specs.declared.closing.Closed.{Closed}
use Rattle.manager.specs.Counted.{shown}
use Rattle.set_runs.specs.Totals.{shelf_words, chain_in, on_shelves}

module _ (closed : Closed) where
  -- there are sixteen
  shelves_many : length (shelf_words closed) ≡ 16
  unfolding memory
  shelves_many = omega (arith, length-take 16 (drop 4 (closed_words closed)), length-drop 4 (closed_words closed), closed.sized)

  -- one shelf more
  pub shelf_more : (k : ℕ) → k < 16 → sum_by chain_in (take k (shelf_words closed)) + chain_in (get_or (closed_words closed) (4 + k) 0) ≡ sum_by chain_in (take (k + 1) (shelf_words closed))
  shelf_more k lt =
      ap (λ n. sum_by chain_in (take k (shelf_words closed)) + chain_in n) (loads (closed_setup closed).callers (closed_setup closed).records (closed_words closed) (Shelf k) lt)
      ∙ sym (sum_by_more chain_in (shelf_words closed) k 0 (omega (arith, lt, shelves_many)))

  -- all of them
  pub shelves_all : (k : ℕ) → k ≡ 16 → sum_by chain_in (take k (shelf_words closed)) ≡ on_shelves closed
  shelves_all k all = ap (sum_by chain_in) (take_all k (shelf_words closed) (omega (arith, all, shelves_many)))

-- a shelf has so few that a count shows them
pub chain_shown : (word : ℕ) → chain_in word ≡ shown (chain_in word)
chain_shown word = by (eqb word 0)
  where
    by : (b : Bool) → cond b 0 32 ≡ shown (cond b 0 32)
    by true = refl
    by false = refl
