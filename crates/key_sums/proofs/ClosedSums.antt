-- What the walk has counted behind the last root is what the table has, and what its history leaves.
use Rattle.std.proofs.Common.{◌≡◌, ℕ, ap, ◌∙◌, subst}
use Rattle.set_model.specs.Keys.{size_of, sum_of}
use Rattle.set_model.specs.Histories.{keys_of}
use Rattle.record_table.specs.declared.closing.Closed.{Closed}
use Rattle.record_table.specs.Closing.{closed_setup, history_of}
use Rattle.closed_lists.specs.Listed.{HasLists}
use Rattle.key_sums.specs.Sums.{closed_rows, AreSums}
use Rattle.key_sums.specs.Walking.{HasCounted}
use Rattle.key_sums.proofs.WalkSteps.{done, one_set}

module _ (c : Closed) (lists : HasLists c) where
  pub sums_are : (root size sum : ℕ) → root ≡ (closed_setup c).roots → HasCounted c root 0 size sum → AreSums c size sum
  sums_are root size sum last counted =
      let d = done lists.2.paths (subst (λ (n : ℕ). HasCounted c n 0 size sum) last counted) in
      record { keys = d.0; are = d.1; size_is = d.2; sum_is = d.3 }

  -- a closed table has the keys that its history leaves, and no others
  keys_left : (size sum : ℕ) (s : AreSums c size sum) → s.keys ≡ keys_of (history_of c)
  keys_left size sum s = one_set (closed_setup c) (closed_rows c) s.keys (keys_of (history_of c)) s.are lists.2.set

  pub size_left : (size sum : ℕ) → AreSums c size sum → size ≡ size_of (keys_of (history_of c))
  size_left size sum s = s.size_is ∙ ap size_of (keys_left size sum s)

  pub sum_left : (size sum : ℕ) → AreSums c size sum → sum ≡ sum_of (keys_of (history_of c))
  sum_left size sum s = s.sum_is ∙ ap sum_of (keys_left size sum s)
