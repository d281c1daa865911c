-- The number and the sum of the keys of a closed table.
use Rattle.std.specs.Prelude.{◌≡◌, ℕ, List}
use Rattle.set_model.specs.Keys.{Keys, size_of, sum_of}
use Rattle.record_table.specs.declared.closing.Closed.{Closed}
use Rattle.record_table.specs.Closing.{closed_words, closed_setup}
use Rattle.list_facts.specs.Paths.{IsSetOf}
use Rattle.list_facts.specs.ClosedLists.{table_rows}

-- its records, a row each
abbrev pub closed_rows : Closed → List (List ℕ)
closed_rows c = table_rows (closed_setup c) (closed_words c)

-- The keys of all rows that stand on some root's path, and whose links have no mark: so many there are, and this is their sum
pub record AreSums (c : Closed) (size sum : ℕ) : Type 0 where
  pub keys : Keys
  pub are : IsSetOf (closed_setup c) (closed_rows c) keys
  pub size_is : size ≡ size_of keys
  pub sum_is : sum ≡ sum_of keys
