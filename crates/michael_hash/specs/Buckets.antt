-- In which bucket a key is.
use Rattle.std.specs.Prelude.{ℕ, ◌%◌}
use Rattle.record_memory.specs.declared.books.Setup.{Setup}

-- the number of its list among the roots of the table
abbrev pub bucket_of : Setup → ℕ → ℕ
bucket_of setup key = key % setup.roots
