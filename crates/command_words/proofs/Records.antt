-- A number of records that no word says.
use Rattle.std.proofs.Common.{◌≢◌, ℕ, ◌≤◌, List, Option, Some, None, codes}
use Rattle.std.specs.Fmt.{decimal}
use Rattle.command_words.specs.Commands.{AreRecords}
use Rattle.command_words.specs.Options.{Gives, HasNamesOnce}
use Rattle.command_words.proofs.Pairs.{only}

pub records-refused : (words : List (List ℕ)) → HasNamesOnce words → (word : List ℕ) → Gives words (codes "--records") word
    → ((n : ℕ) → 1 ≤ n → n ≤ 1048575 → word ≢ decimal n) → (records : Option ℕ) → ¬ (AreRecords words records)
records-refused words once word given none None are = are.0 word given
records-refused words once word given none (Some n) are = none n are.1 are.2 (only words (codes "--records") decimal once word given n are.0)
