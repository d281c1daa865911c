-- Which records stay in the bag by the ends of the intervals that a scan loaded, and which leave limbo.
use Rattle.std.specs.Prelude.{ℕ, List, Bool, not}
use Rattle.row_words.specs.Refs.{RefParts}
use Rattle.record_rule.specs.Facts.{LimboRecord}
use Rattle.ibr_facts.specs.Keeping.{is_met}

-- a record stays where one of the intervals meets its life, whichever record it is
abbrev pub meets : List ℕ → RefParts → ℕ → ℕ → Bool
meets ends r birth stamp = is_met ends birth stamp

-- and else it goes
abbrev pub is_unmet : List ℕ → LimboRecord → Bool
is_unmet ends n = not (is_met ends n.birth n.stamp)
