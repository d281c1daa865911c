-- A closed table whose linked records stand in sorted lists.
use Rattle.std.specs.Prelude.{List}
use Rattle.row_words.specs.Refs.{RefParts}
use Rattle.record_rule.specs.Records.{Record}
use Rattle.record_table.specs.declared.closing.Closed.{Closed}
use Rattle.record_table.specs.Closing.{closed_words, closed_setup, history_of}
use Rattle.list_facts.specs.ClosedLists.{ClosedLists}

-- its records are these, and these were taken out
abbrev pub AreListsOf : Closed → List Record → List RefParts → Type 0
AreListsOf c records taken_out = ClosedLists (closed_setup c) (closed_words c) (history_of c) records taken_out

-- its words are those of sorted lists: what a walk over its paths asks for
abbrev pub HasLists : Closed → Type 0
HasLists c = (records : List Record) × (taken_out : List RefParts) × AreListsOf c records taken_out
