-- Guards as the reclaimers change them.
use Rattle.std.specs.Prelude.{ℕ, [], map, replicate, Bool, true, false, Option, None, slice_set}
use Rattle.record_memory.specs.declared.books.Guard.{Guard}
use Rattle.row_words.specs.Refs.{RefParts}
use Rattle.record_rule.specs.Facts.{Moment}

-- a guard with so many places that holds nothing and never started
abbrev pub blank_guard : ℕ → Guard
blank_guard places = record { active = false; start_taken_out = 0; start_updates = 0; start_step = 0; announced = replicate 4 0; holds = replicate places None; pending = None; epoch = 0; readings = []; reading_taken_out = 0; scan_place = 0; loaded = [] }

abbrev pub nothing_at : Option RefParts → Option RefParts
nothing_at t = None

-- it starts at this moment, with its caller's step of this number, and holds nothing; nothing waits
abbrev pub started_at : Moment → Guard → ℕ → Guard
started_at m g step = record g { start_taken_out = m.taken_out; start_updates = m.updates; start_step = step; holds = map nothing_at g.holds; pending = None }

abbrev pub started_if : Bool → Moment → Guard → ℕ → Guard
started_if true m g step = started_at m g step
started_if false m g step = g

-- it holds this at the place, and nothing there where that is missing
abbrev pub holding : Guard → ℕ → Option RefParts → Guard
holding g p t = record g { holds = slice_set g.holds p t; pending = None }
