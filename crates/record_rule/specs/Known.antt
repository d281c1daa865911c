-- What each caller keeps of what it found is so.
use Rattle.std.specs.Prelude.{ℕ, List, Some}
use Rattle.set_model.specs.declared.calls.Update.{Update}
use Rattle.record_memory.specs.declared.books.Setup.{Setup}
use Rattle.record_memory.specs.declared.books.Guard.{Guard}
use Rattle.record_memory.specs.declared.books.Note.{Note}
use Rattle.row_words.specs.Refs.{RefParts}
use Rattle.record_rule.specs.Inputs.{ShapeInput, start_of}
use Rattle.record_rule.specs.Facts.{At, of_root, of_held, ShapeFacts}

pub record KnownFits (s : ShapeFacts) (setup : Setup) (x : ShapeInput) (updates : List Update) (g : Guard) (notes : List Note) (roots : List (List ℕ)) : Type 0 where
  pub held : (p : ℕ) (r : RefParts) (note : Note) → At g.holds p (Some r) → At notes p note → s.knows setup x updates (start_of g) (of_held r note.kept)
  pub root : (n : ℕ) (kept : List ℕ) → At roots n kept → s.knows setup x updates (start_of g) (of_root n kept)
