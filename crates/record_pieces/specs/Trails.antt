-- Events one after another.
use Rattle.std.specs.Prelude.{◌≡◌, List, [], ◌∷◌}
use Rattle.record_memory.specs.declared.books.Setup.{Setup}
use Rattle.record_memory.specs.declared.books.Book.{Book}
use Rattle.record_pieces.specs.Manners.{Manner}
use Rattle.record_pieces.specs.Events.{Event, Does}

module _ (m : Manner) (k : Setup) where
  -- from one book to a later one, with some book between each two
  abbrev pub Trail : List Event → Book → Book → Type 0
  Trail [] b c = b ≡ c
  Trail (e ∷ es) b c = (d : Book) × Does m k e b d × Trail es d c
