-- Trails, and one event, one after another.
use Rattle.std.proofs.Common.{List, [], ◌∷◌, ◌++◌, sym, refl, subst}
use Rattle.record_memory.specs.declared.books.Setup.{Setup}
use Rattle.record_memory.specs.declared.books.Book.{Book}
use Rattle.record_pieces.specs.Manners.{Manner}
use Rattle.record_pieces.specs.Events.{Event, Does}
use Rattle.record_pieces.specs.Trails.{Trail}

module _ (m : Manner) (k : Setup) where
  -- one trail after another
  pub joins : (es fs : List Event) (b c d : Book) → Trail m k es b c → Trail m k fs c d → Trail m k (es ++ fs) b d
  joins [] fs b c d t u = subst (λ (x : Book). Trail m k fs x d) (sym t) u
  joins (e ∷ es) fs b c d t u = (t.0, t.1, joins es fs t.0 c d t.2 u)

  -- one event more
  pub adds : (es : List Event) (e : Event) (b c d : Book) → Trail m k es b c → Does m k e c d → Trail m k (es ++ e ∷ []) b d
  adds es e b c d t u = joins es (e ∷ []) b c d t (d, u, refl)
