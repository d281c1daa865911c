-- A new table has no marked record, and one that leaves limbo says no more.
use Rattle.std.proofs.Common.{◌≡◌, ℕ, List, [], None, refl, subst, arith, ⊎_elim}
use Rattle.record_memory.specs.declared.books.Setup.{Setup}
use Rattle.record_rule.specs.Inputs.{ShapeCell, hidden, linked, out, ShapeInput, Trace}
use Rattle.record_rule.specs.Laws.{HiddenCells, opening_shape}
use Rattle.record_rule.proofs.SeenCells.{cell_before}
use Rattle.list_facts.specs.Tellings.{IsMarked, still, gone}
use Rattle.list_facts.proofs.Openings.{opens, opening_fits, opening_told}
use Rattle.list_facts.proofs.Hiding.{hiding_fits, hiding_told, marked_before}
use Rattle.lazy_facts.specs.Absences.{IsRecordWith}
use Rattle.lazy_facts.specs.Lazy.{lazy_flags, LazyFits, LazyTold}
use Rattle.lazy_facts.proofs.Keeping.{KeepsTargets, absences_kept, up_kept}

-- no record of a new table is marked
none_marked : (setup : Setup) (i m start : ℕ) (body : List ℕ) → IsMarked (opening_shape setup).cells i body m start → ⊥
none_marked setup i m start body (still generation at mark) = ⊎_elim (λ is. cc) (λ is. cc) (opens setup i (linked generation body m) at)
none_marked setup i m start body (gone generation n at late) = ⊎_elim (λ is. cc) (λ is. cc) (opens setup i (out generation body m n) at)

-- so it has the facts of the list
pub lazy_opening : (setup : Setup) (h : Trace) → h.updates ≡ [] → LazyFits setup (opening_shape setup) × LazyTold setup (opening_shape setup) h
lazy_opening setup h nothing = (
  record { lists = opening_fits setup lazy_flags (omega arith); up = λ i m body b t marked. absurd (none_marked setup i m 0 body marked) },
  record { list = opening_told setup h nothing; absences = λ c i m st body at marked. absurd (none_marked setup i m st.taken_out body marked) },
)

-- a record that can be seen was there before some were hidden
shown_there : (cell : ShapeCell) (generation : ℕ) (body : List ℕ) → IsRecordWith cell generation body → cell ≡ hidden → ⊥
shown_there cell generation body is e = subst (λ (c : ShapeCell). IsRecordWith c generation body) e is

module _ (x : ShapeInput) (h : Trace) (cells : List ShapeCell) (hid : HiddenCells x.cells cells) where
  -- no key changed
  targets : KeepsTargets x.cells cells
  targets i m body b t marked leads (cell, at, is) = (b, (cell, cell_before x.cells cells hid _ cell at (shown_there cell t.generation b is), is), refl)

  -- hiding keeps the facts of the list
  pub lazy_hiding : (setup : Setup) → LazyFits setup x → LazyTold setup x h → LazyFits setup (record x { cells = cells }) × LazyTold setup (record x { cells = cells }) h
  lazy_hiding setup fits told = (
    record { lists = hiding_fits x.cells cells hid lazy_flags setup x refl fits.lists; up = up_kept setup x.cells cells targets (marked_before x.cells cells hid) fits.up },
    record { list = hiding_told x h cells hid told.list; absences = absences_kept setup x.cells cells targets (marked_before x.cells cells hid) h None told.absences },
  )
