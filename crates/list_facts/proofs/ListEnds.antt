-- A closed table of sorted lists: its words have the paths, and the keys on these are what the history leaves.
use Rattle.std.proofs.Common.{◌≡◌, ℕ, ◌-◌, ◌<◌, List, ◌++◌, sym, refl, ap, ◌∙◌, subst}
use Rattle.std.proofs.lemmas.List.{append-nil}
use mathlib.Core.Option.{some}
use Rattle.atomic_table.proofs.Lists.{at_map}
use Rattle.set_model.specs.declared.calls.Update.{Update}
use Rattle.set_model.specs.Histories.{keys_of, removals_in}
use Rattle.record_memory.specs.declared.books.Setup.{Setup}
use Rattle.record_memory.specs.declared.books.Book.{Book}
use Rattle.record_rule.specs.Inputs.{ShapeCell, shape_cell, shape_at, linked, root, hidden, out, ShapeInput, Trace}
use Rattle.record_rule.specs.Records.{IsSetup, Record}
use Rattle.record_rule.specs.Facts.{At, link_at, key_at, HasMark, ShapeFacts, CoverFacts}
use Rattle.record_rule.specs.ClosedTables.{ClosedFits}
use Rattle.record_rule.proofs.Lists.{map_at}
use Rattle.record_rule.proofs.Safe.{linked_place}
use Rattle.list_facts.specs.Lists.{IsSpot, IsSorted, ListFits}
use Rattle.list_facts.specs.Tellings.{IsPresent, ListTold}
use Rattle.list_facts.specs.Michael.{michael}
use Rattle.list_facts.specs.Paths.{row_link, row_key, IsSetOf, HasPresent, ArePaths}
use Rattle.list_facts.specs.ClosedLists.{IsListSet, any_flags, table_rows, IsLinked, AreListed, ClosedLists}
use Rattle.list_facts.proofs.Cells.{ordered}
use Rattle.list_facts.proofs.Spots.{Ordered}
use Rattle.list_facts.proofs.PathRows.{Stand, linked_here, link_row, key_row}
use Rattle.list_facts.proofs.RootPaths.{are_paths}

-- what has some flags has any
any_sorted : (flags : ℕ → Type 0) (cell : ShapeCell) → IsSorted flags cell → IsSorted any_flags cell
any_sorted flags hidden h = tt
any_sorted flags (root generation body m) h = (tt, h.1)
any_sorted flags (linked generation body m) h = (tt, h.1)
any_sorted flags (out generation body m n) h = (tt, h.1)

pub any_fits : (flags : ℕ → Type 0) {setup : Setup} {x : ShapeInput} → ListFits flags setup x → ListFits any_flags setup x
any_fits flags f = record { next = f.next; one = f.one; gap = f.gap; later = f.later; sorted = λ i cell at. any_sorted flags cell (f.sorted i cell at) }

module _ {setup : Setup} {words : List ℕ} {records : List Record} (numbers : IsSetup setup) (c : AreListed setup words records) where
  order : Ordered (Stand setup records)
  order = subst (λ (cells : List ShapeCell). Ordered (IsSpot setup cells)) c.cells (ordered c.fits)

  pub listed_paths : ArePaths setup (table_rows setup words) (IsLinked records)
  listed_paths = subst (λ rs. ArePaths setup rs (IsLinked records)) c.rows (are_paths setup records numbers.roots numbers.rooted c.many c.sound order)

  -- what the cells say is present is what the words say
  present_words : (k : ℕ) → IsPresent c.input.cells k → HasPresent setup (table_rows setup words) k
  present_words k (i, generation, m, body, at, clear, same) =
      let x = map_at shape_cell records i (linked generation body m) (subst (λ (cells : List ShapeCell). At cells i (linked generation body m)) c.cells at) in
      let p = linked_place generation m body x.0.place x.0 x.2 in
      let a = linked_here setup records i x.0 x.1 p.0 in
      let b : a.0.body ≡ body = a.4 ∙ p.2 in (
        i,
        listed_paths.linked_is i (x.0, x.1, p.0),
        subst (λ rs. ¬ HasMark (row_link rs i)) c.rows (subst (λ l. ¬ HasMark l) (ap (λ w. link_at w 3) (sym b) ∙ link_row setup records i a.0 a.1) clear),
        subst (λ rs. row_key rs i ≡ k) c.rows (sym (key_row setup records i a.0 a.1) ∙ ap key_at b ∙ same),
      )

  present_cells : (k : ℕ) → HasPresent setup (table_rows setup words) k → IsPresent c.input.cells k
  present_cells k (i, on, clear, same) =
      let (r, at, is) = listed_paths.is_linked i on in
      let a = linked_here setup records i r at is in (
        i,
        r.generation,
        r.marked,
        a.0.body,
        subst (λ (cells : List ShapeCell). At cells i (linked r.generation a.0.body r.marked)) (sym c.cells) (at_map shape_cell records i r at ∙ ap (λ p. some (shape_at p r)) is ∙ ap (λ w. some (linked r.generation w r.marked)) (sym a.4)),
        subst (λ l. ¬ HasMark l) (sym (link_row setup records i a.0 a.1)) (subst (λ rs. ¬ HasMark (row_link rs i)) (sym c.rows) clear),
        key_row setup records i a.0 a.1 ∙ subst (λ rs. row_key rs i ≡ k) (sym c.rows) same,
      )

  -- so the set of the words is what the updates leave
  pub listed_set : (h : Trace) → ListTold c.input h → IsSetOf setup (table_rows setup words) (keys_of h.updates)
  listed_set h told k = ((λ x. present_words k ((told.keys k).0 x)), (λ x. (told.keys k).1 (present_cells k x)))

module _ {s : ShapeFacts} {c : CoverFacts} {setup : Setup} {words : List ℕ} {books : List Book} {history : List Update} (lists : IsListSet s) (f : ClosedFits s c setup words books history) where
  -- a list's table that was closed has its records in lists
  pub closed_listed : AreListed setup words f.records
  closed_listed = record {
    many = f.placed.many;
    rows = f.placed.rows;
    sound = f.placed.sound;
    input = _;
    cells = refl;
    fits = lists.fits setup _ f.formed;
  }

  -- and all its updates are in the history
  none_behind : history ++ f.waiting ≡ history
  none_behind = ap (λ l. history ++ l) (f.whole.unhelped lists.unhelped) ∙ append-nil history

  pub closed_lists : ClosedLists setup words history f.records f.taken_out
  unfolding closed_listed
  closed_lists = let told = lists.told setup _ _ f.told in record {
    numbers = f.numbers;
    listed = closed_listed;
    paths = listed_paths f.numbers closed_listed;
    set = subst (λ updates. IsSetOf setup (table_rows setup words) (keys_of updates)) none_behind (listed_set f.numbers closed_listed _ told);
    marks = λ i m body marked. let x = told.marks i m body marked in (x.0, (x.1.0, subst (λ updates. At updates (m - 1) x.1.0) none_behind x.1.1, x.1.2, x.1.3));
    alone = told.alone;
    balance = sym (ap removals_in none_behind) ∙ told.balance;
  }

-- Michael's list is such a set
pub michael_lists : IsListSet michael
michael_lists = record { fits = λ setup x fits. any_fits (λ n. n < 2) fits; told = λ setup x h told. told; unhelped = λ none. none }
