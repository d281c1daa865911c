-- The rule holds of the table as it is made.
use Rattle.std.proofs.Common.{◌≡◌, ℕ, zero, suc, ◌+◌, ◌-◌, ◌*◌, ◌<◌, ◌≤◌, List, [], ◌∷◌, ◌++◌, map, length, take, drop, replicate, length-append, sym, refl, ap, ◌∙◌, subst, arith, ◌⊎◌, ⊎_elim, inl, Option, Some, None, sum_by, get_or}
use Rattle.std.proofs.lemmas.List.{append_assoc, map-append, get_or-replicate, length-replicate, length-map, take_at, drop_at, drop-replicate, take-replicate, replicate-append-replicate}
use native.Mathlib.Nat.{zero-add}
use mathlib.Core.Option.{some, some-injective, some-ne-none}
use lib.ListN.{get_elem?}
use Rattle.atomic_table.specs.Table.{opening}
use Rattle.record_memory.specs.declared.books.Setup.{Setup}
use Rattle.record_memory.specs.declared.books.View.{View}
use Rattle.record_memory.specs.declared.books.Book.{Book}
use Rattle.record_memory.specs.declared.books.Place.TheVariants.{Undrawn, Root}
use Rattle.record_memory.specs.Memory.{Memory, memory, controls, rows_in, stretch}
use Rattle.record_rule.specs.Records.{Record, IsSetup, IsSound}
use Rattle.row_words.specs.Refs.{RefParts}
use Rattle.record_memory.specs.declared.books.Guard.{Guard}
use Rattle.record_memory.specs.declared.books.Note.{Note}
use Rattle.record_memory.specs.declared.books.Answered.{Answered}
use Rattle.record_memory.specs.declared.books.Offer.{Offer}
use Rattle.record_rule.specs.Inputs.{ShapeCell, shape_cell, scheme_cell, TakenCell, untaken, was_taken, taken_cell, guard_of, notes_of, roots_of, locks_of, answered_of, offer_of, Outline, outline, ShapeInput, shape_input, trace}
use Rattle.record_rule.specs.Facts.{At, ShapeFacts, Stands, CoverFacts}
use Rattle.record_rule.specs.Laws.{opening_shape, opening_scheme, ShapeLaws, CoverLaws}
use Rattle.record_rule.specs.Taken.{generation_of}
use Rattle.record_rule.specs.Held.{HeldFits}
use Rattle.record_rule.specs.Known.{KnownFits}
use Rattle.std.proofs.lemmas.List.Sums.{sum_by-cons, sum_by-append}
use Rattle.record_rule.specs.Counts.{retired_as, lives_before, was_drawn, times_retired, times_freed, drawn_by, reused_by, retired_by, freed_by, CountsFit}
use Rattle.record_rule.specs.Retirements.{retirements, retired_at, RetirementsFit}
use Rattle.record_rule.specs.Shelves.{off, on, pool_cell, ShelvesFit}
use Rattle.record_rule.specs.World.{IsRecent, AreUntouched, carries, BookFits, SeatFits, Places, Parts, Rule}
use Rattle.record_rule.specs.Opening.{opening_words, first_book, first_books, first_view, blank_note, root_record, blank_record, opening_records, opening_books}
use Rattle.record_rule.specs.Locks.{LocksFit}
use Rattle.record_memory.specs.declared.books.LockedWord.{LockedWord}
use Rattle.record_rule.proofs.Locks.{none_locked}
use Rattle.record_rule.proofs.Waiting.{none_waits}
use Rattle.record_rule.proofs.Lists.{map_at, map-replicate, at_replicate, replicate_at, at_runs}
use Rattle.record_rule.proofs.Retirements.{none_there}
use Rattle.record_rule.proofs.RetirementMoves.{never_retired}
pub use Rattle.record_rule.proofs.OpeningWords.{wide_is}
use Rattle.record_rule.proofs.OpeningWords.{root_sound, blank_sound, at_books, books_at, length-books, map_books, rest, zero_at, rows_are, left_opening, left_roots, mine_is}

module _ (setup : Setup) (ok : IsSetup setup) (first : Guard) where
  -- what the words say
  abbrev m : Memory
  m = memory setup.callers setup.records (opening_words setup)

  -- a record is a root or blank
  a_record : (i : ℕ) (r : Record) → get_elem? (opening_records setup) i ≡ some r → ((i < setup.roots) × (root_record setup.first ≡ r)) ⊎ ((setup.roots ≤ i) × (blank_record setup.first ≡ r))
  a_record i r e = at_runs setup.roots (setup.records - setup.roots) i (root_record setup.first) (blank_record setup.first) r e

  -- the roots are drawn
  drawn_is : m.drawn ≡ setup.roots
  unfolding memory
  drawn_is = refl

  -- how many words announce
  abbrev many : ℕ
  many = 4 * setup.callers

  -- the words in their parts
  parted : opening_words setup ≡ (setup.roots ∷ 1 ∷ replicate 18 0) ++ (replicate many 0 ++ (replicate setup.callers 0 ++ rest setup))
  parted = ap (λ (l : List ℕ). (setup.roots ∷ 1 ∷ l) ++ rest setup) (sym (replicate-append-replicate 18 (many + setup.callers) 0 ∙ ap (λ (z : ℕ). replicate {A = ℕ} z 0) (let e : 18 + (many + setup.callers) ≡ controls setup.callers - 2 = omega arith in e)))
      ∙ append_assoc (setup.roots ∷ 1 ∷ replicate 18 0) (replicate (many + setup.callers) 0) (rest setup)
      ∙ ap (λ (l : List ℕ). (setup.roots ∷ 1 ∷ replicate 18 0) ++ l) (ap (λ (l : List ℕ). l ++ rest setup) (sym (replicate-append-replicate many setup.callers 0)) ∙ append_assoc (replicate many 0) (replicate setup.callers 0) (rest setup))

  -- nothing is announced
  announced_are : m.announced ≡ replicate many 0
  unfolding memory
  announced_are = ap (stretch 20 many) parted ∙ ap (take many) (drop_at (setup.roots ∷ 1 ∷ replicate 18 0) (replicate many 0 ++ (replicate setup.callers 0 ++ rest setup)) 20 refl)
      ∙ take_at (replicate many 0) (replicate setup.callers 0 ++ rest setup) many (length-replicate many 0)

  -- each cursor is 0
  cursors_are : m.cursors ≡ replicate setup.callers 0
  unfolding memory
  cursors_are = ap (stretch (20 + many) setup.callers) parted ∙ ap (λ (l : List ℕ). take setup.callers (drop (20 + many) l)) (sym (append_assoc (setup.roots ∷ 1 ∷ replicate 18 0) (replicate many 0) (replicate setup.callers 0 ++ rest setup)))
      ∙ ap (take setup.callers) (drop_at ((setup.roots ∷ 1 ∷ replicate 18 0) ++ replicate many 0) (replicate setup.callers 0 ++ rest setup) (20 + many) (length-append (setup.roots ∷ 1 ∷ replicate 18 0) (replicate many 0) ∙ ap (λ (z : ℕ). 20 + z) (length-replicate many 0)))
      ∙ take_at (replicate setup.callers 0) (rest setup) setup.callers (length-replicate setup.callers 0)

  -- and so are the pool's words
  untouched : AreUntouched setup m.lock m.blank m.drawn m.cursors
  unfolding memory
  untouched = record {
    lock_is = zero_at setup 2 (omega arith) (omega arith);
    blank_is = zero_at setup 3 (omega arith) (omega arith);
    cursors_are = λ _. cursors_are;
    drawn_is = λ _. refl;
    cursors_within = λ _ c n at. let e = (at_replicate setup.callers c 0 n (ap (λ (l : List ℕ). get_elem? l c) (sym cursors_are) ∙ at)).1 in omega arith;
  }

  -- no record is on a shelf
  bare : (i k generation : ℕ) (next : Option RefParts) → ¬ At (map pool_cell (opening_records setup)) i (on k generation next)
  bare i k generation next at = let x = map_at pool_cell (opening_records setup) i (on k generation next) at in let none : ⊥ = ⊎_elim
      (λ q. let e : off ≡ on k generation next = ap pool_cell q.1 ∙ x.2 in let no : ⊥ = cc in no) (λ q. let e : off ≡ on k generation next = ap pool_cell q.1 ∙ x.2 in let no : ⊥ = cc in no) (a_record i x.0 x.1) in none

  shelves_are : m.shelves ≡ replicate 16 0
  unfolding memory
  shelves_are = ap (stretch 4 16) parted

  shelves_fit : ShelvesFit (map pool_cell (opening_records setup)) m.shelves
  shelves_fit = record {
    many = ap length shelves_are;
    each = λ k lt. inl (ap (λ (l : List ℕ). get_or l k 0) shelves_are ∙ get_or-replicate 16 k 0 0 lt, λ i generation next. bare i k generation next);
    few = λ i k generation next at. absurd (bare i k generation next at);
  }

  -- the rows are the last words
  m_rows : m.rows ≡ rows_in setup.records (drop (controls setup.callers) (opening_words setup))
  unfolding memory
  m_rows = refl

  -- the records and the books are where they should be
  opening_places : Places setup (opening_records setup) (opening_books setup first) m
  opening_places = record {
    many = length-append (replicate setup.roots (root_record setup.first)) (replicate (setup.records - setup.roots) (blank_record setup.first))
        ∙ (let a = length-replicate setup.roots (root_record setup.first) in let b = length-replicate (setup.records - setup.roots) (blank_record setup.first) in let f = ok.rooted in omega arith);
    rows = sym (m_rows ∙ rows_are setup ok.rooted);
    sound = λ i r e. ⊎_elim (λ q. subst (IsSound setup i) q.1 (root_sound setup ok i q.0)) (λ q. subst (IsSound setup i) q.1 (blank_sound setup ok i q.0)) (a_record i r e);
    left = λ i r e l. ⊎_elim (λ q. let h = left_roots setup setup.allocator i l in absurd (omega (arith, q.0))) (λ q. ap (λ (x : Record). x.place) (sym q.1)) (a_record i r e);
    undrawn = λ i r e u. ⊎_elim (λ q. let none : ⊥ = (let z : Root ≡ Undrawn = ap (λ (x : Record). x.place) q.1 ∙ u in cc) in absurd none) (λ q. left_opening setup setup.allocator i q.0) (a_record i r e);
    drawn = let d = drawn_is in let f = ok.rooted in omega arith;
    untouched = untouched;
    shelves = shelves_fit;
    callers = length-books setup first 0 setup.callers;
    books_fit = λ c b e. let q = at_books setup first 0 setup.callers c b e in let z : first_book setup first c ≡ b = ap (first_book setup first) (sym (zero-add c)) ∙ q.1 in
        subst (BookFits setup m (opening_records setup) c) z record { number = refl; mine = mine_is setup c ok.rooted; past = λ h. let none : ⊥ = cc in absurd none };
  }

  -- the first pass carries all books
  all_books : carries (first_view first setup) ≡ first_books setup first 0 setup.callers
  all_books = ap (first_books setup first 0) (let p = ok.some_caller in let e : suc (setup.callers - 1) ≡ setup.callers = omega arith in e)

  -- a book that it carries is that of the caller with its number
  a_book : (p : ℕ) (b : Book) → get_elem? (carries (first_view first setup)) p ≡ some b → (p < setup.callers) × (first_book setup first p ≡ b)
  a_book p b e = let q = at_books setup first 0 setup.callers p b (ap (λ l. get_elem? l p) (sym all_books) ∙ e) in (q.0, ap (first_book setup first) (sym (zero-add p)) ∙ q.1)

  -- so it fits in the first seat
  opening_seat : IsRecent 0 0 first (map blank_note first.holds) → SeatFits setup (opening_books setup first) (replicate setup.callers 0) [] [] 0 (first_view first setup)
  opening_seat recent = record {
    setup_is = λ _. refl;
    books_are = λ p b e. let q = a_book p b e in
        subst (λ (z : Book). (get_elem? (opening_books setup first) z.caller ≡ some z) × (get_elem? {A = ℕ} (replicate setup.callers 0) z.caller ≡ some 0)) q.1
        (books_at setup first 0 setup.callers p q.0 ∙ ap (λ (z : ℕ). some (first_book setup first z)) (zero-add p), replicate_at setup.callers p 0 q.0);
    apart = λ p q a b ea eb h. let x = a_book p a ea in let y = a_book q b eb in ap (λ (z : Book). z.caller) x.1 ∙ h ∙ sym (ap (λ (z : Book). z.caller) y.1);
    front = ([], refl);
    seen_updates = ([], refl);
    seen_taken_out = ([], refl);
    behind = λ p n b a e h. let x = a_book p b e in absurd (some-ne-none a (sym (ap (λ (z : Book). get_elem? z.answered n) x.1 ∙ h)));
    recent = λ p b e. let x = a_book p b e in subst (λ (z : Book). IsRecent 0 0 z.guard z.notes) x.1 recent;
  }

  -- and there is no other
  one_seat : IsRecent 0 0 first (map blank_note first.holds) → (j : ℕ) (v : View) → get_elem? (first_view first setup ∷ []) j ≡ some v → SeatFits setup (opening_books setup first) (replicate setup.callers 0) [] [] j v
  one_seat recent zero v e = subst (SeatFits setup (opening_books setup first) (replicate setup.callers 0) [] [] 0) (some-injective (first_view first setup) v e) (opening_seat recent)
  one_seat recent (suc j) v e = absurd (some-ne-none v (sym e))

  -- how a set sees the records
  shapes_are : map shape_cell (opening_records setup) ≡ (opening_shape setup).cells
  shapes_are = map-append shape_cell (replicate setup.roots (root_record setup.first)) (replicate (setup.records - setup.roots) (blank_record setup.first))
      ∙ (λ k. map-replicate shape_cell setup.roots (root_record setup.first) k ++ map-replicate shape_cell (setup.records - setup.roots) (blank_record setup.first) k)

  -- and how a reclaimer sees them
  schemes_are : map scheme_cell (opening_records setup) ≡ (opening_scheme setup first).cells
  schemes_are = map-append scheme_cell (replicate setup.roots (root_record setup.first)) (replicate (setup.records - setup.roots) (blank_record setup.first))
      ∙ (λ k. map-replicate scheme_cell setup.roots (root_record setup.first) k ++ map-replicate scheme_cell (setup.records - setup.roots) (blank_record setup.first) k)

  -- no record stands in the list of those taken out
  an_untaken : (i : ℕ) (cell : TakenCell) → At (map taken_cell (opening_records setup)) i cell → cell ≡ untaken setup.first
  an_untaken i cell e = let x = map_at taken_cell (opening_records setup) i cell e in
      ⊎_elim (λ q. sym x.2 ∙ ap taken_cell (sym q.1)) (λ q. sym x.2 ∙ ap taken_cell (sym q.1) ∙ ap untaken (let p = ok.some_first in let z : setup.first - 1 + 1 ≡ setup.first = omega arith in z)) (a_record i x.0 x.1)

  -- the epoch is 1
  epoch_is : m.epoch ≡ 1
  unfolding memory
  epoch_is = refl

  -- what the facts read
  abbrev made : Outline
  made = outline m (opening_records setup) (opening_books setup first) [] []

  -- no lock is held
  locks_are : map locks_of (opening_books setup first) ≡ replicate setup.callers []
  locks_are = map_books setup first locks_of [] (λ c. refl) 0 setup.callers

  -- each guard is the first one
  guards_are : map guard_of (opening_books setup first) ≡ replicate setup.callers first
  guards_are = map_books setup first guard_of first (λ c. refl) 0 setup.callers

  -- at each index
  a_guard : (d : ℕ) (g : Guard) → At (map guard_of (opening_books setup first)) d g → first ≡ g
  a_guard d g e = (at_replicate setup.callers d first g (ap (λ (l : List Guard). get_elem? l d) (sym guards_are) ∙ e)).1

  -- the notes of a guard that holds nothing
  abbrev blank : List Note
  blank = map blank_note first.holds

  -- which are the notes of each caller
  notes_are : map notes_of (opening_books setup first) ≡ replicate setup.callers blank
  notes_are = map_books setup first notes_of blank (λ c. refl) 0 setup.callers

  -- at each index
  some_notes : (d : ℕ) (n : List Note) → At (map notes_of (opening_books setup first)) d n → blank ≡ n
  some_notes d n e = (at_replicate setup.callers d blank n (ap (λ (l : List (List Note)). get_elem? l d) (sym notes_are) ∙ e)).1

  -- no call was answered
  no_calls : (d : ℕ) (l : List Answered) → At (map answered_of (opening_books setup first)) d l → [] ≡ l
  no_calls d l e = (at_replicate setup.callers d [] l (ap (λ (x : List (List Answered)). get_elem? x d) (sym (map_books setup first answered_of [] (λ c. refl) 0 setup.callers)) ∙ e)).1

  -- nothing is kept of roots
  some_roots : (d : ℕ) (n : List (List ℕ)) → At (map roots_of (opening_books setup first)) d n → [] ≡ n
  some_roots d n e = (at_replicate setup.callers d [] n (ap (λ (l : List (List (List ℕ))). get_elem? l d) (sym (map_books setup first roots_of [] (λ c. refl) 0 setup.callers)) ∙ e)).1

  -- and none is offered
  no_offer : (d : ℕ) (o : Option Offer) → At (map offer_of (opening_books setup first)) d o → None ≡ o
  no_offer d o e = (at_replicate setup.callers d None o (ap (λ (x : List (Option Offer)). get_elem? x d) (sym (map_books setup first offer_of None (λ c. refl) 0 setup.callers)) ∙ e)).1

  module _ (shape : ShapeFacts) (cover : CoverFacts) (shaped : ShapeLaws shape) (covering : CoverLaws cover) (is_first : cover.first ≡ first) (for_set : setup.set ≡ shape.name) (for_reclaimer : setup.reclaimer ≡ cover.name) where
    -- nothing is held
    no_hold : (p : ℕ) (t : RefParts) → ¬ At first.holds p (Some t)
    no_hold p t e = covering.nothing p t (ap (λ (z : Guard). get_elem? z.holds p) is_first ∙ e)

    -- the first guard has as many places as the reclaimer says
    holds_many : length first.holds ≡ cover.places
    holds_many = ap (λ (z : Guard). length z.holds) (sym is_first) ∙ covering.many

    -- the first guard starts at 0
    not_started : first.start_taken_out ≡ 0
    not_started = ap (λ (z : Guard). z.start_taken_out) (sym is_first) ∙ covering.unstarted.0

    -- so what is held fits
    first_held : HeldFits shape cover.places made.shapes [] first blank
    first_held = record {
      many = holds_many;
      noted = length-map first.holds blank_note ∙ holds_many;
      start = let e = not_started in omega arith;
      holds = λ p r note e n. absurd (no_hold p r e);
      keyed = λ p r note e n. absurd (no_hold p r e);
      waits = λ p r note e n. none_waits first.pending p r (ap (λ (z : Guard). z.pending) (sym is_first) ∙ covering.calm) e;
    }

    -- and nothing was reached
    not_reached : (l : List (Option RefParts)) (p : ℕ) (note : Note) → At (map blank_note l) p note → note.reached_at ≡ 0
    not_reached l p note e = let x = map_at blank_note l p note e in ap (λ (z : Note). z.reached_at) (sym x.2)

    first_recent : IsRecent 0 0 first blank
    first_recent = record {
      updates_since = let e = ap (λ (z : Guard). z.start_updates) is_first in let k = covering.unstarted.1 in omega arith;
      taken_since = let e = not_started in omega arith;
      reached = λ p note e. let z = not_reached first.holds p note e in omega arith;
      behind = λ p r note e n. absurd (no_hold p r e);
      waits = λ p r note e n. none_waits first.pending p r (ap (λ (z : Guard). z.pending) (sym is_first) ∙ covering.calm) e;
    }

    -- the set's facts hold
    set_starts : Stands shape setup (shape_input made) (trace made)
    set_starts = subst (λ (x : ShapeInput). Stands shape setup x (trace made)) (λ k. record { cells = sym shapes_are k; taken_out = [] }) (shaped.starts setup (trace made) ok.roots ok.rooted refl)

    -- and so do all facts
    opening_parts : Parts shape cover setup made
    opening_parts = record {
      taken = record {
        each = λ n r e. absurd (some-ne-none r (sym e));
        older = λ i g cell e low high. let z = ap generation_of (an_untaken i cell e) in absurd (omega arith);
        own = λ i generation n e. let none : ⊥ = (let z : was_taken generation n ≡ untaken setup.first = an_untaken i (was_taken generation n) e in cc) in absurd none;
        once = λ n k r e f. absurd (some-ne-none r (sym e));
      };
      held = λ d g notes at there. subst (λ (z : Guard × List Note). HeldFits shape cover.places made.shapes [] z.0 z.1) (λ k. (a_guard d g at k, some_notes d notes there k)) first_held;
      known = λ d g notes roots at there kept. subst (λ (z : Guard × (List Note × List (List ℕ))). KnownFits shape setup (shape_input made) [] z.0 z.1.0 z.1.1) (λ k. (a_guard d g at k, (some_notes d notes there k, some_roots d roots kept k)))
          record { held = λ p r note e n. absurd (no_hold p r e); root = λ n l e. absurd (some-ne-none l (sym e)) };
      locks = subst (λ (z : List ShapeCell × List (List LockedWord)). LocksFit shape z.0 z.1) (λ k. (sym shapes_are k, sym locks_are k)) (none_locked shape setup.roots (setup.records - setup.roots) setup.callers setup.first);
      shape = set_starts.0;
      told = set_starts.1;
      scheme = subst (cover.covered setup) (λ k. record {
        epoch = sym epoch_is k;
        cells = sym schemes_are k;
        taken_out = [];
        guards = sym guards_are k;
      }) (subst (λ (z : Guard). cover.covered setup (opening_scheme setup z)) is_first (covering.starts setup ok.roots));
      history = record {
        lawful = λ i u e. absurd (some-ne-none u (sym e));
        explained = λ c book at n a e. absurd (some-ne-none a (sym (ap (λ (l : List Answered). get_elem? l n) (no_calls c book at) ∙ e)));
        ordered = λ c book at n k x y e f lt. absurd (some-ne-none x (sym (ap (λ (l : List Answered). get_elem? l n) (no_calls c book at) ∙ e)));
        answered = λ i u e. absurd (some-ne-none u (sym e));
        once = λ i j u w e f same number. absurd (some-ne-none u (sym e));
        offered = λ c l o e f. let z : None ≡ Some o = no_offer c (Some o) f in let no : ⊥ = cc in absurd no;
      };
      begun = λ d g at. let x = at_replicate setup.callers d first g (ap (λ (l : List Guard). get_elem? l d) (sym guards_are) ∙ at) in let e = ap (λ (z : Guard). z.start_updates) (sym x.1 ∙ sym is_first) in let k = covering.unstarted.1 in omega arith;
      words = λ d g at. let x = at_replicate setup.callers d first g (ap (λ (l : List Guard). get_elem? l d) (sym guards_are) ∙ at) in
          let is : g.announced ≡ replicate 4 0 = ap (λ (z : Guard). z.announced) (sym x.1 ∙ sym is_first) ∙ covering.silent in record {
            same = is ∙ sym (ap (stretch (4 * d) 4) announced_are ∙ ap (take 4) (drop-replicate (4 * d) many 0) ∙ take-replicate 4 (many - 4 * d) 0 (let z = x.0 in omega arith));
            four = ap length is;
          };
    }

    -- no record was moved
    nothing_by : (f : Book → ℕ) → ((c : ℕ) → f (first_book setup first c) ≡ 0) → (c n : ℕ) → sum_by f (first_books setup first c n) ≡ 0
    nothing_by f none c zero = refl
    nothing_by f none c (suc n) = let a = sum_by-cons f (first_book setup first c) (first_books setup first (c + 1) n) in let b = none c in let d = nothing_by f none (c + 1) n in omega arith

    nothing_as : (f : Record → ℕ) → f (root_record setup.first) ≡ 0 → f (blank_record setup.first) ≡ 0 → sum_by f (opening_records setup) ≡ 0
    nothing_as f root blank = let a = sum_by-append f (replicate setup.roots (root_record setup.first)) (replicate (setup.records - setup.roots) (blank_record setup.first)) in
        let b = none_in (root_record setup.first) root setup.roots in let c = none_in (blank_record setup.first) blank (setup.records - setup.roots) in omega arith
      where
        none_in : (r : Record) → f r ≡ 0 → (n : ℕ) → sum_by f (replicate n r) ≡ 0
        none_in r is zero = refl
        none_in r is (suc n) = let a = sum_by-cons f r (replicate n r) in let b = none_in r is n in omega arith

    opening_counts : CountsFit setup.first (opening_records setup) (opening_books setup first)
    opening_counts = record {
      drawn = nothing_by drawn_by (λ c. refl) 0 setup.callers ∙ sym (nothing_as was_drawn refl refl);
      reused = nothing_by reused_by (λ c. refl) 0 setup.callers ∙ sym (nothing_as (lives_before setup.first) (omega arith) (omega arith));
      retired = nothing_by retired_by (λ c. refl) 0 setup.callers ∙ sym (nothing_as (times_retired setup.first) (omega arith) (omega arith));
      freed = nothing_by freed_by (λ c. refl) 0 setup.callers ∙ sym (nothing_as (times_freed setup.first) (omega arith) (omega arith));
    }

    -- nor retired
    opening_retired : (k g : ℕ) (r : Record) → At (opening_records setup) k r → retired_at setup.first g r ≡ 0
    opening_retired k g r e = let unborn : (x : Record) → x.generation ≤ setup.first → retired_as x.place ≡ 0 → x ≡ r → retired_at setup.first g r ≡ 0 = λ x young now is. ap (retired_at setup.first g) (sym is) ∙ never_retired setup.first g x young now in
        ⊎_elim (λ a. unborn (root_record setup.first) (omega arith) refl a.1) (λ b. unborn (blank_record setup.first) (omega arith) refl b.1) (at_runs setup.roots (setup.records - setup.roots) k (root_record setup.first) (blank_record setup.first) r e)

    opening_retirements : RetirementsFit setup.first (opening_records setup) (opening_books setup first)
    opening_retirements = record {
      some_first = ok.some_first;
      stored = λ c b e n t at. let x = at_books setup first 0 setup.callers c b e in let z : At {A = _} [] n t = ap (λ (w : Book). get_elem? w.steps n) x.1 ∙ at in let none : ⊥ = cc in absurd none;
      each = λ k g. nothing_by (retirements (k + 1) g) (λ c. refl) 0 setup.callers ∙ sym (none_there setup.first g (opening_records setup) k (opening_retired k g));
    }

    -- so the rule holds
    opens_with : Rule shape cover setup (opening (opening_words setup) [] (first_view first setup))
    opens_with = record {
      records = opening_records setup;
      books = opening_books setup first;
      seats = replicate setup.callers 0;
      taken_out = [];
      updates = [];
      set_is = for_set;
      reclaimer_is = for_reclaimer;
      wide = wide_is setup ok.rooted;
      places = opening_places;
      parts = opening_parts;
      counts = opening_counts;
      cursors = λ _ c b e. let x = at_books setup first 0 setup.callers c b e in ap (λ (l : List ℕ). get_or l c 0) cursors_are ∙ get_or-replicate setup.callers c 0 0 x.0 ∙ ap (λ (w : Book). w.moves.drawn) x.1;
      retirements = opening_retirements;
      start_made = λ c b e. let x = at_books setup first 0 setup.callers c b e in let z = ap (λ (w : Book). w.guard.start_step) x.1 in let n = ap (λ (g : Guard). g.start_step) is_first in let k = covering.unstarted.2 in omega arith;
      made = λ c b e n t at. let x = at_books setup first 0 setup.callers c b e in let z : At {A = _} [] n t = ap (λ (w : Book). get_elem? w.steps n) x.1 ∙ at in let none : ⊥ = cc in absurd none;
      seen = λ c b e n t at. let x = at_books setup first 0 setup.callers c b e in let z : At {A = _} [] n t = ap (λ (w : Book). get_elem? w.steps n) x.1 ∙ at in let none : ⊥ = cc in absurd none;
      seated = one_seat first_recent;
    }

-- The rule of each set and each reclaimer that keep the laws
pub opens : (setup : Setup) → IsSetup setup → (shape : ShapeFacts) (cover : CoverFacts) → ShapeLaws shape → CoverLaws cover → setup.set ≡ shape.name → setup.reclaimer ≡ cover.name → Rule shape cover setup (opening (opening_words setup) [] (first_view cover.first setup))
opens setup ok shape cover shaped covering for_set for_reclaimer = opens_with setup ok cover.first shape cover shaped covering refl for_set for_reclaimer
