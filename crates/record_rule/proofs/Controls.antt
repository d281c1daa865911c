-- Loads of control words by which a reclaimer learns something, and after which records may have left limbo.
use Rattle.std.proofs.Common.{◌≡◌, ◌≢◌, ℕ, ◌+◌, ◌-◌, ◌*◌, ◌/◌, ◌%◌, ◌<◌, ◌≤◌, List, [], ◌∷◌, ◌++◌, length, length-set, map, drop, get_or, set, cond, eqb, Bool, true, false, Option, Some, sym, refl, ap, ◌∙◌, subst, arith, ⊎_elim, get_or-take, get_or-drop}
use Rattle.std.proofs.lemmas.Bool.{eqb-false}
use Rattle.std.proofs.lemmas.List.{map-set, set-get_or, set-set, length-map}
use mathlib.Core.Option.{some}
use lib.ListN.{get_elem?}
use Rattle.atomic_table.specs.Table.{State}
use Rattle.atomic_table.proofs.Lists.{at_map, at_set, set_here, set_else}
use Rattle.record_memory.specs.declared.steps.Word.{Word}
use Rattle.record_memory.specs.declared.steps.Word.TheVariants.{Drawn, Epoch, Lock, Blank, Shelf, Announced, Cursor, Field}
use Rattle.record_memory.specs.declared.steps.Step.{Step}
use Rattle.record_memory.specs.declared.books.Setup.{Setup}
use Rattle.record_memory.specs.declared.books.View.{View}
use Rattle.record_memory.specs.declared.books.Book.{Book}
use Rattle.record_memory.specs.declared.books.Guard.{Guard}
use Rattle.record_memory.specs.declared.books.Note.{Note}
use Rattle.record_memory.specs.declared.books.Share.{Share}
use Rattle.record_memory.specs.declared.books.Standing.{Standing}
use Rattle.record_memory.specs.declared.books.Standing.TheVariants.{Handing, TakenOut, Limbo, Free, Spent}
use Rattle.record_memory.specs.declared.books.Place.{Place}
use Rattle.record_memory.specs.declared.books.Place.TheVariants.{Undrawn, Root, Of}
use Rattle.record_memory.specs.Memory.{Memory, memory, size, stretch, word_at, IsWord, fetch}
use Rattle.record_memory.proofs.Stores.{loads, is_word, address-word_at}
use Rattle.row_words.specs.Refs.{RefParts, refer}
use Rattle.record_rule.specs.Records.{Record, IsSound, carried_by, carried}
use Rattle.record_rule.specs.Inputs.{ShapeCell, linked, out, shape_cell, limbo, scheme_cell, was_taken, taken_at, taken_cell, guard_of, notes_of, roots_of, locks_of, answered_of, offer_of, Outline, outline, shape_input, Start, start_of, trace, SchemeInput, scheme_input}
use Rattle.record_rule.specs.Facts.{At, LimboRecord, Moment, ShapeFacts, CoverFacts, of_root, of_held}
use Rattle.record_rule.specs.Held.{HoldFits, while_linked, while_out, WaitFits, HeldFits}
use Rattle.record_rule.proofs.Locks.{locks_hidden}
use Rattle.record_rule.proofs.Waiting.{waits_hidden, waits_confirmed}
use Rattle.record_rule.specs.Laws.{limbo_record, ShapeLaws, CoverLaws, IsSafe, IsThere, ValueIs, moment, with_guard, FreedCells, HiddenCells, IsHidden, HasLoaded, HasCleared, KeepsHidden}
use Rattle.record_rule.specs.Known.{KnownFits}
use Rattle.record_rule.specs.Shelves.{PoolCell, pool_at, pool_cell, ShelvesFit}
use Rattle.record_rule.specs.World.{IsRecent, Places, Parts, Rule, overshoot}
use Rattle.record_rule.specs.Kinds.{control_load, ShowsBelow, Lawful}
use Rattle.record_rule.specs.OwnDraws.{ShowsDrawn}
use Rattle.record_rule.specs.Links.{with_step}
use Rattle.record_rule.specs.Freeing.{freed_from, LoadedControl, LoadedBy}
use Rattle.record_rule.proofs.Lists.{below_at, at_below, one_at, get_at, map_set_same}
use Rattle.record_rule.proofs.Quiet.{same_overshoot, past_before, books_after, calm_after}
use Rattle.record_rule.proofs.Rebuilt.{starts_itself, one_more, made_more, leaves_drawn, stepped}
use Rattle.record_rule.proofs.Retirements.{retires_none}
use Rattle.record_rule.proofs.RetirementMoves.{freed_shows}
use Rattle.record_rule.proofs.Loads.{load_within, control_fits, shows_drawn, loads_control}
use Rattle.record_rule.specs.Kinds.{share_in, freed_more}
use Rattle.record_rule.specs.Freeing.{count_freed}
use Rattle.record_rule.proofs.FreedCounts.{counts_freed}
use Rattle.record_rule.proofs.Steps.{before, given, book, are_whole, own_behind}
use Rattle.record_rule.proofs.Safe.{safe}
use Rattle.record_rule.proofs.Owners.{record_of}
use Rattle.record_rule.proofs.Freed.{WasFreed, went, stayed, freed_records, each_freed, many_freed, same_freed, other_shares, own_shares, same_rows, same_takings, hidden_cells, freed_cells, cell_stays}

-- a record that left limbo is as sound
freed_sound : (setup : Setup) (may : LimboRecord → Bool) (d i : ℕ) (r x : Record) → WasFreed may d i r x → IsSound setup i r → IsSound setup i x
freed_sound setup may d i r _ (went is free) s = by (eqb r.generation 1048575) refl
  where
    -- at a standing under which all eight words carry the record's generation
    at : (z : Standing) → ((f : ℕ) → carried_by z r.generation f ≡ r.generation) → ((n : ℕ) → z ≢ Handing n) → (z ≡ Free → r.generation < 1048575) → IsSound setup i (record r { place = Of d z })
    at z carry handed again = record {
      eight = s.eight;
      links = s.links;
      within = s.within;
      root_generation = λ q. absurd (let none : ⊥ = cc in none);
      generations = λ f h. s.generations f h ∙ ap (λ (p : Place). carried p r.generation f) is ∙ sym (carry f);
      roots = λ h. let none : Root ≡ Of d Limbo = sym (s.roots h) ∙ is in let no_such : ⊥ = cc in absurd no_such;
      no_root = λ q. let none : ⊥ = cc in absurd none;
      unborn = λ q. let none : ⊥ = cc in absurd none;
      blank = λ q. let none : ⊥ = cc in absurd none;
      born = λ _. s.born (λ q. let none : Undrawn ≡ Of d Limbo = sym q ∙ is in let no_such : ⊥ = cc in no_such);
      unfinished = λ c n q. let same : z ≡ Handing n = cc in absurd (handed n same);
      callers = λ c t q. let same : d ≡ c = cc in subst (λ (w : ℕ). w < setup.callers) same (s.callers d Limbo is);
      renewable = λ c q. let same : z ≡ Free = cc in again same;
      shelved = λ k q. let none : ⊥ = cc in absurd none;
    }

    by : (b : Bool) → eqb r.generation 1048575 ≡ b → IsSound setup i (record r { place = Of d (cond b Spent Free) })
    by true e = at Spent (λ f. refl) (λ n q. let none : ⊥ = cc in none) (λ q. let none : ⊥ = cc in absurd none)
    by false e = at Free (λ f. refl) (λ n q. let none : ⊥ = cc in none) (λ q. let below = s.within in let other : r.generation ≢ 1048575 = eqb-false r.generation 1048575 e in omega arith)
freed_sound setup may d i r _ (stayed k) s = s

undrawn_same : (may : LimboRecord → Bool) (d i : ℕ) (r x : Record) → WasFreed may d i r x → (r.place ≡ Undrawn → x.place ≡ Undrawn) × (x.place ≡ Undrawn → r.place ≡ Undrawn)
undrawn_same may d i r _ (went is free) = ((λ q. let none : Undrawn ≡ Of d Limbo = sym q ∙ is in let no_such : ⊥ = cc in absurd no_such), (λ q. let none : ⊥ = cc in absurd none))
undrawn_same may d i r _ (stayed k) = ((λ q. q), (λ q. q))

-- no shelf sees it
freed_pool : (may : LimboRecord → Bool) (d i : ℕ) (r x : Record) → WasFreed may d i r x → pool_cell x ≡ pool_cell r
freed_pool may d i r _ (went is free) = sym (ap (λ (p : Place). pool_at p r) is)
freed_pool may d i r _ (stayed k) = refl

-- where the records are
freed_places : (setup : Setup) (records : List Record) (books : List Book) (m : Memory) (may : LimboRecord → Bool) (c : ℕ) (b own : Book) → Places setup records books m → At books c b → own.caller ≡ b.caller → own.mine ≡ freed_from may 0 b.mine → overshoot own ≡ overshoot b
    → Places setup (freed_records may c 0 records) (set books c own) m
freed_places setup records books m may c b own p at caller mine weight = let f = p.books_fit c b at in record {
  many = many_freed may c 0 records ∙ p.many;
  rows = same_rows may c records ∙ p.rows;
  sound = λ i x e. let y = each_freed may c 0 records i x e in subst (λ (z : ℕ). IsSound setup z x) (let q : 0 + i ≡ i = omega arith in q) (freed_sound setup may c (0 + i) y.0 x y.2 (subst (λ (z : ℕ). IsSound setup z y.0) (let q : i ≡ 0 + i = omega arith in q) (p.sound i y.0 y.1)));
  left = λ i x e l. let y = each_freed may c 0 records i x e in (undrawn_same may c (0 + i) y.0 x y.2).0 (p.left i y.0 y.1 l);
  undrawn = λ i x e q. let y = each_freed may c 0 records i x e in p.undrawn i y.0 y.1 ((undrawn_same may c (0 + i) y.0 x y.2).1 q);
  drawn = subst (λ (z : ℕ). m.drawn ≤ setup.records + z) (sym (same_overshoot books c b own at weight)) p.drawn;
  untouched = p.untouched;
  shelves = subst (λ (l : List PoolCell). ShelvesFit l m.shelves) (sym (same_freed may c pool_cell records (λ j r x at w. freed_pool may c j r x w))) p.shelves;
  callers = length-set books c own ∙ p.callers;
  books_fit = books_after setup m m records (freed_records may c 0 records) books c own (λ h. h) (λ d ne. other_shares may c d records ne)
      record { number = caller ∙ f.number; mine = mine ∙ ap (freed_from may 0) f.mine ∙ sym (own_shares may c 0 records); past = λ h. f.past (past_before b.drawing own.drawing weight h) } p.books_fit;
}

-- a held record that isn't freed fits its note still
module _ (s : ShapeFacts) (cells cells' : List ShapeCell) (h : HiddenCells cells cells') where
  still_there : (i : ℕ) (old : ShapeCell) → At cells i old → ((new : ShapeCell) → At cells' i new → IsHidden old new → new ≡ old) → At cells' i old
  still_there i old at keep = let y = at_below cells' i (let l = below_at cells i old at in let m = h.many in omega arith) in let x = h.each i y.0 y.1 in
      y.1 ∙ ap some (keep y.0 y.1 (subst (λ (z : ShapeCell). IsHidden z y.0) (one_at cells i x.0 old x.1 at) x.2))

module _ (shape : ShapeFacts) (cover : CoverFacts) (shaped : ShapeLaws shape) (covering : CoverLaws cover) (setup : Setup) (s : State (Unit {0}) View) (u : Rule shape cover setup s) (id : ℕ) (v : View) (at : get_elem? s.views id ≡ some v) (present : v.present ≡ true)
    (same : v.setup ≡ setup) (word : ℕ)
    (value : ValueIs (scheme_input (before shape cover setup s u)) (word_at v.setup.callers word) (get_or s.words word 0)) where
  abbrev m : Memory
  m = memory setup.callers setup.records s.words

  abbrev was : Outline
  was = before shape cover setup s u

  abbrev x : SchemeInput
  x = scheme_input was

  abbrev c : ℕ
  c = v.own.caller

  abbrev n : ℕ
  n = get_or s.words word 0

  abbrev time : Moment
  time = moment x (length u.updates)

  -- the guard at the test, and afterwards
  abbrev g1 : Guard
  g1 = cover.loaded v.setup time c v.own.guard (word_at v.setup.callers word) n

  abbrev g2 : Guard
  g2 = cover.cleared v.setup g1

  abbrev may : LimboRecord → Bool
  may = cover.may_free v.setup g1

  abbrev t : Step
  t = control_load v word n

  abbrev own : Book
  own = record (with_step v.own v.setup.records t) { mine = freed_from may 0 v.own.mine; moves = freed_more v.own.moves (count_freed may 0 v.own.mine); guard = g2 }

  abbrev records' : List Record
  records' = freed_records may c 0 u.records

  mine : At u.books c v.own
  mine = book shape cover setup s u id v at present

  my_guard : At x.guards c v.own.guard
  my_guard = at_map guard_of u.books c v.own mine

  is_safe : IsSafe setup x
  is_safe = safe shape cover setup u.records u.books u.taken_out u.updates m u.places u.parts

  loads1 : cover.covered setup (with_guard x c g1)
  loads1 = subst (λ (k : Setup). cover.covered setup (with_guard x c (cover.loaded k time c v.own.guard (word_at v.setup.callers word) n))) (sym same) (covering.loads setup x c (length u.updates) n v.own.guard (word_at v.setup.callers word) is_safe u.parts.scheme my_guard value)

  has1 : HasLoaded x v.own.guard g1
  has1 = subst (λ (k : Setup). HasLoaded x v.own.guard (cover.loaded k time c v.own.guard (word_at v.setup.callers word) n)) (sym same) (covering.loaded setup x c (length u.updates) n v.own.guard (word_at v.setup.callers word) is_safe u.parts.scheme my_guard value)

  -- what the laws may use once the guard is the one at the test
  safe1 : IsSafe setup (with_guard x c g1)
  safe1 = record {
    callers = length-set x.guards c g1 ∙ is_safe.callers;
    words = λ d g there. ⊎_elim (λ p. ap length (ap (λ (z : Guard). z.announced) (sym p.1) ∙ has1.words) ∙ is_safe.words c v.own.guard my_guard) (λ p. is_safe.words d g p.1) (at_set x.guards c d g1 g there);
    holds = λ d p g r there hold. ⊎_elim
        (λ q. let now : At g1.holds p (Some r) = subst (λ (z : Guard). At z.holds p (Some r)) (sym q.1) hold in let start : v.own.guard.start_taken_out ≡ g.start_taken_out = sym has1.start.taken_out ∙ ap (λ (z : Guard). z.start_taken_out) q.1 in
        subst (IsThere x r) start (⊎_elim (λ y. is_safe.holds c p v.own.guard r my_guard y) (λ y. y.1) (has1.holds p r now)))
        (λ q. is_safe.holds d p g r q.1 hold) (at_set x.guards c d g1 g there);
    starts = λ d g there. ⊎_elim (λ q. let a = is_safe.starts c v.own.guard my_guard in let b = has1.start.taken_out in let e = ap (λ (z : Guard). z.start_taken_out) q.1 in omega arith) (λ q. is_safe.starts d g q.1) (at_set x.guards c d g1 g there);
    taken = is_safe.taken;
    retired = is_safe.retired;
    once = is_safe.once;
  }

  guard1 : At (set x.guards c g1) c g1
  guard1 = set_here x.guards c g1 (below_at x.guards c v.own.guard my_guard)

  cells_freed : FreedCells may c x.cells (map scheme_cell records')
  cells_freed = freed_cells may c u.records

  frees1 : cover.covered setup (record x { cells = map scheme_cell records'; guards = set x.guards c g2 })
  frees1 = subst (λ (l : List Guard). cover.covered setup (record x { cells = map scheme_cell records'; guards = l })) (set-set x.guards c g1 g2)
      (subst (λ (k : Setup). cover.covered setup (record x { cells = map scheme_cell records'; guards = set (set x.guards c g1) c (cover.cleared k g1) })) (sym same)
      (covering.frees setup (with_guard x c g1) c g1 (map scheme_cell records') safe1 loads1 guard1 (subst (λ (k : Setup). FreedCells (cover.may_free k g1) c x.cells (map scheme_cell records')) same cells_freed)))

  -- nobody holds what is freed
  nobody : (i generation b k st q : ℕ) → At x.cells i (limbo c generation b k st q) → may (limbo_record i generation b st) ≡ true → (e p : ℕ) (g : Guard) (r : RefParts) → At (set x.guards c g1) e g → At g.holds p (Some r) → r.index ≢ i + 1
  nobody i generation b k st q cell free e p g r there hold = covering.free_of setup (with_guard x c g1) i c generation b k st q g1 safe1 loads1 guard1 cell (subst (λ (z : Setup). cover.may_free z g1 (limbo_record i generation b st) ≡ true) same free) e p g r there hold

  -- what stays of each hold
  hold_stays : (e : ℕ) (g : Guard) → At (set x.guards c g1) e g → (p start : ℕ) (r : RefParts) (note : Note) → At g.holds p (Some r) → HoldFits shape was.shapes start r note → HoldFits shape (map shape_cell records') start r note
  hold_stays e g there p start _ _ hold (while_linked i generation marked body note cell fits) = while_linked i generation marked body note
      (cell_stays may c u.records i (linked generation body marked) cell (λ a b k st q at free. nobody i a b k st q at free e p g (refer (i + 1) generation) there hold refl)) fits
  hold_stays e g there p start _ _ hold (while_out i generation marked k body note cell late fits) = while_out i generation marked k body note
      (cell_stays may c u.records i (out generation body marked k) cell (λ a b k st q at free. nobody i a b k st q at free e p g (refer (i + 1) generation) there hold refl)) late fits

  same_holds : HasCleared g1 g2
  same_holds = covering.cleared v.setup g1

  start_same : g2.start_taken_out ≡ v.own.guard.start_taken_out
  start_same = same_holds.start.taken_out ∙ has1.start.taken_out

  my_held : HeldFits shape cover.places was.shapes u.taken_out v.own.guard v.own.notes
  my_held = u.parts.held c v.own.guard v.own.notes my_guard (at_map notes_of u.books c v.own mine)

  -- what waits is what its caller knows of it, once the reclaimer confirms it
  confirms : (p : ℕ) (r : RefParts) (note : Note) → v.own.guard.pending ≡ Some (p, r) → At v.own.notes p note → IsThere x r v.own.guard.start_taken_out → HoldFits shape was.shapes v.own.guard.start_taken_out r note × ((k : ℕ) × At note.words 1 (Some k)) × (note.kept ≡ [])
  confirms p r note e there is = let w = (my_held.waits p r note e there).1 in (waits_confirmed shape u.records u.taken_out v.own.guard.start_taken_out r note w is.0 is.2 is.3, w.keyed, w.bare)

  -- what the caller held or waited for fits its note
  held_now : (p : ℕ) (r : RefParts) (note : Note) → At g1.holds p (Some r) → At v.own.notes p note → HoldFits shape was.shapes v.own.guard.start_taken_out r note × ((k : ℕ) × At note.words 1 (Some k))
  held_now p r note hold there = ⊎_elim (λ y. (my_held.holds p r note y there, my_held.keyed p r note y there)) (λ y. let z = confirms p r note y.0 there y.1 in (z.0, z.1)) (has1.holds p r hold)

  held2 : HeldFits shape cover.places (map shape_cell records') u.taken_out g2 v.own.notes
  held2 = record {
    many = ap length same_holds.holds ∙ has1.many ∙ my_held.many;
    noted = my_held.noted;
    start = let a = my_held.start in let b = start_same in omega arith;
    holds = λ p r note hold there. let now : At g1.holds p (Some r) = subst (λ (l : List (Option RefParts)). At l p (Some r)) same_holds.holds hold in
        subst (λ (k : ℕ). HoldFits shape (map shape_cell records') k r note) (sym start_same) (hold_stays c g1 guard1 p v.own.guard.start_taken_out r note now (held_now p r note now there).0);
    keyed = λ p r note hold there. (held_now p r note (subst (λ (l : List (Option RefParts)). At l p (Some r)) same_holds.holds hold) there).1;
    waits = λ p r note e there. let q = has1.waits p r (sym same_holds.waits ∙ e) in let w = my_held.waits p r note q.0 there in (
      (λ t hold. w.0 t (subst (λ (l : List (Option RefParts)). At l p (Some t)) (same_holds.holds ∙ q.1) hold)),
      subst (λ (k : ℕ). WaitFits shape (map shape_cell records') u.taken_out k r note) (sym start_same) (waits_hidden shape was.shapes (map shape_cell records') u.taken_out v.own.guard.start_taken_out r note (hidden_cells may c u.records) w.1),
    );
  }

  held_all : (d : ℕ) (g : Guard) (notes : List Note) → At (set was.guards c g2) d g → At was.notes d notes → HeldFits shape cover.places (map shape_cell records') u.taken_out g notes
  held_all d g notes there noted = ⊎_elim
      (λ q. subst (λ (z : Guard × List Note). HeldFits shape cover.places (map shape_cell records') u.taken_out z.0 z.1) (λ k. (q.1 k, one_at was.notes c v.own.notes notes (at_map notes_of u.books c v.own mine) (subst (λ (z : ℕ). At was.notes z notes) q.0 noted) k)) held2)
      (λ q. let f = u.parts.held d g notes q.1 noted in record {
        many = f.many;
        noted = f.noted;
        start = f.start;
        keyed = f.keyed;
        waits = λ p r note e at'. let w = f.waits p r note e at' in (w.0, waits_hidden shape was.shapes (map shape_cell records') u.taken_out g.start_taken_out r note (hidden_cells may c u.records) w.1);
        holds = λ p r note hold at'. hold_stays d g (set_else x.guards c d g1 q.0 ∙ q.1) p g.start_taken_out r note hold (f.holds p r note hold at');
      })
      (at_set was.guards c d g2 g there)

  same_start : start_of g2 ≡ start_of v.own.guard
  same_start = λ k. record { taken_out = start_same k; updates = (same_holds.start.updates ∙ has1.start.updates) k }

  -- what is hidden leaves the set's facts, and what callers keep
  hides_so : KeepsHidden shape setup (shape_input was) (trace was) (record (shape_input was) { cells = map shape_cell records' })
  hides_so = shaped.hides setup (shape_input was) (trace was) (map shape_cell records') (given shape cover setup s u) (hidden_cells may c u.records)

  my_known : KnownFits shape setup (shape_input was) u.updates v.own.guard v.own.notes v.own.root_notes
  my_known = u.parts.known c v.own.guard v.own.notes v.own.root_notes my_guard (at_map notes_of u.books c v.own mine) (at_map roots_of u.books c v.own mine)

  -- of a record that was just confirmed nothing is kept
  known_held : (p : ℕ) (r : RefParts) (note : Note) → At g1.holds p (Some r) → At v.own.notes p note → shape.knows setup (shape_input was) u.updates (start_of v.own.guard) (of_held r note.kept)
  known_held p r note hold there = ⊎_elim (λ y. my_known.held p r note y there)
      (λ y. subst (λ (l : List ℕ). shape.knows setup (shape_input was) u.updates (start_of v.own.guard) (of_held r l)) (sym (confirms p r note y.0 there y.1).2) (shaped.nothing setup (shape_input was) u.updates (start_of v.own.guard) r)) (has1.holds p r hold)

  known2 : KnownFits shape setup (record (shape_input was) { cells = map shape_cell records' }) u.updates g2 v.own.notes v.own.root_notes
  known2 = record {
    held = λ p r note hold there. subst (λ (st : Start). shape.knows setup (record (shape_input was) { cells = map shape_cell records' }) u.updates st (of_held r note.kept)) (sym same_start)
        (hides_so.known (start_of v.own.guard) (of_held r note.kept) (known_held p r note (subst (λ (l : List (Option RefParts)). At l p (Some r)) same_holds.holds hold) there));
    root = λ n kept there. subst (λ (st : Start). shape.knows setup (record (shape_input was) { cells = map shape_cell records' }) u.updates st (of_root n kept)) (sym same_start)
        (hides_so.known (start_of v.own.guard) (of_root n kept) (my_known.root n kept there));
  }

  known_all : (d : ℕ) (g : Guard) (notes : List Note) (roots : List (List ℕ)) → At (set was.guards c g2) d g → At was.notes d notes → At was.roots d roots → KnownFits shape setup (record (shape_input was) { cells = map shape_cell records' }) u.updates g notes roots
  known_all d g notes roots there noted kept = ⊎_elim
      (λ q. subst (λ (z : Guard × (List Note × List (List ℕ))). KnownFits shape setup (record (shape_input was) { cells = map shape_cell records' }) u.updates z.0 z.1.0 z.1.1)
      (λ k. (q.1 k, (one_at was.notes c v.own.notes notes (at_map notes_of u.books c v.own mine) (subst (λ (z : ℕ). At was.notes z notes) q.0 noted) k, one_at was.roots c v.own.root_notes roots (at_map roots_of u.books c v.own mine) (subst (λ (z : ℕ). At was.roots z roots) q.0 kept) k))) known2)
      (λ q. let f = u.parts.known d g notes roots q.1 noted kept in record {
        held = λ p r note hold at'. hides_so.known (start_of g) (of_held r note.kept) (f.held p r note hold at');
        root = λ n k at'. hides_so.known (start_of g) (of_root n k) (f.root n k at');
      })
      (at_set was.guards c d g2 g there)

  starts_same : map start_of (set was.guards c g2) ≡ map start_of was.guards
  starts_same = map_set_same start_of was.guards c v.own.guard g2 my_guard same_start

  -- the parts afterwards
  now_is : record was { shapes = map shape_cell records'; schemes = map scheme_cell records'; guards = set was.guards c g2 } ≡ outline m records' (set u.books c own) u.taken_out u.updates
  now_is = λ k. record {
    shapes = map shape_cell records';
    schemes = map scheme_cell records';
    takings = sym (same_takings may c u.records) k;
    epoch = m.epoch;
    announced = m.announced;
    taken_out = u.taken_out;
    updates = u.updates;
    guards = sym (map-set guard_of u.books c own) k;
    notes = sym (map_set_same notes_of u.books c v.own own mine refl) k;
    roots = sym (map_set_same roots_of u.books c v.own own mine refl) k;
    locks = sym (map_set_same locks_of u.books c v.own own mine refl) k;
    answered = sym (map_set_same answered_of u.books c v.own own mine refl) k;
    offers = sym (map_set_same offer_of u.books c v.own own mine refl) k;
  }

  parts2 : Parts shape cover setup (record was { shapes = map shape_cell records'; schemes = map scheme_cell records'; guards = set was.guards c g2 })
  parts2 = let hid = hides_so in record {
    taken = u.parts.taken;
    held = held_all;
    known = known_all;
    locks = locks_hidden shape was.shapes was.locks u.parts.locks (map shape_cell records') (hidden_cells may c u.records);
    shape = hid.stands.0;
    told = subst (λ (l : List _). shape.told setup (record (shape_input was) { cells = map shape_cell records' }) (record { updates = u.updates; starts = l; offers = was.offers })) (sym starts_same) hid.stands.1;
    scheme = frees1;
    history = u.parts.history;
    begun = λ d g there. ⊎_elim (λ q. let a = u.parts.begun c v.own.guard my_guard in let e = ap (λ (z : Start). z.updates) same_start in let k = ap (λ (z : Guard). z.start_updates) q.1 in omega arith) (λ q. u.parts.begun d g q.1) (at_set was.guards c d g2 g there);
    words = λ d g there. ⊎_elim
        (λ q. let old = u.parts.words c v.own.guard my_guard in let is : g.announced ≡ v.own.guard.announced = ap (λ (z : Guard). z.announced) (sym q.1) ∙ same_holds.words ∙ has1.words in
        record { same = is ∙ old.same ∙ ap (λ (z : ℕ). stretch (4 * z) 4 was.announced) (sym q.0); four = ap length is ∙ old.four })
        (λ q. u.parts.words d g q.1) (at_set was.guards c d g2 g there);
  }

  -- what the caller holds then it held or waited for
  recent2 : (a b : ℕ) → IsRecent a b v.own.guard v.own.notes → IsRecent a b g2 v.own.notes
  recent2 a b h = record {
    updates_since = let x = h.updates_since in let e = ap (λ (z : Start). z.updates) same_start in omega arith;
    taken_since = let x = h.taken_since in let e = start_same in omega arith;
    reached = h.reached;
    behind = λ p r note hold there. subst (λ (z : Start). z.updates ≤ note.reached_at) (sym same_start)
        (⊎_elim (λ y. h.behind p r note y there) (λ y. h.waits p r note y.0 there) (has1.holds p r (subst (λ (l : List (Option RefParts)). At l p (Some r)) same_holds.holds hold)));
    waits = λ p r note e there. subst (λ (z : Start). z.updates ≤ note.reached_at) (sym same_start) (h.waits p r note (has1.waits p r (sym same_holds.waits ∙ e)).0 there);
  }

  -- so the rule stays
  controlled : Rule shape cover setup record { words = set s.words word (get_or s.words word 0); homes = s.homes; views = set s.views id (record v { own = own }) }
  controlled = let f = u.seated id v at in
      subst (λ (ws : List ℕ). Rule shape cover setup record { words = ws; homes = s.homes; views = set s.views id (record v { own = own }) }) (sym (set-get_or s.words word 0))
      (stepped shape cover setup s u id v (record v { own = own }) at present s.words u.wide records' u.taken_out u.updates (starts_itself u.taken_out) (starts_itself u.updates) record {
        setup = refl;
        present = present;
        others = refl;
        caller = refl;
        front = f.front;
        seen_updates = f.seen_updates;
        seen_taken_out = f.seen_taken_out;
        longer = omega arith;
        more_noted = (omega arith, omega arith);
        recent = recent2 (length v.seen_updates) (length v.seen_taken_out);
        behind = own_behind shape cover setup s u id v at present;
        made = λ h. made_more setup c v.own.steps t (control_fits shape cover setup s u id v at present word) h;
        start_made = λ h. let k = one_more v.own.guard.start_step v.own.steps t h in let e : g2.start_step ≡ v.own.guard.start_step = same_holds.start.step ∙ has1.start.step in subst (λ (z : ℕ). z ≤ length (v.own.steps ++ t ∷ [])) (sym e) k;
      }
      t refl (leaves_drawn refl refl (load_within setup s.words v word)) (retires_none setup.first u.records records' t refl (freed_shows may c setup.first u.records))
      (freed_places setup u.records u.books m may c v.own own u.places mine refl refl (calm_after v.own.drawing v.setup.records t tt))
      (subst (Parts shape cover setup) now_is parts2)
      (counts_freed may c setup.first u.records u.books v.own own mine (u.places.books_fit c v.own mine).mine refl u.counts))

-- the value of a word is what the facts say of it
module _ (shape : ShapeFacts) (cover : CoverFacts) (setup : Setup) (s : State (Unit {0}) View) (u : Rule shape cover setup s) where
  value_by : (w : Word) (n : ℕ) → IsWord setup.callers setup.records w → fetch (memory setup.callers setup.records s.words) w ≡ n → ValueIs (scheme_input (before shape cover setup s u)) w n
  value_by Epoch n h e = e
  value_by (Announced k) n h e = let o : Outline = before shape cover setup s u in let d : ℕ = k / 4 in let j : ℕ = k % 4 in
      let many : length o.guards ≡ setup.callers = length-map u.books guard_of ∙ u.places.callers in let g = at_below o.guards d (omega arith) in let w = u.parts.words d g.0 g.1 in
      let a = at_below g.0.announced j (let f = w.four in omega arith) in
      let is : a.0 ≡ n = sym (get_at g.0.announced j a.0 0 a.1) ∙ ap (λ (l : List ℕ). get_or l j 0) w.same ∙ get_or-take 4 (drop (4 * d) o.announced) j 0 (omega arith) ∙ get_or-drop (4 * d) o.announced j 0 ∙ ap (λ (z : ℕ). get_or o.announced z 0) (let q : 4 * d + j ≡ k = omega arith in q) ∙ e in
      (d, j, g.0, omega arith, omega arith, g.1, a.1 ∙ ap some is)
  value_by w n h e = tt

  value_of : (word : ℕ) → word < size setup.callers setup.records → ValueIs (scheme_input (before shape cover setup s u)) (word_at setup.callers word) (get_or s.words word 0)
  value_of word h = value_by (word_at setup.callers word) (get_or s.words word 0) (is_word setup.callers setup.records word h)
      (sym (loads setup.callers setup.records s.words (word_at setup.callers word) (is_word setup.callers setup.records word h)) ∙ ap (λ (z : ℕ). get_or s.words z 0) (address-word_at setup.callers setup.records word))

-- who has a guard is one of the table's callers
counted_there : (k setup : Setup) → k ≡ setup → {c n : ℕ} → c < n → n ≡ setup.callers → c < k.callers
counted_there k setup same lt many = let e = ap (λ (z : Setup). z.callers) same in omega arith

-- what a caller took out and hasn't retired is in the list of those taken out
taken_before : (shape : ShapeFacts) (cover : CoverFacts) (setup : Setup) (s : State (Unit {0}) View) (u : Rule shape cover setup s) (id : ℕ) (v : View) (at : get_elem? s.views id ≡ some v) (present : v.present ≡ true) (i : ℕ) (h : Share) → share_in v i ≡ Some h → h.standing ≡ TakenOut → h.taken_number < length u.taken_out
taken_before shape cover setup s u id v at present i h known standing = let x = record_of shape cover setup s u id v at present i h known in
    let place : x.0.place ≡ Of v.own.caller TakenOut = x.2 ∙ ap (Of v.own.caller) standing in
    let cell : At (map taken_cell u.records) (i - 1) (was_taken x.0.generation x.0.taken_number) = at_map taken_cell u.records (i - 1) x.0 x.1 ∙ ap some (ap (λ (p : Place). taken_at p x.0) place) in
    let number : h.taken_number ≡ x.0.taken_number = ap (λ (y : Share). y.taken_number) x.3 in
    subst (λ (n : ℕ). n < length u.taken_out) (sym number) (below_at u.taken_out x.0.taken_number (refer (i - 1 + 1) x.0.generation) (u.parts.taken.own (i - 1) x.0.generation x.0.taken_number cell))

module _ (shape : ShapeFacts) (cover : CoverFacts) (shaped : ShapeLaws shape) (covering : CoverLaws cover) (setup : Setup) where
  -- Any control word may be loaded
  pub loads_controlled : (id word : ℕ) (v : View) → v.present ≡ true → v.setup ≡ setup → word < size setup.callers setup.records
      → Lawful (Rule shape cover setup) id v word (λ n. n) (λ n w. LoadedControl cover v word n w)
  loads_controlled id word v present same within s u at = let value = subst (λ (k : Setup). ValueIs (scheme_input (before shape cover setup s u)) (word_at k.callers word) (get_or s.words word 0)) (sym same) (value_of shape cover setup s u word within) in (
    record v { own = own shape cover shaped covering setup s u id v at present same word value },
    controlled shape cover shaped covering setup s u id v at present same word value,
    record {
      updates = u.updates;
      taken_out = u.taken_out;
      whole = are_whole shape cover setup s u id v at present;
      moment = moment (scheme_input (before shape cover setup s u)) (length u.updates);
      taken_out_is = refl;
      updates_is = refl;
      behind = λ i h known standing. taken_before shape cover setup s u id v at present i h known standing;
      counted = counted_there v.setup setup same (below_at (before shape cover setup s u).guards v.own.caller v.own.guard (at_map guard_of u.books v.own.caller v.own (book shape cover setup s u id v at present))) (length-map u.books guard_of ∙ u.places.callers);
      shows = let x : SchemeInput = scheme_input (before shape cover setup s u) in subst (λ (k : Setup). cover.shows k v.own.guard (word_at v.setup.callers word) (get_or s.words word 0)) (sym same)
          (covering.shown setup x v.own.caller (get_or s.words word 0) v.own.guard (word_at v.setup.callers word) (safe shape cover setup u.records u.books u.taken_out u.updates (memory setup.callers setup.records s.words) u.places u.parts) u.parts.scheme
          (at_map guard_of u.books v.own.caller v.own (book shape cover setup s u id v at present)) value);
      view = refl;
    },
  )

  -- so may one by the word, and a look at the number of records drawn, or at the caller's own cursor, shows whether one is left
  pub loads_by : (id word : ℕ) (v : View) → v.present ≡ true → v.setup ≡ setup → word < size setup.callers setup.records
      → Lawful (Rule shape cover setup) id v word (λ n. n) (λ n w. LoadedBy cover v (word_at v.setup.callers word) word n w × ShowsBelow v word n × ShowsDrawn v word n)
  loads_by id word v present same within = by (word_at v.setup.callers word) refl
    where
      Told : Word → Type 0
      Told x = Lawful (Rule shape cover setup) id v word (λ n. n) (λ n w. LoadedBy cover v x word n w × ShowsBelow v word n × ShowsDrawn v word n)

      -- no other word is that of the records drawn
      learns : (x : Word) → word_at v.setup.callers word ≡ x → x ≢ Drawn → Lawful (Rule shape cover setup) id v word (λ n. n) (λ n w. LoadedControl cover v word n w × ShowsBelow v word n × ShowsDrawn v word n)
      learns x is another s u at = let l = loads_controlled id word v present same within s u at in (l.0, l.1, (l.2, (λ first. absurd (another (sym is ∙ ap (word_at v.setup.callers) first))), shows_drawn shape cover setup s u id v at present word))

      by : (x : Word) → word_at v.setup.callers word ≡ x → Told x
      by Epoch is = learns Epoch is (λ e. cc)
      by (Announced k) is = learns (Announced k) is (λ e. cc)
      by Drawn is = loads_control shape cover setup id v word present
      by Lock is = loads_control shape cover setup id v word present
      by Blank is = loads_control shape cover setup id v word present
      by (Shelf k) is = loads_control shape cover setup id v word present
      by (Cursor d) is = loads_control shape cover setup id v word present
      by (Field i f) is = loads_control shape cover setup id v word present
