-- A caller stores in one of its own announcement words.
use Rattle.std.proofs.Common.{◌≡◌, ◌≢◌, ℕ, ◌+◌, ◌-◌, ◌*◌, ◌<◌, ◌≤◌, ◌⊎◌, List, [], ◌∷◌, ◌++◌, length, length-set, length-append, map, get_or, set, Bool, true, false, sym, refl, ap, ◌∙◌, subst, arith, ⊎_elim, inl, inr}
use Rattle.std.proofs.lemmas.List.{map-set}
use native.Mathlib.Decide.{dec_lt}
use mathlib.Core.Option.{some, some-ne-none}
use lib.ListN.{get_elem?}
use Rattle.atomic_table.specs.Table.{State}
use Rattle.atomic_table.proofs.Lists.{at_map, at_set, set_again}
use Rattle.record_memory.specs.declared.steps.Word.{Word}
use Rattle.record_memory.specs.declared.steps.Word.TheVariants.{Drawn, Epoch, Lock, Blank, Shelf, Announced, Cursor, Field}
use Rattle.record_memory.specs.declared.steps.Step.{Step}
use Rattle.record_memory.specs.declared.books.Setup.{Setup}
use Rattle.record_memory.specs.declared.books.View.{View}
use Rattle.record_memory.specs.declared.books.Book.{Book}
use Rattle.record_memory.specs.declared.books.Guard.{Guard}
use Rattle.record_memory.specs.declared.books.Note.{Note}
use Rattle.record_memory.specs.Memory.{Memory, memory, stretch, address, word_at, put}
use Rattle.record_memory.proofs.Stores.{address-word_at, stores, stretch_before, stretch_behind, stretch_in}
use Rattle.record_rule.specs.Inputs.{shape_cell, scheme_cell, taken_cell, guard_of, notes_of, roots_of, locks_of, answered_of, offer_of, Outline, outline, shape_input, Start, start_of, trace, scheme_input}
use Rattle.record_rule.specs.Facts.{At, Moment, ShapeFacts, CoverFacts, of_root, of_held}
use Rattle.record_rule.specs.Held.{HoldFits, HeldFits}
use Rattle.record_rule.specs.Laws.{ShapeLaws, CoverLaws, moment, HasStored, SameStart, StartsNow, StartsIf}
use Rattle.record_rule.specs.Known.{KnownFits}
use Rattle.record_rule.specs.World.{IsRecent, Places, Parts, Rule}
use Rattle.record_rule.specs.Kinds.{Lawful}
use Rattle.record_rule.specs.Links.{with_step, seeing, roots_kept}
use Rattle.record_rule.specs.ControlSteps.{seeing_if, own_store, StoredWord, MayStoreControl, StoredControl}
use Rattle.record_rule.specs.Recorded.{StepFits}
use Rattle.record_rule.proofs.Lists.{below_at, one_at, map_set_same}
use Rattle.record_rule.proofs.Fields.{places_beside}
use Rattle.record_rule.proofs.Quiet.{places_calm, calm_after}
use Rattle.record_rule.proofs.Rebuilt.{starts_itself, made_more, no_field, counters, elsewhere, stepped}
use Rattle.record_rule.proofs.Retirements.{stored_none, same_records}
use Rattle.record_rule.proofs.Counts.{counts_calm}
use Rattle.record_rule.proofs.Steps.{before, given, book, are_whole, noted_within, recent_now, own_behind}
use Rattle.record_rule.proofs.Safe.{safe}
use Rattle.record_rule.proofs.Outlines.{each_known}
use Rattle.record_rule.proofs.Waiting.{none_waits}

-- another caller's words
other_words : (c d k value : ℕ) (l : List ℕ) → k < 4 → d ≢ c → stretch (4 * d) 4 (set l (4 * c + k) value) ≡ stretch (4 * d) 4 l
other_words c d k value l low ne = by (dec_lt d c)
  where
    by : Dec (d < c) → stretch (4 * d) 4 (set l (4 * c + k) value) ≡ stretch (4 * d) 4 l
    by (yes h) = stretch_behind (4 * d) 4 (4 * c + k) value l (omega arith)
    by (no h) = stretch_before (4 * d) 4 (4 * c + k) value l (omega arith)

module _ (shape : ShapeFacts) (cover : CoverFacts) (shaped : ShapeLaws shape) (covering : CoverLaws cover) (setup : Setup) (s : State (Unit {0}) View) (u : Rule shape cover setup s) (id : ℕ) (v : View) (at : get_elem? s.views id ≡ some v) (present : v.present ≡ true)
    (same : v.setup ≡ setup) (k value : ℕ) (low : k < 4)
    (may : cover.may_store setup v.own.guard k value) where
  abbrev m : Memory
  m = memory setup.callers setup.records s.words

  abbrev was : Outline
  was = before shape cover setup s u

  abbrev c : ℕ
  c = v.own.caller

  abbrev j : ℕ
  j = 4 * c + k

  abbrev word : ℕ
  word = address setup.callers (Announced j)

  abbrev n : ℕ
  n = get_or s.words word 0

  abbrev words' : List ℕ
  words' = set s.words word value

  abbrev m' : Memory
  m' = memory setup.callers setup.records words'

  abbrev time : Moment
  time = moment (scheme_input was) (length u.updates)

  abbrev g : Guard
  g = v.own.guard

  abbrev g' : Guard
  g' = cover.stored time g (length v.own.steps + 1) k value

  abbrev t : Step
  t = own_store v k n value

  abbrev own : Book
  own = record (with_step v.own v.setup.records t) { guard = g'; root_notes = roots_kept (cover.begins g k value) v.own.root_notes }

  mine : At u.books c v.own
  mine = book shape cover setup s u id v at present

  my_guard : At was.guards c g
  my_guard = at_map guard_of u.books c v.own mine

  within : j < 4 * setup.callers
  within = let l = below_at u.books c v.own mine in let e = u.places.callers in omega arith

  put_is : m' ≡ put m (Announced j) value
  put_is = stores setup.callers setup.records s.words (Announced j) value u.wide within

  has : HasStored time g g' (cover.begins g k value) (length v.own.steps + 1) k value
  has = covering.stored setup time g (length v.own.steps + 1) k value may

  -- what is kept of the roots
  abbrev roots' : List (List ℕ)
  roots' = roots_kept (cover.begins g k value) v.own.root_notes

  -- the guard starts now, or did when it did
  starts_by : (b : Bool) → StartsIf b time (length v.own.steps + 1) g g' → StartsNow time (length v.own.steps + 1) g' ⊎ SameStart g g'
  starts_by true h = inl h
  starts_by false h = inr h

  start_is : StartsNow time (length v.own.steps + 1) g' ⊎ SameStart g g'
  start_is = starts_by (cover.begins g k value) has.start

  -- where the guard starts
  start_known : shape.told setup (shape_input was) (record (trace was) { starts = set (trace was).starts c (start_of g') })
  start_known = ⊎_elim
      (λ a. subst (λ (z : Start). shape.told setup (shape_input was) (record (trace was) { starts = set (trace was).starts c z })) (λ i. record { taken_out = sym a.taken_out i; updates = sym a.updates i }) (shaped.begins setup (shape_input was) (trace was) c (given shape cover setup s u)))
      (λ a. subst (λ (l : List Start). shape.told setup (shape_input was) (record (trace was) { starts = l }))
      (sym (ap (set (trace was).starts c) (λ i. record { taken_out = a.taken_out i; updates = a.updates i }) ∙ set_again (trace was).starts c (start_of g) (at_map start_of was.guards c g my_guard))) u.parts.told) start_is

  my_held : HeldFits shape cover.places was.shapes u.taken_out g v.own.notes
  my_held = u.parts.held c g v.own.notes my_guard (at_map notes_of u.books c v.own mine)

  held' : HeldFits shape cover.places was.shapes u.taken_out g' v.own.notes
  held' = record {
    many = has.many ∙ my_held.many;
    noted = my_held.noted;
    start = ⊎_elim (λ a. let e = a.taken_out in omega arith) (λ a. let e = a.taken_out in let b = my_held.start in omega arith) start_is;
    holds = λ p r note hold there. let x = has.holds p r hold in subst (λ (z : Start). HoldFits shape was.shapes z.taken_out r note) (sym x.1) (my_held.holds p r note x.0 there);
    keyed = λ p r note hold there. my_held.keyed p r note (has.holds p r hold).0 there;
    waits = λ p r note e there. none_waits g'.pending p r has.waits e;
  }

  my_known : KnownFits shape setup (shape_input was) u.updates g v.own.notes v.own.root_notes
  my_known = u.parts.known c g v.own.notes v.own.root_notes my_guard (at_map notes_of u.books c v.own mine) (at_map roots_of u.books c v.own mine)

  -- of the roots nothing is kept once the guard starts anew
  roots_known : (b : Bool) → StartsIf b time (length v.own.steps + 1) g g' → (i : ℕ) (kept : List ℕ) → At (roots_kept b v.own.root_notes) i kept → shape.knows setup (shape_input was) u.updates (start_of g') (of_root i kept)
  roots_known true h i kept there = absurd (some-ne-none kept (sym there))
  roots_known false h i kept there = subst (λ (z : Start). shape.knows setup (shape_input was) u.updates z (of_root i kept)) (λ q. record { taken_out = sym h.taken_out q; updates = sym h.updates q }) (my_known.root i kept there)

  known' : KnownFits shape setup (shape_input was) u.updates g' v.own.notes roots'
  known' = record {
    held = λ p r note hold there. let x = has.holds p r hold in subst (λ (z : Start). shape.knows setup (shape_input was) u.updates z (of_held r note.kept)) (sym x.1) (my_known.held p r note x.0 there);
    root = roots_known (cover.begins g k value) has.start;
  }

  -- its book, where that says that so many updates had taken effect
  abbrev own_at : ℕ → Book
  own_at n = record own { updates_seen = n }

  now_is : (n : ℕ) → record was { announced = set was.announced j value; guards = set was.guards c g'; roots = set was.roots c roots' } ≡ outline m' u.records (set u.books c (own_at n)) u.taken_out u.updates
  now_is n = λ i. record {
    shapes = map shape_cell u.records;
    schemes = map scheme_cell u.records;
    takings = map taken_cell u.records;
    epoch = (ap (λ (x : Memory). x.epoch) (sym put_is)) i;
    announced = (ap (λ (x : Memory). x.announced) (sym put_is)) i;
    taken_out = u.taken_out;
    updates = u.updates;
    guards = sym (map-set guard_of u.books c (own_at n)) i;
    notes = sym (map_set_same notes_of u.books c v.own (own_at n) mine refl) i;
    roots = sym (map-set roots_of u.books c (own_at n)) i;
    locks = sym (map_set_same locks_of u.books c v.own (own_at n) mine refl) i;
    answered = sym (map_set_same answered_of u.books c v.own (own_at n) mine refl) i;
    offers = sym (map_set_same offer_of u.books c v.own (own_at n) mine refl) i;
  }

  parts' : Parts shape cover setup (record was { announced = set was.announced j value; guards = set was.guards c g'; roots = set was.roots c roots' })
  parts' = record {
    taken = u.parts.taken;
    held = λ d gd notes there noted. ⊎_elim
        (λ q. subst (λ (z : Guard × List Note). HeldFits shape cover.places was.shapes u.taken_out z.0 z.1) (λ i. (q.1 i, one_at was.notes c v.own.notes notes (at_map notes_of u.books c v.own mine) (subst (λ (z : ℕ). At was.notes z notes) q.0 noted) i)) held')
        (λ q. u.parts.held d gd notes q.1 noted) (at_set was.guards c d g' gd there);
    known = λ d gd notes roots there noted kept. each_known (KnownFits shape setup (shape_input was) u.updates) was.guards was.notes was.roots c g' v.own.notes roots' u.parts.known known' d gd notes roots there
        (subst (λ (l : List (List Note)). At l d notes) (sym (set_again was.notes c v.own.notes (at_map notes_of u.books c v.own mine))) noted) kept;
    locks = u.parts.locks;
    shape = u.parts.shape;
    told = subst (λ (l : List Start). shape.told setup (shape_input was) (record (trace was) { starts = l })) (sym (map-set start_of was.guards c g')) start_known;
    scheme = covering.stores setup (scheme_input was) c k value (length v.own.steps + 1) (length u.updates) g (safe shape cover setup u.records u.books u.taken_out u.updates m u.places u.parts) u.parts.scheme my_guard low may;
    history = u.parts.history;
    begun = λ d gd there. ⊎_elim (λ q. let e = ap (λ (z : Guard). z.start_updates) q.1 in ⊎_elim (λ a. let f = a.updates in omega arith) (λ a. let f = a.updates in let b = u.parts.begun c g my_guard in omega arith) start_is) (λ q. u.parts.begun d gd q.1) (at_set was.guards c d g' gd there);
    words = λ d gd there. ⊎_elim
        (λ q. let old = u.parts.words c g my_guard in let is : gd.announced ≡ set g.announced k value = ap (λ (z : Guard). z.announced) (sym q.1) ∙ has.words in record {
          same = is ∙ ap (λ (l : List ℕ). set l k value) old.same ∙ sym (stretch_in (4 * c) 4 k value was.announced low) ∙ ap (λ (z : ℕ). stretch (4 * z) 4 (set was.announced j value)) (sym q.0);
          four = ap length is ∙ length-set g.announced k value ∙ old.four;
        })
        (λ q. let old = u.parts.words d gd q.1 in record { same = old.same ∙ sym (other_words c d k value was.announced low q.0); four = old.four }) (at_set was.guards c d g' gd there);
  }

  -- where the records are
  places' : (n : ℕ) → Places setup u.records (set u.books c (own_at n)) m'
  places' n = subst (Places setup u.records (set u.books c (own_at n))) (sym put_is) (places_beside setup u.records (set u.books c (own_at n)) m m.epoch (set m.announced j value)
      (places_calm setup u.records u.books m c v.own (own_at n) mine refl refl (calm_after v.own.drawing v.setup.records t tt) u.places))

  -- the step, and when the guard started
  made' : ((a : ℕ) (b : Step) → At v.own.steps a b → StepFits setup c b) → (a : ℕ) (b : Step) → At (v.own.steps ++ t ∷ []) a b → StepFits setup c b
  made' h = made_more setup c v.own.steps t (no_field setup c t refl (inr (refl, omega arith)) (λ i f e. cc)) h

  started' : v.own.guard.start_step ≤ length v.own.steps → g'.start_step ≤ length (v.own.steps ++ t ∷ [])
  started' h = let l = length-append v.own.steps (t ∷ []) in ⊎_elim (λ a. let e = a.step_is in omega arith) (λ a. let e = a.step in omega arith) start_is

  -- what the caller holds it reached behind the guard's start
  recent' : (n k : ℕ) → g'.start_updates ≤ n → g'.start_taken_out ≤ k → IsRecent n k g v.own.notes → IsRecent n k g' v.own.notes
  recent' n k updates taken_out h = record {
    updates_since = updates;
    taken_since = taken_out;
    reached = h.reached;
    behind = λ p r note hold there. let x = has.holds p r hold in subst (λ (z : Start). z.updates ≤ note.reached_at) (sym x.1) (h.behind p r note x.0 there);
    waits = λ p r note e there. none_waits g'.pending p r has.waits e;
  }

  -- so the rule stays, whether the guard starts with it or not
  announced_so : (b : Bool) → StartsIf b time (length v.own.steps + 1) g g' → Rule shape cover setup record { words = words'; homes = s.homes; views = set s.views id (seeing_if b v u.updates u.taken_out own) }
  announced_so true now = let f = u.seated id v at in
      stepped shape cover setup s u id v (seeing v u.updates u.taken_out own) at present words' (length-set s.words word value ∙ u.wide) u.records u.taken_out u.updates (starts_itself u.taken_out) (starts_itself u.updates) record {
        setup = refl;
        present = present;
        others = refl;
        caller = refl;
        front = f.front;
        seen_updates = starts_itself u.updates;
        seen_taken_out = starts_itself u.taken_out;
        longer = omega arith;
        more_noted = noted_within shape cover setup s u id v at present;
        recent = λ _. recent' (length u.updates) (length u.taken_out) (let e = now.updates in omega arith) (let e = now.taken_out in omega arith) (recent_now shape cover setup s u id v at present);
        behind = own_behind shape cover setup s u id v at present;
        made = made';
        start_made = started';
      } t refl (elsewhere t (ap counters put_is) refl (λ e. cc)) (stored_none setup.first u.records u.records t (λ j g. refl) (λ i f kind on. let none : ⊥ = cc in absurd none) (same_records setup.first u.records))
      (places' (length u.updates)) (subst (Parts shape cover setup) (now_is (length u.updates)) parts') (counts_calm setup.first u.records u.books c v.own (own_at (length u.updates)) mine u.counts refl)
  announced_so false now = let f = u.seated id v at in
      stepped shape cover setup s u id v (record v { own = own }) at present words' (length-set s.words word value ∙ u.wide) u.records u.taken_out u.updates (starts_itself u.taken_out) (starts_itself u.updates) record {
        setup = refl;
        present = present;
        others = refl;
        caller = refl;
        front = f.front;
        seen_updates = f.seen_updates;
        seen_taken_out = f.seen_taken_out;
        longer = omega arith;
        more_noted = (omega arith, omega arith);
        recent = λ h. recent' (length v.seen_updates) (length v.seen_taken_out) (let e = now.updates in let a = h.updates_since in omega arith) (let e = now.taken_out in let a = h.taken_since in omega arith) h;
        behind = own_behind shape cover setup s u id v at present;
        made = made';
        start_made = started';
      } t refl (elsewhere t (ap counters put_is) refl (λ e. cc)) (stored_none setup.first u.records u.records t (λ j g. refl) (λ i f kind on. let none : ⊥ = cc in absurd none) (same_records setup.first u.records))
      (places' v.own.updates_seen) (subst (Parts shape cover setup) (now_is v.own.updates_seen) parts') (counts_calm setup.first u.records u.books c v.own own mine u.counts refl)

module _ (shape : ShapeFacts) (cover : CoverFacts) (shaped : ShapeLaws shape) (covering : CoverLaws cover) (setup : Setup) where
  -- A caller may store what its reclaimer allows in one of its own announcement words
  pub announces : (id k value : ℕ) (v : View) → v.present ≡ true → v.setup ≡ setup → k < 4 → cover.may_store setup v.own.guard k value
      → Lawful (Rule shape cover setup) id v (address setup.callers (Announced (4 * v.own.caller + k))) (λ _. value) (λ n w. StoredWord cover v k value n w)
  announces id k value v present same low may s u at = (
    seeing_if (cover.begins v.own.guard k value) v u.updates u.taken_out (own shape cover shaped covering setup s u id v at present same k value low may),
    announced_so shape cover shaped covering setup s u id v at present same k value low may (cover.begins v.own.guard k value) (has shape cover shaped covering setup s u id v at present same k value low may).start,
    record {
      updates = u.updates;
      taken_out = u.taken_out;
      whole = are_whole shape cover setup s u id v at present;
      moment = moment (scheme_input (before shape cover setup s u)) (length u.updates);
      taken_out_is = refl;
      updates_is = refl;
      view = refl;
    },
  )

  -- the same by the word
  stores_at : (id word value : ℕ) (v : View) (x : Word) → v.present ≡ true → v.setup ≡ setup → word ≡ address setup.callers x → MayStoreControl cover v x value → Lawful (Rule shape cover setup) id v word (λ _. value) (λ n w. StoredControl cover v x value n w)
  stores_at id word value v (Announced j) present same is may = let k : ℕ = j - 4 * v.own.caller in let le = may.0 in let e : address setup.callers (Announced (4 * v.own.caller + k)) ≡ word = omega arith in
      subst (λ (z : ℕ). Lawful (Rule shape cover setup) id v z (λ _. value) (λ n w. StoredWord cover v k value n w)) e
      (announces id k value v present same (let lt = may.1 in omega arith) (subst (λ (z : Setup). cover.may_store z v.own.guard k value) same may.2))
  stores_at id word value v Drawn present same is may = absurd may
  stores_at id word value v Epoch present same is may = absurd may
  stores_at id word value v Lock present same is may = absurd may
  stores_at id word value v Blank present same is may = absurd may
  stores_at id word value v (Shelf k) present same is may = absurd may
  stores_at id word value v (Cursor d) present same is may = absurd may
  stores_at id word value v (Field i f) present same is may = absurd may

  -- A pass may store in a control word what its reclaimer allows
  pub stores_control : (id word value : ℕ) (v : View) → v.present ≡ true → v.setup ≡ setup → MayStoreControl cover v (word_at v.setup.callers word) value → Lawful (Rule shape cover setup) id v word (λ _. value) (λ n w. StoredControl cover v (word_at v.setup.callers word) value n w)
  stores_control id word value v present same may = stores_at id word value v (word_at v.setup.callers word) present same
      (sym (address-word_at v.setup.callers v.setup.records word) ∙ ap (λ (z : Setup). address z.callers (word_at v.setup.callers word)) same) may
