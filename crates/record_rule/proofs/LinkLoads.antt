-- Loads of the key of a record that a caller holds, and of the links of its node.
use Rattle.std.proofs.Common.{◌++◌, ◌∷◌, [], ◌≡◌, ℕ, ◌+◌, ◌-◌, ◌*◌, ◌<◌, ◌≤◌, List, map, length, length-append, get_or, drop, set, Bool, true, false, ◌&&◌, sym, refl, ap, ◌∙◌, subst, arith, ⊎_elim, Option, Some, None, inl}
use Rattle.std.proofs.lemmas.List.{map-set, set-get_or}
use Rattle.std.proofs.lemmas.Bool.{and_parts}
use mathlib.Core.Option.{some}
use lib.ListN.{get_elem?}
use Rattle.atomic_table.specs.Table.{State}
use Rattle.atomic_table.proofs.Lists.{at_map, at_set, set_again}
use Rattle.set_model.specs.declared.calls.Update.{Update}
use Rattle.record_memory.specs.declared.steps.Word.TheVariants.{Drawn, Field}
use Rattle.record_memory.specs.declared.steps.StepKind.TheVariants.{Load}
use Rattle.record_memory.specs.declared.steps.Step.{Step}
use Rattle.record_memory.specs.declared.books.Setup.{Setup}
use Rattle.record_memory.specs.declared.books.View.{View}
use Rattle.record_memory.specs.declared.books.Book.{Book}
use Rattle.record_memory.specs.declared.books.Guard.{Guard}
use Rattle.record_memory.specs.declared.books.Note.{Note}
use Rattle.record_memory.specs.Memory.{Memory, memory, address, stretch}
use Rattle.row_words.specs.Refs.{RefParts}
use Rattle.row_words.specs.Packing.{link_in}
use Rattle.record_rule.specs.Records.{Record, IsSetup, IsLinkField}
use Rattle.record_rule.specs.Inputs.{ShapeCell, shape_cell, scheme_cell, taken_cell, guard_of, notes_of, roots_of, locks_of, answered_of, offer_of, Outline, outline, shape_input, Start, start_of, trace, SchemeInput, scheme_input}
use Rattle.record_rule.specs.Facts.{Moment, Near, ShapeFacts, FitsNear, is_root, is_linked, is_out, CoverFacts}
use Rattle.record_rule.specs.Guards.{started_if}
use Rattle.record_rule.specs.Held.{HeldFits}
use Rattle.record_rule.specs.Known.{KnownFits}
use Rattle.record_rule.specs.Laws.{TargetSeen, no_target, lost, root_at, ShapeLaws, moment, IsSafe, with_guard, CoverLaws}
use Rattle.record_rule.specs.World.{IsRecent, Parts, Rule}
use Rattle.record_rule.specs.Recorded.{StepFits}
use Rattle.record_rule.specs.Kinds.{Lawful}
use Rattle.record_rule.specs.Links.{roots_kept, Origin, from_place, index_of, generation_at, note_in, near_of, Holds, FitsBody, node_step, with_step, seeing, LoadedKey, noting, Saw, LoadedLink}
use Rattle.record_rule.proofs.Lists.{map_set_same}
use Rattle.record_rule.proofs.Rebuilt.{starts_itself, made_more, elsewhere, stepped}
use Rattle.record_rule.proofs.Retirements.{MayLeave, leaving_calm, leaving_quiet, keeps_retired}
use Rattle.record_rule.proofs.Safe.{safe}
use Rattle.record_rule.proofs.Recents.{recent_started, recent_noting, held_started, known_started, step_started, words_started}
use Rattle.record_rule.proofs.Counts.{counts_calm}
use Rattle.record_rule.proofs.Quiet.{calm_after, places_calm}
use Rattle.record_rule.proofs.Steps.{before, given, book, are_whole, noted_within, recent_now, own_behind, kept_calm}
use Rattle.record_rule.proofs.Nodes.{body_word, NodeOf, own_held, note_there, noted_there, node_of, node_with, found_word, found_link, found_own, node_finds}
use Rattle.record_rule.proofs.Outlines.{each_held, held_noting, each_known, known_noting}

-- what is known of a node fits its body
pub fits_body : (s : ShapeFacts) (cells : List ShapeCell) (near : Near) (i generation m : ℕ) (body : List ℕ) → FitsNear s cells near i generation body m → FitsBody s near body
fits_body s cells _ _ _ _ _ (is_root i generation m body at) = tt
fits_body s cells _ _ _ _ _ (is_linked i generation m body note at fits) = fits
fits_body s cells _ _ _ _ _ (is_out i generation m n body note at fits) = fits

-- a load may see nothing of its target
pub nothing_seen : (s : ShapeFacts) (cells : List ShapeCell) (t : Option RefParts) → TargetSeen s cells t None
nothing_seen s cells None = no_target
nothing_seen s cells (Some t) = lost t

-- what the facts read once one caller holds and knows something else
abbrev held_outline : Outline → ℕ → Guard → List Note → List (List ℕ) → Outline
held_outline o c g notes roots = record o { guards = set o.guards c g; notes = set o.notes c notes; roots = set o.roots c roots }

-- which is what they read of the new book
outline_held : (m : Memory) (records : List Record) (books : List Book) (c : ℕ) (b own : Book) (taken_out : List RefParts) (updates : List Update) → get_elem? books c ≡ some b → own.locks ≡ b.locks → own.answered ≡ b.answered → own.offer ≡ b.offer
    → held_outline (outline m records books taken_out updates) c own.guard own.notes own.root_notes ≡ outline m records (set books c own) taken_out updates
outline_held m records books c b own taken_out updates at locks answered offer = λ k. record {
  shapes = map shape_cell records;
  schemes = map scheme_cell records;
  takings = map taken_cell records;
  epoch = m.epoch;
  announced = m.announced;
  taken_out = taken_out;
  updates = updates;
  guards = sym (map-set guard_of books c own) k;
  notes = sym (map-set notes_of books c own) k;
  roots = sym (map-set roots_of books c own) k;
  locks = sym (map_set_same locks_of books c b own at locks) k;
  answered = sym (map_set_same answered_of books c b own at answered) k;
  offers = sym (map_set_same offer_of books c b own at offer) k;
}

module _ (shape : ShapeFacts) (cover : CoverFacts) (setup : Setup) (s : State (Unit {0}) View) (u : Rule shape cover setup s) where
  abbrev m : Memory
  m = memory setup.callers setup.records s.words

  -- what the facts read before
  abbrev was : Outline
  was = before shape cover setup s u

  module _ (id : ℕ) (v : View) (at : get_elem? s.views id ≡ some v) (present : v.present ≡ true) where
    abbrev c : ℕ
    c = v.own.caller

    -- the caller's book
    abbrev own_there : get_elem? u.books c ≡ some v.own
    own_there = book shape cover setup s u id v at present

    -- what the caller keeps is so
    pub own_known : KnownFits shape setup (shape_input was) u.updates v.own.guard v.own.notes v.own.root_notes
    own_known = u.parts.known c v.own.guard v.own.notes v.own.root_notes (at_map guard_of u.books c v.own own_there) (at_map notes_of u.books c v.own own_there) (at_map roots_of u.books c v.own own_there)

    -- what the set knows of where guards start, once the caller's guard starts there
    abbrev pub ToldStart : Start → Type 0
    ToldStart a = shape.told setup (shape_input was) (record (trace was) { starts = set (trace was).starts c a })

    -- it is known where the guard started when it did
    pub told_same : (g : Guard) → start_of g ≡ start_of v.own.guard → ToldStart (start_of g)
    told_same g same = subst (λ (l : List Start). shape.told setup (shape_input was) (record (trace was) { starts = l }))
        (sym (ap (set (trace was).starts c) same ∙ set_again (trace was).starts c (start_of v.own.guard) (at_map start_of was.guards c v.own.guard (at_map guard_of u.books c v.own own_there)))) u.parts.told

    -- the parts, once the caller holds and knows something else
    held_parts : (g : Guard) (notes : List Note) (roots : List (List ℕ)) → g.start_updates ≤ length u.updates → g.announced ≡ v.own.guard.announced → HeldFits shape cover.places was.shapes u.taken_out g notes → KnownFits shape setup (shape_input was) u.updates g notes roots
        → ToldStart (start_of g) → cover.covered setup (with_guard (scheme_input was) c g) → Parts shape cover setup (held_outline was c g notes roots)
    held_parts g notes roots recent words held known told covered = record {
      begun = λ d k there. ⊎_elim (λ p. subst (λ (z : Guard). z.start_updates ≤ length u.updates) p.1 recent) (λ p. u.parts.begun d k p.1) (at_set was.guards c d g k there);
      taken = u.parts.taken;
      held = each_held (HeldFits shape cover.places was.shapes u.taken_out) was.guards was.notes c g notes u.parts.held held;
      known = each_known (KnownFits shape setup (shape_input was) u.updates) was.guards was.notes was.roots c g notes roots u.parts.known known;
      locks = u.parts.locks;
      shape = u.parts.shape;
      told = subst (λ (l : List Start). shape.told setup (shape_input was) (record (trace was) { starts = l })) (sym (map-set start_of was.guards c g)) told;
      scheme = covered;
      history = u.parts.history;
      words = λ d k there. ⊎_elim
          (λ p. let mine = u.parts.words c v.own.guard (at_map guard_of u.books c v.own own_there) in let is : k.announced ≡ v.own.guard.announced = ap (λ (z : Guard). z.announced) (sym p.1) ∙ words in
          record { same = is ∙ mine.same ∙ ap (λ (z : ℕ). stretch (4 * z) 4 was.announced) (sym p.0); four = ap length is ∙ mine.four })
          (λ p. u.parts.words d k p.1) (at_set was.guards c d g k there);
    }

    -- the book of the caller after a load
    abbrev pub book_after : Step → Guard → List Note → List (List ℕ) → Book
    book_after t g notes roots = record (with_step v.own v.setup.records t) { guard = g; notes = notes; root_notes = roots }

    -- The rule after a load with which the caller came to hold and to know this
    pub rule_after : (word : ℕ) (t : Step) → StepFits setup c t → ¬ (t.word ≡ Drawn) → (g : Guard) (notes : List Note) (roots : List (List ℕ)) → MayLeave t.kind → IsRecent (length u.updates) (length u.taken_out) g notes → g.announced ≡ v.own.guard.announced
        → (v.own.guard.start_step ≤ length v.own.steps → g.start_step ≤ length (v.own.steps ++ t ∷ []))
        → HeldFits shape cover.places was.shapes u.taken_out g notes → KnownFits shape setup (shape_input was) u.updates g notes roots → ToldStart (start_of g) → cover.covered setup (with_guard (scheme_input was) c g)
        → Rule shape cover setup record { words = set s.words word (get_or s.words word 0); homes = s.homes; views = set s.views id (seeing v u.updates u.taken_out (book_after t g notes roots)) }
    rule_after word t finds other g notes roots leaving recent words started held known told covered = let f = u.seated id v at in let own : Book = record (book_after t g notes roots) { updates_seen = length u.updates } in
        subst (λ (ws : List ℕ). Rule shape cover setup record { words = ws; homes = s.homes; views = set s.views id (seeing v u.updates u.taken_out (book_after t g notes roots)) }) (sym (set-get_or s.words word 0))
        (stepped shape cover setup s u id v (seeing v u.updates u.taken_out (book_after t g notes roots)) at present s.words u.wide u.records u.taken_out u.updates (starts_itself u.taken_out) (starts_itself u.updates) record {
          setup = refl;
          present = present;
          others = refl;
          caller = refl;
          front = f.front;
          seen_updates = starts_itself u.updates;
          seen_taken_out = starts_itself u.taken_out;
          longer = omega arith;
          more_noted = noted_within shape cover setup s u id v at present;
          recent = λ _. recent;
          behind = own_behind shape cover setup s u id v at present;
          start_made = started;
          made = λ h. made_more setup c v.own.steps t finds h;
        }
        t refl (elsewhere t refl refl other) (keeps_retired setup.first u.records t (leaving_quiet t.kind leaving))
        (places_calm setup u.records u.books m c v.own own own_there refl refl (calm_after v.own.drawing v.setup.records t (leaving_calm t.kind leaving)) u.places)
        (subst (Parts shape cover setup) (outline_held m u.records u.books c v.own own u.taken_out u.updates own_there refl refl refl) (held_parts g notes roots recent.updates_since words held known told covered)) (counts_calm setup.first u.records u.books c v.own own own_there u.counts refl))

    module _ (is_setup : IsSetup setup) (o : Origin) where
      -- the node of the step
      abbrev Node : Type 0
      Node = NodeOf shape cover setup is_setup s u id v at present o

      -- what the load shows of the history
      pub shown_then : ShapeLaws shape → v.setup ≡ setup → (n : Node) (f k : ℕ) → 3 ≤ f → k ≡ get_or n.node.row f 0 → (target : Option (List ℕ)) → TargetSeen shape was.shapes (link_in k).target target
          → shape.shown v.setup (record { node = root_at shape (near_of v o); body = drop 3 n.node.row; field = f; target = target; marked = n.node.marked; start = start_of v.own.guard }) u.updates
      shown_then shaped same n f k low found target seen = subst (λ (z : Setup). shape.shown z (record { node = root_at shape (near_of v o); body = drop 3 n.node.row; field = f; target = target; marked = n.node.marked; start = start_of v.own.guard }) u.updates) (sym same)
          (shaped.shows setup (shape_input was) (trace was) (near_of v o) f (link_in k) (start_of v.own.guard) c target (given shape cover setup s u)
          (node_with shape cover setup is_setup s u id v at present o n f (link_in k) low (ap link_in (sym found)))
          (at_map start_of was.guards c v.own.guard (at_map guard_of u.books c v.own own_there)) seen
          (λ e generation marked body is. n.behind e generation marked body is))

      -- What it shows
      abbrev pub saw_link : ShapeLaws shape → v.setup ≡ setup → (n : Node) (f k : ℕ) → 3 ≤ f → k ≡ get_or n.node.row f 0 → (target : Option (List ℕ)) → TargetSeen shape was.shapes (link_in k).target target → Saw shape v o f k target u.updates
      saw_link shaped same n f k low found target seen = record {
        set_is = ap (λ (z : Setup). z.set) same ∙ u.set_is;
        body = drop 3 n.node.row;
        word = body_word n.node.row f low ∙ sym found;
        fits = fits_body shape was.shapes (near_of v o) (index_of o - 1) n.node.generation n.node.marked (drop 3 n.node.row) n.fits;
        marked = n.node.marked;
        shown = shown_then shaped same n f k low found target seen;
      }

-- where a guard starts that starts with a step is known
told_started : (shape : ShapeFacts) (cover : CoverFacts) (shaped : ShapeLaws shape) (setup : Setup) (s : State (Unit {0}) View) (u : Rule shape cover setup s) (id : ℕ) (v : View) (at : get_elem? s.views id ≡ some v) (present : v.present ≡ true) (step : ℕ) (b : Bool)
    → ToldStart shape cover setup s u id v at present (start_of (started_if b (moment (scheme_input (before shape cover setup s u)) (length u.updates)) v.own.guard step))
told_started shape cover shaped setup s u id v at present step false = told_same shape cover setup s u id v at present v.own.guard refl
told_started shape cover shaped setup s u id v at present step true = shaped.begins setup (shape_input (before shape cover setup s u)) (trace (before shape cover setup s u)) v.own.caller (given shape cover setup s u)

-- and the reclaimer allows it
covered_started : {cover : CoverFacts} → CoverLaws cover → (setup : Setup) (x : SchemeInput) (d step updates : ℕ) (g : Guard) (b : Bool) → (b ≡ true → cover.begins_loading ≡ true) → IsSafe setup x → cover.covered setup x → get_elem? x.guards d ≡ some g
    → cover.covered setup (with_guard x d (started_if b (moment x updates) g step))
covered_started {cover = cover} covering setup x d step updates g false may safe h at = subst (λ (l : List Guard). cover.covered setup (record x { guards = l })) (sym (set_again x.guards d g at)) h
covered_started covering setup x d step updates g true may safe h at = covering.looks setup x d step updates g safe h at (may refl)

module _ (shape : ShapeFacts) (cover : CoverFacts) (shaped : ShapeLaws shape) (covering : CoverLaws cover) (setup : Setup) (is_setup : IsSetup setup) where
  -- A caller may load the key of a record that it holds, and finds the one that it knows
  pub loads_key : (id word p : ℕ) (v : View) (r : RefParts) → v.present ≡ true → v.setup ≡ setup → word ≡ address setup.callers (Field r.index 4) → Holds v (from_place p r)
      → Lawful (Rule shape cover setup) id v word (λ n. n) (λ n w. LoadedKey v p r n w)
  loads_key id word p v r present same is hold s u at = let o : Origin = from_place p r in let k : ℕ = get_or s.words word 0 in let t : Step = node_step v Load o 4 k k in
      let n = node_of shape cover setup is_setup s u id v at present o hold in
      let keyed = (own_held shape cover setup is_setup s u id v at present).keyed p r (note_in v.own.notes p) hold (note_there shape cover setup is_setup s u id v at present p r hold) in
      let fits : FitsBody shape (near_of v o) (drop 3 n.node.row) = fits_body shape (map shape_cell u.records) (near_of v o) (r.index - 1) n.node.generation n.node.marked (drop 3 n.node.row) n.fits in
      let found : keyed.0 ≡ k = sym (fits 1 keyed.0 keyed.1).0 ∙ body_word n.node.row 4 (omega arith) ∙ sym (found_word shape cover setup is_setup s u id v at present o n word 4 is (omega arith)) in (
        record v { own = with_step v.own v.setup.records t },
        kept_calm shape cover setup s u id v at present word t (node_finds shape cover setup is_setup s u id v at present o n Load word 4 is (omega arith) (inl refl)) (λ e. let none : ⊥ = cc in absurd none) tt,
        record { known = keyed.1 ∙ ap (λ (z : ℕ). some (Some z)) found; own = found_own shape cover setup is_setup s u id v at present o n word 4 is (omega arith); view = refl },
      )

  -- A caller may load a link of its node, and notes it where it is settled. Its guard may start with that
  pub loads_link : (id word f : ℕ) (v : View) (o : Origin) (first : Bool) → v.present ≡ true → v.setup ≡ setup → word ≡ address setup.callers (Field (index_of o) f) → 3 ≤ f → f < 8 → IsLinkField f → Holds v o
      → Lawful (Rule shape cover setup) id v word (λ n. n) (λ n w. LoadedLink shape cover v o f first n w)
  loads_link id word f v o first present same is low below field hold s u at = let k : ℕ = get_or s.words word 0 in let t : Step = node_step v Load o f k k in
      let x : Outline = before shape cover setup s u in let cells : List ShapeCell = map shape_cell u.records in let here = book shape cover setup s u id v at present in let my_guard = at_map guard_of u.books v.own.caller v.own here in
      let n = node_of shape cover setup is_setup s u id v at present o hold in
      let found = found_word shape cover setup is_setup s u id v at present o n word f is below in
      let notes : List Note = noting (shape.settled f (drop 3 n.node.row)) v.own.notes o f k in
      let there = noted_there shape cover setup is_setup s u id v at present o hold in
      let held : HeldFits shape cover.places cells u.taken_out v.own.guard notes = held_noting shape cells (index_of o - 1) n.node.generation n.node.marked f k (drop 3 n.node.row) (shape_cell n.node)
      (at_map shape_cell u.records (index_of o - 1) n.node n.there) n.body low (body_word n.node.row f low ∙ sym found)
      cover.places u.taken_out v.own.guard v.own.notes o (own_held shape cover setup is_setup s u id v at present) there (let pos = n.some_index in let z : index_of o ≡ index_of o - 1 + 1 = omega arith in z) in
      let known : KnownFits shape setup (shape_input x) u.updates v.own.guard notes v.own.root_notes = known_noting shape setup (shape_input x) u.updates v.own.guard v.own.notes v.own.root_notes (shape.settled f (drop 3 n.node.row)) o f k there (own_known shape cover setup s u id v at present) in
      let time : Moment = moment (scheme_input x) (length u.updates) in let b : Bool = cover.begins_loading && first in let step : ℕ = length v.own.steps + 1 in let g : Guard = started_if b time v.own.guard step in
      let recent = recent_started time v.own.guard step notes b (recent_noting (length u.updates) (length u.taken_out) v.own.guard v.own.notes (shape.settled f (drop 3 n.node.row)) o f k there (recent_now shape cover setup s u id v at present)) in
      let told = told_started shape cover shaped setup s u id v at present step b in
      let covered = covered_started covering setup (scheme_input x) v.own.caller step (length u.updates) v.own.guard b (λ e. (and_parts cover.begins_loading first e).0)
      (safe shape cover setup u.records u.books u.taken_out u.updates (memory setup.callers setup.records s.words) u.places u.parts) u.parts.scheme my_guard in (
        seeing v u.updates u.taken_out (book_after shape cover setup s u id v at present t g notes (roots_kept b v.own.root_notes)),
        rule_after shape cover setup s u id v at present word t (node_finds shape cover setup is_setup s u id v at present o n Load word f is below (inl refl)) (λ e. cc) g notes (roots_kept b v.own.root_notes) tt recent (words_started time v.own.guard step notes b)
            (λ h. let l = length-append v.own.steps (t ∷ []) in step_started time v.own.guard step notes b (length (v.own.steps ++ t ∷ [])) (omega arith) (omega arith))
            (held_started time v.own.guard step notes shape cover.places cells u.taken_out b (omega arith) held) (known_started time v.own.guard step notes shape setup (shape_input x) u.updates v.own.root_notes b known) told covered,
        record {
          whole = are_whole shape cover setup s u id v at present;
          saw = saw_link shape cover setup s u id v at present is_setup o shaped same n f k low found None (nothing_seen shape cells (link_in k).target);
          link = found_link shape cover setup is_setup s u id v at present o n f k field found;
          own = found_own shape cover setup is_setup s u id v at present o n word f is below ∙ ap (λ (z : Setup). generation_at z o) (sym same);
          epoch = x.epoch;
          view = refl;
        },
      )
