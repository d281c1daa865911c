-- An own record is linked behind a root or behind a record that its caller holds.
use Rattle.std.proofs.Common.{◌≡◌, ◌≢◌, ℕ, ◌+◌, ◌-◌, ◌<◌, ◌≤◌, List, map, length, get_or, drop, set, true, cond, eqb, sym, refl, ap, ◌∙◌, subst, arith, Option, None}
use Rattle.std.proofs.lemmas.List.{map-set, length-drop}
use mathlib.Core.Option.{some}
use lib.ListN.{get_elem?}
use Rattle.atomic_table.specs.Table.{State}
use Rattle.atomic_table.proofs.Lists.{at_map, set_else}
use Rattle.set_model.specs.declared.calls.Call.{Call}
use Rattle.record_memory.specs.declared.steps.Word.TheVariants.{Field}
use Rattle.record_memory.specs.declared.steps.StepKind.{StepKind}
use Rattle.record_memory.specs.declared.steps.StepKind.TheVariants.{Exchange}
use Rattle.record_memory.specs.declared.books.LockedWord.{LockedWord}
use Rattle.record_memory.specs.declared.steps.Step.{Step}
use Rattle.record_memory.specs.declared.books.Setup.{Setup}
use Rattle.record_memory.specs.declared.books.View.{View}
use Rattle.record_memory.specs.declared.books.Guard.{Guard}
use Rattle.record_memory.specs.declared.books.Note.{Note}
use Rattle.record_memory.specs.declared.books.Share.{Share}
use Rattle.record_memory.specs.declared.books.Standing.{Standing}
use Rattle.record_memory.specs.declared.books.Standing.TheVariants.{Own}
use Rattle.record_memory.specs.declared.books.Place.TheVariants.{Of}
use Rattle.record_memory.specs.Memory.{Memory, memory, address}
use Rattle.row_words.specs.Refs.{RefParts, LinkParts, IsRef}
use Rattle.row_words.specs.Packing.{link_in, own_in, IsLink}
use Rattle.row_words.proofs.Packed.{own_in-packed_link}
use Rattle.record_rule.specs.Records.{Record, known, IsSetup, IsLinkField}
use Rattle.record_rule.specs.Inputs.{ShapeCell, hidden, linked, shape_cell, SchemeCell, unpublished, birth, scheme_cell, untaken, taken_cell, Outline, shape_input, trace, SchemeInput, scheme_input}
use Rattle.record_rule.specs.Facts.{At, link_at, with_link, HasLock, clean, Near, ShapeFacts, FitsNext, at_end, at_next, CoverFacts}
use Rattle.record_rule.specs.Laws.{marked_after, NodeStep, Keeps, ShapeLaws, CoverLaws, IsNewGeneration}
use Rattle.record_rule.specs.Held.{HeldFits}
use Rattle.record_rule.specs.Taken.{TakenFits}
use Rattle.record_rule.specs.HandingOut.{HasOwn}
use Rattle.record_rule.specs.World.{Rule}
use Rattle.record_rule.specs.Kinds.{Lawful}
use Rattle.record_rule.specs.Links.{Origin, index_of, generation_at, near_of, note_in, Holds, IsNextOf, at_end, at_place, Decides, node_step, own_update, link_word, PublishedBy, PublishedLink, ToldPublish}
use Rattle.record_rule.specs.Locks.{LocksFit}
use Rattle.record_rule.specs.LockedLinks.{IsUnlocked}
use Rattle.record_rule.specs.Recorded.{LeavesLink}
use Rattle.record_rule.proofs.Lists.{one_at, map_set_same}
use Rattle.record_rule.proofs.Rebuilt.{starts_itself}
use Rattle.record_rule.proofs.Retirements.{link_retires_none, shows_moved}
use Rattle.record_rule.proofs.Quiet.{IsCalm, calm_after}
use Rattle.record_rule.proofs.Owners.{record_of}
use Rattle.record_rule.proofs.Safe.{safe}
use Rattle.record_rule.proofs.HeldMoves.{held_hidden_linked, fits_node}
use Rattle.record_rule.proofs.TakenMoves.{new_generation}
use Rattle.record_rule.specs.Counts.{drawn_as, retired_as, freed_as}
use Rattle.record_rule.proofs.Counts.{counts_moved, balances_same}
use Rattle.record_rule.proofs.Moves.{IsSeenOrRoot, published_record, published_places, HasCells, published_cells}
use Rattle.record_rule.proofs.Steps.{before, given, book, are_whole}
use Rattle.record_rule.proofs.Nodes.{NodeOf, own_held, note_there, node_of, node_with, finds_held}
use Rattle.record_rule.proofs.Locks.{locks_moved}
use Rattle.record_rule.proofs.LockedNodes.{Locked, stay_locked}
use Rattle.record_rule.proofs.Exchanges.{by_link, view_after, cell_after, new_word, leaves}

module _ (shape : ShapeFacts) (cover : CoverFacts) (setup : Setup) (is_setup : IsSetup setup) (s : State (Unit {0}) View) (u : Rule shape cover setup s) (id : ℕ) (v : View) (at : get_elem? s.views id ≡ some v) (present : v.present ≡ true) where
  abbrev m : Memory
  m = memory setup.callers setup.records s.words

  abbrev c : ℕ
  c = v.own.caller

  -- what the facts read before the step
  abbrev was : Outline
  was = before shape cover setup s u

  -- the next node fits
  pub fits_next : (target : Option RefParts) (next : Option Near) → IsNextOf v target next → FitsNext shape (map shape_cell u.records) target next
  fits_next _ _ at_end = at_end
  fits_next _ _ (at_place p r hold) = let note : Note = note_in v.own.notes p in
      let x = fits_node shape cover.places (map shape_cell u.records) u.taken_out v.own.guard v.own.notes p r note (own_held shape cover setup is_setup s u id v at present) hold (note_there shape cover setup is_setup s u id v at present p r hold) in
      at_next r note x.index x.generation x.marked x.body x.fits

  -- the record is the caller's own, with this row
  pub record IsOwn (own : RefParts) (row : List ℕ) (q : Record) : Type 0 where
    there : At u.records (own.index - 1) q
    place : q.place ≡ Of v.own.caller Own
    generation : q.generation ≡ own.generation
    row_is : q.row ≡ row
    five : length (drop 3 row) ≡ 5

  -- what its caller knows of it says so
  pub own_record : (own : RefParts) (row : List ℕ) → HasOwn v own row → (q : Record) × IsOwn own row q
  own_record own row h = let x = record_of shape cover setup s u id v at present own.index h.share h.known in let q : Record = x.0 in (
    q,
    record {
      there = x.1;
      place = x.2 ∙ ap (Of c) h.standing_is;
      generation = sym (ap (λ (z : Share). z.generation) x.3) ∙ h.generation;
      row_is = sym (ap (λ (z : Share). z.words) x.3 ∙ ap (λ (z : Standing). known z q.row) h.standing_is) ∙ h.row_is;
      five = let e = h.eight in let l = length-drop 3 row in omega arith;
    },
  )

  module _ (o : Origin) (n : NodeOf shape cover setup is_setup s u id v at present o) (own : RefParts) (row : List ℕ) (q : Record) (x : IsOwn own row q) where
    -- where the own record stands in the list
    abbrev k : ℕ
    k = own.index - 1

    -- and the record once it is linked
    abbrev q' : Record
    q' = published_record q

    -- the records, once it is linked
    abbrev records : List Record
    records = set u.records k q'

    -- how the facts see it before that
    was_cells : HasCells q hidden (unpublished c q.generation (birth q)) (untaken q.generation)
    was_cells = (published_cells c q x.place).0

    -- the node is another record
    other : index_of o - 1 ≢ k
    other e = let same : n.node ≡ q = one_at u.records k n.node q (subst (λ (z : ℕ). At u.records z n.node) e n.there) x.there in
        let none : IsSeenOrRoot (Of c Own) = subst IsSeenOrRoot (ap (λ (z : Record). z.place) same ∙ x.place) n.seen in none

    -- so it is still there
    pub node_there : At records (index_of o - 1) n.node
    node_there = set_else u.records k (index_of o - 1) q' other ∙ n.there

    -- how a set sees the records then
    cells_are : set (map shape_cell u.records) k (linked own.generation (drop 3 row) 0) ≡ map shape_cell records
    cells_are = (λ j. set (map shape_cell u.records) k (linked (sym x.generation j) (drop 3 (sym x.row_is j)) 0)) ∙ sym (map-set shape_cell u.records k q')

    -- what was taken out stays so
    taken : TakenFits setup (map taken_cell records) u.taken_out
    taken = subst (λ l. TakenFits setup l u.taken_out) (sym (map_set_same taken_cell u.records k q q' x.there (published_cells c q x.place).1.taken_is)) u.parts.taken

    -- a set didn't see the record
    was_hidden : At (map shape_cell u.records) k hidden
    was_hidden = at_map shape_cell u.records k q x.there ∙ ap some was_cells.shape_is

    -- nor was it linked at this generation
    own_new : IsNewGeneration shape u.taken_out own
    own_new = new_generation setup shape (map taken_cell u.records) u.taken_out own u.parts.taken (at_map taken_cell u.records k q x.there ∙ ap some (was_cells.taken_is ∙ ap untaken x.generation))

    -- what each caller holds still fits
    held : IsRef own → (d : ℕ) (g : Guard) (notes : List Note) → At was.guards d g → At was.notes d notes → HeldFits shape cover.places (map shape_cell records) u.taken_out g notes
    held is_ref d g notes ag an = subst (λ l. HeldFits shape cover.places l u.taken_out g notes) cells_are
        (held_hidden_linked shape cover.places (map shape_cell u.records) u.taken_out g notes own 0 (drop 3 row) (u.parts.held d g notes ag an) was_hidden is_ref.index.0 own_new)

    -- the reclaimer allows it
    scheme : CoverLaws cover → cover.covered setup record (scheme_input was) { cells = map scheme_cell records }
    scheme covering = let i : SchemeInput = scheme_input was in
        subst (λ (l : List SchemeCell). cover.covered setup record i { cells = l }) (sym (map-set scheme_cell u.records k q'))
        (covering.links setup i k c q.generation (birth q) (safe shape cover setup u.records u.books u.taken_out u.updates m u.places u.parts) u.parts.scheme (at_map scheme_cell u.records k q x.there ∙ ap some was_cells.scheme_is))

    -- which locks there are, once it is linked
    locks_then : ((g : ℕ) → shape.lockable g ≡ true → 3 ≤ g → ¬ HasLock (link_at (drop 3 row) g)) → LocksFit shape (map shape_cell records) was.locks
    locks_then free = subst (λ (l : List ShapeCell). LocksFit shape l was.locks) cells_are
        (locks_moved shape (map shape_cell u.records) was.locks u.parts.locks k hidden (linked own.generation (drop 3 row) 0) was_hidden
        (λ body e. let none : ⊥ = cc in absurd none) (λ body e. let same : drop 3 row ≡ body = cc in λ g may low flag. free g may low (subst (λ (b : List ℕ). HasLock (link_at b g)) (sym same) flag)))

    module _ (word f : ℕ) (is : word ≡ address setup.callers (Field (index_of o) f)) (low : 3 ≤ f) (high : f < 8) where
      -- A step that finds the old link leaves one to the own record, with these locks
      pub publishes : ShapeLaws shape → CoverLaws cover → v.setup ≡ setup → Holds v o → (kind : StepKind) → IsCalm kind → (old : LinkParts) (next : Option Near) (call : Option Call) (is_new : IsLink (clean own)) → IsNextOf v old.target next → Decides shape v call
          → shape.may_publish setup (near_of v o) f old (drop 3 row) next call → link_in (get_or n.node.row f 0) ≡ old → own_in (link_word setup o old) ≡ generation_at setup o → LeavesLink kind (link_word v.setup o old) (link_word v.setup o (clean own))
          → (locks : List LockedWord) → (LocksFit shape (map shape_cell records) was.locks → Locked shape cover setup is_setup s u id v at present o n f low high records node_there (clean own) is_new locks)
          → (w : View) × Rule shape cover setup record { words = set s.words word (link_word setup o (clean own)); homes = s.homes; views = set s.views id w } × PublishedBy shape v kind o f old own call locks w
      publishes shaped covering same holds kind calm old next call is_new is_next dec may old_is own_is by locks locked = let new : LinkParts = clean own in let is_ref : IsRef own = is_new.target in
          let t : Step = node_step v kind o f (link_word v.setup o old) (link_word v.setup o new) in let step : NodeStep = record { caller = c; number = length v.own.answered + 1; near = near_of v o; field = f; old = old; call = call } in
          let mine : List (Option Share) = set v.own.mine k None in let w : View = view_after shape cover setup is_setup s u id v at present o n word f is low high same holds new is_new call dec t mine locks records u.taken_out in
          let node = node_with shape cover setup is_setup s u id v at present o n f old low old_is in
          let kept = shaped.publishes setup (shape_input was) (trace was) step own (drop 3 row) 0 next
          (given shape cover setup s u) node (fits_next old.target next is_next) was_hidden is_ref x.five
          own_new may in (
            w,
            leaves shape cover setup is_setup s u id v at present o n word f is low high same holds new is_new call dec t mine locks records u.taken_out old old_is node_there
                (finds_held shape cover setup is_setup s u id v at present o n kind f (link_word v.setup o old) (link_word v.setup o new) (subst (λ (z : Setup). own_in (link_word z o old) ≡ generation_at setup o) (sym same) own_is)
                (subst (λ (z : Setup). own_in (link_word z o new) ≡ generation_at setup o) (sym same) (own_in-packed_link (generation_at setup o) new is_new)) by) (λ e. cc)
                (link_retires_none setup.first u.records records t (index_of o) f refl low n.some_index n.node node_there
                (let left = subst (λ (z : Setup). own_in (link_word z o new) ≡ generation_at setup o) (sym same) (own_in-packed_link (generation_at setup o) new is_new) in let node = n.generation in omega arith) (shows_moved setup.first u.records k q q' x.there refl (sym (ap retired_as x.place)))) (starts_itself u.taken_out)
                (published_places setup u.records u.books m c k v.own w.own q u.places (book shape cover setup s u id v at present) x.there x.place refl refl (calm_after v.own.drawing v.setup.records t calm))
                (counts_moved setup.first u.records u.books c v.own w.own (book shape cover setup s u id v at present) u.counts k q q' x.there
                (balances_same setup.first v.own.moves v.own.moves q q' refl refl refl refl refl (sym (ap drawn_as x.place)) (sym (ap retired_as x.place)) (sym (ap freed_as x.place)))) taken (held is_ref) (scheme covering)
                (subst (λ (l : List ShapeCell). Keeps shape setup (shape_input was) (trace was) (near_of v o) f old node new (own_update v call)
                record (shape_input was) { cells = set l (index_of o - 1) (cell_after shape cover setup is_setup s u id v at present o n word f is low high same holds new is_new call dec t mine locks records u.taken_out old) }) cells_are kept)
                (locked (locks_then (shaped.comes_unlocked setup (shape_input was) step (drop 3 row) next node may)) (marked_after n.node.marked old new (length u.updates))),
            record {
              updates = u.updates;
              taken_out = u.taken_out;
              whole = are_whole shape cover setup s u id v at present;
              body = with_link (drop 3 n.node.row) f n.node.generation new;
              word = new_word shape cover setup is_setup s u id v at present o n word f is low high same holds new is_new call dec t mine locks records u.taken_out;
              view = refl;
            },
          )

-- a link to a record is one
pub clean_is : (r : RefParts) → IsRef r → IsLink (clean r)
clean_is r is_ref = record { flags = omega arith; target = is_ref }

-- and isn't locked
pub clean_unlocked : (r : RefParts) → ¬ HasLock (clean r)
clean_unlocked r e = let none : ⊥ = cc in none

module _ (shape : ShapeFacts) (cover : CoverFacts) (shaped : ShapeLaws shape) (covering : CoverLaws cover) (setup : Setup) (is_setup : IsSetup setup) where
  -- Where the set allows it by what the caller knows, an own record may be linked in front of the next node, where the node's link isn't locked
  pub publishes_link : (id word f : ℕ) (v : View) (o : Origin) (old : LinkParts) (own : RefParts) (row : List ℕ) (next : Option Near) (call : Option Call) → v.present ≡ true → v.setup ≡ setup → word ≡ address setup.callers (Field (index_of o) f) → 3 ≤ f → f < 8 → IsLinkField f
      → Holds v o → IsLink old → IsUnlocked shape f old → IsRef own → HasOwn v own row → IsNextOf v old.target next → Decides shape v call → shape.may_publish setup (near_of v o) f old (drop 3 row) next call
      → Lawful (Rule shape cover setup) id v word (λ n. cond (eqb n (link_word setup o old)) (link_word setup o (clean own)) n) (λ n w. ToldPublish shape v o f old own call n w)
  publishes_link id word f v o old own row next call present same is low high field holds is_old clear is_ref has is_next dec may s u at = let n = node_of shape cover setup is_setup s u id v at present o holds in
      let q = own_record shape cover setup is_setup s u id v at present own row has in let is_new = clean_is own is_ref in
      let x = by_link shape cover setup is_setup s u id v at present o n word f is low high field same old (clean own) is_old (PublishedLink shape v o f old own call)
      (λ old_is own_is. publishes shape cover setup is_setup s u id v at present o n own row q.0 q.1 word f is low high shaped covering same holds Exchange tt old next call is_new is_next dec may old_is own_is tt v.own.locks
      (λ h. stay_locked shape cover setup is_setup s u id v at present o n f low high _ (node_there shape cover setup is_setup s u id v at present o n own row q.0 q.1) (clean own) is_new h old old_is clear (λ _. clean_unlocked own))) in (x.0, x.1, record { made = x.2; refused = x.3 })
