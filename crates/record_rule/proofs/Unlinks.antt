-- A held record is taken out: the link of its predecessor that leads to it is exchanged for another one, or the exchange is refused.
use Rattle.std.proofs.Common.{◌≡◌, ◌≢◌, ℕ, ◌+◌, ◌-◌, ◌<◌, ◌≤◌, List, [], ◌∷◌, ◌++◌, map, length, get_or, take, drop, set, length-take, true, cond, eqb, sym, refl, ap, ◌∙◌, subst, arith, Option, Some, None, inl, inr, ◌⊎◌, ⊎_elim}
use Rattle.std.proofs.lemmas.List.{length-map, map-set, append-nil}
use mathlib.Core.Option.{some}
use lib.ListN.{get_elem?}
use Rattle.atomic_table.specs.Table.{State}
use Rattle.atomic_table.proofs.Lists.{at_map, set_else}
use Rattle.record_memory.specs.declared.steps.Word.TheVariants.{Field}
use Rattle.record_memory.specs.declared.steps.StepKind.{StepKind}
use Rattle.record_memory.specs.declared.steps.StepKind.TheVariants.{Exchange}
use Rattle.record_memory.specs.declared.books.LockedWord.{LockedWord}
use Rattle.record_memory.specs.declared.steps.Step.{Step}
use Rattle.record_memory.specs.declared.books.Setup.{Setup}
use Rattle.record_memory.specs.declared.books.View.{View}
use Rattle.record_memory.specs.declared.books.Guard.{Guard}
use Rattle.record_memory.specs.declared.books.Note.{Note}
use Rattle.record_memory.specs.declared.books.Share.{Share}
use Rattle.record_memory.specs.declared.books.Answered.{Answered}
use Rattle.record_memory.specs.declared.books.Standing.TheVariants.{TakenOut}
use Rattle.record_memory.specs.declared.books.Place.{Place}
use Rattle.record_memory.specs.declared.books.Place.TheVariants.{Undrawn, Linked}
use Rattle.record_memory.specs.Memory.{Memory, memory, address}
use Rattle.row_words.specs.Refs.{RefParts, LinkParts, IsRef, refer}
use Rattle.row_words.specs.Packing.{link_in, own_in, IsLink}
use Rattle.row_words.proofs.Packed.{own_in-packed_link}
use Rattle.record_rule.specs.Records.{share, share_at, Record, IsSetup, IsLinkField}
use Rattle.record_rule.specs.Inputs.{ShapeCell, linked, out, shape_cell, SchemeCell, reachable, birth, scheme_cell, TakenCell, untaken, taken_cell, Outline, shape_input, trace, scheme_input}
use Rattle.record_rule.specs.Facts.{At, link_at, with_link, HasLock, clean, Near, ShapeFacts, FitsNext, CoverFacts}
use Rattle.record_rule.specs.Taken.{TakenFits}
use Rattle.record_rule.specs.Held.{HeldFits}
use Rattle.record_rule.specs.Laws.{marked_after, NodeStep, LeadsTo, NodeIs, Keeps, ShapeLaws, CoverLaws}
use Rattle.record_rule.specs.World.{Rule}
use Rattle.record_rule.specs.Kinds.{Lawful}
use Rattle.record_rule.specs.Links.{Origin, from_place, index_of, generation_at, note_in, near_of, Holds, IsNextOf, node_step, link_word, UnlinkedBy, UnlinkedRecord, ToldUnlink}
use Rattle.record_rule.specs.Locks.{LocksFit}
use Rattle.record_rule.specs.LockedLinks.{IsUnlocked}
use Rattle.record_rule.specs.Recorded.{LeavesLink}
use Rattle.record_rule.proofs.Lists.{below_at, one_at, get_at}
use Rattle.record_rule.proofs.Rebuilt.{starts_more}
use Rattle.record_rule.proofs.Retirements.{link_retires_none, shows_moved}
use Rattle.record_rule.proofs.Quiet.{IsCalm, calm_after}
use Rattle.record_rule.proofs.Safe.{linked_place, safe}
use Rattle.record_rule.proofs.HeldMoves.{held_out}
use Rattle.record_rule.proofs.TakenMoves.{one_more_taken}
use Rattle.record_rule.specs.Counts.{drawn_as, retired_as, freed_as}
use Rattle.record_rule.proofs.Counts.{counts_moved, balances_same}
use Rattle.record_rule.proofs.Moves.{taken_record, taken_places, HasCells, taken_cells}
use Rattle.record_rule.proofs.Steps.{before, given, book, are_whole}
use Rattle.record_rule.proofs.Nodes.{NodeOf, node_of, node_with, finds_held}
use Rattle.record_rule.proofs.Publishes.{fits_next, clean_is, clean_unlocked}
use Rattle.record_rule.proofs.Locks.{locks_moved}
use Rattle.record_rule.proofs.LockedNodes.{Locked, stay_locked}
use Rattle.record_rule.proofs.Exchanges.{by_link, view_after, cell_after, new_word, leaves}

module _ (shape : ShapeFacts) (cover : CoverFacts) (shaped : ShapeLaws shape) (setup : Setup) (is_setup : IsSetup setup) (s : State (Unit {0}) View) (u : Rule shape cover setup s) (id : ℕ) (v : View) (at : get_elem? s.views id ≡ some v) (present : v.present ≡ true)
    (o : Origin) (n : NodeOf shape cover setup is_setup s u id v at present o) (f : ℕ) (low : 3 ≤ f) (p : ℕ) (old : LinkParts) (gone : RefParts) (leads : old.target ≡ Some gone) (new : LinkParts) (q : NodeOf shape cover setup is_setup s u id v at present (from_place p gone))
    (next : Option Near) (behind : (next ≡ None) ⊎ IsNextOf v new.target next) (may : shape.may_unlink setup (near_of v o) f old (near_of v (from_place p gone)) new next None) (old_is : link_in (get_or n.node.row f 0) ≡ old) where
  abbrev m : Memory
  m = memory setup.callers setup.records s.words

  abbrev c : ℕ
  c = v.own.caller

  -- what the facts read before the step
  abbrev was : Outline
  was = before shape cover setup s u

  -- the record that is taken out, as its holder knows it, and how many were taken out before it
  abbrev r : Record
  r = q.node

  abbrev k : ℕ
  k = gone.index - 1

  abbrev count : ℕ
  count = length u.taken_out

  -- its predecessor, as the laws of a set take it
  abbrev pred : NodeIs shape was.shapes (near_of v o) f old
  pred = node_with shape cover setup is_setup s u id v at present o n f old low old_is

  -- the step, as they take it
  abbrev step : NodeStep
  step = record { caller = c; number = length v.own.answered + 1; near = near_of v o; field = f; old = old; call = None }

  -- the record is linked, and another one
  gone_law : LeadsTo was.shapes gone × (index_of o - 1 ≢ k)
  gone_law = shaped.gone_linked setup (shape_input was) step gone (note_in v.own.notes p) new next u.parts.shape pred leads may

  -- what the caller knows of the node behind it fits
  next_fits : (next ≡ None) ⊎ FitsNext shape was.shapes new.target next
  next_fits = ⊎_elim inl (λ x. inr (fits_next shape cover setup is_setup s u id v at present new.target next x)) behind

  -- so its place is that of a linked record
  gone_place : r.place ≡ Linked
  gone_place = let l = gone_law.0 in (linked_place gone.generation l.1 l.0 r.place r (one_at was.shapes k (shape_cell r) (linked gone.generation l.0 l.1) (at_map shape_cell u.records k r q.there) l.3)).0

  -- its reference in the list of those taken out
  taken_is : refer (k + 1) r.generation ≡ gone
  taken_is = let pos = q.some_index in let e : k + 1 ≡ gone.index = omega arith in λ z. refer (e z) (q.generation z)

  -- the record, the records and the list, once it was taken out
  abbrev r' : Record
  r' = taken_record c count r

  abbrev records : List Record
  records = set u.records k r'

  abbrev taken_out : List RefParts
  taken_out = u.taken_out ++ gone ∷ []

  -- the node is still there
  pub node_there : At records (index_of o - 1) n.node
  node_there = set_else u.records k (index_of o - 1) r' gone_law.1 ∙ n.there

  -- how the facts see the record before that
  was_cells : HasCells r (linked r.generation (drop 3 r.row) r.marked) (reachable r.generation (birth r)) (untaken r.generation)
  was_cells = (taken_cells c count r gone_place).0

  -- how a set sees the records then
  cells_are : set was.shapes k (out r.generation (drop 3 r.row) r.marked count) ≡ map shape_cell records
  cells_are = sym (map-set shape_cell u.records k r')

  -- the list has one reference more
  taken : TakenFits setup (map taken_cell records) taken_out
  taken = subst (λ (z : List TakenCell × RefParts). TakenFits setup z.0 (u.taken_out ++ z.1 ∷ [])) (λ j. (sym (map-set taken_cell u.records k r') j, taken_is j))
      (one_more_taken setup was.takings u.taken_out k r.generation u.parts.taken (at_map taken_cell u.records k r q.there ∙ ap some was_cells.taken_is)
      ((u.places.sound k r q.there).born (λ e. let none : ⊥ = (let z : Linked ≡ Undrawn = sym gone_place ∙ e in cc) in none)))

  -- what each caller holds still fits
  held : (d : ℕ) (g : Guard) (notes : List Note) → At was.guards d g → At was.notes d notes → HeldFits shape cover.places (map shape_cell records) taken_out g notes
  held d g notes ag an = subst (λ (z : List ShapeCell × RefParts). HeldFits shape cover.places z.0 (u.taken_out ++ z.1 ∷ []) g notes) (λ j. (cells_are j, taken_is j))
      (held_out shape cover.places was.shapes u.taken_out g notes k r.generation r.marked (drop 3 r.row) (u.parts.held d g notes ag an) (at_map shape_cell u.records k r q.there ∙ ap some was_cells.shape_is))

  -- the reclaimer allows it
  scheme : CoverLaws cover → cover.covered setup record (scheme_input was) { cells = map scheme_cell records; taken_out = taken_out }
  scheme covering = subst (λ (z : List SchemeCell × RefParts). cover.covered setup (record (scheme_input was) { cells = z.0; taken_out = u.taken_out ++ z.1 ∷ [] })) (λ j. (sym (map-set scheme_cell u.records k r') j, taken_is j))
      (covering.takes setup (scheme_input was) k c r.generation (birth r) (safe shape cover setup u.records u.books u.taken_out u.updates m u.places u.parts) u.parts.scheme (at_map scheme_cell u.records k r q.there ∙ ap some was_cells.scheme_is))

  -- no link of it is locked, so there are as many locks
  locks_then : IsLink new → LocksFit shape (map shape_cell records) was.locks
  locks_then is_link = subst (λ (l : List ShapeCell). LocksFit shape l was.locks) cells_are
      (locks_moved shape was.shapes was.locks u.parts.locks k (linked r.generation (drop 3 r.row) r.marked) (out r.generation (drop 3 r.row) r.marked count) (at_map shape_cell u.records k r q.there ∙ ap some was_cells.shape_is)
      (λ body e. let same : drop 3 r.row ≡ body = cc in free body same) (λ body e. let same : drop 3 r.row ≡ body = cc in free body same))
    where
      free : (body : List ℕ) → drop 3 r.row ≡ body → (g : ℕ) → shape.lockable g ≡ true → 3 ≤ g → ¬ HasLock (link_at body g)
      free body same g lockable low flag = shaped.goes_unlocked setup (shape_input was) step gone (note_in v.own.notes p) new next k r.generation r.marked (drop 3 r.row) u.parts.shape q.fits is_link may g lockable low (subst (λ (b : List ℕ). HasLock (link_at b g)) (sym same) flag)

  module _ (word : ℕ) (is : word ≡ address setup.callers (Field (index_of o) f)) (high : f < 8) (covering : CoverLaws cover) (same : v.setup ≡ setup) (holds : Holds v o) (is_link : IsLink new)
      (kind : StepKind) (calm : IsCalm kind) (locks : List LockedWord) (locked : LocksFit shape (map shape_cell records) was.locks → Locked shape cover setup is_setup s u id v at present o n f low high records node_there new is_link locks) where
    -- the step
    abbrev t : Step
    t = node_step v kind o f (link_word v.setup o old) (link_word v.setup o new)

    -- what its caller knows of the records then
    abbrev mine : List (Option Share)
    mine = set v.own.mine k (Some (record { standing = TakenOut; generation = gone.generation; taken_number = count; words = take 3 r.row }))

    -- what the pass knows then
    abbrev w : View
    w = view_after shape cover setup is_setup s u id v at present o n word f is low high same holds new is_link None tt t mine locks records taken_out

    -- what the set promises of the step
    kept : Keeps shape setup (shape_input was) (trace was) (near_of v o) f old pred new None
        record { cells = set (map shape_cell records) (index_of o - 1) (cell_after shape cover setup is_setup s u id v at present o n word f is low high same holds new is_link None tt t mine locks records taken_out old); taken_out = taken_out }
    kept = subst (λ (l : List ShapeCell). Keeps shape setup (shape_input was) (trace was) (near_of v o) f old pred new None
        record { cells = set l (index_of o - 1) (cell_after shape cover setup is_setup s u id v at present o n word f is low high same holds new is_link None tt t mine locks records taken_out old); taken_out = taken_out }) cells_are
        (shaped.unlinks setup (shape_input was) (trace was) step gone (note_in v.own.notes p) new next k r.generation r.marked (drop 3 r.row) (given shape cover setup s u) pred leads q.fits next_fits is_link may)

    -- A step that finds the link to the record leaves the new one, with these locks
    pub unlinks : own_in (link_word setup o old) ≡ generation_at setup o → LeavesLink kind (link_word v.setup o old) (link_word v.setup o new)
        → (x : View) × Rule shape cover setup record { words = set s.words word (link_word setup o new); homes = s.homes; views = set s.views id x } × UnlinkedBy shape v kind o f old gone new locks x
    unlinks own_is by = (
      w,
      leaves shape cover setup is_setup s u id v at present o n word f is low high same holds new is_link None tt t mine locks records taken_out old old_is node_there
          (finds_held shape cover setup is_setup s u id v at present o n kind f (link_word v.setup o old) (link_word v.setup o new) (subst (λ (z : Setup). own_in (link_word z o old) ≡ generation_at setup o) (sym same) own_is)
          (subst (λ (z : Setup). own_in (link_word z o new) ≡ generation_at setup o) (sym same) (own_in-packed_link (generation_at setup o) new is_link)) by) (λ e. cc)
          (link_retires_none setup.first u.records records t (index_of o) f refl low n.some_index n.node node_there
          (let left = subst (λ (z : Setup). own_in (link_word z o new) ≡ generation_at setup o) (sym same) (own_in-packed_link (generation_at setup o) new is_link) in let node = n.generation in omega arith) (shows_moved setup.first u.records k r r' q.there refl (sym (ap retired_as gone_place)))) (starts_more u.taken_out (gone ∷ []))
          (taken_places setup u.records u.books m c k count v.own w.own r u.places (book shape cover setup s u id v at present) q.there gone_place refl
          (ap (λ (e : ℕ). set v.own.mine k (Some (record { standing = TakenOut; generation = e; taken_number = count; words = take 3 r.row }))) (sym q.generation)) (calm_after v.own.drawing v.setup.records t calm))
          (counts_moved setup.first u.records u.books c v.own w.own (book shape cover setup s u id v at present) u.counts k r r' q.there
          (balances_same setup.first v.own.moves v.own.moves r r' refl refl refl refl refl (sym (ap drawn_as gone_place)) (sym (ap retired_as gone_place)) (sym (ap freed_as gone_place)))) taken held (scheme covering) kept
          (locked (locks_then is_link) (marked_after n.node.marked old new (length u.updates))),
      record {
        updates = u.updates;
        taken_out = u.taken_out;
        whole = are_whole shape cover setup s u id v at present;
        body = with_link (drop 3 n.node.row) f n.node.generation new;
        word = new_word shape cover setup is_setup s u id v at present o n word f is low high same holds new is_link None tt t mine locks records taken_out;
        words = take 3 r.row;
        three = let e = (u.places.sound k r q.there).eight in let l = length-take 3 r.row in omega arith;
        within = let e = below_at u.records k r q.there in let m = u.places.many in let z = ap (λ (y : Setup). y.records) same in let i = q.some_index in omega arith;
        mine = ap length (u.places.books_fit c v.own (book shape cover setup s u id v at present)).mine ∙ length-map u.records (share c) ∙ u.places.many ∙ sym (ap (λ (y : Setup). y.records) same);
        none = ap (λ (l : List (Option Share)). get_or l k None) (u.places.books_fit c v.own (book shape cover setup s u id v at present)).mine ∙ get_at (map (share c) u.records) k (share c r) None (at_map (share c) u.records k r q.there)
            ∙ ap (λ (z : Place). share_at c z r) gone_place;
        view = ap (λ (l : List Answered). record w { own = record w.own { answered = l } }) (append-nil v.own.answered);
      },
    )

module _ (shape : ShapeFacts) (cover : CoverFacts) (shaped : ShapeLaws shape) (covering : CoverLaws cover) (setup : Setup) (is_setup : IsSetup setup) where
  -- A caller may take a record out that it holds, by an exchange of the link that leads to it
  pub unlinks_record : (id word f p : ℕ) (v : View) (o : Origin) (gone : RefParts) (new : LinkParts) (next : Option Near) → v.present ≡ true → v.setup ≡ setup → word ≡ address setup.callers (Field (index_of o) f) → 3 ≤ f → f < 8 → IsLinkField f
      → Holds v o → Holds v (from_place p gone) → IsRef gone → IsLink new → (next ≡ None) ⊎ IsNextOf v new.target next → shape.may_unlink setup (near_of v o) f (clean gone) (near_of v (from_place p gone)) new next None
      → Lawful (Rule shape cover setup) id v word (λ n. cond (eqb n (link_word setup o (clean gone))) (link_word setup o new) n) (λ n w. ToldUnlink shape v o f gone new n w)
  unlinks_record id word f p v o gone new next present same is low high field holds hold gone_ref is_link behind may s u at = let n = node_of shape cover setup is_setup s u id v at present o holds in
      let q = node_of shape cover setup is_setup s u id v at present (from_place p gone) hold in
      let plain : IsUnlocked shape f new = shaped.leaves_unlocked setup record { caller = v.own.caller; number = length v.own.answered + 1; near = near_of v o; field = f; old = clean gone; call = None } gone (note_in v.own.notes p) new next may in
      let x = by_link shape cover setup is_setup s u id v at present o n word f is low high field same (clean gone) new (clean_is gone gone_ref) (UnlinkedRecord shape v o f gone new)
      (λ old_is own_is. unlinks shape cover shaped setup is_setup s u id v at present o n f low p (clean gone) gone refl new q next behind may old_is word is high covering same holds is_link Exchange tt v.own.locks
      (λ h. stay_locked shape cover setup is_setup s u id v at present o n f low high _ (node_there shape cover shaped setup is_setup s u id v at present o n f low p (clean gone) gone refl new q next behind may old_is) new is_link h (clean gone) old_is
      (λ _. clean_unlocked gone) plain) own_is tt) in (x.0, x.1, record { made = x.2; refused = x.3 })
