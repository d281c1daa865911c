-- A step that leaves a link of a root or of a record that its caller holds: what all such steps share, and the exchange of a link.
use Rattle.std.proofs.Common.{length-append, ◌≡◌, ◌≢◌, ℕ, ◌+◌, ◌-◌, ◌<◌, ◌≤◌, List, map, length, get_or, drop, set, length-set, true, cond, eqb, sym, refl, ap, ◌∙◌, subst, arith, Option, get_or-set_same, inr}
use Rattle.std.proofs.lemmas.List.{map-set}
use mathlib.Core.Option.{some}
use lib.ListN.{get_elem?}
use Rattle.atomic_table.specs.Table.{State}
use Rattle.atomic_table.proofs.Lists.{at_map, set_here, set_again, exchanged}
use Rattle.set_model.specs.declared.calls.Call.{Call}
use Rattle.set_model.specs.declared.calls.Update.{Update}
use Rattle.record_memory.specs.declared.steps.Word.TheVariants.{Drawn, Field}
use Rattle.record_memory.specs.declared.steps.StepKind.{StepKind}
use Rattle.record_memory.specs.declared.steps.StepKind.TheVariants.{Exchange}
use Rattle.record_memory.specs.declared.books.LockedWord.{LockedWord}
use Rattle.record_memory.specs.declared.steps.Step.{Step}
use Rattle.record_memory.specs.declared.books.Setup.{Setup}
use Rattle.record_memory.specs.declared.books.View.{View}
use Rattle.record_memory.specs.declared.books.Guard.{Guard}
use Rattle.record_memory.specs.declared.books.Note.{Note}
use Rattle.record_memory.specs.declared.books.Share.{Share}
use Rattle.record_memory.specs.Memory.{Memory, memory, address, put}
use Rattle.record_memory.proofs.Stores.{stores}
use Rattle.row_words.specs.Refs.{RefParts, LinkParts}
use Rattle.row_words.specs.Packing.{link_in, packed_link, own_in, IsLink}
use Rattle.row_words.proofs.Packed.{own_in-packed_link, link_in-packed_link, is_packed_link}
use Rattle.record_rule.specs.Records.{Record, IsSetup, IsLinkField}
use Rattle.record_rule.specs.Inputs.{ShapeInput, start_of, ShapeCell, shape_cell, scheme_cell, taken_cell, guard_of, notes_of, roots_of, locks_of, answered_of, offer_of, Outline, outline, shape_input, trace, scheme_input}
use Rattle.record_rule.specs.Facts.{of_root, of_held, At, word_in, with_link, ShapeFacts, CoverFacts}
use Rattle.record_rule.specs.Laws.{recelled, marked_after, with_update, Keeps, ShapeLaws, CoverLaws}
use Rattle.record_rule.specs.Taken.{TakenFits}
use Rattle.record_rule.specs.Held.{HeldFits}
use Rattle.record_rule.specs.Known.{KnownFits}
use Rattle.record_rule.specs.World.{StartsWith, IsRecent, Places, Parts, Rule}
use Rattle.record_rule.specs.Counts.{CountsFit}
use Rattle.record_rule.specs.Recorded.{LeavesLink, StepFits}
use Rattle.record_rule.specs.Kinds.{Lawful}
use Rattle.record_rule.specs.Links.{Origin, index_of, generation_at, near_of, Holds, Decides, node_step, with_step, noting, own_update, decided, RefusedLink, link_word, locks_after, LeftLink, ExchangedLink, ToldExchange}
use Rattle.record_rule.specs.Locks.{LocksFit}
use Rattle.record_rule.specs.LockedLinks.{IsUnlocked}
use Rattle.record_rule.proofs.Lists.{below_at, map_set_same}
use Rattle.record_rule.proofs.Rebuilt.{starts_itself, one_more, Steps, counters, elsewhere, stepped, made_more}
use Rattle.record_rule.proofs.Retirements.{LeavesRetirements, link_retires_none, same_records, same_then, shows_moved}
use Rattle.record_rule.proofs.Quiet.{IsCalm, calm_after, places_calm}
use Rattle.record_rule.proofs.Owners.{index_in}
use Rattle.record_rule.proofs.HeldMoves.{has_recelled, held_relinked}
use Rattle.record_rule.proofs.Recents.{recent_more, recent_noting}
use Rattle.record_rule.proofs.Counts.{counts_calm, counts_seen}
use Rattle.record_rule.proofs.HistoryMoves.{Grows, grows}
use Rattle.record_rule.proofs.Moves.{IsSeenOrRoot, whole, relinked_record, relinked_places, HasCells, relinked_cells}
use Rattle.record_rule.proofs.Permitted.{either_is}
use Rattle.record_rule.proofs.Steps.{before, given, book, are_whole, noted_within, recent_now, own_behind, kept_calm}
use Rattle.record_rule.proofs.Nodes.{NodeOf, noted_there, node_of, five, node_with, found_word, found_own, finds_held, node_finds, found_link}
use Rattle.record_rule.proofs.LockedNodes.{Locked, exchange_locked}
use Rattle.record_rule.proofs.Outlines.{each_held, held_noting, each_known, known_noting}

-- an exchange finds the old word or another one
by_found : (n old new : ℕ) (F : ℕ → Type 0) → (n ≡ old → F new) → (n ≢ old → F n) → F (cond (eqb n old) new n)
by_found n old new F hit miss = subst F (sym (either_is (eqb n old) new n)) (exchanged n old new F hit miss)

module _ (shape : ShapeFacts) (cover : CoverFacts) (setup : Setup) (is_setup : IsSetup setup) (s : State (Unit {0}) View) (u : Rule shape cover setup s) (id : ℕ) (v : View) (at : get_elem? s.views id ≡ some v) (present : v.present ≡ true) where
  abbrev m : Memory
  m = memory setup.callers setup.records s.words

  abbrev c : ℕ
  c = v.own.caller

  -- what the facts read before the step
  abbrev was : Outline
  was = before shape cover setup s u

  -- the caller's book
  abbrev own_place : At u.books v.own.caller v.own
  own_place = book shape cover setup s u id v at present

  module _ (o : Origin) (n : NodeOf shape cover setup is_setup s u id v at present o) (word f : ℕ) (is : word ≡ address setup.callers (Field (index_of o) f)) (low : 3 ≤ f) (high : f < 8) where
    -- what the step finds
    abbrev found : ℕ
    found = get_or s.words word 0

    -- the rule after the step left this, and its caller knows w
    abbrev Left : ℕ → View → Type 0
    Left value w = Rule shape cover setup record { words = set s.words word value; homes = s.homes; views = set s.views id w }

    -- it is the node's word
    found_is : found ≡ get_or n.node.row f 0
    found_is = found_word shape cover setup is_setup s u id v at present o n word f is high

    -- An exchange of a link: `made` is for where it finds the old link, and where it finds another one it changes nothing
    pub by_link : IsLinkField f → v.setup ≡ setup → (old new : LinkParts) → IsLink old → (Made : View → Type 0) → (link_in (get_or n.node.row f 0) ≡ old → own_in (link_word setup o old) ≡ generation_at setup o → (w : View) × Left (link_word setup o new) w × Made w)
        → (w : View) × Left (cond (eqb found (link_word setup o old)) (link_word setup o new) found) w × (found ≡ link_word v.setup o old → Made w) × (found ≢ link_word v.setup o old → RefusedLink v o f found w)
    by_link field same old new is_old Made made = let keyed : link_word v.setup o old ≡ link_word setup o old = ap (λ (z : Setup). link_word z o old) same in let t : Step = node_step v Exchange o f found found in
        by_found found (link_word setup o old) (link_word setup o new) (λ x. (w : View) × Left x w × (found ≡ link_word v.setup o old → Made w) × (found ≢ link_word v.setup o old → RefusedLink v o f found w))
        (λ e. let x = made (ap link_in (sym found_is ∙ e) ∙ link_in-packed_link (generation_at setup o) old is_old) (ap own_in (sym e) ∙ found_own shape cover setup is_setup s u id v at present o n word f is high) in (x.0, x.1, λ _. x.2, λ ne. absurd (ne (e ∙ sym keyed))))
        (λ ne. (
          record v { own = with_step v.own v.setup.records t },
          kept_calm shape cover setup s u id v at present word t (node_finds shape cover setup is_setup s u id v at present o n Exchange word f is high (inr refl)) (λ e. let none : ⊥ = cc in absurd none) tt,
          λ e. absurd (ne (e ∙ keyed)),
          λ _. record {
            link = found_link shape cover setup is_setup s u id v at present o n f found field found_is;
            own = ap own_in found_is ∙ (u.places.sound (index_of o - 1) n.node n.there).generations f high ∙ whole n.node.place n.node.generation f (λ d k e. subst IsSeenOrRoot e n.seen) ∙ n.generation ∙ ap (λ (z : Setup). generation_at z o) (sym same);
            view = refl;
          },
        ))

    module _ (same : v.setup ≡ setup) (holds : Holds v o) (new : LinkParts) (is_new : IsLink new) (call : Option Call) (dec : Decides shape v call) (t : Step) (mine : List (Option Share)) (locks : List LockedWord) (records : List Record) (taken_out : List RefParts) where
      -- the node's body before the step
      abbrev body : List ℕ
      body = drop 3 n.node.row

      -- the node's body, marked position and cell after the step
      abbrev body' : List ℕ
      body' = with_link body f n.node.generation new

      abbrev marked' : LinkParts → ℕ
      marked' old = marked_after n.node.marked old new (length u.updates)

      -- how a set sees the node afterwards
      abbrev pub cell_after : LinkParts → ShapeCell
      cell_after old = recelled (shape_cell n.node) body' (marked' old)

      -- what the pass knows afterwards
      abbrev pub view_after : View
      view_after = decided v u.updates taken_out call (record (with_step v.own v.setup.records t) { mine = mine; locks = locks; notes = noting (shape.settled f body') v.own.notes o f (link_word v.setup o new) })

      -- the updates and the words afterwards
      abbrev updates' : List Update
      updates' = with_update u.updates (own_update v call)

      abbrev words' : List ℕ
      words' = set s.words word (link_word setup o new)

      abbrev m' : Memory
      m' = memory setup.callers setup.records words'

      -- the new word carries the node's generation
      new_own : own_in (link_word setup o new) ≡ n.node.generation
      new_own = own_in-packed_link (generation_at setup o) new is_new ∙ sym n.generation

      -- and is in its body then
      pub new_word : word_in body' f ≡ link_word v.setup o new
      new_word = get_or-set_same body (f - 3) (packed_link n.node.generation new) 0 (let e = five shape cover setup is_setup s u id v at present o n in omega arith)
          ∙ (λ k. packed_link (n.generation k) new) ∙ ap (λ (z : Setup). link_word z o new) (sym same)

      -- what the words say after the store
      stored_words : m' ≡ put m (Field (index_of o) f) (link_word setup o new)
      stored_words = ap (λ (z : ℕ). memory setup.callers setup.records (set s.words z (link_word setup o new))) is
          ∙ stores setup.callers setup.records s.words (Field (index_of o) f) (link_word setup o new) u.wide (n.some_index, index_in shape cover setup s u id v at present (index_of o) n.node n.some_index n.there, high)

      module _ (old : LinkParts) (old_is : link_in (get_or n.node.row f 0) ≡ old) (there : At records (index_of o - 1) n.node) (finds : StepFits setup c t) (other : ¬ (t.word ≡ Drawn)) (retired : LeavesRetirements setup.first u.records records t)
          (more : StartsWith taken_out u.taken_out)
          (places : Places setup records (set u.books v.own.caller view_after.own) m) (counts : CountsFit setup.first records (set u.books v.own.caller view_after.own))
          (taken : TakenFits setup (map taken_cell records) taken_out)
          (held : (d : ℕ) (g : Guard) (notes : List Note) → At was.guards d g → At was.notes d notes → HeldFits shape cover.places (map shape_cell records) taken_out g notes)
          (scheme : cover.covered setup record (scheme_input was) { cells = map scheme_cell records; taken_out = taken_out })
          (keeps : Keeps shape setup (shape_input was) (trace was) (near_of v o) f old (node_with shape cover setup is_setup s u id v at present o n f old low old_is) new (own_update v call)
          record { cells = set (map shape_cell records) (index_of o - 1) (cell_after old); taken_out = taken_out })
          (locked : LocksFit shape (set (map shape_cell records) (index_of o - 1) (cell_after old)) (set was.locks c locks)) where
        -- where the node stands in the list, and the node after the step
        abbrev i : ℕ
        i = index_of o - 1

        abbrev r' : Record
        r' = relinked_record f (link_word setup o new) (marked' old) n.node

        -- how a set sees the records before the link is left
        abbrev cells : List ShapeCell
        cells = map shape_cell records

        -- how the facts see the node now
        seen_as : HasCells r' (cell_after old) (scheme_cell n.node) (taken_cell n.node)
        seen_as = let c = relinked_cells f (link_word setup o new) (marked' old) n.node low in record {
          shape_is = c.shape_is ∙ (λ k. recelled (shape_cell n.node) (set body (f - 3) (packed_link (sym n.generation k) new)) (marked' old));
          scheme_is = c.scheme_is;
          taken_is = c.taken_is;
        }

        -- the history grows as the set allows
        grown_by : Grows shape setup.set u.updates was.answered was.offers v call (own_update v call)
        grown_by = grows shape setup.set u.updates was.answered was.offers v u.parts.history (at_map answered_of u.books c v.own own_place) (at_map offer_of u.books c v.own own_place) (u.seated id v at).front (own_behind shape cover setup s u id v at present) call dec keeps.legal

        more_updates : length u.updates ≤ length updates'
        more_updates = let b = ap length (grown_by.more).1 in let l = length-append u.updates (grown_by.more).0 in omega arith

        more_taken_out : length u.taken_out ≤ length taken_out
        more_taken_out = let b = ap length more.1 in let l = length-append u.taken_out more.0 in omega arith

        -- what it notes reaches as far as its caller's guard and notes
        recent_then : IsRecent (length updates') (length taken_out) v.own.guard view_after.own.notes
        recent_then = recent_noting (length updates') (length taken_out) v.own.guard v.own.notes (shape.settled f body') o f (link_word v.setup o new) (noted_there shape cover setup is_setup s u id v at present o holds)
            (recent_more (length u.updates) (length updates') (length u.taken_out) (length taken_out) v.own.guard v.own.notes more_updates more_taken_out (recent_now shape cover setup s u id v at present))

        -- what the pass knows then is so
        steps : Steps setup taken_out updates' v view_after
        steps = record {
          setup = refl;
          present = present;
          others = refl;
          caller = refl;
          front = grown_by.front;
          seen_updates = starts_itself updates';
          seen_taken_out = starts_itself taken_out;
          longer = grown_by.longer;
          more_noted = (let a = (noted_within shape cover setup s u id v at present).0 in let b = more_updates in omega arith, let a = (noted_within shape cover setup s u id v at present).1 in let b = more_taken_out in omega arith);
          recent = λ _. recent_then;
          behind = grown_by.behind;
          start_made = one_more v.own.guard.start_step v.own.steps t;
          made = λ h. made_more setup c v.own.steps t finds h;
        }

        -- and so is where the records are
        places_after : Places setup (set records i r') (set u.books c view_after.own) m'
        places_after = subst (Places setup (set records i r') (set u.books c view_after.own)) (sym stored_words)
            (relinked_places setup records (set u.books c view_after.own) m (index_of o) f (link_word setup o new) (marked' old) n.node places there low high n.seen new_own
            (λ _. is_packed_link (link_word setup o new) (generation_at setup o) new is_new refl))

        -- what a caller holds fits the node's new cell
        each_relinked : (g : Guard) (notes : List Note) → HeldFits shape cover.places cells taken_out g notes → HeldFits shape cover.places (set cells i (cell_after old)) taken_out g notes
        each_relinked g notes h = held_relinked shape cover.places cells taken_out g notes i n.node.generation n.node.marked (marked' old) f n.node.generation (shape_cell n.node) body new h
            (at_map shape_cell records i n.node there) n.body low keeps.unsettled keeps.settled

        -- what the caller of the step holds does, with what it notes now
        own_relinked : HeldFits shape cover.places (set cells i (cell_after old)) taken_out v.own.guard view_after.own.notes
        own_relinked = held_noting shape (set cells i (cell_after old)) i n.node.generation (marked' old) f (link_word v.setup o new) body' (cell_after old)
            (set_here cells i (cell_after old) (below_at cells i (shape_cell n.node) (at_map shape_cell records i n.node there)))
            (has_recelled (shape_cell n.node) n.node.generation n.node.marked (marked' old) body body' n.body) low new_word cover.places taken_out v.own.guard v.own.notes o
            (each_relinked v.own.guard v.own.notes (held c v.own.guard v.own.notes (at_map guard_of u.books c v.own own_place) (at_map notes_of u.books c v.own own_place)))
            (noted_there shape cover setup is_setup s u id v at present o holds)
            (let pos = n.some_index in omega arith)

        -- so what each caller holds fits
        held_after : (d : ℕ) (g : Guard) (notes : List Note) → At was.guards d g → At (set was.notes c view_after.own.notes) d notes → HeldFits shape cover.places (set cells i (cell_after old)) taken_out g notes
        held_after d g notes ag an = each_held (HeldFits shape cover.places (set cells i (cell_after old)) taken_out) was.guards was.notes c v.own.guard view_after.own.notes
            (λ e h l p q. each_relinked h l (held e h l p q)) own_relinked d g notes
            (subst (λ (gs : List Guard). At gs d g) (sym (set_again was.guards c v.own.guard (at_map guard_of u.books c v.own own_place))) ag) an

        -- how a set sees the table afterwards
        abbrev then : ShapeInput
        then = record { cells = set cells i (cell_after old); taken_out = taken_out }

        -- what each caller keeps is so still
        known_then : (d : ℕ) (g : Guard) (notes : List Note) (roots : List (List ℕ)) → At was.guards d g → At was.notes d notes → At was.roots d roots → KnownFits shape setup then updates' g notes roots
        known_then d g notes roots ag an ar = let k = u.parts.known d g notes roots ag an ar in record { held = λ p r note hold there. keeps.known (start_of g) (of_held r note.kept) (k.held p r note hold there); root = λ n l there. keeps.known (start_of g) (of_root n l) (k.root n l there) }

        known_after : (d : ℕ) (g : Guard) (notes : List Note) (roots : List (List ℕ)) → At was.guards d g → At (set was.notes c view_after.own.notes) d notes → At was.roots d roots → KnownFits shape setup then updates' g notes roots
        known_after d g notes roots ag an ar = each_known (KnownFits shape setup then updates') was.guards was.notes was.roots c v.own.guard view_after.own.notes v.own.root_notes known_then
            (known_noting shape setup then updates' v.own.guard v.own.notes v.own.root_notes (shape.settled f body') o f (link_word v.setup o new) (noted_there shape cover setup is_setup s u id v at present o holds)
            (known_then c v.own.guard v.own.notes v.own.root_notes (at_map guard_of u.books c v.own own_place) (at_map notes_of u.books c v.own own_place) (at_map roots_of u.books c v.own own_place))) d g notes roots
            (subst (λ (gs : List Guard). At gs d g) (sym (set_again was.guards c v.own.guard (at_map guard_of u.books c v.own own_place))) ag) an
            (subst (λ (rs : List (List (List ℕ))). At rs d roots) (sym (set_again was.roots c v.own.root_notes (at_map roots_of u.books c v.own own_place))) ar)

        -- the table afterwards, as the facts read it
        abbrev now : Outline
        now = outline m' (set records i r') (set u.books c view_after.own) taken_out updates'

        -- what the facts read now
        now_is : now ≡ record {
          shapes = set cells i (cell_after old);
          schemes = map scheme_cell records;
          takings = map taken_cell records;
          epoch = m.epoch;
          announced = m.announced;
          taken_out = taken_out;
          updates = updates';
          guards = was.guards;
          notes = set was.notes c view_after.own.notes;
          roots = was.roots;
          locks = set was.locks c locks;
          answered = set was.answered c view_after.own.answered;
          offers = was.offers;
        }
        now_is = λ k. record {
          shapes = (map-set shape_cell records i r' ∙ ap (set cells i) seen_as.shape_is) k;
          schemes = map_set_same scheme_cell records i n.node r' there seen_as.scheme_is k;
          takings = map_set_same taken_cell records i n.node r' there seen_as.taken_is k;
          epoch = ap (λ (x : Memory). x.epoch) stored_words k;
          announced = ap (λ (x : Memory). x.announced) stored_words k;
          taken_out = taken_out;
          updates = updates';
          guards = map_set_same guard_of u.books c v.own view_after.own own_place refl k;
          notes = map-set notes_of u.books c view_after.own k;
          roots = map_set_same roots_of u.books c v.own view_after.own own_place refl k;
          locks = map-set locks_of u.books c view_after.own k;
          answered = map-set answered_of u.books c view_after.own k;
          offers = map_set_same offer_of u.books c v.own view_after.own own_place refl k;
        }

        -- the node shows as many retirements as before
        retired_after : LeavesRetirements setup.first u.records (set records i r') t
        retired_after = same_then setup.first u.records records (set records i r') t retired (shows_moved setup.first records i n.node r' there refl refl)

        -- A step that leaves the new link in the node's word keeps the rule, where what else it changed does
        pub leaves : Rule shape cover setup record { words = words'; homes = s.homes; views = set s.views id view_after }
        leaves = stepped shape cover setup s u id v view_after at present words' (length-set s.words word (link_word setup o new) ∙ u.wide) (set records i r') taken_out updates' more grown_by.more steps
            t refl (elsewhere t (ap counters stored_words) refl other) retired_after places_after
            (subst (Parts shape cover setup) (sym now_is) record {
              taken = taken;
              held = held_after;
              known = known_after;
              locks = locked;
              shape = keeps.stands.0;
              told = keeps.stands.1;
              scheme = scheme;
              history = grown_by.history;
              words = u.parts.words;
              begun = λ d g there. let a = u.parts.begun d g there in let b = ap length (grown_by.more).1 in let l = length-append u.updates (grown_by.more).0 in omega arith;
            }) (counts_seen setup.first records (set u.books c view_after.own) i n.node r' there refl refl counts)

    -- A step that finds the old link leaves the new one, with these locks
    pub relinks : ShapeLaws shape → v.setup ≡ setup → Holds v o → (kind : StepKind) → IsCalm kind → (old new : LinkParts) (call : Option Call) (is_new : IsLink new) → Decides shape v call → shape.may_exchange setup (near_of v o) f old new call
        → link_in (get_or n.node.row f 0) ≡ old → own_in (link_word setup o old) ≡ generation_at setup o → LeavesLink kind (link_word v.setup o old) (link_word v.setup o new)
        → (locks : List LockedWord) → Locked shape cover setup is_setup s u id v at present o n f low high u.records n.there new is_new locks → (w : View) × Left (link_word setup o new) w × LeftLink shape v kind o f old new call locks w
    relinks shaped same holds kind calm old new call is_new dec may old_is own_is by locks locked = let t : Step = node_step v kind o f (link_word v.setup o old) (link_word v.setup o new) in
        let mine : List (Option Share) = v.own.mine in let w : View = view_after same holds new is_new call dec t mine locks u.records u.taken_out in (
          w,
          leaves same holds new is_new call dec t mine locks u.records u.taken_out old old_is n.there
              (finds_held shape cover setup is_setup s u id v at present o n kind f (link_word v.setup o old) (link_word v.setup o new) (subst (λ (z : Setup). own_in (link_word z o old) ≡ generation_at setup o) (sym same) own_is)
              (subst (λ (z : Setup). own_in (link_word z o new) ≡ generation_at setup o) (sym same) (own_in-packed_link (generation_at setup o) new is_new)) by) (λ e. cc)
              (link_retires_none setup.first u.records u.records t (index_of o) f refl low n.some_index n.node n.there
              (let left = subst (λ (z : Setup). own_in (link_word z o new) ≡ generation_at setup o) (sym same) (own_in-packed_link (generation_at setup o) new is_new) in let node = n.generation in omega arith) (same_records setup.first u.records)) (starts_itself u.taken_out)
              (places_calm setup u.records u.books m c v.own w.own own_place refl refl (calm_after v.own.drawing v.setup.records t calm) u.places) (counts_calm setup.first u.records u.books c v.own w.own own_place u.counts refl) u.parts.taken u.parts.held u.parts.scheme
              (shaped.exchanges setup (shape_input was) (trace was) record { caller = c; number = length v.own.answered + 1; near = near_of v o; field = f; old = old; call = call } new (given shape cover setup s u)
              (node_with shape cover setup is_setup s u id v at present o n f old low old_is) is_new may) (locked (marked_after n.node.marked old new (length u.updates))),
          record {
            updates = u.updates;
            taken_out = u.taken_out;
            whole = are_whole shape cover setup s u id v at present;
            body = with_link (drop 3 n.node.row) f n.node.generation new;
            word = new_word same holds new is_new call dec t mine locks u.records u.taken_out;
            view = refl;
          },
        )

    -- An exchange that finds the old link, which isn't locked, leaves the new one
    exchanges : ShapeLaws shape → v.setup ≡ setup → Holds v o → (old new : LinkParts) (call : Option Call) → IsLink new → IsUnlocked shape f old → Decides shape v call → shape.may_exchange setup (near_of v o) f old new call
        → link_in (get_or n.node.row f 0) ≡ old → own_in (link_word setup o old) ≡ generation_at setup o → (w : View) × Left (link_word setup o new) w × ExchangedLink shape v o f old new call w
    exchanges shaped same holds old new call is_new clear dec may old_is own_is = relinks shaped same holds Exchange tt old new call is_new dec may old_is own_is tt (locks_after shape v o f new)
        (exchange_locked shape cover setup is_setup s u id v at present o n f low high u.records n.there new is_new u.parts.locks old old_is clear same
        (λ lockable flag. shaped.locks setup (shape_input was) record { caller = c; number = length v.own.answered + 1; near = near_of v o; field = f; old = old; call = call } new u.parts.shape
        (node_with shape cover setup is_setup s u id v at present o n f old low old_is) may lockable (clear lockable) flag))

module _ (shape : ShapeFacts) (cover : CoverFacts) (shaped : ShapeLaws shape) (covering : CoverLaws cover) (setup : Setup) (is_setup : IsSetup setup) where
  -- Where the set allows it by what the caller knows, a link that isn't locked may be exchanged for another
  pub exchanges_link : (id word f : ℕ) (v : View) (o : Origin) (old new : LinkParts) (call : Option Call) → v.present ≡ true → v.setup ≡ setup → word ≡ address setup.callers (Field (index_of o) f) → 3 ≤ f → f < 8 → IsLinkField f
      → Holds v o → IsLink old → IsLink new → IsUnlocked shape f old → Decides shape v call → shape.may_exchange setup (near_of v o) f old new call
      → Lawful (Rule shape cover setup) id v word (λ n. cond (eqb n (link_word setup o old)) (link_word setup o new) n) (λ n w. ToldExchange shape v o f old new call n w)
  exchanges_link id word f v o old new call present same is low high field holds is_old is_new clear dec may s u at = let n = node_of shape cover setup is_setup s u id v at present o holds in
      let x = by_link shape cover setup is_setup s u id v at present o n word f is low high field same old new is_old (ExchangedLink shape v o f old new call)
      (exchanges shape cover setup is_setup s u id v at present o n word f is low high shaped same holds old new call is_new clear dec may) in (x.0, x.1, record { made = x.2; refused = x.3 })
