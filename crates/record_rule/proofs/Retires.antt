-- A record that its caller took out is put away: its stamp is stored, and from then on it is in limbo.
use Rattle.std.proofs.Common.{◌≡◌, ℕ, ◌-◌, ◌<◌, ◌^◌, List, length, get_or, set, length-set, true, sym, refl, ap, ◌∙◌, subst, arith, Option, Some}
use Rattle.std.proofs.lemmas.List.{get_or-take, length-take}
use mathlib.Core.Option.{some}
use lib.ListN.{get_elem?}
use Rattle.atomic_table.specs.Table.{State}
use Rattle.atomic_table.proofs.Lists.{at_map}
use Rattle.record_memory.specs.declared.steps.Word.TheVariants.{Field}
use Rattle.record_memory.specs.declared.books.Setup.{Setup}
use Rattle.record_memory.specs.declared.books.View.{View}
use Rattle.record_memory.specs.declared.books.Book.{Book}
use Rattle.record_memory.specs.declared.books.Share.{Share}
use Rattle.record_memory.specs.declared.books.Standing.{Standing}
use Rattle.record_memory.specs.declared.books.Standing.TheVariants.{TakenOut, Limbo}
use Rattle.record_memory.specs.declared.books.Place.{Place}
use Rattle.record_memory.specs.declared.books.Place.TheVariants.{Undrawn, Of}
use Rattle.record_memory.specs.Memory.{Memory, memory, address, put}
use Rattle.record_memory.proofs.Stores.{stores, take-set}
use Rattle.row_words.specs.Refs.{RefParts}
use Rattle.row_words.specs.Packing.{own_in, packed_number}
use Rattle.row_words.proofs.Packed.{own_in-packed_number, number_in-packed_number}
use Rattle.record_rule.specs.Records.{Record, known, carried}
use Rattle.record_rule.specs.Recorded.{StepFits}
use Rattle.record_rule.specs.Inputs.{SchemeInput, SchemeCell, limbo, birth, scheme_cell, scheme_input, guard_of, Outline, outline}
use Rattle.record_rule.specs.Facts.{ShapeFacts, CoverFacts}
use Rattle.record_rule.specs.Laws.{CoverLaws}
use Rattle.record_rule.specs.World.{Places, Parts, Rule}
use Rattle.record_rule.specs.Kinds.{field_store, IsOverAs, IsOver, Lawful}
use Rattle.record_rule.specs.Links.{HasTaken, retired_share, retired}
use Rattle.record_rule.proofs.Owned.{share_of}
use Rattle.record_rule.specs.Counts.{drawn_as, retired_as, freed_as}
use Rattle.record_rule.specs.Kinds.{retired_one}
use Rattle.record_rule.proofs.Counts.{Balances, counts_moved}
use Rattle.record_rule.proofs.Rebuilt.{counters, elsewhere, rebuilt}
use Rattle.record_rule.proofs.Retirements.{LeavesRetirements}
use Rattle.record_rule.proofs.RetirementMoves.{in_stamp}
use Rattle.record_rule.proofs.Quiet.{calm_after, outline_scheme}
use Rattle.record_rule.proofs.Safe.{safe}
use Rattle.record_rule.proofs.Steps.{before, book}
use Rattle.record_rule.proofs.Owners.{record_of, index_in, store_fits, finds_known}
use Rattle.record_rule.proofs.Moves.{retired_record, retired_places, retired_cells}

-- a step of the caller that took the record out and has its share, with a stamp that the reclaimer allows
module _ (shape : ShapeFacts) (cover : CoverFacts) (covering : CoverLaws cover) (setup : Setup) (s : State (Unit {0}) View) (u : Rule shape cover setup s) (id : ℕ) (v : View) (at : get_elem? s.views id ≡ some v) (present : v.present ≡ true)
    (r : RefParts) (h : Share) (stamp : ℕ) (some_index : 0 < r.index) (small : stamp < 2 ^ 44) (may : cover.stamps v.own.guard h.taken_number stamp) (generation : h.generation ≡ r.generation)
    (node : Record) (there : get_elem? u.records (r.index - 1) ≡ some node) (is : node.place ≡ Of v.own.caller TakenOut) (whole : h ≡ share_of TakenOut node) where
  abbrev m : Memory
  m = memory setup.callers setup.records s.words

  abbrev c : ℕ
  c = v.own.caller

  -- its index
  abbrev i : ℕ
  i = r.index

  -- the stored word, the record and the caller's book afterwards
  abbrev value : ℕ
  value = packed_number r.generation stamp

  abbrev new : Record
  new = retired_record c m.epoch value node

  abbrev own : Book
  own = (retired v r h stamp).own

  -- the words afterwards, and what they say
  abbrev words : List ℕ
  words = set s.words (address setup.callers (Field i 2)) value

  abbrev m' : Memory
  m' = memory setup.callers setup.records words

  -- one word of the table is another one
  put_is : m' ≡ put m (Field i 2) value
  put_is = stores setup.callers setup.records s.words (Field i 2) value u.wide (some_index, index_in shape cover setup s u id v at present i node some_index there, omega arith)

  -- its standing
  standing : h.standing ≡ TakenOut
  standing = ap (λ (x : Share). x.standing) whole

  -- the caller's share is the record's
  share_is : retired_share h value ≡ share_of Limbo new
  share_is = λ k. record { standing = Limbo; generation = (whole k).generation; taken_number = (whole k).taken_number; words = (ap (λ (x : Share). set x.words 2 value) whole ∙ sym (take-set 3 2 value node.row (omega arith))) k }

  -- the record is in limbo of the caller
  places : Places setup (set u.records (i - 1) new) (set u.books c own) m'
  places = subst (Places setup (set u.records (i - 1) new) (set u.books c own)) (sym put_is)
      (retired_places setup u.records u.books m c i m.epoch value v.own own node u.places (book shape cover setup s u id v at present) there is
      (own_in-packed_number r.generation stamp small ∙ sym generation ∙ ap (λ (x : Share). x.generation) whole) refl (ap (λ (x : Share). set v.own.mine (i - 1) (Some x)) share_is)
      (calm_after v.own.drawing v.setup.records (field_store v i 2 value h) tt))

  -- what the facts read before
  abbrev was : Outline
  was = before shape cover setup s u

  -- a limbo cell as the law puts it
  abbrev cell : SchemeCell
  cell = limbo c node.generation (birth node) node.taken_number stamp m.epoch

  -- which the reclaimer's facts allow
  scheme : cover.covered setup (record (scheme_input was) { cells = set was.schemes (i - 1) cell })
  scheme = let x : SchemeInput = scheme_input was in let cells = retired_cells c m.epoch value node (u.places.sound (i - 1) node there).eight is in
      covering.puts setup x (i - 1) c node.generation (birth node) node.taken_number stamp v.own.guard (safe shape cover setup u.records u.books u.taken_out u.updates m u.places u.parts) u.parts.scheme
      (at_map scheme_cell u.records (i - 1) node there ∙ ap some cells.0.scheme_is) (at_map guard_of u.books c v.own (book shape cover setup s u id v at present))
      (subst (λ (x : Share). cover.stamps v.own.guard x.taken_number stamp) whole may)

  -- no other fact sees the step
  outline_is : record was { schemes = set was.schemes (i - 1) cell } ≡ outline m' (set u.records (i - 1) new) (set u.books c own) u.taken_out u.updates
  outline_is = let cells = retired_cells c m.epoch value node (u.places.sound (i - 1) node there).eight is in
      outline_scheme m m' u.taken_out u.updates (ap (λ (x : Memory). x.epoch) put_is) (ap (λ (x : Memory). x.announced) put_is) u.books c v.own own (book shape cover setup s u id v at present) record { guard = refl; notes = refl; roots = refl; locks = refl; answered = refl; offer = refl }
      u.records (i - 1) node new cell there cells.1.shape_is
      (cells.1.scheme_is ∙ ap (λ (n : ℕ). limbo c node.generation (birth node) node.taken_number n m.epoch) (number_in-packed_number r.generation stamp small)) cells.1.taken_is

  -- it counts as retired once more
  retires_one : Balances setup.first v.own.moves (retired_one v.own.moves) node new
  retires_one = let a : drawn_as node.place ≡ 1 = ap drawn_as is in let b : retired_as node.place ≡ 0 = ap retired_as is in let d : freed_as node.place ≡ 0 = ap freed_as is in
      record { drawn = omega arith; reused = omega arith; retired = omega arith; freed = omega arith }

  -- it is a step that its caller may make
  fits : StepFits setup c (field_store v i 2 value h)
  fits = store_fits shape cover setup s u id v at present i 2 value h node some_index there (is ∙ ap (Of c) (sym standing)) (whole ∙ ap (λ (q : Standing). share_of q node) (sym standing)) (omega arith)
      (subst (λ (q : Standing). 2 < length (known q node.row)) (sym standing) (let e = (u.places.sound (i - 1) node there).eight in let l = length-take 3 node.row in omega arith))
      (own_in-packed_number r.generation stamp small ∙ sym generation)

  -- and it retires the record, at its generation
  retires_it : LeavesRetirements setup.first u.records (set u.records (i - 1) new) (field_store v i 2 value h)
  retires_it = let sound = u.places.sound (i - 1) node there in
      in_stamp i 2 (field_store v i 2 value h) refl refl refl setup.first u.records node new there some_index refl
      (ap (λ (x : Share). own_in (get_or x.words 2 0)) whole ∙ ap own_in (get_or-take 3 node.row 2 0 (omega arith)) ∙ sound.generations 2 (omega arith) ∙ ap (λ (p : Place). carried p node.generation 2) is)
      (own_in-packed_number r.generation stamp small ∙ sym generation ∙ ap (λ (x : Share). x.generation) whole)
      (sound.born (λ q. let none : Undrawn ≡ Of c TakenOut = sym q ∙ is in let no_such : ⊥ = cc in no_such)) refl (ap retired_as is) refl

  -- so the rule stays
  kept : Rule shape cover setup record { words = words; homes = s.homes; views = set s.views id (retired v r h stamp) }
  kept = rebuilt shape cover setup s u id v at present words (length-set s.words (address setup.callers (Field i 2)) value ∙ u.wide) (set u.records (i - 1) new) own _ fits refl refl refl refl refl
      (elsewhere _ (ap counters put_is) refl (λ e. cc)) retires_it places
      (subst (Parts shape cover setup) outline_is record {
        taken = u.parts.taken;
        held = u.parts.held;
        known = u.parts.known;
        locks = u.parts.locks;
        shape = u.parts.shape;
        told = u.parts.told;
        scheme = scheme;
        history = u.parts.history;
        words = u.parts.words;
        begun = u.parts.begun;
      }) (counts_moved setup.first u.records u.books c v.own own (book shape cover setup s u id v at present) u.counts (i - 1) node new there retires_one)

module _ (shape : ShapeFacts) (cover : CoverFacts) (covering : CoverLaws cover) (setup : Setup) where
  -- A caller may retire a record that it took out, with a stamp that the reclaimer allows it
  pub retires : (id word stamp : ℕ) (v : View) (r : RefParts) (h : Share) → v.present ≡ true → v.setup ≡ setup → 0 < r.index → word ≡ address setup.callers (Field r.index 2) → HasTaken v r h → stamp < 2 ^ 44 → cover.stamps v.own.guard h.taken_number stamp
      → Lawful (Rule shape cover setup) id v word (λ _. packed_number r.generation stamp) (λ n w. (w ≡ retired v r h stamp) × IsOver v r.index 2 n)
  retires id word stamp v r h present same some_index is taken small may s u at = let x = record_of shape cover setup s u id v at present r.index h taken.known in let c : ℕ = v.own.caller in
      let whole : h ≡ share_of TakenOut x.0 = x.3 ∙ ap (λ (q : Standing). share_of q x.0) taken.standing in
      let rule = kept shape cover covering setup s u id v at present r h stamp some_index small may taken.generation x.0 x.1 (x.2 ∙ ap (Of c) taken.standing) whole in (
        retired v r h stamp,
        subst (λ (z : ℕ). Rule shape cover setup record { words = set s.words z (packed_number r.generation stamp); homes = s.homes; views = set s.views id (retired v r h stamp) }) (sym is) rule,
        (refl, subst (λ (o : Option Share). IsOverAs o 2 (get_or s.words word 0)) (sym taken.known) (finds_known shape cover covering setup s u id v at word r.index 2 h present is some_index (omega arith) taken.known (let l = taken.three in omega arith))),
      )
