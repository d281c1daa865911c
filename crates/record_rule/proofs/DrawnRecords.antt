-- A record that no word says was drawn is drawn: the words then say that it was, and of every other record what they said.
use Rattle.std.proofs.Common.{◌++◌, ◌≡◌, ◌≢◌, ℕ, ◌+◌, ◌-◌, ◌<◌, ◌≤◌, List, [], ◌∷◌, map, length, get_or, set, length-set, true, cond, sym, refl, ap, ◌∙◌, subst, arith, ⊎_elim, Option, Some, None, get_or-set_same}
use Rattle.std.proofs.lemmas.List.{map-set, length-map}
use Rattle.std.proofs.lemmas.Bool.{le-ltb}
use mathlib.Core.Option.{some}
use lib.ListN.{get_elem?}
use Rattle.atomic_table.proofs.Lists.{at_set, at_map}
use Rattle.atomic_table.specs.Table.{State}
use Rattle.record_memory.specs.declared.steps.Word.TheVariants.{Field}
use Rattle.record_memory.specs.declared.steps.Step.{Step}
use Rattle.record_memory.specs.declared.books.Setup.{Setup}
use Rattle.record_memory.specs.declared.books.View.{View}
use Rattle.record_memory.specs.declared.books.Book.{Book}
use Rattle.record_memory.specs.declared.books.Share.{Share}
use Rattle.record_memory.specs.declared.books.Moves.{Moves}
use Rattle.record_memory.specs.declared.books.Drawing.TheVariants.{Past}
use Rattle.record_memory.specs.declared.books.Standing.TheVariants.{Handing}
use Rattle.record_memory.specs.declared.books.Place.{Place}
use Rattle.record_memory.specs.declared.books.Place.TheVariants.{Undrawn, Root, Of}
use Rattle.record_memory.specs.Memory.{Memory, memory, size}
use Rattle.record_rule.specs.Records.{Record, IsSetup, IsSound, share, share_at, carried}
use Rattle.record_rule.specs.Inputs.{shape_at, scheme_at, taken_at, untaken}
use Rattle.record_rule.specs.Facts.{ShapeFacts, CoverFacts}
use Rattle.record_rule.specs.Recorded.{IsStepOn}
use Rattle.record_rule.specs.Shelves.{PoolCell, pool_at, pool_cell, ShelvesFit}
use Rattle.record_rule.specs.World.{AreUntouched, Parts, IsLeft, Places, Rule}
use Rattle.record_rule.specs.Kinds.{drawn_share, drew_one, share_in}
use Rattle.record_rule.proofs.Lists.{below_at, at_below, get_at, each_set, map_set_same}
use Rattle.record_rule.proofs.Owned.{seen_by, unseen_by}
use Rattle.record_rule.proofs.Counts.{Balances, counts_moved, balances_drawn}
use Rattle.record_rule.proofs.Rebuilt.{LeavesDrawn, no_field, rebuilt}
use Rattle.record_rule.proofs.Retirements.{RetiresNone, stored_none, shows_same}
use Rattle.record_rule.proofs.RetirementMoves.{drawn_shows}
use Rattle.record_rule.proofs.Steps.{book}
use Rattle.record_rule.proofs.Quiet.{books_after, IsSameBook, outline_after}

-- the record that is drawn
abbrev pub drawn_record : ℕ → ℕ → Record → Record
drawn_record c first r = record r { place = Of c (Handing 0); generation = first; taken_number = 0 }

-- what the words say after the record with the index i + 1 was drawn
pub record DrawsOne (setup : Setup) (m m' : Memory) (i : ℕ) : Type 0 where
  pub within : i < setup.records
  pub was : IsLeft setup m i
  pub gone : ¬ IsLeft setup m' i
  pub fewer : (j : ℕ) → IsLeft setup m' j → IsLeft setup m j
  pub others : (j : ℕ) → j ≢ i → IsLeft setup m j → IsLeft setup m' j
  pub grows : m.drawn ≤ m'.drawn
  pub drawn : m'.drawn ≤ setup.records
  pub untouched : AreUntouched setup m'.lock m'.blank m'.drawn m'.cursors
  pub rows : m'.rows ≡ m.rows
  pub shelves : m'.shelves ≡ m.shelves
  pub epoch : m'.epoch ≡ m.epoch
  pub announced : m'.announced ≡ m.announced

module _ (setup : Setup) (is_setup : IsSetup setup) where
  -- the record that is drawn is sound
  drawn_sound : (i c : ℕ) (r : Record) → c < setup.callers → r.place ≡ Undrawn → IsSound setup i r → IsSound setup i (drawn_record c setup.first r)
  drawn_sound i c r caller at s = let old : r.generation + 1 ≡ setup.first = s.unborn at in record {
    eight = s.eight;
    generations = λ f h. s.generations f h ∙ ap (λ (p : Place). carried p r.generation f) at ∙ (let e : r.generation ≡ setup.first - 1 = omega arith in e)
        ∙ sym (ap (λ b. cond b setup.first (setup.first - 1)) (le-ltb f 0 (omega arith)));
    links = s.links;
    within = is_setup.first;
    roots = λ h. let no : ⊥ = (let e : Undrawn ≡ Root = sym at ∙ s.roots h in cc) in absurd no;
    no_root = λ e. let no : ⊥ = cc in absurd no;
    root_generation = λ e. let none : ⊥ = cc in absurd none;
    unborn = λ e. let no : ⊥ = cc in absurd no;
    blank = λ e. let no : ⊥ = cc in absurd no;
    born = λ _. omega arith;
    unfinished = λ d n e. let z : 0 ≡ n = cc in omega arith;
    callers = λ d t e. let z : c ≡ d = cc in omega arith;
    renewable = λ d e. let none : ⊥ = cc in absurd none;
    shelved = λ k e. let none : ⊥ = cc in absurd none;
  }

  -- it is drawn, and all others are where they were
  drawn_places : (records : List Record) (books : List Book) (m m' : Memory) (c i : ℕ) (b own : Book) (r : Record) → DrawsOne setup m m' i → Places setup records books m → get_elem? books c ≡ some b → get_elem? records i ≡ some r
      → own.caller ≡ b.caller → own.mine ≡ set b.mine i (Some (drawn_share setup.first)) → (own.drawing ≡ Past → setup.records ≤ m'.drawn)
      → Places setup (set records i (drawn_record c setup.first r)) (set books c own) m'
  drawn_places records books m m' c i b own r d p at there caller mine past =
      let new : Record = drawn_record c setup.first r in let caller_lt : c < setup.callers = let h = below_at books c b at in let e = p.callers in omega arith in
      let untouched : r.place ≡ Undrawn = p.left i r there d.was in let s = p.sound i r there in let f = p.books_fit c b at in record {
        many = length-set records i new ∙ p.many;
        rows = map_set_same (λ (x : Record). x.row) records i r new there refl ∙ p.rows ∙ sym d.rows;
        sound = each_set (IsSound setup) records i new p.sound (drawn_sound i c r caller_lt untouched s);
        left = λ j x e l. ⊎_elim (λ t. absurd (d.gone (subst (IsLeft setup m') t.0 l))) (λ t. p.left j x t.1 (d.fewer j l)) (at_set records i j new x e);
        undrawn = λ j x e u. ⊎_elim (λ t. let no : ⊥ = (let q : new ≡ x = t.1 in let v : Of c (Handing 0) ≡ Undrawn = ap (λ (y : Record). y.place) q ∙ u in cc) in absurd no)
            (λ t. d.others j t.0 (p.undrawn j x t.1 u)) (at_set records i j new x e);
        drawn = let h = d.drawn in omega arith;
        untouched = d.untouched;
        shelves = subst (λ (z : List PoolCell × List ℕ). ShelvesFit z.0 z.1) (λ k. (sym (map_set_same pool_cell records i r new there (sym (ap (λ (q : Place). pool_at q r) untouched))) k, sym d.shelves k)) p.shelves;
        callers = length-set books c own ∙ p.callers;
        books_fit = books_after setup m m' records (set records i new) books c own (λ h. let g = d.grows in omega arith)
            (λ e ne. map_set_same (share e) records i r new there (unseen_by c e (Handing 0) new refl ne ∙ sym (ap (λ (q : Place). share_at e q r) untouched)))
            record {
              number = caller ∙ f.number;
              mine = mine ∙ ap (λ xs. set xs i (Some (drawn_share setup.first))) f.mine ∙ ap (λ h. set (map (share c) records) i h) (sym (seen_by c (Handing 0) new refl ∙ ap Some (λ k. record { standing = Handing 0; generation = setup.first; taken_number = 0; words = s.blank untouched k })))
                  ∙ sym (map-set (share c) records i new);
              past = past;
            } p.books_fit;
      }

  module _ (shape : ShapeFacts) (cover : CoverFacts) (s : State (Unit {0}) View) (u : Rule shape cover setup s) (id : ℕ) (v : View) (at : get_elem? s.views id ≡ some v) (present : v.present ≡ true) where
    abbrev m : Memory
    m = memory setup.callers setup.records s.words

    abbrev c : ℕ
    c = v.own.caller

    -- the caller's book
    abbrev mine : get_elem? u.books c ≡ some v.own
    mine = book shape cover setup s u id v at present

    -- the caller doesn't have a record that is left
    pub not_had : (i : ℕ) → i < setup.records → IsLeft setup m i → share_in v (i + 1) ≡ None
    not_had i lt left = let there = at_below u.records i (let k = u.places.many in omega arith) in let untouched : there.0.place ≡ Undrawn = u.places.left i there.0 there.1 left in
        ap (λ (k : ℕ). get_or v.own.mine k None) (let e : i + 1 - 1 ≡ i = omega arith in e) ∙ ap (λ l. get_or l i None) (u.places.books_fit c v.own mine).mine
        ∙ get_at (map (share c) u.records) i (share c there.0) None (at_map (share c) u.records i there.0 there.1) ∙ ap (λ (q : Place). share_at c q there.0) untouched

    -- once it is drawn, it has it
    pub is_had : (i : ℕ) (h : Option Share) → i < setup.records → get_or (set v.own.mine i h) (i + 1 - 1) None ≡ h
    is_had i h lt = let long : i < length v.own.mine = (let e = ap length (u.places.books_fit c v.own mine).mine in let l = length-map u.records (share c) in let k = u.places.many in omega arith) in
        ap (λ (k : ℕ). get_or (set v.own.mine i h) k None) (let e : i + 1 - 1 ≡ i = omega arith in e) ∙ get_or-set_same v.own.mine i h None long

    -- The rule stays after a step that draws a record, and is on no record's word
    pub draws_one : (ws : List ℕ) (i : ℕ) (t : Step) (own : Book) → length ws ≡ size setup.callers setup.records → DrawsOne setup m (memory setup.callers setup.records ws) i
        → t.held ≡ None → IsStepOn setup c t.word t.kind → ((j f : ℕ) → ¬ (t.word ≡ Field j f)) → RetiresNone t → LeavesDrawn setup m (memory setup.callers setup.records ws) c v.own.moves own.moves t
        → own.caller ≡ c → IsSameBook v.own own → own.steps ≡ v.own.steps ++ t ∷ [] → own.mine ≡ set v.own.mine i (Some (drawn_share setup.first)) → (own.drawing ≡ Past → setup.records ≤ (memory setup.callers setup.records ws).drawn) → own.moves ≡ drew_one v.own.moves
        → Rule shape cover setup record { words = ws; homes = s.homes; views = set s.views id (record v { own = own }) }
    draws_one ws i t own wide d none on apart retires leaves caller same steps mine_is past moves =
        let m' : Memory = memory setup.callers setup.records ws in
        let there = at_below u.records i (let k = u.places.many in let l = d.within in omega arith) in let r : Record = there.0 in let new : Record = drawn_record c setup.first r in
        let untouched : r.place ≡ Undrawn = u.places.left i r there.1 d.was in let unborn = (u.places.sound i r there.1).unborn untouched in
        rebuilt shape cover setup s u id v at present ws wide (set u.records i new) own t (no_field setup c t none on apart) caller same.answered same.guard same.notes steps leaves
        (stored_none setup.first u.records (set u.records i new) t retires (λ j f kind word. absurd (apart j f word))
        (shows_same setup.first u.records i r new there.1 (omega arith) (drawn_shows setup.first r new unborn refl refl)))
        (drawn_places u.records u.books m m' c i v.own own r d u.places mine there.1 caller mine_is past)
        (subst (Parts shape cover setup) (sym (outline_after m m' u.taken_out u.updates d.epoch d.announced u.books c v.own own mine same u.records i r new there.1 record {
          shape = sym (ap (λ (q : Place). shape_at q r) untouched);
          scheme = sym (ap (λ (q : Place). scheme_at q r) untouched);
          taken = ap untaken (sym unborn) ∙ sym (ap (λ (q : Place). taken_at q r) untouched);
        })) u.parts)
        (counts_moved setup.first u.records u.books c v.own own mine u.counts i r new there.1 (subst (λ (z : Moves). Balances setup.first v.own.moves z r new) (sym moves) (balances_drawn setup.first v.own.moves r new untouched refl refl unborn)))
