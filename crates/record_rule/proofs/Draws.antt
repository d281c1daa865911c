-- Drawing a record: 1 is added to the number of records drawn.
use Rattle.std.proofs.Common.{◌++◌, ◌≡◌, ℕ, ◌+◌, ◌-◌, ◌%◌, ◌<◌, ◌≤◌, ◌^◌, List, [], ◌∷◌, length, get_or, set, length-set, Bool, true, false, cond, ltb, sum_by, sym, refl, ap, ◌∙◌, subst, arith, Some, None, inr}
use Rattle.std.proofs.lemmas.List.Sums.{sum_by-cons, sum_by-set}
use Rattle.std.proofs.lemmas.Bool.{ltb-true, ltb-false, lt-ltb}
use Rattle.std.proofs.Math.Nat.{mod-eq_of_lt}
use mathlib.Core.Option.{some}
use lib.ListN.{get_elem?}
use Rattle.atomic_table.specs.Table.{State}
use Rattle.set_model.specs.declared.names.AllocatorName.{AllocatorName}
use Rattle.set_model.specs.declared.names.AllocatorName.TheVariants.{Bump, Once}
use Rattle.record_memory.specs.declared.steps.Word.TheVariants.{Drawn}
use Rattle.record_memory.specs.declared.steps.StepKind.TheVariants.{Add}
use Rattle.record_memory.specs.declared.books.Setup.{Setup}
use Rattle.record_memory.specs.declared.books.View.{View}
use Rattle.record_memory.specs.declared.books.Book.{Book}
use Rattle.record_memory.specs.declared.books.Moves.{Moves}
use Rattle.record_memory.specs.declared.books.Drawing.{Drawing}
use Rattle.record_memory.specs.declared.books.Drawing.TheVariants.{Unsure, Below, Past}
use Rattle.record_memory.specs.Memory.{Memory, memory, size}
use Rattle.record_memory.proofs.Stores.{stores}
use Rattle.record_rule.specs.Records.{Record, IsSetup}
use Rattle.record_rule.specs.Facts.{ShapeFacts, CoverFacts}
use Rattle.record_rule.specs.Recorded.{IsStepOn}
use Rattle.record_rule.specs.World.{AreUntouched, Parts, IsLeftBy, IsLeft, overshoot_by, overshoot, Places, Rule}
use Rattle.record_rule.specs.Kinds.{draw_step, drawn_share, drew, drew_one, drawing_after, share_in, DrewNew, Lawful}
use Rattle.record_rule.proofs.Lists.{below_at, get_at}
use Rattle.record_rule.proofs.Counts.{counts_calm}
use Rattle.record_rule.proofs.Rebuilt.{LeavesDrawn, no_field, rebuilt}
use Rattle.record_rule.proofs.Retirements.{keeps_retired}
use Rattle.record_rule.proofs.Steps.{book}
use Rattle.record_rule.proofs.Quiet.{books_after, IsSameBook, outline_same}
use Rattle.record_rule.proofs.DrawnRecords.{DrawsOne, not_had, is_had, draws_one}

-- each caller goes past the last record at most once
past_once : (d : Drawing) → overshoot_by d ≤ 1
past_once Unsure = omega arith
past_once Below = omega arith
past_once Past = omega arith

-- so no more callers than there are went past the last record
past_each : (books : List Book) → sum_by overshoot books ≤ length books
past_each [] = omega arith
past_each (b ∷ bs) = let e = sum_by-cons overshoot b bs in let h = past_each bs in let g = past_once b.drawing in omega arith

module _ (setup : Setup) (is_setup : IsSetup setup) (bump : setup.allocator ≡ Bump) where
  -- the allocator is no other
  no_once : ¬ (setup.allocator ≡ Once)
  no_once e = let same : Bump ≡ Once = sym bump ∙ e in let none : ⊥ = cc in none

  -- a record that is left lies behind those that are drawn
  left_from : (m : Memory) (i : ℕ) → IsLeft setup m i → m.drawn ≤ i
  left_from m i h = subst (λ (a : AllocatorName). IsLeftBy a setup m i) bump h

  -- and what lies behind them is left
  left_to : (m : Memory) (i : ℕ) → m.drawn ≤ i → IsLeft setup m i
  left_to m i h = subst (λ (a : AllocatorName). IsLeftBy a setup m i) (sym bump) h

  -- the words that no step changes are those of another allocator
  drawn_untouched : (m : Memory) (n : ℕ) → AreUntouched setup m.lock m.blank m.drawn m.cursors → AreUntouched setup m.lock m.blank (n + 1) m.cursors
  drawn_untouched m n u = record {
    lock_is = u.lock_is;
    blank_is = u.blank_is;
    cursors_are = u.cursors_are;
    drawn_is = λ e. absurd (no_once e);
    cursors_within = u.cursors_within;
  }

  -- where one is left, one more is drawn
  draws_next : (m : Memory) (n : ℕ) → m.drawn ≡ n → n < setup.records → AreUntouched setup m.lock m.blank m.drawn m.cursors → DrawsOne setup m record m { drawn = n + 1 } n
  draws_next m n is lt untouched = let m' : Memory = record m { drawn = n + 1 } in record {
    within = lt;
    was = left_to m n (omega arith);
    gone = λ l. let h = left_from m' n l in omega arith;
    fewer = λ j l. left_to m j (let h = left_from m' j l in omega arith);
    others = λ j ne l. left_to m' j (let h = left_from m j l in omega arith);
    grows = omega arith;
    drawn = omega arith;
    untouched = drawn_untouched m n untouched;
    rows = refl;
    shelves = refl;
    epoch = refl;
    announced = refl;
  }

  -- no record is left, and this caller's last look was older than that
  passed_places : (records : List Record) (books : List Book) (m : Memory) (c n : ℕ) (b own : Book) → Places setup records books m → get_elem? books c ≡ some b
      → m.drawn ≡ n → setup.records ≤ n → own.caller ≡ b.caller → own.mine ≡ b.mine → overshoot own ≡ 1 → overshoot b ≡ 0
      → Places setup records (set books c own) record m { drawn = n + 1 }
  passed_places records books m c n b own p at is past caller mine one none =
      let f = p.books_fit c b at in let m' : Memory = record m { drawn = n + 1 } in let w = sum_by-set overshoot books c own b (below_at books c b at) in let g : overshoot (get_or books c b) ≡ overshoot b = ap overshoot (get_at books c b b at) in record {
        many = p.many;
        rows = p.rows;
        sound = p.sound;
        left = λ i x e l. p.left i x e (left_to m i (let h = left_from m' i l in omega arith));
        undrawn = λ i x e u. let h = left_from m i (p.undrawn i x e u) in let k = below_at records i x e in let l = p.many in absurd (omega arith);
        drawn = let d = p.drawn in omega arith;
        untouched = drawn_untouched m n p.untouched;
        shelves = p.shelves;
        callers = length-set books c own ∙ p.callers;
        books_fit = books_after setup m m' records records books c own (λ h. omega arith) (λ d ne. refl)
            record { number = caller ∙ f.number; mine = mine ∙ f.mine; past = λ h. omega arith } p.books_fit;
      }

  -- adding 1 does not wrap
  whole : (records : List Record) (books : List Book) (m : Memory) (n : ℕ) → Places setup records books m → m.drawn ≡ n → (n + 1) % 2 ^ 64 ≡ n + 1
  whole records books m n p is = let d = p.drawn in let e = past_each books in let c = p.callers in let k = is_setup.callers in let r = is_setup.records in let h : n + 1 < 2 ^ 64 = omega arith in mod-eq_of_lt h

  module _ (shape : ShapeFacts) (cover : CoverFacts) where
    -- the rule after the step, with this book of its caller
    abbrev Kept : State (Unit {0}) View → ℕ → View → Book → Type 0
    Kept s id v own = Rule shape cover setup record { words = set s.words 0 (get_or s.words 0 0 + 1); homes = s.homes; views = set s.views id (record v { own = own }) }

    module _ (s : State (Unit {0}) View) (u : Rule shape cover setup s) (id : ℕ) (v : View) (at : get_elem? s.views id ≡ some v) (present : v.present ≡ true) (below : v.own.drawing ≡ Below) where
      -- the table, the number that the step finds and its caller
      abbrev m : Memory
      m = memory setup.callers setup.records s.words

      abbrev n : ℕ
      n = get_or s.words 0 0

      abbrev c : ℕ
      c = v.own.caller

      -- the caller's book
      abbrev mine : get_elem? u.books c ≡ some v.own
      mine = book shape cover setup s u id v at present

      -- it is the number of records drawn
      found : m.drawn ≡ n
      unfolding memory
      found = refl

      -- which is one more afterwards
      stored : memory setup.callers setup.records (set s.words 0 (n + 1)) ≡ record m { drawn = n + 1 }
      stored = stores setup.callers setup.records s.words Drawn (n + 1) u.wide tt

      -- the words are as many
      wide : length (set s.words 0 (n + 1)) ≡ size setup.callers setup.records
      wide = length-set s.words 0 (n + 1) ∙ u.wide

      -- where one was left, it is drawn
      one_drawn : n < setup.records → DrawsOne setup m (memory setup.callers setup.records (set s.words 0 (n + 1))) n
      one_drawn lt = subst (λ (x : Memory). DrawsOne setup m x n) (sym stored) (draws_next m n found lt u.places.untouched)

      -- the caller didn't have it before, and has it now
      new_to : v.setup ≡ setup → n < setup.records → (share_in v (n + 1) ≡ None) × (share_in (drew v n) (n + 1) ≡ Some (drawn_share v.setup.first))
      new_to same lt = (
        not_had setup is_setup shape cover s u id v at present n lt (one_drawn lt).was,
        ap (λ b. get_or (cond b (set v.own.mine n (Some (drawn_share v.setup.first))) v.own.mine) (n + 1 - 1) None) (lt-ltb n v.setup.records (let e : v.setup.records ≡ setup.records = ap (λ (k : Setup). k.records) same in omega arith))
            ∙ is_had setup is_setup shape cover s u id v at present n (Some (drawn_share v.setup.first)) lt,
      )

      -- which is no less than before, and than the step finds
      grew : (moves : Moves) → LeavesDrawn setup m (memory setup.callers setup.records (set s.words 0 (n + 1))) c v.own.moves moves (draw_step v n)
      grew moves = let e = found in let then = ap (λ (x : Memory). x.drawn) stored in record {
        grows = omega arith;
        found = λ _. omega arith;
        own = λ once. absurd (no_once once);
        others = λ once. absurd (no_once once);
      }

      -- it is a step that its caller may make
      may_add : IsStepOn setup c Drawn Add
      may_add = inr (refl, bump)

      -- the rule stays where one was left
      draws_next_one : (own : Book) → own.caller ≡ c → IsSameBook v.own own → own.steps ≡ v.own.steps ++ draw_step v n ∷ [] → n < setup.records → own.mine ≡ set v.own.mine n (Some (drawn_share setup.first)) → own.drawing ≡ Unsure → own.moves ≡ drew_one v.own.moves → Kept s id v own
      draws_next_one own caller same steps lt mine_is drawing moves =
          draws_one setup is_setup shape cover s u id v at present (set s.words 0 (n + 1)) n (draw_step v n) own wide (one_drawn lt) refl may_add (λ i f e. cc) (λ i g. refl) (grew own.moves) caller same steps mine_is
          (λ h. let no : ⊥ = (let e : Unsure ≡ Past = sym drawing ∙ h in cc) in absurd no) moves

      -- and where none was
      draws_none : (own : Book) → own.caller ≡ c → IsSameBook v.own own → own.steps ≡ v.own.steps ++ draw_step v n ∷ [] → setup.records ≤ n → own.mine ≡ v.own.mine → own.drawing ≡ Past → own.moves ≡ v.own.moves → Kept s id v own
      draws_none own caller same steps past mine_is drawing moves =
          rebuilt shape cover setup s u id v at present (set s.words 0 (n + 1)) wide u.records own (draw_step v n) (no_field setup c (draw_step v n) refl may_add (λ i f e. cc)) caller same.answered same.guard same.notes steps (grew own.moves)
          (keeps_retired setup.first u.records (draw_step v n) refl)
          (subst (λ (x : Memory). Places setup u.records (set u.books c own) x) (sym stored)
          (passed_places u.records u.books m c n v.own own u.places mine found past caller mine_is (ap overshoot_by drawing) (ap overshoot_by below)))
          (subst (Parts shape cover setup) (sym (outline_same m (memory setup.callers setup.records (set s.words 0 (n + 1))) u.taken_out u.updates (ap (λ (x : Memory). x.epoch) stored) (ap (λ (x : Memory). x.announced) stored) u.books c v.own own mine same u.records)) u.parts)
          (counts_calm setup.first u.records u.books c v.own own mine u.counts moves)

      -- no guard, note, lock or answered call changes
      same_book : IsSameBook v.own (drew v n).own
      same_book = record { guard = refl; notes = refl; roots = refl; locks = refl; answered = refl; offer = refl }

      -- so it stays
      draws_by : (t : Bool) → ltb n setup.records ≡ t → v.setup ≡ setup → Kept s id v (drew v n).own
      draws_by true is same = draws_next_one (drew v n).own refl same_book refl (ltb-true n setup.records is)
          (ap (λ (k : Setup). cond (ltb n k.records) (set v.own.mine n (Some (drawn_share k.first))) v.own.mine) same ∙ ap (λ b. cond b (set v.own.mine n (Some (drawn_share setup.first))) v.own.mine) is)
          (ap (λ (x : Drawing). drawing_after x v.setup.records (draw_step v n)) below ∙ ap (λ (k : Setup). cond (ltb n k.records) Unsure Past) same ∙ ap (λ b. cond b Unsure Past) is)
          (ap (λ (k : Setup). cond (ltb n k.records) (drew_one v.own.moves) v.own.moves) same ∙ ap (λ b. cond b (drew_one v.own.moves) v.own.moves) is)
      draws_by false is same = draws_none (drew v n).own refl same_book refl (ltb-false n setup.records is)
          (ap (λ (k : Setup). cond (ltb n k.records) (set v.own.mine n (Some (drawn_share k.first))) v.own.mine) same ∙ ap (λ b. cond b (set v.own.mine n (Some (drawn_share setup.first))) v.own.mine) is)
          (ap (λ (x : Drawing). drawing_after x v.setup.records (draw_step v n)) below ∙ ap (λ (k : Setup). cond (ltb n k.records) Unsure Past) same ∙ ap (λ b. cond b Unsure Past) is)
          (ap (λ (k : Setup). cond (ltb n k.records) (drew_one v.own.moves) v.own.moves) same ∙ ap (λ b. cond b (drew_one v.own.moves) v.own.moves) is)

    -- A caller whose last step found fewer records drawn than there are may add 1. Where one is left then, it is the caller's
    pub draws : (id : ℕ) (v : View) → v.present ≡ true → v.own.drawing ≡ Below
        → Lawful (Rule shape cover setup) id v 0 (λ n. (n + 1) % 2 ^ 64) (λ n w. (w ≡ drew v n) × DrewNew v n × ((n + 1) % 2 ^ 64 ≡ n + 1))
    draws id v present below s u at = let n : ℕ = get_or s.words 0 0 in let same = (u.seated id v at).setup_is present in
        let one : (n + 1) % 2 ^ 64 ≡ n + 1 = whole u.records u.books (memory setup.callers setup.records s.words) n u.places (found s u id v at present below) in (
          drew v n,
          subst (λ (z : ℕ). Rule shape cover setup record { words = set s.words 0 z; homes = s.homes; views = set s.views id (drew v n) }) (sym one) (draws_by s u id v at present below (ltb n setup.records) refl same),
          (refl, λ lt. new_to s u id v at present below same (let e : v.setup.records ≡ setup.records = ap (λ (k : Setup). k.records) same in omega arith), one),
        )

    -- the same at a word that is the first one
    pub draws_at : (id : ℕ) (v : View) (word : ℕ) → word ≡ 0 → v.present ≡ true → v.own.drawing ≡ Below
        → Lawful (Rule shape cover setup) id v word (λ n. (n + 1) % 2 ^ 64) (λ n w. (w ≡ drew v n) × DrewNew v n × ((n + 1) % 2 ^ 64 ≡ n + 1))
    draws_at id v word is present below = subst (λ (z : ℕ). Lawful (Rule shape cover setup) id v z (λ n. (n + 1) % 2 ^ 64) (λ n w. (w ≡ drew v n) × DrewNew v n × ((n + 1) % 2 ^ 64 ≡ n + 1))) (sym is) (draws id v present below)
