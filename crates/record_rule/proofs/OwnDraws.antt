-- Drawing a record of the caller's own range: it stores one more in its cursor.
use Rattle.std.proofs.Common.{◌≡◌, ◌≢◌, ℕ, ◌+◌, ◌-◌, ◌*◌, ◌/◌, ◌%◌, ◌<◌, ◌≤◌, List, length, get_or, set, length-set, true, sym, refl, ap, ◌∙◌, subst, arith, ⊎_elim, Some, None, get_or-set_same, get_or-set_other, inr}
use Rattle.std.proofs.Math.Nat.{div-mul-le_self, mul-le-mul_right}
use Rattle.std.proofs.lemmas.Nat.{div-mul-add, mod-mul-add, div-add-mod'}
use native.Mathlib.Decide.{ℕ_discrete}
use mathlib.Core.Logic.{dite}
use mathlib.Core.Option.{some}
use lib.ListN.{get_elem?}
use Rattle.atomic_table.proofs.Lists.{at_set}
use Rattle.atomic_table.specs.Table.{State}
use Rattle.set_model.specs.declared.names.AllocatorName.{AllocatorName}
use Rattle.set_model.specs.declared.names.AllocatorName.TheVariants.{Bump, Once}
use Rattle.record_memory.specs.declared.steps.Word.TheVariants.{Cursor}
use Rattle.record_memory.specs.declared.books.Setup.{Setup}
use Rattle.record_memory.specs.declared.books.View.{View}
use Rattle.record_memory.specs.declared.books.Book.{Book}
use Rattle.record_memory.specs.Memory.{Memory, memory, address}
use Rattle.record_memory.proofs.Stores.{loads, stores}
use Rattle.record_rule.specs.Records.{IsSetup}
use Rattle.record_rule.specs.Facts.{ShapeFacts, CoverFacts}
use Rattle.record_rule.specs.World.{range, AreUntouched, IsLeftBy, IsLeft, Rule}
use Rattle.record_rule.specs.Kinds.{drawn_share, drew_one, Lawful}
use Rattle.record_rule.specs.OwnDraws.{own_place, own_draw_step, drew_own, DrewOwn}
use Rattle.record_rule.proofs.Rebuilt.{LeavesDrawn}
use Rattle.record_rule.proofs.Steps.{book}
use Rattle.record_rule.proofs.Quiet.{calm_after, past_before}
use Rattle.record_rule.proofs.Loads.{caller_in, cursor_in, own_cursor}
use Rattle.record_rule.proofs.DrawnRecords.{DrawsOne, not_had, is_had, draws_one}

module _ (setup : Setup) (is_setup : IsSetup setup) (once : setup.allocator ≡ Once) where
  -- which record is left, by the cursor of its range
  left_from : (m : Memory) (i : ℕ) → IsLeft setup m i → IsLeftBy Once setup m i
  left_from m i h = subst (λ (a : AllocatorName). IsLeftBy a setup m i) once h

  left_to : (m : Memory) (i : ℕ) → IsLeftBy Once setup m i → IsLeft setup m i
  left_to m i h = subst (λ (a : AllocatorName). IsLeftBy a setup m i) (sym once) h

  -- the record that caller c draws after n others lies so far behind the first
  abbrev place : ℕ → ℕ → ℕ
  place c n = setup.roots + c * range setup + n

  -- it is in that caller's range, and so far behind its first
  of_range : (c n : ℕ) → n < range setup → (place c n - setup.roots) / range setup ≡ c
  of_range c n lt = ap (λ (z : ℕ). z / range setup) (let e : setup.roots + c * range setup + n - setup.roots ≡ c * range setup + n = omega arith in e) ∙ div-mul-add c (range setup) n lt

  in_range : (c n : ℕ) → n < range setup → (place c n - setup.roots) % range setup ≡ n
  in_range c n lt = ap (λ (z : ℕ). z % range setup) (let e : setup.roots + c * range setup + n - setup.roots ≡ c * range setup + n = omega arith in e) ∙ mod-mul-add c (range setup) n lt

  -- and no other record is
  one_place : (c n j : ℕ) → setup.roots ≤ j → (j - setup.roots) / range setup ≡ c → (j - setup.roots) % range setup ≡ n → j ≡ place c n
  one_place c n j low quotient rest = let e = div-add-mod' (j - setup.roots) (range setup) in let q : (j - setup.roots) / range setup * range setup ≡ c * range setup = ap (λ (z : ℕ). z * range setup) quotient in omega arith

  -- the table has it
  place_within : (c n : ℕ) → c < setup.callers → n < range setup → place c n < setup.records
  place_within c n caller lt = let rooted = is_setup.rooted in let whole : range setup * setup.callers ≤ setup.records - setup.roots = div-mul-le_self (setup.records - setup.roots) setup.callers in
      let more : (c + 1) * range setup ≤ setup.callers * range setup = mul-le-mul_right (range setup) (let h : c + 1 ≤ setup.callers = omega arith in h) in
      let a : (c + 1) * range setup ≡ c * range setup + range setup = omega arith in let b : setup.callers * range setup ≡ range setup * setup.callers = omega arith in omega arith

  -- where caller c's cursor is n, one more there draws that record
  draws_next : (m : Memory) (c n : ℕ) → c < setup.callers → c < length m.cursors → get_or m.cursors c 0 ≡ n → n < range setup → AreUntouched setup m.lock m.blank m.drawn m.cursors → DrawsOne setup m record m { cursors = set m.cursors c (n + 1) } (place c n)
  draws_next m c n caller long is lt u = let m' : Memory = record m { cursors = set m.cursors c (n + 1) } in let q : ℕ = range setup in
      let now : get_or m'.cursors c 0 ≡ n + 1 = get_or-set_same m.cursors c (n + 1) 0 long in record {
        within = place_within c n caller lt;
        was = left_to m (place c n) (omega arith, let e = ap (λ (z : ℕ). get_or m.cursors z 0) (of_range c n lt) in let r = in_range c n lt in omega arith);
        gone = λ l. let h = (left_from m' (place c n) l).1 in let e = ap (λ (z : ℕ). get_or m'.cursors z 0) (of_range c n lt) in let r = in_range c n lt in omega arith;
        fewer = λ j l. let h = left_from m' j l in left_to m j (
          h.0,
          dite (ℕ_discrete ((j - setup.roots) / q) c)
              (λ e. let a = h.1 in let x = ap (λ (z : ℕ). get_or m.cursors z 0) e in let y = ap (λ (z : ℕ). get_or m'.cursors z 0) e in omega arith)
              (λ ne. let a = h.1 in let x = get_or-set_other m.cursors c ((j - setup.roots) / q) (n + 1) 0 ne in omega arith),
        );
        others = λ j ne l. let h = left_from m j l in left_to m' j (
          h.0,
          dite (ℕ_discrete ((j - setup.roots) / q) c)
              (λ e. let a = h.1 in let x = ap (λ (z : ℕ). get_or m.cursors z 0) e in let y = ap (λ (z : ℕ). get_or m'.cursors z 0) e in
              let other : (j - setup.roots) % q ≢ n = λ r. ne (one_place c n j h.0 e r) in omega arith)
              (λ k. let a = h.1 in let x = get_or-set_other m.cursors c ((j - setup.roots) / q) (n + 1) 0 k in omega arith),
        );
        grows = omega arith;
        drawn = let e = u.drawn_is once in let r = is_setup.rooted in omega arith;
        untouched = record {
          lock_is = u.lock_is;
          blank_is = u.blank_is;
          cursors_are = λ bump. let same : Once ≡ Bump = sym once ∙ bump in let none : ⊥ = cc in absurd none;
          drawn_is = u.drawn_is;
          cursors_within = λ _ d k at. ⊎_elim (λ t. let e : n + 1 ≡ k = t.1 in omega arith) (λ t. u.cursors_within once d k t.1) (at_set m.cursors c d (n + 1) k at);
        };
        rows = refl;
        shelves = refl;
        epoch = refl;
        announced = refl;
      }

  module _ (shape : ShapeFacts) (cover : CoverFacts) where
    module _ (s : State (Unit {0}) View) (u : Rule shape cover setup s) (id : ℕ) (v : View) (at : get_elem? s.views id ≡ some v) (present : v.present ≡ true) (n : ℕ) (known : n ≡ v.own.moves.drawn) (lt : n < range setup) where
      abbrev m : Memory
      m = memory setup.callers setup.records s.words

      abbrev c : ℕ
      c = v.own.caller

      -- the words afterwards
      abbrev ws : List ℕ
      ws = set s.words (address setup.callers (Cursor c)) (n + 1)

      caller : c < setup.callers
      caller = caller_in shape cover setup s u id v at present

      -- the cursor is the number of records that the caller drew
      word_is : get_or s.words (address setup.callers (Cursor c)) 0 ≡ n
      word_is = own_cursor shape cover setup s u id v at present once ∙ sym known

      found : get_or m.cursors c 0 ≡ n
      found = sym (loads setup.callers setup.records s.words (Cursor c) caller) ∙ word_is

      -- which is one more afterwards
      stored : memory setup.callers setup.records ws ≡ record m { cursors = set m.cursors c (n + 1) }
      stored = stores setup.callers setup.records s.words (Cursor c) (n + 1) u.wide caller

      -- the record is drawn
      one_drawn : DrawsOne setup m (memory setup.callers setup.records ws) (place c n)
      one_drawn = subst (λ (x : Memory). DrawsOne setup m x (place c n)) (sym stored) (draws_next m c n caller (cursor_in shape cover setup s u id v at present) found lt u.places.untouched)

      -- no other cursor changed
      leaves : LeavesDrawn setup m (memory setup.callers setup.records ws) c v.own.moves (drew_one v.own.moves) (own_draw_step v n)
      leaves = record {
        grows = let e = ap (λ (x : Memory). x.drawn) stored in omega arith;
        found = λ e. let none : ⊥ = cc in absurd none;
        own = λ _ _. ap (λ (x : Memory). get_or x.cursors c 0) stored ∙ get_or-set_same m.cursors c (n + 1) 0 (cursor_in shape cover setup s u id v at present) ∙ ap (λ (z : ℕ). z + 1) known;
        others = λ _ d ne. ap (λ (x : Memory). get_or x.cursors d 0) stored ∙ get_or-set_other m.cursors c d (n + 1) 0 ne;
      }

      -- so the rule stays
      kept : v.setup ≡ setup → Rule shape cover setup record { words = ws; homes = s.homes; views = set s.views id (drew_own v n) }
      kept same = let own : Book = (drew_own v n).own in let still = calm_after v.own.drawing v.setup.records (own_draw_step v n) tt in
          draws_one setup is_setup shape cover s u id v at present ws (place c n) (own_draw_step v n) own (length-set s.words (address setup.callers (Cursor c)) (n + 1) ∙ u.wide) one_drawn refl (inr (refl, refl, once)) (λ i f e. cc) (λ i g. refl) leaves
          refl record { guard = refl; notes = refl; roots = refl; locks = refl; answered = refl; offer = refl } refl
          (ap (λ (k : Setup). set v.own.mine (k.roots + c * range k + n) (Some (drawn_share k.first))) same)
          (λ past. let h = (u.places.books_fit c v.own (book shape cover setup s u id v at present)).past (past_before v.own.drawing own.drawing still past) in let g = one_drawn.grows in omega arith) refl

      -- and the record came to the caller
      drew_new : v.setup ≡ setup → DrewOwn v n
      drew_new same = let i : own_place v n ≡ place c n = ap (λ (k : Setup). k.roots + c * range k + n) same in record {
        within = subst (λ (k : Setup). k.roots + c * range k + n < k.records) (sym same) one_drawn.within;
        before = subst (λ (z : ℕ). get_or v.own.mine (z + 1 - 1) None ≡ None) (sym i) (not_had setup is_setup shape cover s u id v at present (place c n) one_drawn.within one_drawn.was);
        after = subst (λ (z : ℕ). get_or (set v.own.mine z (Some (drawn_share v.setup.first))) (z + 1 - 1) None ≡ Some (drawn_share v.setup.first)) (sym i)
            (is_had setup is_setup shape cover s u id v at present (place c n) (Some (drawn_share v.setup.first)) one_drawn.within);
      }

    -- A caller that drew n records, fewer than its range has, may store one more in its cursor: then the next record of its range is the caller's
    pub draws_own : (id : ℕ) (v : View) (word n : ℕ) → word ≡ address setup.callers (Cursor v.own.caller) → v.present ≡ true → v.setup ≡ setup → n ≡ v.own.moves.drawn → n < range setup
        → Lawful (Rule shape cover setup) id v word (λ _. n + 1) (λ k w. (k ≡ n) × (w ≡ drew_own v n) × DrewOwn v n)
    draws_own id v word n is present same known lt s u at = (
      drew_own v n,
      subst (λ (z : ℕ). Rule shape cover setup record { words = set s.words z (n + 1); homes = s.homes; views = set s.views id (drew_own v n) }) (sym is) (kept s u id v at present n known lt same),
      (ap (λ (z : ℕ). get_or s.words z 0) is ∙ word_is s u id v at present n known lt, refl, drew_new s u id v at present n known lt same),
    )
