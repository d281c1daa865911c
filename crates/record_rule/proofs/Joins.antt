-- A pass is joined into another, and no fact about the table changes.
use Rattle.std.proofs.Common.{◌≡◌, ◌≢◌, ℕ, List, ◌++◌, map, length, set, true, cond, eqb, sym, refl, ap, ◌∙◌, subst, arith, ⊎_elim}
use Rattle.std.proofs.lemmas.Bool.{eq-eqb, ne_eqb}
use mathlib.Core.Option.{some, some-ne-none}
use lib.ListN.{get_elem?}
use Rattle.atomic_table.specs.Table.{Joins}
use Rattle.atomic_table.proofs.Lists.{at_set, set_else, at_map}
use Rattle.set_model.specs.declared.calls.Update.{Update}
use Rattle.record_memory.specs.declared.books.Setup.{Setup}
use Rattle.record_memory.specs.declared.books.View.{View}
use Rattle.record_memory.specs.declared.books.Book.{Book}
use Rattle.row_words.specs.Refs.{RefParts}
use Rattle.record_rule.specs.Facts.{At, ShapeFacts, CoverFacts}
use Rattle.record_rule.specs.World.{carries, SeatFits, Rule}
use Rattle.record_rule.specs.Splits.{longer, known_by, known_by_both, joined_with, joined, spent}
use Rattle.record_rule.proofs.Lists.{one_at, at_append}
use Rattle.record_rule.proofs.Recents.{recent_more}
use Rattle.record_rule.proofs.Rebuilt.{carries_own, reviewed}
use Rattle.record_rule.proofs.Seats.{starts_longer, length-longer, reseated}
use Rattle.record_rule.proofs.Beginnings.{agree_in}

-- what stood in seat `other` stands in seat `id`
abbrev moved : ℕ → ℕ → ℕ → ℕ
moved id other j = cond (eqb j other) id j

module _ (setup : Setup) (books : List Book) (seats : List ℕ) (taken_out : List RefParts) (updates : List Update) (id other : ℕ) (apart_seats : other ≢ id) where
  -- the seats afterwards
  abbrev seats' : List ℕ
  seats' = map (moved id other) seats

  -- a book of the one seat is in the other now
  from_other : (c : ℕ) → get_elem? seats c ≡ some other → get_elem? seats' c ≡ some id
  from_other c e = at_map (moved id other) seats c other e ∙ ap some (ap (λ b. cond b id other) (eq-eqb other other refl))

  -- each other book stays in its seat
  from_else : (c j : ℕ) → j ≢ other → get_elem? seats c ≡ some j → get_elem? seats' c ≡ some j
  from_else c j ne e = at_map (moved id other) seats c j e ∙ ap some (ap (λ b. cond b id j) (ne_eqb j other ne))

  -- so each other pass fits
  pub third_fits : (j : ℕ) (x : View) → j ≢ other → SeatFits setup books seats taken_out updates j x → SeatFits setup books seats' taken_out updates j x
  third_fits j x ne f = reseated setup books taken_out updates seats seats' j j x f (λ p b e. from_else b.caller j ne (f.books_are p b e).1)

  -- the spent pass carries nothing
  pub spent_fits : SeatFits setup books seats' taken_out updates other spent
  spent_fits = record {
    setup_is = λ e. let none : ⊥ = cc in absurd none;
    books_are = λ p b e. absurd (some-ne-none b (sym e));
    apart = λ p q a b ea eb h. absurd (some-ne-none a (sym ea));
    front = (updates, refl);
    seen_updates = (updates, refl);
    seen_taken_out = (taken_out, refl);
    behind = λ p n b a e h. absurd (some-ne-none b (sym e));
    recent = λ p b e. absurd (some-ne-none b (sym e));
  }

  module _ (v w : View) (present : v.present ≡ true) (f : SeatFits setup books seats taken_out updates id v) (g : SeatFits setup books seats taken_out updates other w) where
    -- what the joined pass knows, as each two lists that begin the updates agree
    abbrev both : View
    both = joined_with (longer v.front w.front, longer v.seen_updates w.seen_updates) v w

    known_is : known_by_both v w ≡ (longer v.front w.front, longer v.seen_updates w.seen_updates)
    known_is k = known_by (agree_in updates v.front v.seen_updates f.front f.seen_updates k) (agree_in updates w.front w.seen_updates g.front g.seen_updates k) (agree_in updates v.front w.front f.front g.front k) v w

    -- it carries the books of both
    both_all : carries both ≡ carries v ++ carries w
    both_all = carries_own both present ∙ sym (ap (λ l. l ++ carries w) (carries_own v present))

    -- the two passes carry books of different callers
    different : (p q : ℕ) (a b : Book) → get_elem? (carries v) p ≡ some a → get_elem? (carries w) q ≡ some b → a.caller ≢ b.caller
    different p q a b ea eb h = apart_seats (one_at seats b.caller other id (g.books_are q b eb).1 (ap (get_elem? seats) (sym h) ∙ (f.books_are p a ea).1))

    -- so it carries the book of one caller once
    one_place : (p q : ℕ) (a b : Book) → get_elem? (carries v ++ carries w) p ≡ some a → get_elem? (carries v ++ carries w) q ≡ some b → a.caller ≡ b.caller → p ≡ q
    one_place p q a b ea eb h = ⊎_elim
        (λ x. ⊎_elim (λ y. f.apart p q a b x y h) (λ y. absurd (different p y.0 a b x y.2 h)) (at_append (carries v) (carries w) q b eb))
        (λ x. ⊎_elim (λ y. absurd (different q x.0 b a y x.2 (sym h))) (λ y. let z : x.0 ≡ y.0 = g.apart x.0 y.0 a b x.2 y.2 h in omega (arith, x.1, y.1)) (at_append (carries v) (carries w) q b eb))
        (at_append (carries v) (carries w) p a ea)

    -- and fits
    longer_fits : SeatFits setup books seats' taken_out updates id both
    longer_fits = record {
      setup_is = f.setup_is;
      books_are = λ p b e. ⊎_elim (λ x. ((f.books_are p b x).0, from_else b.caller id (λ h. apart_seats (sym h)) (f.books_are p b x).1)) (λ x. ((g.books_are x.0 b x.2).0, from_other b.caller (g.books_are x.0 b x.2).1))
          (at_append (carries v) (carries w) p b (subst (λ l. At l p b) both_all e));
      apart = λ p q a b ea eb h. one_place p q a b (subst (λ l. At l p a) both_all ea) (subst (λ l. At l q b) both_all eb) h;
      front = starts_longer updates v.front w.front f.front g.front;
      seen_updates = starts_longer updates v.seen_updates w.seen_updates f.seen_updates g.seen_updates;
      seen_taken_out = starts_longer taken_out v.seen_taken_out w.seen_taken_out f.seen_taken_out g.seen_taken_out;
      behind = λ p n b a e h. let l = length-longer v.front w.front in ⊎_elim (λ x. let k = f.behind p n b a x h in omega (arith, l.0)) (λ x. let k = g.behind x.0 n b a x.2 h in omega (arith, l.1))
          (at_append (carries v) (carries w) p b (subst (λ l. At l p b) both_all e));
      recent = λ p b e. let l = length-longer v.seen_updates w.seen_updates in let k = length-longer v.seen_taken_out w.seen_taken_out in
          let n : ℕ = length (longer v.seen_updates w.seen_updates) in let m : ℕ = length (longer v.seen_taken_out w.seen_taken_out) in
          ⊎_elim (λ x. recent_more (length v.seen_updates) n (length v.seen_taken_out) m b.guard b.notes l.0 k.0 (f.recent p b x)) (λ x. recent_more (length w.seen_updates) n (length w.seen_taken_out) m b.guard b.notes l.1 k.1 (g.recent x.0 b x.2))
          (at_append (carries v) (carries w) p b (subst (λ l. At l p b) both_all e));
    }

    -- so the joined pass does
    pub both_fits : SeatFits setup books seats' taken_out updates id (joined v w)
    both_fits = subst (λ (z : List Update × List Update). SeatFits setup books seats' taken_out updates id (joined_with z v w)) (sym known_is) longer_fits

module _ (shape : ShapeFacts) (cover : CoverFacts) (setup : Setup) where
  -- a pass takes in what another knows, and the other is spent
  pub joins : (id : ℕ) (v : View) (other : ℕ) (w : View) → v.present ≡ true → Joins (Rule shape cover setup) id v other w (joined v w) spent
  joins id v other w present s u at ne there = let there' : get_elem? s.views other ≡ some w = sym (set_else s.views id other (joined v w) ne) ∙ there in
      let f = u.seated id v at in let g = u.seated other w there' in let new : List ℕ = map (moved id other) u.seats in
      let Fits : ℕ → View → Type 0 = λ j x. SeatFits setup u.books new u.taken_out u.updates j x in reviewed shape cover setup s u new (set (set s.views id (joined v w)) other spent)
      (λ j x e. ⊎_elim (λ t. subst (λ (z : ℕ). Fits z x) (sym t.0) (subst (Fits other) t.1 (spent_fits setup u.books u.seats u.taken_out u.updates id other ne)))
      (λ t. ⊎_elim (λ q. subst (λ (z : ℕ). Fits z x) (sym q.0) (subst (Fits id) q.1 (both_fits setup u.books u.seats u.taken_out u.updates id other ne v w present f g)))
      (λ q. third_fits setup u.books u.seats u.taken_out u.updates id other ne j x t.0 (u.seated j x q.1)) (at_set s.views id j (joined v w) x t.1))
      (at_set (set s.views id (joined v w)) other j spent x e))
