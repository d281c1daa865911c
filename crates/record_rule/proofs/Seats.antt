-- Passes are split off and joined, and no fact about the table changes.
use Rattle.std.proofs.Common.{◌≡◌, ◌≢◌, ℕ, zero, suc, ◌+◌, List, [], ◌∷◌, ◌++◌, ◌≤◌, length, set, length-set, Bool, true, false, cond, ltb, sym, refl, ap, ◌∙◌, subst, arith, ◌⊎◌, inl, inr, ⊎_elim}
use Rattle.std.proofs.lemmas.Bool.{ltb-true, ltb-false}
use mathlib.Core.Option.{some, some-injective, some-ne-none}
use lib.ListN.{get_elem?}
use Rattle.atomic_table.specs.Table.{Splits}
use Rattle.atomic_table.proofs.Lists.{at_set, set_here, set_else}
use Rattle.set_model.specs.declared.calls.Update.{Update}
use Rattle.record_memory.specs.declared.books.Setup.{Setup}
use Rattle.record_memory.specs.declared.books.View.{View}
use Rattle.record_memory.specs.declared.books.Book.{Book}
use Rattle.row_words.specs.Refs.{RefParts}
use Rattle.record_rule.specs.Facts.{At, ShapeFacts, CoverFacts}
use Rattle.record_rule.specs.World.{StartsWith, carries, SeatFits, Rule}
use Rattle.record_rule.specs.Splits.{left_of, right_of, split_left, split_right, longer}
use Rattle.record_rule.proofs.Lists.{at_append, below_at, one_at}
use Rattle.record_rule.proofs.Rebuilt.{carries_own, reviewed}

module _ {A : Type 0} where
  -- a choice of two beginnings is one
  longer_by : (b : Bool) (whole xs ys : List A) → StartsWith whole xs → StartsWith whole ys → StartsWith whole (cond b ys xs)
  longer_by true whole xs ys p q = q
  longer_by false whole xs ys p q = p

  -- the longer of two lists
  longer_le : (b : Bool) (xs ys : List A) → ltb (length xs) (length ys) ≡ b → (length xs ≤ length (cond b ys xs)) × (length ys ≤ length (cond b ys xs))
  longer_le true xs ys e = let h = ltb-true (length xs) (length ys) e in (omega arith, omega arith)
  longer_le false xs ys e = let h = ltb-false (length xs) (length ys) e in (omega arith, omega arith)

  -- it is as long as either
  pub length-longer : (xs ys : List A) → (length xs ≤ length (longer xs ys)) × (length ys ≤ length (longer xs ys))
  length-longer xs ys = longer_le (ltb (length xs) (length ys)) xs ys refl

  -- and begins the whole where both do
  pub starts_longer : (whole xs ys : List A) → StartsWith whole xs → StartsWith whole ys → StartsWith whole (longer xs ys)
  starts_longer whole xs ys p q = longer_by (ltb (length xs) (length ys)) whole xs ys p q

module _ (setup : Setup) (books : List Book) (taken_out : List RefParts) (updates : List Update) where
  -- the same books in another seat
  pub reseated : (seats seats' : List ℕ) (j k : ℕ) (v : View) → SeatFits setup books seats taken_out updates j v
      → ((p : ℕ) (b : Book) → get_elem? (carries v) p ≡ some b → get_elem? seats' b.caller ≡ some k) → SeatFits setup books seats' taken_out updates k v
  reseated seats seats' j k v f at = record {
    setup_is = f.setup_is;
    books_are = λ p b e. ((f.books_are p b e).0, at p b e);
    apart = f.apart;
    front = f.front;
    seen_updates = f.seen_updates;
    seen_taken_out = f.seen_taken_out;
    behind = f.behind;
    recent = f.recent;
  }

  module _ (seats : List ℕ) (id new : ℕ) (v : View) (present : v.present ≡ true) (f : SeatFits setup books seats taken_out updates id v) (b : Book) (bs : List Book) (more : v.others ≡ b ∷ bs) where
    -- what the pass carries
    all : carries v ≡ v.own ∷ (b ∷ bs)
    all = carries_own v present ∙ ap (λ l. v.own ∷ l) more

    -- the seats afterwards
    abbrev seats' : List ℕ
    seats' = set seats b.caller new

    -- a carried book was in its place
    was : (p : ℕ) (a : Book) → get_elem? (v.own ∷ (b ∷ bs)) p ≡ some a → (get_elem? books a.caller ≡ some a) × (get_elem? seats a.caller ≡ some id)
    was p a e = f.books_are p a (subst (λ l. At l p a) (sym all) e)

    -- and carried once
    differ : (p q : ℕ) (a c : Book) → get_elem? (v.own ∷ (b ∷ bs)) p ≡ some a → get_elem? (v.own ∷ (b ∷ bs)) q ≡ some c → a.caller ≡ c.caller → p ≡ q
    differ p q a c ea ec h = f.apart p q a c (subst (λ l. At l p a) (sym all) ea) (subst (λ l. At l q c) (sym all) ec) h

    -- each but the second stays in its seat
    stays : (p : ℕ) (a : Book) → p ≢ 1 → get_elem? (v.own ∷ (b ∷ bs)) p ≡ some a → get_elem? seats' a.caller ≡ some id
    stays p a ne e = set_else seats b.caller a.caller new (λ h. ne (differ p 1 a b e refl h)) ∙ (was p a e).1

    -- the pass without that book
    abbrev kept : View
    kept = record v { others = bs; alone = false }

    -- what it carries
    kept_all : carries kept ≡ v.own ∷ bs
    kept_all = carries_own kept present

    -- where a book stood before
    shifted : (p : ℕ) (a : Book) → get_elem? (v.own ∷ bs) p ≡ some a → (q : ℕ) × (q ≢ 1) × (get_elem? (v.own ∷ (b ∷ bs)) q ≡ some a) × ((r : ℕ) → q ≡ 0 → p ≡ 0) × ((r : ℕ) → q ≡ suc (suc r) → p ≡ suc r)
    shifted zero a e = (0, (λ h. omega arith), e, (λ r h. refl), λ r h. absurd (omega arith))
    shifted (suc p) a e = (suc (suc p), (λ h. omega arith), e, (λ r h. absurd (omega arith)), λ r h. omega arith)

    -- it carries each book once
    same_place : (p q : ℕ) (a c : Book) → get_elem? (v.own ∷ bs) p ≡ some a → get_elem? (v.own ∷ bs) q ≡ some c → a.caller ≡ c.caller → p ≡ q
    same_place zero zero a c ea ec h = refl
    same_place zero (suc q) a c ea ec h = let z = differ 0 (suc (suc q)) a c ea ec h in absurd (omega arith)
    same_place (suc p) zero a c ea ec h = let z = differ (suc (suc p)) 0 a c ea ec h in absurd (omega arith)
    same_place (suc p) (suc q) a c ea ec h = let z = differ (suc (suc p)) (suc (suc q)) a c ea ec h in omega arith

    -- the pass that is left
    pub left_fits : SeatFits setup books seats' taken_out updates id kept
    left_fits = record {
      setup_is = f.setup_is;
      books_are = λ p a e. let x = shifted p a (subst (λ l. At l p a) kept_all e) in ((was x.0 a x.2).0, stays x.0 a x.1 x.2);
      apart = λ p q a c ea ec h. same_place p q a c (subst (λ l. At l p a) kept_all ea) (subst (λ l. At l q c) kept_all ec) h;
      front = f.front;
      seen_updates = f.seen_updates;
      seen_taken_out = f.seen_taken_out;
      behind = λ p n a q e h. let x = shifted p a (subst (λ l. At l p a) kept_all e) in f.behind x.0 n a q (subst (λ l. At l x.0 a) (sym all) x.2) h;
      recent = λ p a e. let x = shifted p a (subst (λ l. At l p a) kept_all e) in f.recent x.0 a (subst (λ l. At l x.0 a) (sym all) x.2);
    }

    -- the new pass
    abbrev made : View
    made = record v { own = b; others = []; alone = false }

    -- it carries that book
    made_all : carries made ≡ b ∷ []
    made_all = carries_own made present

    -- and no other
    only : (p : ℕ) (a : Book) → get_elem? (b ∷ []) p ≡ some a → (p ≡ 0) × (b ≡ a)
    only zero a e = (refl, some-injective b a e)
    only (suc p) a e = absurd (some-ne-none a (sym e))

    -- the new pass
    pub right_fits : SeatFits setup books seats' taken_out updates new made
    right_fits = record {
      setup_is = f.setup_is;
      books_are = λ p a e. let x = only p a (subst (λ l. At l p a) made_all e) in
          subst (λ (z : Book). (get_elem? books z.caller ≡ some z) × (get_elem? seats' z.caller ≡ some new)) x.1 ((was 1 b refl).0, set_here seats b.caller new (below_at seats b.caller id (was 1 b refl).1));
      apart = λ p q a c ea ec h. let x = only p a (subst (λ l. At l p a) made_all ea) in let y = only q c (subst (λ l. At l q c) made_all ec) in x.0 ∙ sym y.0;
      front = f.front;
      seen_updates = f.seen_updates;
      seen_taken_out = f.seen_taken_out;
      behind = λ p n a q e h. let x = only p a (subst (λ l. At l p a) made_all e) in f.behind 1 n a q (subst (λ l. At l 1 a) (sym all) (ap some x.1)) h;
      recent = λ p a e. let x = only p a (subst (λ l. At l p a) made_all e) in f.recent 1 a (subst (λ l. At l 1 a) (sym all) (ap some x.1));
    }

    -- any other pass
    pub others_fit : (j : ℕ) (w : View) → j ≢ id → SeatFits setup books seats taken_out updates j w → SeatFits setup books seats' taken_out updates j w
    others_fit j w ne g = reseated seats seats' j j w g (λ p a e. set_else seats b.caller a.caller new (λ h. ne (one_at seats b.caller j id (ap (get_elem? seats) (sym h) ∙ (g.books_are p a e).1) (was 1 b refl).1)) ∙ (g.books_are p a e).1)

-- the only entry of a list
lone : {A : Type 0} (q : ℕ) (a b : A) → get_elem? (a ∷ []) q ≡ some b → (j n : ℕ) → j ≡ n + q → (j ≡ n) × (a ≡ b)
lone zero a b e j n h = (omega arith, some-injective a b e)
lone (suc q) a b e j n h = absurd (some-ne-none b (sym e))

-- an entry of a list with one more at its end
pub at_end : {A : Type 0} (l : List A) (a b : A) (j : ℕ) → get_elem? (l ++ a ∷ []) j ≡ some b → (get_elem? l j ≡ some b) ⊎ ((j ≡ length l) × (a ≡ b))
at_end l a b j e = ⊎_elim inl (λ t. inr (lone t.0 a b t.2 j (length l) t.1)) (at_append l (a ∷ []) j b e)

module _ (shape : ShapeFacts) (cover : CoverFacts) (setup : Setup) where
  -- the pass is split
  splits_at : (id : ℕ) (v : View) (b : Book) (bs : List Book) → v.present ≡ true → v.others ≡ b ∷ bs → Splits (Rule shape cover setup) id v (record v { others = bs; alone = false }) (record v { own = b; others = []; alone = false })
  splits_at id v b bs present more s u at = let mine = u.seated id v at in let new : ℕ = length s.views in let left : View = record v { others = bs; alone = false } in let right : View = record v { own = b; others = []; alone = false } in
      let fits : (j : ℕ) (w : View) → get_elem? (set s.views id left ++ right ∷ []) j ≡ some w → SeatFits setup u.books (set u.seats b.caller new) u.taken_out u.updates j w =
      λ j w e. ⊎_elim
      (λ q. ⊎_elim (λ t. subst (λ (z : ℕ). SeatFits setup u.books (set u.seats b.caller new) u.taken_out u.updates z w) (sym t.0)
      (subst (SeatFits setup u.books (set u.seats b.caller new) u.taken_out u.updates id) t.1 (left_fits setup u.books u.taken_out u.updates u.seats id new v present mine b bs more)))
      (λ t. others_fit setup u.books u.taken_out u.updates u.seats id new v present mine b bs more j w t.0 (u.seated j w t.1)) (at_set s.views id j left w q))
      (λ q. subst (λ (z : ℕ). SeatFits setup u.books (set u.seats b.caller new) u.taken_out u.updates z w) (sym (q.0 ∙ length-set s.views id left))
      (subst (SeatFits setup u.books (set u.seats b.caller new) u.taken_out u.updates new) q.1 (right_fits setup u.books u.taken_out u.updates u.seats id new v present mine b bs more)))
      (at_end (set s.views id left) right w j e) in
      reviewed shape cover setup s u (set u.seats b.caller new) (set s.views id left ++ right ∷ []) fits

  -- a pass gives the first book that is not its own caller's to a new pass
  pub splits : (id : ℕ) (v : View) (b : Book) (bs : List Book) → v.present ≡ true → v.others ≡ b ∷ bs → Splits (Rule shape cover setup) id v (split_left v) (split_right v)
  splits id v b bs present more = subst (λ (z : View × View). Splits (Rule shape cover setup) id v z.0 z.1) (λ k. (left_of v (sym more k), right_of v (sym more k))) (splits_at id v b bs present more)
