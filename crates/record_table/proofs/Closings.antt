-- The passes of a table are absorbed in order of number.
use Rattle.std.proofs.Common.{◌≡◌, ℕ, suc, ◌+◌, List, [], ◌∷◌, ◌++◌, map, length, All, true, sym, refl, ap, ◌∙◌, subst, arith}
use Rattle.std.proofs.lemmas.List.{append-nil, nil_from_length, append_assoc, reverse-append, reverse-reverse}
use Rattle.std.proofs.lemmas.List.Elements.{All-nil, All-cons, All-head, All-tail, All-push, All-same, All-weaker}
use mathlib.Core.List.{reverse}
use Rattle.record_memory.specs.declared.books.View.{View}
use Rattle.record_memory.specs.declared.books.Book.{Book}
use Rattle.record_memory.specs.declared.books.Guard.{Guard}
use Rattle.record_rule.specs.World.{StartsWith, carries}
use Rattle.record_rule.specs.Beginnings.{IsOneHistory}
use Rattle.record_rule.specs.Splits.{joined}
use Rattle.record_rule.proofs.Rebuilt.{carries_own, starts_itself, starts_then}
use Rattle.record_rule.proofs.Beginnings.{heard_joined}
use Rattle.record_table.specs.declared.table.Table.{Table}
use Rattle.record_table.specs.declared.passes.Pass.{Pass}
use Rattle.record_table.specs.Handles.{setup_of, view}
use Rattle.record_table.specs.Made.{IsFresh, AreFreshFrom, AreFreshPasses}
use Rattle.record_rule.proofs.Lists.{at_below, get_at}
use Rattle.record_table.specs.Closing.{own_book, own_caller, numbers_from, IsWholePassOf, AreAllPasses}

reverse-cons : {A : Type 0} (x : A) (xs : List A) → reverse (x ∷ xs) ≡ reverse xs ++ x ∷ []
reverse-cons x xs = reverse-append (x ∷ []) xs

pub All-reverse : {A : Type 0} (P : A → Type 0) (xs : List A) → All P xs → All P (reverse xs)
All-reverse P [] h = All-nil P
All-reverse P (x ∷ xs) h = subst (All P) (sym (reverse-cons x xs)) (All-push P (reverse xs) x (All-reverse P xs (All-tail P x xs h)) (All-head P x xs h))

pub carries_joined : (v w : View) → v.present ≡ true → carries (joined v w) ≡ carries v ++ carries w
carries_joined v w present = carries_own (joined v w) present ∙ sym (ap (λ l. l ++ carries w) (carries_own v present))

module _ {S R : Type 0} (t : Table S R) where
  pub carries_whole : (p : Pass S R) → IsWholePassOf t p → carries (view p) ≡ own_book p ∷ []
  carries_whole p h = carries_own (view p) h.pass.present ∙ ap (λ l. own_book p ∷ l) h.whole

  -- the last of what is left comes next
  pub next_own : (xs ys : List (Pass S R)) (p : Pass S R) → xs ≡ ys ++ p ∷ [] → map own_book (reverse xs) ≡ own_book p ∷ map own_book (reverse ys)
  next_own xs ys p e = ap (λ l. map own_book (reverse l)) e ∙ ap (map own_book) (reverse-append ys (p ∷ []))

  pub first_all : (all xs ys : List (Pass S R)) (p : Pass S R) → xs ≡ reverse all → xs ≡ ys ++ p ∷ [] → IsWholePassOf t p → carries (view p) ++ map own_book (reverse ys) ≡ map own_book all
  first_all all xs ys p r e h = ap (λ l. l ++ map own_book (reverse ys)) (carries_whole p h) ∙ sym (next_own xs ys p e) ∙ ap (λ l. map own_book (reverse l)) r ∙ ap (map own_book) (reverse-reverse all)

  pub more_all : (all : List Book) (v w : View) (xs ys : List (Pass S R)) (p : Pass S R) → v.present ≡ true → w ≡ joined v (view p) → xs ≡ ys ++ p ∷ [] → IsWholePassOf t p
      → carries v ++ map own_book (reverse xs) ≡ all → carries w ++ map own_book (reverse ys) ≡ all
  more_all all v w xs ys p present is e h was = ap (λ x. carries x ++ map own_book (reverse ys)) is ∙ ap (λ l. l ++ map own_book (reverse ys)) (carries_joined v (view p) present ∙ ap (λ l. carries v ++ l) (carries_whole p h))
      ∙ append_assoc (carries v) (own_book p ∷ []) (map own_book (reverse ys)) ∙ ap (λ l. carries v ++ l) (sym (next_own xs ys p e)) ∙ was

  map_own : (all : List (Pass S R)) → map own_caller all ≡ map (λ (b : Book). b.caller) (map own_book all)
  map_own [] = refl
  map_own (p ∷ ps) = ap (λ l. own_caller p ∷ l) (map_own ps)

  -- once none is left, the last pass carries the books of all
  pub last_all : (callers : List ℕ) (all xs : List (Pass S R)) (v : View) → length xs ≡ 0 → carries v ++ map own_book (reverse xs) ≡ map own_book all → map own_caller all ≡ callers → map (λ (b : Book). b.caller) (carries v) ≡ callers
  last_all callers all xs v none is numbers = ap (map (λ (b : Book). b.caller)) (sym (append-nil (carries v)) ∙ ap (λ l. carries v ++ map own_book (reverse l)) (sym (nil_from_length xs none)) ∙ is) ∙ sym (map_own all) ∙ numbers

  -- of all passes these are left, and once the absorbing one knows of one history, the fronts of all others begin its own
  pub record HaveHeard (v : View) (all left : List (Pass S R)) : Type 0 where
    pub done : List (Pass S R)
    pub split : all ≡ done ++ reverse left
    pub fronts : IsOneHistory v → All (λ (p : Pass S R). StartsWith v.front (view p).front) done

  -- the last of what is left comes next
  next_pass : (xs ys : List (Pass S R)) (p : Pass S R) → xs ≡ ys ++ p ∷ [] → reverse xs ≡ p ∷ reverse ys
  next_pass xs ys p e = ap reverse e ∙ reverse-append ys (p ∷ [])

  -- the first pass has heard its own front
  pub first_heard : (all xs ys : List (Pass S R)) (p : Pass S R) → xs ≡ reverse all → xs ≡ ys ++ p ∷ [] → HaveHeard (view p) all ys
  first_heard all xs ys p r e = record {
    done = p ∷ [];
    split = sym (reverse-reverse all) ∙ ap reverse (sym r) ∙ next_pass xs ys p e;
    fronts = λ _. All-cons (λ (q : Pass S R). StartsWith (view p).front (view q).front) p [] (starts_itself (view p).front) (All-nil (λ (q : Pass S R). StartsWith (view p).front (view q).front));
  }

  -- and one that absorbs another hears one more
  pub more_heard : (all : List (Pass S R)) (v w : View) (xs ys : List (Pass S R)) (p : Pass S R) → w ≡ joined v (view p) → xs ≡ ys ++ p ∷ [] → HaveHeard v all xs → HaveHeard w all ys
  more_heard all v w xs ys p is e h = subst (λ (z : View). HaveHeard z all ys) (sym is) record {
    done = h.done ++ p ∷ [];
    split = h.split ∙ ap (λ l. h.done ++ l) (next_pass xs ys p e) ∙ sym (append_assoc h.done (p ∷ []) (reverse ys));
    fronts = λ one. let x = heard_joined v (view p) one in let after : View = joined v (view p) in
        All-push (λ (q : Pass S R). StartsWith after.front (view q).front) h.done p
        (All-weaker (λ (q : Pass S R). StartsWith v.front (view q).front) (λ (q : Pass S R). StartsWith after.front (view q).front) (λ q b. starts_then (view q).front v.front after.front b x.own) h.done (h.fronts x.before)) x.other;
  }

  -- so it has heard all once none is left
  pub all_heard : (all left : List (Pass S R)) (v : View) → length left ≡ 0 → IsOneHistory v → HaveHeard v all left → All (λ (p : Pass S R). StartsWith v.front (view p).front) all
  all_heard all left v none one h = All-same (λ (p : Pass S R). StartsWith v.front (view p).front) all h.done (h.split ∙ ap (λ l. h.done ++ reverse l) (nil_from_length left none) ∙ append-nil h.done) (h.fronts one)

  pub tail_fresh : (first : Guard) (from : ℕ) (p : Pass S R) (ps : List (Pass S R)) → AreFreshFrom t first from (p ∷ ps) → AreFreshFrom t first (from + 1) ps
  tail_fresh first from p ps f = record {
    each_pass = λ k q e. f.each_pass (suc k) q e;
    each_outside = λ k q e. f.each_outside (suc k) q e;
    each_view = λ k q e. subst (λ (z : ℕ). IsFresh (setup_of t) first z (view q)) (let z : from + suc k ≡ from + 1 + k = omega arith in z) (f.each_view (suc k) q e);
  }

  fresh_numbers : (first : Guard) (from : ℕ) (ps : List (Pass S R)) → AreFreshFrom t first from ps → map own_caller ps ≡ numbers_from from (length ps)
  fresh_numbers first from [] f = refl
  fresh_numbers first from (p ∷ ps) f = (λ k. ap (λ (b : Book). b.caller) (f.each_view 0 p refl).own k ∷ map own_caller ps) ∙ (λ k. (let z : from + 0 ≡ from = omega arith in z) k ∷ fresh_numbers first (from + 1) ps (tail_fresh first from p ps f) k)

  -- fresh passes are all that there are
  pub all_fresh : (first : Guard) (ps : List (Pass S R)) → AreFreshPasses t first ps → AreAllPasses t ps
  all_fresh first ps f = record {
    each = λ k d lt. let x = at_below ps k lt in subst (IsWholePassOf t) (sym (get_at ps k x.0 d x.1)) record { pass = f.each.each_pass k x.0 x.1; whole = (f.each.each_view k x.0 x.1).others_are };
    order = fresh_numbers first 0 ps f.each ∙ ap (numbers_from 0) f.all;
  }
