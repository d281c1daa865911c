-- Lists of updates that begin one list, and what a pass knows of one history.
use Rattle.std.proofs.Common.{◌≡◌, List, [], ◌∷◌, ◌++◌, length, length-append, ◌≤◌, drop, Bool, true, false, not, cond, ltb, ◌||◌, sym, refl, ap, ◌∙◌, arith, ◌⊎◌, inl, inr, ⊎_elim}
use Rattle.std.proofs.lemmas.Bool.{true≢false, and_parts, and_from, eqb-true, eq-eqb, ltb-true, ltb-false}
use Rattle.std.proofs.lemmas.List.{append-nil, nil_from_length}
use mathlib.Core.Option.{some-injective}
use lib.ListN.{get_elem?}
use Rattle.set_model.specs.declared.calls.Update.{Update}
use Rattle.record_memory.specs.declared.books.View.{View}
use Rattle.record_rule.specs.World.{StartsWith}
use Rattle.record_rule.specs.Beginnings.{same_update, begins, agree, IsOneHistory}
use Rattle.record_rule.specs.Splits.{longer, known_by, joined}
use Rattle.record_rule.proofs.Rebuilt.{starts_itself}

module _ {A : Type 0} where
  -- two equal lists have one head
  heads : (x y : A) (xs ys : List A) → x ∷ xs ≡ y ∷ ys → x ≡ y
  heads x y xs ys e = some-injective x y (ap (λ (l : List A). get_elem? l 0) e)

  -- and one tail
  tails : (x y : A) (xs ys : List A) → x ∷ xs ≡ y ∷ ys → xs ≡ ys
  tails x y xs ys e = ap (λ (l : List A). drop 1 l) e

  -- one more entry before both
  starts_cons : (x y : A) (xs ys : List A) → x ≡ y → StartsWith ys xs → StartsWith (y ∷ ys) (x ∷ xs)
  starts_cons x y xs ys e p = (p.0, (λ k. sym e k ∷ p.1 k))

  -- of two beginnings of one list, one begins the other
  pub one_begins : (whole xs ys : List A) → StartsWith whole xs → StartsWith whole ys → StartsWith ys xs ⊎ StartsWith xs ys
  one_begins whole [] ys p q = inl (ys, refl)
  one_begins whole (x ∷ xs) [] p q = inr (x ∷ xs, refl)
  one_begins [] (x ∷ xs) (y ∷ ys) p q = let e = ap length p.1 in absurd (omega arith)
  one_begins (w ∷ ws) (x ∷ xs) (y ∷ ys) p q = let same : x ≡ y = sym (heads w x ws _ p.1) ∙ heads w y ws _ q.1 in
      ⊎_elim (λ t. inl (starts_cons x y xs ys same t)) (λ t. inr (starts_cons y x ys xs (sym same) t)) (one_begins ws xs ys (p.0, tails w x ws _ p.1) (q.0, tails w y ws _ q.1))

  -- a beginning is no longer than the whole
  pub starts_long : (whole xs : List A) → StartsWith whole xs → length xs ≤ length whole
  starts_long whole xs p = let e = ap length p.1 in let l = length-append xs p.0 in omega arith

  -- a beginning that is as long is the whole
  starts_back : (whole xs : List A) → StartsWith whole xs → length whole ≤ length xs → StartsWith xs whole
  starts_back whole xs p long = let l = length-append xs p.0 in let e = ap length p.1 in let none : p.0 ≡ [] = nil_from_length p.0 (omega arith) in
      ([], sym (append-nil whole ∙ p.1 ∙ ap (λ (r : List A). xs ++ r) none ∙ append-nil xs))

  -- of two lists of which one begins the other, the longer one begins with both
  pub longer_of : (xs ys : List A) → StartsWith ys xs ⊎ StartsWith xs ys → StartsWith (longer xs ys) xs × StartsWith (longer xs ys) ys
  longer_of xs ys h = by (ltb (length xs) (length ys)) refl h
    where
      by : (b : Bool) → ltb (length xs) (length ys) ≡ b → StartsWith ys xs ⊎ StartsWith xs ys → StartsWith (cond b ys xs) xs × StartsWith (cond b ys xs) ys
      by true e (inl p) = (p, starts_itself ys)
      by true e (inr p) = let a = ltb-true (length xs) (length ys) e in let b = starts_long xs ys p in absurd (omega arith)
      by false e (inl p) = (starts_itself xs, starts_back ys xs p (ltb-false (length xs) (length ys) e))
      by false e (inr p) = (starts_itself xs, p)

-- two booleans that pass the test are one
same_bool : (a b : Bool) → cond a b (not b) ≡ true → a ≡ b
same_bool true true e = refl
same_bool true false e = sym e
same_bool false true e = e
same_bool false false e = refl

-- each passes it with itself
bool_itself : (a : Bool) → cond a a (not a) ≡ true
bool_itself true = refl
bool_itself false = refl

-- two updates that pass the test are one
same_true : (a b : Update) → same_update a b ≡ true → a ≡ b
same_true a b e = let p = and_parts _ _ e in let q = and_parts _ _ p.1 in let r = and_parts _ _ q.1 in
    let c = eqb-true a.caller b.caller p.0 in let n = eqb-true a.number b.number q.0 in let k = eqb-true a.key b.key r.0 in let d = same_bool a.added b.added r.1 in
    λ i. record { caller = c i; number = n i; key = k i; added = d i }

-- and each passes it with itself
same_itself : (a : Update) → same_update a a ≡ true
same_itself a = and_from _ _ (eq-eqb a.caller a.caller refl) (and_from _ _ (eq-eqb a.number a.number refl) (and_from _ _ (eq-eqb a.key a.key refl) (bool_itself a.added)))

-- a list that passes the test begins the other
pub begins_true : (xs ys : List Update) → begins xs ys ≡ true → StartsWith ys xs
begins_true [] ys e = (ys, refl)
begins_true (x ∷ xs) [] e = absurd (true≢false (sym e))
begins_true (x ∷ xs) (y ∷ ys) e = let p = and_parts _ _ e in starts_cons x y xs ys (same_true x y p.0) (begins_true xs ys p.1)

-- a list passes it with each longer one
begins_whole : (xs rest : List Update) → begins xs (xs ++ rest) ≡ true
begins_whole [] rest = refl
begins_whole (x ∷ xs) rest = and_from _ _ (same_itself x) (begins_whole xs rest)

-- so each beginning passes it
pub begins_from : (xs ys : List Update) → StartsWith ys xs → begins xs ys ≡ true
begins_from xs ys p = ap (begins xs) p.1 ∙ begins_whole xs p.0

-- of two lists of one history one passes the test with the other
pub agree_from : (xs ys : List Update) → StartsWith ys xs ⊎ StartsWith xs ys → agree xs ys ≡ true
agree_from xs ys (inl p) = ap (λ (b : Bool). b || begins ys xs) (begins_from xs ys p)
agree_from xs ys (inr p) = either (begins xs ys) (begins ys xs) (begins_from ys xs p)
  where
    either : (a b : Bool) → b ≡ true → (a || b) ≡ true
    either true b e = refl
    either false b e = e

-- and back
pub agree_true : (xs ys : List Update) → agree xs ys ≡ true → StartsWith ys xs ⊎ StartsWith xs ys
agree_true xs ys e = by (begins xs ys) (begins ys xs) refl refl e
  where
    by : (a b : Bool) → begins xs ys ≡ a → begins ys xs ≡ b → (a || b) ≡ true → StartsWith ys xs ⊎ StartsWith xs ys
    by true b p q h = inl (begins_true xs ys p)
    by false true p q h = inr (begins_true ys xs q)
    by false false p q h = absurd (true≢false (sym h))

-- any two that begin one list do
pub agree_in : (whole xs ys : List Update) → StartsWith whole xs → StartsWith whole ys → agree xs ys ≡ true
agree_in whole xs ys p q = agree_from xs ys (one_begins whole xs ys p q)

-- What a pass knew that absorbed another, where it then knows of one history: so did both, and its front begins with both fronts
pub record HasHeard (v w after : View) : Type 0 where
  pub own : StartsWith after.front v.front
  pub other : StartsWith after.front w.front
  pub before : IsOneHistory v

pub heard_joined : (v w : View) → IsOneHistory (joined v w) → HasHeard v w (joined v w)
heard_joined v w one = by (agree v.front v.seen_updates) (agree w.front w.seen_updates) (agree v.front w.front) refl refl refl one
  where
    -- what knows of one history passes the test
    shown : (xs ys : List Update) → StartsWith ys xs ⊎ StartsWith xs ys → agree xs ys ≡ false → ⊥
    shown xs ys h e = true≢false (sym (agree_from xs ys h) ∙ e)

    by : (a b c : Bool) → agree v.front v.seen_updates ≡ a → agree w.front w.seen_updates ≡ b → agree v.front w.front ≡ c
        → StartsWith (known_by a b c v w).1 (known_by a b c v w).0 ⊎ StartsWith (known_by a b c v w).0 (known_by a b c v w).1 → HasHeard v w (record (joined v w) { front = (known_by a b c v w).0 })
    by true true true p q r h = let x = longer_of v.front w.front (agree_true v.front w.front r) in record { own = x.0; other = x.1; before = agree_true v.front v.seen_updates p }
    by true true false p q r h = absurd (shown v.front w.front h r)
    by true false c p q r h = absurd (shown w.front w.seen_updates h q)
    by false b c p q r h = absurd (shown v.front v.seen_updates h p)
