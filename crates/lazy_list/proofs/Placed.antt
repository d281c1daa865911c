-- The computed place of an absence that a marked node showed is one.
use Rattle.std.proofs.Common.{◌≡◌, ℕ, zero, suc, ◌+◌, ◌-◌, ◌<◌, ◌≤◌, ◌&&◌, List, [], ◌∷◌, length, length-append, take, drop, max, Bool, true, false, not, cond, eqb, nat_lt, sym, refl, ap, ◌∙◌, arith}
use Rattle.std.proofs.lemmas.Bool.{and_from, not_from_false, eq-eqb, eqb-true, ltb-false, le-ltb}
use Rattle.std.proofs.lemmas.List.{take-append-le}
use Rattle.std.proofs.Math.Seq.{take-length}
use Rattle.set_model.specs.declared.calls.Update.{Update}
use Rattle.set_model.specs.Keys.{contains}
use Rattle.set_model.specs.Histories.{keys_of}
use Rattle.record_memory.specs.declared.books.View.{View}
use Rattle.record_rule.specs.Facts.{At as Stands}
use Rattle.record_table.specs.declared.passes.Pass.{Pass}
use Rattle.record_table.specs.declared.nodes.Node.{Node}
use Rattle.record_table.specs.Handles.{view}
use Rattle.record_rule.proofs.Rebuilt.{starts_itself, starts_then}
use Rattle.record_rule.proofs.Lists.{below_at}
use Rattle.set_calls.specs.Knowing.{HasSeenKey}
use Rattle.list_calls.specs.Standing.{rank}
use Rattle.lazy_list.specs.Knowing.{HasSeenAtMark}
use Rattle.lazy_list.specs.Places.{IsRemovalAt, is_removal, first_from, is_absent_from, place_of}
use Rattle.lazy_list.proofs.Seeing.{absent_then}

-- both of a test's parts
both : (a b : Bool) → (a && b) ≡ true → (a ≡ true) × (b ≡ true)
both true b e = (refl, e)
both false b e = let none : ⊥ = cc in absurd none

is_not : (a : Bool) → not a ≡ true → a ≡ false
is_not true e = let none : ⊥ = cc in absurd none
is_not false e = refl

-- where some number in the stretch passes the test, the first that does passes it, and is no less than the first of the stretch
first_passes : (test : ℕ → Bool) (more n j : ℕ) → test j ≡ true → n ≤ j → j < n + more → (test (first_from test more n) ≡ true) × (n ≤ first_from test more n)
first_passes test zero n j e low high = absurd (omega (arith, low, high))
first_passes test (suc more) n j e low high = by (test n) refl (λ above. first_passes test more (n + 1) j e above (omega (arith, high)))
  where
    by : (b : Bool) → test n ≡ b → (n + 1 ≤ j → (test (first_from test more (n + 1)) ≡ true) × (n + 1 ≤ first_from test more (n + 1))) → (test (cond b n (first_from test more (n + 1))) ≡ true) × (n ≤ cond b n (first_from test more (n + 1)))
    by true here rest = (here, omega arith)
    by false here rest = let found = rest (later here) in (found.0, omega (arith, found.1))
      where
        differs : n ≡ j → test n ≡ false → ⊥
        differs same none = let both_of : true ≡ false = sym e ∙ ap test (sym same) ∙ none in cc

        later : test n ≡ false → n + 1 ≤ j
        later none = let ne : n ≡ j → ⊥ = (λ same. differs same none) in omega (arith, low, ne)

-- the test of an entry, and the entry
removes_here : (xs : List Update) (k key : ℕ) → is_removal (drop k xs) key ≡ true → (u : Update) × Stands xs k u × (u.key ≡ key) × (u.added ≡ false)
removes_here [] zero key e = let none : ⊥ = cc in absurd none
removes_here [] (suc k) key e = let none : ⊥ = cc in absurd none
removes_here (x ∷ xs) zero key e = let parts = both (eqb x.key key) (not x.added) e in (x, refl, eqb-true x.key key parts.0, is_not x.added parts.1)
removes_here (x ∷ xs) (suc k) key e = removes_here xs k key e

here_removes : (xs : List Update) (k key : ℕ) (u : Update) → Stands xs k u → u.key ≡ key → u.added ≡ false → is_removal (drop k xs) key ≡ true
here_removes [] k key u at same gone = let none : ⊥ = cc in absurd none
here_removes (x ∷ xs) zero key u at same gone = let is : x ≡ u = cc in
    and_from (eqb x.key key) (not x.added) (eq-eqb x.key key (ap (λ (y : Update). y.key) is ∙ same)) (not_from_false x.added (ap (λ (y : Update). y.added) is ∙ gone))
here_removes (x ∷ xs) (suc k) key u at same gone = here_removes xs k key u at same gone

module _ {S R : Type 0} (p : Pass S R) (node : Node) (key : ℕ) (seen : HasSeenAtMark p node key) where
  abbrev v : View
  v = view p

  abbrev removed : ℕ
  removed = rank p node - 1

  abbrev start : ℕ
  start = v.own.guard.start_updates

  abbrev test : ℕ → Bool
  test = is_absent_from v removed key

  abbrev pub m : ℕ
  m = first_from test (length v.seen_updates) 1

  -- so many updates were seen
  seen_many : max start seen.0 ≤ length v.seen_updates
  seen_many = let e = ap length seen.2.seen.1 in let l = length-append seen.2.updates seen.2.seen.0 in let n = seen.2.many in omega arith

  -- the removal that the node's marking may be passes the test
  passes : test seen.0 ≡ true
  passes = and_from _ _ (here_removes v.seen_updates (seen.0 - 1) removed seen.1.1.0 seen.1.1.1 seen.1.1.2 seen.1.1.3) (and_from _ _
      (not_from_false _ (ap (λ (l : List Update). contains (keys_of l) key) taken ∙ seen.2.answer))
      (not_from_false _ (le-ltb _ _ (let e = ap length seen.2.front.1 in let l = length-append v.front seen.2.front.0 in let n = seen.2.many in omega arith))))
    where
      taken : take (max start seen.0) v.seen_updates ≡ seen.2.updates
      taken = ap (λ k. take k v.seen_updates) (sym seen.2.many) ∙ ap (take (length seen.2.updates)) seen.2.seen.1 ∙ take-append-le (length seen.2.updates) seen.2.updates seen.2.seen.0 (omega arith) ∙ take-length seen.2.updates

  first : (test m ≡ true) × (1 ≤ m)
  first = first_passes test (length v.seen_updates) 1 seen.0 passes (let z = seen.1.0 in omega arith) (let b = below_at v.seen_updates (seen.0 - 1) seen.1.1.0 seen.1.1.1 in let z = seen.1.0 in omega arith)

  parts : (is_removal (drop (m - 1) v.seen_updates) removed ≡ true) × ((not (contains (keys_of (take (max start m) v.seen_updates)) key) ≡ true) × (not (nat_lt (max start m) (length v.front)) ≡ true))
  parts = let a = both _ _ first.0 in (a.0, both _ _ a.1)

  -- and so does the computed one
  pub removal_is : IsRemovalAt v.seen_updates m removed
  removal_is = (omega (arith, first.1), removes_here v.seen_updates (m - 1) removed parts.0)

  pub seen_there : HasSeenKey p key false (place_of v removed key)
  seen_there = absent_then p key (max start m) v.seen_updates seen.2.of_keys (starts_itself v.seen_updates) (starts_then v.front seen.2.updates v.seen_updates seen.2.front seen.2.seen) seen.2.started
      (let b = below_at v.seen_updates (m - 1) removal_is.1.0 removal_is.1.1 in let s = seen_many in omega arith)
      (no_less (nat_lt (max start m) (length v.front)) refl)
      (omega arith)
      (is_not _ parts.1.0)
    where
      no_less : (b : Bool) → nat_lt (max start m) (length v.front) ≡ b → length v.front ≤ max start m
      no_less true e = let none : true ≡ false = sym e ∙ is_not _ parts.1.1 in cc
      no_less false e = ltb-false (max start m) (length v.front) e
