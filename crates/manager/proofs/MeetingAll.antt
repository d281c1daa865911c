-- All callers meet in the first one, and learn from it.
use Rattle.std.proofs.Common.{◌≡◌, ℕ, zero, suc, ◌+◌, ◌<◌, List, [], ◌∷◌, ◌++◌, All, map, length, length-set, get_or, set, take, drop, Bool, sym, refl, ap, ◌∙◌, subst, ⊎_elim, arith}
use Rattle.std.proofs.lemmas.List.{append-nil, take_all, drop_all}
use native.Mathlib.Decide.{dec_le}
use mathlib.Core.Logic.{dite}
use mathlib.Core.Option.{some-injective}
use Rattle.atomic_table.proofs.Lists.{at_set, at_map}
use Rattle.set_model.specs.declared.calls.Update.{Update}
use Rattle.record_memory.specs.declared.books.View.{View}
use Rattle.record_rule.specs.Facts.{At}
use Rattle.record_rule.proofs.Lists.{at_below, below_at, get_at, one_at, map_at}
use Rattle.record_rule.proofs.Rebuilt.{starts_then}
use Rattle.record_table.specs.declared.table.Table.{Table}
use Rattle.record_table.specs.declared.passes.Pass.{Pass}
use Rattle.record_table.specs.Handles.{view, same_start, same_then, IsPassOf, IsSamePass}
use Rattle.record_table.specs.Closing.{own_caller, IsWholePassOf, AreAllPasses}
use Rattle.manager.specs.declared.types.Caller.{Caller}
use Rattle.manager.specs.Callers.{IsResting}
use Rattle.manager.specs.Made.{pass_of, passes_of}
use Rattle.manager.specs.Meeting.{front_of, KnowsOf, HasGathered, HaveLearnt, HaveAllMet, IsAtRest, AreAtRest, HasMet, HaveMet}

-- what is read within a list stands there
pub at_read : {A : Type 0} (l : List A) (i : ℕ) (d : A) → i < length l → At l i (get_or l i d)
at_read l i d low = let x = at_below l i low in subst (At l i) (sym (get_at l i x.0 d x.1)) x.1

-- a fact of each entry, by its place
all_at : {A : Type 0} (P : A → Type 0) (l : List A) → All P l → (i : ℕ) (a : A) → At l i a → P a
all_at P l all i a at = subst P (get_at l i a a at) (all i a (below_at l i a at))

at_all : {A : Type 0} (P : A → Type 0) (l : List A) → ((i : ℕ) (a : A) → At l i a → P a) → All P l
at_all P l each k d low = let x = at_below l k low in subst P (sym (get_at l k x.0 d x.1)) (each k x.0 x.1)

-- a slice that was lent whole, as its two parts were left
pub lent_whole : {A : Type 0} (x : A) (xs items : List A) (n : ℕ) → length items ≡ n → length xs + 1 ≡ n → take n (x ∷ (xs ++ drop (suc (length xs)) items)) ≡ x ∷ xs
lent_whole {A = A} x xs items n all is =
    ap (λ (l : List A). take n (x ∷ (xs ++ l))) (drop_all (suc (length xs)) items (omega (arith, all, is))) ∙ ap (λ (l : List A). take n (x ∷ l)) (append-nil xs) ∙ take_all n (x ∷ xs) (omega (arith, is))

module _ {S R L : Type 0} where
  -- what one has seen of another, over a third
  pub knows_then : (a b c : Caller S R L) → KnowsOf b a → KnowsOf c b → KnowsOf c a
  knows_then a b c p q = starts_then (front_of a) (front_of b) (front_of c) p q

  -- of what the first callers, as many as `n`, had seen
  abbrev pub HasGatheredTo : List (Caller S R L) → ℕ → Caller S R L → Type 0
  HasGatheredTo others n into = (i : ℕ) (a : Caller S R L) → i < n → At others i a → KnowsOf into a

  abbrev pub HaveLearntTo : Caller S R L → ℕ → List (Caller S R L) → Type 0
  HaveLearntTo from n others = (i : ℕ) (b : Caller S R L) → i < n → At others i b → KnowsOf b from

  module _ (is_local : L → Bool → View → View → Type 0) (t : Table S R) where
    -- a caller at rest that hasn't met
    pub met_none : (a : Caller S R L) → IsAtRest is_local t a → HasMet is_local t a a
    met_none a r = record { rest = r; same = same_start a.pass; longer = ([], sym (append-nil (front_of a))); unchanged = refl }

    -- one that told another what it had seen, and learnt nothing
    pub met_kept : (a b : Caller S R L) → IsPassOf t b.pass → IsResting is_local b → IsSamePass a.pass b.pass → view b.pass ≡ view a.pass → HasMet is_local t a b
    met_kept a b of resting same kept = record {
      rest = record { of = of; resting = resting };
      same = same;
      longer = ([], ap (λ (v : View). v.front) kept ∙ sym (append-nil (front_of a)));
      unchanged = kept ∙ ap (λ (f : List Update). record (view a.pass) { front = f }) (sym (ap (λ (v : View). v.front) kept));
    }

    -- one meeting after another
    pub met_then : (a b c : Caller S R L) → HasMet is_local t a b → HasMet is_local t b c → HasMet is_local t a c
    met_then a b c p q = record {
      rest = q.rest;
      same = same_then a.pass b.pass c.pass p.same q.same;
      longer = knows_then a b c p.longer q.longer;
      unchanged = q.unchanged ∙ ap (λ (v : View). record v { front = front_of c }) p.unchanged;
    }

    pub have_met_none : (l : List (Caller S R L)) → AreAtRest is_local t l → HaveMet is_local t l l
    have_met_none l r = record { many = refl; each = λ i a b at too. subst (HasMet is_local t a) (one_at l i a b at too) (met_none a (r i a at)) }

    -- one of them met once more
    pub have_met_set : (before after : List (Caller S R L)) (i : ℕ) (b c : Caller S R L) → HaveMet is_local t before after → At after i b → HasMet is_local t b c → HaveMet is_local t before (set after i c)
    have_met_set before after i b c h at more = record {
      many = length-set after i c ∙ h.many;
      each = λ j a d was is. ⊎_elim
          (λ x. subst (HasMet is_local t a) x.1 (met_then a b c (h.each i a b (subst (λ (z : ℕ). At before z a) x.0 was) at) more))
          (λ x. h.each j a d was x.1)
          (at_set after i j c d is);
    }

    -- they are at rest still
    pub met_at_rest : (before after : List (Caller S R L)) → HaveMet is_local t before after → AreAtRest is_local t after
    met_at_rest before after h i b at = let x = at_below before i (let low = below_at after i b at in omega (arith, low, h.many)) in (h.each i x.0 b x.1 at).rest

    pub have_met_then : (before middle after : List (Caller S R L)) → HaveMet is_local t before middle → HaveMet is_local t middle after → HaveMet is_local t before after
    have_met_then before middle after h k = record {
      many = k.many ∙ h.many;
      each = λ i a c was is. let x = at_below middle i (let low = below_at before i a was in omega (arith, low, h.many)) in met_then a x.0 c (h.each i a x.0 was x.1) (k.each i x.0 c x.1 is);
    }

    pub have_met_more : (a b : Caller S R L) (before after : List (Caller S R L)) → HasMet is_local t a b → HaveMet is_local t before after → HaveMet is_local t (a ∷ before) (b ∷ after)
    have_met_more a b before after one h = record { many = omega (arith, h.many); each = each }
      where
        each : (i : ℕ) (c d : Caller S R L) → At (a ∷ before) i c → At (b ∷ after) i d → HasMet is_local t c d
        each zero c d was is = subst (HasMet is_local t c) (some-injective b d is) (subst (λ (x : Caller S R L). HasMet is_local t x b) (some-injective a c was) one)
        each (suc i) c d was is = h.each i c d was is

    -- one turn of gathering: the caller at this place has met into the first
    pub gather_more : (before after : List (Caller S R L)) (n : ℕ) (b into new : Caller S R L) → HaveMet is_local t before after → At after n b → HasGatheredTo before n into → KnowsOf new into → KnowsOf new b
        → HasGatheredTo before (n + 1) new
    gather_more before after n b into new h at so_far longer met i a low was = dite (dec_le (suc i) n)
        (λ lt. knows_then a into new (so_far i a lt was) longer)
        (λ ge. let here : i ≡ n = omega (arith, ge, low) in knows_then a b new (h.each n a b (subst (λ (z : ℕ). At before z a) here was) at).longer met)

    -- and one of spreading
    pub spread_more : (after : List (Caller S R L)) (n : ℕ) (from c : Caller S R L) → HaveLearntTo from n after → KnowsOf c from → HaveLearntTo from (n + 1) (set after n c)
    spread_more after n from c so_far new i b low is = ⊎_elim
        (λ x. subst (λ (z : Caller S R L). KnowsOf z from) x.1 new)
        (λ x. so_far i b (let ne = x.0 in omega (arith, low, ne)) x.1)
        (at_set after n i c b is)

    -- then each has seen what each had
    pub all_met : (x y z : Caller S R L) (before middle after : List (Caller S R L)) → HasMet is_local t x y → HasMet is_local t y z → HasGathered before y → HaveLearnt y after → HaveAllMet (x ∷ before) (z ∷ after)
    all_met x y z before middle after first second gathered learnt i j a b was is = over (in_first i a was) j is
      where
        in_first : (i : ℕ) (a : Caller S R L) → At (x ∷ before) i a → KnowsOf y a
        in_first zero a was = subst (KnowsOf y) (some-injective x a was) first.longer
        in_first (suc i) a was = gathered i a was

        over : KnowsOf y a → (j : ℕ) → At (z ∷ after) j b → KnowsOf b a
        over known zero is = subst (λ (c : Caller S R L). KnowsOf c a) (some-injective z b is) (knows_then a y z known second.longer)
        over known (suc j) is = knows_then a y b known (learnt j b is)

    -- and they are all passes of the table still
    pub met_passes : (before after : List (Caller S R L)) → HaveMet is_local t before after → AreAllPasses t (passes_of before) → AreAllPasses t (passes_of after)
    met_passes before after h all = record { each = at_all (IsWholePassOf t) (passes_of after) each; order = same_order before after h ∙ all.order }
      where
        still_whole : (a b : Caller S R L) → HasMet is_local t a b → IsWholePassOf t a.pass → IsWholePassOf t b.pass
        still_whole a b m was = record { pass = m.rest.of; whole = ap (λ (v : View). v.others) m.unchanged ∙ was.whole }

        each : (i : ℕ) (p : Pass S R) → At (passes_of after) i p → IsWholePassOf t p
        each i p at =
            let b = map_at pass_of after i p at in
            let a = at_below before i (omega (arith, below_at after i b.0 b.1, h.many)) in
            subst (IsWholePassOf t) b.2 (still_whole a.0 b.0 (h.each i a.0 b.0 a.1 b.1) (all_at (IsWholePassOf t) (passes_of before) all.each i a.0.pass (at_map pass_of before i a.0 a.1)))

        same_order : (before after : List (Caller S R L)) → HaveMet is_local t before after → map own_caller (passes_of after) ≡ map own_caller (passes_of before)
        same_order [] [] h = refl
        same_order [] (b ∷ after) h = absurd (omega (arith, h.many))
        same_order (a ∷ before) [] h = absurd (omega (arith, h.many))
        same_order (a ∷ before) (b ∷ after) h =
            λ k. (h.each 0 a b refl refl).same.caller k ∷ same_order before after record { many = omega (arith, h.many); each = λ i c d was is. h.each (suc i) c d was is } k

    -- all passes of a table, at rest
    pub all_at_rest : (l : List (Caller S R L)) → AreAllPasses t (passes_of l) → All (IsResting is_local) l → AreAtRest is_local t l
    all_at_rest l all resting i c at = record {
      of = (all_at (IsWholePassOf t) (passes_of l) all.each i c.pass (at_map pass_of l i c at)).pass;
      resting = all_at (IsResting is_local) l resting i c at;
    }

    pub all_resting : (l : List (Caller S R L)) → AreAtRest is_local t l → All (IsResting is_local) l
    all_resting l rest = at_all (IsResting is_local) l (λ i c at. (rest i c at).resting)

    -- the first caller and the others, before and after all met
    module _ (x : Caller S R L) (before whole : List (Caller S R L)) (is : whole ≡ x ∷ before) (all : AreAllPasses t (passes_of whole)) (resting : All (IsResting is_local) whole) where
      at_rest : AreAtRest is_local t (x ∷ before)
      at_rest = subst (AreAtRest is_local t) is (all_at_rest whole all resting)

      pub first_rests : IsAtRest is_local t x
      first_rests = at_rest 0 x refl

      pub others_rest : AreAtRest is_local t before
      others_rest i c at = at_rest (suc i) c at

      module _ (y z : Caller S R L) (middle after : List (Caller S R L)) (first : HasMet is_local t x y) (second : HasMet is_local t y z) (others : HaveMet is_local t before middle) (then : HaveMet is_local t middle after) where
        pub all_same : HaveMet is_local t whole (z ∷ after)
        all_same = subst (λ (l : List (Caller S R L)). HaveMet is_local t l (z ∷ after)) (sym is) (have_met_more x z before after (met_then x y z first second) (have_met_then before middle after others then))

        pub all_passes : AreAllPasses t (passes_of (z ∷ after))
        unfolding all_same
        all_passes = met_passes whole (z ∷ after) all_same all

        pub all_rest : All (IsResting is_local) (z ∷ after)
        all_rest = all_resting (z ∷ after) (met_at_rest whole (z ∷ after) all_same)

        pub all_know : HasGathered before y → HaveLearnt y after → HaveAllMet whole (z ∷ after)
        all_know gathered learnt = subst (λ (l : List (Caller S R L)). HaveAllMet l (z ∷ after)) (sym is) (all_met x y z before middle after first second gathered learnt)
