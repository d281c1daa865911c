-- How many records of a caller's limbo pass a test, and chains that have them all.
use Rattle.std.proofs.Common.{◌≡◌, ◌≢◌, ℕ, ◌+◌, ◌-◌, ◌≤◌, List, [], ◌∷◌, length, All, get_or, Bool, true, false, not, cond, eqb, ◌&&◌, Option, Some, None, sym, refl, ap, ◌∙◌, subst, arith}
use Rattle.std.specs.List.{Any, count_by}
use Rattle.std.proofs.lemmas.List.Elements.{All-head, All-tail}
use Rattle.record_memory.specs.declared.books.Book.{Book}
use Rattle.record_memory.specs.declared.books.View.{View}
use Rattle.record_memory.specs.declared.books.Share.{Share}
use Rattle.record_memory.specs.declared.books.Standing.{Standing}
use Rattle.record_memory.specs.declared.books.Standing.TheVariants.{Handing, Own, Spare, TakenOut, Limbo, Free, Spent}
use Rattle.row_words.specs.Refs.{RefParts}
use Rattle.row_words.specs.declared.links.Chain.{Chain}
use Rattle.limbo_bags.specs.Chains.{IsApart}
use Rattle.record_rule.specs.Facts.{LimboRecord}
use Rattle.record_rule.specs.Kinds.{share_in}
use Rattle.record_rule.specs.Standings.{is_limbo}
use Rattle.record_rule.specs.Links.{HasTaken, retired_share, retired_with}
use Rattle.record_rule.specs.Freeing.{freed_standing, limbo_share, leaves_limbo, freed_of, freed_from, leaves_one, count_freed}
use Rattle.record_rule.proofs.CountingPlaces.{bit, count_cons}
use Rattle.record_rule.proofs.HandingOut.{known_within}
use Rattle.reclaim_api.specs.Chained.{IsAs, IsChainOf, refs_in}
use Rattle.reclaim_api.specs.Frames.{away_as, in_away, is_as, had}
use Rattle.reclaim_api.specs.Bags.{limbo_read, bag_count, spends_one, count_spent, LeftLimbo}
use Rattle.reclaim_api.proofs.Leaving.{limbo_is, read_is, went}
use Rattle.reclaim_api.proofs.Counting.{sum_at, one_at, sum_over, sum_alike, sum_both, sum_set, over_below, counts_in, over_whole}

freed_sum : (test : LimboRecord → Bool) (i : ℕ) (l : List (Option Share)) → count_freed test i l ≡ sum_at (leaves_one test) i l
freed_sum test i [] = refl
freed_sum test i (x ∷ xs) = ap (λ (n : ℕ). leaves_one test i x + n) (freed_sum test (i + 1) xs)

spent_sum : (test : LimboRecord → Bool) (i : ℕ) (l : List (Option Share)) → count_spent test i l ≡ sum_at (spends_one test) i l
spent_sum test i [] = refl
spent_sum test i (x ∷ xs) = ap (λ (n : ℕ). spends_one test i x + n) (spent_sum test (i + 1) xs)

-- two tests agree on a record in limbo
alike_one : (t u : LimboRecord → Bool) (i : ℕ) (o : Option Share) → ((h : Share) → o ≡ Some h → h.standing ≡ Limbo → t (limbo_share i h) ≡ u (limbo_share i h)) → leaves_one t i o ≡ leaves_one u i o
alike_one t u i None same = refl
alike_one t u i (Some h) same = by (is_limbo h.standing) refl
  where
    by : (b : Bool) → is_limbo h.standing ≡ b → cond {A = ℕ} (b && t (limbo_share i h)) 1 0 ≡ cond (b && u (limbo_share i h)) 1 0
    by true e = ap (λ (x : Bool). cond {A = ℕ} x 1 0) (same h refl (limbo_is h.standing e))
    by false e = refl

-- one test lets no more pass than another that it implies
module _ (t u : LimboRecord → Bool) (less : (x : LimboRecord) → t x ≡ true → u x ≡ true) where
  one_less : (i : ℕ) (o : Option Share) → leaves_one t i o ≤ leaves_one u i o
  one_less i None = omega arith
  one_less i (Some h) = by (is_limbo h.standing) (t (limbo_share i h)) refl (u (limbo_share i h)) refl
    where
      by : (a b : Bool) → t (limbo_share i h) ≡ b → (c : Bool) → u (limbo_share i h) ≡ c → cond (a && b) 1 0 ≤ cond (a && c) 1 0
      by false b e c f = omega arith
      by true false e c f = omega arith
      by true true e true f = omega arith
      by true true e false f = let g = less (limbo_share i h) e in let none : ⊥ = cc in absurd none

  pub fewer : (i : ℕ) (l : List (Option Share)) → count_freed t i l ≤ count_freed u i l
  fewer i [] = omega arith
  fewer i (x ∷ xs) = let a = one_less i x in let b = fewer (i + 1) xs in omega arith

-- as many, where they imply each other
pub as_many : (t u : LimboRecord → Bool) → ((x : LimboRecord) → t x ≡ true → u x ≡ true) → ((x : LimboRecord) → u x ≡ true → t x ≡ true) → (i : ℕ) (l : List (Option Share)) → count_freed t i l ≡ count_freed u i l
as_many t u a b i l = let x = fewer t u a i l in let y = fewer u t b i l in omega arith

-- Tests that agree on all records in limbo count as many
pub bag_alike : (t u : LimboRecord → Bool) (b : Book) → ((i : ℕ) (h : Share) → get_or b.mine i None ≡ Some h → h.standing ≡ Limbo → t (limbo_share i h) ≡ u (limbo_share i h)) → bag_count t b ≡ bag_count u b
bag_alike t u b same = freed_sum t 0 b.mine ∙ sum_alike (leaves_one t) (leaves_one u) b.mine b.mine 0 each (λ j. refl) (λ j. refl) ∙ sym (freed_sum u 0 b.mine)
  where
    each : (j : ℕ) → leaves_one t (0 + j) (get_or b.mine j None) ≡ leaves_one u (0 + j) (get_or b.mine j None)
    each j = let e : j ≡ 0 + j = omega arith in subst (λ (z : ℕ). leaves_one t z (get_or b.mine j None) ≡ leaves_one u z (get_or b.mine j None)) e (alike_one t u j (get_or b.mine j None) (same j))

-- a test that no record passes counts none
none_from : (t : LimboRecord → Bool) → ((x : LimboRecord) → t x ≡ false) → (i : ℕ) (l : List (Option Share)) → count_freed t i l ≡ 0
none_from t never i [] = refl
none_from t never i (None ∷ xs) = let a = none_from t never (i + 1) xs in omega arith
none_from t never i (Some h ∷ xs) = let a = none_from t never (i + 1) xs in let b : leaves_one t i (Some h) ≡ 0 = ap (λ (x : Bool). cond {A = ℕ} (is_limbo h.standing && x) 1 0) (never (limbo_share i h)) ∙ off (is_limbo h.standing) in omega arith
  where
    off : (b : Bool) → cond {A = ℕ} (b && false) 1 0 ≡ 0
    off true = refl
    off false = refl

pub bag_none : (t : LimboRecord → Bool) (b : Book) → ((x : LimboRecord) → t x ≡ false) → bag_count t b ≡ 0
bag_none t b never = none_from t never 0 b.mine

-- Where none leaves limbo, all is known as before
one_stays : (t : LimboRecord → Bool) (i : ℕ) (o : Option Share) → leaves_one t i o ≡ 0 → freed_of t i o ≡ o
one_stays t i None e = refl
one_stays t i (Some h) e = by (leaves_limbo t i h) e
  where
    by : (b : Bool) → ◌≡◌ {A = ℕ} (cond b 1 0) 0 → Some (cond b (record h { standing = freed_standing h.generation }) h) ≡ Some h
    by true e = absurd (omega arith)
    by false e = refl

pub all_stay : (t : LimboRecord → Bool) (i : ℕ) (l : List (Option Share)) → count_freed t i l ≡ 0 → freed_from t i l ≡ l
all_stay t i [] e = refl
all_stay t i (x ∷ xs) e = λ k. one_stays t i x (omega arith) k ∷ all_stay t (i + 1) xs (omega arith) k

-- A bag in two parts
pub bag_parts : (t u : LimboRecord → Bool) (b : Book) → bag_count t b ≡ bag_count (λ x. u x && t x) b + bag_count (λ x. not (u x) && t x) b
bag_parts t u b = let a = freed_sum t 0 b.mine in let c = freed_sum (λ x. u x && t x) 0 b.mine in let d = freed_sum (λ x. not (u x) && t x) 0 b.mine in
    let e = sum_both (leaves_one t) (leaves_one (λ x. u x && t x)) (leaves_one (λ x. not (u x) && t x)) each 0 b.mine in omega arith
  where
    split : (l p q : Bool) → cond {A = ℕ} (l && q) 1 0 ≡ cond {A = ℕ} (l && (p && q)) 1 0 + cond {A = ℕ} (l && (not p && q)) 1 0
    split false p q = refl
    split true true false = refl
    split true true true = refl
    split true false false = refl
    split true false true = refl

    each : (j : ℕ) (o : Option Share) → leaves_one t j o ≡ leaves_one (λ x. u x && t x) j o + leaves_one (λ x. not (u x) && t x) j o
    each j None = refl
    each j (Some h) = split (is_limbo h.standing) (u (limbo_share j h)) (t (limbo_share j h))

-- The bag of all records in limbo
pub bag_all : (b : Book) → had is_limbo b ≡ bag_count (λ x. true) b
bag_all b = from 0 b.mine
  where
    one : (i : ℕ) (o : Option Share) → bit (is_as is_limbo o) ≡ leaves_one (λ x. true) i o
    one i None = refl
    one i (Some h) = by (is_limbo h.standing)
      where
        by : (p : Bool) → bit p ≡ cond {A = ℕ} (p && true) 1 0
        by true = refl
        by false = refl

    from : (i : ℕ) (l : List (Option Share)) → count_by (is_as is_limbo) l ≡ count_freed (λ x. true) i l
    from i [] = refl
    from i (x ∷ xs) = let a = count_cons (is_as is_limbo) x xs in let c = one i x in let d = from (i + 1) xs in omega arith

-- what is known of records that are away is all that a bag counts
away_one : (t : LimboRecord → Bool) (i : ℕ) (o : Option Share) → leaves_one t i o ≡ leaves_one t i (in_away o)
away_one t i None = refl
away_one t i (Some h) = by h.standing refl
  where
    off : (s : Standing) → h.standing ≡ s → is_limbo s ≡ false → leaves_one t i (Some h) ≡ 0
    off s e other = ap (λ (z : Standing). cond {A = ℕ} (is_limbo z && t (limbo_share i h)) 1 0) e ∙ ap (λ (b : Bool). cond {A = ℕ} (b && t (limbo_share i h)) 1 0) other

    by : (s : Standing) → h.standing ≡ s → leaves_one t i (Some h) ≡ leaves_one t i (away_as h s)
    by (Handing n) e = off (Handing n) e refl
    by Own e = off Own e refl
    by Spare e = off Spare e refl
    by TakenOut e = off TakenOut e refl
    by Limbo e = refl
    by Free e = off Free e refl
    by Spent e = refl

pub bag_away : (t : LimboRecord → Bool) (v w : View) → ((i : ℕ) → in_away (get_or w.own.mine i None) ≡ in_away (get_or v.own.mine i None)) → bag_count t w.own ≡ bag_count t v.own
bag_away t v w same = freed_sum t 0 w.own.mine
    ∙ sum_alike (leaves_one t) (leaves_one t) w.own.mine v.own.mine 0 (λ j. away_one t (0 + j) (get_or w.own.mine j None) ∙ ap (leaves_one t (0 + j)) (same j) ∙ sym (away_one t (0 + j) (get_or v.own.mine j None))) (λ j. refl) (λ j. refl)
    ∙ sym (freed_sum t 0 v.own.mine)

-- A record is retired: it counts where it passes with its stamp
pub bag_retired : (t : LimboRecord → Bool) (v : View) (r : RefParts) (share : Share) (value : ℕ) → HasTaken v r share → bag_count t (retired_with v r share value).own ≡ bag_count t v.own + cond (t (limbo_share (r.index - 1) (retired_share share value))) 1 0
bag_retired t v r share value taken = let k : ℕ = r.index - 1 in let e : 0 + k ≡ k = omega arith in let a = sum_set (leaves_one t) 0 k v.own.mine (Some (retired_share share value)) (known_within v.own.mine k share taken.known) in
    let c = freed_sum t 0 (retired_with v r share value).own.mine in let d = freed_sum t 0 v.own.mine in
    let was : leaves_one t (0 + k) (get_or v.own.mine k None) ≡ 0 = ap (leaves_one t (0 + k)) taken.known ∙ ap (λ (s : Standing). cond {A = ℕ} (is_limbo s && t (limbo_share (0 + k) share)) 1 0) taken.standing in
    let is : leaves_one t (0 + k) (Some (retired_share share value)) ≡ cond (t (limbo_share k (retired_share share value))) 1 0 = ap (λ (z : ℕ). leaves_one t z (Some (retired_share share value))) e in omega arith

-- one record after others left
after_one : (t may : LimboRecord → Bool) (i : ℕ) (o : Option Share) → leaves_one t i (freed_of may i o) ≡ leaves_one (λ x. not (may x) && t x) i o
after_one t may i None = refl
after_one t may i (Some h) = by (leaves_limbo may i h) refl
  where
    gone : (g : Bool) → cond {A = ℕ} (is_limbo (cond g Spent Free) && t (limbo_share i h)) 1 0 ≡ 0
    gone true = refl
    gone false = refl

    stays : (l m p : Bool) → (l && m) ≡ false → cond {A = ℕ} (l && p) 1 0 ≡ cond {A = ℕ} (l && (not m && p)) 1 0
    stays false m p e = refl
    stays true false p e = refl
    stays true true p e = let none : ⊥ = cc in absurd none

    off : (b : Bool) → cond {A = ℕ} (b && false) 1 0 ≡ 0
    off true = refl
    off false = refl

    by : (b : Bool) → leaves_limbo may i h ≡ b → leaves_one t i (Some (cond b (record h { standing = freed_standing h.generation }) h)) ≡ leaves_one (λ x. not (may x) && t x) i (Some h)
    by true e = gone (eqb h.generation 1048575) ∙ sym (ap (λ (b : Bool). cond {A = ℕ} (is_limbo h.standing && (not b && t (limbo_share i h))) 1 0) (went may i h e).1 ∙ off (is_limbo h.standing))
    by false e = stays (is_limbo h.standing) (may (limbo_share i h)) (t (limbo_share i h)) e

after_from : (t may : LimboRecord → Bool) (i : ℕ) (l : List (Option Share)) → count_freed t i (freed_from may i l) ≡ count_freed (λ x. not (may x) && t x) i l
after_from t may i [] = refl
after_from t may i (x ∷ xs) = let a = after_one t may i x in let b = after_from t may (i + 1) xs in omega arith

module _ (may : LimboRecord → Bool) (v w : View) (h : LeftLimbo may v w) where
  -- After records left limbo a bag counts those of it that didn't
  pub bag_after : (t : LimboRecord → Bool) → bag_count t w.own ≡ bag_count (λ x. not (may x) && t x) v.own
  bag_after t = ap (count_freed t 0) h.mine ∙ after_from t may 0 v.own.mine

  -- as many as before where none of it left
  pub bag_over : (t : LimboRecord → Bool) → ((i : ℕ) (s : Share) → get_or v.own.mine i None ≡ Some s → s.standing ≡ Limbo → t (limbo_share i s) ≡ true → may (limbo_share i s) ≡ false) → bag_count t w.own ≡ bag_count t v.own
  bag_over t fails = bag_after t ∙ bag_alike (λ x. not (may x) && t x) t v.own (λ i s at is. by (t (limbo_share i s)) (may (limbo_share i s)) (fails i s at is))
    where
      by : (p m : Bool) → (p ≡ true → m ≡ false) → (not m && p) ≡ p
      by true false f = refl
      by true true f = sym (f refl)
      by false false f = refl
      by false true f = refl

  -- and none where all of it left
  pub bag_gone : (t : LimboRecord → Bool) → ((i : ℕ) (s : Share) → get_or v.own.mine i None ≡ Some s → s.standing ≡ Limbo → t (limbo_share i s) ≡ true → may (limbo_share i s) ≡ true) → bag_count t w.own ≡ 0
  bag_gone t passes = bag_after t ∙ bag_alike (λ x. not (may x) && t x) (λ x. false) v.own (λ i s at is. by (t (limbo_share i s)) (may (limbo_share i s)) (passes i s at is)) ∙ bag_none (λ x. false) v.own (λ x. refl)
    where
      by : (p m : Bool) → (p ≡ true → m ≡ true) → (not m && p) ≡ false
      by true true f = refl
      by true false f = sym (f refl)
      by false false f = refl
      by false true f = refl

-- Of two records that the caller has, those with one index are one
pub one_ref : (s t : Standing) (v : View) (q r : RefParts) → IsAs s v q → IsAs t v r → q.index ≡ r.index → (q ≡ r) × (s ≡ t)
one_ref s t v q r a b e = let same : a.owns.share ≡ b.owns.share = some_same a.owns.share b.owns.share (sym a.owns.known ∙ ap (share_in v) e ∙ b.owns.known) in (
  λ k. record { index = e k; generation = (sym a.owns.generation ∙ ap (λ (x : Share). x.generation) same ∙ b.owns.generation) k },
  sym a.standing_is ∙ ap (λ (x : Share). x.standing) same ∙ b.standing_is,
)
  where
    some_same : (a b : Share) → Some a ≡ Some b → a ≡ b
    some_same a b e = cc

-- chains of records with two standings have none in common
pub chains_apart : (s t : Standing) (v : View) (a b : Chain) → s ≢ t → IsChainOf s v a → IsChainOf t v b → All (λ r. IsApart r (refs_in v b)) (refs_in v a)
chains_apart s t v a b other h k i d lt j e below same = other (one_ref s t v (get_or (refs_in v a) i d) (get_or (refs_in v b) j e) (h.list.owned i d lt) (k.list.owned j e below) (sym same)).1

-- and so have bags whose tests no record passes both
pub bags_apart : (t : LimboRecord → Bool) (v : View) (a b : Chain) → IsChainOf Limbo v a → IsChainOf Limbo v b → All (λ r. t (limbo_read v r) ≡ true) (refs_in v a) → All (λ r. t (limbo_read v r) ≡ false) (refs_in v b) → All (λ r. IsApart r (refs_in v b)) (refs_in v a)
bags_apart t v a b h k passes fails i d lt j e below same = let one = (one_ref Limbo Limbo v (get_or (refs_in v a) i d) (get_or (refs_in v b) j e) (h.list.owned i d lt) (k.list.owned j e below) (sym same)).0 in
    let both : true ≡ false = sym (passes i d lt) ∙ ap (λ (r : RefParts). t (limbo_read v r)) one ∙ fails j e below in let none : ⊥ = cc in absurd none

module _ (t : LimboRecord → Bool) (v : View) where
  passes : RefParts → Bool
  passes r = t (limbo_read v r)

  -- how a record of a bag is counted
  counted : (r : RefParts) → IsAs Limbo v r → one_at (leaves_one t) v.own.mine r ≡ bit (t (limbo_read v r))
  counted r a = ap (leaves_one t (r.index - 1)) a.owns.known ∙ ap (λ (s : Standing). cond {A = ℕ} (is_limbo s && t (limbo_share (r.index - 1) a.owns.share)) 1 0) a.standing_is ∙ ap (λ (x : LimboRecord). bit (t x)) (read_is v r a.owns)

  counted_spent : (r : RefParts) → IsAs Limbo v r → one_at (spends_one t) v.own.mine r ≡ bit (t (limbo_read v r) && eqb r.generation 1048575)
  counted_spent r a = ap (spends_one t (r.index - 1)) a.owns.known ∙ ap (λ (s : Standing). cond {A = ℕ} (is_limbo s && t (limbo_share (r.index - 1) a.owns.share)) (cond (eqb a.owns.share.generation 1048575) 1 0) 0) a.standing_is
      ∙ nested (t (limbo_share (r.index - 1) a.owns.share)) (eqb a.owns.share.generation 1048575)
      ∙ (λ k. bit (t (read_is v r a.owns k) && eqb (a.owns.generation k) 1048575))
    where
      nested : (p q : Bool) → cond {A = ℕ} p (cond q 1 0) 0 ≡ bit (p && q)
      nested true q = refl
      nested false q = refl

  over_refs : (rs : List RefParts) → All (IsAs Limbo v) rs → sum_over (leaves_one t) v.own.mine rs ≡ count_by (λ (r : RefParts). t (limbo_read v r)) rs
  over_refs [] all = refl
  over_refs (r ∷ rs) all = let a = counted r (All-head (IsAs Limbo v) r rs all) in let b = over_refs rs (All-tail (IsAs Limbo v) r rs all) in let c = count_cons (λ (q : RefParts). t (limbo_read v q)) r rs in omega arith

  over_spent : (rs : List RefParts) → All (IsAs Limbo v) rs → sum_over (spends_one t) v.own.mine rs ≡ count_by (λ (r : RefParts). t (limbo_read v r) && eqb r.generation 1048575) rs
  over_spent [] all = refl
  over_spent (r ∷ rs) all = let a = counted_spent r (All-head (IsAs Limbo v) r rs all) in let b = over_spent rs (All-tail (IsAs Limbo v) r rs all) in let c = count_cons (λ (q : RefParts). t (limbo_read v q) && eqb q.generation 1048575) r rs in omega arith

  module _ (chain : Chain) (h : IsChainOf Limbo v chain) where
    -- No more records of a chain pass than of all
    pub chain_passing : count_by (λ (r : RefParts). t (limbo_read v r)) (refs_in v chain) ≤ bag_count t v.own
    chain_passing = let a = over_below (leaves_one t) (λ j. refl) (refs_in v chain) v.own.mine h.list.distinct h.list.in_range in let b = over_refs (refs_in v chain) h.list.owned in let c = freed_sum t 0 v.own.mine in omega arith

    module _ (whole : count_by (λ (r : RefParts). t (limbo_read v r)) (refs_in v chain) ≡ bag_count t v.own) where
      -- where as many pass, each that passes is in it
      pub bag_has : (r : RefParts) → IsAs Limbo v r → t (limbo_read v r) ≡ true → Any (λ (q : RefParts). q ≡ r) (refs_in v chain)
      bag_has r a is = is_it (counts_in (leaves_one t) (λ j. refl) (refs_in v chain) v.own.mine h.list.distinct h.list.in_range (over_refs (refs_in v chain) h.list.owned ∙ whole ∙ freed_sum t 0 v.own.mine) (r.index - 1) (let n = counted r a in let one = ap bit is in omega arith))
        where
          is_it : Any (λ (q : RefParts). q.index - 1 ≡ r.index - 1) (refs_in v chain) → Any (λ (q : RefParts). q ≡ r) (refs_in v chain)
          is_it (k, q, below, there, same) = let b : IsAs Limbo v q = subst (IsAs Limbo v) there (h.list.owned k q below) in
              (k, q, below, there, (one_ref Limbo Limbo v q r b a (let mine = b.owns.is_ref.index.0 in let its = a.owns.is_ref.index.0 in omega arith)).0)

      -- and all that are spent when they leave are in it
      pub spent_whole : count_by (λ (r : RefParts). t (limbo_read v r) && eqb r.generation 1048575) (refs_in v chain) ≡ count_spent t 0 v.own.mine
      spent_whole = sym (over_spent (refs_in v chain) h.list.owned)
          ∙ over_whole (leaves_one t) (spends_one t) (λ j. refl) less (refs_in v chain) v.own.mine h.list.distinct h.list.in_range (over_refs (refs_in v chain) h.list.owned ∙ whole ∙ freed_sum t 0 v.own.mine) ∙ sym (spent_sum t 0 v.own.mine)
        where
          by : (p q : Bool) → cond {A = ℕ} p (cond q 1 0) 0 ≤ cond {A = ℕ} p 1 0
          by true true = omega arith
          by true false = omega arith
          by false q = omega arith

          less : (i : ℕ) (o : Option Share) → spends_one t i o ≤ leaves_one t i o
          less i None = omega arith
          less i (Some s) = by (leaves_limbo t i s) (eqb s.generation 1048575)

-- a count where all pass
pub count_all : (p : RefParts → Bool) (rs : List RefParts) → All (λ r. p r ≡ true) rs → count_by p rs ≡ length rs
count_all p [] all = refl
count_all p (r ∷ rs) all = let a = ap bit (All-head (λ q. p q ≡ true) r rs all) in let b = count_all p rs (All-tail (λ q. p q ≡ true) r rs all) in let c = count_cons p r rs in omega arith

-- and where one test decides
pub count_both : (p q : RefParts → Bool) (rs : List RefParts) → All (λ r. p r ≡ true) rs → count_by (λ r. p r && q r) rs ≡ count_by q rs
count_both p q [] all = refl
count_both p q (r ∷ rs) all = let a : bit (p r && q r) ≡ bit (q r) = ap (λ (b : Bool). bit (b && q r)) (All-head (λ z. p z ≡ true) r rs all) in let b = count_both p q rs (All-tail (λ z. p z ≡ true) r rs all) in
    let c = count_cons (λ z. p z && q z) r rs in let d = count_cons q r rs in omega arith

-- A bag all of whose records pass has all that do, where it has as many
pub bag_whole : (t : LimboRecord → Bool) (v : View) (chain : Chain) → IsChainOf Limbo v chain → All (λ r. t (limbo_read v r) ≡ true) (refs_in v chain) → chain.count ≡ bag_count t v.own → count_by (λ (r : RefParts). t (limbo_read v r)) (refs_in v chain) ≡ bag_count t v.own
bag_whole t v chain h all many = count_all (λ r. t (limbo_read v r)) (refs_in v chain) all ∙ sym h.list.count ∙ many

-- and those of it at the last generation are all that are spent
pub bag_spent : (t : LimboRecord → Bool) (v : View) (chain : Chain) → IsChainOf Limbo v chain → All (λ r. t (limbo_read v r) ≡ true) (refs_in v chain)
    → chain.count ≡ bag_count t v.own → count_by (λ (r : RefParts). eqb r.generation 1048575) (refs_in v chain) ≡ count_spent t 0 v.own.mine
bag_spent t v chain h all many = sym (count_both (λ r. t (limbo_read v r)) (λ r. eqb r.generation 1048575) (refs_in v chain) all) ∙ spent_whole t v chain h (bag_whole t v chain h all many)
