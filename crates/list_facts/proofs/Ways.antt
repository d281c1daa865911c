-- The way from a spot along the links, where what stands at the indices is sorted lists.
use Rattle.std.proofs.Common.{◌≡◌, ℕ, zero, suc, ◌+◌, ◌-◌, ◌<◌, ◌≤◌, List, [], ◌∷◌, Option, Some, None, sym, refl, ap, ◌∙◌, subst, arith}
use native.Mathlib.Decide.{dec_le}
use mathlib.Core.Logic.{dite}
use mathlib.Core.Option.{some-injective, some-ne-none}
use Rattle.row_words.specs.Refs.{RefParts}
use Rattle.record_rule.specs.Facts.{At}
use Rattle.list_facts.specs.Lists.{Spot}
use Rattle.list_facts.proofs.Spots.{target_of, Leads, Ordered}

-- an option is there or not
pub data IsOption {A : Type 0} (x : Option A) : Type 0 where
  none_is : x ≡ None → IsOption x
  some_is : (a : A) → x ≡ Some a → IsOption x

pub is_option : {A : Type 0} (x : Option A) → IsOption x
is_option None = none_is refl
is_option (Some a) = some_is a refl

pub one_target : {A : Type 0} (x : Option A) (a b : A) → x ≡ Some a → x ≡ Some b → a ≡ b
one_target x a b p q = cc

-- these are what a spot's links lead to, one after another to the end
abbrev pub Way : (ℕ → Spot → Type 0) → Spot → List RefParts → Type 0
Way S a [] = target_of a ≡ None
Way S a (t ∷ ts) = (target_of a ≡ Some t) × (b : Spot) × S (t.index - 1) b × Way S b ts

module _ (S : ℕ → Spot → Type 0) (order : Ordered S) where
  way_by : (a : Spot) → IsOption (target_of a) → ((t : RefParts) → target_of a ≡ Some t → (b : Spot) × S (t.index - 1) b × (ts : List RefParts) × Way S b ts) → (ts : List RefParts) × Way S a ts
  way_by a (none_is e) more = ([], e)
  way_by a (some_is t e) more = let (b, s, ts, w) = more t e in (t ∷ ts, (e, b, s, w))

  -- there is a way from each spot, since ranks rise and are bounded
  pub way : (limit : ℕ) → ((i : ℕ) (a : Spot) → S i a → a.rank ≤ limit) → (fuel i : ℕ) (a : Spot) → S i a → limit < a.rank + fuel → (ts : List RefParts) × Way S a ts
  way limit low zero i a s h = let le = low i a s in absurd (omega arith)
  way limit low (suc fuel) i a s h = way_by a (is_option (target_of a)) (λ t e. let up = order.next i a t s e in let w = way limit low fuel (t.index - 1) up.0 up.2 (omega (arith, up.5)) in (up.0, up.2, w.0, w.1))

  -- and only one
  pub way_one : (a : Spot) (ts us : List RefParts) → Way S a ts → Way S a us → ts ≡ us
  way_one a [] [] v w = refl
  way_one a [] (u ∷ us) v w = let none : ⊥ = (let z = w.0 in cc) in absurd none
  way_one a (t ∷ ts) [] v w = let none : ⊥ = (let z = v.0 in cc) in absurd none
  way_one a (t ∷ ts) (u ∷ us) (e, b, s, v) (f, c, r, w) =
      let same : t ≡ u = one_target (target_of a) t u e f in
      let z : c ≡ b = order.single (t.index - 1) c b (subst (λ (x : RefParts). S (x.index - 1) c) (sym same) r) s in
      (λ k. same k ∷ way_one b ts us v (subst (λ (x : Spot). Way S x us) z w) k)

  -- what stands on the way is in the same list, above
  pub on_way : (i : ℕ) (a : Spot) (ts : List RefParts) → S i a → Way S a ts → (p : ℕ) (t : RefParts) → At ts p t → Leads S a t
  on_way i a [] s w p t at = absurd (some-ne-none t (sym at))
  on_way i a (u ∷ us) s (e, b, r, w) zero t at =
      let same : u ≡ t = some-injective u t at in
      let up = order.next i a u s e in
      subst (Leads S a) same up
  on_way i a (u ∷ us) s (e, b, r, w) (suc p) t at =
      let up = order.next i a u s e in
      let z : up.0 ≡ b = order.single (u.index - 1) up.0 b up.2 r in
      let home : b.home ≡ a.home = ap (λ (x : Spot). x.home) (sym z) ∙ up.4 in
      let rank : b.rank ≡ up.0.rank = ap (λ (x : Spot). x.rank) (sym z) in
      let rest = on_way (u.index - 1) b us r w p t at in
      (rest.0, rest.1, rest.2, rest.3, rest.4 ∙ home, (let x = rest.5 in let y = up.5 in omega arith))

  -- ranks rise along it
  pub way_rises : (i : ℕ) (a : Spot) (ts : List RefParts) → S i a → Way S a ts → (p q : ℕ) (t u : RefParts) → At ts p t → At ts q u → p < q → (b c : Spot) → S (t.index - 1) b → S (u.index - 1) c → b.rank < c.rank
  way_rises i a [] s w p q t u at too lt b c sb sc = absurd (some-ne-none t (sym at))
  way_rises i a (x ∷ xs) s (e, d, r, w) zero zero t u at too lt b c sb sc = absurd (omega arith)
  way_rises i a (x ∷ xs) s (e, d, r, w) (suc p) zero t u at too lt b c sb sc = absurd (omega arith)
  way_rises i a (x ∷ xs) s (e, d, r, w) zero (suc q) t u at too lt b c sb sc =
      let same : x ≡ t = some-injective x t at in
      let z : d ≡ b = order.single (t.index - 1) d b (subst (λ (y : RefParts). S (y.index - 1) d) same r) sb in
      let up = on_way (x.index - 1) d xs r w q u too in
      let v : up.0 ≡ c = order.single (u.index - 1) up.0 c up.2 sc in
      let le : b.rank ≡ d.rank = ap (λ (y : Spot). y.rank) (sym z) in
      let ge : up.0.rank ≡ c.rank = ap (λ (y : Spot). y.rank) v in
      let lt = up.5 in omega arith
  way_rises i a (x ∷ xs) s (e, d, r, w) (suc p) (suc q) t u at too lt b c sb sc = way_rises (x.index - 1) d xs r w p q t u at too (omega arith) b c sb sc

  -- what is above in the same list stands on it
  pub found : (i : ℕ) (a : Spot) (ts : List RefParts) → S i a → Way S a ts → (j : ℕ) (b : Spot) → S j b → a.home ≡ b.home → a.rank < b.rank → (p : ℕ) × (t : RefParts) × At ts p t × (t.index ≡ j + 1)
  found i a [] s w j b r home up = let (t, c, e, at, le) = order.gap i j a b s r home up in let none : ⊥ = cc in absurd none
  found i a (u ∷ us) s (e, d, k, w) j b r home up =
      let (t, c, f, at, le) = order.gap i j a b s r home up in
      let same : u ≡ t = one_target (target_of a) u t e f in
      let lead : Leads S a t = order.next i a t s f in
      let home_c : c.home ≡ b.home = ap (λ (x : Spot). x.home) (order.single (t.index - 1) c lead.0 at lead.2) ∙ lead.4 ∙ home in
      let is : d ≡ c = order.single (t.index - 1) d c (subst (λ (y : RefParts). S (y.index - 1) d) same k) at in
      dite (dec_le b.rank c.rank)
      (λ ge. let z : t.index - 1 ≡ j = order.one (t.index - 1) j c b at r home_c (omega arith) in (zero, u, refl, (let pos = lead.1 in let v : u.index ≡ t.index = ap (λ (x : RefParts). x.index) same in omega arith)))
      (λ lt. let rank : d.rank ≡ c.rank = ap (λ (x : Spot). x.rank) is in let y = found (u.index - 1) d us k w j b r (ap (λ (x : Spot). x.home) is ∙ home_c) (omega arith) in (suc y.0, y.1, y.2, y.3))
