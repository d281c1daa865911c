-- The paths of sorted lists.
use Rattle.std.proofs.Common.{◌≡◌, ℕ, ◌+◌, ◌%◌, ◌^◌, ◌<◌, ◌≤◌, List, length, drop, sym, ap, ◌∙◌, subst, arith}
use native.Mathlib.Decide.{dec_le, ℕ_discrete}
use mathlib.Core.Logic.{dite}
use Rattle.record_memory.specs.declared.books.Setup.{Setup}
use Rattle.record_memory.specs.declared.books.Place.TheVariants.{Linked}
use Rattle.row_words.specs.Refs.{RefParts}
use Rattle.record_rule.specs.Records.{Record, IsSound}
use Rattle.record_rule.specs.Facts.{At, key_at}
use Rattle.list_facts.specs.Lists.{Spot}
use Rattle.list_facts.proofs.Spots.{Ordered}
use Rattle.list_facts.specs.ClosedLists.{IsLinked}
use Rattle.list_facts.specs.Paths.{row_key, IsPath, IsPathOf, StandsOn, IsOnPath, ArePaths}
use Rattle.list_facts.proofs.Ways.{Way, way, way_one, on_way, way_rises, found}
use Rattle.list_facts.proofs.PathRows.{rows, Stand, target_row, key_row, low, root_here, linked_here, linked_spot, way_path, path_way}

module _ (setup : Setup) (records : List Record) (some : 0 < setup.roots) (rooted : setup.roots ≤ setup.records) (many : length records ≡ setup.records) (sound : (i : ℕ) (r : Record) → At records i r → IsSound setup i r) (order : Ordered (Stand setup records)) where
  abbrev S : ℕ → Spot → Type 0
  S = Stand setup records

  root_spot : (n : ℕ) → n < setup.roots → (a : Spot) × S n a × (a.home ≡ n) × (a.rank ≡ 0)
  root_spot n h = root_here setup records sound many rooted n h

  root_way : (n : ℕ) (h : n < setup.roots) (path : List RefParts) → IsPathOf (rows setup records) n path → Way S (root_spot n h).0 path
  root_way n h path is = let a = root_spot n h in path_way setup records sound many rooted order n a.0 path a.1 (subst (λ o. IsPath (rows setup records) o path) (sym (target_row setup records n a.0 a.1)) is)

  -- what stands on a path is a spot of that list
  pub stands_spot : (n p i : ℕ) → n < setup.roots → StandsOn (rows setup records) n p i → (b : Spot) × S i b × (b.home ≡ n) × (0 < b.rank)
  stands_spot n p i h st = let a = root_spot n h in let up = on_way S order n a.0 st.path a.1 (root_way n h st.path st.is_path) p st.ref st.at in
      (up.0, subst (λ (k : ℕ). S k up.0) (let e = st.named in omega arith) up.2, up.4 ∙ a.2, (let x = up.5 in omega arith))

  one_path : (n : ℕ) (a b : List RefParts) → n < setup.roots → IsPathOf (rows setup records) n a → IsPathOf (rows setup records) n b → a ≡ b
  one_path n a b h x y = let r = root_spot n h in way_one S order r.0 a b (root_way n h a x) (root_way n h b y)

  -- ranks rise along a path
  ranks : (n p q i j : ℕ) (a b : Spot) → n < setup.roots → StandsOn (rows setup records) n p i → StandsOn (rows setup records) n q j → p < q → S i a → S j b → a.rank < b.rank
  ranks n p q i j a b h x y lt sa sb =
      let r = root_spot n h in
      let same : y.path ≡ x.path = one_path n y.path x.path h y.is_path x.is_path in
      way_rises S order n r.0 x.path r.1 (root_way n h x.path x.is_path) p q x.ref y.ref x.at (subst (λ (l : List RefParts). At l q y.ref) same y.at) lt a b
      (subst (λ (k : ℕ). S k a) (let e = x.named in omega arith) sa) (subst (λ (k : ℕ). S k b) (let e = y.named in omega arith) sb)

  -- no record stands on two paths or twice on one
  one_place : (n p q i : ℕ) → n < setup.roots → StandsOn (rows setup records) n p i → StandsOn (rows setup records) n q i → p ≡ q
  one_place n p q i h x y = let a = stands_spot n p i h x in dite (ℕ_discrete p q) (λ e. e) (λ ne. dite (dec_le p q)
      (λ le. let z = ranks n p q i i a.0 a.0 h x y (omega arith) a.1 a.1 in absurd (omega arith))
      (λ gt. let z = ranks n q p i i a.0 a.0 h y x (omega arith) a.1 a.1 in absurd (omega arith)))

  one_list : (n m p q i : ℕ) → n < setup.roots → m < setup.roots → StandsOn (rows setup records) n p i → StandsOn (rows setup records) m q i → n ≡ m
  one_list n m p q i h k x y = let a = stands_spot n p i h x in let b = stands_spot m q i k y in sym a.2 ∙ ap (λ (s : Spot). s.home) (order.single i a.0 b.0 a.1 b.1) ∙ b.2

  linked_of : (n p i : ℕ) → n < setup.roots → StandsOn (rows setup records) n p i → (r : Record) × At records i r × (r.place ≡ Linked)
      × (n ≡ row_key (rows setup records) i % setup.roots) × ((b : Spot) × S i b × (b.rank ≡ row_key (rows setup records) i + 1)) × ¬ (i < setup.roots)
  linked_of n p i h x = let a = stands_spot n p i h x in let l = linked_spot setup records sound many rooted i a.0 a.1 a.3 in (l.0, l.1, l.2, sym a.2 ∙ l.3, (a.0, a.1, l.4), l.5)

  -- a linked record stands on the path of its key's root
  stands : (i : ℕ) → IsLinked records i → IsOnPath setup (rows setup records) i
  stands i (r, at, is) =
      let a = linked_here setup records i r at is in
      let n : ℕ = key_at (drop 3 r.row) % setup.roots in
      let h : n < setup.roots = omega arith in
      let root = root_spot n h in
      let w = way S order (2 ^ 40) (low setup records) (2 ^ 40 + 1) n root.0 root.1 (omega arith) in
      let f = found S order n root.0 w.0 root.1 w.1 i a.0 a.1 (root.2 ∙ sym a.2) (let y = root.3 in let z = a.3 in omega arith) in
      (n, f.0, h, record { path = w.0; is_path = subst (λ o. IsPath (rows setup records) o w.0) (target_row setup records n root.0 root.1) (way_path setup records sound many rooted order n root.0 w.0 root.1 w.1); ref = f.1; at = f.2; named = f.3 })

  pub are_paths : ArePaths setup (rows setup records) (IsLinked records)
  are_paths = record {
    each = λ n h. let root = root_spot n h in let w = way S order (2 ^ 40) (low setup records) (2 ^ 40 + 1) n root.0 root.1 (omega arith) in
        (w.0, subst (λ o. IsPath (rows setup records) o w.0) (target_row setup records n root.0 root.1) (way_path setup records sound many rooted order n root.0 w.0 root.1 w.1));
    only = one_path;
    apart = λ n m p q i h k x y. let e = one_list n m p q i h k x y in (e, one_place n p q i h x (subst (λ (z : ℕ). StandsOn (rows setup records) z q i) (sym e) y));
    behind = λ n p i h x. (linked_of n p i h x).5;
    linked_is = stands;
    is_linked = λ i x. let l = linked_of x.0 x.1 i x.2 x.3 in (l.0, l.1, l.2);
    home = λ n p i h x. sym (linked_of n p i h x).3;
    rising = λ n p q i j h x y lt. let a = linked_of n p i h x in let b = linked_of n q j h y in let z = ranks n p q i j a.4.0 b.4.0 h x y lt a.4.1 b.4.1 in let u = a.4.2 in let v = b.4.2 in omega arith;
    once = λ i j x y same. let a = linked_here setup records i x.0 x.1 x.2 in let b = linked_here setup records j y.0 y.1 y.2 in
        let e : key_at a.0.body ≡ key_at b.0.body = key_row setup records i a.0 a.1 ∙ same ∙ sym (key_row setup records j b.0 b.1) in
        let k : key_at (drop 3 x.0.row) ≡ key_at (drop 3 y.0.row) = ap key_at (sym a.4) ∙ e ∙ ap key_at b.4 in
        order.one i j a.0 b.0 a.1 b.1 (a.2 ∙ ap (λ (z : ℕ). z % setup.roots) k ∙ sym b.2) (a.3 ∙ ap (λ (z : ℕ). z + 1) k ∙ sym b.3);
  }
