-- The spots of records, and their words.
use Rattle.std.proofs.Common.{◌≡◌, ℕ, ◌+◌, ◌-◌, ◌%◌, ◌^◌, ◌<◌, ◌≤◌, ◌⊎◌, List, [], ◌∷◌, map, length, get_or, drop, Some, inl, inr, ⊎_elim, sym, refl, ap, ◌∙◌, subst, arith}
use Rattle.std.proofs.lemmas.List.{length-map}
use Rattle.atomic_table.proofs.Lists.{at_map}
use Rattle.record_memory.specs.declared.books.Setup.{Setup}
use Rattle.record_memory.specs.declared.books.Standing.{Standing}
use Rattle.record_memory.specs.declared.books.Standing.TheVariants.{TakenOut, Limbo}
use Rattle.record_memory.specs.declared.books.Place.{Place}
use Rattle.record_memory.specs.declared.books.Place.TheVariants.{Root, Linked, Of}
use Rattle.row_words.specs.Refs.{RefParts}
use Rattle.row_words.specs.Packing.{own_in, link_in, key_in}
use Rattle.record_rule.specs.Inputs.{shape_cell, shape_at, shape_had}
use Rattle.record_rule.specs.Records.{Record, IsSound, carried}
use Rattle.record_rule.specs.Facts.{At, word_in, link_at, key_at}
use Rattle.record_rule.proofs.Lists.{below_at, at_below, get_at, map_at}
use Rattle.record_rule.proofs.Nodes.{body_word}
use Rattle.list_facts.specs.Lists.{Spot, spot, IsSpot}
use Rattle.list_facts.proofs.Cells.{spot_is}
use Rattle.list_facts.proofs.Spots.{target_of, Ordered}
use Rattle.list_facts.specs.Paths.{row_link, row_key, NamesRow, IsPath}
use Rattle.list_facts.proofs.Ways.{Way}

abbrev pub row : Record → List ℕ
row r = r.row

pub small_key : (body : List ℕ) → key_at body < 2 ^ 40
unfolding key_in
small_key body = omega arith

module _ (setup : Setup) where
  -- a root or a linked record stands in a list
  pub record SpotOf (i : ℕ) (a : Spot) (r : Record) : Type 0 where
    pub body : a.body ≡ drop 3 r.row
    pub generation : a.generation ≡ r.generation
    pub carries : (f : ℕ) → carried r.place r.generation f ≡ r.generation
    pub by : ((r.place ≡ Root) × (a.home ≡ i) × (a.rank ≡ 0)) ⊎ ((r.place ≡ Linked) × (a.home ≡ key_at a.body % setup.roots) × (a.rank ≡ key_at a.body + 1))

  spot_had : (i : ℕ) (a : Spot) (s : Standing) (r : Record) → spot setup i (shape_had s r) ≡ Some a → ⊥
  spot_had i a TakenOut r e = cc
  spot_had i a Limbo r e = cc
  spot_had i a s r e = cc

  spot_by : (i : ℕ) (a : Spot) (p : Place) (r : Record) → r.place ≡ p → spot setup i (shape_at p r) ≡ Some a → SpotOf i a r
  spot_by i a Root r is e = let same = spot_is _ a e in record {
    body = ap (λ (b : Spot). b.body) (sym same);
    generation = ap (λ (b : Spot). b.generation) (sym same);
    carries = λ f. ap (λ (p : Place). carried p r.generation f) is;
    by = inl (is, ap (λ (b : Spot). b.home) (sym same), ap (λ (b : Spot). b.rank) (sym same));
  }
  spot_by i a Linked r is e = let same = spot_is _ a e in record {
    body = ap (λ (b : Spot). b.body) (sym same);
    generation = ap (λ (b : Spot). b.generation) (sym same);
    carries = λ f. ap (λ (p : Place). carried p r.generation f) is;
    by = inr (is, subst (λ (b : Spot). b.home ≡ key_at b.body % setup.roots) same refl, subst (λ (b : Spot). b.rank ≡ key_at b.body + 1) same refl);
  }
  spot_by i a (Of c s) r is e = absurd (spot_had i a s r e)
  spot_by i a p r is e = let none : ⊥ = cc in absurd none

  module _ (records : List Record) where
    abbrev pub Stand : ℕ → Spot → Type 0
    Stand = IsSpot setup (map shape_cell records)

    abbrev pub rows : List (List ℕ)
    rows = map row records

    pub spot_row : (i : ℕ) (a : Spot) → Stand i a → (r : Record) × At records i r × SpotOf i a r
    spot_row i a (c, at, e) = let x = map_at shape_cell records i c at in (x.0, x.1, spot_by i a x.0.place x.0 refl (ap (spot setup i) x.2 ∙ e))

    row_is : (i : ℕ) (r : Record) → At records i r → get_or rows i [] ≡ r.row
    row_is i r at = get_at rows i r.row [] (at_map row records i r at)

    pub target_row : (i : ℕ) (a : Spot) → Stand i a → target_of a ≡ (row_link rows i).target
    target_row i a s = let x = spot_row i a s in ap (λ w. (link_in w).target) (ap (λ b. word_in b 3) x.2.body ∙ body_word x.0.row 3 (omega arith) ∙ ap (λ (l : List ℕ). get_or l 3 0) (sym (row_is i x.0 x.1)))

    pub link_row : (i : ℕ) (a : Spot) → Stand i a → link_at a.body 3 ≡ row_link rows i
    link_row i a s = let x = spot_row i a s in ap link_in (ap (λ b. word_in b 3) x.2.body ∙ body_word x.0.row 3 (omega arith) ∙ ap (λ (l : List ℕ). get_or l 3 0) (sym (row_is i x.0 x.1)))

    pub key_row : (i : ℕ) (a : Spot) → Stand i a → key_at a.body ≡ row_key rows i
    key_row i a s = let x = spot_row i a s in ap key_in (ap (λ b. word_in b 4) x.2.body ∙ body_word x.0.row 4 (omega arith) ∙ ap (λ (l : List ℕ). get_or l 4 0) (sym (row_is i x.0 x.1)))

    -- ranks are bounded
    pub low : (i : ℕ) (a : Spot) → Stand i a → a.rank ≤ 2 ^ 40
    low i a s = let x = spot_row i a s in let k = small_key a.body in ⊎_elim (λ t. let z = t.2 in omega arith) (λ t. let z = t.2 in omega arith) x.2.by

    -- where a record is linked, and where a root is
    pub linked_here : (i : ℕ) (r : Record) → At records i r → r.place ≡ Linked → (a : Spot) × Stand i a × (a.home ≡ key_at (drop 3 r.row) % setup.roots) × (a.rank ≡ key_at (drop 3 r.row) + 1) × (a.body ≡ drop 3 r.row)
    linked_here i r at is = (record { home = key_at (drop 3 r.row) % setup.roots; rank = key_at (drop 3 r.row) + 1; generation = r.generation; body = drop 3 r.row }, (shape_cell r, at_map shape_cell records i r at, ap (λ (p : Place). spot setup i (shape_at p r)) is), refl, refl, refl)

    module _ (sound : (i : ℕ) (r : Record) → At records i r → IsSound setup i r) (many : length records ≡ setup.records) (rooted : setup.roots ≤ setup.records) where
      pub root_here : (n : ℕ) → n < setup.roots → (a : Spot) × Stand n a × (a.home ≡ n) × (a.rank ≡ 0)
      root_here n h = let x = at_below records n (omega arith) in let r = x.0 in let is = (sound n r x.1).roots h in
          (record { home = n; rank = 0; generation = r.generation; body = drop 3 r.row }, (shape_cell r, at_map shape_cell records n r x.1, ap (λ (p : Place). spot setup n (shape_at p r)) is), refl, refl)

      -- what stands somewhere with a rank is a linked record, and no root
      pub linked_spot : (i : ℕ) (a : Spot) → Stand i a → 0 < a.rank → (r : Record) × At records i r × (r.place ≡ Linked) × (a.home ≡ row_key rows i % setup.roots) × (a.rank ≡ row_key rows i + 1) × ¬ (i < setup.roots)
      linked_spot i a s up = let x = spot_row i a s in let k = key_row i a s in
          ⊎_elim (λ t. let z = t.2 in absurd (omega arith)) (λ t. (x.0, x.1, t.0, t.1 ∙ ap (λ (n : ℕ). n % setup.roots) k, t.2 ∙ ap (λ (n : ℕ). n + 1) k, λ h. let y : Linked ≡ Root = sym t.0 ∙ (sound i x.0 x.1).roots h in let none : ⊥ = cc in none)) x.2.by

      named_row : (i : ℕ) (t : RefParts) (b : Spot) → 0 < t.index → Stand (t.index - 1) b → b.generation ≡ t.generation → NamesRow rows t
      named_row i t b pos s generation = let x = spot_row (t.index - 1) b s in record {
        index = pos;
        within = subst (λ (n : ℕ). t.index - 1 < n) (sym (length-map records row)) (below_at records (t.index - 1) x.0 x.1);
        carries = λ f h. ap (λ (l : List ℕ). own_in (get_or l f 0)) (row_is (t.index - 1) x.0 x.1) ∙ (sound (t.index - 1) x.0 x.1).generations f h ∙ x.2.carries f ∙ sym x.2.generation ∙ generation;
      }

      module _ (order : Ordered Stand) where
        -- the way from a spot is the path behind its link
        pub way_path : (i : ℕ) (a : Spot) (ts : List RefParts) → Stand i a → Way Stand a ts → IsPath rows (target_of a) ts
        way_path i a [] s e = e
        way_path i a (t ∷ ts) s (e, b, r, w) = let up = order.next i a t s e in
            (e, named_row i t up.0 up.1 up.2 up.3, subst (λ o. IsPath rows o ts) (target_row (t.index - 1) b r) (way_path (t.index - 1) b ts r w))

        pub path_way : (i : ℕ) (a : Spot) (ts : List RefParts) → Stand i a → IsPath rows (target_of a) ts → Way Stand a ts
        path_way i a [] s e = e
        path_way i a (t ∷ ts) s (e, named, rest) = let up = order.next i a t s e in
            (e, up.0, up.2, path_way (t.index - 1) up.0 ts up.2 (subst (λ o. IsPath rows o ts) (sym (target_row (t.index - 1) up.0 up.2)) rest))
