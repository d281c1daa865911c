-- A walk over sorted lists comes to each linked record, and reads the keys that are present.
use Rattle.std.proofs.Common.{◌≡◌, ℕ, zero, suc, ◌+◌, ◌-◌, ◌%◌, ◌^◌, ◌<◌, ◌≤◌, List, [], ◌∷◌, inl, inr, Some, true, sym, refl, ap, ◌∙◌, subst, arith}
use Rattle.std.proofs.lemmas.Bool.{eq-eqb, eqb-true}
use mathlib.Core.Option.{some-injective, some-ne-none}
use Rattle.record_memory.specs.declared.books.Setup.{Setup}
use Rattle.row_words.specs.Refs.{RefParts}
use Rattle.record_rule.specs.Inputs.{ShapeCell, hidden, root, linked, out, ShapeInput, Trace}
use Rattle.record_rule.specs.Facts.{At, link_at, key_at, mark_bit, HasMark}
use Rattle.record_rule.specs.Walks.{Ground, LeadsOn, IsWalked, from_root, from_record, IsOnWalk, Reads, set_read, HasRoots}
use Rattle.record_rule.specs.Laws.{LeadsTo}
use Rattle.record_rule.proofs.Lists.{one_at}
use Rattle.list_facts.specs.Lists.{Spot, spot, IsSpot, ListFits}
use Rattle.list_facts.specs.Tellings.{IsPresent, ListTold, list_leads, list_present}
use Rattle.list_facts.proofs.Spots.{target_of}
use Rattle.list_facts.proofs.Cells.{spot_is, linked_spot, one_spot, ordered, leads_linked}
use Rattle.list_facts.proofs.PathRows.{small_key}
use Rattle.list_facts.proofs.Ways.{Way, way, found}

-- the cells of sorted lists, as a walk goes over them
abbrev list_ground : List ShapeCell → Ground
list_ground cells = record {
  leads = list_leads;
  present = list_present;
  root = λ body. (i generation m : ℕ) × At cells i (root generation body m);
  named = λ t body. (m : ℕ) × (0 < t.index) × At cells (t.index - 1) (linked t.generation body m);
}

-- no spot has a higher rank than the last key's
rank_low : (setup : Setup) (i : ℕ) (cell : ShapeCell) (a : Spot) → spot setup i cell ≡ Some a → a.rank ≤ 2 ^ 40
rank_low setup i hidden a e = let none : ⊥ = cc in absurd none
rank_low setup i (root generation body m) a e = let z : 0 ≡ a.rank = ap (λ (b : Spot). b.rank) (spot_is _ a e) in omega arith
rank_low setup i (linked generation body m) a e = let z : key_at body + 1 ≡ a.rank = ap (λ (b : Spot). b.rank) (spot_is _ a e) in let k = small_key body in omega arith
rank_low setup i (out generation body m n) a e = let none : ⊥ = cc in absurd none

-- a record without a mark has its key in the set, and no other
unmarked_present : (body : List ℕ) → ¬ HasMark (link_at body 3) → list_present body ≡ true
unmarked_present body clear = eq-eqb (mark_bit (link_at body 3)) 0 (omega (arith, clear))

present_unmarked : (body : List ℕ) → list_present body ≡ true → ¬ HasMark (link_at body 3)
present_unmarked body is mark = let z = eqb-true (mark_bit (link_at body 3)) 0 is in let w : mark_bit (link_at body 3) ≡ 1 = mark in omega arith

module _ {flags : ℕ → Type 0} {setup : Setup} {x : ShapeInput} (fits : ListFits flags setup x) where
  abbrev g : Ground
  g = list_ground x.cells

  abbrev S : ℕ → Spot → Type 0
  S = IsSpot setup x.cells

  -- where a walk comes to a record, that is linked
  named_of : (t : RefParts) (body : List ℕ) → IsWalked g t body → g.named t body
  named_of _ _ (from_root body t next is on named) = named
  named_of _ _ (from_record r body t next walked on named) = named

  -- what it goes on from stands in a list
  stands : (body : List ℕ) → IsOnWalk g body → (i : ℕ) × (a : Spot) × S i a × (a.body ≡ body)
  stands body (inl (i, generation, m, at)) = (i, record { home = i; rank = 0; generation = generation; body = body }, (root generation body m, at, refl), refl)
  stands body (inr (r, walked)) = let n = named_of r body walked in (r.index - 1, linked_spot setup r.generation body, (linked r.generation body n.0, n.2, refl), refl)

  -- so it comes to a linked record wherever it goes on
  pub list_walks : (body : List ℕ) (t : RefParts) → IsOnWalk g body → LeadsOn list_leads body t → LeadsTo x.cells t
  list_walks body t on step =
      let s = stands body on in
      let field : step.field ≡ 3 = eqb-true step.field 3 step.on in
      let target : target_of s.1 ≡ Some t = ap (λ (b : List ℕ). (link_at b 3).target) s.3 ∙ sym (ap (λ (f : ℕ). (link_at body f).target) field) ∙ step.target in
      leads_linked setup x.cells s.1 t (fits.next s.0 s.1 t s.2 target)

  -- one step on, where the walk goes on from the spot
  step_on : (i : ℕ) (a : Spot) (t : RefParts) → S i a → IsOnWalk g a.body → target_of a ≡ Some t → (body : List ℕ) × (m : ℕ) × IsWalked g t body × At x.cells (t.index - 1) (linked t.generation body m)
  step_on i a t s on e =
      let lead = leads_linked setup x.cells a t (fits.next i a t s e) in
      let step : LeadsOn list_leads a.body t = record { field = 3; on = refl; target = e } in
      (lead.0, lead.1, walked_by on lead.0 step (lead.1, lead.2, lead.3), lead.3)
    where
      walked_by : IsOnWalk g a.body → (next : List ℕ) → LeadsOn list_leads a.body t → g.named t next → IsWalked g t next
      walked_by (inl is) next on named = from_root a.body t next is on named
      walked_by (inr (r, walked)) next on named = from_record r a.body t next walked on named

  -- all that stands on the way from there
  walked_way : (i : ℕ) (a : Spot) (ts : List RefParts) → S i a → IsOnWalk g a.body → Way S a ts → (p : ℕ) (t : RefParts) → At ts p t → (body : List ℕ) × IsWalked g t body
  walked_way i a [] s on w p t at = absurd (some-ne-none t (sym at))
  walked_way i a (u ∷ us) s on (e, b, r, w) zero t at = let y = step_on i a u s on e in subst (λ (z : RefParts). (body : List ℕ) × IsWalked g z body) (some-injective u t at) (y.0, y.2)
  walked_way i a (u ∷ us) s on (e, b, r, w) (suc p) t at =
      let y = step_on i a u s on e in
      let same : y.0 ≡ b.body = ap (λ (c : Spot). c.body) (one_spot setup x.cells (u.index - 1) (linked_spot setup u.generation y.0) b (linked u.generation y.0 y.1, y.3, refl) r) in
      walked_way (u.index - 1) b us r (inr (u, subst (IsWalked g u) same y.2)) w p t at

  -- the record to which it comes at an index is the one that is linked there
  walked_here : (t : RefParts) (other : List ℕ) (i generation m : ℕ) (body : List ℕ) → IsWalked g t other → t.index ≡ i + 1 → At x.cells i (linked generation body m) → IsWalked g t body
  walked_here t other i generation m body walked index at =
      let n = named_of t other walked in
      let there : At x.cells i (linked t.generation other n.0) = subst (λ (j : ℕ). At x.cells j (linked t.generation other n.0)) (let e : t.index - 1 ≡ i = omega arith in e) n.2 in
      let same : linked t.generation other n.0 ≡ linked generation body m = one_at x.cells i (linked t.generation other n.0) (linked generation body m) there at in
      let is : other ≡ body = cc in
      subst (IsWalked g t) is walked

  module _ (roots : HasRoots setup x.cells) where
    -- a linked record stands on the way from its key's root
    walked : (i generation m : ℕ) (body : List ℕ) → At x.cells i (linked generation body m) → (t : RefParts) × IsWalked g t body
    walked i generation m body at =
        let n : ℕ = key_at body % setup.roots in
        let some = roots.some_root in
        let r = roots.each n (omega arith) in
        let a : Spot = record { home = n; rank = 0; generation = r.0; body = r.2 } in
        let here : S n a = (root r.0 r.2 r.1, r.3, refl) in
        let w = way S (ordered fits) (2 ^ 40) (λ j b s. rank_low setup j s.0 b s.2) (2 ^ 40 + 1) n a here (omega arith) in
        let f = found S (ordered fits) n a w.0 here w.1 i (linked_spot setup generation body) (linked generation body m, at, refl) refl (omega arith) in
        let y = walked_way n a w.0 here (inl (n, r.0, r.1, r.3)) w.1 f.0 f.1 f.2 in
        (f.1, walked_here f.1 y.0 i generation m body y.1 f.3 at)

    module _ {h : Trace} (told : ListTold x h) where
      -- so a walk reads the keys that are present
      present_read : (k : ℕ) → IsPresent x.cells k → Reads g k
      present_read k (i, generation, m, body, at, clear, is) = let w = walked i generation m body at in
          record { ref = w.0; body = body; walked = w.1; present = unmarked_present body clear; kind = (fits.sorted i (linked generation body m) at).1; key = is }

      read_present : (k : ℕ) → Reads g k → IsPresent x.cells k
      read_present k r = let n = named_of r.ref r.body r.walked in (r.ref.index - 1, r.ref.generation, n.0, r.body, n.2, present_unmarked r.body r.present, r.key)

      -- which are those that the updates leave
      pub list_reads : set_read g h.updates
      list_reads k = (λ has. present_read k ((told.keys k).0 has), λ r. (told.keys k).1 (read_present k r))
