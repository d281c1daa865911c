-- A walk comes from each root to the record behind it and no further, and reads the keys that are present.
use Rattle.std.proofs.Common.{◌≡◌, ℕ, ◌+◌, ◌-◌, List, inl, inr, Some, None, sym, refl, ap, ◌∙◌, subst, arith}
use Rattle.std.proofs.lemmas.Bool.{eq-eqb, eqb-true}
use Rattle.row_words.specs.Refs.{RefParts, LinkParts, refer}
use Rattle.record_rule.specs.Inputs.{root, linked, ShapeInput, Trace}
use Rattle.record_rule.specs.Facts.{At, link_at, key_at, mark_bit}
use Rattle.record_rule.specs.Walks.{Ground, LeadsOn, IsWalked, from_root, from_record, IsOnWalk, Reads, set_read, cells_ground}
use Rattle.record_rule.specs.Laws.{LeadsTo}
use Rattle.list_facts.specs.Tellings.{IsPresent, ListTold, list_leads}
use Rattle.one_key_facts.specs.OneKey.{OneKeyFits, one_key}
use Rattle.one_key_facts.proofs.Cells.{under}

-- a walk goes on along word 3
link_on : (body : List ℕ) (t : RefParts) → LeadsOn list_leads body t → (link_at body 3).target ≡ Some t
link_on body t step = ap (λ (f : ℕ). (link_at body f).target) (sym (eqb-true step.field 3 step.on)) ∙ step.target

module _ {x : ShapeInput} (fits : OneKeyFits x) where
  abbrev g : Ground
  g = cells_ground one_key x.cells

  -- where a walk comes to a record, that is linked
  named_of : (t : RefParts) (body : List ℕ) → IsWalked g t body → g.named t body
  named_of _ _ (from_root body t next is on named) = named
  named_of _ _ (from_record r body t next walked on named) = named

  -- it goes on from a root to the record behind it, and from a record nowhere
  pub key_walks : (body : List ℕ) (t : RefParts) → IsOnWalk g body → LeadsOn list_leads body t → LeadsTo x.cells t
  key_walks body t (inl (i, generation, m, at)) step = let leads = (fits.each i (root generation body m) at).1 t (link_on body t step) in (leads.0, leads.1, leads.2, leads.3)
  key_walks body t (inr (r, walked)) step =
      let n = named_of r body walked in
      let none : None ≡ Some t = sym (fits.each (r.index - 1) (linked r.generation body n.0) n.2).1 ∙ link_on body t step in
      let no : ⊥ = cc in absurd no

  -- it comes to a linked record from the root of its key
  walked : (i generation m : ℕ) (body : List ℕ) → At x.cells i (linked generation body m) → IsWalked g (refer (i + 1) generation) body
  walked i generation m body at =
      let u = under fits i generation m body at in
      let step : LeadsOn list_leads u.2 (refer (i + 1) generation) = record { field = 3; on = refl; target = ap (λ (l : LinkParts). l.target) u.4 } in
      let same : i ≡ i + 1 - 1 = omega arith in
      from_root u.2 (refer (i + 1) generation) body (key_at body, u.0, u.1, u.3) step (m, omega arith, subst (λ (j : ℕ). At x.cells j (linked generation body m)) same at)

  module _ {h : Trace} (told : ListTold x h) where
    -- so it reads the keys that are present
    present_read : (k : ℕ) → IsPresent x.cells k → Reads g k
    present_read k (i, generation, m, body, at, clear, is) = record {
      ref = refer (i + 1) generation;
      body = body;
      walked = walked i generation m body at;
      present = eq-eqb (mark_bit (link_at body 3)) 0 (omega (arith, clear));
      kind = (fits.each i (linked generation body m) at).2;
      key = is;
    }

    read_present : (k : ℕ) → Reads g k → IsPresent x.cells k
    read_present k r =
        let n = named_of r.ref r.body r.walked in
        let zero_bit : mark_bit (link_at r.body 3) ≡ 0 = eqb-true (mark_bit (link_at r.body 3)) 0 r.present in
        (r.ref.index - 1, r.ref.generation, n.0, r.body, n.2, (λ mark. let one_bit : mark_bit (link_at r.body 3) ≡ 1 = mark in omega arith), r.key)

    -- which are those that the updates leave
    pub key_reads : set_read g h.updates
    key_reads k = (λ has. present_read k ((told.keys k).0 has), λ r. (told.keys k).1 (read_present k r))
