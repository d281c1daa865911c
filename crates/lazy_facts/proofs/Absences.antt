-- A marked record that is linked: its key is absent now, and so is every one up to its target's. So a guard may start at any step.
use Rattle.std.proofs.Common.{◌≡◌, ℕ, ◌+◌, ◌-◌, ◌%◌, ◌<◌, List, length, take, set, max, Option, Some, None, refl, ap, ◌∙◌, subst, sym, arith, ⊎_elim}
use Rattle.std.proofs.lemmas.Bool.{false_from_ne_true}
use Rattle.std.proofs.lemmas.List.{take_all}
use mathlib.Core.Option.{some}
use Rattle.atomic_table.proofs.Lists.{at_set}
use Rattle.set_model.specs.declared.calls.Update.{Update}
use Rattle.set_model.specs.Keys.{contains}
use Rattle.set_model.specs.Histories.{keys_of}
use Rattle.row_words.specs.Refs.{RefParts, refer}
use Rattle.record_memory.specs.declared.books.Setup.{Setup}
use Rattle.record_rule.specs.Inputs.{ShapeCell, hidden, root, linked, out, ShapeInput, Start, Trace}
use Rattle.record_rule.specs.Facts.{At, link_at, key_at, HasMark, ShapeFacts}
use Rattle.record_rule.specs.Laws.{TargetSeen, no_target, there, there_out, OutCellsFit}
use Rattle.record_rule.proofs.Lists.{below_at, one_at}
use Rattle.list_facts.specs.Lists.{ListFits}
use Rattle.list_facts.specs.Tellings.{IsPresent, IsMarked, still, gone, ListTold, IsTargetSeen}
use Rattle.list_facts.proofs.Cells.{linked_spot}
use Rattle.list_facts.proofs.Shows.{none_behind, up_behind}
use Rattle.lazy_facts.specs.Absences.{IsRecordWith, IsSeen, TargetIs, absence_place, AbsentAt, AbsencesFit}

-- what is there at a link's target is seen by a load of the link
seen_there : (s : ShapeFacts) (cells : List ShapeCell) (t : RefParts) (cell : ShapeCell) (body : List ℕ) → At cells (t.index - 1) cell → IsRecordWith cell t.generation body → TargetSeen s cells (Some t) (Some body)
seen_there s cells t hidden body at is = absurd is
seen_there s cells t (root e b m) body at is = absurd is
seen_there s cells t (linked e b m) body at is = there t body m (at ∙ (λ j. some (linked (is.0 j) (is.1 j) m)))
seen_there s cells t (out e b m n) body at is = there_out t body m n (at ∙ (λ j. some (out (is.0 j) (is.1 j) m n)))

target_seen : (s : ShapeFacts) (cells : List ShapeCell) (o : Option RefParts) (b : Option (List ℕ)) → TargetIs cells o b → TargetSeen s cells o b × IsTargetSeen o b
target_seen s cells None b is = (subst (TargetSeen s cells None) (sym is) no_target, is)
target_seen s cells (Some t) b (body, is, (cell, at, with_body)) = (subst (TargetSeen s cells (Some t)) (sym is) (seen_there s cells t cell body at with_body), (body, is))

module _ (s : ShapeFacts) {flags : ℕ → Type 0} {setup : Setup} {x : ShapeInput} (fits : ListFits flags setup x) where
  module _ (i generation m : ℕ) (body : List ℕ) (at : At x.cells i (linked generation body m)) where
    -- a linked record leads to one of its list, behind it
    pub linked_up : (b : List ℕ) (t : RefParts) → (link_at body 3).target ≡ Some t → IsSeen x.cells t b → (key_at b % setup.roots ≡ key_at body % setup.roots) × (key_at body < key_at b)
    linked_up b t leads seen =
        let known = target_seen s x.cells (link_at body 3).target (Some b) (subst (λ (o : Option RefParts). TargetIs x.cells o (Some b)) (sym leads) (b, refl, seen)) in
        let up = up_behind fits s i (linked_spot setup generation body) (linked generation body m, at, refl) known.0 b refl in
        (up.0, omega (arith, up.1))

    module _ {h : Trace} (told : ListTold x h) (mark : HasMark (link_at body 3)) where
      -- no linked record without a mark has the key of a marked one
      key_gone : IsPresent x.cells (key_at body) → ⊥
      key_gone p =
          let same = fits.one p.0 i (linked_spot setup p.1 p.3) (linked_spot setup generation body) (linked p.1 p.3 p.2, p.4, refl) (linked generation body m, at, refl) (ap (λ q. q % setup.roots) p.6) (ap (λ q. q + 1) p.6) in
          let cell : linked p.1 p.3 p.2 ≡ linked generation body m = one_at x.cells i (linked p.1 p.3 p.2) (linked generation body m) (subst (λ (z : ℕ). At x.cells z (linked p.1 p.3 p.2)) same p.4) at in
          let b : p.3 ≡ body = cc in p.5 (subst (λ (z : List ℕ). HasMark (link_at z 3)) (sym b) mark)

      -- so it is absent behind all updates, and so is every key up to the target's
      pub absent_now : (st : Start) → absence_place st m ≡ length h.updates → AbsentAt setup x.cells h.updates st body m
      absent_now st is = let all : take (absence_place st m) h.updates ≡ h.updates = take_all (absence_place st m) h.updates (omega arith) in record {
        within = omega arith;
        own = ap (λ (l : List Update). contains (keys_of l) (key_at body)) all ∙ false_from_ne_true (contains (keys_of h.updates) (key_at body)) (λ has. key_gone ((told.keys (key_at body)).0 has));
        up_to = λ b target k home low high. let known = target_seen s x.cells (link_at body 3).target b target in
            ap (λ (l : List Update). contains (keys_of l) k) all ∙ false_from_ne_true (contains (keys_of h.updates) k)
            (λ has. none_behind fits s i (linked_spot setup generation body) (linked generation body m, at, refl) known.0 known.1 k home low high ((told.keys k).0 has));
      }

  module _ {h : Trace} (told : ListTold x h) (outs : OutCellsFit s x) where
    -- the start of a guard that starts now
    abbrev starting : Start
    starting = record { taken_out = length x.taken_out; updates = length h.updates }

    -- by it, what a marked record shows is placed behind all updates
    absent_starting : (i m : ℕ) (body : List ℕ) → IsMarked x.cells i body m (length x.taken_out) → AbsentAt setup x.cells h.updates starting body m
    absent_starting i m body (still generation at mark) =
        let k = told.marks i m body (still generation at mark) in let l = below_at h.updates (m - 1) k.1.0 k.1.1 in
        absent_now i generation m body at told mark starting (let z : max (length h.updates) m ≡ length h.updates = omega (arith, l) in z)
    absent_starting i m body (gone generation n at late) = let l = below_at x.taken_out n (refer (i + 1) generation) (outs.numbered i generation m n body at) in absurd (omega arith)

    -- so a guard may start at any step
    pub absences_begin : AbsencesFit setup x.cells h → (c : ℕ) → AbsencesFit setup x.cells (record h { starts = set h.starts c starting })
    absences_begin fit c d i m st body at marked = ⊎_elim
        (λ p. subst (λ (z : Start). AbsentAt setup x.cells h.updates z body m) p.1 (absent_starting i m body (subst (λ (z : Start). IsMarked x.cells i body m z.taken_out) (sym p.1) marked)))
        (λ p. fit d i m st body p.1 marked)
        (at_set h.starts c d starting st at)
