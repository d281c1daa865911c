-- The facts of marked records stay through a step that marks nothing, and changes no key where a marked record's link leads.
use Rattle.std.proofs.Common.{◌≡◌, ℕ, ◌+◌, ◌%◌, ◌<◌, List, [], ◌∷◌, ◌++◌, length-append, append-nil, take, Option, Some, None, MatchOption, sym, refl, ap, ◌∙◌, subst, arith}
use Rattle.std.proofs.lemmas.List.{take-append-le}
use Rattle.set_model.specs.declared.calls.Update.{Update}
use Rattle.set_model.specs.Keys.{contains}
use Rattle.set_model.specs.Histories.{keys_of}
use Rattle.row_words.specs.Refs.{RefParts}
use Rattle.record_memory.specs.declared.books.Setup.{Setup}
use Rattle.record_rule.specs.Inputs.{ShapeCell, Start, Trace}
use Rattle.record_rule.specs.Facts.{link_at, key_at}
use Rattle.record_rule.specs.Laws.{with_update, grown}
use Rattle.list_facts.specs.Tellings.{IsMarked, NoneWithin, rank_of}
use Rattle.list_facts.proofs.Told.{marked_any}
use Rattle.lazy_facts.specs.Absences.{IsSeen, TargetIs, MarkedLeadUp, absence_place, AbsentAt, AbsencesFit}

-- what is seen afterwards of where a marked record's link leads was there before, with its key
abbrev pub KeepsTargets : List ShapeCell → List ShapeCell → Type 0
KeepsTargets cells cells' = (i m : ℕ) (body b : List ℕ) (t : RefParts) → IsMarked cells i body m 0 → (link_at body 3).target ≡ Some t → IsSeen cells' t b → (a : List ℕ) × IsSeen cells t a × (key_at a ≡ key_at b)

-- what is marked afterwards was so before
abbrev pub KeepsMarks : List ShapeCell → List ShapeCell → Type 0
KeepsMarks cells cells' = (i m start : ℕ) (body : List ℕ) → IsMarked cells' i body m start → IsMarked cells i body m start

module _ (setup : Setup) (cells cells' : List ShapeCell) (targets : KeepsTargets cells cells') where
  module _ (updates : List Update) (st : Start) (i m : ℕ) (body : List ℕ) (marked : IsMarked cells i body m 0) (absent : AbsentAt setup cells updates st body m) where
    -- no key between a marked record's and its target's comes to be there
    none_kept : (o : Option RefParts) → (link_at body 3).target ≡ o → (b : Option (List ℕ)) → TargetIs cells' o b → NoneWithin setup (key_at body % setup.roots) (key_at body + 1) (rank_of b) (take (absence_place st m) updates)
    none_kept None e b seen k home low high = absent.up_to b (subst (λ (o : Option RefParts). TargetIs cells o b) (sym e) seen) k home low high
    none_kept (Some t) e b (s, is, there) k home low high =
        let (a, was, same) = targets i m body s t marked e there in
        let below : MatchOption (rank_of (Some s)) (Unit {0}) (λ r. k + 1 < r) = subst (λ (q : Option (List ℕ)). MatchOption (rank_of q) (Unit {0}) (λ r. k + 1 < r)) is high in
        absent.up_to (Some a) (subst (λ (o : Option RefParts). TargetIs cells o (Some a)) (sym e) (a, refl, was)) k home low (omega (arith, same, below))

    -- what was absent at a place of the history is so behind further updates
    absent_more : (rest : List Update) → AbsentAt setup cells' (updates ++ rest) st body m
    absent_more rest = let same : take (absence_place st m) (updates ++ rest) ≡ take (absence_place st m) updates = take-append-le (absence_place st m) updates rest absent.within in record {
      within = omega (arith, absent.within, length-append updates rest);
      own = ap (λ (l : List Update). contains (keys_of l) (key_at body)) same ∙ absent.own;
      up_to = λ b seen k home low high. ap (λ (l : List Update). contains (keys_of l) k) same ∙ none_kept (link_at body 3).target refl b seen k home low high;
    }

    -- behind one more or none
    pub absent_kept : (u : Option Update) → AbsentAt setup cells' (with_update updates u) st body m
    absent_kept None = subst (λ (l : List Update). AbsentAt setup cells' l st body m) (append-nil updates) (absent_more [])
    absent_kept (Some u) = absent_more (u ∷ [])

  -- a marked record leads to one of its list behind it, as it did
  pub leads_kept : MarkedLeadUp setup cells → (i m : ℕ) (body b : List ℕ) (t : RefParts) → IsMarked cells i body m 0 → (link_at body 3).target ≡ Some t → IsSeen cells' t b → (key_at b % setup.roots ≡ key_at body % setup.roots) × (key_at body < key_at b)
  leads_kept up i m body b t was leads seen =
      let (a, there, same) = targets i m body b t was leads seen in
      let (home, above) = up i m body a t was leads there in
      (ap (λ (k : ℕ). k % setup.roots) (sym same) ∙ home, omega (arith, same, above))

  -- so the facts of marked records stay, where no other one is marked
  module _ (marks : KeepsMarks cells cells') where
    pub absences_kept : (h : Trace) (u : Option Update) → AbsencesFit setup cells h → AbsencesFit setup cells' (grown h u)
    absences_kept h u fit c i m st body at marked = let was = marks i m st.taken_out body marked in absent_kept h.updates st i m body (marked_any was) (fit c i m st body at was) u

    pub up_kept : MarkedLeadUp setup cells → MarkedLeadUp setup cells'
    up_kept up i m body b t marked = leads_kept up i m body b t (marks i m 0 body marked)
