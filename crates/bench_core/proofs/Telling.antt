-- How texts and statuses are told.
use Rattle.std.proofs.Common.{◌≡◌, ◌≢◌, ◌⊎◌, inl, inr, Bool, true, false, arith, ℕ, List, [], Option, Some, None, refl, sym, ap, ◌∙◌, append-nil}
use Rattle.outside.specs.Bytes.{with_back}
use Rattle.outside.specs.Faults.{one_more}
use Rattle.bench_core.specs.declared.ending.Ended.{Ended}
use Rattle.report_text.specs.declared.report.Printed.{Printed}
use Rattle.report_text.specs.declared.report.Printed.TheVariants.{Done, WriteFault}
use Rattle.bench_core.specs.declared.ending.Run.{Run}
use Rattle.bench_core.specs.Ending.{Tells, has_full, status_of_run, status_with}
use Rattle.report_text.specs.Printed.{OnDone, OnWriteFault}
use Rattle.report_text.specs.Writing.{Wrote, WrotePart}

with_back-nil : (o : Option (List ℕ)) → o ≡ with_back o []
with_back-nil None = refl
with_back-nil (Some told) = ap Some (sym (append-nil told))

module _ {K : Type 0} (got : K → Option (List ℕ)) (faults : K → ℕ) where
  -- after a printing, with the status of a write fault exactly where a put failed
  pub Tells-printed : (before after : K) (text : List ℕ) (status : ℕ) (ended : Ended) (printed : Printed) → text ≢ [] → status ≢ 7
      → OnDone printed (Wrote got before after text) → OnWriteFault printed (WrotePart got before after text) → OnDone printed (faults after ≡ faults before) → OnWriteFault printed (faults after ≡ one_more (faults before))
      → OnDone printed (ended.status ≡ status) → OnWriteFault printed (ended.status ≡ 7)
      → Tells got faults before after text status ended
  Tells-printed before after text status ended Done some other wrote part kept counted done fault = record {
    whole = λ _. (done, wrote, kept);
    part = λ bad. absurd (other (sym done ∙ bad));
    silent = λ none. absurd (some none);
  }
  Tells-printed before after text status ended WriteFault some other wrote part kept counted done fault = record {
    whole = λ good. absurd (good fault);
    part = λ _. (some, part, counted);
    silent = λ none. absurd (some none);
  }

  -- where nothing is printed
  pub Tells-nothing : (sink : K) (status : ℕ) (ended : Ended) → status ≢ 7 → ended.status ≡ status → Tells got faults sink sink [] status ended
  Tells-nothing sink status ended other is = record {
    whole = λ _. (is, with_back-nil (got sink), refl);
    part = λ bad. absurd (other (sym is ∙ bad));
    silent = λ _. (is, refl);
  }

two_statuses : (full : Bool) → (status_with full ≡ 0) ⊎ (status_with full ≡ 5)
two_statuses true = inr refl
two_statuses false = inl refl

-- a run's status is 0 or 5
pub status_of_run-is : (run : Run) → (status_of_run run ≡ 0) ⊎ (status_of_run run ≡ 5)
status_of_run-is run = two_statuses (has_full run.report.callers)

pub status_is_no_fault : (run : Run) → status_of_run run ≢ 7
status_is_no_fault run bad = elim (status_of_run-is run) [ inl is ↦ omega arith | inr is ↦ omega arith ]
