use Rattle.std.proofs.Common.{sym, ◌∙◌}
use Rattle.report_text.proofs.PrintedCases.{OnDone-map, OnWriteFault-map}
use Rattle.report_text.proofs.WritingLemmas.{one_more-rises}
use Rattle.report_text.proofs.printing.print.Goals as goal

-- The printer held the sink to the end, so what it left is what the sink is now.
pub returns-clause-done : goal.returns-clause-done
returns-clause-done g c =
    let left = c.sink-1.given.1 (sym (c.print_to.ensures.same_sink ∙ c.new-printer.ensures.same_sink)) in
    OnDone-map c.finish.result (λ finishes. rw left (finishes _ _ (c.print_to.ensures.behind _ _ c.new-printer.ensures.nothing)).0) c.finish.ensures.done

pub returns-clause-kept : goal.returns-clause-kept
returns-clause-kept g c =
    let left = c.sink-1.given.1 (sym (c.print_to.ensures.same_sink ∙ c.new-printer.ensures.same_sink)) in
    OnDone-map c.finish.result (λ finishes. rw left (finishes _ _ (c.print_to.ensures.behind _ _ c.new-printer.ensures.nothing)).1) c.finish.ensures.done

pub returns-clause-part : goal.returns-clause-part
returns-clause-part g c =
    let left = c.sink-1.given.1 (sym (c.print_to.ensures.same_sink ∙ c.new-printer.ensures.same_sink)) in
    OnWriteFault-map c.finish.result (λ stops. rw left (stops _ _ (c.print_to.ensures.behind _ _ c.new-printer.ensures.nothing)).0) c.finish.ensures.write_fault

pub returns-clause-counted : goal.returns-clause-counted
returns-clause-counted g c =
    let left = c.sink-1.given.1 (sym (c.print_to.ensures.same_sink ∙ c.new-printer.ensures.same_sink)) in
    OnWriteFault-map c.finish.result (λ stops. rw left (stops _ _ (c.print_to.ensures.behind _ _ c.new-printer.ensures.nothing)).1) c.finish.ensures.write_fault

pub returns-clause-cause : goal.returns-clause-cause
returns-clause-cause g c =
    let left = c.sink-1.given.1 (sym (c.print_to.ensures.same_sink ∙ c.new-printer.ensures.same_sink)) in
    OnWriteFault-map c.finish.result (λ stops. one_more-rises _ _ (rw left (stops _ _ (c.print_to.ensures.behind _ _ c.new-printer.ensures.nothing)).1)) c.finish.ensures.write_fault
