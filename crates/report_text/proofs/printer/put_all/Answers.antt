use Rattle.std.proofs.Common.{◌∙◌}
use Rattle.std.proofs.lemmas.List.{take_rest}
use Rattle.report_text.proofs.WritingLemmas.{WroteUpTo-take}
use Rattle.report_text.proofs.printer.put_all.Goals as goal

pub loop-rest-preserved : goal.loop-rest-preserved
loop-rest-preserved g c =
    (rw take_rest (WroteUpTo-take g.K.Sink.got _ _ _ c.in-Took.count c.loop-rest.invariant.0 c.in-Took.ensures.took), c.in-Took.ensures.no_fault (λ same. cc) ∙ c.loop-rest.invariant.1)
