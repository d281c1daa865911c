use Rattle.std.proofs.Common.{◌∙◌}
use Rattle.std.proofs.lemmas.Bool.{false≢true}
use Rattle.reclaim_ibr.proofs.Passing.{passed}
use Rattle.reclaim_ibr.proofs.meeting.meets.Goals as goal

pub loop-rest-preserved : goal.loop-rest-preserved
loop-rest-preserved c = record {
  rest = passed c.loop-rest.rest.now c.args.birth c.args.stamp c.in-len2-up.len_at_least (λ h. false≢true (c.if-meets_one.ensures.1 h)) ∙ c.loop-rest.invariant.rest;
}
