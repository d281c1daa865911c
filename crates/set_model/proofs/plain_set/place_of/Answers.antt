use Rattle.std.proofs.lemmas.List.Sorted.{searched}
use Rattle.std.proofs.lemmas.Result.{MatchResult-weaker}
use Rattle.set_model.proofs.RisingKeys.{rises}
use Rattle.set_model.proofs.plain_set.place_of.Goals as goal

pub returns-clause-absent : goal.returns-clause-absent
returns-clause-absent c =
    MatchResult-weaker c.binary_search.result (searched c.args.sorted.now c.args.key c.binary_search.result c.binary_search.ensures.position (rises _ c.requires))
    (λ _ _. tt) (λ _ place. record { within = place.0; smaller = place.1; greater = place.2 })
