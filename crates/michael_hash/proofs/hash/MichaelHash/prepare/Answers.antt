use Rattle.michael_hash.proofs.Seats.{fresh_callers}
use Rattle.michael_hash.proofs.hash.MichaelHash.prepare.Goals as goal

pub returns-clause-started : goal.returns-clause-started
returns-clause-started g c =
    fresh_callers g.R.Scheme.is_local c.in_ok-lists.lists.manager.table g.R.Cover.facts.first c.in_ok-lists.callers.items c.in_ok-lists.ensures.passes c.in_ok-lists.ensures.fresh c.in_ok-lists.ensures.resting
