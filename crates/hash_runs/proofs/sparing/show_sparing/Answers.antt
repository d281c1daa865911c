use Rattle.hash_runs.proofs.SpareFirst.{spare_first}
use Rattle.hash_runs.proofs.sparing.show_sparing.Goals as goal

pub returns : goal.returns
returns g c =
    let r = g.R.Scheme in
    spare_first r.enters r.leaves r.bears r.reaches r.puts_away g.met.R.Scheme.enters_adds g.met.R.Scheme.leaves_adds g.met.R.Scheme.bears_adds g.met.R.Scheme.reaches_adds g.met.R.Scheme.puts_away_adds
