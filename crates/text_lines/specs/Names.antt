-- The names of sets and reclaimers, as words and texts spell them.
use Rattle.std.specs.Prelude.{ℕ, List, codes}
use Rattle.set_model.specs.declared.names.ReclaimerName.{ReclaimerName}
use Rattle.set_model.specs.declared.names.ReclaimerName.TheVariants.{Nothing, Debra, Hazard, Ibr}
use Rattle.set_model.specs.declared.names.SetName.{SetName}
use Rattle.set_model.specs.declared.names.SetName.TheVariants.{Plain, Michael, Lazy}

abbrev pub set_word : SetName → List ℕ
set_word Plain = codes "plain"
set_word Michael = codes "michael"
set_word Lazy = codes "lazy"

abbrev pub reclaimer_word : ReclaimerName → List ℕ
reclaimer_word Nothing = codes "none"
reclaimer_word Debra = codes "debra"
reclaimer_word Hazard = codes "hazard"
reclaimer_word Ibr = codes "2geibr"
