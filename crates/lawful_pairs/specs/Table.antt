-- Which set may be played under which reclaimer.
use Rattle.std.specs.Prelude.{◌≡◌, Bool, true, false}
use Rattle.set_model.specs.declared.names.SetName.{SetName}
use Rattle.set_model.specs.declared.names.SetName.TheVariants.{Plain, Michael, Lazy}
use Rattle.set_model.specs.declared.names.ReclaimerName.{ReclaimerName}
use Rattle.set_model.specs.declared.names.ReclaimerName.TheVariants.{Nothing, Debra, Hazard, Ibr}

-- The table, a row for each pair. The plain set has no records, so there is nothing to reclaim. Searches of the lazy
-- list follow links of unlinked records, which no longer change, so that a second look at such a link tells nothing.
abbrev pub is_lawful : SetName → ReclaimerName → Bool
is_lawful Plain Nothing = true
is_lawful Plain Debra = false
is_lawful Plain Hazard = false
is_lawful Plain Ibr = false
is_lawful Michael Nothing = true
is_lawful Michael Debra = true
is_lawful Michael Hazard = true
is_lawful Michael Ibr = true
is_lawful Lazy Nothing = true
is_lawful Lazy Debra = true
is_lawful Lazy Hazard = false
is_lawful Lazy Ibr = false

-- the table says yes to the pair
abbrev pub IsLawfulPair : SetName → ReclaimerName → Type 0
IsLawfulPair set reclaimer = is_lawful set reclaimer ≡ true
