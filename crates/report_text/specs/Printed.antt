-- What printing came to.
use Rattle.report_text.specs.declared.report.Printed.{Printed}
use Rattle.report_text.specs.declared.report.Printed.TheVariants.{Done, WriteFault}

-- the fact, if all was printed
abbrev pub OnDone : Printed → Type 0 → Type 0
OnDone Done P = P
OnDone WriteFault P = Unit {0}

-- the fact, if a put failed
abbrev pub OnWriteFault : Printed → Type 0 → Type 0
OnWriteFault Done P = Unit {0}
OnWriteFault WriteFault P = P
