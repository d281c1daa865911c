-- From a fact for one outcome of a printing to another.
use Rattle.report_text.specs.declared.report.Printed.{Printed}
use Rattle.report_text.specs.declared.report.Printed.TheVariants.{Done, WriteFault}
use Rattle.report_text.specs.Printed.{OnDone, OnWriteFault}

pub OnDone-map : {P Q : Type 0} (printed : Printed) → (P → Q) → OnDone printed P → OnDone printed Q
OnDone-map Done f p = f p
OnDone-map WriteFault f p = tt

pub OnWriteFault-map : {P Q : Type 0} (printed : Printed) → (P → Q) → OnWriteFault printed P → OnWriteFault printed Q
OnWriteFault-map Done f p = tt
OnWriteFault-map WriteFault f p = f p
