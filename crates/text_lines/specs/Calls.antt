-- The text of a call, as workloads and reports spell it.
use Rattle.std.specs.Prelude.{ℕ, List, codes}
use Rattle.set_model.specs.declared.calls.Call.{Call}
use Rattle.set_model.specs.declared.calls.Call.TheVariants.{Insert, Remove, Search}
use Rattle.text_lines.specs.Lines.{numbered}

-- a call: its letter and its key
abbrev pub call_text : Call → List ℕ
call_text (Insert key) = numbered (codes "i") key
call_text (Remove key) = numbered (codes "r") key
call_text (Search key) = numbered (codes "s") key
