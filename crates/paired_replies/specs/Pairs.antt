-- What callers called and were told.
use Rattle.std.specs.Prelude.{List, map}
use Rattle.set_model.specs.declared.calls.Call.{Call}
use Rattle.set_model.specs.declared.calls.Reply.{Reply}
use Rattle.report_text.specs.declared.report.Played.{Played}

-- what each caller called
abbrev pub calls_of : List Played → List (List Call)
calls_of callers = map (λ played. played.calls) callers

-- and what it was told
abbrev pub replies_to : List Played → List (List Reply)
replies_to callers = map (λ played. played.replies) callers
