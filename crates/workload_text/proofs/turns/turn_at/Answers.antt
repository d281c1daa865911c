use Rattle.std.proofs.Common.{ℕ, List, ◌++◌, ap, ◌∙◌, inl}
use Rattle.text_lines.specs.Lines.{line}
use Rattle.workload_text.proofs.CallKinds.{none_of_all}
use Rattle.workload_text.proofs.turns.turn_at.Goals as goal

pub returns-in-None-clause-refused : goal.returns-in-None-clause-refused
returns-in-None-clause-refused c = inl (record {
  text = c.in-Some.text.now;
  more = c.in-Some.rest.now;
  same = c.in-Some.ensures.found.0;
  feedless = c.in-Some.ensures.found.1;
  none_follows = none_of_all c.args.seen c.in-Some.text.now (λ call m e. c.requires.no_call m.1 call c.in-Some.rest.now m.0 (c.in-Some.ensures.found.0 ∙ ap (λ (t : List ℕ). line t ++ c.in-Some.rest.now) e)) c.in-None.ensures.none;
  kind = c.kind_of.ensures c.args.seen;
})
