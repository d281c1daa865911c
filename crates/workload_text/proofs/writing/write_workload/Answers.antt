use Rattle.std.proofs.Common.{[], get_or, length, arith, ◌<◌}
use Rattle.std.proofs.lemmas.Option.{slice_get-get_or}
use Rattle.workload_text.specs.Text.{version_line, callers_line}
use Rattle.workload_text.proofs.WritingLemmas.{caller_written}
use Rattle.workload_text.proofs.writing.write_workload.Goals as goal

pub loop-caller-preserved : goal.loop-caller-preserved
loop-caller-preserved c =
    let lists = c.args.workload.now.lists in
    let i = c.loop-caller.caller in
    let phases = get_or lists i [] in
    let lt : i < length lists = omega (arith, c.callers-caller-end.ensures.count, c.loop-caller-test.true) in
    let is = slice_get-get_or lists i [] lt in
    caller_written (version_line c.args.workload.now.version) (callers_line (length lists)) lists c.loop-caller.out.items c.write_caller.new.out.items i phases lt is c.loop-caller.invariant (c.in_ok-write_caller.ensures phases is)
