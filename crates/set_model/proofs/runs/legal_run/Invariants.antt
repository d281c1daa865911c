use Rattle.std.proofs.Common.{◌≡◌, ◌+◌, ◌≤◌, length}
use Rattle.std.specs.Prelude.{◌↔◌}
use Rattle.std.specs.Iterator.Adapters.{zip_first, zip_second}
use Rattle.std.specs.Slice.Iter.{iter_rest}
use Rattle.set_model.specs.Keys.{empty, size_of}
use Rattle.set_model.specs.Machine.{IsLegalRun}
use Rattle.set_model.proofs.runs.legal_run.Given as goal

-- the whole run is legal where what is left of it is
abbrev pub invariant-loop-call : goal.invariant-loop-call
invariant-loop-call l =
    let calls = iter_rest (zip_first l.call-iterator) in
    let replies = iter_rest (zip_second l.call-iterator) in
    record {
      can_next : (goal.iterator-loop-call).can_next l.call-iterator;
      finite : (goal.iterator-loop-call).is_finite l.call-iterator;
      same_length : length replies ≡ length calls;
      room : size_of l.set.keys + length calls ≤ l.set.room;
      rest : IsLegalRun l.calls l.replies empty ↔ IsLegalRun calls replies l.set.keys;
    }
