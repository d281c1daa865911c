use Rattle.std.proofs.Common.{sym, ◌∙◌, arith}
use Rattle.std.proofs.lemmas.Bool.{eqb-true}
use Rattle.list_tests.proofs.Pairs.{both_taken}
use Rattle.list_tests.proofs.interleaved.both.Goals as goal

pub returns-then-is_empty : goal.returns-then-is_empty
returns-then-is_empty c =
    let none = eqb-true _ 0 (sym c.is_empty.ensures ∙ c.if-is_empty.true) in
    record {
      both = both_taken c.args.list.now.manager.table c.args.callers.items c.pop.new.self.items c.pop-2.new.self.items c.in_ok-zero.zero c.in_ok-one.one
          c.in_ok-one.ensures.items c.in_ok-zero.ensures.items (let l = c.pop-2.new.self.ok.0 in omega (arith, none)) c.requires.passes c.requires.resting;
    }
