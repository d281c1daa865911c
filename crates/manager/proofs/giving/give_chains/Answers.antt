use Rattle.std.proofs.Common.{inl, inr, refl, sym, ◌∙◌, arith}
use Rattle.record_table.specs.Handles.{view, same_then}
use Rattle.record_pieces.specs.Giving.{gave_all, kept_one, gave_one}
use Rattle.manager.proofs.ChainCounts.{free_is}
use Rattle.manager.proofs.FreeGivings.{gives_start, gives_then}
use Rattle.manager.proofs.giving.give_chains.Goals as goal
use Rattle.manager.proofs.giving.give_chains.Goals.{then-left-eq0-via-then-left-eq0, then-left-eq0-via-else-left-eq0+then-SHELVES-eq0}

pub returns-then-left-eq0-clause-did : goal.returns-then-left-eq0-clause-did
returns-then-left-eq0-clause-did g c = gave_all _ _ (elim c.then-left-eq0.branch [ then-left-eq0-via-then-left-eq0 w ↦ inl w.if-left-eq0.true | then-left-eq0-via-else-left-eq0+then-SHELVES-eq0 w ↦ inr (inl (sym w.SHELVES.ensures ∙ w.if-SHELVES-eq0.true)) ]) refl

pub returns-then-left-eq0-clause-free : goal.returns-then-left-eq0-clause-free
returns-then-left-eq0-clause-free g c = gives_start (view c.args.caller.now.pass)

pub returns-then-not-give_first-clause-free : goal.returns-then-not-give_first-clause-free
returns-then-not-give_first-clause-free g c = gives_then _ _ _ c.loop-caller.invariant.free c.give_first.ensures.free

pub returns-then-not-give_first-clause-did : goal.returns-then-not-give_first-clause-did
returns-then-not-give_first-clause-did g c =
    let a = c.loop-caller.caller in let h = c.loop-caller.invariant.working.chains in let many = free_is (view a.pass) a.free a.spare h.frees h.spares h.all in
    c.loop-caller.invariant.did _ (kept_one _ _
    (record { freed = omega (arith, c.if-left-eq0.false); some = omega (arith, c.if-SHELVES-eq0.false, c.SHELVES.ensures); many = omega (arith, many, c.loop-caller-test.true) })
    (c.give_first.ensures.kept c.if-not-give_first.true))

pub loop-caller-preserved : goal.loop-caller-preserved
loop-caller-preserved g c =
    let i = c.loop-caller.invariant in let e = c.give_first.ensures in
    let a = c.loop-caller.caller in let h = i.working.chains in let many = free_is (view a.pass) a.free a.spare h.frees h.spares h.all in
    record {
      of = e.of;
      working = e.caller;
      pass = same_then c.args.caller.now.pass a.pass c.give_first.new.caller.pass i.pass e.pass;
      spare = e.spare ∙ i.spare;
      free = gives_then _ _ _ i.free e.free;
      did = λ b more. i.did b (gave_one _ _ _
          (record { freed = omega (arith, c.if-left-eq0.false); some = omega (arith, c.if-SHELVES-eq0.false, c.SHELVES.ensures); many = omega (arith, many, c.loop-caller-test.true) })
          (e.gave c.if-not-give_first.false) more);
    }

pub returns-clause-did : goal.returns-clause-did
returns-clause-did g c =
    let a = c.loop-caller.caller in let h = c.loop-caller.invariant.working.chains in let many = free_is (view a.pass) a.free a.spare h.frees h.spares h.all in
    c.loop-caller.invariant.did _ (gave_all _ _ (inr (inr (omega (arith, many, c.loop-caller-test.false)))) refl)
