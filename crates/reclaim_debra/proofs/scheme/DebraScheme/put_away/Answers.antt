use Rattle.std.proofs.Common.{refl, ap, ◌∙◌, subst}
use Rattle.row_words.specs.Refs.{IsRef}
use Rattle.record_rule.specs.Links.{retired}
use Rattle.record_table.specs.Handles.{view, since, IsPassOf}
use Rattle.reclaim_api.proofs.Putting.{HasPut, put_then, then_rows, then_owns, then_apart, put_frees, put_rest, put_free}
use Rattle.reclaim_api.proofs.Rows.{pass_still}
use Rattle.reclaim_debra.proofs.Retired.{put_local, put_steps}
use Rattle.reclaim_debra.proofs.scheme.DebraScheme.put_away.Goals as goal

pub put_first-requires-clause-bag : goal.put_first-requires-clause-bag
put_first-requires-clause-bag g c = let s = c.put_row-retired.ensures.step in then_rows (view c.args.pass.now) c.args.taken s.0 c.args.local.now.reading s.1 (view c.put_row-retired.new.pass) s.2 _
    (pass_still c.args.table.now c.args.pass.now c.put_row-retired.new.pass c.requires.pass c.put_row-retired.ensures.pass) c.args.local.now.current c.requires.local.bags.current_bag.chain

pub put_first-requires-clause-owned : goal.put_first-requires-clause-owned
put_first-requires-clause-owned g c = let s = c.put_row-retired.ensures.step in then_owns (view c.args.pass.now) c.args.taken s.0 c.args.local.now.reading s.1 (view c.put_row-retired.new.pass) c.put_row-retired.result s.2 c.put_row-retired.ensures.record
    (subst IsRef c.retired.view_is c.retired.invariant)

pub put_first-requires-clause-apart : goal.put_first-requires-clause-apart
put_first-requires-clause-apart g c = let s = c.put_row-retired.ensures.step in then_apart (view c.args.pass.now) c.args.taken s.0 c.args.local.now.reading s.1 (view c.put_row-retired.new.pass) c.put_row-retired.result s.2
    c.put_row-retired.ensures.record c.args.local.now.current c.requires.local.bags.current_bag.chain

-- what putting the record in front told
put : (g : _) (c : goal.After-put_first g) → HasPut c.args.local.now.current (retired (view c.args.pass.now) c.args.taken c.put_row-retired.ensures.step.0 c.args.local.now.reading) c.args.taken (view c.put_first.new.pass)
    (IsPassOf c.args.table.now c.put_row-retired.new.pass) (IsPassOf c.args.table.now c.put_first.new.pass) c.put_first.new.bag
put g c = let x = c.put_first.ensures in let s = c.put_row-retired.ensures.step in
    put_then c.args.local.now.current (view c.args.pass.now) (view c.put_row-retired.new.pass) c.put_row-retired.result c.args.taken s.0 c.args.local.now.reading (view c.put_first.new.pass) _ _ c.put_first.new.bag
    c.put_row-retired.ensures.record s.2 record {
      in_range = subst IsRef c.retired.view_is c.retired.invariant;
      was = pass_still c.args.table.now c.args.pass.now c.put_row-retired.new.pass c.requires.pass c.put_row-retired.ensures.pass;
      still = x.still;
      refs = x.refs;
      list = x.list;
      kept = x.others;
      made = x.made;
    }

pub returns-clause-does : goal.returns-clause-does
returns-clause-does g c = let s = c.put_row-retired.ensures.step in put_steps c.args.local.now (view c.args.pass.now) c.requires.local.bags c.args.taken s.0 s.1 (view c.put_first.new.pass) _ _ c.put_first.new.bag (put g c) _ _ (refl, refl)

pub returns-clause-free : goal.returns-clause-free
returns-clause-free g c = let s = c.put_row-retired.ensures.step in put_free (view c.args.pass.now) c.args.taken s.0 c.args.local.now.reading s.1 (view c.put_first.new.pass) c.args.local.now.current _ _ c.put_first.new.bag (put g c) c.args._free.now c.requires.free

pub returns-clause-frees : goal.returns-clause-frees
returns-clause-frees g c = let s = c.put_row-retired.ensures.step in put_frees (view c.args.pass.now) c.args.taken s.0 c.args.local.now.reading s.1 (view c.put_first.new.pass) (put g c).still c.args._free.now _ (refl, refl)

pub returns-clause-rest : goal.returns-clause-rest
returns-clause-rest g c = let s = c.put_row-retired.ensures.step in put_rest (view c.args.pass.now) c.args.taken s.0 c.args.local.now.reading s.1 (view c.put_first.new.pass) (put g c).still

pub returns-clause-local : goal.returns-clause-local
returns-clause-local g c = let s = c.put_row-retired.ensures.step in
    put_local c.args.local.now (view c.args.pass.now) c.requires.local.bags c.args.taken s.0 s.1 (view c.put_first.new.pass) _ _ c.put_first.new.bag (put g c) (since c.args.pass.now) (since c.put_first.new.pass) _ _
    (ap (λ x. x.value) (c.put_first.ensures.pass.inside ∙ c.put_row-retired.ensures.pass.inside)) (ap (λ x. x.value.me.0) (c.put_first.ensures.pass.since ∙ c.put_row-retired.ensures.pass.since)) c.requires.local.guarded
