use Rattle.std.proofs.Common.{◌≡◌, ◌-◌, ◌*◌, ℕ, List, length, sym, subst, arith}
use Rattle.record_table.specs.Handles.{view}
use Rattle.ibr_facts.specs.Keeping.{ibr}
use Rattle.reclaim_api.specs.Scanning.{LoadsAll}
use Rattle.reclaim_api.proofs.Scanning.{loads_last}
use Rattle.reclaim_ibr.specs.Meeting.{is_unmet}
use Rattle.reclaim_ibr.specs.Retiring.{ends_of, scan_word}
use Rattle.reclaim_ibr.proofs.Scanning.{ibr_scans}
use Rattle.reclaim_ibr.proofs.retiring.load_all.Goals as goal

pub returns-clause-ends : goal.returns-clause-ends
returns-clause-ends g c = let i = c.load_most.ensures in let v = view c.args.pass.now in let l = c.requires.local in
    let place : 2 * c.args.local.now.callers - 1 ≡ length c.load_most.new.ends.items = (let a = i.most in omega arith) in
    subst (λ (x : List ℕ). LoadsAll scan_word is_unmet v x (view c.load_end.new.pass)) (sym c.push.ensures.items)
    (loads_last scan_word ibr is_unmet v (ends_of v.setup) (ibr_scans v.setup) c.load_most.new.ends.items (view c.load_most.new.pass) i.ends c.load_end.result (view c.load_end.new.pass) (let a = i.most in let b = l.callers in let d = l.counted in omega arith)
    (2 * c.args.local.now.callers - 1) place c.load_end.ensures.loaded (let a = i.most in let b = l.callers in omega arith) l.calm)
