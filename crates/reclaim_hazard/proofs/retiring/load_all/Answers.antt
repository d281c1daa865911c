use Rattle.std.proofs.Common.{◌≡◌, ◌-◌, ◌*◌, ℕ, List, length, sym, subst, arith}
use Rattle.record_table.specs.Handles.{view}
use Rattle.hazard_facts.specs.Pointers.{hazard, scan_word}
use Rattle.reclaim_api.proofs.Scanning.{loads_last}
use Rattle.reclaim_hazard.specs.Running.{is_unnamed, words_of}
use Rattle.reclaim_hazard.specs.Steps.{HasScanned}
use Rattle.reclaim_hazard.proofs.Scanning.{hazard_scans}
use Rattle.reclaim_hazard.proofs.retiring.load_all.Goals as goal

pub returns-clause-words : goal.returns-clause-words
returns-clause-words g c = let i = c.load_most.ensures in let v = view c.args.pass.now in let l = c.requires.local in
    let place : 3 * c.args.local.now.callers - 1 ≡ length c.load_most.new.words.items = (let a = i.most in omega arith) in
    subst (λ (x : List ℕ). HasScanned v x (view c.load_word.new.pass)) (sym c.push.ensures.items)
    (loads_last scan_word hazard is_unnamed v (words_of v.setup) (hazard_scans v.setup) c.load_most.new.words.items (view c.load_most.new.pass) i.words c.load_word.result (view c.load_word.new.pass) (let a = i.most in let b = l.callers in let d = l.counted in omega arith)
    (3 * c.args.local.now.callers - 1) place c.load_word.ensures.loaded (let a = i.most in let b = l.callers in omega arith) l.calm)
