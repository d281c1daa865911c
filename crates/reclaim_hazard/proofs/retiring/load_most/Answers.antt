use Rattle.std.proofs.Common.{◌+◌, ℕ, List, length, ap, sym, ◌∙◌, subst, arith}
use Rattle.record_table.specs.Handles.{view, same_start, same_then}
use Rattle.hazard_facts.specs.Pointers.{hazard, scan_word}
use Rattle.reclaim_api.proofs.Rows.{pass_still}
use Rattle.reclaim_api.proofs.Scanning.{loads_none, loads_next}
use Rattle.reclaim_hazard.specs.Running.{is_unnamed, words_of}
use Rattle.reclaim_hazard.specs.Steps.{HasLoadedWords}
use Rattle.reclaim_hazard.proofs.Scanning.{hazard_scans}
use Rattle.reclaim_hazard.proofs.retiring.load_most.Goals as goal

pub loop-n-init : goal.loop-n-init
loop-n-init g c = record {
  pass = c.requires.pass;
  same = same_start c.args.pass.now;
  many = ap (λ (l : List ℕ). length l) c.requires.none;
  loaded = subst (λ (l : List ℕ). HasLoadedWords (view c.args.pass.now) l (view c.args.pass.now)) (sym c.requires.none) (loads_none scan_word (view c.args.pass.now) c.requires.local.calm);
}

pub loop-n-preserved : goal.loop-n-preserved
loop-n-preserved g c = let i = c.loop-n.invariant in let v = view c.args.pass.now in let l = c.requires.local in let test = c.loop-n-test.true in record {
  pass = pass_still c.args.table.now c.loop-n.pass c.load_word.new.pass i.pass c.load_word.ensures.pass;
  same = same_then c.args.pass.now c.loop-n.pass c.load_word.new.pass i.same c.load_word.ensures.pass;
  many = c.push.ensures.len ∙ ap (λ (n : ℕ). n + 1) i.many;
  loaded = subst (λ (x : List ℕ). HasLoadedWords v x (view c.load_word.new.pass)) (sym c.push.ensures.items)
      (loads_next scan_word hazard is_unnamed v (words_of v.setup) (hazard_scans v.setup) c.loop-n.words.items (view c.loop-n.pass) i.loaded c.load_word.result (view c.load_word.new.pass) (let a = i.many in let b = l.callers in let d = l.counted in omega arith)
      c.loop-n.n (sym i.many) c.load_word.ensures.loaded (let a = i.many in let b = l.callers in let d = l.counted in omega arith));
}
