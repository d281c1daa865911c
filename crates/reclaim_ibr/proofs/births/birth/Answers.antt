use Rattle.std.proofs.Common.{[], append-nil, sym, ap, ◌∙◌, refl, arith}
use Rattle.record_memory.specs.declared.books.View.{View}
use Rattle.record_table.specs.Handles.{view, since, is_inside, setup_of}
use Rattle.guard_facts.specs.Announcing.{reading}
use Rattle.reclaim_ibr.specs.Running.{at_time, between}
use Rattle.reclaim_ibr.proofs.Locals.{local_born}
use Rattle.reclaim_ibr.proofs.Bearing.{bears_by}
use Rattle.reclaim_ibr.proofs.births.birth.Goals as goal
use Rattle.reclaim_ibr.proofs.births.birth.Goals.{then-births-eq0, else-births-eq0}

pub returns-clause-local : goal.returns-clause-local
returns-clause-local g c = let q = c.read_epoch-epoch.new.pass in local_born c.args.local.now (is_inside q) (since q) (view q) c.read_epoch-epoch.ensures.local

pub returns-clause-does : goal.returns-clause-does
returns-clause-does g c = let v : View = view c.args.pass.now in let w : View = view c.read_epoch-epoch.new.pass in let n = c.read_epoch-epoch.result in let read = c.read_epoch-epoch.ensures.read in let l = c.requires.local in elim c.if-births-eq0.branch [
  | then-births-eq0 x ↦ let a = x.advance.ensures.advanced in bears_by (setup_of c.args.table.now) v (view c.if-births-eq0.pass) w a.0 n (at_time (let y = x.if-births-eq0.true in let z = l.births in omega arith) a.1)
      (ap (λ (p : _). (view p).own.steps) x.pass-is ∙ a.2) (ap (λ (p : _). (view p).own.mine) x.pass-is ∙ x.advance.ensures.rest.mine) (let b = x.advance.ensures.rise in let d = ap (λ (p : _). reading (view p).own.guard 0) x.pass-is in omega arith) read
  | else-births-eq0 x ↦ bears_by (setup_of c.args.table.now) v (view c.if-births-eq0.pass) w [] n (between (λ e. (let y = x.if-births-eq0.false in let z = l.births in omega arith)) refl)
      (ap (λ (p : _). (view p).own.steps) x.pass-is ∙ sym (append-nil v.own.steps)) (ap (λ (p : _). (view p).own.mine) x.pass-is) (let d = ap (λ (p : _). reading (view p).own.guard 0) x.pass-is in omega arith) read
]
