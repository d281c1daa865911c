use Rattle.std.proofs.Common.{ℕ, ◌+◌, ◌-◌, ◌*◌, ◌/◌, ◌≡◌, ap, subst, sym, ◌∙◌, arith}
use Rattle.record_memory.specs.declared.books.Setup.{Setup}
use Rattle.record_memory.specs.declared.books.View.{View}
use Rattle.record_memory.specs.declared.steps.Word.TheVariants.{Cursor}
use Rattle.record_memory.specs.Memory.{address}
use Rattle.row_words.specs.Refs.{RefParts}
use Rattle.record_rule.specs.World.{range}
use Rattle.record_rule.specs.OwnDraws.{drew_own, DrewOwn}
use Rattle.alloc_once.proofs.News.{only_looked, own_is_new}
use Rattle.alloc_once.proofs.OnceAllocator.draw.Goals as goal

pub returns-clause-new : goal.returns-clause-new
returns-clause-new g c = let v : View = c.args.pass.now.seat.me.0 in let setup = c.requires.pass.setup in let n : ℕ = c.load_control-drawn.result in
    let place : c.cursor.result ≡ address v.setup.callers (Cursor v.own.caller) = (let a = c.cursor.ensures in let b = c.callers-callers.ensures.callers in let d = c.caller-caller.ensures in let e = ap (λ (k : Setup). k.callers) setup in omega arith) in
    let mid = only_looked g.R.Cover.facts v c.load_control-drawn.new.pass.seat.me.0 c.cursor.result n c.args.pass.now.counted place c.load_control-drawn.ensures.step in
    own_is_new v c.store_cursor.new.pass.seat.me.0 c.cursor.result n c.new.result (c.store_cursor.ensures.step ∙ ap (λ (w : View). drew_own w n) mid) (subst (λ (w : View). DrewOwn w n) mid c.store_cursor.ensures.new)
    (ap (λ (r : RefParts). r.index) c.new.ensures.parts
    ∙ (λ k. c.roots-roots.ensures k + c.caller-caller.ensures k * ((c.records.ensures k - c.roots-roots.ensures k) / c.callers-callers.ensures.callers k) + n + 1)
    ∙ ap (λ (z : Setup). z.roots + v.own.caller * range z + n + 1) (sym setup))
    (ap (λ (r : RefParts). r.generation) c.new.ensures.parts ∙ c.first.ensures ∙ sym (ap (λ (k : Setup). k.first) setup))
