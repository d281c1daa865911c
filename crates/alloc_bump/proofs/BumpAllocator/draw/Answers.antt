use Rattle.std.proofs.Common.{arith, ap, subst, sym, ◌∙◌, ◌≡◌, refl, ℕ}
use Rattle.record_memory.specs.declared.books.Setup.{Setup}
use Rattle.record_memory.specs.declared.books.View.{View}
use Rattle.row_words.specs.Refs.{RefParts}
use Rattle.record_rule.specs.Kinds.{drew, DrewNew}
use Rattle.alloc_bump.proofs.News.{drew_is_new}
use Rattle.alloc_bump.proofs.BumpAllocator.draw.Goals as goal

pub add_control-found-requires-clause-below : goal.add_control-found-requires-clause-below
add_control-found-requires-clause-below g c = ap (λ v. v.own.drawing) c.load_control-seen.ensures.step ∙ c.load_control-seen.ensures.below refl (let k = ap (λ k. k.records) c.requires.pass.setup in let h = c.if-seen-records.false in omega arith)

pub returns-clause-new : goal.returns-clause-new
returns-clause-new g c = let mid = c.load_control-seen.ensures.step in let found : ℕ = c.add_control-found.result in let setup = c.requires.pass.setup in
    drew_is_new c.args.pass.now.seat.me.0 c.add_control-found.new.pass.seat.me.0 c.load_control-seen.result found c.new.result (c.add_control-found.ensures.step ∙ ap (λ (v : View). drew v found) mid)
    (subst (λ (v : View). DrewNew v found) mid c.add_control-found.ensures.new) (let k = ap (λ (k : Setup). k.records) setup in let h = c.if-found-records.false in omega arith)
    (ap (λ (r : RefParts). r.index) c.new.ensures.parts) (ap (λ (r : RefParts). r.generation) c.new.ensures.parts ∙ c.first.ensures ∙ sym (ap (λ (k : Setup). k.first) setup))
