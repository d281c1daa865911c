use Rattle.std.proofs.Common.{ap, subst, sym, ◌∙◌, ◌≡◌, ℕ, List}
use Rattle.std.specs.Prelude.{slice_set}
use Rattle.record_memory.specs.declared.books.View.{View}
use Rattle.row_words.specs.Refs.{RefParts}
use Rattle.row_words.specs.Packing.{packed_link}
use Rattle.record_rule.specs.Kinds.{idle}
use Rattle.record_rule.specs.HandingOut.{HasOwn}
use Rattle.record_rule.specs.Asides.{put_aside, chain_word, HasSpare}
use Rattle.record_rule.proofs.Asides.{spare_after, idle_aside}
use Rattle.record_table.proofs.table.Table.set_aside.Goals as goal

pub returns-clause-step : goal.returns-clause-step
returns-clause-step g c = let v : View = c.args.pass.now.seat.me.0 in let i : c.record.inside.index ≡ c.args.own.index = ap (λ (z : RefParts). z.index) (c.record.view_is ∙ c.own.view_is) in
    let generation : c.get.result ≡ c.args.own.generation = c.get.ensures.number ∙ ap (λ (z : RefParts). z.generation) (c.record.view_is ∙ c.own.view_is) in
    let value : c.pack_link-value.result ≡ chain_word c.args.own.generation c.args.next = c.pack_link-value.ensures.word ∙ ap (packed_link c.get.result) c.to.ensures.link ∙ ap (λ (z : ℕ). chain_word z c.args.next) generation in
    c.store_aside.ensures.step ∙ (λ k. put_aside v (i k) (value k))

pub returns-clause-spare : goal.returns-clause-spare
returns-clause-spare g c = let v : View = c.args.pass.now.seat.me.0 in let value : ℕ = chain_word c.args.own.generation c.args.next in
    λ (row : List ℕ) (h : HasOwn v c.args.own row). subst (λ (w : View). HasSpare w c.args.own (slice_set row 1 value)) (sym (returns-clause-step g c)) (spare_after v c.args.own row value h)

pub returns-clause-is_spare : goal.returns-clause-is_spare
returns-clause-is_spare g c = (_, returns-clause-spare g c c.requires.own.0 c.requires.own.1)

pub returns-clause-idle : goal.returns-clause-idle
returns-clause-idle g c = ap (λ (w : View). idle w.own) (returns-clause-step g c) ∙ idle_aside _ c.args.own _ _ c.requires.own.1
