use Rattle.std.proofs.Common.{◌+◌, ap, sym, ◌∙◌, subst, ◌<◌}
use Rattle.record_memory.specs.declared.steps.Word.TheVariants.{Field}
use Rattle.record_memory.specs.Memory.{address}
use Rattle.row_words.specs.Refs.{RefParts, refer}
use Rattle.record_rule.specs.HandingOut.{HasDrawn}
use Rattle.record_table.specs.Handles.{view}
use Rattle.record_rule.proofs.TakesFree.{takes_free, drawn_again, idle_less}
use Rattle.record_table.proofs.Recording.{adds_free}
use Rattle.record_table.proofs.table.Table.take_free.Goals as goal

pub load-found-requires-clause-lawful : goal.load-found-requires-clause-lawful
load-found-requires-clause-lawful g c = takes_free g.S.Shape.facts g.R.Cover.facts _ _ _ _ c.args.r c.requires.pass.present c.requires.pass.setup (subst (λ (x : RefParts). 0 < x.index) c.r.view_is c.r.invariant.index.0)
    (c.address_of-word.ensures.place ∙ ap (λ (x : RefParts). address c.args.self.now.board.shared.key.callers (Field x.index 1)) c.r.view_is) c.requires.free

pub load-found-requires-clause-recorded : goal.load-found-requires-clause-recorded
load-found-requires-clause-recorded g c = let v = c.args.pass.now.seat.me.0 in
    λ n w t. adds_free v c.args.r _ (c.address_of-word.ensures.named ∙ ap (λ (x : RefParts). Field x.index 1) c.r.view_is) n w t

pub returns-clause-drawn : goal.returns-clause-drawn
returns-clause-drawn g c = subst (λ (x : RefParts). HasDrawn (view c.load-found.new.pass) x)
    (λ k. refer ((sym c.r.view_is) k).index ((ap (λ (x : RefParts). x.generation + 1) (sym c.r.view_is) ∙ sym c.in-Some.ensures.0) k)) (drawn_again _ _ _ c.load-found.ensures.told.took)

pub returns-clause-idle : goal.returns-clause-idle
returns-clause-idle g c = idle_less _ _ _ c.load-found.ensures.told.took
