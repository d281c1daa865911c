use Rattle.std.proofs.Common.{arith, refl, inl}
use Rattle.record_rule.proofs.LockedUnlinks.{unlinks_locked}
use Rattle.record_table.specs.Nodes.{origin}
use Rattle.record_table.proofs.InTable.{in_table, holds_node}
use Rattle.record_table.proofs.Recording.{adds_unlink_locked}
use Rattle.record_table.proofs.table.Table.unlink_locked.Goals as goal

pub store_on-requires-clause-node : goal.store_on-requires-clause-node
store_on-requires-clause-node g c = in_table _ c.args.pass.now c.requires.pass.setup c.args.node c.requires.node

pub store_on-requires-clause-lawful : goal.store_on-requires-clause-lawful
store_on-requires-clause-lawful g c = let a = c.requires.allowed in
    unlinks_locked g.S.Shape.facts g.R.Cover.facts g.S.Shape.laws g.R.Cover.laws _ c.args.self.now.numbers _ _ 3 c.args.gone.place _ (origin c.args.node) a.0 c.args.gone.target c.args.new _ c.requires.pass.present c.requires.pass.setup
    refl (omega arith) (omega arith) (holds_node _ c.args.pass.now c.requires.pass.setup c.args.node c.requires.node) a.1 c.requires.gone.holds a.2 c.requires.link (inl refl) a.3

pub store_on-requires-clause-recorded : goal.store_on-requires-clause-recorded
store_on-requires-clause-recorded g c = λ n w t. adds_unlink_locked g.S.Shape.facts c.args.pass.now.seat.me.0 (origin c.args.node) 3 _ refl c.args.self.now.board.shared.key c.requires.pass.setup c.args.new c.args.gone.target n w t

pub returns-clause-step : goal.returns-clause-step
returns-clause-step g c = let t = c.store_on.ensures.told.1 in (t.old, t.locked, t.left)
