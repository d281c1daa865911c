use Rattle.std.proofs.Common.{ap, subst, sym, ◌∙◌}
use Rattle.record_memory.specs.declared.books.View.{View}
use Rattle.record_rule.specs.Beginnings.{IsOneHistory}
use Rattle.record_rule.specs.Meetings.{HasMet}
use Rattle.record_rule.proofs.Meetings.{hears, meets}
use Rattle.record_table.proofs.table.Table.take_front.Goals as goal

pub join-requires-clause-joins : goal.join-requires-clause-joins
join-requires-clause-joins g c = hears _ _ _ _ _ _ _ c.requires.pass.present

pub returns-clause-met : goal.returns-clause-met
returns-clause-met g c = let v : View = c.args.pass.now.seat.me.0 in let front = c.args.front.seat.me.0.front in let heard_is = ap (λ m. m.0) c.join.ensures.both in
    subst (HasMet v front) (sym (ap (λ m. m.0) c.look.ensures.same ∙ heard_is)) (meets v front (subst IsOneHistory heard_is c.look.ensures.history))
