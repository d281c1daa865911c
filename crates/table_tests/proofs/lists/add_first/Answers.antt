use Rattle.std.proofs.Common.{ap, subst, sym, ◌∙◌, ◌≡◌}
use Rattle.row_words.specs.Refs.{RefParts}
use Rattle.row_words.specs.Packing.{packed_number}
use Rattle.record_rule.specs.HandingOut.{HasOwn, fresh_row}
use Rattle.record_rule.specs.Kinds.{stored}
use Rattle.table_tests.proofs.Adding.{first_allowed}
use Rattle.table_tests.proofs.lists.add_first.Goals as goal

pub publish-requires-clause-allowed : goal.publish-requires-clause-allowed
publish-requires-clause-allowed c = let handed : c.hand_out-own.result ≡ c.in-Ok.r = c.hand_out-own.ensures.record in
    first_allowed _ c.to-empty.result c.to-empty.ensures.link c.hand_out-own.new.pass.seat.me.0 c.store_own.new.pass.seat.me.0 c.store_own.new.own c.args.key
    (subst (λ (r : RefParts). HasOwn c.hand_out-own.new.pass.seat.me.0 r (fresh_row r.generation 0)) (sym (c.store_own.ensures.record ∙ handed)) c.hand_out-own.ensures.own)
    (c.store_own.ensures.step ∙ ap (λ (r : RefParts). stored c.hand_out-own.new.pass.seat.me.0 r.index 4 (packed_number r.generation c.args.key)) (sym c.store_own.ensures.record))
    c.requires.roots c.requires.key
