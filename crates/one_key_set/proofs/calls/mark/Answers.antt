use Rattle.std.proofs.Common.{Some, None, ap, sym, subst, ◌∙◌}
use Rattle.row_words.specs.Refs.{LinkParts}
use Rattle.set_calls.proofs.Going.{did_then}
use Rattle.one_key_set.specs.Knowing.{HoldsKey, KnowsMark}
use Rattle.one_key_set.specs.Pieces.{marks}
use Rattle.one_key_set.proofs.Looks.{mark_left}
use Rattle.one_key_set.proofs.Doing.{marking_did}
use Rattle.one_key_set.proofs.calls.mark.Goals as goal

pub take_out-requires-clause-marked : goal.take_out-requires-clause-marked
take_out-requires-clause-marked g c = let p = c.args.guard.now.caller.now.pass in let q = c.exchange_link.new.self.caller.now.pass in
    subst (KnowsMark q) c.same_held.ensures (mark_left p q c.args.key c.same_held.result c.to-old.result c.marked.result _ (subst (HoldsKey p c.args.key) (sym c.same_held.ensures) c.requires.at)
    (c.marked.ensures.link ∙ ap (λ (l : LinkParts). record { flags = 1; target = l.target }) c.to-old.ensures.link) c.in-Ok.ensures.step)

pub returns-in-Ok-clause-did : goal.returns-in-Ok-clause-did
returns-in-Ok-clause-did g c = let f = c.args.guard.now in let h = c.exchange_link.new.self in let i = c.take_out.new.guard in let out = c.take_out.ensures.did in (
  out.0,
  out.1,
  did_then f h i (marks c.args.key c.args.at None) out.0 c.in-Ok.ensures.same_reference.1
      (marking_did f h c.args.key c.from.result c.args.at c.same_held.result c.to-old.result c.marked.result None c.from.ensures c.same_held.ensures c.to-old.ensures.link
      (c.marked.ensures.link ∙ ap (λ (l : LinkParts). record { flags = 1; target = l.target }) c.to-old.ensures.link) c.in-Ok.ensures.did) out.2,
)

pub returns-in-Err-clause-did : goal.returns-in-Err-clause-did
returns-in-Err-clause-did g c = let f = c.args.guard.now in let h = c.exchange_link.new.self in let other = c.in-Err.field-0.link in (
  other,
  marking_did f h c.args.key c.from.result c.args.at c.same_held.result c.to-old.result c.marked.result (Some other) c.from.ensures c.same_held.ensures c.to-old.ensures.link
      (c.marked.ensures.link ∙ ap (λ (l : LinkParts). record { flags = 1; target = l.target }) c.to-old.ensures.link) c.in-Err.ensures.did,
)
