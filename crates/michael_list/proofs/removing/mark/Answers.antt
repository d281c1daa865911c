use Rattle.std.proofs.Common.{Some, sym, subst}
use Rattle.set_model.specs.declared.calls.Call.TheVariants.{Remove}
use Rattle.row_words.specs.Refs.{LinkParts}
use Rattle.row_words.specs.Packing.{IsLink}
use Rattle.record_rule.specs.Links.{near_of, ExchangedLink}
use Rattle.list_facts.specs.Michael.{michael}
use Rattle.list_facts.specs.Steps.{marked_with, MayMark}
use Rattle.record_table.specs.declared.nodes.Held.{Held}
use Rattle.record_table.specs.declared.nodes.Node.TheVariants.{At}
use Rattle.record_table.specs.Handles.{view}
use Rattle.record_table.specs.Nodes.{origin_held}
use Rattle.record_pieces.specs.Events.{Event, exchanged}
use Rattle.manager.specs.Guards.{Did}
use Rattle.set_calls.proofs.Going.{did_one}
use Rattle.michael_list.proofs.Marking.{removal_decided, may_mark, mark_left}
use Rattle.michael_list.proofs.removing.mark.Goals as goal

pub exchange_link-requires-clause-allowed : goal.exchange_link-requires-clause-allowed
exchange_link-requires-clause-allowed g c =
    let p = c.args.guard.now.caller.now.pass in let at = c.args.at.now in
    subst (λ (h : Held). MayMark 0 (view p).setup (near_of (view p) (origin_held h)) 3 c.args.link c.marked.result (Some (Remove c.args.key))) (sym c.same_held.ensures)
    (may_mark p c.args.root at c.requires.at.0 (view p).setup c.args.key c.args.link c.marked.result c.requires.at.1 c.requires.link.0 c.marked.ensures.link)

pub returns-in-Ok-clause-tells : goal.returns-in-Ok-clause-tells
returns-in-Ok-clause-tells g c =
    let p = c.args.guard.now.caller.now.pass in let q = c.exchange_link.new.self.caller.now.pass in let at = c.args.at.now in let link = c.args.link in
    let told = subst (λ (z : Held × LinkParts). ExchangedLink michael (view p) (origin_held z.0) 3 link z.1 (Some (Remove c.args.key)) (view q)) (λ k. (c.same_held.ensures k, c.marked.ensures.link k)) c.in-Ok.ensures.step in (
      removal_decided (view p) (view q) (origin_held at) c.args.key link (marked_with link) told,
      mark_left p c.args.root at c.requires.at.0 q c.args.key link (subst IsLink c.marked.ensures.link c.marked.ensures.in_range) told,
    )

pub returns-in-Err-clause-did : goal.returns-in-Err-clause-did
returns-in-Err-clause-did g c =
    let f = c.args.guard.now in let h = c.exchange_link.new.self in let other = c.in-Err.field-0.link in let link = c.args.link in
    let e : Event = exchanged (At c.args.at.now) 3 link (marked_with link) (Some (Remove c.args.key)) (Some other) in
    (other, did_one f h e (subst (λ (z : Held × LinkParts). Did f (exchanged (At z.0) 3 link z.1 (Some (Remove c.args.key)) (Some other)) h) (λ k. (c.same_held.ensures k, c.marked.ensures.link k)) c.in-Err.ensures.did))
