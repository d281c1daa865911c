use Rattle.std.proofs.Common.{[], ◌∷◌, ◌≢◌, ◌⊎◌, ◌≡◌, Some, None, ap, ◌∙◌, subst}
use Rattle.row_words.specs.Refs.{RefParts}
use Rattle.record_table.specs.declared.nodes.Node.{Node}
use Rattle.record_table.specs.declared.nodes.Held.{Held}
use Rattle.record_table.specs.Nodes.{origin}
use Rattle.reclaim_api.specs.Holds.{IsElsewhere, KeepsButLink}
use Rattle.reclaim_api.proofs.Keeping.{keeps_then}
use Rattle.record_pieces.specs.Events.{Event, unlinked, retired}
use Rattle.manager.specs.Guards.{Did}
use Rattle.set_calls.proofs.Going.{did_one, did_then, keeps_any}
use Rattle.michael_list.specs.Walks.{takes_out, is_refused}
use Rattle.michael_list.proofs.walking.take_out.Goals as goal

pub returns-in-Ok-clause-keeps : goal.returns-in-Ok-clause-keeps
returns-in-Ok-clause-keeps g c =
    let p = c.args.guard.now.caller.now.pass in let q = c.unlink.new.self.caller.now.pass in let r = c.retire.new.self.caller.now.pass in
    let o = origin c.args.before.now in
    let first = subst (λ (n : Node). KeepsButLink (origin n) p q) c.same_node.ensures c.in-Ok.ensures.keeps in
    keeps_then (λ place. Unit {0}) (λ place f. (f ≢ 0) ⊎ IsElsewhere o place) p q r first (keeps_any (λ place. Unit {0}) (λ place f. (f ≢ 0) ⊎ IsElsewhere o place) q r c.retire.ensures.keeps)

pub returns-in-Ok-clause-did : goal.returns-in-Ok-clause-did
returns-in-Ok-clause-did g c =
    let f = c.args.guard.now in let h = c.unlink.new.self in let i = c.retire.new.self in let gone = c.args.gone.now in
    let e : Event = unlinked c.args.before.now 3 gone.target c.args.link None in
    let first = subst (λ (z : Node × Held). Did f (unlinked z.0 3 z.1.target c.args.link None) h) (λ k. (c.same_node.ensures k, c.same_held.ensures k)) c.in-Ok.ensures.did in
    let taken : c.in-Ok.taken ≡ gone.target = c.in-Ok.ensures.step.0 ∙ ap (λ (t : Held). t.target) c.same_held.ensures in
    let second = subst (λ (t : RefParts). Did h (retired t) i) taken c.retire.ensures.did in
    (e ∷ retired gone.target ∷ [], takes_out, did_then f h i (e ∷ []) (retired gone.target ∷ []) c.in-Ok.ensures.same_reference.1 (did_one f h e first) (did_one h i (retired gone.target) second))

pub returns-in-Err-clause-did : goal.returns-in-Err-clause-did
returns-in-Err-clause-did g c =
    let f = c.args.guard.now in let h = c.unlink.new.self in let other = c.in-Err.field-0.link in
    let e : Event = unlinked c.args.before.now 3 c.args.gone.now.target c.args.link (Some other) in
    (e ∷ [], is_refused other, did_one f h e (subst (λ (z : Node × Held). Did f (unlinked z.0 3 z.1.target c.args.link (Some other)) h) (λ k. (c.same_node.ensures k, c.same_held.ensures k)) c.in-Err.ensures.did))
