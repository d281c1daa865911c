use Rattle.std.proofs.Common.{◌+◌, ◌*◌, length, sym, ap, ◌∙◌, subst, IfOk}
use Rattle.set_model.specs.declared.names.SetName.TheVariants.{Michael}
use Rattle.set_model.specs.declared.names.AllocatorName.TheVariants.{Bump}
use denote.Param.{param}
use denote.Exit.{unseen}
use denote.Param.Send.{Quiet-if}
use mir.Syntax.{of_param}
use Rattle.hash_runs.proofs.Sending.{caller_sends}
use Rattle.record_table.specs.Made.{setup_with}
use Rattle.list_facts.specs.Michael.{michael}
use Rattle.michael_hash.specs.Pieces.{MakesPiece}
use Rattle.listed.specs.Vectors.{items_of}
use Rattle.set_runs.specs.Runs.{IsSetRun}
use Rattle.hash_runs.specs.HashRuns.{manner_of}
use Rattle.hash_runs.proofs.hash.play_hash.Goals as goal

pub play_set-requires-send-C : goal.play_set-requires-send-C
play_set-requires-send-C g c κs within =
    let sent = caller_sends (param 0 g.row.R) (param 1 g.row.L) c.type_bounds.send-L in
    record { owned = sent.owned; leaving = λ k. Quiet-if (k (of_param 2)) _ unseen (λ x w. w) (λ x w. tt) }

pub returns : goal.returns
returns g c =
    let lists = c.args.workload.now.lists in
    let r = g.R.Scheme in
    let name = g.R.Cover.NAME in
    let m = manner_of r.enters r.leaves r.bears r.reaches r.puts_away in
    subst (λ k. IfOk c.play_set.result (λ played. IsSetRun michael g.R.Cover.facts (MakesPiece m) (2 * c.args.records + 64) k lists (items_of played.replies.items) played.counts played.closed))
    (c.in-Ok.ensures.table
    ∙ ap (λ n. setup_with c.args.records c.args.buckets n c.in-Some.first Michael name Bump) c.callers.ensures.count
    ∙ ap (λ n. setup_with c.args.records c.args.buckets (length lists) n Michael name Bump) c.in-Some.ensures.0
    ∙ ap (λ n. setup_with c.args.records c.args.buckets (length lists) 1 Michael n Bump) (sym g.R.Cover.named)) c.play_set.ensures
