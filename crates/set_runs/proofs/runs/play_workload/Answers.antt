use Rattle.std.proofs.Common.{◌≡◌, ◌+◌, All, length, map, Some, slice_get, sym, ap, ◌∙◌, subst}
use Rattle.std.proofs.lemmas.List.{length-map}
use Rattle.std.specs.Global.{Vec}
use Rattle.set_model.specs.declared.calls.Reply.{Reply}
use Rattle.record_memory.specs.declared.books.Book.{Book}
use Rattle.record_table.specs.Closing.{closed_books}
use Rattle.workload_text.specs.Limits.{phase_lines}
use Rattle.set_runs.specs.declared.players.Player.{Player}
use Rattle.set_runs.specs.Totals.{AreTotalsOf}
use Rattle.listed.specs.Vectors.{items_of}
use Rattle.set_runs.proofs.Whole.{map_twice, callers_stay, in_order, each_plays, whole_phases}
use Rattle.set_runs.proofs.runs.play_workload.Goals as goal

pub close-closed-requires-clause-has : goal.close-closed-requires-clause-has
close-closed-requires-clause-has g c =
    let s = g.S.ConcurrentSet in
    let set = c.args.set in
    let lists = c.args.workload.now.lists in
    let at = c.play_out-players.ensures.at in
    subst (All (s.has set)) (sym c.leave_all.ensures.callers)
    (callers_stay s.has set s.view (s.setup set) s.cover.first lists (s.steps (s.setup set)) c.args.budget
    (phase_lines lists + 1) at.0 c.args.seats.players.items c.play_out-players.result.items c.requires.start at.1)

pub close-closed-requires-clause-order : goal.close-closed-requires-clause-order
close-closed-requires-clause-order g c =
    let s = g.S.ConcurrentSet in
    let set = c.args.set in
    let lists = c.args.workload.now.lists in
    let at = c.play_out-players.ensures.at in
    ap (map (λ caller. (s.view caller).own.caller)) c.leave_all.ensures.callers
    ∙ in_order s.has set s.view (s.setup set) s.cover.first lists (s.steps (s.setup set)) c.args.budget
    (phase_lines lists + 1) at.0 c.args.seats.players.items c.play_out-players.result.items c.requires.start at.1

pub returns : goal.returns
returns g c =
    let s = g.S.ConcurrentSet in
    let set = c.args.set in
    let lists = c.args.workload.now.lists in
    let at = c.play_out-players.ensures.at in
    let left = c.play_out-players.result.items in
    let all : length left ≡ length lists = at.1.same_length ∙ c.requires.start.all in
    let replies_of : Player g.row.C.Denot → _ = λ p. p.replies.items in
    let book_of : Player g.row.C.Denot → Book = λ p. (s.view p.caller).own in
    let replies : items_of c.leave_all.new.replies.items ≡ map replies_of left = ap items_of c.leave_all.ensures.replies ∙ map_twice (λ (own : Vec Reply). own.items) (λ (p : Player g.row.C.Denot). p.replies) left in
    let own : g.row.C.Denot → Book = λ caller. (s.view caller).own in
    let books : closed_books c.close-closed.result ≡ map book_of left = c.close-closed.ensures.books ∙ ap (map own) c.leave_all.ensures.callers ∙ map_twice own (λ (p : Player g.row.C.Denot). p.caller) left in
    record {
      setup_is = c.close-closed.ensures.setup;
      fits = c.close-closed.ensures.fits;
      moves = c.close-closed.ensures.moves;
      totals = c.total_counts-totals.result;
      totals_are = subst (AreTotalsOf c.total_counts-totals.result) (ap (map book_of) c.deref.ensures.value ∙ sym books) c.total_counts-totals.ensures;
      counts_are = c.with_shelves-counts.ensures;
      all_replies = ap length replies ∙ length-map left replies_of ∙ all;
      all_books = ap length books ∙ length-map left book_of ∙ all;
      bounds = at.0;
      each = λ i own book told kept.
          each_plays s.has set s.view (s.setup set) s.cover.first lists (s.steps (s.setup set)) c.args.budget
          (phase_lines lists + 1) at.0 c.args.seats.players.items left c.requires.start at.1
          (whole_phases c.args.workload.now c.play_out-players.ensures.limits) i own book
          (subst (λ l. slice_get l i ≡ Some own) replies told) (subst (λ l. slice_get l i ≡ Some book) books kept);
    }
