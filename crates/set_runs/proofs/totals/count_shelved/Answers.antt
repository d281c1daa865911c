use Rattle.std.proofs.Common.{◌+◌, get_or, take, sum_by, ap, ◌∙◌, arith}
use Rattle.record_table.specs.Closing.{closed_words}
use Rattle.manager.specs.Counted.{shown}
use Rattle.set_runs.specs.Totals.{chain_in, shelf_words}
use Rattle.set_runs.proofs.Shelves.{shelf_more, shelves_all, chain_shown}
use Rattle.set_runs.proofs.totals.count_shelved.Goals as goal

pub loop-k-preserved : goal.loop-k-preserved
loop-k-preserved c =
    let closed = c.args.closed.now in
    let k = c.loop-k.k in
    let word = get_or (closed_words closed) (4 + k) 0 in
    c.sum_of-found.ensures (sum_by chain_in (take k (shelf_words closed))) (chain_in word) c.loop-k.invariant
    (c.chain_of.ensures ∙ ap (λ i. chain_in (get_or c.words-words.result.now i 0)) c.shelf.ensures ∙ ap (λ ws. chain_in (get_or ws (4 + k) 0)) c.words-words.ensures ∙ chain_shown word)
    ∙ ap shown (shelf_more closed k c.loop-k-test.true)

pub returns : goal.returns
returns c = c.loop-k.invariant ∙ ap shown (shelves_all c.args.closed.now c.loop-k.k (omega (arith, c.loop-k-test.false, c.loop-k.auto.k-end)))
