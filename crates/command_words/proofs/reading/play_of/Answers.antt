use Rattle.std.proofs.lemmas.Bool.{false≢true}
use Rattle.command_words.specs.Words.{texts_of}
use Rattle.command_words.proofs.Chosen.{refused_by_roots}
use Rattle.command_words.proofs.reading.play_of.Goals as goal

pub returns-in_err-allocator : goal.returns-in_err-allocator
returns-in_err-allocator c = rw c.from_residual-in_err-allocator.ensures (λ chosen play. c.in_err-allocator.ensures chosen.allocator play.allocator)

pub returns-in_err-buckets : goal.returns-in_err-buckets
returns-in_err-buckets c =
    rw c.from_residual-in_err-buckets.ensures (λ chosen play. c.in_err-buckets.ensures chosen.buckets play.some_bucket play.few_buckets play.buckets)

pub returns-then-not-roots_fit : goal.returns-then-not-roots_fit
returns-then-not-roots_fit c =
    refused_by_roots (texts_of c.args.words.now) c.requires c.in_ok-set.set c.in_ok-buckets.buckets c.in_ok-records.records c.in_ok-set.ensures c.in_ok-buckets.ensures.0
    c.in_ok-buckets.ensures.2 c.in_ok-records.ensures (λ fit. false≢true (c.if-not-roots_fit.ensures.1 fit))
