use Rattle.std.proofs.Common.{◌≡◌, ◌<◌, ◌^◌, ◌∷◌, [], All, length, length-append, sum_by, sym, ap, ◌∙◌, subst, arith}
use Rattle.std.proofs.Math.Seq.{get_or-append_seam}
use Rattle.std.proofs.lemmas.List.{get_or_append_left}
use Rattle.std.proofs.lemmas.List.Sums.{sum_by_push}
use Rattle.record_memory.specs.declared.books.Book.{Book}
use Rattle.record_rule.specs.Counts.{drawn_by, reused_by, retired_by, freed_by}
use Rattle.record_rule.specs.Standings.{is_limbo, is_free, is_spare, is_spent}
use Rattle.reclaim_api.specs.Frames.{had}
use Rattle.manager.specs.Counted.{shown}
use Rattle.manager.proofs.ChainCounts.{shown_below}
use Rattle.set_runs.proofs.totals.with_counts.Goals as goal

-- a count that is exact is shown as it is
exactly : (n m : _) → n < 2 ^ 64 → n ≡ m → n ≡ shown m
exactly n m small e = e ∙ sym (shown_below m (subst (λ k. k < 2 ^ 64) e small))

pub returns : goal.returns
returns c = λ books book t o.
    let more : (f : Book → _) → _ = λ f. ap shown (sym (sum_by_push f books book)) in
    record {
      drawn = c.sum_of.ensures (sum_by drawn_by books) (drawn_by book) t.drawn o.drawn ∙ more drawn_by;
      reused = c.sum_of-2.ensures (sum_by reused_by books) (reused_by book) t.reused o.reused ∙ more reused_by;
      retired = c.sum_of-3.ensures (sum_by retired_by books) (retired_by book) t.retired o.retired ∙ more retired_by;
      freed = c.sum_of-4.ensures (sum_by freed_by books) (freed_by book) t.freed o.freed ∙ more freed_by;
      limbo = λ small.
          let its : book.moves.retired < 2 ^ 64 = subst (λ (b : Book). b.moves.retired < 2 ^ 64) (get_or-append_seam books book [] book) (small (length books) book (omega (arith, length-append books (book ∷ [])))) in
          let theirs : All (λ (b : Book). b.moves.retired < 2 ^ 64) books = λ k d there. subst (λ (b : Book). b.moves.retired < 2 ^ 64) (get_or_append_left books (book ∷ []) d k there) (small k d (omega (arith, there, length-append books (book ∷ [])))) in
          let own : c.args.own.limbo < 2 ^ 64 = omega arith in
          c.sum_of-5.ensures (sum_by (had is_limbo) books) (had is_limbo book) (t.limbo theirs) (exactly c.args.own.limbo (had is_limbo book) own (o.limbo its)) ∙ more (had is_limbo);
      free = c.sum_of-6.ensures (sum_by (had is_free) books) (had is_free book) t.free (exactly c.args.own.free (had is_free book) (omega arith) o.free) ∙ more (had is_free);
      spare = c.sum_of-7.ensures (sum_by (had is_spare) books) (had is_spare book) t.spare (exactly c.args.own.spare (had is_spare book) (omega arith) o.spare) ∙ more (had is_spare);
      spent = c.sum_of-8.ensures (sum_by (had is_spent) books) (had is_spent book) t.spent o.spent ∙ more (had is_spent);
    }
