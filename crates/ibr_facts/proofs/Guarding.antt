-- One caller's guard changes.
use Rattle.std.proofs.Common.{ℕ, ◌+◌, ◌<◌, ◌≤◌, []}
use Rattle.record_memory.specs.declared.books.Setup.{Setup}
use Rattle.record_memory.specs.declared.books.Guard.{Guard}
use Rattle.row_words.specs.Refs.{refer}
use Rattle.record_rule.specs.Inputs.{unretired, limbo, SchemeInput}
use Rattle.record_rule.specs.Facts.{At}
use Rattle.record_rule.specs.Laws.{with_guard}
use Rattle.record_rule.proofs.Lists.{each_set}
use Rattle.guard_facts.specs.Announcing.{word_of, reading, GuardsFit}
use Rattle.guard_facts.proofs.Replaced.{guards_fit}
use Rattle.ibr_facts.specs.Intervals.{Has, EndsMiss, Lacks, IbrFits}
use Rattle.ibr_facts.proofs.Meeting.{nothing_missed}

-- all fit afterwards, where stamps by the new reading are as good as before, and the caller still lacks what it lacked in limbo
module _ (setup : Setup) (x : SchemeInput) (d : ℕ) (g new : Guard) (at : At x.guards d g) (h : GuardsFit IbrFits setup x)
    (stamps : (i generation b n e : ℕ) (k : Guard) → At x.cells i (unretired d generation b n) → n < new.reading_taken_out → At x.guards e k → Has k (refer (i + 1) generation) → word_of k 0 ≤ reading new 0)
    (lacks : (i c generation b n stamp r : ℕ) → At x.cells i (limbo c generation b n stamp r) → Lacks x g (refer (i + 1) generation) → Lacks x new (refer (i + 1) generation)) where
  others : (e : ℕ) (k : Guard) → At x.guards e k → IbrFits setup x e k → IbrFits setup (with_guard x d new) e k
  others e k here f = record {
    lower = f.lower;
    upper = f.upper;
    top = f.top;
    limit = f.limit;
    read = f.read;
    outside = f.outside;
    holds = f.holds;
    waits = f.waits;
    stamped = λ c i generation b n o cell there lt has. each_set (λ (a : ℕ) (z : Guard). At x.cells i (unretired a generation b n) → n < z.reading_taken_out → word_of k 0 ≤ reading z 0) x.guards d new
        (λ a z was at_a lt_z. f.stamped a i generation b n z at_a was lt_z has) (λ at_d lt_new. stamps i generation b n e k at_d lt_new here has) c o there cell lt;
    scan = λ i generation b n stamp r c o cell there misses. each_set (λ (a : ℕ) (z : Guard). EndsMiss k.loaded a b stamp → Lacks x z (refer (i + 1) generation)) x.guards d new
        (λ a z was. f.scan i generation b n stamp r a z cell was) (λ m. lacks i e generation b n stamp r cell (f.scan i generation b n stamp r d g cell at m)) c o there misses;
  }

  pub changes : (IbrFits setup (with_guard x d new) d g → IbrFits setup (with_guard x d new) d new) → GuardsFit IbrFits setup (with_guard x d new)
  changes mine = guards_fit IbrFits setup x d g new at h others mine

-- stamps by the same reading
pub stamped_on : (setup : Setup) (x : SchemeInput) (d : ℕ) (g : Guard) → At x.guards d g → GuardsFit IbrFits setup x
    → (i generation b n e : ℕ) (k : Guard) → At x.cells i (unretired d generation b n) → n < g.reading_taken_out → At x.guards e k → Has k (refer (i + 1) generation) → word_of k 0 ≤ reading g 0
stamped_on setup x d g at h i generation b n e k cell lt there has = (h e k there).stamped d i generation b n g cell at lt has

-- a guard that has loaded no ends
pub fits_unscanned : (setup : Setup) (x : SchemeInput) (e : ℕ) (k : Guard) → IbrFits setup x e k → IbrFits setup x e (record k { loaded = [] })
fits_unscanned setup x e k f = record {
  lower = f.lower;
  upper = f.upper;
  top = f.top;
  limit = f.limit;
  read = f.read;
  outside = f.outside;
  holds = f.holds;
  waits = f.waits;
  stamped = f.stamped;
  scan = λ i generation b n stamp r c o cell there. nothing_missed c b stamp;
}

-- a guard that is set to what it was
pub same_guards : (setup : Setup) (x : SchemeInput) (d : ℕ) (g : Guard) → At x.guards d g → GuardsFit IbrFits setup x → GuardsFit IbrFits setup (with_guard x d g)
same_guards setup x d g at h = changes setup x d g g at h (stamped_on setup x d g at h) (λ i c generation b n stamp r cell y. y) (λ f. f)
