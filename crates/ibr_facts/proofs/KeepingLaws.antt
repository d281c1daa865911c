-- Interval-based reclamation keeps its facts.
use Rattle.std.proofs.Common.{ℕ, refl, arith}
use Rattle.record_memory.specs.declared.books.Setup.{Setup}
use Rattle.record_memory.specs.declared.books.Guard.{Guard}
use Rattle.record_memory.specs.declared.steps.Word.{Word}
use Rattle.record_memory.specs.declared.steps.Word.TheVariants.{Epoch, Announced}
use Rattle.record_rule.specs.Inputs.{SchemeInput}
use Rattle.record_rule.specs.Facts.{At, Moment}
use Rattle.record_rule.specs.Laws.{moment, with_guard, ValueIs, HasLoaded, CoverLaws}
use Rattle.record_rule.specs.Least.{holds_nothing}
use Rattle.guard_facts.specs.Announcing.{shows_epoch, GuardsFit}
use Rattle.guard_facts.proofs.Replaced.{holds_on}
use Rattle.ibr_facts.specs.Intervals.{IbrFits}
use Rattle.ibr_facts.specs.Keeping.{PLACES, is_scanned, ibr_loaded, ibr}
use Rattle.ibr_facts.proofs.Moving.{starts_so, hands_so, links_so, takes_so, exchanges_so}
use Rattle.ibr_facts.proofs.Guarding.{same_guards}
use Rattle.ibr_facts.proofs.Retiring.{puts_so}
use Rattle.ibr_facts.proofs.Reaching.{reaches_so, reached_so}
use Rattle.ibr_facts.proofs.EpochLoads.{reads_epoch, has_read}
use Rattle.ibr_facts.proofs.Scanning.{scans_word, has_scanned, clears_so, cleared_so}
use Rattle.ibr_facts.proofs.Stores.{stores_so, stored_so}
use Rattle.ibr_facts.proofs.Missing.{nobody_holds}
use Rattle.ibr_facts.proofs.Freeing.{frees_so}

-- a load of any control word
loads_word : (setup : Setup) (x : SchemeInput) (d updates n : ℕ) (g : Guard) (word : Word) → GuardsFit IbrFits setup x → At x.guards d g → ValueIs x word n → GuardsFit IbrFits setup (with_guard x d (ibr_loaded setup (moment x updates) d g word n))
loads_word setup x d updates n g Epoch h at is = reads_epoch setup x d n g h at is g.pending refl
loads_word setup x d updates n g (Announced k) h at is = scans_word setup x d k n g h at is
loads_word setup x d updates n g w h at is = same_guards setup x d g at h

has_loaded : (setup : Setup) (x : SchemeInput) (m : Moment) (d n : ℕ) (g : Guard) (word : Word) → IbrFits setup x d g → ValueIs x word n → HasLoaded x g (ibr_loaded setup m d g word n)
has_loaded setup x m d n g Epoch f is = has_read setup x d n m.taken_out g f is g.pending refl
has_loaded setup x m d n g (Announced k) f is = has_scanned x g k n
has_loaded setup x m d n g w f is = holds_on x g g refl refl refl record { taken_out = refl; updates = refl; step = refl }

-- a load of the epoch finds it no smaller than the caller's last reading
shown_so : (setup : Setup) (x : SchemeInput) (d n : ℕ) (g : Guard) (word : Word) → IbrFits setup x d g → ValueIs x word n → shows_epoch setup g word n
shown_so setup x d n g Epoch f is = (let le = f.top in omega arith, let le = f.limit in omega arith)
shown_so setup x d n g w f is = tt

pub ibr_laws : CoverLaws ibr
ibr_laws = record {
  enough = omega arith;
  many = refl;
  nothing = holds_nothing PLACES;
  calm = refl;
  unstarted = (refl, refl, refl);
  silent = refl;
  starts = starts_so;
  hands = hands_so;
  links = links_so;
  takes = takes_so;
  puts = λ setup x i d generation b n stamp g safe h at guard may. puts_so setup x i d generation b n stamp g h at guard may.0 may.1 may.2;
  reaches = λ setup x d updates g q t safe h at may found. reaches_so setup x d q.place g t h at may.0 found;
  reached = λ m g q t may. reached_so m g q t;
  looks = λ setup x d step updates g safe h at begins. let none : ⊥ = cc in absurd none;
  loads = λ setup x d updates n g word safe h at is. (loads_word setup x d updates n g word h.0 at is, h.1);
  loaded = λ setup x d updates n g word safe h at is. has_loaded setup x (moment x updates) d n g word (h.0 d g at) is;
  shown = λ setup x d n g word safe h at is. shown_so setup x d n g word (h.0 d g at) is;
  free_of = nobody_holds;
  frees = λ setup x d g cells safe h at freed. let y = frees_so setup x d g cells safe h at freed in (clears_so setup (record x { cells = cells }) d g y.0 at (is_scanned setup g), y.1);
  cleared = λ setup g. cleared_so g (is_scanned setup g);
  stores = λ setup x d k v step updates g safe h at low may. (stores_so setup x d k v step updates g safe h.0 at may, h.1);
  stored = stored_so;
  exchanges = λ setup x d old new g safe h at may is. exchanges_so setup x old new h may.1 may.2 is;
}
