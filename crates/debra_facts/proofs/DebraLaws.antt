-- DEBRA keeps the laws of a reclaimer.
use Rattle.std.proofs.Common.{ℕ, ◌-◌, refl, subst, arith, ⊎_elim, inr}
use Rattle.record_memory.specs.declared.steps.Word.{Word}
use Rattle.record_memory.specs.declared.steps.Word.TheVariants.{Epoch}
use Rattle.record_memory.specs.declared.books.Setup.{Setup}
use Rattle.record_memory.specs.declared.books.Guard.{Guard}
use Rattle.record_rule.specs.Inputs.{unseen, rooted, reachable, unpublished, limbo, SchemeInput}
use Rattle.record_rule.specs.Laws.{opening_scheme, moment, ValueIs, CoverLaws}
use Rattle.record_rule.specs.Least.{holds_nothing}
use Rattle.record_rule.proofs.Lists.{at_replicate, at_runs}
use Rattle.cover_facts.proofs.There.{linked_stays, handed_stays}
use Rattle.guard_facts.specs.Announcing.{shows_epoch, GuardsFit}
use Rattle.debra_facts.specs.Rounds.{PLACES}
use Rattle.debra_facts.specs.Debra.{DebraFits, debra}
use Rattle.debra_facts.proofs.Fits.{false_true, first_reading, stays_so}
use Rattle.debra_facts.proofs.Looks.{loads_word, loaded_word}
use Rattle.debra_facts.proofs.Stores.{stores_so, stored_so, exchanges_so}
use Rattle.debra_facts.proofs.Lives.{moves_so, takes_so, puts_so, reaches_so, reached_so}
use Rattle.debra_facts.proofs.Frees.{nobody_holds, frees_so}

-- at first each caller is quiet, and nothing is in limbo
starts_so : (setup : Setup) → GuardsFit DebraFits setup (opening_scheme setup debra.first)
starts_so setup d g at = subst (DebraFits setup (opening_scheme setup debra.first) d) (at_replicate setup.callers d debra.first g at).1 record {
  v = 1;
  w = 0;
  u = 0;
  readings = refl;
  rise = omega arith;
  rose = inr refl;
  read = omega arith;
  limit = omega arith;
  quiet = λ off. (refl, holds_nothing PLACES);
  active = λ on. false_true on;
  bags = λ i e b n stamp r there. ⊎_elim (λ p. let none : ⊥ = (let z = p.1 in cc) in absurd none) (λ p. let none : ⊥ = (let z = p.1 in cc) in absurd none) (at_runs setup.roots (setup.records - setup.roots) i rooted unseen (limbo d e b n stamp r) there);
  place = omega arith;
  scanned = λ e k lt. absurd (omega arith);
  late = λ on. false_true on;
  stands = λ on. false_true on;
}

-- a load of the epoch finds it no smaller than the caller's last reading
shown_so : (setup : Setup) (x : SchemeInput) (d n : ℕ) (g : Guard) (word : Word) → DebraFits setup x d g → ValueIs x word n → shows_epoch setup g word n
shown_so setup x d n g Epoch f is = (let one = first_reading setup x d g f in let le = f.read in omega arith, let le = f.limit in omega arith)
shown_so setup x d n g w f is = tt

pub debra_laws : CoverLaws debra
debra_laws = record {
  enough = omega arith;
  many = refl;
  nothing = holds_nothing PLACES;
  unstarted = (refl, refl, refl);
  calm = refl;
  silent = refl;
  starts = λ setup some. starts_so setup;
  hands = λ setup x i d generation b g safe h at guard may. moves_so setup x h i (unpublished d generation b) (λ c a q n s r z. cc) (handed_stays x i d generation b at);
  links = λ setup x i d generation b safe h at. moves_so setup x h i (reachable generation b) (λ c a q n s r z. cc) (linked_stays x i d generation b at);
  takes = λ setup x i d generation b safe h at. takes_so setup x h i d generation b at;
  puts = λ setup x i d generation b n stamp g safe h at guard may. puts_so setup x h i d generation b n stamp g at guard may;
  reaches = λ setup x d updates g q t safe h at may found. reaches_so setup x h d q.place g t at may.0;
  reached = λ m g q t may. reached_so m g q t;
  looks = λ setup x d step updates g safe h at begins. false_true begins;
  loads = loads_word;
  loaded = λ setup x d updates n g word safe h at is. loaded_word setup x (moment x updates) d n g word;
  shown = λ setup x d n g word safe h at is. shown_so setup x d n g word (h d g at) is;
  free_of = λ setup x i d generation b n stamp r g safe h at cell free. nobody_holds setup x h d g at safe i generation b n stamp r cell free;
  frees = λ setup x d g cells safe h at freed. stays_so setup (record x { cells = cells }) d g (frees_so setup x h d g at cells freed) at;
  cleared = λ setup g. record { holds = refl; waits = refl; words = refl; start = record { taken_out = refl; updates = refl; step = refl } };
  stores = λ setup x d k v step updates g safe h at low may. stores_so setup x d k v step updates g safe h at may;
  stored = λ setup m g step k v may. stored_so m g step k v;
  exchanges = exchanges_so;
}
