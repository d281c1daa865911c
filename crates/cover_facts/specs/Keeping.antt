-- Without reclamation what was taken out stays there, so what a caller once reached it may hold.
use Rattle.std.specs.Prelude.{◌≡◌, ℕ, ◌+◌, ◌-◌, ◌<◌, ◌≤◌, [], ◌∷◌, ◌++◌, ◌&&◌, length, List, Bool, true, false, Option, Some, None, refl}
use Rattle.std.proofs.Common.{arith, sym, ap, ◌∙◌, subst, ⊎_elim, inl, inr, set, length-set}
use Rattle.std.proofs.lemmas.List.{length-map}
use native.Mathlib.Decide.{ℕ_discrete}
use mathlib.Core.Option.{some, some-ne-none}
use lib.ListN.{get_elem?}
use Rattle.atomic_table.proofs.Lists.{at_set, set_here, set_else}
use Rattle.record_memory.specs.declared.books.Setup.{Setup}
use Rattle.record_memory.specs.declared.books.Guard.{Guard}
use Rattle.row_words.specs.Refs.{RefParts, refer}
use Rattle.set_model.specs.declared.names.ReclaimerName.TheVariants.{Nothing}
use Rattle.record_rule.specs.Inputs.{start_of, SchemeCell, unseen, reachable, unpublished, unretired, limbo, SchemeInput}
use Rattle.record_rule.specs.Facts.{At, Moment, Reach, CoverFacts}
use Rattle.record_rule.specs.Guards.{blank_guard, nothing_at, started_if, holding}
use Rattle.record_rule.specs.Laws.{IsThereAs, IsThere, StartsIf, HasReached, IsFreed, goes, stays, FreedCells, CoverLaws}
use Rattle.record_rule.specs.Least.{holds_nothing}
use Rattle.record_rule.proofs.Lists.{below_at, at_below, one_at, map_at}
use Rattle.record_rule.proofs.Seats.{at_end}

-- how many places a guard has
abbrev pub PLACES : ℕ
PLACES = 8

-- the k-th record that was taken out is still there
abbrev pub StayThere : Setup → SchemeInput → Type 0
StayThere setup x = (k : ℕ) (t : RefParts) → At x.taken_out k t → IsThere x t k

-- A birth and a stamp are 0, and a guard holds what its load of a link led to; it starts with its first one
abbrev pub none : CoverFacts
none = record {
  name = Nothing;
  covered = StayThere;
  first = blank_guard PLACES;
  places = PLACES;
  begins_loading = true;
  births = λ g b. b ≡ 0;
  stamps = λ g n stamp. stamp ≡ 0;
  may_reach = λ g q. q.place < PLACES;
  reached = λ m g q t. holding (started_if q.first m g q.step) q.place t;
  shows = λ setup g word n. Unit {0};
  loaded = λ setup m d g word n. g;
  may_free = λ setup g n. false;
  cleared = λ setup g. g;
  may_store = λ setup g k v. ⊥;
  stored = λ m g step k v. g;
  begins = λ g k v. false;
  may_exchange = λ setup g old new. ⊥;
}
