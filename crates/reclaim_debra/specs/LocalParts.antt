-- What a caller keeps for itself under DEBRA, as its pass knows it: a bag for each of the last three epochs that it read.
use Rattle.std.specs.Prelude.{◌≡◌, ℕ, ◌<◌, ◌≤◌, ◌⊎◌, ◌&&◌, ◌==◌, [], ◌∷◌, length, All, Bool, true, false, not}
use Rattle.record_memory.specs.declared.books.View.{View}
use Rattle.record_memory.specs.declared.books.Standing.TheVariants.{Limbo}
use Rattle.row_words.specs.Refs.{RefParts}
use Rattle.row_words.specs.declared.links.Chain.{Chain}
use Rattle.record_rule.specs.Facts.{LimboRecord}
use Rattle.reclaim_api.specs.Bags.{limbo_read, bag_count}
use Rattle.reclaim_api.specs.Chained.{IsChainOf, refs_in}
use Rattle.guard_facts.specs.Announcing.{LAST_EPOCH}
use Rattle.reclaim_debra.specs.declared.bags.Bags.{Bags}

-- the record was retired with this stamp
abbrev pub is_stamped : ℕ → LimboRecord → Bool
is_stamped n x = x.stamp == n

-- or with none of these
abbrev pub is_other : ℕ → ℕ → ℕ → LimboRecord → Bool
is_other a b c x = not (x.stamp == a) && (not (x.stamp == b) && not (x.stamp == c))

-- the bag is a list of limbo records with this stamp, and has all of the caller's
pub record IsBag (v : View) (n : ℕ) (bag : Chain) : Type 0 where
  pub chain : IsChainOf Limbo v bag
  pub stamped : All (λ (r : RefParts). is_stamped n (limbo_read v r) ≡ true) (refs_in v bag)
  pub whole : bag.count ≡ bag_count (is_stamped n) v.own

-- the bags are those of the last three readings, and the caller has nothing else in limbo
pub record KeepsBags (l : Bags) (v : View) : Type 0 where
  -- the reading before the last one, and the one before that
  pub second : ℕ
  pub third : ℕ
  pub readings : v.own.guard.readings ≡ l.reading ∷ second ∷ third ∷ []
  pub rise : second < l.reading
  -- at first there is no third one
  pub rose : (third < second) ⊎ ((third ≡ 0) × (l.third.count ≡ 0))
  pub limit : l.reading ≤ LAST_EPOCH
  pub place : v.own.guard.scan_place ≡ l.place
  pub current_bag : IsBag v l.reading l.current
  pub second_bag : IsBag v second l.second
  pub third_bag : IsBag v third l.third
  pub no_other : bag_count (is_other l.reading second third) v.own ≡ 0

-- an active caller's guard started later than it began
pub record IsActive (since v : View) : Type 0 where
  pub active : v.own.guard.active ≡ true
  pub started : length since.own.steps < v.own.guard.start_step
  -- behind all that it knew to come before
  pub front : length since.front ≤ v.own.guard.start_updates
  -- its announcement is one of the table's
  pub counted : v.own.caller < v.setup.callers

-- it is active inside an operation, and quiet outside
abbrev pub IsGuarded : Bool → View → View → Type 0
IsGuarded true since v = IsActive since v
IsGuarded false since v = v.own.guard.active ≡ false

-- the local part is this caller's
pub record IsLocal (l : Bags) (inside : Bool) (since v : View) : Type 0 where
  pub bags : KeepsBags l v
  pub guarded : IsGuarded inside since v
