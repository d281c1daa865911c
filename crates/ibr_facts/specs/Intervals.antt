-- Which records an announced interval of epochs meets, and what is known of a guard whose words are its ends.
use Rattle.std.specs.Prelude.{◌≡◌, ℕ, ◌+◌, ◌-◌, ◌*◌, ◌<◌, ◌≤◌, ◌⊎◌, List, length, Some, None}
use Rattle.record_memory.specs.declared.books.Setup.{Setup}
use Rattle.record_memory.specs.declared.books.Guard.{Guard}
use Rattle.row_words.specs.Refs.{RefParts, refer}
use Rattle.record_rule.specs.Inputs.{SchemeCell, unseen, rooted, reachable, unpublished, unretired, limbo, SchemeInput}
use Rattle.record_rule.specs.Facts.{At}
use Rattle.record_rule.specs.Laws.{IsThereAs}
use Rattle.guard_facts.specs.Announcing.{LAST_EPOCH, word_of, reading, HoldsNothing}

-- Word 0 of a guard is the lower end of its interval, 0 where it has none, and word 1 the upper end

-- the life of a record that may be held, from its birth to its stamp, meets the interval from l to u; where it has no stamp yet, it goes on
abbrev pub MeetsAs : SchemeCell → ℕ → ℕ → Type 0
MeetsAs unseen l u = ⊥
MeetsAs rooted l u = ⊥
MeetsAs (reachable e b) l u = b ≤ u
MeetsAs (unpublished d e b) l u = ⊥
MeetsAs (unretired d e b n) l u = b ≤ u
MeetsAs (limbo d e b n s r) l u = (b ≤ u) × (l ≤ s)

-- it is there at its generation, behind the guard's start, and meets the guard's interval
abbrev pub MeetsGuard : SchemeInput → Guard → RefParts → Type 0
MeetsGuard x g t = (cell : SchemeCell) × (0 < t.index) × At x.cells (t.index - 1) cell × IsThereAs cell t.generation g.start_taken_out × MeetsAs cell (word_of g 0) (word_of g 1)

-- the guard has loaded a link to the record and not confirmed it yet
abbrev pub WaitsFor : Guard → RefParts → Type 0
WaitsFor g t = (p : ℕ) × (g.pending ≡ Some (p, t))

abbrev pub HoldsSomewhere : Guard → RefParts → Type 0
HoldsSomewhere g t = (p : ℕ) × At g.holds p (Some t)

-- it holds it or waits for it
abbrev pub Has : Guard → RefParts → Type 0
Has g t = HoldsSomewhere g t ⊎ WaitsFor g t

-- the loaded ends of caller c, of which the upper one may still be missing, don't meet a record with this birth and stamp
abbrev pub EndsMiss : List ℕ → ℕ → ℕ → ℕ → Type 0
EndsMiss loaded c b stamp = ((l : ℕ) × At loaded (2 * c) l × ((l ≡ 0) ⊎ (stamp < l))) ⊎ ((u : ℕ) × At loaded (2 * c + 1) u × (u < b))

-- the birth of a record that was handed out is at most this epoch
abbrev pub IsBornBy : SchemeCell → ℕ → Type 0
IsBornBy unseen epoch = Unit {0}
IsBornBy rooted epoch = Unit {0}
IsBornBy (reachable e b) epoch = b ≤ epoch
IsBornBy (unpublished d e b) epoch = b ≤ epoch
IsBornBy (unretired d e b n) epoch = b ≤ epoch
IsBornBy (limbo d e b n s r) epoch = b ≤ epoch

-- the caller doesn't hold the record, and where it waits for it, the epoch is above its upper end, so that no load confirms it
abbrev pub Lacks : SchemeInput → Guard → RefParts → Type 0
Lacks x g t = (HoldsSomewhere g t → ⊥) × (WaitsFor g t → word_of g 1 < x.epoch)

pub record IbrFits (setup : Setup) (x : SchemeInput) (d : ℕ) (g : Guard) : Type 0 where
  -- both ends and the last reading are at most the epoch
  pub lower : word_of g 0 ≤ x.epoch
  pub upper : word_of g 1 ≤ reading g 0
  pub top : reading g 0 ≤ x.epoch
  pub limit : x.epoch ≤ LAST_EPOCH
  -- the reading isn't of the future
  pub read : g.reading_taken_out ≤ length x.taken_out
  -- without an interval nothing is held and nothing waits
  pub outside : word_of g 0 ≡ 0 → HoldsNothing g × (g.pending ≡ None)
  -- what is held is there, and met
  pub holds : (t : RefParts) → HoldsSomewhere g t → MeetsGuard x g t
  -- of what waits: the epoch is above the upper end, or it is there and met; its place holds nothing
  pub waits : (p : ℕ) (t : RefParts) → g.pending ≡ Some (p, t) → ((u : RefParts) → ¬ At g.holds p (Some u)) × ((word_of g 1 < x.epoch) ⊎ MeetsGuard x g t)
  -- of a record that was taken out before its owner's last reading: who has it has a lower end of at most that reading
  pub stamped : (c i generation b n : ℕ) (k : Guard) → At x.cells i (unretired c generation b n) → At x.guards c k → n < k.reading_taken_out → Has g (refer (i + 1) generation) → word_of g 0 ≤ reading k 0
  -- an own limbo record that a caller's loaded ends miss, that caller lacks
  pub scan : (i generation b n stamp r c : ℕ) (k : Guard) → At x.cells i (limbo d generation b n stamp r) → At x.guards c k → EndsMiss g.loaded c b stamp → Lacks x k (refer (i + 1) generation)
