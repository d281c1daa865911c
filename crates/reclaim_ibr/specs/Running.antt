-- The steps of 2GEIBR's functions but for retiring: entering announces the epoch, a birth reads it and tries it now and then, and a try to hold compares it with the upper end.
use Rattle.std.specs.Prelude.{◌≡◌, ◌≢◌, ℕ, ◌+◌, ◌%◌, ◌<◌, ◌≤◌, List, [], ◌∷◌, ◌++◌, Some, None}
use Rattle.record_memory.specs.declared.steps.Step.{Step}
use Rattle.record_memory.specs.declared.books.Setup.{Setup}
use Rattle.record_memory.specs.declared.books.Book.{Book}
use Rattle.row_words.specs.Refs.{RefParts, LinkParts}
use Rattle.row_words.specs.declared.links.Freed.{Freed}
use Rattle.row_words.specs.Packing.{link_in}
use Rattle.record_rule.specs.Facts.{mark_bit}
use Rattle.record_table.specs.declared.nodes.Node.{Node}
use Rattle.guard_facts.specs.Announcing.{LAST_EPOCH, word_of, reading}
use Rattle.reclaim_api.specs.declared.holding.Holding.{Holding}
use Rattle.reclaim_api.specs.declared.holding.Holding.TheVariants.{Null, Held, Marked, Moved}
use Rattle.reclaim_api.specs.LinkLoads.{link_load}
use Rattle.reclaim_api.specs.StepForms.{IsNoneFreed, epoch_load, epoch_exchange, word_store}
use Rattle.reclaim_ibr.specs.LocalParts.{EACH}

-- an epoch that was loaded is no less than the caller's last reading, which it is then
pub record IsRead (b : Book) (e : ℕ) (c : Book) : Type 0 where
  pub rise : reading b.guard 0 ≤ e
  pub limit : e ≤ LAST_EPOCH
  pub read : reading c.guard 0 ≡ e

-- Entering: the epoch is loaded, and stored as the upper end and then as the lower end
pub record Enters (setup : Setup) (b : Book) (f : Freed) (c : Book) : Type 0 where
  pub none : IsNoneFreed f
  pub epoch : ℕ
  pub read : IsRead b epoch c
  pub ends : (word_of c.guard 0 ≡ epoch) × (word_of c.guard 1 ≡ epoch)
  pub upper : ℕ
  pub lower : ℕ
  pub steps : c.steps ≡ b.steps ++ epoch_load b epoch ∷ word_store b 1 epoch upper ∷ word_store b 0 epoch lower ∷ []

-- Leaving: there is no lower end any more
pub record Leaves (setup : Setup) (b c : Book) : Type 0 where
  pub lower : ℕ
  pub steps : c.steps ≡ b.steps ++ word_store b 0 0 lower ∷ []
  pub cleared : word_of c.guard 0 ≡ 0

-- the epoch that was loaded is tried once, unless it is the last one
pub data Tries (b : Book) (e : ℕ) : List Step → Type 0 where
  one_try : e < LAST_EPOCH → (n : ℕ) → Tries b e (epoch_exchange b e n ∷ [])
  no_try : LAST_EPOCH ≤ e → Tries b e []

-- the epoch is loaded and tried
pub record Advances (b : Book) (made : List Step) : Type 0 where
  pub epoch : ℕ
  pub rise : reading b.guard 0 ≤ epoch
  pub limit : epoch ≤ LAST_EPOCH
  pub tried : List Step
  pub tries : Tries b epoch tried
  pub steps : made ≡ epoch_load b epoch ∷ tried

-- exactly at each sixteenth birth
pub data AdvancesAtTimes (b : Book) (made : List Step) : Type 0 where
  at_time : (b.moves.births + 1) % EACH ≡ 0 → Advances b made → AdvancesAtTimes b made
  between : (b.moves.births + 1) % EACH ≢ 0 → made ≡ [] → AdvancesAtTimes b made

-- A birth is what the last load of the epoch found
pub record Bears (setup : Setup) (b : Book) (n : ℕ) (c : Book) : Type 0 where
  pub read : IsRead b n c
  pub made : List Step
  pub advances : AdvancesAtTimes b made
  pub steps : c.steps ≡ b.steps ++ made ++ epoch_load b n ∷ []

-- a link that has a mark or leads nowhere is answered at once
abbrev pub StopsWith : LinkParts → Holding → Type 0
StopsWith link Null = (mark_bit link ≡ 0) × (link.target ≡ None)
StopsWith link (Held h) = ⊥
StopsWith link (Marked m) = (mark_bit link ≡ 1) × (m ≡ link)
StopsWith link (Moved n) = ⊥

-- a try ends with the one load
pub record Stops (from : Node) (field : ℕ) (b : Book) (h : Holding) (c : Book) : Type 0 where
  pub found : ℕ
  pub steps : c.steps ≡ b.steps ++ link_load b from field found ∷ []
  pub answer : StopsWith (link_in found) h

-- a link without a mark leads to this record
pub record LeadsTo (found : ℕ) (target : RefParts) : Type 0 where
  pub clear : mark_bit (link_in found) ≡ 0
  pub leads : (link_in found).target ≡ Some target

-- the epoch is still the upper end: the target is held
pub record Confirms (place : ℕ) (from : Node) (field : ℕ) (b : Book) (h : Holding) (c : Book) : Type 0 where
  pub found : ℕ
  pub target : RefParts
  pub link : LeadsTo found target
  pub epoch : ℕ
  pub read : IsRead b epoch c
  pub same : epoch ≡ word_of b.guard 1
  pub steps : c.steps ≡ b.steps ++ link_load b from field found ∷ epoch_load b epoch ∷ []
  pub answer : h ≡ Held (record { place = place; target = target })

-- it is another one, and is stored as the upper end
pub record Raises (from : Node) (field : ℕ) (b : Book) (h : Holding) (c : Book) : Type 0 where
  pub found : ℕ
  pub target : RefParts
  pub link : LeadsTo found target
  pub epoch : ℕ
  pub read : IsRead b epoch c
  pub another : epoch ≢ word_of b.guard 1
  pub raised : word_of c.guard 1 ≡ epoch
  pub upper : ℕ
  pub steps : c.steps ≡ b.steps ++ link_load b from field found ∷ epoch_load b epoch ∷ word_store b 1 epoch upper ∷ []
  pub answer : h ≡ Moved epoch

-- A try to hold
pub data Reaches (setup : Setup) (place : ℕ) (from : Node) (field : ℕ) (b : Book) (h : Holding) (c : Book) : Type 0 where
  stops : Stops from field b h c → Reaches setup place from field b h c
  confirms : Confirms place from field b h c → Reaches setup place from field b h c
  raises : Raises from field b h c → Reaches setup place from field b h c
