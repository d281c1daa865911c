-- The steps of DEBRA's functions: what entering loads, frees, looks at, tries and announces, and what leaving and retiring store.
use Rattle.std.specs.Prelude.{◌≡◌, ℕ, ◌+◌, ◌*◌, ◌<◌, ◌≤◌, ◌==◌, nat_lt, if◌then◌else◌, List, [], ◌∷◌, ◌++◌, All, map, Bool, Option}
use Rattle.record_memory.specs.declared.steps.Step.{Step}
use Rattle.record_memory.specs.declared.books.Setup.{Setup}
use Rattle.record_memory.specs.declared.books.Book.{Book}
use Rattle.record_memory.specs.declared.books.Guard.{Guard}
use Rattle.row_words.specs.Refs.{RefParts}
use Rattle.row_words.specs.declared.links.Freed.{Freed}
use Rattle.record_rule.specs.Facts.{LimboRecord}
use Rattle.record_rule.specs.Kinds.{idle}
use Rattle.record_rule.specs.ChainRows.{IsRowStep, unchained}
use Rattle.record_rule.specs.Freeing.{freed_from}
use Rattle.reclaim_api.specs.Bags.{bag_count, count_spent}
use Rattle.reclaim_api.specs.Putting.{IsHeadFor}
use Rattle.reclaim_api.specs.StepForms.{IsNoneFreed, epoch_load, epoch_exchange, announcement_load, word_store, stamp_store, chain_store}
use Rattle.guard_facts.specs.Announcing.{LAST_EPOCH, reading}
use Rattle.debra_facts.specs.Rounds.{is_passed}
use Rattle.reclaim_debra.specs.LocalParts.{is_stamped}

-- the epoch that was loaded isn't that of the last reading
abbrev pub IsNew : Guard → ℕ → Type 0
IsNew g e = e ≡ reading g 0 → ⊥

-- it was retired before the second reading: these are the records of the third bag
abbrev pub is_old : Guard → LimboRecord → Bool
is_old g n = nat_lt n.stamp (reading g 1)

-- The same epoch was read: nothing shifts
pub record Stays (b : Book) (made : List Step) (f : Freed) (c : Book) : Type 0 where
  pub steps : made ≡ []
  pub readings : c.guard.readings ≡ b.guard.readings
  pub mine : c.mine ≡ b.mine
  pub freed : IsNoneFreed f

-- Another epoch was read: the last two readings come behind it, and exactly the records of the third bag leave limbo; the steps then made are loads of the first three words of rows, and stores of chain words
pub record Shifts (b : Book) (e : ℕ) (made : List Step) (f : Freed) (c : Book) : Type 0 where
  pub steps : All (IsRowStep (idle c)) made
  pub readings : c.guard.readings ≡ e ∷ reading b.guard 0 ∷ reading b.guard 1 ∷ []
  pub mine : map unchained c.mine ≡ map unchained (freed_from (is_old b.guard) 0 b.mine)
  pub freed : f.freed ≡ bag_count (is_old b.guard) b
  pub spent : f.spent ≡ count_spent (is_old b.guard) 0 b.mine

-- the bags shift exactly where another epoch was read
pub data ShiftsIfNew (b : Book) (e : ℕ) (made : List Step) (f : Freed) (c : Book) : Type 0 where
  same : e ≡ reading b.guard 0 → Stays b made f c → ShiftsIfNew b e made f c
  anew : IsNew b.guard e → Shifts b e made f c → ShiftsIfNew b e made f c

-- where a scan goes on from: the same place, or the first caller at a new reading
abbrev pub place_from : Guard → ℕ → ℕ
place_from g e = if e == reading g 0 then g.scan_place else 0

-- One look, at the announcement of the caller at the place, exactly where there is one; the place grows exactly where the word is even or announces this epoch
pub data Looks (setup : Setup) (c : Book) (e place : ℕ) : List Step → ℕ → Type 0 where
  no_look : setup.callers ≤ place → Looks setup c e place [] place
  one_look : place < setup.callers → (n : ℕ) → Looks setup c e place (announcement_load c place n ∷ []) (if is_passed e n then place + 1 else place)

-- the place thereby reached the number of callers, and the epoch may grow
abbrev pub IsReached : Setup → ℕ → ℕ → ℕ → Type 0
IsReached setup e place after = (place < setup.callers) × (after ≡ setup.callers) × (e < LAST_EPOCH)

-- the epoch is tried exactly there
pub data Tries (setup : Setup) (c : Book) (e place after : ℕ) : List Step → Type 0 where
  no_try : (IsReached setup e place after → ⊥) → Tries setup c e place after []
  one_try : IsReached setup e place after → (n : ℕ) → Tries setup c e place after (epoch_exchange c e n ∷ [])

-- Entering: the epoch is loaded, the bags shift, one look, one try, and the announcement
pub record Enters (setup : Setup) (b : Book) (f : Freed) (c : Book) : Type 0 where
  pub epoch : ℕ
  pub moved : List Step
  pub shifts : ShiftsIfNew b epoch moved f c
  pub looked : List Step
  pub looks : Looks setup c epoch (place_from b.guard epoch) looked c.guard.scan_place
  pub tried : List Step
  pub tries : Tries setup c epoch (place_from b.guard epoch) c.guard.scan_place tried
  pub announced : ℕ
  pub steps : c.steps ≡ b.steps ++ epoch_load b epoch ∷ moved ++ looked ++ tried ++ word_store c 0 (2 * epoch + 1) announced ∷ []

-- Leaving: the last reading is announced, quiet
pub record Leaves (setup : Setup) (b c : Book) : Type 0 where
  pub announced : ℕ
  pub steps : c.steps ≡ b.steps ++ word_store b 0 (2 * reading b.guard 0) announced ∷ []

-- a birth makes no step
abbrev pub Bears : Setup → Book → ℕ → Book → Type 0
Bears setup b n c = (n ≡ 0) × (c ≡ b)

-- Retiring: the last reading is the stamp, and the record comes in front of a bag of those with this stamp
pub record PutsAway (setup : Setup) (b : Book) (r : RefParts) (f : Freed) (c : Book) : Type 0 where
  pub none : IsNoneFreed f
  pub stamped : ℕ
  pub chained : ℕ
  pub next : Option RefParts
  pub before : IsHeadFor (is_stamped (reading b.guard 0)) b next
  pub steps : c.steps ≡ b.steps ++ stamp_store b r (reading b.guard 0) stamped ∷ chain_store b r next chained ∷ []
