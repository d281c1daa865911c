-- The steps of retiring under 2GEIBR: the epoch is loaded and stamps the record, which comes in front of the bag, and each sixteenth retirement scans all intervals.
use Rattle.std.specs.Prelude.{◌≡◌, ◌≢◌, ℕ, ◌+◌, ◌-◌, ◌*◌, ◌/◌, ◌%◌, ◌≤◌, List, ◌∷◌, ◌++◌, length, map, All, true, Option, Some, None, slice_index_or, slice_set}
use Rattle.record_memory.specs.declared.steps.Step.{Step}
use Rattle.record_memory.specs.declared.books.Setup.{Setup}
use Rattle.record_memory.specs.declared.books.Book.{Book}
use Rattle.record_memory.specs.declared.books.Share.{Share}
use Rattle.row_words.specs.Refs.{RefParts}
use Rattle.row_words.specs.declared.links.Freed.{Freed}
use Rattle.record_rule.specs.Kinds.{idle}
use Rattle.record_rule.specs.ChainRows.{IsRowStep, unchained}
use Rattle.record_rule.specs.Freeing.{freed_from, count_freed}
use Rattle.guard_facts.specs.Announcing.{LAST_EPOCH, reading}
use Rattle.reclaim_api.specs.Bags.{count_spent}
use Rattle.reclaim_api.specs.Putting.{IsHeadFor, bagged_share}
use Rattle.reclaim_api.specs.Scanning.{word_loads, Waits}
use Rattle.reclaim_api.specs.StepForms.{epoch_load, stamp_store, chain_store}
use Rattle.reclaim_ibr.specs.LocalParts.{EACH}
use Rattle.reclaim_ibr.specs.Meeting.{is_unmet}

-- how many ends a scan loads, by the number of callers
abbrev pub ends_of : Setup → ℕ
ends_of setup = 2 * setup.callers

-- the word with this number in the order of a scan: each caller's lower end and then its upper end
abbrev pub scan_word : ℕ → ℕ
scan_word i = 4 * (i / 2) + i % 2

-- All ends are loaded once, in order, and exactly the records that no interval meets leave limbo; the steps behind the loads are on the first words of rows
pub record Scans (setup : Setup) (idle_then : ℕ) (mine : List (Option Share)) (made : List Step) (f : Freed) (c : Book) : Type 0 where
  pub ends : List ℕ
  pub all : length ends ≡ ends_of setup
  pub moved : List Step
  pub loads : made ≡ word_loads scan_word idle_then 0 ends ++ moved
  pub rows : All (IsRowStep (idle c)) moved
  pub mine_is : map unchained c.mine ≡ map unchained (freed_from (is_unmet ends) 0 mine)
  pub freed : f.freed ≡ count_freed (is_unmet ends) 0 mine
  pub spent : f.spent ≡ count_spent (is_unmet ends) 0 mine

-- a scan comes exactly with each sixteenth record that the caller retires
pub data ScansIfDue (setup : Setup) (b : Book) (mine : List (Option Share)) (made : List Step) (f : Freed) (c : Book) : Type 0 where
  waits : (b.moves.retired + 1) % EACH ≢ 0 → Waits mine made f c → ScansIfDue setup b mine made f c
  scans : (b.moves.retired + 1) % EACH ≡ 0 → Scans setup (idle b) mine made f c → ScansIfDue setup b mine made f c

-- Retiring: the epoch is the stamp, the record comes in front of the bag, and the bag is scanned where that is due
pub record PutsAway (setup : Setup) (b : Book) (r : RefParts) (f : Freed) (c : Book) : Type 0 where
  pub epoch : ℕ
  -- it is no less than the caller's last reading, which it is then
  pub rise : reading b.guard 0 ≤ epoch
  pub limit : epoch ≤ LAST_EPOCH
  pub read : reading c.guard 0 ≡ epoch
  -- what was known of the record
  pub share : Share
  pub known : slice_index_or b.mine (r.index - 1) None ≡ Some share
  pub stamped : ℕ
  pub chained : ℕ
  pub next : Option RefParts
  pub before : IsHeadFor (λ x. true) b next
  pub made : List Step
  pub scan : ScansIfDue setup b (slice_set b.mine (r.index - 1) (Some (bagged_share share r epoch next))) made f c
  pub steps : c.steps ≡ b.steps ++ epoch_load b epoch ∷ stamp_store b r epoch stamped ∷ chain_store b r next chained ∷ made
