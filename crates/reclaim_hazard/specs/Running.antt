-- The steps of the functions of hazard pointers: a try to hold names its target between two loads of the link, leaving clears the names, and retiring scans them once the bag is full.
use Rattle.std.specs.Prelude.{◌≡◌, ◌≢◌, ℕ, ◌+◌, ◌-◌, ◌*◌, ◌<◌, ◌≤◌, List, [], ◌∷◌, ◌++◌, length, map, All, Bool, true, not, Option, Some, None, slice_index_or, slice_set}
use Rattle.record_memory.specs.declared.steps.Step.{Step}
use Rattle.record_memory.specs.declared.books.Setup.{Setup}
use Rattle.record_memory.specs.declared.books.Book.{Book}
use Rattle.record_memory.specs.declared.books.Share.{Share}
use Rattle.row_words.specs.Refs.{RefParts, LinkParts}
use Rattle.row_words.specs.declared.links.Freed.{Freed}
use Rattle.row_words.specs.Packing.{packed_ref, link_in}
use Rattle.record_rule.specs.Facts.{mark_bit, LimboRecord}
use Rattle.record_rule.specs.Kinds.{idle}
use Rattle.record_rule.specs.Standings.{is_limbo}
use Rattle.record_rule.specs.ChainRows.{IsRowStep, unchained}
use Rattle.record_rule.specs.Freeing.{freed_from, count_freed}
use Rattle.record_table.specs.declared.nodes.Node.{Node}
use Rattle.reclaim_api.specs.declared.holding.Holding.{Holding}
use Rattle.reclaim_api.specs.declared.holding.Holding.TheVariants.{Null, Held, Marked, Moved}
use Rattle.reclaim_api.specs.Frames.{had}
use Rattle.reclaim_api.specs.Bags.{count_spent}
use Rattle.reclaim_api.specs.LinkLoads.{link_load}
use Rattle.reclaim_api.specs.Putting.{IsHeadFor, bagged_share}
use Rattle.reclaim_api.specs.Scanning.{word_loads, Waits}
use Rattle.reclaim_api.specs.StepForms.{IsNoneFreed, word_store, stamp_store, chain_store}
use Rattle.hazard_facts.specs.Pointers.{scan_word, is_named}

-- entering makes no step
abbrev pub Enters : Setup → Book → Freed → Book → Type 0
Enters setup b f c = (c ≡ b) × IsNoneFreed f

-- nor does a birth
abbrev pub Bears : Setup → Book → ℕ → Book → Type 0
Bears setup b n c = (n ≡ 0) × (c ≡ b)

-- Leaving: the words of the three places are cleared, in order
pub record Leaves (setup : Setup) (b c : Book) : Type 0 where
  pub first : ℕ
  pub second : ℕ
  pub third : ℕ
  pub steps : c.steps ≡ b.steps ++ word_store b 0 0 first ∷ word_store b 1 0 second ∷ word_store b 2 0 third ∷ []

-- a link that has a mark or leads nowhere is answered at once
abbrev pub StopsWith : LinkParts → Holding → Type 0
StopsWith link Null = (mark_bit link ≡ 0) × (link.target ≡ None)
StopsWith link (Held h) = ⊥
StopsWith link (Marked m) = (mark_bit link ≡ 1) × (m ≡ link)
StopsWith link (Moved n) = ⊥

-- a try ends with the one load
pub record Stops (from : Node) (field : ℕ) (b : Book) (h : Holding) (c : Book) : Type 0 where
  pub found : ℕ
  pub steps : c.steps ≡ b.steps ++ link_load b from field found ∷ []
  pub answer : StopsWith (link_in found) h

-- what a second load that found `again` is answered with, where the first one found a link to the target: held where it leads there still, without a mark
abbrev pub ConfirmsWith : ℕ → RefParts → ℕ → Holding → Type 0
ConfirmsWith place target again Null = ⊥
ConfirmsWith place target again (Held h) = (mark_bit (link_in again) ≡ 0) × ((link_in again).target ≡ Some target) × (h.place ≡ place) × (h.target ≡ target)
ConfirmsWith place target again (Marked m) = (mark_bit (link_in again) ≡ 1) × (m ≡ link_in again)
ConfirmsWith place target again (Moved n) = (mark_bit (link_in again) ≡ 0) × ((link_in again).target ≢ Some target) × (n ≡ again)

-- the target is named in the own word of the place, and the link is loaded again
pub record Confirms (place : ℕ) (from : Node) (field : ℕ) (b : Book) (h : Holding) (c : Book) : Type 0 where
  pub found : ℕ
  pub target : RefParts
  pub clear : mark_bit (link_in found) ≡ 0
  pub leads : (link_in found).target ≡ Some target
  pub named : ℕ
  pub again : ℕ
  pub steps : c.steps ≡ b.steps ++ link_load b from field found ∷ word_store b place (packed_ref (Some target)) named ∷ link_load b from field again ∷ []
  pub answer : ConfirmsWith place target again h

-- A try to hold
pub data Reaches (setup : Setup) (place : ℕ) (from : Node) (field : ℕ) (b : Book) (h : Holding) (c : Book) : Type 0 where
  stops : Stops from field b h c → Reaches setup place from field b h c
  confirms : Confirms place from field b h c → Reaches setup place from field b h c

-- how many words a scan loads, by the number of callers
abbrev pub words_of : Setup → ℕ
words_of setup = 3 * setup.callers

-- the loads that found these values, from the word with this number in the order of a scan on, made while so many records were idle
abbrev pub scan_loads : ℕ → ℕ → List ℕ → List Step
scan_loads idle_then i words = word_loads scan_word idle_then i words

-- none of these words names the record
abbrev pub is_unnamed : List ℕ → LimboRecord → Bool
is_unnamed words n = not (is_named n.reference words)

-- All words are loaded once, in order, and exactly the records that none of them names leave limbo; the steps behind the loads are loads of the first three words of rows, and stores of chain words
pub record Scans (setup : Setup) (idle_then : ℕ) (mine : List (Option Share)) (made : List Step) (f : Freed) (c : Book) : Type 0 where
  pub words : List ℕ
  pub all : length words ≡ words_of setup
  pub moved : List Step
  pub loads : made ≡ scan_loads idle_then 0 words ++ moved
  pub rows : All (IsRowStep (idle c)) moved
  pub mine_is : map unchained c.mine ≡ map unchained (freed_from (is_unnamed words) 0 mine)
  pub freed : f.freed ≡ count_freed (is_unnamed words) 0 mine
  pub spent : f.spent ≡ count_spent (is_unnamed words) 0 mine
  -- no more stay than there are words
  pub stay : had is_limbo c ≤ words_of setup

-- exactly where twice as many records are in limbo as there are words, the record just retired among them
pub data ScansIfFull (setup : Setup) (b : Book) (mine : List (Option Share)) (made : List Step) (f : Freed) (c : Book) : Type 0 where
  waits : had is_limbo b + 1 < 2 * words_of setup → Waits mine made f c → ScansIfFull setup b mine made f c
  scans : 2 * words_of setup ≤ had is_limbo b + 1 → Scans setup (idle b) mine made f c → ScansIfFull setup b mine made f c

-- Retiring: the stamp is 0, the record comes in front of the bag, and the bag is scanned where it is full
pub record PutsAway (setup : Setup) (b : Book) (r : RefParts) (f : Freed) (c : Book) : Type 0 where
  -- what was known of it
  pub share : Share
  pub known : slice_index_or b.mine (r.index - 1) None ≡ Some share
  pub stamped : ℕ
  pub chained : ℕ
  pub next : Option RefParts
  pub before : IsHeadFor (λ x. true) b next
  pub made : List Step
  pub scan : ScansIfFull setup b (slice_set b.mine (r.index - 1) (Some (bagged_share share r 0 next))) made f c
  pub steps : c.steps ≡ b.steps ++ stamp_store b r 0 stamped ∷ chain_store b r next chained ∷ made
