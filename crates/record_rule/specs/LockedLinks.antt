-- Stores in link words by the callers that have them locked, and what their passes know afterwards. Each takes the lock off.
use Rattle.std.specs.Prelude.{◌≡◌, ℕ, List, true, Option, Some}
use Rattle.set_model.specs.declared.calls.Call.{Call}
use Rattle.record_memory.specs.declared.steps.StepKind.TheVariants.{Store}
use Rattle.record_memory.specs.declared.books.View.{View}
use Rattle.record_memory.specs.declared.books.LockedWord.{LockedWord}
use Rattle.row_words.specs.Refs.{RefParts, LinkParts}
use Rattle.row_words.specs.Packing.{IsLink}
use Rattle.record_rule.specs.Facts.{HasLock, ShapeFacts}
use Rattle.record_rule.specs.Locks.{locked_in, without}
use Rattle.record_rule.specs.Links.{Origin, index_of, link_word, LeftLink, PublishedBy, UnlinkedBy}

-- an exchange or a linking by a caller that needn't have the word locked expects a link without the flag, where the word may be locked
abbrev pub IsUnlocked : ShapeFacts → ℕ → LinkParts → Type 0
IsUnlocked s f l = s.lockable f ≡ true → ¬ HasLock l

-- the caller has the node's word locked, and knows that it holds this link
pub record HasLocked (v : View) (o : Origin) (f : ℕ) (l : LinkParts) : Type 0 where
  pub known : locked_in (index_of o) f v.own.locks ≡ Some (link_word v.setup o l)
  pub in_range : IsLink l

-- which words it has locked, once it took that lock off
abbrev pub locks_left : View → Origin → ℕ → List LockedWord
locks_left v o f = without (index_of o) f v.own.locks

-- Another link is stored
abbrev pub StoredLink : ShapeFacts → View → Origin → ℕ → LinkParts → LinkParts → Option Call → View → Type 0
StoredLink s v o f old new call w = LeftLink s v Store o f old new call (locks_left v o f) w

-- An own record is linked behind the node
abbrev pub PublishedLocked : ShapeFacts → View → Origin → ℕ → LinkParts → RefParts → Option Call → View → Type 0
PublishedLocked s v o f old own call w = PublishedBy s v Store o f old own call (locks_left v o f) w

-- A held record is taken out behind the node
abbrev pub UnlinkedLocked : ShapeFacts → View → Origin → ℕ → LinkParts → RefParts → LinkParts → View → Type 0
UnlinkedLocked s v o f old gone new w = UnlinkedBy s v Store o f old gone new (locks_left v o f) w

-- Such a store found the link that its caller knew, and leaves what is left of that one
pub record ToldLocked (v : View) (o : Origin) (f : ℕ) (Left : LinkParts → View → Type 0) (n : ℕ) (w : View) : Type 0 where
  pub old : LinkParts
  pub locked : HasLocked v o f old
  pub found : n ≡ link_word v.setup o old
  pub left : Left old w
