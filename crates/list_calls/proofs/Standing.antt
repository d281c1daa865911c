-- What a walker knows of a node and of its key, after calls that keep it.
use Rattle.std.proofs.Common.{◌≡◌, ◌≢◌, ◌⊎◌, inl, ℕ, ◌+◌, ◌%◌, ◌<◌, Bool, Option, Some, None, sym, refl, ap, ◌∙◌, subst, arith}
use Rattle.record_memory.specs.declared.books.Setup.{Setup}
use Rattle.record_memory.specs.declared.books.Note.{Note}
use Rattle.row_words.specs.Packing.{key_in}
use Rattle.record_rule.specs.Facts.{At as Stands}
use Rattle.record_rule.specs.Links.{note_in, LoadedKey}
use Rattle.record_rule.proofs.Lists.{get_at}
use Rattle.record_table.specs.declared.passes.Pass.{Pass}
use Rattle.record_table.specs.declared.nodes.Held.{Held}
use Rattle.record_table.specs.declared.nodes.Node.{Node}
use Rattle.record_table.specs.declared.nodes.Node.TheVariants.{Root, At}
use Rattle.record_table.specs.Handles.{view}
use Rattle.record_table.specs.Nodes.{origin}
use Rattle.list_facts.specs.Steps.{key_in_note, key_noted}
use Rattle.reclaim_api.specs.Holds.{KeepsSome, KeepsHeld, KeepsButLink, IsElsewhere}
use Rattle.manager.specs.Callers.{AnswersNone}
use Rattle.set_calls.specs.Knowing.{HasSeenKey}
use Rattle.set_calls.proofs.Seen.{seen_still}
use Rattle.list_calls.specs.Standing.{rank, StandsAt, StandsBefore, IsBeyond}

-- the key of a note is that of its second word
pub key_known : (note : Note) (n : ℕ) → Stands note.words 1 (Some n) → key_noted note ≡ key_in n
key_known note n at = ap key_in_note (get_at note.words 1 (Some n) None at)

-- the key that was loaded of a record is that by which it stands
pub rank_loaded : {S R : Type 0} (p q : Pass S R) (at : Held) (n : ℕ) → LoadedKey (view p) at.place at.target n (view q) → rank p (At at) ≡ key_in n + 1
rank_loaded p q at n told = ap (λ k. k + 1) (key_known (note_in (view p).own.notes at.place) n told.known)

-- what is held there is kept, with its key
abbrev pub Covers : (ℕ → Type 0) → (ℕ → ℕ → Type 0) → Node → Type 0
Covers places words (Root n) = Unit {0}
Covers places words (At at) = places at.place × words at.place 1

module _ {S R : Type 0} (places : ℕ → Type 0) (words : ℕ → ℕ → Type 0) (p q : Pass S R) (setup : (view q).setup ≡ (view p).setup) (keeps : KeepsSome places words p q) where
  same_key : (at : Held) → words at.place 1 → (n : ℕ) → Stands (note_in (view p).own.notes at.place).words 1 (Some n) → key_noted (note_in (view q).own.notes at.place) ≡ key_noted (note_in (view p).own.notes at.place)
  same_key at kept n noted = key_known (note_in (view q).own.notes at.place) n (keeps.notes at.place 1 n kept noted) ∙ sym (key_known (note_in (view p).own.notes at.place) n noted)

  -- it stands there still, at its rank
  pub stands_still : (root : ℕ) (node : Node) → Covers places words node → StandsAt p root node → StandsAt q root node × (rank q node ≡ rank p node)
  stands_still root (Root n) covers h = (
    record {
      there = subst (λ (k : Setup). n < k.roots) (sym setup) h.there;
      keyed = tt;
      home = h.home;
    },
    refl,
  )
  stands_still root (At at) covers h = let same = same_key at covers.1 h.keyed.0 h.keyed.1 in (
    record {
      there = keeps.holds at covers.0 h.there;
      keyed = (h.keyed.0, keeps.notes at.place 1 h.keyed.0 covers.1 h.keyed.1);
      home = ap (λ (k : Setup). key_noted (note_in (view q).own.notes at.place) % k.roots) setup ∙ ap (λ k. k % (view p).setup.roots) same ∙ h.home;
    },
    ap (λ k. k + 1) same,
  )

module _ {S R : Type 0} (p q : Pass S R) (setup : (view q).setup ≡ (view p).setup) (root : ℕ) where
  module _ (keeps : KeepsHeld p q) where
    covers_all : (node : Node) → Covers (λ place. Unit {0}) (λ place f. Unit {0}) node
    covers_all (Root n) = tt
    covers_all (At at) = (tt, tt)

    -- where all is kept
    pub stands_held : (node : Node) → StandsAt p root node → StandsAt q root node × (rank q node ≡ rank p node)
    stands_held node h = stands_still (λ place. Unit {0}) (λ place f. Unit {0}) p q setup keeps root node (covers_all node) h

    pub before_held : (key : ℕ) (node : Node) → StandsBefore p root key node → StandsBefore q root key node
    before_held key node h = let s = stands_held node h.stands in record { stands = s.0; below = let e = s.1 in let b = h.below in omega arith }

    pub seen_held : AnswersNone (view p) (view q) → (key : ℕ) (b : Bool) {position : ℕ} → HasSeenKey p key b position → HasSeenKey q key b position
    seen_held none key b h = seen_still p q setup none key b (λ place. Unit {0}) (λ place f. Unit {0}) keeps h

  -- and where a link was left anew
  pub stands_relinked : (o : Node) → KeepsButLink (origin o) p q → (node : Node) → StandsAt p root node → StandsAt q root node × (rank q node ≡ rank p node)
  stands_relinked o keeps node h = stands_still (λ place. Unit {0}) (λ place f. (f ≢ 0) ⊎ IsElsewhere (origin o) place) p q setup keeps root node (covers node) h
    where
      covers : (n : Node) → Covers (λ place. Unit {0}) (λ place f. (f ≢ 0) ⊎ IsElsewhere (origin o) place) n
      covers (Root n) = tt
      covers (At at) = (tt, inl (omega arith))

-- the next record has a greater key still, where all is kept
pub beyond_held : {S R : Type 0} (p q : Pass S R) → (view q).setup ≡ (view p).setup → (root : ℕ) → KeepsHeld p q → (key : ℕ) (next : Option Held) → IsBeyond p root key next → IsBeyond q root key next
beyond_held p q setup root keeps key None beyond = tt
beyond_held p q setup root keeps key (Some at) beyond = let s = stands_held p q setup root keeps (At at) beyond.0 in (s.0, (let e = s.1 in let b = beyond.1 in omega arith))
