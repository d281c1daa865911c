-- What each call does, event by event: tries, each a look at the root of its key and what comes of that. A call that changes nothing is placed behind just so many updates as its last look says.
use Rattle.std.specs.Prelude.{◌≢◌, ℕ, ◌+◌, ◌<◌, List, [], ◌∷◌, ◌++◌, Bool, true, false, Option, Some, None}
use Rattle.set_model.specs.declared.calls.Call.TheVariants.{Insert, Remove, Search}
use Rattle.row_words.specs.Refs.{RefParts, LinkParts}
use Rattle.row_words.specs.Packing.{packed_ref}
use Rattle.record_rule.specs.Facts.{HasMark}
use Rattle.record_table.specs.declared.nodes.Held.{Held}
use Rattle.record_table.specs.declared.nodes.Node.TheVariants.{Root, At}
use Rattle.reclaim_api.specs.declared.holding.Holding.TheVariants.{Null, Held as Holds, Marked, Moved}
use Rattle.record_pieces.specs.Events.{Event, hopped, looked, exchanged, published, unlinked, retired, took, refused, stored_own, gave_back, placed}
use Rattle.one_key_facts.specs.OneKey.{empty, empty_marked}
use Rattle.one_key_set.specs.declared.answers.Added.{Added}
use Rattle.one_key_set.specs.declared.answers.Added.TheVariants.{Done, Full, Again}
use Rattle.one_key_set.specs.declared.looking.Seen.{Seen}
use Rattle.one_key_set.specs.declared.looking.Seen.TheVariants.{Absent, Present, Changed}

-- the record is filled and linked behind the empty root; or the root led somewhere
abbrev pub links : ℕ → RefParts → Option LinkParts → List Event
links key own refusal = stored_own own 4 key ∷ stored_own own 3 (packed_ref None) ∷ published (Root key) 3 empty own (Some (Insert key)) refusal ∷ []

-- the record that the root leads to is marked; or it was marked before
abbrev pub marks : ℕ → Held → Option LinkParts → List Event
marks key at refusal = exchanged (At at) 3 empty empty_marked (Some (Remove key)) refusal ∷ []

-- after how many updates a look saw what it tells of the key, of which it tells nothing where a word had changed
abbrev pub shown_by : ℕ → Seen → Option ℕ
shown_by seen Absent = Some seen
shown_by seen (Present at) = Some seen
shown_by seen Changed = None

module _ (key : ℕ) where
  -- a marked record is taken out behind its root, which leads nowhere from then on, and is retired; or the root led elsewhere
  pub data TakesOut (gone : Held) : List Event → Type 0 where
    takes_out : TakesOut gone (unlinked (Root key) 3 gone.target empty None ∷ retired gone.target ∷ [])
    is_late : (other : LinkParts) → TakesOut gone (unlinked (Root key) 3 gone.target empty (Some other) ∷ [])

  -- the load of the link of the record that the root leads to, and what comes of it
  pub data Reads (at : Held) : Seen → Option ℕ → List Event → Type 0 where
    finds : (link : LinkParts) (then : ℕ) → ¬ HasMark link → Reads at (Present at) (Some then) (looked (At at) 3 link then ∷ [])
    clears : (link : LinkParts) (then : ℕ) {fs : List Event} → HasMark link → TakesOut at fs → Reads at Changed None (looked (At at) 3 link then ∷ fs)

  -- a look at the root: it leads nowhere, or to a record, or a word had changed
  pub data Looks : Seen → Option ℕ → List Event → Type 0 where
    misses : (seen : ℕ) → Looks Absent (Some seen) (hopped 0 (Root key) 3 Null seen ∷ [])
    reaches : (at : Held) (seen : ℕ) {found : Seen} {shown : Option ℕ} {fs : List Event} → Reads at found shown fs → Looks found shown (hopped 0 (Root key) 3 (Holds at) seen ∷ fs)
    meets_mark : (link : LinkParts) (seen : ℕ) → Looks Changed None (hopped 0 (Root key) 3 (Marked link) seen ∷ [])
    moves : (found seen : ℕ) → Looks Changed None (hopped 0 (Root key) 3 (Moved found) seen ∷ [])

  -- one try of an insertion
  pub data Inserts : Added → List Event → Type 0 where
    adds : {seen : ℕ} {es : List Event} (own : RefParts) → Looks Absent (Some seen) es → Inserts (Done true) (es ++ took own ∷ links key own None)
    has_it : {at : Held} {seen : ℕ} {es : List Event} → Looks (Present at) (Some seen) es → Inserts (Done false) (es ++ placed (Insert key) false seen ∷ [])
    is_full : {seen found : ℕ} {es : List Event} → Looks Absent (Some seen) es → Inserts (Full found) (es ++ refused found ∷ [])
    -- a word had changed, and a record that the try took is given back
    is_refused : {seen : ℕ} {es : List Event} (own : RefParts) (other : LinkParts) → Looks Absent (Some seen) es → Inserts Again (es ++ took own ∷ (links key own (Some other) ++ gave_back own ∷ []))
    has_changed : {es : List Event} → Looks Changed None es → Inserts Again es

  -- one try of a removal
  pub data Removes : Option Bool → List Event → Type 0 where
    takes_away : {at : Held} {seen : ℕ} {es fs : List Event} → Looks (Present at) (Some seen) es → TakesOut at fs → Removes (Some true) (es ++ (marks key at None ++ fs))
    lacks_it : {seen : ℕ} {es : List Event} → Looks Absent (Some seen) es → Removes (Some false) (es ++ placed (Remove key) false seen ∷ [])
    is_refused : {at : Held} {seen : ℕ} {es : List Event} (other : LinkParts) → Looks (Present at) (Some seen) es → Removes None (es ++ marks key at (Some other))
    has_changed : {es : List Event} → Looks Changed None es → Removes None es

  -- one try of a search
  pub data Searches : Option Bool → List Event → Type 0 where
    sees : {at : Held} {seen : ℕ} {es : List Event} → Looks (Present at) (Some seen) es → Searches (Some true) (es ++ placed (Search key) true seen ∷ [])
    lacks_it : {seen : ℕ} {es : List Event} → Looks Absent (Some seen) es → Searches (Some false) (es ++ placed (Search key) false seen ∷ [])
    has_changed : {es : List Event} → Looks Changed None es → Searches None es

-- so many tries that failed
pub data Failures (Fails : List Event → Type 0) : ℕ → List Event → Type 0 where
  none : Failures Fails 0 []
  more : {made : ℕ} {es fs : List Event} → Failures Fails made es → Fails fs → Failures Fails (made + 1) (es ++ fs)

-- a call with at most so many tries: it answers by the first that doesn't fail, and else says that all failed
pub data Repeats {A : Type 0} (Tries : A → List Event → Type 0) (failed : A) (tries : ℕ) : A → List Event → Type 0 where
  by_one : {made : ℕ} {answer : A} {es fs : List Event} → made < tries → Failures (Tries failed) made es → Tries answer fs → answer ≢ failed → Repeats Tries failed tries answer (es ++ fs)
  by_none : {es : List Event} → Failures (Tries failed) tries es → Repeats Tries failed tries failed es
