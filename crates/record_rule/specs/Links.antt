-- Steps on the words of roots and of records that a caller holds, and what its pass knows afterwards.
use Rattle.std.specs.Prelude.{◌≡◌, ◌≢◌, ℕ, ◌+◌, ◌-◌, ◌<◌, ◌≤◌, List, [], ◌∷◌, ◌++◌, length, Bool, true, false, Option, Some, None, slice_index_or, slice_set, ◌==◌, ◌&&◌, if◌then◌else◌}
use Rattle.set_model.specs.declared.calls.Call.{Call}
use Rattle.set_model.specs.declared.calls.Call.TheVariants.{Insert, Remove, Search}
use Rattle.set_model.specs.declared.calls.Update.{Update}
use Rattle.record_memory.specs.declared.steps.Word.TheVariants.{Field}
use Rattle.record_memory.specs.declared.steps.StepKind.{StepKind}
use Rattle.record_memory.specs.declared.steps.StepKind.TheVariants.{Load, Exchange}
use Rattle.record_memory.specs.declared.steps.Step.{Step}
use Rattle.record_memory.specs.declared.books.Setup.{Setup}
use Rattle.record_memory.specs.declared.books.View.{View}
use Rattle.record_memory.specs.declared.books.Book.{Book}
use Rattle.record_memory.specs.declared.books.Note.{Note}
use Rattle.record_memory.specs.declared.books.LockedWord.{LockedWord}
use Rattle.record_memory.specs.declared.books.Share.{Share}
use Rattle.record_memory.specs.declared.books.Answered.{Answered}
use Rattle.record_memory.specs.declared.books.Standing.TheVariants.{TakenOut, Limbo}
use Rattle.row_words.specs.Refs.{RefParts, LinkParts}
use Rattle.row_words.specs.Packing.{link_in, packed_link, packed_number, own_in, IsPackedLink}
use Rattle.record_rule.specs.Inputs.{start_of}
use Rattle.record_rule.specs.Facts.{At, word_in, mark_bit, has_lock, clean, Near, at_root, at_held, ShapeFacts, FitsNote, update_for, Reach, CoverFacts}
use Rattle.record_rule.specs.Guards.{started_if}
use Rattle.record_rule.specs.Laws.{root_at, with_update}
use Rattle.record_rule.specs.Opening.{no_note}
use Rattle.record_rule.specs.World.{StartsWith, IsRecent}
use Rattle.record_rule.specs.Kinds.{retired_one, share_in, idle, drawing_after, field_store}

-- the node that a step is on: a root by its number from 0, or the record that the caller holds at a place
pub data Origin : Type 0 where
  from_root : ℕ → Origin
  from_place : ℕ → RefParts → Origin

abbrev pub index_of : Origin → ℕ
index_of (from_root n) = n + 1
index_of (from_place p r) = r.index

-- its generation
abbrev pub generation_at : Setup → Origin → ℕ
generation_at setup (from_root n) = setup.first
generation_at setup (from_place p r) = r.generation

abbrev pub held_at : Origin → Option RefParts
held_at (from_root n) = None
held_at (from_place p r) = Some r

abbrev pub note_in : List Note → ℕ → Note
note_in notes p = slice_index_or notes p no_note

-- what the caller knows of it
abbrev pub near_of : View → Origin → Near
near_of v (from_root n) = at_root n
near_of v (from_place p r) = at_held r (note_in v.own.notes p)

-- the table has the root, or the caller holds the record there
abbrev pub Holds : View → Origin → Type 0
Holds v (from_root n) = n < v.setup.roots
Holds v (from_place p r) = At v.own.guard.holds p (Some r)

-- what a caller knows of a node's body agrees with it
abbrev pub FitsBody : ShapeFacts → Near → List ℕ → Type 0
FitsBody s (at_root n) body = Unit {0}
FitsBody s (at_held r note) body = FitsNote s note body

-- the next node of a link: what the caller holds of its target, where it has one
pub data IsNextOf (v : View) : Option RefParts → Option Near → Type 0 where
  at_end : IsNextOf v None None
  at_place : (p : ℕ) (r : RefParts) → Holds v (from_place p r) → IsNextOf v (Some r) (Some (near_of v (from_place p r)))

-- a step may decide the caller's call where no other caller may, and decides no search
abbrev pub Decides : ShapeFacts → View → Option Call → Type 0
Decides s v None = Unit {0}
Decides s v (Some (Insert k)) = s.helped → v.own.offer ≡ None
Decides s v (Some (Remove k)) = s.helped → v.own.offer ≡ None
Decides s v (Some (Search k)) = ⊥

-- a step on word f of the node, which found and left these
abbrev pub node_step : View → StepKind → Origin → ℕ → ℕ → ℕ → Step
node_step v kind o f found left = record { kind = kind; word = Field (index_of o) f; held = held_at o; found = found; left = left; idle = idle v.own }

-- the caller's book with one more step
abbrev pub with_step : Book → ℕ → Step → Book
with_step b records t = record b { steps = b.steps ++ t ∷ []; drawing = drawing_after b.drawing records t }

-- the pass has seen the two whole lists, and its caller's book says how many updates there were
abbrev pub seeing : View → List Update → List RefParts → Book → View
seeing v updates taken_out own = record v { own = record own { updates_seen = length updates }; seen_updates = updates; seen_taken_out = taken_out }

-- what it had seen of them begins them, and that reaches to the start of its caller's guard and to where each record was reached that its caller knows something of
pub record AreWhole (v : View) (updates : List Update) (taken_out : List RefParts) : Type 0 where
  pub front : StartsWith updates v.front
  pub seen_updates : StartsWith updates v.seen_updates
  pub seen_taken_out : StartsWith taken_out v.seen_taken_out
  pub recent : IsRecent (length v.seen_updates) (length v.seen_taken_out) v.own.guard v.own.notes

-- The key of a held record is loaded: it is the one that is known
pub record LoadedKey (v : View) (p : ℕ) (r : RefParts) (n : ℕ) (w : View) : Type 0 where
  pub known : At (note_in v.own.notes p).words 1 (Some n)
  -- under the generation by which it is held
  pub own : own_in n ≡ r.generation
  pub view : w ≡ record v { own = with_step v.own v.setup.records (node_step v Load (from_place p r) 4 n n) }

-- word f of a held record is noted, where it is settled
abbrev pub note_word : Note → ℕ → ℕ → Note
note_word note f n = record note { words = slice_set note.words (f - 3) (Some n) }

abbrev pub noting : Bool → List Note → Origin → ℕ → ℕ → List Note
noting true notes (from_root m) f n = notes
noting true notes (from_place p r) f n = slice_set notes p (note_word (note_in notes p) f n)
noting false notes o f n = notes

-- What one load of a link that found n shows, where so many updates took effect: the node's body, and what the set says of such a load
pub record Saw (s : ShapeFacts) (v : View) (o : Origin) (f n : ℕ) (target : Option (List ℕ)) (updates : List Update) : Type 0 where
  -- the table is for this set
  pub set_is : v.setup.set ≡ s.name
  pub body : List ℕ
  pub word : word_in body f ≡ n
  pub fits : FitsBody s (near_of v o) body
  pub marked : ℕ
  pub shown : s.shown v.setup (record { node = root_at s (near_of v o); body = body; field = f; target = target; marked = marked; start = start_of v.own.guard }) updates

-- what is kept of the roots, once a guard starts or goes on
abbrev pub roots_kept : Bool → List (List ℕ) → List (List ℕ)
roots_kept true roots = []
roots_kept false roots = roots

-- A link is loaded: the pass notes the updates up to this load, and what the load shows is so of just these. A guard starts with its first load, where the reclaimer has guards start so
pub record LoadedLink (s : ShapeFacts) (c : CoverFacts) (v : View) (o : Origin) (f : ℕ) (first : Bool) (n : ℕ) (w : View) : Type 0 where
  pub whole : AreWhole v w.seen_updates w.seen_taken_out
  pub saw : Saw s v o f n None w.seen_updates
  pub link : IsPackedLink n
  -- under the node's generation
  pub own : own_in n ≡ generation_at v.setup o
  pub epoch : ℕ
  pub view : w ≡ seeing v w.seen_updates w.seen_taken_out (record (with_step v.own v.setup.records (node_step v Load o f n n)) {
    guard = started_if (c.begins_loading && first) (record { epoch = epoch; taken_out = length w.seen_taken_out; updates = length w.seen_updates }) v.own.guard (length v.own.steps + 1);
    notes = noting (s.settled f saw.body) v.own.notes o f n;
    root_notes = roots_kept (c.begins_loading && first) v.own.root_notes;
  })

-- the record that a caller may hold once it loaded this link: its target, unless the node is marked
abbrev pub target_of : LinkParts → Option RefParts
target_of l = if mark_bit l == 1 then None else l.target

-- what is known of a record with this body from the load that reached it
abbrev pub settled_word : ShapeFacts → List ℕ → ℕ → Option ℕ
settled_word s body f = if s.settled f body then Some (word_in body f) else None

abbrev pub note_of : ShapeFacts → Option (List ℕ) → ℕ → Note
note_of s None updates = no_note
note_of s (Some body) updates = record { words = settled_word s body 3 ∷ settled_word s body 4 ∷ settled_word s body 5 ∷ settled_word s body 6 ∷ settled_word s body 7 ∷ []; reached_at = updates; kept = [] }

-- the target was found there where there is one
abbrev pub IsFound : Option RefParts → Option (List ℕ) → Type 0
IsFound None body = body ≡ None
IsFound (Some t) body = (b : List ℕ) × (body ≡ Some b)

-- A link is loaded to reach t, which is what it leads to or nothing: the pass notes the updates up to this load, what the load shows is so of just these, and so many stand in the note of what it reaches
pub record ReachedTarget (s : ShapeFacts) (c : CoverFacts) (v : View) (o : Origin) (f : ℕ) (q : Reach) (t : Option RefParts) (n : ℕ) (w : View) : Type 0 where
  pub whole : AreWhole v w.seen_updates w.seen_taken_out
  pub target : Option (List ℕ)
  pub found : IsFound t target
  pub within : (r : RefParts) → t ≡ Some r → r.index ≤ v.setup.records
  -- the guard has its places, each with a note, and started before
  pub many : length v.own.guard.holds ≡ c.places
  pub noted : length v.own.notes ≡ c.places
  pub late : v.own.guard.start_step ≤ length v.own.steps
  pub saw : Saw s v o f n target w.seen_updates
  pub link : IsPackedLink n
  -- under the node's generation
  pub own : own_in n ≡ generation_at v.setup o
  pub epoch : ℕ
  pub view : w ≡ seeing v w.seen_updates w.seen_taken_out (record (with_step v.own v.setup.records (node_step v Load o f n n)) {
    guard = c.reached (record { epoch = epoch; taken_out = length w.seen_taken_out; updates = length w.seen_updates }) v.own.guard q t;
    notes = slice_set v.own.notes q.place (note_of s target (length w.seen_updates));
    root_notes = roots_kept (c.begins_loading && q.first) v.own.root_notes;
  })

-- A link is loaded to reach its target, unless the node is marked
abbrev pub ReachedLink : ShapeFacts → CoverFacts → View → Origin → ℕ → Reach → ℕ → View → Type 0
ReachedLink s c v o f q n w = ReachedTarget s c v o f q (target_of (link_in n)) n w

-- the entry of a call that a step decides when so many updates took effect
abbrev pub entry_for : ℕ → Option Call → List Answered
entry_for position None = []
entry_for position (Some call) = record { call = call; reply = true; decided = true; position = position } ∷ []

-- the front, where the step decides a call: the whole list
abbrev pub front_for : List Update → List Update → Option Call → List Update
front_for front updates None = front
front_for front updates (Some call) = updates

-- the update that a step of the caller's decides
abbrev pub own_update : View → Option Call → Option Update
own_update v call = update_for v.own.caller (length v.own.answered + 1) call

-- the pass after a step that leaves a link and may decide a call
abbrev pub decided : View → List Update → List RefParts → Option Call → Book → View
decided v updates taken_out call own = record v {
  own = record own { answered = v.own.answered ++ entry_for (length updates) call; updates_seen = length (with_update updates (own_update v call)) };
  front = front_for v.front (with_update updates (own_update v call)) call;
  seen_updates = with_update updates (own_update v call);
  seen_taken_out = taken_out;
}

-- an exchange of a link was refused: the word held another link
pub record RefusedLink (v : View) (o : Origin) (f n : ℕ) (w : View) : Type 0 where
  pub link : IsPackedLink n
  -- under the node's generation
  pub own : own_in n ≡ generation_at v.setup o
  pub view : w ≡ record v { own = with_step v.own v.setup.records (node_step v Exchange o f n n) }

-- the two values of the word in an exchange between links
abbrev pub link_word : Setup → Origin → LinkParts → ℕ
link_word setup o l = packed_link (generation_at setup o) l

-- the node's word, as its caller has it locked with this link
abbrev pub locked_word : Setup → Origin → ℕ → LinkParts → LockedWord
locked_word setup o f l = record { index = index_of o; field = f; value = link_word setup o l }

-- which words the caller has locked, once it exchanged a link for this one: where the word may be locked, a link with the flag locks it
abbrev pub locks_after : ShapeFacts → View → Origin → ℕ → LinkParts → List LockedWord
locks_after s v o f new = if s.lockable f && has_lock new then locked_word v.setup o f new ∷ v.own.locks else v.own.locks

-- A step of this kind left another link in the node's word, and its caller has these words locked then
pub record LeftLink (s : ShapeFacts) (v : View) (kind : StepKind) (o : Origin) (f : ℕ) (old new : LinkParts) (call : Option Call) (locks : List LockedWord) (w : View) : Type 0 where
  pub updates : List Update
  pub taken_out : List RefParts
  pub whole : AreWhole v updates taken_out
  -- the node's body afterwards
  pub body : List ℕ
  pub word : word_in body f ≡ link_word v.setup o new
  pub view : w ≡ decided v updates taken_out call (record (with_step v.own v.setup.records (node_step v kind o f (link_word v.setup o old) (link_word v.setup o new))) { locks = locks; notes = noting (s.settled f body) v.own.notes o f (link_word v.setup o new) })

-- An exchange of a link is made
abbrev pub ExchangedLink : ShapeFacts → View → Origin → ℕ → LinkParts → LinkParts → Option Call → View → Type 0
ExchangedLink s v o f old new call w = LeftLink s v Exchange o f old new call (locks_after s v o f new) w

-- What an exchange of a link tells, which found n
pub record ToldExchange (s : ShapeFacts) (v : View) (o : Origin) (f : ℕ) (old new : LinkParts) (call : Option Call) (n : ℕ) (w : View) : Type 0 where
  pub made : n ≡ link_word v.setup o old → ExchangedLink s v o f old new call w
  pub refused : n ≢ link_word v.setup o old → RefusedLink v o f n w

-- A step of this kind linked an own record behind the node, and its caller has these words locked then
pub record PublishedBy (s : ShapeFacts) (v : View) (kind : StepKind) (o : Origin) (f : ℕ) (old : LinkParts) (own : RefParts) (call : Option Call) (locks : List LockedWord) (w : View) : Type 0 where
  pub updates : List Update
  pub taken_out : List RefParts
  pub whole : AreWhole v updates taken_out
  pub body : List ℕ
  pub word : word_in body f ≡ link_word v.setup o (clean own)
  pub view : w ≡ decided v updates taken_out call (record (with_step v.own v.setup.records (node_step v kind o f (link_word v.setup o old) (link_word v.setup o (clean own)))) {
    mine = slice_set v.own.mine (own.index - 1) None;
    locks = locks;
    notes = noting (s.settled f body) v.own.notes o f (link_word v.setup o (clean own));
  })

-- An own record is linked behind the node
abbrev pub PublishedLink : ShapeFacts → View → Origin → ℕ → LinkParts → RefParts → Option Call → View → Type 0
PublishedLink s v o f old own call w = PublishedBy s v Exchange o f old own call v.own.locks w

pub record ToldPublish (s : ShapeFacts) (v : View) (o : Origin) (f : ℕ) (old : LinkParts) (own : RefParts) (call : Option Call) (n : ℕ) (w : View) : Type 0 where
  pub made : n ≡ link_word v.setup o old → PublishedLink s v o f old own call w
  pub refused : n ≢ link_word v.setup o old → RefusedLink v o f n w

-- A step of this kind took a held record out behind the node, and its caller has these words locked then
pub record UnlinkedBy (s : ShapeFacts) (v : View) (kind : StepKind) (o : Origin) (f : ℕ) (old : LinkParts) (gone : RefParts) (new : LinkParts) (locks : List LockedWord) (w : View) : Type 0 where
  pub updates : List Update
  pub taken_out : List RefParts
  pub whole : AreWhole v updates taken_out
  pub body : List ℕ
  pub word : word_in body f ≡ link_word v.setup o new
  -- the first three words of the record that was taken out
  pub words : List ℕ
  pub three : length words ≡ 3
  -- the caller's book has an entry for it, as for each record
  pub within : gone.index ≤ v.setup.records
  pub mine : length v.own.mine ≡ v.setup.records
  -- which said nothing of it before
  pub none : share_in v gone.index ≡ None
  pub view : w ≡ seeing v updates (taken_out ++ gone ∷ []) (record (with_step v.own v.setup.records (node_step v kind o f (link_word v.setup o old) (link_word v.setup o new))) {
    mine = slice_set v.own.mine (gone.index - 1) (Some (record { standing = TakenOut; generation = gone.generation; taken_number = length taken_out; words = words }));
    locks = locks;
    notes = noting (s.settled f body) v.own.notes o f (link_word v.setup o new);
  })

-- A held record is taken out behind the node
abbrev pub UnlinkedRecord : ShapeFacts → View → Origin → ℕ → RefParts → LinkParts → View → Type 0
UnlinkedRecord s v o f gone new w = UnlinkedBy s v Exchange o f (clean gone) gone new v.own.locks w

pub record ToldUnlink (s : ShapeFacts) (v : View) (o : Origin) (f : ℕ) (gone : RefParts) (new : LinkParts) (n : ℕ) (w : View) : Type 0 where
  pub made : n ≡ link_word v.setup o (clean gone) → UnlinkedRecord s v o f gone new w
  pub refused : n ≢ link_word v.setup o (clean gone) → RefusedLink v o f n w

-- the caller took the record out and didn't retire it
pub record HasTaken (v : View) (r : RefParts) (share : Share) : Type 0 where
  pub within : r.index ≤ v.setup.records
  pub known : share_in v r.index ≡ Some share
  pub standing : share.standing ≡ TakenOut
  pub generation : share.generation ≡ r.generation
  pub three : length share.words ≡ 3

-- A record that was taken out is retired: its stamp is stored
abbrev pub retired_share : Share → ℕ → Share
retired_share h value = record h { standing = Limbo; words = slice_set h.words 2 value }

abbrev pub retired_with : View → RefParts → Share → ℕ → View
retired_with v r h value = record v { own = record (with_step v.own v.setup.records (field_store v r.index 2 value h)) { mine = slice_set v.own.mine (r.index - 1) (Some (retired_share h value)); moves = retired_one v.own.moves } }

abbrev pub retired : View → RefParts → Share → ℕ → View
retired v r h stamp = retired_with v r h (packed_number r.generation stamp)

-- A read is placed behind the first `place` updates that the pass has seen, by a load of the word that counts the records drawn
abbrev pub read_at : ℕ → Call → Bool → Answered
read_at place call reply = record { call = call; reply = reply; decided = false; position = place }
