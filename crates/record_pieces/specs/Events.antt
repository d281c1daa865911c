-- What one call of a guard did, and the steps that it made.
use Rattle.std.specs.Prelude.{◌≡◌, ◌≢◌, ℕ, ◌+◌, ◌-◌, [], ◌∷◌, ◌++◌, Option, Some, None, Bool, true, false, slice_index_or}
use Rattle.set_model.specs.declared.calls.Call.{Call}
use Rattle.record_memory.specs.declared.steps.Step.{Step}
use Rattle.record_memory.specs.declared.steps.Word.TheVariants.{Field, Drawn}
use Rattle.record_memory.specs.declared.steps.StepKind.{StepKind}
use Rattle.record_memory.specs.declared.steps.StepKind.TheVariants.{Load, Store, Exchange}
use Rattle.record_memory.specs.declared.books.Setup.{Setup}
use Rattle.record_memory.specs.declared.books.Book.{Book}
use Rattle.record_memory.specs.declared.books.Share.{Share}
use Rattle.record_memory.specs.declared.books.Standing.TheVariants.{Free}
use Rattle.record_memory.specs.declared.books.View.{View}
use Rattle.row_words.specs.Refs.{RefParts, LinkParts}
use Rattle.row_words.specs.Packing.{key_in, link_in, packed_number}
use Rattle.row_words.specs.declared.links.Freed.{Freed}
use Rattle.record_rule.specs.Facts.{clean}
use Rattle.record_rule.specs.Kinds.{idle}
use Rattle.record_rule.specs.HandingOut.{handed_out}
use Rattle.record_rule.specs.Links.{index_of, held_at, link_word, entry_for, read_at}
use Rattle.record_rule.specs.Standings.{is_free, is_spare}
use Rattle.record_table.specs.declared.nodes.Node.{Node}
use Rattle.record_table.specs.Nodes.{origin}
use Rattle.reclaim_api.specs.declared.holding.Holding.{Holding}
use Rattle.reclaim_api.specs.declared.following.Reached.{Reached}
use Rattle.reclaim_api.specs.Following.{FollowsByLoad}
use Rattle.reclaim_api.specs.Frames.{had}
use Rattle.record_pieces.specs.Hands.{in_hand}
use Rattle.record_pieces.specs.Spares.{IsSpareIn, KeepsSpares, KeepsSparesBut}
use Rattle.record_pieces.specs.OwnSteps.{OneStep, own_load, own_store}
use Rattle.record_pieces.specs.Giving.{GivesChains}
use Rattle.record_pieces.specs.Manners.{Manner}

pub data Event : Type 0 where
  -- the operation began, and where records became free chains of free ones were given to the pool
  begun : Event
  -- a try to hold: for which place, from which node and word, its answer, and how many updates had taken effect at its last load of the link
  hopped : ℕ → Node → ℕ → Holding → ℕ → Event
  -- a link that was followed: to which place, from which node and word, its answer, and how many updates had taken effect at its load
  followed : ℕ → Node → ℕ → Reached → ℕ → Event
  -- the key of a held record
  keyed : RefParts → ℕ → Event
  -- the link in a node's word, and how many updates had taken effect at its load
  looked : Node → ℕ → LinkParts → ℕ → Event
  -- an exchange of a node's link: what was expected, the new one, the call that it decides, and what a refusal found
  exchanged : Node → ℕ → LinkParts → LinkParts → Option Call → Option LinkParts → Event
  -- the same to link an own record
  published : Node → ℕ → LinkParts → RefParts → Option Call → Option LinkParts → Event
  -- the same to take the next record out, from its clean link
  unlinked : Node → ℕ → RefParts → LinkParts → Option LinkParts → Event
  -- a store in a node's word that its caller has locked: the link that was there, the new one, and the call that it decides
  stored_link : Node → ℕ → LinkParts → LinkParts → Option Call → Event
  -- the same to link an own record
  published_locked : Node → ℕ → LinkParts → RefParts → Option Call → Event
  -- the same to take the next record out, which the link that was there leads to
  unlinked_locked : Node → ℕ → LinkParts → RefParts → LinkParts → Event
  -- an own record was got; or none, with what the draw found
  took : RefParts → Event
  refused : ℕ → Event
  -- a word of an own record was stored
  stored_own : RefParts → ℕ → ℕ → Event
  gave_back : RefParts → Event
  -- a record was retired, with the same for what became free
  retired : RefParts → Event
  -- a read was placed, behind so many updates
  placed : Call → Bool → ℕ → Event
  ended : Event

-- one where the exchange was made
abbrev pub one_if_made : Option LinkParts → ℕ
one_if_made None = 1
one_if_made (Some link) = 0

-- how many records come into the caller's hand
abbrev pub gained : Event → ℕ
gained begun = 0
gained (hopped p at f h seen) = 0
gained (followed p at f r seen) = 0
gained (keyed r key) = 0
gained (looked at f link seen) = 0
gained (exchanged at f expected new call refusal) = 0
gained (published at f expected own call refusal) = 0
gained (unlinked at f gone new refusal) = one_if_made refusal
gained (stored_link at f old new call) = 0
gained (published_locked at f old own call) = 0
gained (unlinked_locked at f old gone new) = 1
gained (took r) = 1
gained (refused n) = 0
gained (stored_own r f payload) = 0
gained (gave_back r) = 0
gained (retired r) = 0
gained (placed call reply position) = 0
gained ended = 0

-- and how many leave it
abbrev pub dropped : Event → ℕ
dropped begun = 0
dropped (hopped p at f h seen) = 0
dropped (followed p at f r seen) = 0
dropped (keyed r key) = 0
dropped (looked at f link seen) = 0
dropped (exchanged at f expected new call refusal) = 0
dropped (published at f expected own call refusal) = one_if_made refusal
dropped (unlinked at f gone new refusal) = 0
dropped (stored_link at f old new call) = 0
dropped (published_locked at f old own call) = 1
dropped (unlinked_locked at f old gone new) = 0
dropped (took r) = 0
dropped (refused n) = 0
dropped (stored_own r f payload) = 0
dropped (gave_back r) = 1
dropped (retired r) = 1
dropped (placed call reply position) = 0
dropped ended = 0

-- and how many of them it retires
abbrev pub retirements : Event → ℕ
retirements begun = 0
retirements (hopped p at f h seen) = 0
retirements (followed p at f r seen) = 0
retirements (keyed r key) = 0
retirements (looked at f link seen) = 0
retirements (exchanged at f expected new call refusal) = 0
retirements (published at f expected own call refusal) = 0
retirements (unlinked at f gone new refusal) = 0
retirements (stored_link at f old new call) = 0
retirements (published_locked at f old own call) = 0
retirements (unlinked_locked at f old gone new) = 0
retirements (took r) = 0
retirements (refused n) = 0
retirements (stored_own r f payload) = 0
retirements (gave_back r) = 0
retirements (retired r) = 1
retirements (placed call reply position) = 0
retirements ended = 0

-- a step on a node's word
abbrev pub node_step : Book → StepKind → Node → ℕ → ℕ → ℕ → Step
node_step b kind at f found left = record { kind = kind; word = Field (index_of (origin at)) f; held = held_at (origin at); found = found; left = left; idle = idle b }

-- the load of a held record's key
abbrev pub key_load : Book → RefParts → ℕ → Step
key_load b r n = record { kind = Load; word = Field r.index 4; held = Some r; found = n; left = n; idle = idle b }

-- the load that places a read, of the word that counts the records drawn
abbrev pub placing_load : Book → ℕ → Step
placing_load b n = record { kind = Load; word = Drawn; held = None; found = n; left = n; idle = idle b }

-- an exchange of the node's link: it left the new one, or found another than was expected
abbrev pub Exchanges : Setup → Node → ℕ → LinkParts → LinkParts → Option LinkParts → Book → Book → Type 0
Exchanges k at f expected new None b c = OneStep b (node_step b Exchange at f (link_word k (origin at) expected) (link_word k (origin at) new)) c
Exchanges k at f expected new (Some link) b c = (n : ℕ) × (link ≡ link_in n) × (link ≢ expected) × OneStep b (node_step b Exchange at f n n) c

-- a store in the node's word: it found the one link and left the other
abbrev pub StoresOver : Setup → Node → ℕ → LinkParts → LinkParts → Book → Book → Type 0
StoresOver k at f old new b c = OneStep b (node_step b Store at f (link_word k (origin at) old) (link_word k (origin at) new)) c

-- where such a step was made it answered the call that the event names, and no other; where it was refused it answered none
abbrev pub AnswersCall : Option LinkParts → Option Call → Book → Book → Type 0
AnswersCall (Some link) call b c = c.answered ≡ b.answered
AnswersCall None None b c = c.answered ≡ b.answered
AnswersCall None (Some call) b c = (position : ℕ) × (c.answered ≡ b.answered ++ entry_for position (Some call))

-- the stores of the eight words of a record that is handed out
abbrev pub HandsOut : RefParts → ℕ → Book → Book → Type 0
HandsOut r birth b c = (v : View) × (w : View) × (v.own ≡ b) × (w.own ≡ c) × (w ≡ handed_out v r birth)

-- the same records are spare as before and no more, none was drawn or reused, and none became the caller's own
pub record KeepsStock (b c : Book) : Type 0 where
  pub spare : had is_spare c ≡ had is_spare b
  pub kept : KeepsSpares b c
  pub drawn : c.moves.drawn ≡ b.moves.drawn
  pub reused : c.moves.reused ≡ b.moves.reused
  pub births : c.moves.births ≡ b.moves.births

-- one record became the caller's own, and none was drawn or reused
pub record CountsBirth (b c : Book) : Type 0 where
  pub births : c.moves.births ≡ b.moves.births + 1
  pub drawn : c.moves.drawn ≡ b.moves.drawn
  pub reused : c.moves.reused ≡ b.moves.reused

-- one record was reused, or one was drawn
pub record CountsReuse (b c : Book) : Type 0 where
  pub drawn : c.moves.drawn ≡ b.moves.drawn
  pub reused : c.moves.reused ≡ b.moves.reused + 1

pub record CountsDraw (b c : Book) : Type 0 where
  pub drawn : c.moves.drawn ≡ b.moves.drawn + 1
  pub reused : c.moves.reused ≡ b.moves.reused

-- an own record came to be spare beside those that were, and none was moved otherwise
pub record SetsAside (b : Book) (r : RefParts) (c : Book) : Type 0 where
  pub is_spare_now : IsSpareIn c r
  pub kept : KeepsSpares b c
  pub spare : had is_spare c ≡ had is_spare b + 1
  pub drawn : c.moves.drawn ≡ b.moves.drawn
  pub reused : c.moves.reused ≡ b.moves.reused
  pub births : c.moves.births ≡ b.moves.births

-- a spare record came to be the caller's own, and all others are spare still
pub record TakesSpare (b : Book) (r : RefParts) (c : Book) : Type 0 where
  pub was_spare : IsSpareIn b r
  pub kept : KeepsSparesBut r.index b c
  pub spare : had is_spare b ≡ had is_spare c + 1
  pub counts : CountsBirth b c

-- the caller had the record as free, at the generation before this one
pub record WasFree (b : Book) (r : RefParts) : Type 0 where
  pub share : Share
  pub known : slice_index_or b.mine (r.index - 1) None ≡ Some share
  pub free : share.standing ≡ Free
  pub next : r.generation ≡ share.generation + 1

module _ (m : Manner) (k : Setup) where
  -- how a record was got that is no spare one: from the free chain; or, when that has none, from a chain of the pool's; or, when that has none either, it was drawn
  pub data Gets (b : Book) (r : RefParts) : Book → Type 0 where
    from_free : (n : ℕ) (c : Book) → WasFree b r → OneStep b (own_load b r 1 n) c → CountsReuse b c → Gets b r c
    from_pool : (d : Book) (n : ℕ) (c : Book) → had is_free b ≡ 0 → m.takes k b true d → WasFree d r → OneStep d (own_load d r 1 n) c → CountsReuse b c → Gets b r c
    from_draw : (d c : Book) → had is_free b ≡ 0 → m.takes k b false d → m.draws k d r c → CountsDraw b c → Gets b r c

  -- an own record was got, and the reclaimer answered one birth: a spare one, which keeps the birth that it has; or, when there is none, one that was handed out with it, which leaves none spare
  pub data Takes (b : Book) (r : RefParts) (c : Book) : Type 0 where
    from_spare : (d : Book) (birth n : ℕ) → m.bears k b birth d → OneStep d (own_load d r 1 n) c → TakesSpare b r c → Takes b r c
    handed : (d e : Book) (birth : ℕ) → had is_spare b ≡ 0 → Gets b r d → d.moves.births ≡ b.moves.births → m.bears k d birth e → HandsOut r birth e c → CountsBirth d c → had is_spare c ≡ 0 → Takes b r c

  -- none was got: no record was idle, the pool had no chain, and the draw found none left
  pub record FindsNone (b : Book) (n : ℕ) (c : Book) : Type 0 where
    pub idle_is : idle b ≡ 0
    pub between : Book
    pub took : m.takes k b false between
    pub refused : m.refuses k between n c
    pub stock : KeepsStock b c

  -- the steps of an event, and what it leaves of the caller's stock
  abbrev pub Acts : Event → Book → Book → Type 0
  Acts begun b c = ((d : Book) × (f : Freed) × m.enters k b f d × GivesChains m.shelves (m.gives k) f d c) × KeepsStock b c
  Acts (hopped p at f h seen) b c = m.reaches k p at f b h c × (c.updates_seen ≡ seen) × KeepsStock b c
  Acts (followed p at f r seen) b c = FollowsByLoad at f b r c × (c.updates_seen ≡ seen) × KeepsStock b c
  Acts (keyed r key) b c = ((n : ℕ) × (key ≡ key_in n) × OneStep b (key_load b r n) c) × KeepsStock b c
  Acts (looked at f link seen) b c = ((n : ℕ) × (link ≡ link_in n) × OneStep b (node_step b Load at f n n) c) × (c.updates_seen ≡ seen) × KeepsStock b c
  Acts (exchanged at f expected new call refusal) b c = Exchanges k at f expected new refusal b c × AnswersCall refusal call b c × KeepsStock b c
  Acts (published at f expected own call refusal) b c = Exchanges k at f expected (clean own) refusal b c × AnswersCall refusal call b c × KeepsStock b c
  Acts (unlinked at f gone new refusal) b c = Exchanges k at f (clean gone) new refusal b c × KeepsStock b c
  Acts (stored_link at f old new call) b c = StoresOver k at f old new b c × AnswersCall None call b c × KeepsStock b c
  Acts (published_locked at f old own call) b c = StoresOver k at f old (clean own) b c × AnswersCall None call b c × KeepsStock b c
  Acts (unlinked_locked at f old gone new) b c = (old.target ≡ Some gone) × StoresOver k at f old new b c × KeepsStock b c
  Acts (took r) b c = Takes b r c
  Acts (refused n) b c = FindsNone b n c
  Acts (stored_own r f payload) b c = ((found : ℕ) × OneStep b (own_store b r f found (packed_number r.generation payload)) c) × KeepsStock b c
  Acts (gave_back r) b c = ((found : ℕ) × (left : ℕ) × OneStep b (own_store b r 1 found left) c) × SetsAside b r c
  Acts (retired r) b c = ((d : Book) × (f : Freed) × m.puts_away k b r f d × GivesChains m.shelves (m.gives k) f d c) × KeepsStock b c
  Acts (placed call reply position) b c = ((n : ℕ) × OneStep b (placing_load b n) c) × (c.answered ≡ b.answered ++ read_at position call reply ∷ []) × KeepsStock b c
  Acts ended b c = m.leaves k b c × KeepsStock b c

  -- an event does so, and of records in hand the caller has more by those that came, and fewer by those that left, of which it counts those that it retired
  pub record Does (e : Event) (b c : Book) : Type 0 where
    pub acts : Acts e b c
    pub hand : in_hand c + dropped e ≡ in_hand b + gained e
    pub retires : c.moves.retired ≡ b.moves.retired + retirements e
