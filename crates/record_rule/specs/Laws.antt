-- What a set's facts and a reclaimer's facts have to allow: one law for each move that they can see.
use Rattle.std.specs.Prelude.{◌≡◌, ◌≢◌, ℕ, ◌+◌, ◌-◌, ◌*◌, ◌<◌, ◌≤◌, ◌⊎◌, List, [], ◌∷◌, ◌++◌, length, replicate, Bool, true, false, Option, Some, None, MatchOption, slice_set, if◌then◌else◌, ◌==◌, ◌&&◌}
use Rattle.set_model.specs.declared.calls.Call.{Call}
use Rattle.set_model.specs.declared.calls.Update.{Update}
use Rattle.record_memory.specs.declared.books.Setup.{Setup}
use Rattle.record_memory.specs.declared.steps.Word.{Word}
use Rattle.record_memory.specs.declared.steps.Word.TheVariants.{Drawn, Epoch, Lock, Blank, Shelf, Announced, Cursor, Field}
use Rattle.record_memory.specs.declared.books.Guard.{Guard}
use Rattle.record_memory.specs.declared.books.Note.{Note}
use Rattle.row_words.specs.Refs.{RefParts, LinkParts, IsRef, refer}
use Rattle.row_words.specs.Packing.{IsLink, packed_key, packed_number}
use Rattle.record_rule.specs.Inputs.{ShapeCell, hidden, root, linked, out, ShapeInput, Start, start_of, Trace, SchemeCell, unseen, rooted, reachable, unpublished, unretired, limbo, SchemeInput}
use Rattle.record_rule.specs.Guards.{started_at}
use Rattle.record_rule.specs.Walks.{LeadsOn, IsOnWalk, cells_ground, HasRoots, read_for}
use Rattle.record_rule.specs.Facts.{At, link_at, with_link, mark_bit, HasMark, HasLock, clean, Near, at_root, at_held, Known, of_held, known_near, ShapeFacts, Stands, FitsNear, FitsNext, IsLegalUpdate, update_for, Moment, Reach, LimboRecord, CoverFacts}

abbrev pub root_body : ℕ → List ℕ
root_body first = packed_number first 0 ∷ packed_key first 1 0 ∷ replicate 3 (packed_number first 0)

-- a new table: blank roots, and records that were never handed out
abbrev pub opening_shape : Setup → ShapeInput
opening_shape setup = record { cells = replicate setup.roots (root setup.first (root_body setup.first) 0) ++ replicate (setup.records - setup.roots) hidden; taken_out = [] }

-- the record that a reference names is linked at its generation
abbrev pub LeadsTo : List ShapeCell → RefParts → Type 0
LeadsTo cells t = (body : List ℕ) × (m : ℕ) × (0 < t.index) × At cells (t.index - 1) (linked t.generation body m)

-- the cell with another body and marked position
abbrev pub recelled : ShapeCell → List ℕ → ℕ → ShapeCell
recelled hidden body m = hidden
recelled (root generation b n) body m = root generation body m
recelled (linked generation b n) body m = linked generation body m
recelled (out generation b n k) body m = out generation body m k

-- the position that stands with a cell after a link of it was left: with a new mark, that of the update that the step decided
abbrev pub marked_after : ℕ → LinkParts → LinkParts → ℕ → ℕ
marked_after m old new updates = if mark_bit old == 0 then (if mark_bit new == 1 then updates + 1 else m) else m

-- the updates with one more, where a step decides one
abbrev pub with_update : List Update → Option Update → List Update
with_update updates None = updates
with_update updates (Some u) = updates ++ u ∷ []

abbrev pub grown : Trace → Option Update → Trace
grown h u = record h { updates = with_update h.updates u }

-- A step on a node's link: whose it is, the number of its caller's call, the node and its word, the link that it expects, and the call that it decides
pub record NodeStep : Type 0 where
  pub caller : ℕ
  pub number : ℕ
  pub near : Near
  pub field : ℕ
  pub old : LinkParts
  pub call : Option Call

-- the update that it decides
abbrev pub update_by : NodeStep → Option Update
update_by t = update_for t.caller t.number t.call

-- some records that were taken out are hidden, and all else is as it was
pub data IsHidden (old : ShapeCell) : ShapeCell → Type 0 where
  hides_ : (generation m n : ℕ) (body : List ℕ) → old ≡ out generation body m n → IsHidden old hidden
  keeps_ : IsHidden old old

pub record HiddenCells (cells cells' : List ShapeCell) : Type 0 where
  pub many : length cells' ≡ length cells
  pub each : (i : ℕ) (new : ShapeCell) → At cells' i new → (old : ShapeCell) × At cells i old × IsHidden old new

module _ (s : ShapeFacts) where
  -- the step's node: its cell, which the caller knows, and one of its links
  pub record NodeIs (cells : List ShapeCell) (near : Near) (f : ℕ) (link : LinkParts) : Type 0 where
    pub index : ℕ
    pub cell : ShapeCell
    pub at : At cells index cell
    pub generation : ℕ
    pub body : List ℕ
    pub long : length body ≡ 5
    pub marked : ℕ
    pub fits : FitsNear s cells near index generation body marked
    pub word : link_at body f ≡ link

  -- the node's cell with another link
  abbrev pub relinked : (cells : List ShapeCell) (near : Near) (f : ℕ) (old : LinkParts) → NodeIs cells near f old → LinkParts → ℕ → ShapeCell
  relinked cells near f old n new updates = recelled n.cell (with_link n.body f n.generation new) (marked_after n.marked old new updates)

  -- the set's facts hold of what the step left, its update is one that the machine allows, and it changed no settled word
  pub record Keeps (setup : Setup) (x : ShapeInput) (h : Trace) (near : Near) (f : ℕ) (old : LinkParts) (n : NodeIs x.cells near f old) (new : LinkParts) (u : Option Update) (x' : ShapeInput) : Type 0 where
    pub stands : Stands s setup x' (grown h u)
    pub legal : IsLegalUpdate setup.set h.updates u
    pub unsettled : s.settled f n.body ≡ false
    pub settled : (g : ℕ) → s.settled g n.body ≡ true → s.settled g (with_link n.body f n.generation new) ≡ true
    pub known : (start : Start) (k : Known) → s.knows setup x h.updates start k → s.knows setup x' (with_update h.updates u) start k

  -- they hold though records are hidden, and no caller knows less
  pub record KeepsHidden (setup : Setup) (x : ShapeInput) (h : Trace) (x' : ShapeInput) : Type 0 where
    pub stands : Stands s setup x' h
    pub known : (start : Start) (k : Known) → s.knows setup x h.updates start k → s.knows setup x' h.updates start k

  -- what a load of the node's link sees of its target: nothing, or its body where it is there at its generation
  pub data TargetSeen (cells : List ShapeCell) : Option RefParts → Option (List ℕ) → Type 0 where
    no_target : TargetSeen cells None None
    lost : (t : RefParts) → TargetSeen cells (Some t) None
    there : (t : RefParts) (body : List ℕ) (m : ℕ) → At cells (t.index - 1) (linked t.generation body m) → TargetSeen cells (Some t) (Some body)
    there_out : (t : RefParts) (body : List ℕ) (m n : ℕ) → At cells (t.index - 1) (out t.generation body m n) → TargetSeen cells (Some t) (Some body)

  abbrev pub root_at : Near → Option ℕ
  root_at (at_root n) = Some n
  root_at (at_held r note) = None

  -- what was taken out stands in the list at its number, and once
  pub record OutCellsFit (x : ShapeInput) : Type 0 where
    pub indexed : (n : ℕ) (t : RefParts) → At x.taken_out n t → 0 < t.index
    pub numbered : (i generation m n : ℕ) (body : List ℕ) → At x.cells i (out generation body m n) → At x.taken_out n (refer (i + 1) generation)
    pub once : (n m : ℕ) (t : RefParts) → At x.taken_out n t → At x.taken_out m t → n ≡ m
    -- what is linked doesn't stand there
    pub unlisted : (i generation m n : ℕ) (body : List ℕ) → At x.cells i (linked generation body m) → At x.taken_out n (refer (i + 1) generation) → ⊥

  -- the record wasn't linked at this generation or a later one
  abbrev pub IsNewGeneration : List RefParts → RefParts → Type 0
  IsNewGeneration taken_out own = (k : ℕ) (r : RefParts) → At taken_out k r → r.index ≡ own.index → r.generation < own.generation

  -- no guard started in the future
  pub record StartsFit (x : ShapeInput) (h : Trace) : Type 0 where
    pub taken_out : (c : ℕ) (st : Start) → At h.starts c st → st.taken_out ≤ length x.taken_out
    pub updates : (c : ℕ) (st : Start) → At h.starts c st → st.updates ≤ length h.updates

  abbrev pub Given : Setup → ShapeInput → Trace → Type 0
  Given setup x h = OutCellsFit x × Stands s setup x h × StartsFit x h × (setup.set ≡ s.name)

  pub record ShapeLaws : Type 0 where
    -- A new table has blank roots, no key and no history
    pub starts : (setup : Setup) (h : Trace) → 0 < setup.roots → setup.roots ≤ setup.records → h.updates ≡ [] → Stands s setup (opening_shape setup) h
    -- A walk over the records comes to a linked one wherever it goes on
    pub walks : (setup : Setup) (x : ShapeInput) (h : Trace) → Given setup x h → (body : List ℕ) (t : RefParts) → IsOnWalk (cells_ground s x.cells) body → LeadsOn s.leads body t → LeadsTo x.cells t
    -- And it reads what the machine of the set's name leaves behind the updates
    pub reads : (setup : Setup) (x : ShapeInput) (h : Trace) → Given setup x h → HasRoots setup x.cells → read_for s.name (cells_ground s x.cells) h.updates
    -- The key of a record that is linked or was taken out changes no more
    pub keys_stand : (setup : Setup) (x : ShapeInput) (near : Near) (f : ℕ) (l : LinkParts) → s.formed setup x → (n : NodeIs x.cells near f l) → s.settled 4 n.body ≡ true
    -- A link that may be followed, without a mark, leads to a linked record at its generation; so a record that was taken out has a mark there
    pub reaches : (setup : Setup) (x : ShapeInput) (near : Near) (f : ℕ) (l : LinkParts) (t : RefParts) → s.formed setup x → NodeIs x.cells near f l → s.may_hold near f → ¬ HasMark l → l.target ≡ Some t → LeadsTo x.cells t
    -- An exchange that the set allows by what its caller knows keeps the facts, and decides as the machine does
    pub exchanges : (setup : Setup) (x : ShapeInput) (h : Trace) (t : NodeStep) (new : LinkParts) → Given setup x h → (n : NodeIs x.cells t.near t.field t.old) → IsLink new → s.may_exchange setup t.near t.field t.old new t.call
        → Keeps setup x h t.near t.field t.old n new (update_by t) (record x { cells = slice_set x.cells n.index (relinked x.cells t.near t.field t.old n new (length h.updates)) })
    -- A link is locked only while its record is a root or linked
    pub locks : (setup : Setup) (x : ShapeInput) (t : NodeStep) (new : LinkParts) → s.formed setup x → (n : NodeIs x.cells t.near t.field t.old) → s.may_exchange setup t.near t.field t.old new t.call → s.lockable t.field ≡ true → ¬ HasLock t.old → HasLock new
        → (generation m k : ℕ) (body : List ℕ) → n.cell ≡ out generation body m k → ⊥
    -- An own record with this body may stand between the node and its next
    pub publishes : (setup : Setup) (x : ShapeInput) (h : Trace) (t : NodeStep) (own : RefParts) (body : List ℕ) (marked : ℕ) (next : Option Near) → Given setup x h → (n : NodeIs x.cells t.near t.field t.old)
        → FitsNext s x.cells t.old.target next → At x.cells (own.index - 1) hidden → IsRef own → length body ≡ 5 → IsNewGeneration x.taken_out own → s.may_publish setup t.near t.field t.old body next t.call
        → Keeps setup x h t.near t.field t.old n (clean own) (update_by t)
        (record x { cells = slice_set (slice_set x.cells (own.index - 1) (linked own.generation body marked)) n.index (relinked x.cells t.near t.field t.old n (clean own) (length h.updates)) })
    -- No link of a record that may be linked is locked
    pub comes_unlocked : (setup : Setup) (x : ShapeInput) (t : NodeStep) (body : List ℕ) (next : Option Near) → NodeIs x.cells t.near t.field t.old → s.may_publish setup t.near t.field t.old body next t.call → (g : ℕ) → s.lockable g ≡ true → 3 ≤ g → ¬ HasLock (link_at body g)
    -- The record that may be taken out is linked, and isn't its own predecessor
    pub gone_linked : (setup : Setup) (x : ShapeInput) (t : NodeStep) (gone : RefParts) (note : Note) (new : LinkParts) (next : Option Near) → s.formed setup x → (n : NodeIs x.cells t.near t.field t.old)
        → t.old.target ≡ Some gone → s.may_unlink setup t.near t.field t.old (at_held gone note) new next t.call → LeadsTo x.cells gone × (n.index ≢ gone.index - 1)
    -- No link of it is locked, and the link that is left in its stead isn't
    pub goes_unlocked : (setup : Setup) (x : ShapeInput) (t : NodeStep) (gone : RefParts) (note : Note) (new : LinkParts) (next : Option Near) (i generation m : ℕ) (body : List ℕ) → s.formed setup x → FitsNear s x.cells (at_held gone note) i generation body m → IsLink new
        → s.may_unlink setup t.near t.field t.old (at_held gone note) new next t.call → (g : ℕ) → s.lockable g ≡ true → 3 ≤ g → ¬ HasLock (link_at body g)
    pub leaves_unlocked : (setup : Setup) (t : NodeStep) (gone : RefParts) (note : Note) (new : LinkParts) (next : Option Near) → s.may_unlink setup t.near t.field t.old (at_held gone note) new next t.call → s.lockable t.field ≡ true → ¬ HasLock new
    -- A record is taken off the link of its predecessor, and no key is
    pub unlinks : (setup : Setup) (x : ShapeInput) (h : Trace) (t : NodeStep) (gone : RefParts) (note : Note) (new : LinkParts) (next : Option Near) (i generation m : ℕ) (body : List ℕ) → Given setup x h → (n : NodeIs x.cells t.near t.field t.old)
        → t.old.target ≡ Some gone → FitsNear s x.cells (at_held gone note) i generation body m → (next ≡ None) ⊎ FitsNext s x.cells new.target next → IsLink new → s.may_unlink setup t.near t.field t.old (at_held gone note) new next t.call
        → Keeps setup x h t.near t.field t.old n new (update_by t)
        (record x {
          cells = slice_set (slice_set x.cells i (out generation body m (length x.taken_out))) n.index (relinked x.cells t.near t.field t.old n new (length h.updates));
          taken_out = x.taken_out ++ gone ∷ [];
        })
    -- A link that may be followed though its node may be marked or taken out behind the guard's start leads to a linked record, or to one that was taken out behind that start, too
    pub follows : (setup : Setup) (x : ShapeInput) (h : Trace) (near : Near) (f : ℕ) (l : LinkParts) (start : Start) (c : ℕ) (kept : List ℕ) (t : RefParts) → Given setup x h → (n : NodeIs x.cells near f l) → At h.starts c start
        → ((k generation m : ℕ) (body : List ℕ) → n.cell ≡ out generation body m k → start.taken_out ≤ k) → s.knows setup x h.updates start (known_near near kept) → s.may_hold_frozen setup near kept f → l.target ≡ Some t
        → LeadsTo x.cells t ⊎ ((k : ℕ) × (start.taken_out ≤ k) × At x.taken_out k t)
    -- Records that leave limbo matter no more
    pub hides : (setup : Setup) (x : ShapeInput) (h : Trace) (cells : List ShapeCell) → Given setup x h → HiddenCells x.cells cells → KeepsHidden setup x h (record x { cells = cells })
    -- What a load of a link shows is true of the history then
    pub shows : (setup : Setup) (x : ShapeInput) (h : Trace) (near : Near) (f : ℕ) (l : LinkParts) (start : Start) (c : ℕ) (target : Option (List ℕ)) → Given setup x h → (n : NodeIs x.cells near f l) → At h.starts c start → TargetSeen x.cells l.target target
        → ((k generation m : ℕ) (body : List ℕ) → n.cell ≡ out generation body m k → start.taken_out ≤ k)
        → s.shown setup (record { node = root_at near; body = n.body; field = f; target = target; marked = n.marked; start = start }) h.updates
    -- What keeps nothing says nothing
    pub nothing : (setup : Setup) (x : ShapeInput) (updates : List Update) (start : Start) (r : RefParts) → s.knows setup x updates start (of_held r [])
    -- A guard may start at any step
    pub begins : (setup : Setup) (x : ShapeInput) (h : Trace) (c : ℕ) → Given setup x h → s.told setup x (record h { starts = slice_set h.starts c (record { taken_out = length x.taken_out; updates = length h.updates }) })

-- the moment of a step before which so many updates took effect
abbrev pub moment : SchemeInput → ℕ → Moment
moment x updates = record { epoch = x.epoch; taken_out = length x.taken_out; updates = updates }

abbrev pub with_cell : SchemeInput → ℕ → SchemeCell → SchemeInput
with_cell x i cell = record x { cells = slice_set x.cells i cell }

abbrev pub with_guard : SchemeInput → ℕ → Guard → SchemeInput
with_guard x d g = record x { guards = slice_set x.guards d g }

-- the record is there at this generation as one that may be held, taken out at this number or later where it was
abbrev pub IsThereAs : SchemeCell → ℕ → ℕ → Type 0
IsThereAs unseen generation start = ⊥
IsThereAs rooted generation start = ⊥
IsThereAs (reachable e b) generation start = e ≡ generation
IsThereAs (unpublished d e b) generation start = ⊥
IsThereAs (unretired d e b n) generation start = (e ≡ generation) × (start ≤ n)
IsThereAs (limbo d e b n s r) generation start = (e ≡ generation) × (start ≤ n)

abbrev pub IsThere : SchemeInput → RefParts → ℕ → Type 0
IsThere x t start = (cell : SchemeCell) × (0 < t.index) × At x.cells (t.index - 1) cell × IsThereAs cell t.generation start

-- what every law may use
pub record IsSafe (setup : Setup) (x : SchemeInput) : Type 0 where
  pub callers : length x.guards ≡ setup.callers
  -- each caller has four announcement words
  pub words : (d : ℕ) (g : Guard) → At x.guards d g → length g.announced ≡ 4
  pub holds : (d p : ℕ) (g : Guard) (t : RefParts) → At x.guards d g → At g.holds p (Some t) → IsThere x t g.start_taken_out
  pub starts : (d : ℕ) (g : Guard) → At x.guards d g → g.start_taken_out ≤ length x.taken_out
  pub taken : (i d e b n : ℕ) → At x.cells i (unretired d e b n) → At x.taken_out n (refer (i + 1) e)
  pub retired : (i d e b n stamp r : ℕ) → At x.cells i (limbo d e b n stamp r) → At x.taken_out n (refer (i + 1) e)
  pub once : (n m : ℕ) (t : RefParts) → At x.taken_out n t → At x.taken_out m t → n ≡ m

-- a guard holds no more than another did, but for this record at this place
abbrev pub HoldsOnly : Guard → Guard → ℕ → Option RefParts → Type 0
HoldsOnly new old p t = (q : ℕ) (r : RefParts) → At new.holds q (Some r) → (At old.holds q (Some r) × (start_of old ≡ start_of new)) ⊎ ((q ≡ p) × (t ≡ Some r))

abbrev pub opening_scheme : Setup → Guard → SchemeInput
opening_scheme setup first = record { epoch = 1; cells = replicate setup.roots rooted ++ replicate (setup.records - setup.roots) unseen; taken_out = []; guards = replicate setup.callers first }

-- the numbers of its start
pub record SameStart (g new : Guard) : Type 0 where
  pub taken_out : new.start_taken_out ≡ g.start_taken_out
  pub updates : new.start_updates ≡ g.start_updates
  pub step : new.start_step ≡ g.start_step

pub record StartsNow (m : Moment) (step : ℕ) (new : Guard) : Type 0 where
  pub taken_out : new.start_taken_out ≡ m.taken_out
  pub updates : new.start_updates ≡ m.updates
  pub step_is : new.start_step ≡ step

-- a guard starts with a step, or started when it did
abbrev pub StartsIf : Bool → Moment → ℕ → Guard → Guard → Type 0
StartsIf true m step g new = StartsNow m step new
StartsIf false m step g new = SameStart g new

-- a guard after it followed a link, beside what it holds
pub record HasReached (c : CoverFacts) (m : Moment) (g : Guard) (q : Reach) (t : Option RefParts) : Type 0 where
  pub holds : HoldsOnly (c.reached m g q t) g q.place t
  pub many : length (c.reached m g q t).holds ≡ length g.holds
  pub words : (c.reached m g q t).announced ≡ g.announced
  -- at the place itself nothing else
  pub only : (r : RefParts) → At (c.reached m g q t).holds q.place (Some r) → t ≡ Some r
  -- it starts with this load, where the reclaimer has guards start so and this is the first one, and else when it did
  pub start : StartsIf (c.begins_loading && q.first) m q.step g (c.reached m g q t)
  -- what waits then is what this led to, and its place holds nothing
  pub waits : (p : ℕ) (r : RefParts) → (c.reached m g q t).pending ≡ Some (p, r) → (p ≡ q.place) × (t ≡ Some r) × ((u : RefParts) → ¬ At (c.reached m g q t).holds q.place (Some u))

abbrev pub limbo_record : ℕ → ℕ → ℕ → ℕ → LimboRecord
limbo_record i generation b stamp = record { reference = refer (i + 1) generation; birth = b; stamp = stamp }

-- a control word has this value
abbrev pub ValueIs : SchemeInput → Word → ℕ → Type 0
ValueIs x Drawn n = Unit {0}
ValueIs x Epoch n = x.epoch ≡ n
ValueIs x Lock n = Unit {0}
ValueIs x Blank n = Unit {0}
ValueIs x (Shelf k) n = Unit {0}
ValueIs x (Announced k) n = (d : ℕ) × (j : ℕ) × (g : Guard) × (k ≡ 4 * d + j) × (j < 4) × At x.guards d g × At g.announced j n
ValueIs x (Cursor c) n = Unit {0}
ValueIs x (Field i f) n = Unit {0}

-- a cell once caller d's limbo records that pass the test left it
pub data IsFreed (may : LimboRecord → Bool) (d i : ℕ) (old : SchemeCell) : SchemeCell → Type 0 where
  goes : (generation b n stamp r : ℕ) → old ≡ limbo d generation b n stamp r → may (limbo_record i generation b stamp) ≡ true → IsFreed may d i old unseen
  stays : ((generation b n stamp r : ℕ) → old ≡ limbo d generation b n stamp r → may (limbo_record i generation b stamp) ≡ false) → IsFreed may d i old old

pub record FreedCells (may : LimboRecord → Bool) (d : ℕ) (cells cells' : List SchemeCell) : Type 0 where
  pub many : length cells' ≡ length cells
  pub each : (i : ℕ) (new : SchemeCell) → At cells' i new → (old : SchemeCell) × At cells i old × IsFreed may d i old new

-- a guard after a load of a control word: it holds what it held, or what waited
pub record HasLoaded (x : SchemeInput) (g new : Guard) : Type 0 where
  pub holds : (p : ℕ) (t : RefParts) → At new.holds p (Some t) → At g.holds p (Some t) ⊎ ((g.pending ≡ Some (p, t)) × IsThere x t g.start_taken_out)
  pub many : length new.holds ≡ length g.holds
  pub words : new.announced ≡ g.announced
  pub start : SameStart g new
  -- what waits still waited before, and then nothing was confirmed
  pub waits : (p : ℕ) (r : RefParts) → new.pending ≡ Some (p, r) → (g.pending ≡ Some (p, r)) × (new.holds ≡ g.holds)

-- a guard after a store of an own word: it holds no more, and starts with it or not
pub record HasStored (m : Moment) (g new : Guard) (begins : Bool) (step k v : ℕ) : Type 0 where
  pub holds : (p : ℕ) (t : RefParts) → At new.holds p (Some t) → At g.holds p (Some t) × (start_of new ≡ start_of g)
  pub many : length new.holds ≡ length g.holds
  pub words : new.announced ≡ slice_set g.announced k v
  pub start : StartsIf begins m step g new
  pub waits : new.pending ≡ None

-- a guard once records left limbo
pub record HasCleared (g new : Guard) : Type 0 where
  pub holds : new.holds ≡ g.holds
  pub waits : new.pending ≡ g.pending
  pub words : new.announced ≡ g.announced
  pub start : SameStart g new

module _ (c : CoverFacts) where
  pub record CoverLaws : Type 0 where
    -- A guard has at least three places, and at first nothing is held
    pub enough : 3 ≤ c.places
    pub many : length c.first.holds ≡ c.places
    pub nothing : (p : ℕ) (t : RefParts) → ¬ At c.first.holds p (Some t)
    pub unstarted : (c.first.start_taken_out ≡ 0) × (c.first.start_updates ≡ 0) × (c.first.start_step ≡ 0)
    pub calm : c.first.pending ≡ None
    pub silent : c.first.announced ≡ replicate 4 0
    pub starts : (setup : Setup) → 0 < setup.roots → c.covered setup (opening_scheme setup c.first)
    -- A record is handed out, with a birth that its caller may give
    pub hands : (setup : Setup) (x : SchemeInput) (i d generation b : ℕ) (g : Guard) → IsSafe setup x → c.covered setup x → At x.cells i unseen → At x.guards d g → c.births g b → c.covered setup (with_cell x i (unpublished d generation b))
    -- Linking and taking out need no announcement
    pub links : (setup : Setup) (x : SchemeInput) (i d generation b : ℕ) → IsSafe setup x → c.covered setup x → At x.cells i (unpublished d generation b) → c.covered setup (with_cell x i (reachable generation b))
    pub takes : (setup : Setup) (x : SchemeInput) (i d generation b : ℕ) → IsSafe setup x → c.covered setup x → At x.cells i (reachable generation b)
        → c.covered setup (record x { cells = slice_set x.cells i (unretired d generation b (length x.taken_out)); taken_out = x.taken_out ++ refer (i + 1) generation ∷ [] })
    -- A record is retired with a stamp that its caller may give
    pub puts : (setup : Setup) (x : SchemeInput) (i d generation b n stamp : ℕ) (g : Guard) → IsSafe setup x → c.covered setup x → At x.cells i (unretired d generation b n) → At x.guards d g → c.stamps g n stamp
        → c.covered setup (with_cell x i (limbo d generation b n stamp x.epoch))
    -- A link is followed to a linked record, or to nothing
    pub reaches : (setup : Setup) (x : SchemeInput) (d updates : ℕ) (g : Guard) (q : Reach) (t : Option RefParts) → IsSafe setup x → c.covered setup x → At x.guards d g → c.may_reach g q
        → MatchOption t (Unit {0}) (λ u. (b : ℕ) × (0 < u.index) × At x.cells (u.index - 1) (reachable u.generation b)) → c.covered setup (with_guard x d (c.reached (moment x updates) g q t))
    pub reached : (m : Moment) (g : Guard) (q : Reach) (t : Option RefParts) → c.may_reach g q → HasReached c m g q t
    -- A guard starts with a load of a link that reaches nothing, and holds nothing
    pub looks : (setup : Setup) (x : SchemeInput) (d step updates : ℕ) (g : Guard) → IsSafe setup x → c.covered setup x → At x.guards d g → c.begins_loading ≡ true → c.covered setup (with_guard x d (started_at (moment x updates) g step))
    -- A control word is loaded
    pub loads : (setup : Setup) (x : SchemeInput) (d updates n : ℕ) (g : Guard) (word : Word) → IsSafe setup x → c.covered setup x → At x.guards d g → ValueIs x word n → c.covered setup (with_guard x d (c.loaded setup (moment x updates) d g word n))
    pub loaded : (setup : Setup) (x : SchemeInput) (d updates n : ℕ) (g : Guard) (word : Word) → IsSafe setup x → c.covered setup x → At x.guards d g → ValueIs x word n → HasLoaded x g (c.loaded setup (moment x updates) d g word n)
    pub shown : (setup : Setup) (x : SchemeInput) (d n : ℕ) (g : Guard) (word : Word) → IsSafe setup x → c.covered setup x → At x.guards d g → ValueIs x word n → c.shows setup g word n
    -- Nobody holds a record that may leave limbo, and all that may leave it at once
    pub free_of : (setup : Setup) (x : SchemeInput) (i d generation b n stamp r : ℕ) (g : Guard) → IsSafe setup x → c.covered setup x → At x.guards d g → At x.cells i (limbo d generation b n stamp r)
        → c.may_free setup g (limbo_record i generation b stamp) ≡ true → (e p : ℕ) (k : Guard) (t : RefParts) → At x.guards e k → At k.holds p (Some t) → t.index ≢ i + 1
    pub frees : (setup : Setup) (x : SchemeInput) (d : ℕ) (g : Guard) (cells : List SchemeCell) → IsSafe setup x → c.covered setup x → At x.guards d g → FreedCells (c.may_free setup g) d x.cells cells
        → c.covered setup (record x { cells = cells; guards = slice_set x.guards d (c.cleared setup g) })
    pub cleared : (setup : Setup) (g : Guard) → HasCleared g (c.cleared setup g)
    -- A caller stores in one of its own announcement words, or exchanges the epoch
    pub stores : (setup : Setup) (x : SchemeInput) (d k v step updates : ℕ) (g : Guard) → IsSafe setup x → c.covered setup x → At x.guards d g → k < 4 → c.may_store setup g k v → c.covered setup (with_guard x d (c.stored (moment x updates) g step k v))
    pub stored : (setup : Setup) (m : Moment) (g : Guard) (step k v : ℕ) → c.may_store setup g k v → HasStored m g (c.stored m g step k v) (c.begins g k v) step k v
    pub exchanges : (setup : Setup) (x : SchemeInput) (d old new : ℕ) (g : Guard) → IsSafe setup x → c.covered setup x → At x.guards d g → c.may_exchange setup g old new → x.epoch ≡ old → c.covered setup (record x { epoch = new })
