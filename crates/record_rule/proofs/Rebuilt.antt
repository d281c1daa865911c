-- The rule after a step: what a seat's view has to do with the books, and the rule put together from its parts.
use Rattle.std.proofs.Common.{◌≡◌, ◌≢◌, ℕ, zero, suc, ◌≤◌, List, [], ◌∷◌, ◌++◌, length, length-append, get_or, set, Bool, true, sym, refl, ap, ◌∙◌, subst, arith, ⊎_elim, Some, None, inl}
use Rattle.std.proofs.lemmas.List.{append-nil, append_assoc}
use mathlib.Core.Option.{some, some-injective}
use Rattle.row_words.specs.Refs.{RefParts}
use lib.ListN.{get_elem?}
use Rattle.atomic_table.specs.Table.{State}
use Rattle.atomic_table.proofs.Lists.{at_set, set_here, set_else}
use Rattle.set_model.specs.declared.calls.Update.{Update}
use Rattle.set_model.specs.declared.names.AllocatorName.TheVariants.{Once}
use Rattle.record_memory.specs.declared.books.Setup.{Setup}
use Rattle.record_memory.specs.declared.books.View.{View}
use Rattle.record_memory.specs.declared.steps.Step.{Step}
use Rattle.record_memory.specs.declared.books.Book.{Book}
use Rattle.record_memory.specs.declared.books.Guard.{Guard}
use Rattle.record_memory.specs.declared.books.Note.{Note}
use Rattle.record_memory.specs.declared.books.Moves.{Moves}
use Rattle.record_memory.specs.Memory.{Memory, memory, size}
use Rattle.row_words.specs.Refs.{RefParts}
use Rattle.record_rule.specs.Records.{Record}
use Rattle.record_rule.specs.Inputs.{outline}
use Rattle.record_rule.specs.Facts.{At, ShapeFacts, CoverFacts}
use Rattle.record_memory.specs.declared.books.Answered.{Answered}
use Rattle.record_rule.specs.Histories.{after}
use Rattle.record_rule.specs.World.{StartsWith, carried_if, carries, IsRecent, SeatFits, Places, Parts, Rule}
use Rattle.record_rule.specs.Counts.{CountsFit}
use Rattle.record_rule.specs.Recorded.{IsStepOn, LeavesWord, StepFits, FoundWithin}
use Rattle.record_memory.specs.declared.steps.Word.{Word}
use Rattle.record_memory.specs.declared.steps.Word.TheVariants.{Drawn, Epoch, Lock, Blank, Shelf, Announced, Cursor, Field}
use Rattle.record_memory.specs.declared.steps.StepKind.TheVariants.{Load}
use Rattle.record_rule.proofs.Lists.{below_at, each_set, each_more, one_at}
use Rattle.record_rule.proofs.Recents.{recent_more}
use Rattle.record_rule.proofs.Retirements.{LeavesRetirements, retirements_more}

-- the view with another book of its own caller
abbrev with_own : View → Book → View
with_own v b = record v { own = b }

-- a caller's pass carries its own book first
pub carries_own : (v : View) → v.present ≡ true → carries v ≡ v.own ∷ v.others
carries_own v present = ap (λ (b : Bool). carried_if b v) present

-- the book is in its place, and in the seat of the pass
pub own_book : (setup : Setup) (books : List Book) (seats : List ℕ) (taken_out : List RefParts) (updates : List Update) (j : ℕ) (v : View) → v.present ≡ true → SeatFits setup books seats taken_out updates j v
    → (get_elem? books v.own.caller ≡ some v.own) × (get_elem? seats v.own.caller ≡ some j)
own_book setup books seats taken_out updates j v present f = f.books_are 0 v.own (ap (λ (l : List Book). get_elem? l 0) (carries_own v present))

-- a book that is carried after the step is the caller's own or was carried before
still_carried : (v : View) (own : Book) → own.caller ≡ v.own.caller → (p : ℕ) (b : Book) → get_elem? (own ∷ v.others) p ≡ some b → (a : Book) × (get_elem? (v.own ∷ v.others) p ≡ some a) × (a.caller ≡ b.caller)
still_carried v own same zero b e = (v.own, refl, sym same ∙ ap (λ (z : Book). z.caller) (some-injective own b e))
still_carried v own same (suc p) b e = (b, e, refl)

module _ {A : Type 0} where
  -- a list begins with itself
  pub starts_itself : (xs : List A) → StartsWith xs xs
  starts_itself xs = ([], sym (append-nil xs))

  -- a longer one begins with it
  pub starts_more : (xs ys : List A) → StartsWith (xs ++ ys) xs
  starts_more xs ys = (ys, refl)

  -- and what begins it begins the longer one
  pub starts_then : (xs ys zs : List A) → StartsWith ys xs → StartsWith zs ys → StartsWith zs xs
  starts_then xs ys zs p q = (p.0 ++ q.0, q.1 ∙ ap (λ l. l ++ q.0) p.1 ∙ append_assoc xs p.0 q.0)

-- What a step may leave of its caller's view: its own book is another one, and what it has seen of the two lists of the whole table is no less
pub record Steps (table : Setup) (taken_out : List RefParts) (updates : List Update) (v w : View) : Type 0 where
  pub setup : w.setup ≡ v.setup
  pub present : w.present ≡ true
  pub others : w.others ≡ v.others
  pub caller : w.own.caller ≡ v.own.caller
  pub front : StartsWith updates w.front
  pub seen_updates : StartsWith updates w.seen_updates
  pub seen_taken_out : StartsWith taken_out w.seen_taken_out
  pub longer : length v.front ≤ length w.front
  pub more_noted : (length v.seen_updates ≤ length w.seen_updates) × (length v.seen_taken_out ≤ length w.seen_taken_out)
  pub behind : (n : ℕ) (a : Answered) → At w.own.answered n a → after a ≤ length w.front
  pub recent : IsRecent (length v.seen_updates) (length v.seen_taken_out) v.own.guard v.own.notes → IsRecent (length w.seen_updates) (length w.seen_taken_out) w.own.guard w.own.notes
  -- its guard started at a step that was made
  pub start_made : v.own.guard.start_step ≤ length v.own.steps → w.own.guard.start_step ≤ length w.own.steps
  -- and each step on a held record found its generation
  pub made : ((n : ℕ) (t : Step) → At v.own.steps n t → StepFits table v.own.caller t) → (n : ℕ) (t : Step) → At w.own.steps n t → StepFits table v.own.caller t

module _ (setup : Setup) (books : List Book) (seats : List ℕ) (taken_out taken_out' : List RefParts) (updates updates' : List Update) (more_taken_out : StartsWith taken_out' taken_out) (more_updates : StartsWith updates' updates) where
  -- the carried books are in their places after the step
  carried_now : (j : ℕ) (v : View) (own : Book) → v.present ≡ true → SeatFits setup books seats taken_out updates j v → own.caller ≡ v.own.caller
      → (p : ℕ) (b : Book) → get_elem? (own ∷ v.others) p ≡ some b → (get_elem? (set books v.own.caller own) b.caller ≡ some b) × (get_elem? seats b.caller ≡ some j)
  carried_now j v own present f same zero b e = let here = own_book setup books seats taken_out updates j v present f in
      subst (λ (z : Book). (get_elem? (set books v.own.caller own) z.caller ≡ some z) × (get_elem? seats z.caller ≡ some j)) (some-injective own b e)
      (ap (get_elem? (set books v.own.caller own)) same ∙ set_here books v.own.caller own (below_at books v.own.caller v.own here.0), ap (get_elem? seats) same ∙ here.1)
  carried_now j v own present f same (suc p) b e = let first = carries_own v present in let there : At (carries v) (suc p) b = subst (λ l. At l (suc p) b) (sym first) e in let was = f.books_are (suc p) b there in
      let other : b.caller ≢ v.own.caller = λ h. let z = f.apart (suc p) 0 b v.own there (subst (λ l. At l 0 v.own) (sym first) refl) h in omega arith in
      (set_else books v.own.caller b.caller own other ∙ was.0, was.1)

  -- and the pass has seen what comes before their calls
  behind_now : (j : ℕ) (v w : View) → v.present ≡ true → SeatFits setup books seats taken_out updates j v → Steps setup taken_out' updates' v w → (p n : ℕ) (b : Book) (a : Answered) → get_elem? (w.own ∷ v.others) p ≡ some b → At b.answered n a → after a ≤ length w.front
  behind_now j v w present f s zero n b a e h = s.behind n a (ap (λ (z : Book). get_elem? z.answered n) (some-injective w.own b e) ∙ h)
  behind_now j v w present f s (suc p) n b a e h = let k = f.behind (suc p) n b a (subst (λ l. At l (suc p) b) (sym (carries_own v present)) e) h in let l = s.longer in omega arith

  -- and noted what its callers' guards and notes speak of
  recent_now : (j : ℕ) (v w : View) → v.present ≡ true → SeatFits setup books seats taken_out updates j v → Steps setup taken_out' updates' v w → (p : ℕ) (b : Book) → get_elem? (w.own ∷ v.others) p ≡ some b → IsRecent (length w.seen_updates) (length w.seen_taken_out) b.guard b.notes
  recent_now j v w present f s zero b e = subst (λ (z : Book). IsRecent (length w.seen_updates) (length w.seen_taken_out) z.guard z.notes) (some-injective w.own b e)
      (s.recent (f.recent 0 v.own (ap (λ (l : List Book). get_elem? l 0) (carries_own v present))))
  recent_now j v w present f s (suc p) b e = recent_more (length v.seen_updates) (length w.seen_updates) (length v.seen_taken_out) (length w.seen_taken_out) b.guard b.notes s.more_noted.0 s.more_noted.1
      (f.recent (suc p) b (subst (λ l. At l (suc p) b) (sym (carries_own v present)) e))

  -- the seat that made the step
  own_seat : (j : ℕ) (v w : View) → v.present ≡ true → SeatFits setup books seats taken_out updates j v → Steps setup taken_out' updates' v w → SeatFits setup (set books v.own.caller w.own) seats taken_out' updates' j w
  own_seat j v w present f s = let first = carries_own v present in let then : carries w ≡ w.own ∷ v.others = carries_own w s.present ∙ ap (λ l. w.own ∷ l) s.others in record {
    setup_is = λ _. s.setup ∙ f.setup_is present;
    books_are = λ p b e. carried_now j v w.own present f s.caller p b (subst (λ l. At l p b) then e);
    apart = λ p q a b ea eb h. let x = still_carried v w.own s.caller p a (subst (λ l. At l p a) then ea) in let y = still_carried v w.own s.caller q b (subst (λ l. At l q b) then eb) in
        f.apart p q x.0 y.0 (subst (λ l. At l p x.0) (sym first) x.1) (subst (λ l. At l q y.0) (sym first) y.1) (x.2 ∙ h ∙ sym y.2);
    front = s.front;
    seen_updates = s.seen_updates;
    seen_taken_out = s.seen_taken_out;
    behind = λ p n b a e h. behind_now j v w present f s p n b a (subst (λ l. At l p b) then e) h;
    recent = λ p b e. recent_now j v w present f s p b (subst (λ l. At l p b) then e);
  }

  -- another seat
  other_seat : (i j : ℕ) (w : View) (c : ℕ) (own : Book) → get_elem? seats c ≡ some i → j ≢ i → SeatFits setup books seats taken_out updates j w → SeatFits setup (set books c own) seats taken_out' updates' j w
  other_seat i j w c own at ne f = record {
    setup_is = f.setup_is;
    books_are = λ p b e. let was = f.books_are p b e in let else : b.caller ≢ c = λ h. ne (one_at seats c j i (ap (get_elem? seats) (sym h) ∙ was.1) at) in (set_else books c b.caller own else ∙ was.0, was.1);
    apart = f.apart;
    front = starts_then w.front updates updates' f.front more_updates;
    seen_updates = starts_then w.seen_updates updates updates' f.seen_updates more_updates;
    seen_taken_out = starts_then w.seen_taken_out taken_out taken_out' f.seen_taken_out more_taken_out;
    behind = f.behind;
    recent = f.recent;
  }

  -- so each seat fits
  seats_after : (views : List View) (id : ℕ) (v x : View) → get_elem? views id ≡ some v → v.present ≡ true → Steps setup taken_out' updates' v x
      → ((j : ℕ) (w : View) → get_elem? views j ≡ some w → SeatFits setup books seats taken_out updates j w)
      → (j : ℕ) (w : View) → get_elem? (set views id x) j ≡ some w → SeatFits setup (set books v.own.caller x.own) seats taken_out' updates' j w
  seats_after views id v x at here s all j w e = let mine = all id v at in
      ⊎_elim (λ t. subst (λ (z : ℕ). SeatFits setup (set books v.own.caller x.own) seats taken_out' updates' z w) (sym t.0) (subst (SeatFits setup (set books v.own.caller x.own) seats taken_out' updates' id) t.1 (own_seat id v x here mine s)))
      (λ t. other_seat id j w v.own.caller x.own (own_book setup books seats taken_out updates id v here mine).1 t.0 (all j w t.1))
      (at_set views id j x w e)

-- each step found what it should, after one more that did
pub made_more : (setup : Setup) (c : ℕ) (steps : List Step) (step : Step) → StepFits setup c step → ((n : ℕ) (t : Step) → At steps n t → StepFits setup c t) → (n : ℕ) (t : Step) → At (steps ++ step ∷ []) n t → StepFits setup c t
made_more setup c steps step finds = each_more (StepFits setup c) steps step finds

-- What a step of caller c leaves of the number of records drawn is no less than before, and no less than it found there. Where the allocator is `Once`, its cursor is still the number of records that it drew, and it leaves the others' cursors
pub record LeavesDrawn (setup : Setup) (before after : Memory) (c : ℕ) (moves moves' : Moves) (t : Step) : Type 0 where
  pub grows : before.drawn ≤ after.drawn
  pub found : FoundWithin after.drawn t
  pub own : setup.allocator ≡ Once → get_or before.cursors c 0 ≡ moves.drawn → get_or after.cursors c 0 ≡ moves'.drawn
  pub others : setup.allocator ≡ Once → (d : ℕ) → d ≢ c → get_or after.cursors d 0 ≡ get_or before.cursors d 0

-- the words that count the records drawn
abbrev pub counters : Memory → ℕ × List ℕ
counters m = (m.drawn, m.cursors)

-- as a step does that draws no record and leaves the words that count them, and found in the shared one what is there
pub leaves_drawn : {setup : Setup} {before after : Memory} {c : ℕ} {moves moves' : Moves} {t : Step} → counters after ≡ counters before → moves'.drawn ≡ moves.drawn → FoundWithin before.drawn t → LeavesDrawn setup before after c moves moves' t
leaves_drawn {before = before} {after = after} {c = c} same calm within = let drawn : after.drawn ≡ before.drawn = ap (λ (p : ℕ × List ℕ). p.0) same in let cursors : after.cursors ≡ before.cursors = ap (λ (p : ℕ × List ℕ). p.1) same in record {
  grows = omega arith;
  found = λ e. let h = within e in omega arith;
  own = λ _ was. ap (λ (l : List ℕ). get_or l c 0) cursors ∙ was ∙ sym calm;
  others = λ _ d _. ap (λ (l : List ℕ). get_or l d 0) cursors;
}

-- or one on another word
pub elsewhere : {setup : Setup} {before after : Memory} {c : ℕ} {moves moves' : Moves} (t : Step) → counters after ≡ counters before → moves'.drawn ≡ moves.drawn → ¬ (t.word ≡ Drawn) → LeavesDrawn setup before after c moves moves' t
elsewhere t same calm other = leaves_drawn same calm (λ e. absurd (other e))

-- a load may be made of any word
pub load_on : (setup : Setup) (c : ℕ) (w : Word) → IsStepOn setup c w Load
load_on setup c Drawn = inl refl
load_on setup c Epoch = inl refl
load_on setup c Lock = refl
load_on setup c Blank = refl
load_on setup c (Shelf j) = inl refl
load_on setup c (Announced j) = inl refl
load_on setup c (Cursor d) = inl refl
load_on setup c (Field i f) = inl refl

-- a step on no held record
pub not_held : (setup : Setup) (c : ℕ) (t : Step) → t.held ≡ None → IsStepOn setup c t.word t.kind → ((i f : ℕ) → t.word ≡ Field i f → LeavesWord setup i t.kind t.found t.left) → StepFits setup c t
not_held setup c t none on leaves = record {
  kind = on;
  word = λ r e. let no_such : None ≡ Some r = sym none ∙ e in let wrong : ⊥ = cc in absurd wrong;
  own = λ r e. let no_such : None ≡ Some r = sym none ∙ e in
      let wrong : ⊥ = cc in absurd wrong;
  left = λ r e. let no_such : None ≡ Some r = sym none ∙ e in let wrong : ⊥ = cc in absurd wrong;
  by = λ r e. let no_such : None ≡ Some r = sym none ∙ e in let wrong : ⊥ = cc in absurd wrong;
  unheld = λ _. leaves;
}

-- as one on no record's word is
pub no_field : (setup : Setup) (c : ℕ) (t : Step) → t.held ≡ None → IsStepOn setup c t.word t.kind → ((i f : ℕ) → ¬ (t.word ≡ Field i f)) → StepFits setup c t
no_field setup c t none on other = not_held setup c t none on (λ i f e. absurd (other i f e))

-- a step that was made still was, after one more
pub one_more : (n : ℕ) (steps : List Step) (t : Step) → n ≤ length steps → n ≤ length (steps ++ t ∷ [])
one_more n steps t h = let l = length-append steps (t ∷ []) in omega arith

module _ (shape : ShapeFacts) (cover : CoverFacts) (setup : Setup) where
  -- what the words say
  abbrev read : List ℕ → Memory
  read ws = memory setup.callers setup.records ws

  -- the rule with other passes, which carry the same books, in these seats
  pub reviewed : (s : State (Unit {0}) View) (u : Rule shape cover setup s) (seats : List ℕ) (views : List View) → ((j : ℕ) (w : View) → get_elem? views j ≡ some w → SeatFits setup u.books seats u.taken_out u.updates j w)
      → Rule shape cover setup record { words = s.words; homes = s.homes; views = views }
  reviewed s u seats views fits = record {
    records = u.records;
    books = u.books;
    seats = seats;
    taken_out = u.taken_out;
    updates = u.updates;
    set_is = u.set_is;
    reclaimer_is = u.reclaimer_is;
    wide = u.wide;
    places = u.places;
    parts = u.parts;
    counts = u.counts;
    cursors = u.cursors;
    retirements = u.retirements;
    start_made = u.start_made;
    made = u.made;
    seen = u.seen;
    seated = fits;
  }

  -- The rule after a step of the pass in seat id, which knew v and then knows w
  pub stepped : (t : State (Unit {0}) View) (u : Rule shape cover setup t) (id : ℕ) (v w : View) → get_elem? t.views id ≡ some v → v.present ≡ true
      → (ws : List ℕ) → length ws ≡ size setup.callers setup.records → (records : List Record) (taken_out : List RefParts) (updates : List Update) → StartsWith taken_out u.taken_out → StartsWith updates u.updates → Steps setup taken_out updates v w
      → (step : Step) → w.own.steps ≡ v.own.steps ++ step ∷ [] → LeavesDrawn setup (read t.words) (read ws) v.own.caller v.own.moves w.own.moves step → LeavesRetirements setup.first u.records records step
      → Places setup records (set u.books v.own.caller w.own) (read ws)
      → Parts shape cover setup (outline (read ws) records (set u.books v.own.caller w.own) taken_out updates) → CountsFit setup.first records (set u.books v.own.caller w.own)
      → Rule shape cover setup record { words = ws; homes = t.homes; views = set t.views id w }
  stepped t u id v w at here ws wide records taken_out updates more_taken_out more_updates s step steps drawn retires places parts counts = record {
    records = records;
    books = set u.books v.own.caller w.own;
    seats = u.seats;
    taken_out = taken_out;
    updates = updates;
    set_is = u.set_is;
    reclaimer_is = u.reclaimer_is;
    wide = wide;
    places = places;
    parts = parts;
    counts = counts;
    cursors = λ once c b e. ⊎_elim
        (λ q. ap (λ (z : ℕ). get_or (read ws).cursors z 0) q.0 ∙ drawn.own once (u.cursors once v.own.caller v.own (own_book setup u.books u.seats u.taken_out u.updates id v here (u.seated id v at)).0) ∙ ap (λ (z : Book). z.moves.drawn) q.1)
        (λ q. drawn.others once c q.0 ∙ u.cursors once c b q.1) (at_set u.books v.own.caller c w.own b e);
    retirements = retirements_more setup.first u.records records u.books v.own.caller v.own w.own step (own_book setup u.books u.seats u.taken_out u.updates id v here (u.seated id v at)).0 steps retires u.retirements;
    start_made = each_set (λ c b. b.guard.start_step ≤ length b.steps) u.books v.own.caller w.own u.start_made (s.start_made (u.start_made v.own.caller v.own (own_book setup u.books u.seats u.taken_out u.updates id v here (u.seated id v at)).0));
    made = each_set (λ c b. (n : ℕ) (t : Step) → At b.steps n t → StepFits setup c t) u.books v.own.caller w.own u.made (s.made (u.made v.own.caller v.own (own_book setup u.books u.seats u.taken_out u.updates id v here (u.seated id v at)).0));
    seen = let now : ℕ = (read ws).drawn in let more : (c : ℕ) (b : Book) → At u.books c b → (n : ℕ) (x : Step) → At b.steps n x → FoundWithin now x = λ c b e n x i on. let h = u.seen c b e n x i on in let g = drawn.grows in omega arith in
        each_set (λ c b. (n : ℕ) (x : Step) → At b.steps n x → FoundWithin now x) u.books v.own.caller w.own more
        (λ n x e. each_more (FoundWithin now) v.own.steps step drawn.found (more v.own.caller v.own (own_book setup u.books u.seats u.taken_out u.updates id v here (u.seated id v at)).0) n x (ap (λ l. get_elem? l n) (sym steps) ∙ e));
    seated = seats_after setup u.books u.seats u.taken_out taken_out u.updates updates more_taken_out more_updates t.views id v w at here s u.seated;
  }

  -- the same after a step that changes nothing but words, records and the book of its caller, which answers no call
  pub rebuilt : (t : State (Unit {0}) View) (u : Rule shape cover setup t) (id : ℕ) (v : View) → get_elem? t.views id ≡ some v → v.present ≡ true
      → (ws : List ℕ) → length ws ≡ size setup.callers setup.records → (records : List Record) (own : Book) (step : Step) → StepFits setup v.own.caller step → own.caller ≡ v.own.caller → own.answered ≡ v.own.answered → own.guard ≡ v.own.guard → own.notes ≡ v.own.notes
      → own.steps ≡ v.own.steps ++ step ∷ [] → LeavesDrawn setup (read t.words) (read ws) v.own.caller v.own.moves own.moves step → LeavesRetirements setup.first u.records records step
      → Places setup records (set u.books v.own.caller own) (read ws)
      → Parts shape cover setup (outline (read ws) records (set u.books v.own.caller own) u.taken_out u.updates) → CountsFit setup.first records (set u.books v.own.caller own)
      → Rule shape cover setup record { words = ws; homes = t.homes; views = set t.views id (with_own v own) }
  rebuilt t u id v at here ws wide records own step finds same calls guard notes steps drawn retires places parts counts = let f = u.seated id v at in
      stepped t u id v (with_own v own) at here ws wide records u.taken_out u.updates (starts_itself u.taken_out) (starts_itself u.updates) record {
        setup = refl;
        present = here;
        others = refl;
        caller = same;
        front = f.front;
        seen_updates = f.seen_updates;
        seen_taken_out = f.seen_taken_out;
        longer = omega arith;
        more_noted = (omega arith, omega arith);
        recent = subst (λ (z : Guard × List Note). IsRecent (length v.seen_updates) (length v.seen_taken_out) z.0 z.1) (λ k. (sym guard k, sym notes k));
        behind = λ n a h. f.behind 0 n v.own a (ap (λ (l : List Book). get_elem? l 0) (carries_own v here)) (ap (λ l. get_elem? l n) (sym calls) ∙ h);
        made = λ h n a e. made_more setup v.own.caller v.own.steps step finds h n a (ap (λ l. get_elem? l n) (sym steps) ∙ e);
        start_made = λ h. subst (λ (z : ℕ × ℕ). z.0 ≤ z.1) (λ k. (sym (ap (λ (g : Guard). g.start_step) guard) k, sym (ap length steps) k)) (one_more v.own.guard.start_step v.own.steps step h);
      } step steps drawn retires places parts counts
