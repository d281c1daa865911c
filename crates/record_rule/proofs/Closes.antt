-- Once one pass carries the books of all callers, its front is the whole history, but for what waits to be taken up.
use Rattle.std.proofs.Common.{◌≡◌, ℕ, suc, ◌+◌, ◌-◌, ◌≤◌, List, [], ◌∷◌, ◌++◌, map, length, Option, Some, None, ⊎_elim, sym, refl, ap, ◌∙◌, subst, arith}
use Rattle.std.proofs.lemmas.List.{ext_get_or}
use mathlib.Core.Option.{some}
use lib.ListN.{get_elem?}
use Rattle.atomic_table.specs.Table.{State}
use Rattle.atomic_table.proofs.Lists.{at_map}
use Rattle.set_model.specs.declared.calls.Update.{Update}
use Rattle.set_model.specs.declared.names.SetName.{SetName}
use Rattle.record_memory.specs.declared.books.Setup.{Setup}
use Rattle.record_memory.specs.declared.books.View.{View}
use Rattle.record_memory.specs.declared.books.Book.{Book}
use Rattle.record_memory.specs.Memory.{memory}
use Rattle.record_rule.specs.Records.{IsSetup}
use Rattle.record_rule.specs.Inputs.{answered_of, offer_of, outline}
use Rattle.record_rule.specs.Facts.{At, ShapeFacts, CoverFacts}
use Rattle.record_rule.specs.Walks.{read_for, rows_ground}
use Rattle.record_rule.specs.Laws.{ShapeLaws}
use Rattle.record_rule.specs.Histories.{after, after_by, IsAnswered, IsWaiting, HistoryFits}
use Rattle.record_rule.specs.World.{carries, Places, Parts, Rule}
use Rattle.record_rule.specs.ClosedTables.{AreAllAnswered, IsWhole, ClosedFits}
use Rattle.record_rule.specs.PlaceCounts.{CountsAddUp}
use Rattle.record_rule.specs.Counts.{CountsFit}
use Rattle.record_rule.specs.Retirements.{RetirementsFit, AreRetiredBetween}
use Rattle.record_rule.proofs.CountingPlaces.{counts_add_up}
use Rattle.record_rule.proofs.CountingTakings.{taken_out_counted}
use Rattle.record_rule.proofs.Lists.{at_below, get_at, map_at}
use Rattle.record_rule.proofs.RetirementMoves.{retired_between}
use Rattle.record_rule.proofs.Steps.{given}
use Rattle.record_rule.proofs.Walking.{has_roots, rows_read}

-- lists of one length with the same entries are the same
same_entries : {A : Type 0} (d : A) (xs ys : List A) → length xs ≡ length ys → ((i : ℕ) (a : A) → At xs i a → At ys i a) → xs ≡ ys
same_entries d xs ys long each = ext_get_or d xs ys long (λ i lt. let x = at_below xs i lt in get_at xs i x.0 d x.1 ∙ sym (get_at ys i x.0 d (each i x.0 x.1)))

-- an entry behind a list
at_behind : {A : Type 0} (xs ys : List A) (i : ℕ) (a : A) → At ys i a → At (xs ++ ys) (length xs + i) a
at_behind [] ys i a at = subst (λ (k : ℕ). At ys k a) (let e : i ≡ 0 + i = omega arith in e) at
at_behind (x ∷ xs) ys i a at = subst (λ (k : ℕ). At (x ∷ xs ++ ys) k a) (let e : suc (length xs + i) ≡ length (x ∷ xs) + i = omega arith in e) (at_behind xs ys i a at)

-- a list without a first entry has none
nil_if : {A : Type 0} (xs : List A) → ((a : A) → ¬ At xs 0 a) → xs ≡ []
nil_if [] none = refl
nil_if (x ∷ xs) none = absurd (none x refl)

-- nothing, or something that leads to nothing
open_or : {A : Type 0} (o : Option A) → ((a : A) → o ≡ Some a → o ≡ None) → o ≡ None
open_or None else = refl
open_or (Some a) else = else a refl

module _ (s : ShapeFacts) (name : SetName) (books : List Book) (updates waiting : List Update) (history : HistoryFits s name updates (map answered_of books) (map offer_of books))
    (at : ℕ) (waits : (i : ℕ) (u : Update) → At waiting i u → IsWaiting s name (map offer_of books) (at + i) u) where
  -- nothing waits where no caller has a call open
  none_waits : AreAllAnswered books → waiting ≡ []
  none_waits none = nil_if waiting (λ u e. let x = waits 0 u e in let y = map_at offer_of books u.caller (Some x.offer) x.at in let differs : None ≡ Some x.offer = sym (none u.caller y.0 y.1) ∙ y.2 in cc)

  -- as none has in a set without helping
  none_open : ¬ s.helped → AreAllAnswered books
  none_open alone d b e = open_or b.offer (λ o is. absurd (alone (history.offered d b.answered o (at_map answered_of books d b e) (at_map offer_of books d b e ∙ ap some is)).helped))

module _ (s : ShapeFacts) (c : CoverFacts) (setup : Setup) (t : State (Unit {0}) View) (u : Rule s c setup t) (id : ℕ) (v : View) (at : get_elem? t.views id ≡ some v)
    (many : length (carries v) ≡ setup.callers) (numbered : (d : ℕ) (b : Book) → At (carries v) d b → b.caller ≡ d) where
  -- it carries the book of each caller
  carried : (d : ℕ) (b : Book) → At (carries v) d b → At u.books d b
  carried d b e = subst (λ (k : ℕ). At u.books k b) (numbered d b e) ((u.seated id v at).books_are d b e).0

  all_books : carries v ≡ u.books
  all_books = same_entries v.own (carries v) u.books (many ∙ sym u.places.callers) carried

  -- what comes behind its front isn't answered
  unanswered : (i : ℕ) (w : Update) → length v.front ≤ i → ¬ IsAnswered s setup.set u.updates (map answered_of u.books) i w
  unanswered i w le a =
      let x = map_at answered_of u.books w.caller a.book a.at in
      let there : At x.0.answered (w.number - 1) a.entry = subst (λ l. At l (w.number - 1) a.entry) (sym x.2) a.there in
      let seen : after a.entry ≤ length v.front = (u.seated id v at).behind w.caller (w.number - 1) x.0 a.entry (subst (λ l. At l w.caller x.0) (sym all_books) x.1) there in
      let e : after a.entry ≡ a.entry.position + 1 = ap (λ d. after_by d a.entry.position) a.decided in
      let p = a.position in absurd (omega arith)

  -- what the front leaves of the updates
  abbrev behind : List Update
  behind = (u.seated id v at).front.0

  split : u.updates ≡ v.front ++ behind
  split = (u.seated id v at).front.1

  is_waiting : (i : ℕ) (w : Update) → At behind i w → IsWaiting s setup.set (map offer_of u.books) (length v.front + i) w
  is_waiting i w e = ⊎_elim
      (λ a. absurd (unanswered (length v.front + i) w (omega arith) a))
      (λ a. a)
      (u.parts.history.answered (length v.front + i) w (subst (λ l. At l (length v.front + i) w) (sym split) (at_behind v.front behind i w e)))

  abbrev parts_are : List Book → List Update → Type 0
  parts_are books updates = Parts s c setup (outline (memory setup.callers setup.records t.words) u.records books u.taken_out updates)

  parts : parts_are (carries v) (v.front ++ behind)
  parts = subst (λ books. parts_are books (v.front ++ behind)) (sym all_books) (subst (parts_are u.books) split u.parts)

  waits : (i : ℕ) (w : Update) → At behind i w → IsWaiting s setup.set (map offer_of (carries v)) (length v.front + i) w
  waits = subst (λ books. (i : ℕ) (w : Update) → At behind i w → IsWaiting s setup.set (map offer_of books) (length v.front + i) w) (sym all_books) is_waiting

  is_whole : IsWhole s setup (carries v) v.front behind
  is_whole = record {
    fits = parts.history;
    waits = waits;
    answered = none_waits s setup.set (carries v) _ behind parts.history (length v.front) waits;
    unhelped = λ alone. none_waits s setup.set (carries v) _ behind parts.history (length v.front) waits (none_open s setup.set (carries v) _ behind parts.history (length v.front) waits alone);
  }

  -- what a walk over the rows reads
  rows_are_read : ShapeLaws s → IsSetup setup → read_for setup.set (rows_ground s setup.roots (memory setup.callers setup.records t.words).rows) (v.front ++ behind)
  rows_are_read laws numbers = let facts = given s c setup t u in
      subst (λ (z : SetName × (List (List ℕ) × List Update)). read_for z.0 (rows_ground s setup.roots z.1.0) z.1.1) (λ k. (sym u.set_is k, (u.places.rows k, split k)))
      (rows_read s setup u.records u.places.sound (laws.walks setup _ _ facts) u.updates (laws.reads setup _ _ facts (has_roots s setup u.records u.places.sound numbers.roots (let m = u.places.many in let f = numbers.rooted in omega arith))))

  -- the rule of a table whose last pass carries all books
  pub closed_fits : ShapeLaws s → IsSetup setup → ClosedFits s c setup t.words (carries v) v.front
  closed_fits laws numbers = record {
    numbers = numbers;
    set_is = u.set_is;
    reclaimer_is = u.reclaimer_is;
    wide = u.wide;
    found = λ d b e n step. u.made d b (carried d b e) n step;
    seen = λ d b e n step. u.seen d b (carried d b e) n step;
    records = u.records;
    placed = subst (λ books. Places setup u.records books (memory setup.callers setup.records t.words)) (sym all_books) u.places;
    counted = subst (λ rows. CountsAddUp setup rows u.records u.taken_out) u.places.rows (counts_add_up setup numbers u.records u.places.many u.places.sound u.taken_out (taken_out_counted setup u.records u.taken_out u.places.sound u.parts.taken));
    taken_out = u.taken_out;
    taken = u.parts.taken;
    moved = subst (CountsFit setup.first u.records) (sym all_books) u.counts;
    retirements = subst (RetirementsFit setup.first u.records) (sym all_books) u.retirements;
    retired_between = subst (AreRetiredBetween setup.first) (sym all_books) (retired_between setup.first u.records u.books u.retirements);
    waiting = behind;
    whole = is_whole;
    read = rows_are_read laws numbers;
    locked = parts.locks;
    formed = parts.shape;
    told = parts.told;
    covered = parts.scheme;
  }
