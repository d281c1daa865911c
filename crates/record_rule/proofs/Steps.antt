-- What a step of a pass may use of the table, and the rule after a step that leaves all but what its caller knows.
use Rattle.std.proofs.Common.{◌≡◌, ℕ, ◌≤◌, List, length, length-append, get_or, set, true, sym, refl, ap, subst, arith}
use Rattle.std.proofs.lemmas.List.{set-get_or}
use mathlib.Core.Option.{some}
use lib.ListN.{get_elem?}
use Rattle.atomic_table.specs.Table.{State}
use Rattle.record_memory.specs.declared.steps.Step.{Step}
use Rattle.record_memory.specs.declared.books.Setup.{Setup}
use Rattle.record_memory.specs.declared.books.View.{View}
use Rattle.record_memory.specs.declared.books.Book.{Book}
use Rattle.record_memory.specs.declared.books.Answered.{Answered}
use Rattle.record_memory.specs.Memory.{Memory, memory}
use Rattle.record_rule.specs.Inputs.{Outline, outline, shape_input, trace, Start, start_of, guard_of, notes_of}
use Rattle.atomic_table.proofs.Lists.{at_map}
use Rattle.record_rule.proofs.Lists.{map_at}
use Rattle.record_rule.specs.Facts.{At, ShapeFacts, CoverFacts}
use Rattle.record_rule.specs.Laws.{Given}
use Rattle.record_rule.specs.Histories.{after}
use Rattle.record_rule.specs.World.{StartsWith, IsRecent, Parts, Rule}
use Rattle.record_rule.specs.Recorded.{StepFits, FoundWithin}
use Rattle.record_rule.specs.Links.{with_step, AreWhole}
use Rattle.record_rule.proofs.Recents.{recent_more}
use Rattle.record_rule.proofs.Counts.{counts_calm}
use Rattle.record_rule.proofs.Rebuilt.{carries_own, own_book, leaves_drawn, rebuilt}
use Rattle.record_rule.proofs.Quiet.{calm_after, outline_same, places_calm}
use Rattle.record_rule.proofs.TakenMoves.{out_cells_fit}
use Rattle.record_rule.proofs.Retirements.{MayLeave, leaving_calm, leaving_quiet, keeps_retired}

-- a beginning is no longer than the whole
long_begins : {A : Type 0} (whole start : List A) → StartsWith whole start → length start ≤ length whole
long_begins whole start h = let e = ap length h.1 in let l = length-append start h.0 in omega arith

module _ (shape : ShapeFacts) (cover : CoverFacts) (setup : Setup) (s : State (Unit {0}) View) (u : Rule shape cover setup s) where
  abbrev m : Memory
  m = memory setup.callers setup.records s.words

  -- what the facts read
  abbrev pub before : Outline
  before = outline m u.records u.books u.taken_out u.updates

  -- what the laws of a set may use
  pub given : Given shape setup (shape_input before) (trace before)
  given = (
    out_cells_fit setup shape u.records u.taken_out u.parts.taken,
    (u.parts.shape, u.parts.told),
    record {
      taken_out = λ c st at. let g = map_at start_of before.guards c st at in let b = map_at guard_of u.books c g.0 g.1 in let l = (u.parts.held c g.0 b.0.notes g.1 (at_map notes_of u.books c b.0 b.1)).start in let e = ap (λ (z : Start). z.taken_out) g.2 in omega arith;
      updates = λ c st at. let g = map_at start_of before.guards c st at in let l = u.parts.begun c g.0 g.1 in let e = ap (λ (z : Start). z.updates) g.2 in omega arith;
    },
    u.set_is,
  )

  module _ (id : ℕ) (v : View) (at : get_elem? s.views id ≡ some v) (present : v.present ≡ true) where
    -- the caller's book is in its place
    pub book : get_elem? u.books v.own.caller ≡ some v.own
    book = (own_book setup u.books u.seats u.taken_out u.updates id v present (u.seated id v at)).0

    -- what it noted reaches as far as its caller's guard and notes
    pub own_recent : IsRecent (length v.seen_updates) (length v.seen_taken_out) v.own.guard v.own.notes
    own_recent = (u.seated id v at).recent 0 v.own (ap (λ (l : List Book). get_elem? l 0) (carries_own v present))

    -- and no further than there is
    pub noted_within : (length v.seen_updates ≤ length u.updates) × (length v.seen_taken_out ≤ length u.taken_out)
    noted_within = let f = u.seated id v at in (long_begins u.updates v.seen_updates f.seen_updates, long_begins u.taken_out v.seen_taken_out f.seen_taken_out)

    -- so a pass that notes both lists whole notes as far as that
    pub recent_now : IsRecent (length u.updates) (length u.taken_out) v.own.guard v.own.notes
    recent_now = recent_more (length v.seen_updates) (length u.updates) (length v.seen_taken_out) (length u.taken_out) v.own.guard v.own.notes noted_within.0 noted_within.1 own_recent

    -- what the pass had seen of the two lists begins them
    pub are_whole : AreWhole v u.updates u.taken_out
    are_whole = let f = u.seated id v at in record { front = f.front; seen_updates = f.seen_updates; seen_taken_out = f.seen_taken_out; recent = own_recent }

    -- it has seen what comes before the places of its caller's answered calls
    pub own_behind : (n : ℕ) (a : Answered) → At v.own.answered n a → after a ≤ length v.front
    own_behind n a e = (u.seated id v at).behind 0 n v.own a (ap (λ (l : List Book). get_elem? l 0) (carries_own v present)) e

    -- The rule after a step that leaves its word as it was, and that its caller's book has
    pub kept_calm : (word : ℕ) (t : Step) → StepFits setup v.own.caller t → FoundWithin m.drawn t → MayLeave t.kind
        → Rule shape cover setup record { words = set s.words word (get_or s.words word 0); homes = s.homes; views = set s.views id (record v { own = with_step v.own v.setup.records t }) }
    kept_calm word t finds within leaving = let own : Book = with_step v.own v.setup.records t in
        subst (λ (ws : List ℕ). Rule shape cover setup record { words = ws; homes = s.homes; views = set s.views id (record v { own = own }) }) (sym (set-get_or s.words word 0))
        (rebuilt shape cover setup s u id v at present s.words u.wide u.records own t finds refl refl refl refl refl (leaves_drawn refl refl within)
        (keeps_retired setup.first u.records t (leaving_quiet t.kind leaving))
        (places_calm setup u.records u.books m v.own.caller v.own own book refl refl (calm_after v.own.drawing v.setup.records t (leaving_calm t.kind leaving)) u.places)
        (subst (Parts shape cover setup) (sym (outline_same m m u.taken_out u.updates refl refl u.books v.own.caller v.own own book record { guard = refl; notes = refl; roots = refl; locks = refl; answered = refl; offer = refl } u.records)) u.parts)
        (counts_calm setup.first u.records u.books v.own.caller v.own own book u.counts refl))
