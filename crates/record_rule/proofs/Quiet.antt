-- Steps that change no record's place, no guard and no word that a set or a reclaimer reads.
use Rattle.std.proofs.Common.{◌≡◌, ◌≢◌, ℕ, ◌+◌, ◌≤◌, List, map, get_or, set, length-set, Bool, true, false, cond, ltb, sum_by, sym, refl, ap, ◌∙◌, subst, arith, ⊎_elim}
use mathlib.Core.Option.{some}
use lib.ListN.{get_elem?}
use Rattle.std.proofs.lemmas.List.Sums.{sum_by-set}
use Rattle.record_memory.specs.declared.steps.Word.{Word}
use Rattle.record_memory.specs.declared.steps.Word.TheVariants.{Drawn}
use Rattle.record_memory.specs.declared.steps.StepKind.{StepKind}
use Rattle.record_memory.specs.declared.steps.StepKind.TheVariants.{Load, Store, Swap, Add, Exchange}
use Rattle.record_memory.specs.declared.steps.Step.{Step}
use Rattle.record_memory.specs.declared.books.Setup.{Setup}
use Rattle.record_memory.specs.declared.books.Book.{Book}
use Rattle.record_memory.specs.declared.books.Drawing.{Drawing}
use Rattle.record_memory.specs.declared.books.Drawing.TheVariants.{Unsure, Below, Past}
use Rattle.record_memory.specs.Memory.{Memory}
use Rattle.record_rule.specs.Records.{Record, share}
use Rattle.row_words.specs.Refs.{RefParts}
use Rattle.set_model.specs.declared.calls.Update.{Update}
use Rattle.record_rule.specs.Inputs.{shape_cell, SchemeCell, scheme_cell, taken_cell, guard_of, notes_of, roots_of, locks_of, answered_of, offer_of, outline}
use Rattle.record_rule.specs.World.{overshoot_by, overshoot, BookFits, Places}
use Rattle.record_rule.specs.Kinds.{drawing_found, drawing_on, drawing_after}
use Rattle.std.proofs.lemmas.List.{map-set}
use Rattle.atomic_table.proofs.Lists.{at_set, at_map, set_again}
use Rattle.record_rule.proofs.Lists.{get_at, below_at, map_set_same}

-- adding is the only step after which a caller may have gone past the last record
abbrev pub IsCalm : StepKind → Type 0
IsCalm Load = Unit {0}
IsCalm Store = Unit {0}
IsCalm Swap = Unit {0}
IsCalm Add = ⊥
IsCalm Exchange = Unit {0}

-- unsure or below, a caller isn't past the last record
unsure_or_below : (b : Bool) → overshoot_by (cond b Below Unsure) ≡ 0
unsure_or_below true = refl
unsure_or_below false = refl

-- so it isn't after a calm step on the number of records drawn
calm_found : (records : ℕ) (k : StepKind) (n : ℕ) → IsCalm k → overshoot_by (drawing_found records k n) ≡ 0
calm_found records Load n h = unsure_or_below (ltb n records)
calm_found records Add n h = absurd h
calm_found records k n h = refl

-- nor after one on any other word
calm_on : (records : ℕ) (k : StepKind) (w : Word) (n : ℕ) → IsCalm k → overshoot_by (drawing_on records k w n) ≡ 0
calm_on records k Drawn n h = calm_found records k n h
calm_on records k w n h = refl

-- so a calm step leaves whether it is
pub calm_after : (d : Drawing) (records : ℕ) (t : Step) → IsCalm t.kind → overshoot_by (drawing_after d records t) ≡ overshoot_by d
calm_after Unsure records t h = calm_on records t.kind t.word t.found h
calm_after Below records t h = calm_on records t.kind t.word t.found h
calm_after Past records t h = refl

-- who weighs 1 went past the last record
pub past_from : (d : Drawing) → overshoot_by d ≡ 1 → d ≡ Past
past_from Unsure h = absurd (omega arith)
past_from Below h = absurd (omega arith)
past_from Past h = refl

-- who went past the last record before the step had done so
pub past_before : (d e : Drawing) → overshoot_by e ≡ overshoot_by d → e ≡ Past → d ≡ Past
past_before d e h p = past_from d (sym h ∙ ap overshoot_by p)

-- the sum over all books, where one weighs as before
pub same_overshoot : (books : List Book) (c : ℕ) (b own : Book) → get_elem? books c ≡ some b → overshoot own ≡ overshoot b → sum_by overshoot (set books c own) ≡ sum_by overshoot books
same_overshoot books c b own at h = let e = sum_by-set overshoot books c own b (below_at books c b at) in let g : get_or books c b ≡ b = get_at books c b b at in
    let w : overshoot (get_or books c b) ≡ overshoot b = ap overshoot g in omega arith

-- the other books, where none of them sees what changed of the records
pub books_after : (setup : Setup) (m m' : Memory) (records records' : List Record) (books : List Book) (c : ℕ) (own : Book) → (setup.records ≤ m.drawn → setup.records ≤ m'.drawn)
    → ((d : ℕ) → d ≢ c → map (share d) records' ≡ map (share d) records) → BookFits setup m' records' c own
    → ((d : ℕ) (b : Book) → get_elem? books d ≡ some b → BookFits setup m records d b)
    → (d : ℕ) (b : Book) → get_elem? (set books c own) d ≡ some b → BookFits setup m' records' d b
books_after setup m m' records records' books c own more unseen mine all d b e =
    ⊎_elim (λ t. subst (λ (z : ℕ). BookFits setup m' records' z b) (sym t.0) (subst (BookFits setup m' records' c) t.1 mine))
    (λ t. let f = all d b t.1 in record { number = f.number; mine = f.mine ∙ sym (unseen d t.0); past = λ h. more (f.past h) }) (at_set books c d own b e)

-- the facts see of a record what they saw
pub record IsSameRecord (r r' : Record) : Type 0 where
  pub shape : shape_cell r' ≡ shape_cell r
  pub scheme : scheme_cell r' ≡ scheme_cell r
  pub taken : taken_cell r' ≡ taken_cell r

-- and of a book
pub record IsSameBook (b b' : Book) : Type 0 where
  pub guard : b'.guard ≡ b.guard
  pub notes : b'.notes ≡ b.notes
  pub roots : b'.root_notes ≡ b.root_notes
  pub locks : b'.locks ≡ b.locks
  pub answered : b'.answered ≡ b.answered
  pub offer : b'.offer ≡ b.offer

-- so they see what they saw, after a step that changed one record and one book so, or one book alone
module _ (m m' : Memory) (taken_out : List RefParts) (updates : List Update) (epoch : m'.epoch ≡ m.epoch) (announced : m'.announced ≡ m.announced) (books : List Book) (c : ℕ) (b own : Book) (at : get_elem? books c ≡ some b) (same : IsSameBook b own) where
  -- where no record changed
  pub outline_same : (records : List Record) → outline m' records (set books c own) taken_out updates ≡ outline m records books taken_out updates
  outline_same records = λ k. record {
    shapes = map shape_cell records;
    schemes = map scheme_cell records;
    takings = map taken_cell records;
    epoch = epoch k;
    announced = announced k;
    taken_out = taken_out;
    updates = updates;
    guards = map_set_same guard_of books c b own at same.guard k;
    notes = map_set_same notes_of books c b own at same.notes k;
    roots = map_set_same roots_of books c b own at same.roots k;
    locks = map_set_same locks_of books c b own at same.locks k;
    answered = map_set_same answered_of books c b own at same.answered k;
    offers = map_set_same offer_of books c b own at same.offer k;
  }

  -- or after one that changed what the reclaimer's facts see of one record
  pub outline_scheme : (records : List Record) (i : ℕ) (r r' : Record) (cell : SchemeCell) → get_elem? records i ≡ some r → shape_cell r' ≡ shape_cell r → scheme_cell r' ≡ cell → taken_cell r' ≡ taken_cell r
      → record (outline m records books taken_out updates) { schemes = set (map scheme_cell records) i cell } ≡ outline m' (set records i r') (set books c own) taken_out updates
  outline_scheme records i r r' cell there shape_is scheme_is taken_is = λ k. record {
    shapes = sym (map_set_same shape_cell records i r r' there shape_is) k;
    schemes = sym (map-set scheme_cell records i r' ∙ ap (set (map scheme_cell records) i) scheme_is) k;
    takings = sym (map_set_same taken_cell records i r r' there taken_is) k;
    epoch = sym epoch k;
    announced = sym announced k;
    taken_out = taken_out;
    updates = updates;
    guards = sym (map_set_same guard_of books c b own at same.guard) k;
    notes = sym (map_set_same notes_of books c b own at same.notes) k;
    roots = sym (map_set_same roots_of books c b own at same.roots) k;
    locks = sym (map_set_same locks_of books c b own at same.locks) k;
    answered = sym (map_set_same answered_of books c b own at same.answered) k;
    offers = sym (map_set_same offer_of books c b own at same.offer) k;
  }

  -- or where no fact sees a change of the record
  pub outline_after : (records : List Record) (i : ℕ) (r r' : Record) → get_elem? records i ≡ some r → IsSameRecord r r' → outline m' (set records i r') (set books c own) taken_out updates ≡ outline m records books taken_out updates
  outline_after records i r r' there alike = sym (outline_scheme records i r r' (scheme_cell r) there alike.shape alike.scheme alike.taken)
      ∙ ap (λ (l : List SchemeCell). record (outline m records books taken_out updates) { schemes = l }) (set_again (map scheme_cell records) i (scheme_cell r) (at_map scheme_cell records i r there))

-- a step after which all records and all words are as before
pub places_calm : (setup : Setup) (records : List Record) (books : List Book) (m : Memory) (c : ℕ) (b own : Book) → get_elem? books c ≡ some b → own.caller ≡ b.caller → own.mine ≡ b.mine
    → overshoot own ≡ overshoot b → Places setup records books m → Places setup records (set books c own) m
places_calm setup records books m c b own at caller mine weight p = let f = p.books_fit c b at in record {
  many = p.many;
  rows = p.rows;
  sound = p.sound;
  left = p.left;
  undrawn = p.undrawn;
  drawn = subst (λ (z : ℕ). m.drawn ≤ setup.records + z) (sym (same_overshoot books c b own at weight)) p.drawn;
  untouched = p.untouched;
  shelves = p.shelves;
  callers = length-set books c own ∙ p.callers;
  books_fit = books_after setup m m records records books c own (λ h. h) (λ d ne. refl)
      record { number = caller ∙ f.number; mine = mine ∙ f.mine; past = λ h. f.past (past_before b.drawing own.drawing weight h) } p.books_fit;
}
