-- The facts of a set fix its keys: over the same records they hold of no two histories that leave others, so they can't be always so.
use Rattle.std.proofs.Common.{◌≡◌, ℕ, List, [], ◌∷◌, ◌⊎◌, inl, inr, true, ⊎_elim, sym, refl, ap, ◌∙◌, arith}
use Rattle.std.proofs.lemmas.Bool.{both_ways}
use mathlib.Core.Option.{some-ne-none}
use lib.ListN.{get_elem?}
use Rattle.set_model.specs.declared.calls.Update.{Update}
use Rattle.set_model.specs.declared.names.SetName.{SetName}
use Rattle.set_model.specs.declared.names.SetName.TheVariants.{Plain, Michael, Lazy}
use Rattle.set_model.specs.declared.names.ReclaimerName.TheVariants.{Nothing}
use Rattle.set_model.specs.declared.names.AllocatorName.TheVariants.{Bump}
use Rattle.set_model.specs.Keys.{Keys, contains}
use Rattle.set_model.specs.Histories.{keys_of}
use Rattle.set_model.proofs.KeySets.{contains-empty, contains-insert}
use Rattle.set_model.proofs.HistoryLaws.{keys_of-push}
use Rattle.record_memory.specs.declared.books.Setup.{Setup}
use Rattle.record_rule.specs.Inputs.{ShapeCell, hidden, root, out, ShapeInput, Trace}
use Rattle.record_rule.specs.Facts.{At, ShapeFacts}
use Rattle.record_rule.specs.Walks.{Ground, HasRoots, read_for, cells_ground}
use Rattle.record_rule.specs.Laws.{root_body, opening_shape, OutCellsFit, Given, ShapeLaws}
use Rattle.record_rule.proofs.Lists.{at_runs}

-- two lists of updates by which a walk reads the same leave the same keys
same_keys : (name : SetName) (g : Ground) (us ws : List Update) → read_for name g us → read_for name g ws → (k : ℕ) → contains (keys_of us) k ≡ true → contains (keys_of ws) k ≡ true
same_keys Plain g us ws a b k has = (b k).1 ((a k).0 has)
same_keys Michael g us ws a b k has = (b k).1 ((a k).0 has)
same_keys Lazy g us ws a b k has = (b k).1 ((a k).0 has)

-- so the same records never stand for two sets of keys
pub one_set : (s : ShapeFacts) → ShapeLaws s → (setup : Setup) (x : ShapeInput) (g h : Trace) → HasRoots setup x.cells → Given s setup x g → Given s setup x h → (k : ℕ) → contains (keys_of g.updates) k ≡ true → contains (keys_of h.updates) k ≡ true
one_set s laws setup x g h roots a b = same_keys s.name (cells_ground s x.cells) g.updates h.updates (laws.reads setup x g a roots) (laws.reads setup x h b roots)

-- a table with one root
abbrev one_root : SetName → Setup
one_root name = record { records = 1; roots = 1; callers = 1; first = 1; set = name; reclaimer = Nothing; allocator = Bump }

-- no history, and one insertion
abbrev nothing : Trace
nothing = record { updates = []; starts = []; offers = [] }

abbrev insertion : Update
insertion = record { caller = 0; number = 1; key = 0; added = true }

abbrev inserted : Trace
inserted = record { updates = insertion ∷ []; starts = []; offers = [] }

-- the key is there behind the insertion
has_key : contains (keys_of (insertion ∷ [])) 0 ≡ true
has_key = ap (λ (keys : Keys). contains keys 0) (keys_of-push [] insertion) ∙ contains-insert (keys_of []) 0 0

module _ (s : ShapeFacts) (laws : ShapeLaws s) where
  abbrev setup : Setup
  setup = one_root s.name

  abbrev cells : List ShapeCell
  cells = (opening_shape setup).cells

  -- a new table has no record that is linked or was taken out
  a_root : (i : ℕ) (c : ShapeCell) → At cells i c → (root 1 (root_body 1) 0 ≡ c) ⊎ (hidden ≡ c)
  a_root i c at = ⊎_elim (λ p. inl p.1) (λ p. inr p.1) (at_runs 1 0 i (root 1 (root_body 1) 0) hidden c at)

  none_out : OutCellsFit s (opening_shape setup)
  none_out = record {
    indexed = λ n t e. absurd (some-ne-none t (sym e));
    numbered = λ i generation m n body at. ⊎_elim (λ e. let none : ⊥ = cc in absurd none) (λ e. let none : ⊥ = cc in absurd none) (a_root i (out generation body m n) at);
    once = λ n m t e f. absurd (some-ne-none t (sym e));
    unlisted = λ i generation m n body at e. absurd (some-ne-none _ (sym e));
  }

  roots : HasRoots setup cells
  roots = record { some_root = omega arith; each = λ i low. let e : i ≡ 0 = omega arith in (1, 0, root_body 1, ap (λ (j : ℕ). get_elem? cells j) e) }

  -- A set's facts can't be such that they tie its records to no history
  pub ties_something : ((setup : Setup) (x : ShapeInput) (h : Trace) → s.told setup x h) → ⊥
  ties_something always =
      let begins = laws.starts setup nothing (omega arith) (omega arith) refl in
      let before : Given s setup (opening_shape setup) nothing = (none_out, begins, record { taken_out = λ c st e. absurd (some-ne-none st (sym e)); updates = λ c st e. absurd (some-ne-none st (sym e)) }, refl) in
      let after : Given s setup (opening_shape setup) inserted = (none_out, (begins.0, always setup (opening_shape setup) inserted), record { taken_out = λ c st e. absurd (some-ne-none st (sym e)); updates = λ c st e. absurd (some-ne-none st (sym e)) }, refl) in
      both_ways (contains (keys_of []) 0) (contains-empty 0) (one_set s laws setup (opening_shape setup) inserted nothing roots after before 0 has_key)
