-- The owner's loads and stores in a record keep the rule.
use Rattle.std.proofs.Common.{inl, ◌≡◌, ◌≢◌, ℕ, zero, suc, ◌⊎◌, ⊎_elim, ltb, false, ◌+◌, ◌-◌, ◌<◌, ◌≤◌, List, [], map, length, get_or, take, set, length-set, Bool, true, cond, sym, refl, ap, ◌∙◌, subst, arith, Option, Some, get_or-set_other, inr}
use Rattle.std.proofs.lemmas.Bool.{eq-eqb, le-ltb}
use Rattle.std.proofs.lemmas.List.{get_or-take, length-take}
use native.Mathlib.Decide.{dec_le}
use mathlib.Core.Logic.{dite}
use mathlib.Core.Option.{some}
use lib.ListN.{get_elem?}
use Rattle.atomic_table.proofs.Lists.{at_map}
use Rattle.atomic_table.specs.Table.{State}
use Rattle.record_memory.specs.declared.steps.Step.{Step}
use Rattle.record_memory.specs.declared.steps.Word.TheVariants.{Field}
use Rattle.record_memory.specs.declared.books.Setup.{Setup}
use Rattle.record_memory.specs.declared.books.View.{View}
use Rattle.record_memory.specs.declared.books.Share.{Share}
use Rattle.record_memory.specs.declared.books.Standing.{Standing}
use Rattle.record_memory.specs.declared.books.Standing.TheVariants.{Handing, Own, Spare, TakenOut, Limbo, Free, Spent}
use Rattle.record_memory.specs.declared.books.Place.{Place}
use Rattle.record_memory.specs.declared.books.Place.TheVariants.{Undrawn, Root, Of}
use Rattle.record_memory.specs.Memory.{Memory, memory, address, word_at, put, row_at}
use Rattle.record_memory.proofs.Stores.{loads, stores, word_at-field}
use Rattle.row_words.specs.Packing.{number_in, own_in, IsPackedLink}
use Rattle.record_rule.specs.Records.{Record, known, carried_by, carried, share}
use Rattle.record_rule.specs.Inputs.{shape_cell, shape_at, SchemeInput, unseen, unpublished, scheme_cell, scheme_at, scheme_had, taken_cell, taken_at, scheme_input, guard_of, Outline, outline}
use Rattle.record_rule.specs.Facts.{ShapeFacts, CoverFacts}
use Rattle.record_rule.specs.Laws.{CoverLaws}
use Rattle.record_rule.specs.Recorded.{StepFits}
use Rattle.record_rule.specs.World.{Places, Parts, Rule}
use Rattle.record_rule.specs.Kinds.{field_store, field_load, stored_as, stored, loaded, share_in, share_after, standing_after, EndsHanding, MayStoreAs, MayStore, IsKnownAs, IsKnown, IsOverAs, IsOver, Lawful}
use Rattle.record_rule.proofs.Lists.{below_at, get_at, map_at}
use Rattle.record_rule.proofs.Owned.{at_some, share_of, has}
use Rattle.record_rule.specs.Counts.{retired_as}
use Rattle.record_rule.proofs.Counts.{counts_moved, balances_stored, stored_had, stored_drawn}
use Rattle.record_rule.proofs.Rebuilt.{not_held, counters, elsewhere, rebuilt}
use Rattle.record_rule.proofs.Retirements.{LeavesRetirements, stored_none, shows_moved, stored_here}
use Rattle.record_rule.proofs.RetirementMoves.{beside_stamp, over_other}
use Rattle.record_rule.proofs.Quiet.{calm_after, IsSameBook, outline_scheme, outline_after}
use Rattle.record_rule.proofs.Steps.{before, book, kept_calm}
use Rattle.record_rule.proofs.Safe.{safe}
use Rattle.record_rule.proofs.Fields.{with_word, owner_places, stores_as, known_after, shape_unmoved, taken_unmoved, scheme_unmoved, ends}

-- one of the first three words
in_take : (row : List ℕ) (f : ℕ) → f < length (take 3 row) → get_or row f 0 ≡ get_or (take 3 row) f 0
in_take row f h = sym (get_or-take 3 row f 0 (let e = length-take 3 row in omega arith))

-- a reclaimer doesn't see a record before its handing out has ended
ended_unseen : (c : ℕ) (q : Standing) (r : Record) → EndsHanding q → scheme_had c q r ≡ unseen
ended_unseen c (Handing n) r e = refl
ended_unseen c q r e = absurd e

-- its caller knows the whole row then
ended_known : (q : Standing) (row : List ℕ) → EndsHanding q → known q row ≡ row
ended_known (Handing n) row e = refl
ended_known q row e = absurd e

-- what the caller knows of a row is so
known_part : (q : Standing) (row : List ℕ) (f : ℕ) → f < length (known q row) → get_or row f 0 ≡ get_or (known q row) f 0
known_part (Handing n) row f h = refl
known_part Own row f h = refl
known_part Spare row f h = refl
known_part q row f h = in_take row f h

-- and a word that it may store is one of these
stored_part : (q : Standing) (row : List ℕ) (f : ℕ) → length row ≡ 8 → MayStoreAs q f → f < 8 → f < length (known q row)
stored_part (Handing n) row f eight may below = omega arith
stored_part Own row f eight may below = omega arith
stored_part Spare row f eight may below = omega arith
stored_part TakenOut row f eight may below = let l = length-take 3 row in omega arith
stored_part Limbo row f eight may below = let l = length-take 3 row in omega arith
stored_part Free row f eight may below = let l = length-take 3 row in omega arith
stored_part Spent row f eight may below = let l = length-take 3 row in omega arith

-- the generation of a record is the one that a word of its owner's carries, or the next one
carried_or_next : (q : Standing) (generation f : ℕ) → (generation ≡ carried_by q generation f) ⊎ (generation ≡ carried_by q generation f + 1)
carried_or_next (Handing n) generation f = by (ltb f n) generation
  where
    by : (b : Bool) (g : ℕ) → (g ≡ cond b g (g - 1)) ⊎ (g ≡ cond b g (g - 1) + 1)
    by true g = inl refl
    by false zero = inl refl
    by false (suc g) = inr (omega arith)
carried_or_next q generation f = inl refl

-- its owner stores its stamp only while it is handed out, over the generation before
stamp_store : (q : Standing) (generation f : ℕ) → MayStoreAs q f → (f ≢ 2) ⊎ (carried_by q generation f ≡ generation - 1)
stamp_store (Handing n) generation f may = inr (ap (λ (b : Bool). cond b generation (generation - 1)) (le-ltb f n (omega arith)))
stamp_store Own f generation may = inl (λ e. ⊎_elim (λ a. omega arith) (λ a. let low = a.0 in omega arith) may)
stamp_store q generation f may = inl (λ e. omega arith)

-- once it is handed out, it has the birth that it was given
ended_cell : (c : ℕ) (q : Standing) (r : Record) (f value : ℕ) → EndsHanding q → MayStoreAs q f → scheme_cell (with_word c (standing_after q) r f value) ≡ unpublished c r.generation (number_in (get_or r.row 0 0))
ended_cell c (Handing n) r f value e h = ap (λ (b : Bool). scheme_had c (cond b Own (Handing (n + 1))) (with_word c (cond b Own (Handing (n + 1))) r f value)) (eq-eqb n 7 e)
    ∙ ap (λ (z : ℕ). unpublished c r.generation (number_in z)) (get_or-set_other r.row f 0 value 0 (λ z. omega arith))
ended_cell c q r f value e h = absurd e

module _ (shape : ShapeFacts) (cover : CoverFacts) (setup : Setup) (s : State (Unit {0}) View) (u : Rule shape cover setup s) (id : ℕ) (v : View) (at : get_elem? s.views id ≡ some v) (present : v.present ≡ true) where
  abbrev m : Memory
  m = memory setup.callers setup.records s.words

  abbrev c : ℕ
  c = v.own.caller

  -- the caller's book
  abbrev own_there : get_elem? u.books c ≡ some v.own
  own_there = book shape cover setup s u id v at present

  -- the record that a share of the caller's is of
  pub record_of : (i : ℕ) (h : Share) → share_in v i ≡ Some h → (r : Record) × (get_elem? u.records (i - 1) ≡ some r) × (r.place ≡ Of c h.standing) × (h ≡ share_of h.standing r)
  record_of i h e = let there : get_elem? (map (share c) u.records) (i - 1) ≡ some (Some h) = ap (λ xs. get_elem? xs (i - 1)) (sym (u.places.books_fit c v.own own_there).mine) ∙ at_some v.own.mine (i - 1) h e in
      let x = map_at (share c) u.records (i - 1) (Some h) there in let y = has c x.0 h x.2 in (x.0, x.1, y.0, y.1)

  -- what the words say of it
  row_is : (i : ℕ) (r : Record) → get_elem? u.records (i - 1) ≡ some r → row_at m.rows i ≡ r.row
  row_is i r there = ap (λ (rs : List (List ℕ)). get_or rs (i - 1) []) (sym u.places.rows) ∙ get_at (map (λ (x : Record). x.row) u.records) (i - 1) r.row [] (at_map (λ (x : Record). x.row) u.records (i - 1) r there)

  -- the record's index is within the table
  pub index_in : (i : ℕ) (r : Record) → 0 < i → get_elem? u.records (i - 1) ≡ some r → i ≤ setup.records
  index_in i r pos there = let h = below_at u.records (i - 1) r there in let k = u.places.many in omega arith

  -- a record that a caller has is no root
  above_roots : (i : ℕ) (q : Standing) (r : Record) → 0 < i → get_elem? u.records (i - 1) ≡ some r → r.place ≡ Of c q → setup.roots < i
  above_roots i q r pos there is = dite (dec_le setup.roots (i - 1)) (λ le. omega arith)
      (λ low. let root : Of c q ≡ Root = sym is ∙ (u.places.sound (i - 1) r there).roots (omega arith) in let wrong : ⊥ = cc in absurd wrong)

  -- so a load of a word of it is a step that its caller may make
  pub load_fits : (i f n : ℕ) (q : Standing) (r : Record) → get_elem? u.records (i - 1) ≡ some r → r.place ≡ Of c q → StepFits setup c (field_load v i f n)
  load_fits i f n q r there is = not_held setup c (field_load v i f n) refl (inl refl) (λ j g e. (
    refl,
    λ root. let same : i ≡ j = cc in let pos : 0 < j = root.0 in let low : j ≤ setup.roots = root.1 in let high : setup.roots < i = above_roots i q r (omega arith) there is in let wrong : ⊥ = omega arith in absurd wrong,
  ))

  -- a store over what its caller knows of a word finds the generation that the record carries there
  found_carried : (i f : ℕ) (h : Share) (r : Record) → get_elem? u.records (i - 1) ≡ some r → r.place ≡ Of c h.standing → h ≡ share_of h.standing r → f < 8 → f < length (known h.standing r.row) → own_in (get_or h.words f 0) ≡ carried_by h.standing r.generation f
  found_carried i f h r there is whole below within = ap (λ (x : Share). own_in (get_or x.words f 0)) whole ∙ ap own_in (sym (known_part h.standing r.row f within))
      ∙ (u.places.sound (i - 1) r there).generations f below ∙ ap (λ (p : Place). carried p r.generation f) is

  -- and so is a store over what its caller knows of a word of it
  pub store_fits : (i f value : ℕ) (h : Share) (r : Record) → 0 < i → get_elem? u.records (i - 1) ≡ some r → r.place ≡ Of c h.standing → h ≡ share_of h.standing r → f < 8 → f < length (known h.standing r.row) → own_in value ≡ h.generation
      → StepFits setup c (field_store v i f value h)
  store_fits i f value h r pos there is whole below within own = let high : setup.roots < i = above_roots i h.standing r pos there is in
      let left : own_in value ≡ r.generation = own ∙ ap (λ (x : Share). x.generation) whole in
      let found = found_carried i f h r there is whole below within in
      not_held setup c (field_store v i f value h) refl (inr (inl refl)) (λ j g e. inl (
        let same : i ≡ j = cc in omega arith,
        ⊎_elim (λ a. inl (left ∙ a ∙ sym found)) (λ a. inr (left ∙ a ∙ ap (λ (z : ℕ). z + 1) (sym found))) (carried_or_next h.standing r.generation f),
      ))

  -- the view and the words after a store
  abbrev after : ℕ → ℕ → ℕ → Share → View
  after i f value h = stored_as v i f value (Some h)

  abbrev words_after : ℕ → ℕ → ℕ → List ℕ
  words_after i f value = set s.words (address setup.callers (Field i f)) value

  -- the rule after it
  abbrev Kept : ℕ → ℕ → ℕ → Share → Type 0
  Kept i f value h = Rule shape cover setup record { words = words_after i f value; homes = s.homes; views = set s.views id (after i f value h) }

  module _ (i f value : ℕ) (h : Share) (r : Record) (pos : 0 < i) (there : get_elem? u.records (i - 1) ≡ some r) (is : r.place ≡ Of c h.standing) (whole : h ≡ share_of h.standing r) (may : MayStore h f value) where
    -- the standing and the record afterwards
    abbrev t : Standing
    t = standing_after h.standing

    abbrev new : Record
    new = with_word c t r f value

    -- what the words say then
    stored_words : memory setup.callers setup.records (words_after i f value) ≡ put m (Field i f) value
    stored_words = stores setup.callers setup.records s.words (Field i f) value u.wide (pos, index_in i r pos there, may.below)

    -- the share has the record's generation
    generation_is : h.generation ≡ r.generation
    generation_is = ap (λ (x : Share). x.generation) whole

    -- and is the record's after the store
    share_is : share_after h f value ≡ share_of t new
    share_is = λ k. record { standing = t; generation = (whole k).generation; taken_number = (whole k).taken_number; words = (ap (λ (x : Share). set x.words f value) whole ∙ sym (known_after h.standing f value r.row may.field)) k }

    -- where the records are afterwards
    places_after : Places setup (set u.records (i - 1) new) (set u.books c (after i f value h).own) (memory setup.callers setup.records (words_after i f value))
    places_after = subst (Places setup (set u.records (i - 1) new) (set u.books c (after i f value h).own)) (sym stored_words)
        (owner_places setup u.records u.books m c i f value h.standing t v.own (after i f value h).own r u.places own_there there is (stores_as setup r f value may.below (may.own ∙ generation_is) may.link h.standing may.field)
        refl (ap (λ (x : Share). set v.own.mine (i - 1) (Some x)) share_is) (calm_after v.own.drawing v.setup.records (field_store v i f value h) tt))

    -- no guard, note, lock or answered call changes
    same_book : IsSameBook v.own (after i f value h).own
    same_book = record { guard = refl; notes = refl; roots = refl; locks = refl; answered = refl; offer = refl }

    -- a set sees no change
    shape_is : shape_cell new ≡ shape_cell r
    shape_is = shape_unmoved c h.standing r f value may.field ∙ sym (ap (λ (p : Place). shape_at p r) is)

    -- nor does the list of those taken out
    taken_is : taken_cell new ≡ taken_cell r
    taken_is = taken_unmoved c h.standing r f value may.field ∙ sym (ap (λ (p : Place). taken_at p r) is)

    -- what the facts read before
    abbrev was : Outline
    was = before shape cover setup s u

    -- and afterwards
    abbrev now : Outline
    now = outline (memory setup.callers setup.records (words_after i f value)) (set u.records (i - 1) new) (set u.books c (after i f value h).own) u.taken_out u.updates

    -- the epoch stays
    epoch_is : (memory setup.callers setup.records (words_after i f value)).epoch ≡ m.epoch
    epoch_is = ap (λ (x : Memory). x.epoch) stored_words

    -- and so do the announcements
    announced_is : (memory setup.callers setup.records (words_after i f value)).announced ≡ m.announced
    announced_is = ap (λ (x : Memory). x.announced) stored_words

    -- a store in the stamp is one of a handing out, and changes the generation, so it retires none
    retires_none_here : LeavesRetirements setup.first u.records (set u.records (i - 1) new) (field_store v i f value h)
    retires_none_here = let x : Step = field_store v i f value h in let sound = u.places.sound (i - 1) r there in
        let born : setup.first ≤ r.generation = sound.born (λ q. let none : Undrawn ≡ Of c h.standing = sym q ∙ is in let no_such : ⊥ = cc in no_such) in let first = u.retirements.some_first in
        let left : own_in value ≡ r.generation = may.own ∙ generation_is in
        let found = found_carried i f h r there is whole may.below (stored_part h.standing r.row f sound.eight may.field may.below) in
        stored_none setup.first u.records (set u.records (i - 1) new) x
        (⊎_elim (beside_stamp i f x refl refl refl) (λ before. over_other i f x refl refl refl (λ e. omega arith)) (stamp_store h.standing r.generation f may.field))
        (stored_here setup.first u.records (i - 1) r new there x i pos refl (λ j g e. let z : i ≡ j = cc in z) left)
        (shows_moved setup.first u.records (i - 1) r new there refl ((stored_had h.standing).0 ∙ sym (ap retired_as is)))

    -- so the rule stays where the facts hold
    kept_with : Parts shape cover setup now → Kept i f value h
    kept_with parts = rebuilt shape cover setup s u id v at present (words_after i f value) (length-set s.words (address setup.callers (Field i f)) value ∙ u.wide) (set u.records (i - 1) new) (after i f value h).own _
        (store_fits i f value h r pos there is whole may.below (stored_part h.standing r.row f (u.places.sound (i - 1) r there).eight may.field may.below) may.own) refl refl refl refl refl (elsewhere _ (ap counters stored_words) (stored_drawn h.standing v.own.moves).0 (λ e. cc))
        retires_none_here places_after parts
        (counts_moved setup.first u.records u.books c v.own (after i f value h).own own_there u.counts (i - 1) r new there (balances_stored setup.first c h.standing v.own.moves r new is refl refl))

    -- the store that ends a handing out
    ends_it : CoverLaws cover → EndsHanding h.standing → cover.births v.own.guard (number_in (get_or h.words 0 0)) → Kept i f value h
    ends_it laws end birth =
        let b : ℕ = number_in (get_or h.words 0 0) in let x : SchemeInput = scheme_input was in
        let cell : scheme_cell new ≡ unpublished c r.generation b = ended_cell c h.standing r f value end may.field ∙ sym (ap (λ (z : List ℕ). unpublished c r.generation (number_in (get_or z 0 0))) (ap (λ (y : Share). y.words) whole ∙ ended_known h.standing r.row end)) in
        let law : cover.covered setup record x { cells = set x.cells (i - 1) (unpublished c r.generation b) } = laws.hands setup x (i - 1) c r.generation b v.own.guard (safe shape cover setup u.records u.books u.taken_out u.updates m u.places u.parts) u.parts.scheme
        (at_map scheme_cell u.records (i - 1) r there ∙ ap some (ap (λ (p : Place). scheme_at p r) is ∙ ended_unseen c h.standing r end))
        (at_map guard_of u.books c v.own own_there) birth in
        kept_with (subst (Parts shape cover setup) (outline_scheme m (memory setup.callers setup.records (words_after i f value)) u.taken_out u.updates epoch_is announced_is u.books c v.own (after i f value h).own own_there same_book u.records (i - 1) r new
        (unpublished c r.generation b) there shape_is cell taken_is) record {
          taken = u.parts.taken;
          held = u.parts.held;
          known = u.parts.known;
          locks = u.parts.locks;
          shape = u.parts.shape;
          told = u.parts.told;
          scheme = law;
          history = u.parts.history;
          words = u.parts.words;
          begun = u.parts.begun;
        })

    -- a store that ends no handing out
    stays : ¬ EndsHanding h.standing → Kept i f value h
    stays more = kept_with (subst (Parts shape cover setup) (sym (outline_after m (memory setup.callers setup.records (words_after i f value)) u.taken_out u.updates epoch_is announced_is u.books c v.own (after i f value h).own own_there same_book u.records (i - 1) r new there
        record { shape = shape_is; scheme = scheme_unmoved c h.standing r f value may.field more ∙ sym (ap (λ (p : Place). scheme_at p r) is); taken = taken_is })) u.parts)

  -- a load
  pub load_kept : (i f : ℕ) (r : Record) → 0 < i → f < 8 → get_elem? u.records (i - 1) ≡ some r → get_or s.words (address setup.callers (Field i f)) 0 ≡ get_or r.row f 0
  load_kept i f r pos below there = loads setup.callers setup.records s.words (Field i f) (pos, index_in i r pos there, below) ∙ ap (λ (z : List ℕ). get_or z f 0) (row_is i r there)

module _ (setup : Setup) where
  -- the word that lies where word f of record i lies
  pub named : (v : View) (word i f : ℕ) → v.setup ≡ setup → word ≡ address setup.callers (Field i f) → 0 < i → f < 8 → word_at v.setup.callers word ≡ Field i f
  named v word i f same is pos below = (λ k. word_at (same k).callers (is k)) ∙ word_at-field setup.callers setup.records i f pos below

module _ (shape : ShapeFacts) (cover : CoverFacts) (laws : CoverLaws cover) (setup : Setup) where
  -- the caller knows the word that is there
  known_there : (h : Share) (r : Record) (f : ℕ) → h ≡ share_of h.standing r → f < length h.words → get_or r.row f 0 ≡ get_or h.words f 0
  known_there h r f whole lt = known_part h.standing r.row f (let e : length h.words ≡ length (known h.standing r.row) = ap (λ (z : Share). length z.words) whole in omega arith)
      ∙ sym (ap (λ (z : Share). get_or z.words f 0) whole)

  -- and a step of its own finds it
  pub finds_known : (s : State (Unit {0}) View) (u : Rule shape cover setup s) (id : ℕ) (v : View) (at : get_elem? s.views id ≡ some v) (word i f : ℕ) (h : Share) → v.present ≡ true → word ≡ address setup.callers (Field i f) → 0 < i → f < 8 → share_in v i ≡ Some h → f < length h.words
      → get_or s.words word 0 ≡ get_or h.words f 0
  finds_known s u id v at word i f h present is pos below mine lt = let x = record_of shape cover setup s u id v at present i h mine in
      ap (λ (z : ℕ). get_or s.words z 0) is ∙ load_kept shape cover setup s u id v at present i f x.0 pos below x.1 ∙ known_there h x.0 f x.3 lt

  -- A caller may store a word of a record that it has, and stores over what it knows. With the last word of a handing out the reclaimer has to allow the record's birth
  pub stores_word : (id : ℕ) (v : View) (word i f value : ℕ) (h : Share) → v.present ≡ true → v.setup ≡ setup → word ≡ address setup.callers (Field i f) → 0 < i
      → share_in v i ≡ Some h → MayStore h f value → (EndsHanding h.standing → cover.births v.own.guard (number_in (get_or h.words 0 0)))
      → Lawful (Rule shape cover setup) id v word (λ _. value) (λ n w. (w ≡ stored v i f value) × IsOver v i f n)
  stores_word id v word i f value h present same is pos mine may birth s u at =
      let x = record_of shape cover setup s u id v at present i h mine in
      let lt : f < length h.words = (let l = stored_part h.standing x.0.row f (u.places.sound (i - 1) x.0 x.1).eight may.field may.below in let e : length h.words ≡ length (known h.standing x.0.row) = ap (λ (z : Share). length z.words) x.3 in omega arith) in
      let e : stored v i f value ≡ stored_as v i f value (Some h) = ap (stored_as v i f value) mine in
      let kept : Rule shape cover setup record { words = set s.words (address setup.callers (Field i f)) value; homes = s.homes; views = set s.views id (stored_as v i f value (Some h)) } =
      dite (ends h.standing) (λ end. ends_it shape cover setup s u id v at present i f value h x.0 pos x.1 x.2 x.3 may laws end (birth end)) (λ more. stays shape cover setup s u id v at present i f value h x.0 pos x.1 x.2 x.3 may more) in (
        stored v i f value,
        subst (λ (z : ℕ × View). Rule shape cover setup record { words = set s.words z.0 value; homes = s.homes; views = set s.views id z.1 }) (λ k. (sym is k, sym e k)) kept,
        (refl, subst (λ (o : Option Share). IsOverAs o f (get_or s.words word 0)) (sym mine) (finds_known s u id v at word i f h present is pos may.below mine lt)),
      )

  -- A caller may load a word of a record that it has, and finds what it knows
  pub loads_word : (id : ℕ) (v : View) (word i f : ℕ) (h : Share) → v.present ≡ true → v.setup ≡ setup → word ≡ address setup.callers (Field i f) → 0 < i → f < 8 → share_in v i ≡ Some h → f < length h.words
      → Lawful (Rule shape cover setup) id v word (λ n. n) (λ n w. (w ≡ loaded v i f n) × IsKnown v i f n)
  loads_word id v word i f h present same is pos below mine lt s u at = let n : ℕ = get_or s.words word 0 in
      let x = record_of shape cover setup s u id v at present i h mine in let r : Record = x.0 in
      let found : n ≡ get_or r.row f 0 = ap (λ (z : ℕ). get_or s.words z 0) is ∙ load_kept shape cover setup s u id v at present i f r pos below x.1 in
      let known_link : f ≡ 1 → IsPackedLink n = λ one. subst IsPackedLink (sym (found ∙ ap (λ (z : ℕ). get_or r.row z 0) one)) ((u.places.sound (i - 1) r x.1).links 1 (inl refl)).0 in (
        loaded v i f n,
        kept_calm shape cover setup s u id v at present word (field_load v i f n) (load_fits shape cover setup s u id v at present i f n h.standing r x.1 x.2) (λ e. let none : ⊥ = cc in absurd none) tt,
        (refl, subst (λ (o : Option Share). IsKnownAs o f n) (sym mine) (found ∙ known_there h r f x.3 lt, known_link)),
      )
