-- Loads of control words.
use Rattle.std.proofs.Common.{◌≡◌, ℕ, ◌+◌, ◌-◌, ◌*◌, ◌≤◌, ◌<◌, List, length, drop, get_or, cond, true, sym, refl, ap, ◌∙◌, subst, arith}
use mathlib.Core.Option.{some}
use lib.ListN.{get_elem?}
use Rattle.atomic_table.specs.Table.{State}
use Rattle.std.proofs.lemmas.Bool.{lt-ltb}
use Rattle.std.proofs.lemmas.List.{length-take, length-drop}
use Rattle.set_model.specs.declared.names.AllocatorName.TheVariants.{Once}
use Rattle.record_memory.specs.declared.books.Setup.{Setup}
use Rattle.record_memory.specs.declared.books.View.{View}
use Rattle.record_memory.specs.declared.books.Place.{Place}
use Rattle.record_memory.specs.declared.books.Place.TheVariants.{Root}
use Rattle.record_memory.specs.declared.books.Drawing.{Drawing}
use Rattle.record_memory.specs.declared.books.Drawing.TheVariants.{Unsure, Below, Past}
use Rattle.record_memory.specs.Memory.{Memory, memory, address, word_at, IsWord}
use Rattle.record_memory.specs.declared.steps.Word.TheVariants.{Cursor, Field}
use Rattle.record_memory.proofs.Stores.{loads, address-word_at, is_word}
use Rattle.row_words.specs.Packing.{own_in}
use Rattle.record_rule.specs.Records.{Record, carried}
use Rattle.record_rule.specs.Facts.{ShapeFacts, CoverFacts}
use Rattle.record_rule.specs.Recorded.{IsRootIndex, StepFits, FoundWithin}
use Rattle.record_rule.specs.World.{range, Rule}
use Rattle.record_rule.specs.Kinds.{control_load, loaded_control, ShowsBelow, drawing_after, Lawful}
use Rattle.record_rule.specs.OwnDraws.{ShowsDrawn}
use Rattle.record_rule.proofs.Steps.{book, kept_calm}
use Rattle.record_rule.proofs.Lists.{below_at, at_below, get_at}
use Rattle.record_rule.proofs.Owners.{load_kept}
use Rattle.record_rule.proofs.Rebuilt.{load_on, not_held}

-- the first word is the number of records drawn
found_drawn : (setup : Setup) (ws : List ℕ) (word : ℕ) → word ≡ 0 → (memory setup.callers setup.records ws).drawn ≡ get_or ws word 0
unfolding memory
found_drawn setup ws word first = ap (λ (z : ℕ). get_or ws z 0) (sym first)

-- a caller that went past the last record finds none left
below_then : (d : Drawing) (setup : Setup) (m : Memory) (v : View) (word n : ℕ) → v.own.drawing ≡ d → (v.own.drawing ≡ Past → setup.records ≤ m.drawn) → word ≡ 0 → m.drawn ≡ n → v.setup ≡ setup → n < v.setup.records
    → (loaded_control v word n).own.drawing ≡ Below
below_then Unsure setup m v word n is past first found same lt = ap (λ (x : Drawing). drawing_after x v.setup.records (control_load v word n)) is ∙ ap (λ (z : ℕ). drawing_after Unsure v.setup.records (control_load v z n)) first
    ∙ ap (λ b. cond b Below Unsure) (lt-ltb n v.setup.records lt)
below_then Below setup m v word n is past first found same lt = ap (λ (x : Drawing). drawing_after x v.setup.records (control_load v word n)) is ∙ ap (λ (z : ℕ). drawing_after Below v.setup.records (control_load v z n)) first
    ∙ ap (λ b. cond b Below Unsure) (lt-ltb n v.setup.records lt)
below_then Past setup m v word n is past first found same lt = let h = past is in let e : v.setup.records ≡ setup.records = ap (λ (k : Setup). k.records) same in absurd (omega arith)

-- a load of a control word, which may be that one, finds no more drawn than are
pub load_within : (setup : Setup) (ws : List ℕ) (v : View) (word : ℕ) → FoundWithin (memory setup.callers setup.records ws).drawn (control_load v word (get_or ws word 0))
load_within setup ws v word on = let first : word ≡ 0 = sym (address-word_at v.setup.callers v.setup.records word) ∙ ap (address v.setup.callers) on in let e = found_drawn setup ws word first in omega arith

module _ (shape : ShapeFacts) (cover : CoverFacts) (setup : Setup) (s : State (Unit {0}) View) (u : Rule shape cover setup s) (id : ℕ) (v : View) (at : get_elem? s.views id ≡ some v) (present : v.present ≡ true) where
  -- a word of a root has the first generation
  root_found : (i f : ℕ) → IsRootIndex setup i → f < 8 → own_in (get_or s.words (address setup.callers (Field i f)) 0) ≡ setup.first
  root_found i f root below = let x = at_below u.records (i - 1) (let k = u.places.many in let a = root.0 in let b = root.2 in omega arith) in let r : Record = x.0 in let sound = u.places.sound (i - 1) r x.1 in
      let is : r.place ≡ Root = sound.roots (let a = root.0 in let b = root.1 in omega arith) in
      ap own_in (load_kept shape cover setup s u id v at present i f r root.0 below x.1) ∙ sound.generations f below ∙ ap (λ (p : Place). carried p r.generation f) is ∙ sound.root_generation is

  -- so a load of any word, which names no held record, is a step that a caller may make
  pub control_fits : (word : ℕ) → StepFits setup v.own.caller (control_load v word (get_or s.words word 0))
  control_fits word = let c : ℕ = setup.callers in let same : v.setup.callers ≡ c = ap (λ (k : Setup). k.callers) ((u.seated id v at).setup_is present) in
      not_held setup v.own.caller (control_load v word (get_or s.words word 0)) refl (load_on setup v.own.caller (word_at v.setup.callers word)) (λ i f e. (
        refl,
        λ root.
            let on : word_at c word ≡ Field i f = ap (λ (k : ℕ). word_at k word) (sym same) ∙ e in let lies : IsWord c word (Field i f) = subst (IsWord c word) on (is_word c word word (omega arith)) in
            ap (λ (z : ℕ). own_in (get_or s.words z 0)) (sym (address-word_at c setup.records word) ∙ ap (address c) on) ∙ root_found i f root lies.2,
      ))

  abbrev m : Memory
  m = memory setup.callers setup.records s.words

  -- the table has the caller
  pub caller_in : v.own.caller < setup.callers
  caller_in = let h = below_at u.books v.own.caller v.own (book shape cover setup s u id v at present) in let e = u.places.callers in omega arith

  -- and a cursor of it
  pub cursor_in : v.own.caller < length m.cursors
  unfolding memory
  cursor_in = let k : ℕ = 20 + 4 * setup.callers in let a = length-take setup.callers (drop k s.words) in let b = length-drop k s.words in let w = u.wide in let h = caller_in in omega arith

  -- which is the number of records that it drew
  pub own_cursor : setup.allocator ≡ Once → get_or s.words (address setup.callers (Cursor v.own.caller)) 0 ≡ v.own.moves.drawn
  own_cursor once = loads setup.callers setup.records s.words (Cursor v.own.caller) caller_in ∙ u.cursors once v.own.caller v.own (book shape cover setup s u id v at present)

  -- as a load of it shows
  pub shows_drawn : (word : ℕ) → ShowsDrawn v word (get_or s.words word 0)
  shows_drawn word first named = let c : ℕ = v.own.caller in let same = (u.seated id v at).setup_is present in let once : setup.allocator ≡ Once = sym (ap (λ (k : Setup). k.allocator) same) ∙ named in
      let found : get_or s.words word 0 ≡ get_or s.words (address setup.callers (Cursor c)) 0 = ap (λ (z : ℕ). get_or s.words z 0) (first ∙ ap (λ (k : Setup). address k.callers (Cursor c)) same) in
      let there = at_below m.cursors c cursor_in in let few : there.0 ≤ range setup = u.places.untouched.cursors_within once c there.0 there.1 in
      let here : get_or s.words (address setup.callers (Cursor c)) 0 ≡ there.0 = loads setup.callers setup.records s.words (Cursor c) caller_in ∙ get_at m.cursors c there.0 0 there.1 in
      (found ∙ own_cursor once, subst (λ (k : Setup). get_or s.words word 0 ≤ range k) (sym same) (subst (λ (z : ℕ). z ≤ range setup) (sym (found ∙ here)) few))

module _ (shape : ShapeFacts) (cover : CoverFacts) (setup : Setup) where
  -- a load of any control word changes nothing, and its caller's book has it
  pub loads_control : (id : ℕ) (v : View) (word : ℕ) → v.present ≡ true → Lawful (Rule shape cover setup) id v word (λ n. n) (λ n w. (w ≡ loaded_control v word n) × ShowsBelow v word n × ShowsDrawn v word n)
  loads_control id v word present s u at =
      let n : ℕ = get_or s.words word 0 in let m : Memory = memory setup.callers setup.records s.words in (
        loaded_control v word n,
        kept_calm shape cover setup s u id v at present word (control_load v word n) (control_fits shape cover setup s u id v at present word) (load_within setup s.words v word) tt,
        (
          refl,
          λ first lt. below_then v.own.drawing setup m v word n refl (λ past. (u.places.books_fit v.own.caller v.own (book shape cover setup s u id v at present)).past past) first (found_drawn setup s.words word first)
              ((u.seated id v at).setup_is present) lt,
          shows_drawn shape cover setup s u id v at present word,
        ),
      )
