-- A free record is handed out again: it gets its next generation, and that the old one was taken out stays in the list.
use Rattle.std.proofs.Common.{◌≡◌, ℕ, ◌+◌, ◌-◌, ◌<◌, ◌≤◌, List, map, length, get_or, set, length-set, cond, true, sym, refl, ap, ◌∙◌, subst, arith, ⊎_elim, Option, Some, None, inl, zero, suc, get_or-set_same, get_or-take}
use Rattle.std.proofs.lemmas.List.{map-set, set-get_or}
use Rattle.std.proofs.lemmas.Bool.{le-ltb}
use native.Mathlib.Decide.{ℕ_discrete}
use mathlib.Core.Option.{some}
use lib.ListN.{get_elem?}
use Rattle.atomic_table.specs.Table.{State}
use Rattle.atomic_table.proofs.Lists.{at_set, at_map, set_here, set_else}
use Rattle.record_memory.specs.declared.steps.Word.TheVariants.{Field}
use Rattle.record_memory.specs.declared.books.Setup.{Setup}
use Rattle.record_memory.specs.declared.books.View.{View}
use Rattle.record_memory.specs.declared.books.Book.{Book}
use Rattle.record_memory.specs.declared.books.Share.{Share}
use Rattle.record_memory.specs.declared.books.Standing.{Standing}
use Rattle.record_memory.specs.declared.books.Standing.TheVariants.{Handing, Free}
use Rattle.record_memory.specs.declared.books.Place.{Place}
use Rattle.record_memory.specs.declared.books.Place.TheVariants.{Undrawn, Root, Of}
use Rattle.record_memory.specs.Memory.{Memory, memory, address}
use Rattle.row_words.specs.Refs.{RefParts, refer}
use Rattle.row_words.specs.Packing.{link_in}
use Rattle.record_rule.specs.Records.{Record, carried, IsSound, IsLinkIn, share}
use Rattle.record_rule.specs.Inputs.{shape_at, shape_cell, scheme_at, scheme_cell, TakenCell, untaken, was_taken, taken_at, taken_cell, guard_of, notes_of, roots_of, locks_of, answered_of, offer_of, Outline, outline}
use Rattle.record_rule.specs.Facts.{At, ShapeFacts, CoverFacts}
use Rattle.record_rule.specs.Taken.{generation_of, IsTakenAs, TakenFits}
use Rattle.record_rule.specs.Shelves.{pool_at}
use Rattle.record_rule.specs.World.{Places, Parts, Rule, overshoot}
use Rattle.record_rule.specs.Kinds.{reused_one, field_load, share_in, is_idle, idle, Lawful}
use Rattle.record_rule.specs.HandingOut.{HasDrawn}
use Rattle.record_rule.specs.Asides.{next_in}
use Rattle.record_rule.specs.ChainRows.{row_of_share, share_with, row_in}
use Rattle.record_rule.specs.TakesFree.{HasFree, renewed, took_free, TookFree, LoadedFree}
use Rattle.record_rule.proofs.Lists.{below_at, one_at, map_set_same, counts_less}
use Rattle.record_rule.proofs.Owned.{share_of, seen_by, unseen_by}
use Rattle.record_rule.proofs.Quiet.{calm_after, same_overshoot, books_after, past_before}
use Rattle.record_memory.specs.declared.books.Moves.{Moves}
use Rattle.record_rule.specs.Counts.{was_drawn, drawn_as, retired_as, freed_as}
use Rattle.record_rule.proofs.Counts.{Balances, counts_moved}
use Rattle.record_rule.proofs.Rebuilt.{elsewhere, rebuilt}
use Rattle.record_rule.proofs.Retirements.{LeavesRetirements, retires_none, shows_same}
use Rattle.record_rule.proofs.RetirementMoves.{renewed_shows}
use Rattle.record_rule.proofs.Steps.{before, book}
use Rattle.record_rule.proofs.HandingOut.{known_within}
use Rattle.record_rule.proofs.Moves.{places_after}
use Rattle.record_rule.proofs.Owners.{record_of, load_fits, load_kept}

module _ (setup : Setup) (takings : List TakenCell) (taken_out : List RefParts) (i generation k : ℕ) (fits : TakenFits setup takings taken_out) (at : At takings i (was_taken generation k)) where
  -- the record's cell at its next generation
  abbrev anew : TakenCell
  anew = untaken (generation + 1)

  -- a reference that was in the list is still a record's
  old_taken : (n j older : ℕ) (c : TakenCell) → At takings j c → IsTakenAs c older n → Dec (j ≡ i) → (c' : TakenCell) × At (set takings i anew) j c' × IsTakenAs c' older n
  old_taken n j older c there name (yes e) = let same : c ≡ was_taken generation k = one_at takings i c (was_taken generation k) (subst (λ (z : ℕ). At takings z c) e there) at in (
    anew,
    subst (λ (z : ℕ). At (set takings i anew) z anew) (sym e) (set_here takings i anew (below_at takings i (was_taken generation k) at)),
    ⊎_elim (λ q. omega arith) (λ q. let g = q.0 in omega arith) (subst (λ (z : TakenCell). IsTakenAs z older n) same name),
  )
  old_taken n j older c there name (no ne) = (c, set_else takings i j anew ne ∙ there, name)

  -- between two handings out it was taken out once, which stays in the list
  pub taken_anew : TakenFits setup (set takings i (untaken (generation + 1))) taken_out
  taken_anew = record {
    each = λ n r e. let x = fits.each n r e in let y = old_taken n (r.index - 1) r.generation x.2 x.3 x.4 (ℕ_discrete (r.index - 1) i) in (x.0, x.1, y.0, y.1, y.2);
    older = λ j g c there le lt. ⊎_elim
        (λ q. by j g q.0 (subst (λ (z : TakenCell). g < generation_of z) (sym q.1) lt) le (ℕ_discrete g generation))
        (λ q. fits.older j g c q.1 le lt) (at_set takings i j anew c there);
    own = λ j e n there. ⊎_elim (λ q. let none : ⊥ = (let two : untaken (generation + 1) ≡ was_taken e n = q.1 in cc) in absurd none) (λ q. fits.own j e n q.1) (at_set takings i j anew (was_taken e n) there);
    once = fits.once;
  }
    where
      by : (j g : ℕ) → j ≡ i → g < generation + 1 → setup.first ≤ g → Dec (g ≡ generation) → (n : ℕ) × At taken_out n (refer (j + 1) g)
      by j g same lt le (yes e) = (k, fits.own i generation k at ∙ (λ z. some (refer (sym same z + 1) (sym e z))))
      by j g same lt le (no ne) = fits.older j g (was_taken generation k) (subst (λ (z : ℕ). At takings z (was_taken generation k)) (sym same) at) le (omega arith)

-- the record once it is being handed out again
abbrev pub renewed_record : ℕ → Record → Record
renewed_record c r = record r { place = Of c (Handing 0); generation = r.generation + 1 }

module _ (setup : Setup) where
  -- it is as sound
  renewed_sound : (i c : ℕ) (r : Record) → r.place ≡ Of c Free → IsSound setup i r → IsSound setup i (renewed_record c r)
  renewed_sound i c r at s = record {
    eight = s.eight;
    generations = λ f h. s.generations f h ∙ ap (λ (p : Place). carried p r.generation f) at ∙ (let e : r.generation ≡ r.generation + 1 - 1 = omega arith in e)
        ∙ sym (ap (λ b. cond b (r.generation + 1) (r.generation + 1 - 1)) (le-ltb f 0 (omega arith)));
    links = s.links;
    within = let below = s.renewable c at in omega arith;
    roots = λ h. let none : ⊥ = (let e : Of c Free ≡ Root = sym at ∙ s.roots h in cc) in absurd none;
    no_root = λ e. let none : ⊥ = cc in absurd none;
    root_generation = λ e. let none : ⊥ = cc in absurd none;
    unborn = λ e. let none : ⊥ = cc in absurd none;
    blank = λ e. let none : ⊥ = cc in absurd none;
    born = λ _. let old = s.born (λ e. let none : ⊥ = (let two : Of c Free ≡ Undrawn = sym at ∙ e in cc) in none) in omega arith;
    unfinished = λ d n e. let z : 0 ≡ n = cc in omega arith;
    callers = λ d t e. s.callers d Free (at ∙ (let z : c ≡ d = cc in ap (λ (x : ℕ). Of x Free) z));
    renewable = λ d e. let none : ⊥ = cc in absurd none;
    shelved = λ k e. let none : ⊥ = cc in absurd none;
  }

  -- its life before ended, and one more was begun anew
  balances_renewed : (m : Moves) (i c : ℕ) (r : Record) → r.place ≡ Of c Free → IsSound setup i r → Balances setup.first m (reused_one m) r (renewed_record c r)
  balances_renewed m i c r at s = let old = s.born (λ e. let none : ⊥ = (let two : Of c Free ≡ Undrawn = sym at ∙ e in cc) in none) in
      let a : was_drawn r ≡ 1 = ap drawn_as at in let b : retired_as r.place ≡ 1 = ap retired_as at in let d : freed_as r.place ≡ 1 = ap freed_as at in record { drawn = omega arith; reused = omega arith; retired = omega arith; freed = omega arith }

  -- and the caller that had it as free has it so
  renewed_places : (records : List Record) (books : List Book) (m : Memory) (c k : ℕ) (b own : Book) (r : Record) → Places setup records books m → get_elem? books c ≡ some b → get_elem? records k ≡ some r
      → r.place ≡ Of c Free → own.caller ≡ b.caller → own.mine ≡ set b.mine k (Some (share_of (Handing 0) (renewed_record c r))) → overshoot own ≡ overshoot b
      → Places setup (set records k (renewed_record c r)) (set books c own) m
  renewed_places records books m c k b own r p at there is caller mine weight = let new : Record = renewed_record c r in let f = p.books_fit c b at in
      places_after setup records books (set books c own) m m.rows k r new p there
      (λ e. let none : ⊥ = cc in absurd none, λ e. let none : ⊥ = (let two : Of c Free ≡ Undrawn = sym is ∙ e in cc) in absurd none)
      (map_set_same (λ (x : Record). x.row) records k r new there refl ∙ p.rows) (renewed_sound k c r is (p.sound k r there)) (sym (ap (λ (q : Place). pool_at q r) is)) (length-set books c own) (same_overshoot books c b own at weight)
      (books_after setup m m records (set records k new) books c own (λ h. h)
      (λ d ne. map_set_same (share d) records k r new there (unseen_by c d (Handing 0) new refl ne ∙ sym (unseen_by c d Free r is ne)))
      record {
        number = caller ∙ f.number;
        mine = mine ∙ ap (λ xs. set xs k (Some (share_of (Handing 0) new))) f.mine ∙ ap (λ h. set (map (share c) records) k h) (sym (seen_by c (Handing 0) new refl)) ∙ sym (map-set (share c) records k new);
        past = λ h. f.past (past_before b.drawing own.drawing weight h);
      } p.books_fit)

-- a step of the caller that has the record as free
module _ (shape : ShapeFacts) (cover : CoverFacts) (setup : Setup) (s : State (Unit {0}) View) (u : Rule shape cover setup s) (id : ℕ) (v : View) (at : get_elem? s.views id ≡ some v) (present : v.present ≡ true)
    (r : RefParts) (has : HasFree v r) (n : ℕ) (node : Record) (there : get_elem? u.records (r.index - 1) ≡ some node) (is : node.place ≡ Of v.own.caller Free) (whole : has.share ≡ share_of Free node) (found : n ≡ get_or node.row 1 0) where
  abbrev m : Memory
  m = memory setup.callers setup.records s.words

  abbrev c : ℕ
  c = v.own.caller

  abbrev i : ℕ
  i = r.index - 1

  -- the record and the caller's book afterwards
  abbrev new : Record
  new = renewed_record c node

  abbrev own : Book
  own = (took_free v r has.share node.row).own

  -- its caller knows the whole row of it
  share_is : renewed has.share node.row ≡ share_of (Handing 0) new
  share_is = λ k. record { standing = Handing 0; generation = (whole k).generation + 1; taken_number = (whole k).taken_number; words = node.row }

  -- what the facts read before
  abbrev was : Outline
  was = before shape cover setup s u

  -- that the record was taken out at an older generation is all that changed of it
  outline_is : record was { takings = set was.takings i (untaken (node.generation + 1)) } ≡ outline m (set u.records i new) (set u.books c own) u.taken_out u.updates
  outline_is = let here = book shape cover setup s u id v at present in λ k. record {
    shapes = sym (map_set_same shape_cell u.records i node new there (sym (ap (λ (p : Place). shape_at p node) is))) k;
    schemes = sym (map_set_same scheme_cell u.records i node new there (sym (ap (λ (p : Place). scheme_at p node) is))) k;
    takings = sym (map-set taken_cell u.records i new) k;
    epoch = m.epoch;
    announced = m.announced;
    taken_out = u.taken_out;
    updates = u.updates;
    guards = sym (map_set_same guard_of u.books c v.own own here refl) k;
    notes = sym (map_set_same notes_of u.books c v.own own here refl) k;
    roots = sym (map_set_same roots_of u.books c v.own own here refl) k;
    locks = sym (map_set_same locks_of u.books c v.own own here refl) k;
    answered = sym (map_set_same answered_of u.books c v.own own here refl) k;
    offers = sym (map_set_same offer_of u.books c v.own own here refl) k;
  }

  -- it was retired once at its generation, and at the next one never
  retires_none_here : LeavesRetirements setup.first u.records (set u.records i new) (field_load v r.index 1 (get_or node.row 1 0))
  retires_none_here = let sound = u.places.sound i node there in retires_none setup.first u.records (set u.records i new) (field_load v r.index 1 (get_or node.row 1 0)) refl
      (shows_same setup.first u.records i node new there (omega arith) (renewed_shows setup.first node new (sound.born (λ q. let none : Undrawn ≡ Of c Free = sym q ∙ is in let no_such : ⊥ = cc in no_such)) refl (ap retired_as is) refl))

  -- so the rule stays
  kept : (word : ℕ) → Rule shape cover setup record { words = set s.words word (get_or s.words word 0); homes = s.homes; views = set s.views id (took_free v r has.share node.row) }
  kept word = subst (λ (ws : List ℕ). Rule shape cover setup record { words = ws; homes = s.homes; views = set s.views id (took_free v r has.share node.row) }) (sym (set-get_or s.words word 0))
      (rebuilt shape cover setup s u id v at present s.words u.wide (set u.records i new) own _ (load_fits shape cover setup s u id v at present r.index 1 (get_or node.row 1 0) Free node there is) refl refl refl refl refl (elsewhere _ refl refl (λ e. cc)) retires_none_here
      (renewed_places setup u.records u.books m c i v.own own node u.places (book shape cover setup s u id v at present) there is refl (ap (λ (x : Share). set v.own.mine i (Some x)) share_is)
      (calm_after v.own.drawing v.setup.records (field_load v r.index 1 (get_or node.row 1 0)) tt))
      (subst (Parts shape cover setup) outline_is record {
        taken = taken_anew setup was.takings u.taken_out i node.generation node.taken_number u.parts.taken (at_map taken_cell u.records i node there ∙ ap some (ap (λ (p : Place). taken_at p node) is));
        held = u.parts.held;
        known = u.parts.known;
        locks = u.parts.locks;
        shape = u.parts.shape;
        told = u.parts.told;
        scheme = u.parts.scheme;
        words = u.parts.words;
        begun = u.parts.begun;
        history = u.parts.history;
      })
      (counts_moved setup.first u.records u.books c v.own own (book shape cover setup s u id v at present) u.counts i node new there (balances_renewed setup v.own.moves i c node is (u.places.sound i node there))))

  -- and this is what the caller knows then
  told : LoadedFree v r n (took_free v r has.share node.row)
  told = let sound = u.places.sound i node there in record {
    took = record {
      was = has;
      below = subst (λ (e : ℕ). e < 1048575) (sym (ap (λ (x : Share). x.generation) whole) ∙ has.generation) (sound.renewable c is);
      row = node.row;
      eight = sound.eight;
      knew = ap (λ (x : Share). x.words) whole;
      view = refl;
    };
    found = found;
    link = subst (IsLinkIn 1) (sym found) (sound.links 1 (inl refl));
  }

module _ (shape : ShapeFacts) (cover : CoverFacts) (setup : Setup) where
  -- A caller may take a free record to hand it out again
  pub takes_free : (id word : ℕ) (v : View) (r : RefParts) → v.present ≡ true → v.setup ≡ setup → 0 < r.index → word ≡ address setup.callers (Field r.index 1) → HasFree v r
      → Lawful (Rule shape cover setup) id v word (λ n. n) (λ n w. LoadedFree v r n w)
  takes_free id word v r present same some_index at_word has s u at = let x = record_of shape cover setup s u id v at present r.index has.share has.known in let n : ℕ = get_or s.words word 0 in
      let is : x.0.place ≡ Of v.own.caller Free = x.2 ∙ ap (Of v.own.caller) has.free in let whole : has.share ≡ share_of Free x.0 = x.3 ∙ ap (λ (q : Standing). share_of q x.0) has.free in
      let found : n ≡ get_or x.0.row 1 0 = ap (λ (z : ℕ). get_or s.words z 0) at_word ∙ load_kept shape cover setup s u id v at present r.index 1 x.0 some_index (omega arith) x.1 in (
        took_free v r has.share x.0.row,
        kept shape cover setup s u id v at present r has n x.0 x.1 is whole found word,
        told shape cover setup s u id v at present r has n x.0 x.1 is whole found,
      )

-- a record with an index is read where it is
pub read_with : (v : View) (i : ℕ) → 0 < i → share_with v i ≡ share_in v i
read_with v zero h = absurd (omega arith)
read_with v (suc k) h = refl

-- what the caller then knows of the record
module _ (v : View) (r : RefParts) (w : View) (t : TookFree v r w) where
  -- it is known among the caller's records
  within : r.index - 1 < length v.own.mine
  within = known_within v.own.mine (r.index - 1) t.was.share t.was.known

  -- it may be handed out, at its next generation
  pub drawn_again : HasDrawn w (refer r.index (r.generation + 1))
  drawn_again = record {
    within = subst (λ (x : View). r.index ≤ x.setup.records) (sym t.view) t.was.within;
    share = renewed t.was.share t.row;
    known = ap (λ (x : View). share_in x r.index) t.view ∙ get_or-set_same v.own.mine (r.index - 1) (Some (renewed t.was.share t.row)) None within;
    fresh = refl;
    generation = ap (λ (e : ℕ). e + 1) t.was.generation;
    eight = t.eight;
  }

  -- one less is idle
  pub idle_less : idle w.own + 1 ≡ idle v.own
  unfolding idle
  idle_less = ap (λ (x : View). idle x.own + 1) t.view ∙ counts_less is_idle v.own.mine (r.index - 1) (Some (renewed t.was.share t.row)) None within
      (ap is_idle t.was.known ∙ ap (λ (q : Standing). is_idle (Some (record t.was.share { standing = q }))) t.was.free) refl

  -- its chain word leads where it did
  pub next_again : 0 < r.index → next_in t.row ≡ (row_in v r).next
  next_again some_index = ap (λ (n : ℕ). (link_in n).target) (sym (get_or-take 3 t.row 1 0 (omega arith)) ∙ ap (λ (l : List ℕ). get_or l 1 0) (sym t.knew))
      ∙ ap (λ (o : Option Share). (row_of_share o).next) (sym t.was.known ∙ sym (read_with v r.index some_index))
