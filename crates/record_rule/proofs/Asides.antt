-- A record that its caller has is own or spare, and goes from one to the other.
use Rattle.std.proofs.Common.{◌++◌, ◌∷◌, [], inl, ◌≡◌, ℕ, ◌+◌, ◌-◌, ◌<◌, ◌≤◌, List, length, get_or, set, length-set, Bool, true, false, sym, refl, ap, ◌∙◌, subst, arith, Option, Some, None, get_or-set_same, get_or-set_other}
use Rattle.std.proofs.lemmas.List.{set-get_or}
use mathlib.Core.Option.{some}
use lib.ListN.{get_elem?}
use Rattle.atomic_table.specs.Table.{State}
use Rattle.record_memory.specs.declared.steps.Word.TheVariants.{Drawn, Field}
use Rattle.record_memory.specs.declared.books.Setup.{Setup}
use Rattle.record_memory.specs.declared.books.View.{View}
use Rattle.record_memory.specs.declared.steps.Step.{Step}
use Rattle.record_memory.specs.declared.books.Book.{Book}
use Rattle.record_memory.specs.declared.books.Share.{Share}
use Rattle.record_memory.specs.declared.books.Standing.{Standing}
use Rattle.record_memory.specs.declared.books.Standing.TheVariants.{Handing, Own, Spare, Free}
use Rattle.record_memory.specs.declared.books.Place.{Place}
use Rattle.record_memory.specs.declared.books.Place.TheVariants.{Of}
use Rattle.record_memory.specs.Memory.{Memory, memory, address, put}
use Rattle.record_memory.proofs.Stores.{stores}
use Rattle.row_words.specs.Refs.{RefParts}
use Rattle.row_words.specs.Packing.{own_in, number_in}
use Rattle.record_rule.specs.Records.{Record, known, carried, carried_by, IsLinkIn}
use Rattle.record_rule.specs.Inputs.{hidden, shape_had, shape_at, unpublished, birth, scheme_cell, scheme_had, scheme_at, untaken, taken_had, taken_at}
use Rattle.record_rule.specs.Facts.{ShapeFacts, CoverFacts}
use Rattle.record_rule.specs.World.{Parts, Places, Rule, overshoot}
use Rattle.record_rule.specs.Recorded.{StepFits}
use Rattle.record_rule.specs.Kinds.{field_store, field_load, share_in, is_idle, idle, IsKnownAs, IsKnown, IsOverAs, IsOver, Lawful}
use Rattle.record_rule.specs.HandingOut.{HasOwn}
use Rattle.record_rule.specs.Asides.{put_aside_as, put_aside, took_spare_as, took_spare, HasSpare}
use Rattle.record_rule.proofs.Lists.{counts_more, counts_less}
use Rattle.record_rule.proofs.Owned.{share_of}
use Rattle.record_memory.specs.declared.books.Moves.{Moves}
use Rattle.record_rule.specs.Counts.{drawn_as, retired_had, retired_as, freed_had, freed_as}
use Rattle.record_rule.proofs.Counts.{counts_moved, balances_same}
use Rattle.record_rule.proofs.Rebuilt.{counters, elsewhere, rebuilt}
use Rattle.record_rule.proofs.Retirements.{LeavesRetirements, RetiresNone, stored_none, shows_moved, stored_here}
use Rattle.record_rule.specs.Retirements.{WasStored}
use Rattle.record_rule.proofs.RetirementMoves.{beside_stamp}
use Rattle.record_rule.proofs.Quiet.{calm_after, IsSameBook, outline_after}
use Rattle.record_rule.proofs.Steps.{book}
use Rattle.record_rule.proofs.Fields.{with_word, Stores, owner_places}
use Rattle.record_rule.proofs.HandingOut.{known_within}
use Rattle.record_rule.proofs.Owners.{record_of, index_in, load_fits, store_fits, load_kept}

-- own or spare
abbrev pub kept_as : Bool → Standing
kept_as true = Own
kept_as false = Spare

-- each word of it carries its generation
carried_kept : (a : Bool) (generation f : ℕ) → carried_by (kept_as a) generation f ≡ generation
carried_kept true generation f = refl
carried_kept false generation f = refl

-- its caller knows the whole row
known_kept : (a : Bool) (row : List ℕ) → known (kept_as a) row ≡ row
known_kept true row = refl
known_kept false row = refl

-- a set doesn't see it
hidden_kept : (a : Bool) (r : Record) → shape_had (kept_as a) r ≡ hidden
hidden_kept true r = refl
hidden_kept false r = refl

-- a reclaimer sees it as unpublished
unpublished_kept : (a : Bool) (c : ℕ) (r : Record) → scheme_had c (kept_as a) r ≡ unpublished c r.generation (birth r)
unpublished_kept true c r = refl
unpublished_kept false c r = refl

-- it isn't being handed out
never_handing : (a : Bool) (n : ℕ) → kept_as a ≡ Handing n → n < 8
never_handing true n e = let none : ⊥ = cc in absurd none
never_handing false n e = let none : ⊥ = cc in absurd none

-- nor is it free
never_free : (a : Bool) {s : Standing} → kept_as a ≡ Free → s ≡ Free
never_free true e = let none : ⊥ = cc in absurd none
never_free false e = let none : ⊥ = cc in absurd none

-- it doesn't stand in the list of those taken out
untaken_kept : (b : Bool) (r : Record) → taken_had (kept_as b) r ≡ untaken r.generation
untaken_kept true r = refl
untaken_kept false r = refl

-- nor was it retired or freed
not_retired : (b : Bool) → retired_had (kept_as b) ≡ 0
not_retired true = refl
not_retired false = refl

not_freed : (b : Bool) → freed_had (kept_as b) ≡ 0
not_freed true = refl
not_freed false = refl

-- the caller's share after a store of the chain word
abbrev moved : Share → Bool → ℕ → Share
moved h b value = record h { standing = kept_as b; words = set h.words 1 value }

module _ (shape : ShapeFacts) (cover : CoverFacts) (setup : Setup) (s : State (Unit {0}) View) (u : Rule shape cover setup s) (id : ℕ) (v : View) (at : get_elem? s.views id ≡ some v) (present : v.present ≡ true) where
  abbrev m : Memory
  m = memory setup.callers setup.records s.words

  abbrev c : ℕ
  c = v.own.caller

  -- the caller's book
  abbrev own_there : get_elem? u.books c ≡ some v.own
  own_there = book shape cover setup s u id v at present

  -- the words after a store of the chain word of record i
  abbrev after : ℕ → ℕ → List ℕ
  after i value = set s.words (address setup.callers (Field i 1)) value

  -- The record's chain word is stored, and it goes from own or spare to own or spare. `b` is the caller's book afterwards
  module _ (from to : Bool) (i value : ℕ) (h : Share) (r : Record) (pos : 0 < i) (there : get_elem? u.records (i - 1) ≡ some r) (is : r.place ≡ Of c h.standing) (whole : h ≡ share_of h.standing r) (was : h.standing ≡ kept_as from)
      (own : own_in value ≡ h.generation) (link : IsLinkIn 1 value) (b : Book) (caller : b.caller ≡ c) (same : IsSameBook v.own b) (step : Step) (finds : StepFits setup c step)
      (other : ¬ (step.word ≡ Drawn)) (none : RetiresNone step) (stored : WasStored (set u.records (i - 1) (with_word c (kept_as to) r 1 value)) step) (steps : b.steps ≡ v.own.steps ++ step ∷ []) (weight : overshoot b ≡ overshoot v.own)
      (mine : b.mine ≡ set v.own.mine (i - 1) (Some (moved h to value))) (births : ℕ) (moves : b.moves ≡ record v.own.moves { births = births }) where
    -- the record afterwards
    abbrev new : Record
    new = with_word c (kept_as to) r 1 value

    -- where it was
    was_at : r.place ≡ Of c (kept_as from)
    was_at = is ∙ ap (Of c) was

    -- what the words say after the store
    stored_words : memory setup.callers setup.records (after i value) ≡ put m (Field i 1) value
    stored_words = stores setup.callers setup.records s.words (Field i 1) value u.wide (pos, index_in shape cover setup s u id v at present i r pos there, omega arith)

    -- the caller's share is the record's
    share_is : moved h to value ≡ share_of (kept_as to) new
    share_is = λ k. record {
      standing = kept_as to;
      generation = (whole k).generation;
      taken_number = (whole k).taken_number;
      words = (ap (λ (x : Share). set x.words 1 value) whole ∙ ap (λ l. set l 1 value) (ap (λ (q : Standing). known q r.row) was ∙ known_kept from r.row) ∙ sym (known_kept to (set r.row 1 value))) k;
    }

    -- the owner may store so
    stores_it : Stores setup (kept_as from) (kept_as to) r 1 value
    stores_it = record {
      below = omega arith;
      own = λ g _ _. own ∙ ap (λ (x : Share). x.generation) whole ∙ sym (carried_kept to r.generation g);
      others = λ g _ _. carried_kept to r.generation g ∙ sym (carried_kept from r.generation g);
      link = λ _. link;
      unfinished = λ n e. never_handing to n e;
      freed = λ e. never_free to e;
    }

    -- where the records are afterwards
    places_after : Places setup (set u.records (i - 1) new) (set u.books c b) (memory setup.callers setup.records (after i value))
    places_after = subst (Places setup (set u.records (i - 1) new) (set u.books c b)) (sym stored_words)
        (owner_places setup u.records u.books m c i 1 value (kept_as from) (kept_as to) v.own b r u.places own_there there was_at stores_it caller (mine ∙ ap (λ (x : Share). set v.own.mine (i - 1) (Some x)) share_is) weight)

    -- a reclaimer sees no change
    cell_is : scheme_cell new ≡ scheme_cell r
    cell_is = unpublished_kept to c new ∙ ap (λ (n : ℕ). unpublished c r.generation (number_in n)) (get_or-set_other r.row 1 0 value 0 (λ e. omega arith)) ∙ sym (ap (λ (p : Place). scheme_at p r) was_at ∙ unpublished_kept from c r)

    -- no record shows another number of retirements
    retires_none_here : LeavesRetirements setup.first u.records (set u.records (i - 1) new) step
    retires_none_here = stored_none setup.first u.records (set u.records (i - 1) new) step none stored (shows_moved setup.first u.records (i - 1) r new there refl (not_retired to ∙ sym (ap retired_as was_at ∙ not_retired from)))

    -- so the rule stays
    pub move_kept : Rule shape cover setup record { words = after i value; homes = s.homes; views = set s.views id (record v { own = b }) }
    move_kept = rebuilt shape cover setup s u id v at present (after i value) (length-set s.words (address setup.callers (Field i 1)) value ∙ u.wide) (set u.records (i - 1) new) b step finds caller same.answered same.guard same.notes steps
        (elsewhere step (ap counters stored_words) (ap (λ (z : Moves). z.drawn) moves) other) retires_none_here places_after
        (subst (Parts shape cover setup) (sym (outline_after m (memory setup.callers setup.records (after i value)) u.taken_out u.updates (ap (λ (x : Memory). x.epoch) stored_words)
        (ap (λ (x : Memory). x.announced) stored_words) u.books c v.own b own_there same u.records (i - 1) r new there record {
          shape = hidden_kept to new ∙ sym (ap (λ (p : Place). shape_at p r) was_at ∙ hidden_kept from r);
          scheme = cell_is;
          taken = untaken_kept to new ∙ sym (ap (λ (p : Place). taken_at p r) was_at ∙ untaken_kept from r);
        })) u.parts)
        (counts_moved setup.first u.records u.books c v.own b own_there u.counts (i - 1) r new there
        (balances_same setup.first v.own.moves b.moves r new (ap (λ (z : Moves). z.drawn) moves) (ap (λ (z : Moves). z.reused) moves) (ap (λ (z : Moves). z.retired) moves) (ap (λ (z : Moves). z.freed) moves) refl
        (sym (ap drawn_as was_at)) (not_retired to ∙ sym (ap retired_as was_at ∙ not_retired from)) (not_freed to ∙ sym (ap freed_as was_at ∙ not_freed from))))

  -- the store that sets an own record aside is a step that its caller may make
  pub fits : (i value : ℕ) (h : Share) (r : Record) → 0 < i → get_elem? u.records (i - 1) ≡ some r → r.place ≡ Of c h.standing → h ≡ share_of h.standing r → h.standing ≡ Own → own_in value ≡ h.generation → StepFits setup c (field_store v i 1 value h)
  fits i value h r pos there is whole was own = store_fits shape cover setup s u id v at present i 1 value h r pos there is whole (omega arith)
      (subst (λ (q : Standing). 1 < length (known q r.row)) (sym was) (let e = (u.places.sound (i - 1) r there).eight in omega arith)) own

  -- the record that is read has the generation, holds a link, and is what its caller knows
  pub read : (i : ℕ) (h : Share) (r : Record) (n : ℕ) → get_elem? u.records (i - 1) ≡ some r → r.place ≡ Of c h.standing → h ≡ share_of h.standing r → h.standing ≡ Spare → n ≡ get_or r.row 1 0
      → (own_in n ≡ h.generation) × IsLinkIn 1 n × (n ≡ get_or h.words 1 0)
  read i h r n there is whole was found = let sound = u.places.sound (i - 1) r there in (
    ap own_in found ∙ sound.generations 1 (omega arith) ∙ ap (λ (p : Place). carried p r.generation 1) (is ∙ ap (Of c) was) ∙ sym (ap (λ (x : Share). x.generation) whole),
    subst (IsLinkIn 1) (sym found) (sound.links 1 (inl refl)),
    found ∙ sym (ap (λ (x : Share). get_or x.words 1 0) whole ∙ ap (λ (q : Standing). get_or (known q r.row) 1 0) was),
  )

module _ (shape : ShapeFacts) (cover : CoverFacts) (setup : Setup) where
  -- A caller may set an own record aside
  pub sets_aside : (id : ℕ) (v : View) (word i value : ℕ) (h : Share) → v.present ≡ true → v.setup ≡ setup → word ≡ address setup.callers (Field i 1) → 0 < i
      → share_in v i ≡ Some h → h.standing ≡ Own → own_in value ≡ h.generation → IsLinkIn 1 value
      → Lawful (Rule shape cover setup) id v word (λ _. value) (λ n w. (w ≡ put_aside v i value) × IsOver v i 1 n)
  sets_aside id v word i value h present same is pos mine was own link s u at = let n : ℕ = get_or s.words word 0 in
      let x = record_of shape cover setup s u id v at present i h mine in
      let found : n ≡ get_or x.0.row 1 0 = ap (λ (z : ℕ). get_or s.words z 0) is ∙ load_kept shape cover setup s u id v at present i 1 x.0 pos (omega arith) x.1 in
      let known_is : get_or x.0.row 1 0 ≡ get_or h.words 1 0 = sym (ap (λ (y : Share). get_or y.words 1 0) x.3 ∙ ap (λ (q : Standing). get_or (known q x.0.row) 1 0) was) in
      let e : put_aside v i value ≡ put_aside_as v i value (Some h) = ap (put_aside_as v i value) mine in
      let b : Book = (put_aside_as v i value (Some h)).own in let same_book : IsSameBook v.own b = record { guard = refl; notes = refl; roots = refl; locks = refl; answered = refl; offer = refl } in
      let kept : Rule shape cover setup record { words = set s.words (address setup.callers (Field i 1)) value; homes = s.homes; views = set s.views id (put_aside_as v i value (Some h)) } =
      move_kept shape cover setup s u id v at present true false i value h x.0 pos x.1 x.2 x.3 was own link b refl same_book (field_store v i 1 value h) (fits shape cover setup s u id v at present i value h x.0 pos x.1 x.2 x.3 was own) (λ e. cc)
      (beside_stamp i 1 (field_store v i 1 value h) refl refl refl (λ e. omega arith))
      (stored_here setup.first u.records (i - 1) x.0 (with_word v.own.caller Spare x.0 1 value) x.1 (field_store v i 1 value h) i pos refl (λ j f e. let z : i ≡ j = cc in z) (own ∙ ap (λ (y : Share). y.generation) x.3)) refl
      (calm_after v.own.drawing v.setup.records (field_store v i 1 value h) tt) refl v.own.moves.births refl in (
        put_aside v i value,
        subst (λ (z : ℕ × View). Rule shape cover setup record { words = set s.words z.0 value; homes = s.homes; views = set s.views id z.1 }) (λ k. (sym is k, sym e k)) kept,
        (refl, subst (λ (o : Option Share). IsOverAs o 1 n) (sym mine) (found ∙ known_is)),
      )

  -- A caller may take a spare record again, and finds the chain word that it knows
  pub takes_spare : (id : ℕ) (v : View) (word i : ℕ) (h : Share) → v.present ≡ true → v.setup ≡ setup → word ≡ address setup.callers (Field i 1) → 0 < i → share_in v i ≡ Some h → h.standing ≡ Spare
      → Lawful (Rule shape cover setup) id v word (λ n. n) (λ n w. (w ≡ took_spare v i n) × IsKnown v i 1 n)
  takes_spare id v word i h present same is pos mine was s u at = let n : ℕ = get_or s.words word 0 in
      let x = record_of shape cover setup s u id v at present i h mine in let r : Record = x.0 in
      let found : n ≡ get_or r.row 1 0 = ap (λ (z : ℕ). get_or s.words z 0) is ∙ load_kept shape cover setup s u id v at present i 1 r pos (omega arith) x.1 in
      let f = read shape cover setup s u id v at present i h r n x.1 x.2 x.3 was found in
      let e : took_spare v i n ≡ took_spare_as v i n (Some h) = ap (took_spare_as v i n) mine in
      let b : Book = (took_spare_as v i n (Some h)).own in let same_book : IsSameBook v.own b = record { guard = refl; notes = refl; roots = refl; locks = refl; answered = refl; offer = refl } in
      let words_stay : h.words ≡ set h.words 1 n = sym (ap (set h.words 1) f.2 ∙ set-get_or h.words 1 0) in
      let kept : Rule shape cover setup record { words = set s.words (address setup.callers (Field i 1)) n; homes = s.homes; views = set s.views id (took_spare_as v i n (Some h)) } =
      move_kept shape cover setup s u id v at present false true i n h r pos x.1 x.2 x.3 was f.0 f.1 b refl same_book (field_load v i 1 n) (load_fits shape cover setup s u id v at present i 1 n h.standing r x.1 x.2) (λ e. cc) (λ j g. refl) (λ j f kind on. let none : ⊥ = cc in absurd none) refl
      (calm_after v.own.drawing v.setup.records (field_load v i 1 n) tt)
      (ap (λ (l : List ℕ). set v.own.mine (i - 1) (Some (record h { standing = Own; words = l }))) words_stay) (v.own.moves.births + 1) refl in (
        took_spare v i n,
        subst (λ (z : ℕ × View). Rule shape cover setup record { words = set s.words z.0 n; homes = s.homes; views = set s.views id z.1 }) (λ k. (sym is k, sym e k)) kept,
        (refl, subst (λ (o : Option Share). IsKnownAs o 1 n) (sym mine) (f.2, λ _. f.1.0)),
      )

-- a move leaves all of a view but what it says of its own caller
pub same_aside : (v : View) (i value : ℕ) (h : Share) → share_in v i ≡ Some h → ((put_aside v i value).setup ≡ v.setup) × ((put_aside v i value).present ≡ v.present) × ((put_aside v i value).own.caller ≡ v.own.caller) × ((put_aside v i value).others ≡ v.others)
same_aside v i value h known = let e : put_aside v i value ≡ put_aside_as v i value (Some h) = ap (put_aside_as v i value) known in (ap (λ (w : View). w.setup) e, ap (λ (w : View). w.present) e, ap (λ (w : View). w.own.caller) e, ap (λ (w : View). w.others) e)

-- and so does the other move
pub same_taken : (v : View) (i n : ℕ) (h : Share) → share_in v i ≡ Some h → ((took_spare v i n).setup ≡ v.setup) × ((took_spare v i n).present ≡ v.present) × ((took_spare v i n).own.caller ≡ v.own.caller) × ((took_spare v i n).others ≡ v.others)
same_taken v i n h known = let e : took_spare v i n ≡ took_spare_as v i n (Some h) = ap (took_spare_as v i n) known in (ap (λ (w : View). w.setup) e, ap (λ (w : View). w.present) e, ap (λ (w : View). w.own.caller) e, ap (λ (w : View). w.others) e)

-- what the caller then knows of the record, and how many are idle
module _ (v : View) (r : RefParts) (row : List ℕ) where
  -- the view after the record was set aside
  pub aside_is : (value : ℕ) (h : HasOwn v r row) → put_aside v r.index value ≡ put_aside_as v r.index value (Some h.share)
  aside_is value h = ap (put_aside_as v r.index value) h.known

  -- the record is spare then
  pub spare_after : (value : ℕ) → HasOwn v r row → HasSpare (put_aside v r.index value) r (set row 1 value)
  spare_after value h = let after : Share = moved h.share false value in record {
    within = subst (λ (w : View). r.index ≤ w.setup.records) (sym (aside_is value h)) h.within;
    share = after;
    known = ap (λ (w : View). share_in w r.index) (aside_is value h) ∙ get_or-set_same v.own.mine (r.index - 1) (Some after) None (known_within v.own.mine (r.index - 1) h.share h.known);
    standing_is = refl;
    generation = h.generation;
    row_is = ap (λ l. set l 1 value) h.row_is;
    eight = length-set row 1 value ∙ h.eight;
  }

  -- and one more is idle
  pub idle_aside : (value : ℕ) → HasOwn v r row → idle (put_aside v r.index value).own ≡ idle v.own + 1
  unfolding idle
  idle_aside value h = ap (λ (w : View). idle w.own) (aside_is value h) ∙ counts_more is_idle v.own.mine (r.index - 1) (Some (moved h.share false value)) None (known_within v.own.mine (r.index - 1) h.share h.known)
      (ap is_idle h.known ∙ ap (λ (q : Standing). is_idle (Some (record h.share { standing = q }))) h.standing_is) refl

  -- the view after it was taken again
  pub took_is : (n : ℕ) (h : HasSpare v r row) → took_spare v r.index n ≡ took_spare_as v r.index n (Some h.share)
  took_is n h = ap (took_spare_as v r.index n) h.known

  -- the record is own then
  pub own_again : (n : ℕ) → HasSpare v r row → HasOwn (took_spare v r.index n) r row
  own_again n h = let after : Share = record h.share { standing = Own } in record {
    within = subst (λ (w : View). r.index ≤ w.setup.records) (sym (took_is n h)) h.within;
    share = after;
    known = ap (λ (w : View). share_in w r.index) (took_is n h) ∙ get_or-set_same v.own.mine (r.index - 1) (Some after) None (known_within v.own.mine (r.index - 1) h.share h.known);
    standing_is = refl;
    generation = h.generation;
    row_is = h.row_is;
    eight = h.eight;
  }

  -- and one less is idle
  pub idle_taken : (n : ℕ) → HasSpare v r row → idle (took_spare v r.index n).own + 1 ≡ idle v.own
  unfolding idle
  idle_taken n h = ap (λ (w : View). idle w.own + 1) (took_is n h) ∙ counts_less is_idle v.own.mine (r.index - 1) (Some (record h.share { standing = Own })) None (known_within v.own.mine (r.index - 1) h.share h.known)
      (ap is_idle h.known ∙ ap (λ (q : Standing). is_idle (Some (record h.share { standing = q }))) h.standing_is) refl

  -- the step found the chain word that is known
  pub found_chain : (n : ℕ) → HasSpare v r row → IsKnown v r.index 1 n → n ≡ get_or row 1 0
  found_chain n h found = (subst (λ (o : Option Share). IsKnownAs o 1 n) h.known found).0 ∙ ap (λ l. get_or l 1 0) h.row_is
