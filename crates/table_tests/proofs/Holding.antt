-- What a caller holds after its first load of a link, and what it knows of it after further steps.
use Rattle.std.proofs.Common.{◌≡◌, ℕ, ◌+◌, ◌-◌, ◌<◌, ◌≤◌, List, length, set, length-set, Bool, true, false, cond, eqb, not, ◌&&◌, sym, ap, ◌∙◌, subst, refl, arith, Option, Some, None, get_or-set_same}
use Rattle.std.proofs.lemmas.List.{length-map}
use Rattle.std.proofs.lemmas.Bool.{le-ltb}
use Rattle.atomic_table.proofs.Lists.{set_here, set_else}
use Rattle.record_memory.specs.declared.books.View.{View}
use Rattle.record_memory.specs.declared.books.Guard.{Guard}
use Rattle.record_memory.specs.declared.books.Note.{Note}
use Rattle.set_model.specs.declared.calls.Call.{Call}
use Rattle.set_model.specs.declared.calls.Call.TheVariants.{Remove}
use Rattle.record_memory.specs.declared.books.Share.{Share}
use Rattle.record_memory.specs.declared.books.Standing.TheVariants.{TakenOut}
use Rattle.row_words.specs.Refs.{RefParts, LinkParts}
use Rattle.row_words.specs.Packing.{link_in, packed_link, key_in, IsLink}
use Rattle.row_words.proofs.Packed.{link_in-packed_link}
use Rattle.record_rule.specs.Facts.{At, link_at, mark_bit, Moment}
use Rattle.record_rule.specs.Guards.{nothing_at, started_if, holding}
use Rattle.record_rule.specs.Kinds.{share_in}
use Rattle.record_rule.proofs.Lists.{get_at}
use Rattle.record_rule.specs.Links.{near_of, Origin, from_root, from_place, note_in, note_of, note_word, noting, target_of, LoadedKey, LoadedLink, ReachedLink, ExchangedLink, UnlinkedRecord, HasTaken}
use Rattle.record_table.specs.declared.nodes.Held.{Held}
use Rattle.record_table.specs.declared.passes.Pass.{Pass}
use Rattle.record_table.specs.Handles.{view, since, IsSamePass}
use Rattle.record_table.specs.Nodes.{HoldsThere, is_first, reach_at}
use Rattle.record_table.proofs.Started.{later_load}
use Rattle.table_tests.specs.First.{HasNote, HasKey, HasMark, HoldsFirst, HoldsFound}
use Rattle.list_facts.specs.Michael.{michael}
use Rattle.list_facts.specs.Steps.{list_settled, marked_with, key_in_note, key_noted, MayMark}
use Rattle.cover_facts.specs.Keeping.{none}

module _ {S R : Type 0} where
  -- what it holds it still holds after steps that leave its guard
  pub still_there : (p q : Pass S R) (h : Held) → since q ≡ since p → (view q).own.guard ≡ (view p).own.guard → (view q).setup ≡ (view p).setup → HoldsThere p h → HoldsThere q h
  still_there p q h begun guard setup there = record {
    started = subst (λ (z : View × Guard). length z.0.own.steps < z.1.start_step) (λ k. (sym begun k, sym guard k)) there.started;
    within = subst (λ z. h.target.index ≤ z.records) (sym setup) there.within;
    holds = subst (λ (g : Guard). At g.holds h.place (Some h.target)) (sym guard) there.holds;
  }

  -- a guard that starts with this load
  first_load : (p : Pass S R) → since p ≡ view p → (view p).own.guard.start_step ≤ length (view p).own.steps → (reach_at p 0).first ≡ true
  first_load p begun late = ap not (le-ltb (length (since p).own.steps) (view p).own.guard.start_step (subst (λ (v : View). (view p).own.guard.start_step ≤ length v.own.steps) (sym begun) late))

  module _ (p q : Pass S R) (n : ℕ) (r : RefParts) (begun : since p ≡ view p) (same : since q ≡ since p) (told : ReachedLink michael none (view p) (from_root 0) 3 (reach_at p 0) n (view q)) (clear : (link_in n).flags ≡ 0) (to : (link_in n).target ≡ Some r) where
    -- the link leads to it without a mark
    leads : target_of (link_in n) ≡ Some r
    leads = ap (λ (f : ℕ). cond (eqb f 1) None (link_in n).target) (ap (λ (f : ℕ). mark_bit record { flags = f; target = None }) clear) ∙ to

    abbrev time : Moment
    time = record { epoch = told.epoch; taken_out = length (view q).seen_taken_out; updates = length (view q).seen_updates }

    abbrev step : ℕ
    step = length (view p).own.steps + 1

    guard_is : (view q).own.guard ≡ holding (started_if true time (view p).own.guard step) 0 (Some r)
    guard_is = ap (λ (v : View). v.own.guard) told.view ∙ (λ k. holding (started_if (first_load p begun told.late k) time (view p).own.guard step) 0 (leads k))

    held_now : HoldsThere q (record { place = 0; target = r })
    held_now = record {
      started = let e = ap (λ (g : Guard). g.start_step) guard_is in let z = ap (λ (v : View). length v.own.steps) (same ∙ begun) in omega arith;
      within = let w = told.within r leads in subst (λ (v : View). r.index ≤ v.setup.records) (sym told.view) w;
      holds = subst (λ (g : Guard). At g.holds 0 (Some r)) (sym guard_is) (set_here _ 0 (Some r) (let l = length-map (view p).own.guard.holds nothing_at in let m = told.many in omega arith));
    }

    five_words : length (note_in (view q).own.notes 0).words ≡ 5
    five_words = ap (λ (l : List Note). length (note_in l 0).words) (ap (λ (v : View). v.own.notes) told.view)
        ∙ ap (λ (x : Note). length x.words) (get_or-set_same (view p).own.notes 0 (note_of michael told.target (length (view q).seen_updates)) _ (let m = told.noted in omega arith)) ∙ five told.target
      where
        five : (t : Option (List ℕ)) → length (note_of michael t (length (view q).seen_updates)).words ≡ 5
        five None = refl
        five (Some b) = refl

    noted_now : HasNote (view q)
    noted_now = record {
      some = let l = length-set (view p).own.notes 0 (note_of michael told.target (length (view q).seen_updates)) in let m = told.noted in let e = ap (λ (v : View). length v.own.notes) told.view in omega arith;
      five = five_words;
    }

    -- so the pass holds it from then on, and has a note of it
    first_held : HoldsFirst q r
    first_held = record { holds = held_now; noted = noted_now }

  pub found_held : (p q : Pass S R) (n : ℕ) (t : Option RefParts) → since p ≡ view p → since q ≡ since p → ReachedLink michael none (view p) (from_root 0) 3 (reach_at p 0) n (view q) → (link_in n).flags ≡ 0 → (link_in n).target ≡ t → HoldsFound q t
  found_held p q n None begun same told clear to = tt
  found_held p q n (Some r) begun same told clear to = first_held p q n r begun same told clear to

  module _ (p q : Pass S R) (h : Held) (same : IsSamePass p q) (there : HoldsThere p h) where
    began : since q ≡ since p
    began = ap (λ x. x.value.me.0) same.since

    -- after steps on what it holds it holds it still
    still_after : (view q).own.guard ≡ (view p).own.guard → HoldsThere q h
    still_after guard = still_there p q h began guard same.setup there

noted_word : (l : List Note) (w : Note) → 0 < length l → note_in (set l 0 w) 0 ≡ w
noted_word l w long = get_or-set_same l 0 w _ long

-- the note is kept by further steps
module _ (v w : View) (noted : HasNote v) where
  note_key : (pl n : ℕ) (r : RefParts) → LoadedKey v pl r n w → HasNote w
  note_key pl n r told = subst HasNote (sym told.view) record { some = noted.some; five = noted.five }

  noting_keeps : (b : Bool) (r : RefParts) (n : ℕ) → (0 < length (noting b v.own.notes (from_place 0 r) 3 n)) × (length (note_in (noting b v.own.notes (from_place 0 r) 3 n) 0).words ≡ 5)
  noting_keeps false r n = (noted.some, noted.five)
  noting_keeps true r n = let w : Note = note_word (note_in v.own.notes 0) 3 n in (
    (let l = length-set v.own.notes 0 w in let s = noted.some in omega arith),
    ap (λ (x : Note). length x.words) (noted_word v.own.notes w noted.some) ∙ length-set (note_in v.own.notes 0).words 0 (Some n) ∙ noted.five,
  )

  note_link : {first : Bool} (r : RefParts) (n : ℕ) → LoadedLink michael none v (from_place 0 r) 3 first n w → HasNote w
  note_link r n told = let k = noting_keeps (list_settled 3 told.saw.body) r n in subst HasNote (sym told.view) record { some = k.0; five = k.1 }

  noting_keyed : (b : Bool) (r : RefParts) (n k : ℕ) → At (note_in v.own.notes 0).words 1 (Some k) → At (note_in (noting b v.own.notes (from_place 0 r) 3 n) 0).words 1 (Some k)
  noting_keyed false r n k known = known
  noting_keyed true r n k known = let w : Note = note_word (note_in v.own.notes 0) 3 n in subst (λ (x : Note). At x.words 1 (Some k)) (sym (noted_word v.own.notes w noted.some)) (set_else (note_in v.own.notes 0).words 0 1 (Some n) (omega arith) ∙ known)

  key_link : {first : Bool} (r : RefParts) (n key : ℕ) → LoadedLink michael none v (from_place 0 r) 3 first n w → HasKey v key → HasKey w key
  key_link r n key told k = record {
    word = k.word;
    known = subst (λ (x : View). At (note_in x.own.notes 0).words 1 (Some k.word)) (sym told.view) (noting_keyed (list_settled 3 told.saw.body) r n k.word k.known);
    key_is = k.key_is;
  }

  noting_here : (b : Bool) (r : RefParts) (n : ℕ) → b ≡ true → At (note_in (noting b v.own.notes (from_place 0 r) 3 n) 0).words 0 (Some n)
  noting_here b r n settled = subst (λ (x : Note). At x.words 0 (Some n)) (sym (ap (λ z. note_in (noting z v.own.notes (from_place 0 r) 3 n) 0) settled ∙ noted_word v.own.notes (note_word (note_in v.own.notes 0) 3 n) noted.some))
      (set_here (note_in v.own.notes 0).words 0 (Some n) (let f = noted.five in omega arith))

  -- a link with a mark is noted, which no step changes any more: where it is loaded
  note_loaded : {first : Bool} (r : RefParts) (n : ℕ) → LoadedLink michael none v (from_place 0 r) 3 first n w → (link_in n).flags ≡ 1 → HasMark w (link_in n)
  note_loaded r n told mark =
      let link : link_in n ≡ told.link.link = ap link_in told.link.packed ∙ link_in-packed_link told.link.own told.link.link told.link.in_range in
      let settled : list_settled 3 told.saw.body ≡ true = ap (λ (l : LinkParts). eqb (mark_bit l) 1) (ap link_in told.saw.word) ∙ ap (λ (f : ℕ). eqb (mark_bit record { flags = f; target = None }) 1) mark in
      let same : n ≡ packed_link told.link.own (marked_with (link_in n)) = told.link.packed ∙ ap (packed_link told.link.own) (sym link ∙ ap (λ (f : ℕ). record { flags = f; target = (link_in n).target }) mark) in
      (told.link.own, subst (λ (k : ℕ). At (note_in w.own.notes 0).words 0 (Some k)) same (subst (λ (x : View). At (note_in x.own.notes 0).words 0 (Some n)) (sym told.view) (noting_here (list_settled 3 told.saw.body) r n settled)))

  -- and where it is left
  note_left : (r : RefParts) (old new : LinkParts) (call : Option Call) → IsLink new → new.flags ≡ 1 → ExchangedLink michael v (from_place 0 r) 3 old new call w → At (note_in w.own.notes 0).words 0 (Some (packed_link r.generation new))
  note_left r old new call is_link mark told =
      let link : link_at told.body 3 ≡ new = ap link_in told.word ∙ link_in-packed_link r.generation new is_link in
      let settled : list_settled 3 told.body ≡ true = ap (λ (l : LinkParts). eqb (mark_bit l) 1) link ∙ ap (λ (f : ℕ). eqb (mark_bit record { flags = f; target = None }) 1) mark in
      subst (λ (x : View). At (note_in x.own.notes 0).words 0 (Some (packed_link r.generation new))) (sym told.view) (noting_here (list_settled 3 told.body) r (packed_link r.generation new) settled)

-- a record whose key is known may be marked where its link has no flags
pub may_mark : (v : View) (key : ℕ) (r : RefParts) (link new : LinkParts) → HasKey v key → link.flags ≡ 0 → new ≡ marked_with link → MayMark 0 v.setup (near_of v (from_place 0 r)) 3 link new (Some (Remove key))
may_mark v key r link new known clear mark = (refl, tt, (known.word, known.known), clear, mark, ap (λ k. Some (Remove k)) below)
  where
    noted : key ≡ key_noted (note_in v.own.notes 0)
    noted = known.key_is ∙ sym (ap key_in_note (get_at (note_in v.own.notes 0).words 1 (Some known.word) None known.known))

    below : key ≡ key_noted (note_in v.own.notes 0) + 1 - 1
    below = let e = noted in omega arith

module _ {S R : Type 0} (p q : Pass S R) (r : RefParts) (same : IsSamePass p q) (first : HoldsFirst p r) where
  -- after steps on what it holds it holds it still
  pub after_key : (n : ℕ) → LoadedKey (view p) 0 r n (view q) → HoldsFirst q r
  after_key n told = record {
    holds = still_after p q (record { place = 0; target = r }) same first.holds (ap (λ (v : View). v.own.guard) told.view);
    noted = note_key (view p) (view q) first.noted 0 n r told;
  }

  pub after_link : (n : ℕ) → LoadedLink michael none (view p) (from_place 0 r) 3 (is_first p) n (view q) → HoldsFirst q r
  after_link n told = let time : Moment = record { epoch = told.epoch; taken_out = length (view q).seen_taken_out; updates = length (view q).seen_updates } in record {
    holds = still_after p q (record { place = 0; target = r }) same first.holds (ap (λ (v : View). v.own.guard) told.view ∙ ap (λ (b : Bool). started_if (true && b) time (view p).own.guard (length (view p).own.steps + 1)) (later_load p first.holds.started));
    noted = note_link (view p) (view q) first.noted r n told;
  }

  -- and knows the key that it loaded
  pub key_loaded : (n : ℕ) → LoadedKey (view p) 0 r n (view q) → HasKey (view q) (key_in n)
  key_loaded n told = record {
    word = n;
    known = subst (λ (x : View). At (note_in x.own.notes 0).words 1 (Some n)) (sym told.view) told.known;
    key_is = refl;
  }

  pub mark_loaded : (n : ℕ) → LoadedLink michael none (view p) (from_place 0 r) 3 (is_first p) n (view q) → (link_in n).flags ≡ 1 → HasMark (view q) (link_in n)
  mark_loaded n told mark = note_loaded (view p) (view q) first.noted r n told mark

  pub key_after_link : (n key : ℕ) → LoadedLink michael none (view p) (from_place 0 r) 3 (is_first p) n (view q) → HasKey (view p) key → HasKey (view q) key
  key_after_link n key told = key_link (view p) (view q) first.noted r n key told

  module _ (old new : LinkParts) (call : Option Call) (told : ExchangedLink michael (view p) (from_place 0 r) 3 old new call (view q)) where
    pub after_exchange : HoldsThere q (record { place = 0; target = r })
    after_exchange = still_after p q (record { place = 0; target = r }) same first.holds (ap (λ (v : View). v.own.guard) told.view)

    pub after_mark : IsLink new → new.flags ≡ 1 → At (note_in (view q).own.notes 0).words 0 (Some (packed_link r.generation new))
    after_mark is_link mark = note_left (view p) (view q) first.noted r old new call is_link mark told

-- what is taken out may be retired
pub taken_now : (v w : View) (o : Origin) (gone : RefParts) (new : LinkParts) → 0 < v.setup.records → UnlinkedRecord michael v o 3 gone new w → (h : Share) × HasTaken w gone h
taken_now v w o gone new any told = let h : Share = record { standing = TakenOut; generation = gone.generation; taken_number = length told.taken_out; words = told.words } in (
  h,
  record {
    within = subst (λ (x : View). gone.index ≤ x.setup.records) (sym told.view) told.within;
    known = ap (λ (x : View). share_in x gone.index) told.view ∙ get_or-set_same v.own.mine (gone.index - 1) (Some h) None (let l = told.mine in let k = told.within in omega arith);
    standing = refl;
    generation = refl;
    three = told.three;
  },
)
