-- What a look at a root shows of its key: the try to hold what it leads to, and the load of that record's link.
use Rattle.std.proofs.Common.{◌≡◌, ℕ, ◌<◌, List, length, Bool, true, false, cond, eqb, Option, Some, None, sym, refl, ap, ◌∙◌, subst, arith}
use Rattle.std.proofs.lemmas.Bool.{eq-eqb}
use Rattle.set_model.specs.declared.calls.Call.{Call}
use Rattle.set_model.specs.Keys.{contains}
use Rattle.set_model.specs.Histories.{keys_of}
use Rattle.record_memory.specs.declared.books.Note.{Note}
use Rattle.row_words.specs.Refs.{RefParts, LinkParts}
use Rattle.row_words.specs.Packing.{link_in, key_in, packed_link}
use Rattle.row_words.proofs.Packed.{link_in-packed_link}
use Rattle.record_rule.specs.Facts.{At, CoverFacts, mark_bit, HasMark, link_at, key_at, word_in}
use Rattle.record_rule.specs.Links.{from_root, from_place, note_in, note_of, target_of, IsFound, LoadedLink, ExchangedLink}
use Rattle.list_facts.specs.Steps.{list_settled}
use Rattle.record_table.specs.declared.passes.Pass.{Pass}
use Rattle.record_table.specs.declared.nodes.Held.{Held}
use Rattle.record_table.specs.Handles.{view}
use Rattle.record_table.specs.Nodes.{HoldsThere}
use Rattle.reclaim_api.specs.Holds.{KeepsHeld, HasSeen}
use Rattle.reclaim_api.proofs.Noting.{load_notes, left_notes}
use Rattle.manager.specs.Callers.{AnswersNone}
use Rattle.one_key_facts.specs.OneKey.{one_key, empty_marked}
use Rattle.set_calls.specs.Knowing.{of_michael, HasSeenKey}
use Rattle.set_calls.proofs.Seen.{seen_by_hold, seen_by_load}
use Rattle.one_key_set.specs.Knowing.{HoldsKey, KnowsMark}

-- the try to hold what the root leads to
module _ {S R : Type 0} (p q : Pass S R) (key : ℕ) (link : LinkParts) (setup : (view q).setup ≡ (view p).setup) (none : AnswersNone (view p) (view q)) (clear : mark_bit link ≡ 0) (seen : HasSeen one_key 0 (from_root key) p q link) where
  link_is : link_at seen.saw.body 3 ≡ link
  link_is = ap link_in seen.saw.word ∙ seen.link_is

  -- it leads nowhere, so the key is absent
  pub absent_there : link.target ≡ None → HasSeenKey q key false (view q).own.updates_seen
  absent_there ends = seen_by_hold p q setup none key false one_key of_michael (from_root key) 0 link seen (seen.saw.shown.absent key refl (ap (λ (l : LinkParts). l.target) link_is ∙ ends))

  -- it leads to a record, which is held from then on, and has the key
  pub holds_there : (at : Held) → HoldsThere q at → at.place ≡ 0 → link.target ≡ Some at.target → HoldsKey q key at
  holds_there at there place leads = record {
    there = there;
    word = word_in found.0 4;
    known = subst (λ (x : Note). At x.words 1 (Some (word_in found.0 4))) (sym note_is) refl;
    key_is = seen.saw.shown.behind key found.0 refl refl found.1;
  }
    where
      leads_to : target_of link ≡ Some at.target
      leads_to = ap (λ (b : ℕ). cond (eqb b 1) None link.target) clear ∙ leads

      found : (b : List ℕ) × (seen.target ≡ Some b)
      found = subst (λ (to : Option RefParts). IsFound to seen.target) leads_to seen.found

      note_is : note_in (view q).own.notes at.place ≡ note_of one_key (Some found.0) (length seen.updates)
      note_is = ap (λ k. note_in (view q).own.notes k) place ∙ seen.note ∙ ap (λ (b : Option (List ℕ)). note_of one_key b (length seen.updates)) found.1

-- the load of the record's link
module _ {S R : Type 0} (c : CoverFacts) (p q : Pass S R) (key : ℕ) (at : Held) (first : Bool) (n : ℕ) (holds : HoldsKey p key at) (told : LoadedLink one_key c (view p) (from_place at.place at.target) 3 first n (view q)) where
  is_link : link_at told.saw.body 3 ≡ link_in n
  is_link = ap link_in told.saw.word

  -- it leads nowhere, so with a mark it is this
  marked_is : mark_bit (link_in n) ≡ 1 → link_in n ≡ empty_marked
  marked_is mark = λ k. record { flags = one k; target = nowhere k }
    where
      one : (link_in n).flags ≡ 1
      one = let few = subst (λ (l : LinkParts). l.flags < 2) is_link told.saw.shown.flagged in omega (arith, mark)

      nowhere : (link_in n).target ≡ None
      nowhere = ap (λ (l : LinkParts). l.target) (sym is_link) ∙ told.saw.shown.ends refl

  -- and is known from then on
  pub mark_noted : mark_bit (link_in n) ≡ 1 → KnowsMark q at
  mark_noted mark =
      let is : link_in n ≡ told.link.link = ap link_in told.link.packed ∙ link_in-packed_link told.link.own told.link.link told.link.in_range in
      let word : n ≡ packed_link told.link.own empty_marked = told.link.packed ∙ ap (packed_link told.link.own) (sym is ∙ marked_is mark) in
      let settled : list_settled 3 told.saw.body ≡ true = eq-eqb (mark_bit (link_at told.saw.body 3)) 1 (ap mark_bit is_link ∙ mark) in (
        told.link.own,
        subst (λ k. At (note_in (view q).own.notes at.place).words 0 (Some k)) word
            (load_notes one_key c (view p) (view q) at.place at.target first n told settled 1 holds.word holds.known),
      )

  -- what was held and known is so still
  pub holds_still : KeepsHeld p q → HoldsKey q key at
  holds_still keeps = record {
    there = keeps.holds at tt holds.there;
    word = holds.word;
    known = keeps.notes at.place 1 holds.word tt holds.known;
    key_is = holds.key_is;
  }

  -- without a mark, the key was in the set
  pub present_there : ¬ HasMark (link_in n) → (view q).setup ≡ (view p).setup → AnswersNone (view p) (view q) → KeepsHeld p q → HasSeenKey q key true (view q).own.updates_seen
  present_there clear setup none keeps = seen_by_load p q setup none key true one_key of_michael (from_place at.place at.target) c first n told keeps holds.there.started
      (ap (λ k. contains (keys_of (view q).seen_updates) k) same_key ∙ told.saw.shown.present refl (λ e. clear (sym (ap mark_bit is_link) ∙ e)))
    where
      same_key : key ≡ key_at told.saw.body
      same_key = sym holds.key_is ∙ ap key_in (sym (told.saw.fits 1 holds.word holds.known).0)

-- and a step that marks the record leaves its mark known
pub mark_left : {S R : Type 0} (p q : Pass S R) (key : ℕ) (at : Held) (old new : LinkParts) (call : Option Call) → HoldsKey p key at → new ≡ empty_marked → ExchangedLink one_key (view p) (from_place at.place at.target) 3 old new call (view q) → KnowsMark q at
mark_left p q key at old new call holds is made =
    let word : word_in made.body 3 ≡ packed_link at.target.generation empty_marked = made.word ∙ ap (packed_link at.target.generation) is in
    let link : link_at made.body 3 ≡ empty_marked = ap link_in word ∙ link_in-packed_link at.target.generation empty_marked record { flags = omega arith; target = tt } in
    let settled : list_settled 3 made.body ≡ true = eq-eqb (mark_bit (link_at made.body 3)) 1 (ap mark_bit link) in (
      at.target.generation,
      subst (λ k. At (note_in (view q).own.notes at.place).words 0 (Some k)) (ap (packed_link at.target.generation) is)
          (left_notes one_key (view p) (view q) at.place at.target old new call made settled 1 holds.word holds.known),
    )
