-- What the load of a record's link shows of its key: without a mark it was in the set; with one it was absent at its marking.
use Rattle.std.proofs.Common.{◌≡◌, ℕ, ◌+◌, ◌-◌, ◌≤◌, length, max, take, ◌<◌, Bool, true, false, sym, refl, ap, ◌∙◌, subst, arith}
use Rattle.set_model.specs.Keys.{contains}
use Rattle.set_model.specs.Histories.{keys_of}
use Rattle.record_memory.specs.declared.books.Setup.{Setup}
use Rattle.row_words.specs.Refs.{LinkParts}
use Rattle.row_words.specs.Packing.{link_in}
use Rattle.record_rule.specs.Facts.{CoverFacts, mark_bit, HasMark, link_at, key_at}
use Rattle.record_rule.specs.Links.{from_place, note_in, LoadedLink}
use Rattle.record_rule.specs.World.{StartsWith}
use Rattle.record_rule.proofs.Rebuilt.{starts_itself}
use Rattle.list_facts.proofs.Nodes.{noted_key}
use Rattle.record_table.specs.declared.passes.Pass.{Pass}
use Rattle.record_table.specs.declared.nodes.Held.{Held}
use Rattle.record_table.specs.declared.nodes.Node.TheVariants.{At}
use Rattle.record_table.specs.Handles.{view}
use Rattle.reclaim_api.specs.Holds.{KeepsHeld}
use Rattle.manager.specs.Callers.{AnswersNone}
use Rattle.set_calls.specs.Knowing.{of_lazy, IsOfKeys, HasSeenKey}
use Rattle.set_calls.proofs.Seen.{seen_by_load}
use Rattle.list_calls.specs.Standing.{rank, StandsAt}
use Rattle.list_calls.proofs.Standing.{stands_held}
use Rattle.lazy_facts.specs.Lazy.{lazy}
use Rattle.lazy_list.specs.Knowing.{StartsBehind, HasSeenAtMark}
use Rattle.lazy_list.proofs.Seeing.{absent_then}

module _ {S R : Type 0} (c : CoverFacts) (p q : Pass S R) (root key : ℕ) (at : Held) (first : Bool) (n : ℕ) (stands : StandsAt p root (At at)) (rank_is : rank p (At at) ≡ key + 1) (told : LoadedLink lazy c (view p) (from_place at.place at.target) 3 first n (view q))
    (setup : (view q).setup ≡ (view p).setup) (none : AnswersNone (view p) (view q)) (keeps : KeepsHeld p q) where
  is_link : link_at told.saw.body 3 ≡ link_in n
  is_link = ap link_in told.saw.word

  same_key : key ≡ key_at told.saw.body
  same_key = let k = noted_key lazy (note_in (view p).own.notes at.place) told.saw.body told.saw.fits stands.keyed in omega arith

  -- its flags are none, the mark or the lock
  pub few : (link_in n).flags < 3
  few = subst (λ (l : LinkParts). l.flags < 3) is_link told.saw.shown.list.flagged

  pub present_there : ¬ HasMark (link_in n) → HasSeenKey q key true (view q).own.updates_seen
  present_there clear = seen_by_load p q setup none key true lazy of_lazy (from_place at.place at.target) c first n told keeps stands.there.started
      (ap (λ k. contains (keys_of (view q).seen_updates) k) same_key ∙ told.saw.shown.list.present (λ e. clear (sym (ap mark_bit is_link) ∙ e)) refl)

  pub seen_at_mark : StartsBehind p → HasMark (link_in n) → HasSeenAtMark q (At at) key
  seen_at_mark behind mark =
      let marked : HasMark (link_at told.saw.body 3) = ap mark_bit is_link ∙ mark in
      let went = keeps.goes_on stands.there.started in
      let m = told.saw.marked in
      let place : max (view p).own.guard.start_updates m ≡ max (view q).own.guard.start_updates m = ap (λ k. max k m) (sym went.1) in
      let removal = told.saw.shown.marked marked in
      let still = (stands_held p q setup root keeps (At at) stands).1 in (
        m,
        (removal.0, (removal.1.0, removal.1.1, removal.1.2 ∙ (let z : key_at told.saw.body ≡ rank q (At at) - 1 = omega (arith, still, rank_is, same_key) in z), removal.1.3)),
        absent_then q key (max (view q).own.guard.start_updates m) (view q).seen_updates (subst IsOfKeys (sym (ap (λ (k : Setup). k.set) setup ∙ told.saw.set_is)) of_lazy) (starts_itself (view q).seen_updates)
            (subst (StartsWith (view q).seen_updates) (sym none.front) told.whole.front) went.0 (subst (λ k. k ≤ length (view q).seen_updates) place (told.saw.shown.within marked))
            (let e = ap length none.front in let b = behind in let s = went.1 in omega arith) (omega arith)
            (subst (λ k. contains (keys_of (take k (view q).seen_updates)) key ≡ false) place (ap (λ k. contains (keys_of (take (max (view p).own.guard.start_updates m) (view q).seen_updates)) k) same_key ∙ told.saw.shown.own marked)),
      )
