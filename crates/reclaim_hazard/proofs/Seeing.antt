-- What a load of a link shows of the link, the pass knowing more of the updates than when the call began.
use Rattle.std.proofs.Common.{◌≡◌, ◌≢◌, ℕ, ◌<◌, ◌≤◌, length, get_or-set_same, ap, sym, ◌∙◌, subst, arith}
use Rattle.record_memory.specs.declared.books.View.{View}
use Rattle.row_words.specs.Refs.{LinkParts}
use Rattle.row_words.specs.Packing.{link_in}
use Rattle.record_rule.specs.Facts.{ShapeFacts, CoverFacts, Reach, at_held}
use Rattle.record_rule.specs.Opening.{no_note}
use Rattle.record_rule.specs.Links.{Origin, from_root, from_place, near_of, target_of, note_in, note_of, IsFound, ReachedLink, AreWhole}
use Rattle.record_rule.proofs.Rebuilt.{starts_itself}
use Rattle.record_table.specs.declared.passes.Pass.{Pass}
use Rattle.record_table.specs.Handles.{view}
use Rattle.record_table.specs.Nodes.{HasStarted}
use Rattle.reclaim_api.specs.Holds.{IsElsewhere, HasSeen}

-- a node is known as before where its place's note stays
pub near_same : (v w : View) (o : Origin) (place : ℕ) → ((other : ℕ) → other ≢ place → note_in w.own.notes other ≡ note_in v.own.notes other) → IsElsewhere o place → near_of w o ≡ near_of v o
near_same v w (from_root n) place notes else = λ k. near_of v (from_root n)
near_same v w (from_place p r) place notes else = ap (at_held r) (notes p (λ e. else (sym e)))

-- `v` is what the pass knew at that load
pub has_seen : (s : ShapeFacts) (c : CoverFacts) {S R : Type 0} (p q : Pass S R) (v : View) (o : Origin) (r : Reach) (n : ℕ) (told : ReachedLink s c v o 3 r n (view q))
    → AreWhole (view p) (view q).seen_updates (view q).seen_taken_out → v.setup ≡ (view p).setup → near_of v o ≡ near_of (view p) o
    → r.place < c.places → HasStarted q → (view q).own.guard.start_updates ≤ length (view q).seen_updates → (link : LinkParts) → link_in n ≡ link → HasSeen s r.place o p q link
has_seen s c p q v o r n told whole setup near low started since link e = record {
  word = n;
  link_is = e;
  updates = (view q).seen_updates;
  taken_out = (view q).seen_taken_out;
  whole = whole;
  target = told.target;
  found = subst (λ (l : LinkParts). IsFound (target_of l) told.target) e told.found;
  at_load = v;
  setup = setup;
  near = near;
  saw = told.saw;
  noted = starts_itself (view q).seen_updates;
  seen = ap (λ (x : View). x.own.updates_seen) told.view;
  note = ap (λ (x : View). note_in x.own.notes r.place) told.view ∙ get_or-set_same v.own.notes r.place (note_of s told.target (length (view q).seen_updates)) no_note (let m = told.noted in omega arith);
  started = started;
  since_start = since;
}
