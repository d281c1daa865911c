-- What was seen of a key: by the calls of a guard that see it, and after calls that keep what was seen.
use Rattle.std.proofs.Common.{◌≡◌, ℕ, ◌≤◌, length, length-append, Bool, Option, sym, ap, ◌∙◌, subst, arith}
use Rattle.set_model.specs.Keys.{contains}
use Rattle.set_model.specs.Histories.{keys_of}
use Rattle.record_memory.specs.declared.books.Setup.{Setup}
use Rattle.record_memory.specs.declared.books.View.{View}
use Rattle.row_words.specs.Refs.{RefParts, LinkParts}
use Rattle.record_rule.specs.Facts.{ShapeFacts, CoverFacts}
use Rattle.record_rule.specs.World.{StartsWith}
use Rattle.record_rule.specs.Links.{Origin, LoadedLink}
use Rattle.record_rule.proofs.Rebuilt.{starts_itself, starts_then}
use Rattle.record_table.specs.declared.passes.Pass.{Pass}
use Rattle.record_table.specs.Handles.{view}
use Rattle.record_table.specs.Nodes.{HasStarted}
use Rattle.reclaim_api.specs.Holds.{KeepsSome, KeepsHeld, HasSeenTarget}
use Rattle.manager.specs.Callers.{AnswersNone}
use Rattle.set_calls.specs.Knowing.{IsOfKeys, HasSeenKey}

module _ {S R : Type 0} (p q : Pass S R) (setup : (view q).setup ≡ (view p).setup) (none : AnswersNone (view p) (view q)) (key : ℕ) (present : Bool) where
  -- what was seen is so still
  pub seen_still : (places : ℕ → Type 0) (words : ℕ → ℕ → Type 0) {position : ℕ} → KeepsSome places words p q → HasSeenKey p key present position → HasSeenKey q key present position
  seen_still places words keeps h = record {
    of_keys = subst (λ (k : Setup). IsOfKeys k.set) (sym setup) h.of_keys;
    updates = h.updates;
    many = h.many;
    seen = starts_then h.updates (view p).seen_updates (view q).seen_updates h.seen keeps.noted;
    front = subst (StartsWith h.updates) (sym none.front) h.front;
    started = (keeps.goes_on h.started).0;
    since_start = let e = (keeps.goes_on h.started).1 in let l = h.since_start in omega arith;
    answer = h.answer;
  }

  module _ (s : ShapeFacts) (keys : IsOfKeys s.name) (o : Origin) where
    -- by the last load of a link in a try to hold what it leads to, which is the last that the pass noted
    pub seen_by_hold : (place : ℕ) (link : LinkParts) {to : Option RefParts} (seen : HasSeenTarget s place o p q to link) → contains (keys_of seen.updates) key ≡ present → HasSeenKey q key present (view q).own.updates_seen
    seen_by_hold place link seen answer = record {
      of_keys = subst IsOfKeys (sym (ap (λ (k : Setup). k.set) (setup ∙ sym seen.setup) ∙ seen.saw.set_is)) keys;
      updates = seen.updates;
      many = sym seen.seen;
      seen = seen.noted;
      front = subst (StartsWith seen.updates) (sym none.front) seen.whole.front;
      started = seen.started;
      since_start = seen.since_start;
      answer = answer;
    }

    -- by the load of a link of what is held
    pub seen_by_load : (c : CoverFacts) (first : Bool) (n : ℕ) → LoadedLink s c (view p) o 3 first n (view q) → KeepsHeld p q → HasStarted p → contains (keys_of (view q).seen_updates) key ≡ present → HasSeenKey q key present (view q).own.updates_seen
    seen_by_load c first n told keeps started answer = record {
      of_keys = subst IsOfKeys (sym (ap (λ (k : Setup). k.set) setup ∙ told.saw.set_is)) keys;
      updates = (view q).seen_updates;
      many = sym (ap (λ (v : View). v.own.updates_seen) told.view);
      seen = starts_itself (view q).seen_updates;
      front = subst (StartsWith (view q).seen_updates) (sym none.front) told.whole.front;
      started = (keeps.goes_on started).0;
      since_start = let e = (keeps.goes_on started).1 in let r = told.whole.recent.updates_since in let l = seen_less in omega arith;
      answer = answer;
    }
      where
        seen_less : length (view p).seen_updates ≤ length (view q).seen_updates
        seen_less = let e = ap length told.whole.seen_updates.1 in let l = length-append (view p).seen_updates told.whole.seen_updates.0 in omega arith
