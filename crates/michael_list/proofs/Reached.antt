-- What a hop shows: that no key stands between its node and what it reached, and where that stands.
use Rattle.std.proofs.Common.{◌≡◌, ◌≢◌, ℕ, ◌+◌, ◌%◌, ◌<◌, List, length, false, cond, eqb, Option, Some, None, MatchOption, sym, refl, ap, ◌∙◌, subst, arith}
use Rattle.record_memory.specs.declared.books.Setup.{Setup}
use Rattle.record_memory.specs.declared.books.Note.{Note}
use Rattle.row_words.specs.Refs.{RefParts, LinkParts}
use Rattle.row_words.specs.Packing.{link_in}
use Rattle.record_rule.specs.Facts.{At as Stands, Near, at_root, at_held, mark_bit, HasMark, link_at, key_at, word_in}
use Rattle.record_rule.specs.Laws.{root_at}
use Rattle.record_rule.specs.Links.{near_of, note_in, note_of, FitsBody, IsFound, target_of}
use Rattle.list_facts.specs.Michael.{michael}
use Rattle.list_facts.specs.Steps.{rank_near, home_near, IsKeyed, key_noted}
use Rattle.list_facts.specs.Tellings.{rank_at, home_at, rank_of, IsTargetSeen}
use Rattle.list_facts.proofs.Nodes.{noted_key}
use Rattle.record_table.specs.declared.passes.Pass.{Pass}
use Rattle.record_table.specs.declared.nodes.Held.{Held}
use Rattle.record_table.specs.declared.nodes.Node.{Node}
use Rattle.record_table.specs.declared.nodes.Node.TheVariants.{Root, At}
use Rattle.record_table.specs.Handles.{view}
use Rattle.record_table.specs.Nodes.{origin, HoldsThere}
use Rattle.reclaim_api.specs.Holds.{KeepsHeld, KeepsElse, IsElsewhere, HasSeen}
use Rattle.manager.specs.Callers.{AnswersNone}
use Rattle.set_calls.specs.Knowing.{of_michael, HasSeenKey}
use Rattle.set_calls.proofs.Seen.{seen_by_hold}
use Rattle.list_calls.specs.Standing.{rank, StandsAt, StandsBefore}
use Rattle.list_calls.proofs.Reached.{home_is, rank_is, found_there, body_found, note_is, stands_there, rises, below_target, below_none}
use Rattle.list_calls.proofs.Reached as list
use Rattle.list_calls.proofs.Standing.{stands_held, before_held, seen_held}
use Rattle.michael_list.specs.Knowing.{HasReachedNext}

module _ {S R : Type 0} (p q : Pass S R) (place root key : ℕ) (before : Node) (link : LinkParts) (same_setup : (view q).setup ≡ (view p).setup) (none : AnswersNone (view p) (view q))
    (seen : HasSeen michael place (origin before) p q link) (clear : mark_bit link ≡ 0) (at : StandsBefore p root key before) (home : key % (view p).setup.roots ≡ root) where
  -- the node's link as it was loaded
  link_is : link_at seen.saw.body 3 ≡ link
  link_is = ap link_in seen.saw.word ∙ seen.link_is

  unmarked : ¬ HasMark (link_at seen.saw.body 3)
  unmarked e = let z : mark_bit link ≡ 1 = ap mark_bit (sym link_is) ∙ e in omega (arith, clear)

  leads_to : target_of link ≡ link.target
  leads_to = ap (λ (b : ℕ). cond (eqb b 1) None link.target) clear

  -- so where the target, if there is one, has a greater key, the key was absent
  pub absent_between : MatchOption (rank_of seen.target) (Unit {0}) (λ r. key + 1 < r) → HasSeenKey q key false (view q).own.updates_seen
  absent_between high = seen_by_hold p q same_setup none key false michael of_michael (origin before) place link seen
      (seen.saw.shown.between unmarked refl (found_there michael p q place root before link same_setup (target_of link) seen at.stands leads_to) key
      (ap (λ (k : Setup). key % k.roots) seen.setup ∙ home ∙ sym (home_is michael p q place root before link same_setup (target_of link) seen at.stands)) (let low = at.below in let e = rank_is michael p q place root before link same_setup (target_of link) seen at.stands in omega arith) high)

  -- where there is none, it was
  pub absent_at_end : link.target ≡ None → HasSeenKey q key false (view q).own.updates_seen
  absent_at_end ends = absent_between (below_none michael p q place root before link same_setup (target_of link) seen at.stands (leads_to ∙ ends) (key + 1))

  -- the node is held still, at another place
  pub stands_else : IsElsewhere (origin before) place → KeepsElse place p q → StandsAt q root before × (rank q before ≡ rank p before)
  stands_else = list.stands_else michael p q place root before link same_setup (target_of link) seen at.stands

  pub before_still : IsElsewhere (origin before) place → KeepsElse place p q → StandsBefore q root key before
  before_still else keeps = let still = stands_else else keeps in record { stands = still.0; below = let e = still.1 in let b = at.below in omega arith }

  module _ (held : Held) (there : HoldsThere q held) (placed : held.place ≡ place) (leads : link.target ≡ Some held.target) where
    abbrev led : target_of link ≡ Some held.target
    led = leads_to ∙ leads

    abbrev found : (b : List ℕ) × (seen.target ≡ Some b)
    found = body_found michael p q place root before link same_setup (target_of link) seen at.stands held there placed led (λ b. refl)

    behind : (key_at found.0 % seen.at_load.setup.roots ≡ home_at seen.at_load.setup (root_at michael (near_of seen.at_load (origin before))) seen.saw.body) × (rank_at (root_at michael (near_of seen.at_load (origin before))) seen.saw.body < key_at found.0 + 1)
    behind = seen.saw.shown.up unmarked refl found.0 found.1

    -- the next record of the list is reached
    pub reaches_next : IsElsewhere (origin before) place → KeepsElse place p q → HasReachedNext q root key before held (view q).own.updates_seen
    reaches_next else keeps = record {
      before_it = before_still else keeps;
      else = subst (IsElsewhere (origin before)) (sym placed) else;
      stands = stands_there michael p q place root before link same_setup (target_of link) seen at.stands held there placed led (λ b. refl) behind;
      reached_at = ap (λ (x : Note). x.reached_at) (note_is michael p q place root before link same_setup (target_of link) seen at.stands held there placed led (λ b. refl)) ∙ sym seen.seen;
      rises = rises michael p q place root before link same_setup (target_of link) seen at.stands held there placed led (λ b. refl) behind else keeps;
      gap = λ above. absent_between (below_target michael p q place root before link same_setup (target_of link) seen at.stands held there placed led (λ b. refl) (key + 1) above);
    }

-- what was reached is the next record still, where all is kept
pub reached_still : {S R : Type 0} (p q : Pass S R) → (view q).setup ≡ (view p).setup → (root : ℕ) → KeepsHeld p q → AnswersNone (view p) (view q) → (key : ℕ) (before : Node) (at : Held) {seen : ℕ} → HasReachedNext p root key before at seen → HasReachedNext q root key before at seen
reached_still p q setup root keeps none key before at h =
    let a = stands_held p q setup root keeps before h.before_it.stands in let b = stands_held p q setup root keeps (At at) h.stands in record {
      before_it = before_held p q setup root keeps key before h.before_it;
      else = h.else;
      stands = b.0;
      rises = let e = a.1 in let f = b.1 in let r = h.rises in omega arith;
      reached_at = keeps.reached at.place tt ∙ h.reached_at;
      gap = λ above. seen_held p q setup root keeps none key false (h.gap (let f = b.1 in omega (arith, above)));
    }
