-- What a hop along the list shows: where the record stands that it reached, and that no key stands between its node and that; by the load of the node's link, or, where the node is marked, at its marking.
use Rattle.std.proofs.Common.{◌≡◌, ℕ, ◌+◌, ◌-◌, ◌%◌, ◌<◌, ◌≤◌, List, length, max, take, false, Option, Some, None, MatchOption, sym, refl, ap, ◌∙◌, subst, arith}
use native.Mathlib.Decide.{ℕ_discrete}
use Rattle.record_memory.specs.declared.books.Setup.{Setup}
use Rattle.row_words.specs.Refs.{LinkParts}
use Rattle.record_rule.specs.Inputs.{Start}
use Rattle.record_rule.specs.Facts.{Near, mark_bit, HasMark, link_at, key_at}
use Rattle.record_rule.specs.World.{StartsWith}
use Rattle.record_rule.specs.Laws.{root_at}
use Rattle.record_rule.specs.Links.{near_of}
use Rattle.set_model.specs.Keys.{contains}
use Rattle.set_model.specs.Histories.{keys_of}
use Rattle.list_facts.specs.Tellings.{rank_at, home_at, rank_of, IsTargetSeen}
use Rattle.record_table.specs.declared.passes.Pass.{Pass}
use Rattle.record_table.specs.declared.nodes.Held.{Held}
use Rattle.record_table.specs.declared.nodes.Node.{Node}
use Rattle.record_table.specs.declared.nodes.Node.TheVariants.{Root, At}
use Rattle.record_table.specs.Handles.{view}
use Rattle.record_table.specs.Nodes.{origin, HasStarted, HoldsThere}
use Rattle.reclaim_api.specs.declared.following.Reached.{Reached}
use Rattle.reclaim_api.specs.Following.{HasFollowed, found_link}
use Rattle.reclaim_api.specs.Holds.{KeepsHeld, KeepsElse, IsElsewhere, HasSeenTarget}
use Rattle.manager.specs.Callers.{AnswersNone}
use Rattle.set_calls.specs.Knowing.{of_lazy, IsOfKeys, HasSeenKey}
use Rattle.set_calls.proofs.Seen.{seen_by_hold}
use Rattle.list_calls.specs.Standing.{rank, StandsAt, StandsBefore}
use Rattle.list_calls.proofs.Standing.{stands_held, before_held, seen_held}
use Rattle.list_calls.proofs.Reached.{link_is, home_is, rank_is, found_there, body_found, stands_there, rises, below_target, below_none}
use Rattle.list_calls.proofs.Reached as list
use Rattle.lazy_facts.specs.Lazy.{lazy}
use Rattle.lazy_list.specs.Knowing.{AnsweredNone, StartsBehind, HasSeenAtMark, ShowsAbsent, HasReachedNext}
use Rattle.lazy_list.specs.Places.{IsRemovalAt}
use Rattle.lazy_list.proofs.Seeing.{removal_stays, absent_then}

module _ {S R : Type 0} (p q : Pass S R) (place root key : ℕ) (before : Node) (r : Reached) (same_setup : (view q).setup ≡ (view p).setup) (none : AnswersNone (view p) (view q))
    (told : HasFollowed lazy place (origin before) p r q) (at : StandsBefore p root key before) (home : key % (view p).setup.roots ≡ root) (fresh : AnsweredNone p) (else : IsElsewhere (origin before) place) (keeps : KeepsElse place p q) where
  abbrev link : LinkParts
  link = found_link r

  abbrev seen : HasSeenTarget lazy place (origin before) p q link.target link
  seen = told.seen

  abbrev node : Near
  node = near_of seen.at_load (origin before)

  link_read : link_at seen.saw.body 3 ≡ link
  link_read = link_is lazy p q place root before link same_setup link.target seen at.stands

  -- the key has its home in the node's list, above the node
  key_home : key % seen.at_load.setup.roots ≡ home_at seen.at_load.setup (root_at lazy node) seen.saw.body
  key_home = ap (λ (k : Setup). key % k.roots) seen.setup ∙ home ∙ sym (home_is lazy p q place root before link same_setup link.target seen at.stands)

  key_above : rank_at (root_at lazy node) seen.saw.body < key + 1
  key_above = let low = at.below in let e = rank_is lazy p q place root before link same_setup link.target seen at.stands in omega arith

  target_found : IsTargetSeen (link_at seen.saw.body 3).target seen.target
  target_found = found_there lazy p q place root before link same_setup link.target seen at.stands refl

  -- the guard started behind the front
  pub starts_behind : StartsBehind q
  starts_behind = let b = told.behind in let e = ap length none.front in let f = ap length fresh in omega arith

  keys : IsOfKeys (view q).setup.set
  keys = subst IsOfKeys (sym (ap (λ (k : Setup). k.set) (same_setup ∙ sym seen.setup) ∙ seen.saw.set_is)) of_lazy

  -- where the node is marked, it is a record, and was held before the load
  is_held : (n : Node) → root_at lazy (near_of seen.at_load (origin n)) ≡ None → StandsAt p root n → HasStarted p
  is_held (Root i) e h = let no : ⊥ = cc in absurd no
  is_held (At a) e h = h.there.started

  module _ (high : MatchOption (rank_of seen.target) (Unit {0}) (λ t. key + 1 < t)) where
    by_look : ¬ HasMark link → HasSeenKey q key false (view q).own.updates_seen
    by_look clear = seen_by_hold p q same_setup none key false lazy of_lazy (origin before) place link seen
        (seen.saw.shown.list.between (λ e. clear (subst HasMark link_read e)) refl target_found key key_home key_above high)

    by_mark : HasMark link → HasSeenAtMark q before key
    by_mark mark =
        let marked : HasMark (link_at seen.saw.body 3) = subst HasMark (sym link_read) mark in
        let alone : root_at lazy node ≡ None = seen.saw.shown.is_record marked in
        let went = keeps.goes_on (is_held before alone at.stands) in
        let start : (view q).own.guard.start_updates ≡ (view p).own.guard.start_updates = went.1 in
        let load_start : seen.at_load.own.guard.start_updates ≡ (view p).own.guard.start_updates = ap (λ (s : Start). s.updates) told.start in
        let n = seen.saw.marked in
        let same_place : max seen.at_load.own.guard.start_updates n ≡ max (view q).own.guard.start_updates n = ap (λ k. max k n) (load_start ∙ sym start) in
        let rank_read : rank_at (root_at lazy node) seen.saw.body ≡ rank p before = rank_is lazy p q place root before link same_setup link.target seen at.stands in
        let low : rank p before ≡ key_at seen.saw.body + 1 = sym rank_read ∙ ap (λ (x : Option ℕ). rank_at x seen.saw.body) alone in
        let still : rank q before ≡ rank p before = (list.stands_else lazy p q place root before link same_setup link.target seen at.stands else keeps).1 in
        let home_there : key % seen.at_load.setup.roots ≡ key_at seen.saw.body % seen.at_load.setup.roots = key_home ∙ ap (λ (x : Option ℕ). home_at seen.at_load.setup x seen.saw.body) alone in
        let removal = seen.saw.shown.marked marked in (
          n,
          (removal_stays (view q).seen_updates seen.updates n (rank q before - 1) seen.noted (removal.0, (removal.1.0, removal.1.1, removal.1.2 ∙ (let z : key_at seen.saw.body ≡ rank q before - 1 = omega (arith, still, low) in z), removal.1.3))),
          absent_then q key (max (view q).own.guard.start_updates n) seen.updates keys seen.noted (subst (StartsWith seen.updates) (sym none.front) seen.whole.front) seen.started
              (subst (λ k. k ≤ length seen.updates) same_place (seen.saw.shown.within marked)) (let b = starts_behind in omega arith) (omega arith)
              (subst (λ k. contains (keys_of (take k seen.updates)) key ≡ false) same_place (seen.saw.shown.up_to marked refl target_found key home_there (let a = key_above in let z = low in let y = rank_read in omega arith) high)),
        )

    shows_absent : ShowsAbsent q key before link
    shows_absent = record { by_look = by_look; by_mark = by_mark }

  -- where the link leads nowhere
  pub absent_at_end : link.target ≡ None → ShowsAbsent q key before link
  absent_at_end ends = shows_absent (below_none lazy p q place root before link same_setup link.target seen at.stands ends (key + 1))

  -- the node is held still
  pub low_still : rank q before ≡ rank p before
  low_still = (list.stands_else lazy p q place root before link same_setup link.target seen at.stands else keeps).1

  pub before_still : StandsBefore q root key before
  before_still = let still = list.stands_else lazy p q place root before link same_setup link.target seen at.stands else keeps in record { stands = still.0; below = let e = still.1 in let b = at.below in omega arith }

  module _ (held : Held) (there : HoldsThere q held) (placed : held.place ≡ place) (leads : link.target ≡ Some held.target) where
    abbrev found : (b : List ℕ) × (seen.target ≡ Some b)
    found = body_found lazy p q place root before link same_setup link.target seen at.stands held there placed leads (λ b. refl)

    behind : (key_at found.0 % seen.at_load.setup.roots ≡ home_at seen.at_load.setup (root_at lazy node) seen.saw.body) × (rank_at (root_at lazy node) seen.saw.body < key_at found.0 + 1)
    behind = by (ℕ_discrete (mark_bit (link_at seen.saw.body 3)) 1)
      where
        by : Dec (mark_bit (link_at seen.saw.body 3) ≡ 1) → (key_at found.0 % seen.at_load.setup.roots ≡ home_at seen.at_load.setup (root_at lazy node) seen.saw.body) × (rank_at (root_at lazy node) seen.saw.body < key_at found.0 + 1)
        by (yes mark) = let up = seen.saw.shown.up mark refl found.0 found.1 in
            subst (λ (x : Option ℕ). (key_at found.0 % seen.at_load.setup.roots ≡ home_at seen.at_load.setup x seen.saw.body) × (rank_at x seen.saw.body < key_at found.0 + 1)) (sym (seen.saw.shown.is_record mark)) (up.0, omega (arith, up.1))
        by (no clear) = seen.saw.shown.list.up clear refl found.0 found.1

    -- the next record of the list is reached
    pub reaches_next : HasReachedNext q root key before link held
    reaches_next = record {
      before_it = before_still;
      else = subst (IsElsewhere (origin before)) (sym placed) else;
      stands = stands_there lazy p q place root before link same_setup link.target seen at.stands held there placed leads (λ b. refl) behind;
      rises = rises lazy p q place root before link same_setup link.target seen at.stands held there placed leads (λ b. refl) behind else keeps;
      behind = starts_behind;
      gap = λ above. shows_absent (below_target lazy p q place root before link same_setup link.target seen at.stands held there placed leads (λ b. refl) (key + 1) above);
    }

-- what was seen is so still, where all is kept and nothing more was seen
module _ {S R : Type 0} (p q : Pass S R) (setup : (view q).setup ≡ (view p).setup) (root : ℕ) (keeps : KeepsHeld p q) (none : AnswersNone (view p) (view q)) (key : ℕ) where
  pub at_mark_still : (node : Node) → StandsAt p root node → HasSeenAtMark p node key → HasSeenAtMark q node key
  at_mark_still node at h = let start = (keeps.goes_on h.2.started).1 in let still = (stands_held p q setup root keeps node at).1 in (
    h.0,
    removal_stays (view q).seen_updates (view p).seen_updates h.0 (rank q node - 1) keeps.noted (subst (IsRemovalAt (view p).seen_updates h.0) (let z : rank p node - 1 ≡ rank q node - 1 = omega (arith, still) in z) h.1),
    subst (λ k. HasSeenKey q key false (max k h.0)) (sym start) (seen_held p q setup root keeps none key false h.2),
  )

  pub absent_still : (view q).own.updates_seen ≡ (view p).own.updates_seen → (before : Node) (link : LinkParts) → StandsAt p root before → ShowsAbsent p key before link → ShowsAbsent q key before link
  absent_still seen before word at h = record {
    by_look = λ clear. subst (HasSeenKey q key false) (sym seen) (seen_held p q setup root keeps none key false (h.by_look clear));
    by_mark = λ mark. at_mark_still before at (h.by_mark mark);
  }

  pub behind_still : HasStarted p → StartsBehind p → StartsBehind q
  behind_still started h = let start = (keeps.goes_on started).1 in let e = ap length none.front in omega arith

  -- so what was reached is the next record still
  pub reached_still : (view q).own.updates_seen ≡ (view p).own.updates_seen → (before : Node) (link : LinkParts) (at : Held) → HasReachedNext p root key before link at → HasReachedNext q root key before link at
  reached_still seen before word at h = let a = stands_held p q setup root keeps before h.before_it.stands in let b = stands_held p q setup root keeps (At at) h.stands in record {
    before_it = before_held p q setup root keeps key before h.before_it;
    else = h.else;
    stands = b.0;
    rises = let e = a.1 in let f = b.1 in let r = h.rises in omega arith;
    behind = behind_still h.stands.there.started h.behind;
    gap = λ above. absent_still seen before word h.before_it.stands (h.gap (let f = b.1 in omega (arith, above)));
  }
