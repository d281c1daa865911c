-- Where the record stands that a hop along a list reached, and what the load of the node's link says of the list there.
use Rattle.std.proofs.Common.{◌≡◌, ◌≢◌, ℕ, ◌+◌, ◌%◌, ◌<◌, List, [], ◌∷◌, length, Bool, true, false, cond, Option, Some, None, MatchOption, sym, refl, ap, ◌∙◌, subst, arith}
use Rattle.record_memory.specs.declared.books.Setup.{Setup}
use Rattle.record_memory.specs.declared.books.Note.{Note}
use Rattle.row_words.specs.Refs.{RefParts, LinkParts}
use Rattle.row_words.specs.Packing.{link_in}
use Rattle.record_rule.specs.Facts.{At as Stands, Near, at_root, at_held, link_at, key_at, word_in, ShapeFacts}
use Rattle.record_rule.specs.Laws.{root_at}
use Rattle.record_rule.specs.Links.{near_of, note_in, note_of, FitsBody, IsFound}
use Rattle.list_facts.specs.Steps.{rank_near, home_near, IsKeyed, key_noted}
use Rattle.list_facts.specs.Tellings.{rank_at, home_at, rank_of, IsTargetSeen}
use Rattle.list_facts.proofs.Nodes.{noted_key}
use Rattle.record_table.specs.declared.passes.Pass.{Pass}
use Rattle.record_table.specs.declared.nodes.Held.{Held}
use Rattle.record_table.specs.declared.nodes.Node.{Node}
use Rattle.record_table.specs.declared.nodes.Node.TheVariants.{Root, At}
use Rattle.record_table.specs.Handles.{view}
use Rattle.record_table.specs.Nodes.{origin, HoldsThere}
use Rattle.reclaim_api.specs.Holds.{KeepsElse, IsElsewhere, HasSeenTarget}
use Rattle.list_calls.specs.Standing.{rank, StandsAt}
use Rattle.list_calls.proofs.Standing.{key_known, Covers, stands_still}

-- where a node stands by what is known of it is where its body says
pub home_of : (s : ShapeFacts) (n : Near) (setup : Setup) (body : List ℕ) → FitsBody s n body → IsKeyed n → home_at setup (root_at s n) body ≡ home_near setup n
home_of s (at_root n) setup body fits keyed = refl
home_of s (at_held r note) setup body fits keyed = ap (λ k. k % setup.roots) (sym (noted_key s note body fits keyed))

pub rank_of_near : (s : ShapeFacts) (n : Near) (body : List ℕ) → FitsBody s n body → IsKeyed n → rank_at (root_at s n) body ≡ rank_near n
rank_of_near s (at_root n) body fits keyed = refl
rank_of_near s (at_held r note) body fits keyed = ap (λ k. k + 1) (sym (noted_key s note body fits keyed))

-- a link's target was seen where there is one
pub target_seen : (to : Option RefParts) (body : Option (List ℕ)) → IsFound to body → IsTargetSeen to body
target_seen None body found = found
target_seen (Some t) body found = found

-- and nothing where there is none
pub nothing_seen : (to : Option RefParts) (body : Option (List ℕ)) → to ≡ None → IsFound to body → body ≡ None
nothing_seen None body e found = found
nothing_seen (Some t) body e found = let no : ⊥ = cc in absurd no

module _ (s : ShapeFacts) {S R : Type 0} (p q : Pass S R) (place root : ℕ) (before : Node) (link : LinkParts) (same_setup : (view q).setup ≡ (view p).setup)
    (to : Option RefParts) (seen : HasSeenTarget s place (origin before) p q to link) (at : StandsAt p root before) where
  -- the node's link as it was loaded
  pub link_is : link_at seen.saw.body 3 ≡ link
  link_is = ap link_in seen.saw.word ∙ seen.link_is

  abbrev pub node : Near
  node = near_of seen.at_load (origin before)

  keyed : IsKeyed node
  keyed = subst IsKeyed (sym seen.near) at.keyed

  -- the node's list and rank
  pub home_is : home_at seen.at_load.setup (root_at s node) seen.saw.body ≡ root
  home_is = home_of s node seen.at_load.setup seen.saw.body seen.saw.fits keyed ∙ (λ k. home_near (seen.setup k) (seen.near k)) ∙ at.home

  pub rank_is : rank_at (root_at s node) seen.saw.body ≡ rank p before
  rank_is = rank_of_near s node seen.saw.body seen.saw.fits keyed ∙ ap rank_near seen.near

  -- the link's target was seen where there is one
  pub found_there : to ≡ link.target → IsTargetSeen (link_at seen.saw.body 3).target seen.target
  found_there leads = subst (λ (t : Option RefParts). IsTargetSeen t seen.target) (leads ∙ ap (λ (l : LinkParts). l.target) (sym link_is)) (target_seen to seen.target seen.found)

  -- the node is held still, at another place
  covers : (n : Node) → IsElsewhere (origin n) place → Covers (λ k. k ≢ place) (λ k f. k ≢ place) n
  covers (Root n) e = tt
  covers (At a) e = (λ z. e (sym z), λ z. e (sym z))

  pub stands_else : IsElsewhere (origin before) place → KeepsElse place p q → StandsAt q root before × (rank q before ≡ rank p before)
  stands_else else keeps = stands_still (λ k. k ≢ place) (λ k f. k ≢ place) p q same_setup keeps root before (covers before else) at

  module _ (held : Held) (there : HoldsThere q held) (placed : held.place ≡ place) (leads : to ≡ Some held.target) (settled : (b : List ℕ) → s.settled 4 b ≡ true) where
    -- the body of what was reached
    pub body_found : (b : List ℕ) × (seen.target ≡ Some b)
    body_found = subst (λ (t : Option RefParts). IsFound t seen.target) leads seen.found

    abbrev pub body : List ℕ
    body = body_found.0

    abbrev pub note : Note
    note = note_in (view q).own.notes held.place

    pub note_is : note ≡ note_of s (Some body) (length seen.updates)
    note_is = ap (λ k. note_in (view q).own.notes k) placed ∙ seen.note ∙ ap (λ (b : Option (List ℕ)). note_of s b (length seen.updates)) body_found.1

    has_word : Stands note.words 1 (Some (word_in body 4))
    has_word = subst (λ (x : Note). Stands x.words 1 (Some (word_in body 4))) (sym note_is) (word_known (s.settled 4 body) (settled body))
      where
        word_known : (b : Bool) → b ≡ true → Stands (record (note_of s (Some body) (length seen.updates)) { words = cond (s.settled 3 body) (Some (word_in body 3)) None ∷ cond b (Some (word_in body 4)) None ∷ cond (s.settled 5 body) (Some (word_in body 5)) None ∷ cond (s.settled 6 body) (Some (word_in body 6)) None ∷ cond (s.settled 7 body) (Some (word_in body 7)) None ∷ [] }).words 1 (Some (word_in body 4))
        word_known true e = refl
        word_known false e = let no : ⊥ = cc in absurd no

    pub key_is : key_noted note ≡ key_at body
    key_is = key_known note (word_in body 4) has_word

    module _ (behind : (key_at body % seen.at_load.setup.roots ≡ home_at seen.at_load.setup (root_at s node) seen.saw.body) × (rank_at (root_at s node) seen.saw.body < key_at body + 1)) where
      -- it stands in the node's list, behind the node
      pub stands_there : StandsAt q root (At held)
      stands_there = record {
        there = there;
        keyed = (word_in body 4, has_word);
        home = ap (λ k. k % (view q).setup.roots) key_is ∙ ap (λ (k : Setup). key_at body % k.roots) (same_setup ∙ sym seen.setup) ∙ behind.0 ∙ home_is;
      }

      pub rises : IsElsewhere (origin before) place → KeepsElse place p q → rank q before < rank q (At held)
      rises else keeps = let e = (stands_else else keeps).1 in let r = rank_is in let b = behind.1 in let k = key_is in omega arith

    -- a rank below its own is below that of what the link leads to
    pub below_target : (n : ℕ) → n < rank q (At held) → MatchOption (rank_of seen.target) (Unit {0}) (λ r. n < r)
    below_target n low = subst (λ (b : Option (List ℕ)). MatchOption (rank_of b) (Unit {0}) (λ r. n < r)) (sym body_found.1) (let k = key_is in omega (arith, low))

  -- nor is there a rank below where the link leads nowhere
  pub below_none : to ≡ None → (n : ℕ) → MatchOption (rank_of seen.target) (Unit {0}) (λ r. n < r)
  below_none ends n = subst (λ (b : Option (List ℕ)). MatchOption (rank_of b) (Unit {0}) (λ r. n < r)) (sym (nothing_seen to seen.target ends seen.found)) tt
