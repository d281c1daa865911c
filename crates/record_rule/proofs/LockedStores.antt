-- The caller that has a link locked stores another one.
use Rattle.std.proofs.Common.{◌≡◌, ℕ, ◌<◌, ◌≤◌, get_or, true, sym, ap, ◌∙◌, subst, Option}
use mathlib.Core.Option.{some}
use lib.ListN.{get_elem?}
use Rattle.atomic_table.specs.Table.{State}
use Rattle.set_model.specs.declared.calls.Call.{Call}
use Rattle.record_memory.specs.declared.steps.Word.TheVariants.{Field}
use Rattle.record_memory.specs.declared.steps.StepKind.TheVariants.{Store}
use Rattle.record_memory.specs.declared.books.Setup.{Setup}
use Rattle.record_memory.specs.declared.books.View.{View}
use Rattle.record_memory.specs.Memory.{address}
use Rattle.row_words.specs.Refs.{LinkParts}
use Rattle.row_words.specs.Packing.{own_in, IsLink}
use Rattle.row_words.proofs.Packed.{link_in-packed_link}
use Rattle.record_rule.specs.Records.{IsSetup}
use Rattle.record_rule.specs.Facts.{HasLock, ShapeFacts, CoverFacts}
use Rattle.record_rule.specs.Laws.{ShapeLaws, CoverLaws}
use Rattle.record_rule.specs.World.{Rule}
use Rattle.record_rule.specs.Recorded.{LeavesLink}
use Rattle.record_rule.specs.Kinds.{Lawful}
use Rattle.record_rule.specs.Links.{Origin, index_of, generation_at, near_of, Holds, Decides, link_word}
use Rattle.record_rule.specs.LockedLinks.{HasLocked, locks_left, StoredLink, ToldLocked}
use Rattle.record_rule.proofs.Nodes.{NodeOf, node_of, found_word, found_own}
use Rattle.record_rule.proofs.LockedNodes.{KnowsLock, knows_lock, fewer_locked}
use Rattle.record_rule.proofs.Exchanges.{relinks}

-- a store that takes the lock off
pub takes_lock_off : (setup : Setup) (o : Origin) (old new : LinkParts) → IsLink old → IsLink new → HasLock old → ¬ HasLock new → LeavesLink Store (link_word setup o old) (link_word setup o new)
takes_lock_off setup o old new is_old is_new flag plain =
    (subst HasLock (sym (link_in-packed_link (generation_at setup o) old is_old)) flag, λ h. plain (subst HasLock (link_in-packed_link (generation_at setup o) new is_new) h))

-- What the store of the caller that has the node's word locked finds
module _ (shape : ShapeFacts) (cover : CoverFacts) (setup : Setup) (is_setup : IsSetup setup) (s : State (Unit {0}) View) (u : Rule shape cover setup s) (id : ℕ) (v : View) (at : get_elem? s.views id ≡ some v) (present : v.present ≡ true)
    (o : Origin) (n : NodeOf shape cover setup is_setup s u id v at present o) (word f : ℕ) (is : word ≡ address setup.callers (Field (index_of o) f)) (low : 3 ≤ f) (high : f < 8) (same : v.setup ≡ setup) (old : LinkParts) (has : HasLocked v o f old) where
  abbrev pub knows : KnowsLock shape cover setup is_setup s u id v at present o n f low high old
  knows = knows_lock shape cover setup is_setup s u id v at present o n f low high same old has

  pub found_is : get_or s.words word 0 ≡ link_word setup o old
  found_is = found_word shape cover setup is_setup s u id v at present o n word f is high ∙ knows.found

  pub old_own : own_in (link_word setup o old) ≡ generation_at setup o
  old_own = ap own_in (sym found_is) ∙ found_own shape cover setup is_setup s u id v at present o n word f is high

  pub found_known : get_or s.words word 0 ≡ link_word v.setup o old
  found_known = found_is ∙ ap (λ (z : Setup). link_word z o old) (sym same)

module _ (shape : ShapeFacts) (cover : CoverFacts) (shaped : ShapeLaws shape) (covering : CoverLaws cover) (setup : Setup) (is_setup : IsSetup setup) where
  -- Where the set allows that, the caller that has a link locked may store another one, without the flag
  pub stores_link : (id word f : ℕ) (v : View) (o : Origin) (old new : LinkParts) (call : Option Call) → v.present ≡ true → v.setup ≡ setup → word ≡ address setup.callers (Field (index_of o) f) → 3 ≤ f → f < 8
      → Holds v o → HasLocked v o f old → IsLink new → ¬ HasLock new → Decides shape v call → shape.may_exchange setup (near_of v o) f old new call
      → Lawful (Rule shape cover setup) id v word (λ _. link_word setup o new) (λ n w. ToldLocked v o f (λ x y. StoredLink shape v o f x new call y) n w)
  stores_link id word f v o old new call present same is low high holds has is_new plain dec may s u at = let n = node_of shape cover setup is_setup s u id v at present o holds in
      let k = knows shape cover setup is_setup s u id v at present o n word f is low high same old has in
      let x = relinks shape cover setup is_setup s u id v at present o n word f is low high shaped same holds Store tt old new call is_new dec may k.link (old_own shape cover setup is_setup s u id v at present o n word f is low high same old has)
      (takes_lock_off v.setup o old new has.in_range is_new k.flag plain) (locks_left v o f)
      (fewer_locked shape cover setup is_setup s u id v at present o n f low high u.records n.there new is_new u.parts.locks old has plain) in
      (x.0, x.1, record { old = old; locked = has; found = found_known shape cover setup is_setup s u id v at present o n word f is low high same old has; left = x.2 })
