-- The caller that has a link locked links an own record behind its node.
use Rattle.std.proofs.Common.{◌≡◌, ℕ, ◌<◌, ◌≤◌, List, drop, true, Option}
use Rattle.set_model.specs.declared.calls.Call.{Call}
use Rattle.record_memory.specs.declared.steps.Word.TheVariants.{Field}
use Rattle.record_memory.specs.declared.steps.StepKind.TheVariants.{Store}
use Rattle.record_memory.specs.declared.books.Setup.{Setup}
use Rattle.record_memory.specs.declared.books.View.{View}
use Rattle.record_memory.specs.Memory.{address}
use Rattle.row_words.specs.Refs.{RefParts, LinkParts, IsRef}
use Rattle.record_rule.specs.Records.{IsSetup}
use Rattle.record_rule.specs.Facts.{clean, Near, ShapeFacts, CoverFacts}
use Rattle.record_rule.specs.Laws.{ShapeLaws, CoverLaws}
use Rattle.record_rule.specs.HandingOut.{HasOwn}
use Rattle.record_rule.specs.World.{Rule}
use Rattle.record_rule.specs.Kinds.{Lawful}
use Rattle.record_rule.specs.Links.{Origin, index_of, near_of, Holds, IsNextOf, Decides, link_word}
use Rattle.record_rule.specs.LockedLinks.{HasLocked, locks_left, PublishedLocked, ToldLocked}
use Rattle.record_rule.proofs.Nodes.{node_of}
use Rattle.record_rule.proofs.LockedNodes.{fewer_locked}
use Rattle.record_rule.proofs.LockedStores.{takes_lock_off, knows, old_own, found_known}
use Rattle.record_rule.proofs.Publishes.{own_record, node_there, publishes, clean_is, clean_unlocked}

module _ (shape : ShapeFacts) (cover : CoverFacts) (shaped : ShapeLaws shape) (covering : CoverLaws cover) (setup : Setup) (is_setup : IsSetup setup) where
  -- Where the set allows that, the caller that has a link locked may link an own record in front of the next node, and takes the lock off
  pub publishes_locked : (id word f : ℕ) (v : View) (o : Origin) (old : LinkParts) (own : RefParts) (row : List ℕ) (next : Option Near) (call : Option Call) → v.present ≡ true → v.setup ≡ setup → word ≡ address setup.callers (Field (index_of o) f) → 3 ≤ f → f < 8
      → Holds v o → HasLocked v o f old → IsRef own → HasOwn v own row → IsNextOf v old.target next → Decides shape v call → shape.may_publish setup (near_of v o) f old (drop 3 row) next call
      → Lawful (Rule shape cover setup) id v word (λ _. link_word setup o (clean own)) (λ n w. ToldLocked v o f (λ x y. PublishedLocked shape v o f x own call y) n w)
  publishes_locked id word f v o old own row next call present same is low high holds locked is_ref has is_next dec may s u at = let n = node_of shape cover setup is_setup s u id v at present o holds in
      let q = own_record shape cover setup is_setup s u id v at present own row has in let is_new = clean_is own is_ref in let k = knows shape cover setup is_setup s u id v at present o n word f is low high same old locked in
      let x = publishes shape cover setup is_setup s u id v at present o n own row q.0 q.1 word f is low high shaped covering same holds Store tt old next call is_new is_next dec may k.link
      (old_own shape cover setup is_setup s u id v at present o n word f is low high same old locked) (takes_lock_off v.setup o old (clean own) locked.in_range is_new k.flag (clean_unlocked own)) (locks_left v o f)
      (λ h. fewer_locked shape cover setup is_setup s u id v at present o n f low high _ (node_there shape cover setup is_setup s u id v at present o n own row q.0 q.1) (clean own) is_new h old locked (clean_unlocked own)) in
      (x.0, x.1, record { old = old; locked = locked; found = found_known shape cover setup is_setup s u id v at present o n word f is low high same old locked; left = x.2 })
