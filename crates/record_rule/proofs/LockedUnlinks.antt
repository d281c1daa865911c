-- The caller that has a link locked takes the record out that it leads to.
use Rattle.std.proofs.Common.{◌≡◌, ℕ, ◌+◌, ◌<◌, ◌≤◌, ◌⊎◌, length, true, Option, Some, None}
use Rattle.record_memory.specs.declared.steps.Word.TheVariants.{Field}
use Rattle.record_memory.specs.declared.steps.StepKind.TheVariants.{Store}
use Rattle.record_memory.specs.declared.books.Setup.{Setup}
use Rattle.record_memory.specs.declared.books.View.{View}
use Rattle.record_memory.specs.Memory.{address}
use Rattle.row_words.specs.Refs.{RefParts, LinkParts}
use Rattle.row_words.specs.Packing.{IsLink}
use Rattle.record_rule.specs.Records.{IsSetup}
use Rattle.record_rule.specs.Facts.{HasLock, Near, ShapeFacts, CoverFacts}
use Rattle.record_rule.specs.Laws.{ShapeLaws, CoverLaws}
use Rattle.record_rule.specs.World.{Rule}
use Rattle.record_rule.specs.Kinds.{Lawful}
use Rattle.record_rule.specs.Links.{Origin, from_place, index_of, note_in, near_of, Holds, IsNextOf, link_word}
use Rattle.record_rule.specs.LockedLinks.{HasLocked, locks_left, UnlinkedLocked, ToldLocked}
use Rattle.record_rule.proofs.Nodes.{node_of}
use Rattle.record_rule.proofs.LockedNodes.{fewer_locked}
use Rattle.record_rule.proofs.LockedStores.{takes_lock_off, knows, old_own, found_known}
use Rattle.record_rule.proofs.Unlinks.{node_there, unlinks}

module _ (shape : ShapeFacts) (cover : CoverFacts) (shaped : ShapeLaws shape) (covering : CoverLaws cover) (setup : Setup) (is_setup : IsSetup setup) where
  -- Where the set allows that, the caller that has the link to a record locked, which it holds, may take it out, and takes the lock off
  pub unlinks_locked : (id word f p : ℕ) (v : View) (o : Origin) (old : LinkParts) (gone : RefParts) (new : LinkParts) (next : Option Near) → v.present ≡ true → v.setup ≡ setup → word ≡ address setup.callers (Field (index_of o) f) → 3 ≤ f → f < 8
      → Holds v o → HasLocked v o f old → Holds v (from_place p gone) → old.target ≡ Some gone → IsLink new → (next ≡ None) ⊎ IsNextOf v new.target next → shape.may_unlink setup (near_of v o) f old (near_of v (from_place p gone)) new next None
      → Lawful (Rule shape cover setup) id v word (λ _. link_word setup o new) (λ n w. ToldLocked v o f (λ x y. UnlinkedLocked shape v o f x gone new y) n w)
  unlinks_locked id word f p v o old gone new next present same is low high holds locked hold leads is_link behind may s u at = let n = node_of shape cover setup is_setup s u id v at present o holds in
      let q = node_of shape cover setup is_setup s u id v at present (from_place p gone) hold in let k = knows shape cover setup is_setup s u id v at present o n word f is low high same old locked in
      let plain : ¬ HasLock new = shaped.leaves_unlocked setup record { caller = v.own.caller; number = length v.own.answered + 1; near = near_of v o; field = f; old = old; call = None } gone (note_in v.own.notes p) new next may k.lockable in
      let x = unlinks shape cover shaped setup is_setup s u id v at present o n f low p old gone leads new q next behind may k.link word is high covering same holds is_link Store tt (locks_left v o f)
      (λ h. fewer_locked shape cover setup is_setup s u id v at present o n f low high _ (node_there shape cover shaped setup is_setup s u id v at present o n f low p old gone leads new q next behind may k.link) new is_link h old locked plain)
      (old_own shape cover setup is_setup s u id v at present o n word f is low high same old locked) (takes_lock_off v.setup o old new locked.in_range is_link k.flag plain) in
      (x.0, x.1, record { old = old; locked = locked; found = found_known shape cover setup is_setup s u id v at present o n word f is low high same old locked; left = x.2 })
