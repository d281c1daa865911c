-- The local part once a record was retired with the stamp 0 and put in front of the bag.
use Rattle.std.proofs.Common.{length, Bool, ap, ◌∙◌}
use Rattle.record_memory.specs.declared.books.Guard.{Guard}
use Rattle.record_memory.specs.declared.books.Setup.{Setup}
use Rattle.record_memory.specs.declared.books.View.{View}
use Rattle.record_memory.specs.declared.books.Share.{Share}
use Rattle.row_words.specs.Refs.{RefParts}
use Rattle.row_words.specs.declared.links.Chain.{Chain}
use Rattle.record_rule.specs.Links.{HasTaken, retired}
use Rattle.reclaim_api.proofs.Putting.{HasPut, put_bag, put_whole}
use Rattle.reclaim_api.proofs.Stills.{still_setup, still_caller, still_guard}
use Rattle.reclaim_hazard.specs.declared.retired.Retired.{Retired}
use Rattle.reclaim_hazard.specs.LocalParts.{IsLocal}

-- it is this caller's still
pub put_local : (v : View) (r : RefParts) (share : Share) (taken : HasTaken v r share) (w : View) (l : Retired) (P Q : Type 0) (after : Chain) → HasPut l.bag (retired v r share 0) r w P Q after
    → (i i' : Bool) (s s' : View) → IsLocal l i s v → IsLocal (record l { bag = after }) i' s' w
put_local v r share taken w l P Q after put i i' s s' h = let u : View = retired v r share 0 in record {
  caller = still_caller u w put.still ∙ h.caller;
  callers = ap (λ (k : Setup). k.callers) (still_setup u w put.still) ∙ h.callers;
  counted = h.counted;
  few = h.few;
  words = ap (λ (g : Guard). length g.announced) (still_guard u w put.still) ∙ h.words;
  calm = ap (λ (g : Guard). g.loaded) (still_guard u w put.still) ∙ h.calm;
  bag = put_bag v r share 0 taken w l.bag P Q after put h.bag;
  whole = put_whole v r share 0 taken w l.bag P Q after put h.bag h.whole;
}
