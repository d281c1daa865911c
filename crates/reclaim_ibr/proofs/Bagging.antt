-- The local part once a record was retired with a stamp and put in front of the bag.
use Rattle.std.proofs.Common.{◌≡◌, ℕ, ◌+◌, ◌%◌, Bool, ap, arith}
use Rattle.record_memory.specs.declared.books.Moves.{Moves}
use Rattle.record_memory.specs.declared.books.View.{View}
use Rattle.record_memory.specs.declared.books.Share.{Share}
use Rattle.row_words.specs.Refs.{RefParts}
use Rattle.row_words.specs.declared.links.Chain.{Chain}
use Rattle.record_rule.specs.Links.{HasTaken, retired}
use Rattle.reclaim_api.proofs.Putting.{HasPut, put_bag, put_whole}
use Rattle.reclaim_api.proofs.Stills.{still_setup, still_caller, still_guard, still_moves}
use Rattle.reclaim_ibr.specs.declared.interval.Interval.{Interval}
use Rattle.reclaim_ibr.specs.LocalParts.{EACH, IsLocal}
use Rattle.reclaim_ibr.proofs.LocalKept.{calm_same, local_by, local_since}

-- it is this caller's still, which counts one more
pub put_local : (v : View) (r : RefParts) (share : Share) (stamp : ℕ) (taken : HasTaken v r share) (w : View) (l : Interval) (P Q : Type 0) (after : Chain) → HasPut l.bag (retired v r share stamp) r w P Q after
    → (i i' : Bool) (s s' : View) → i' ≡ i → s' ≡ s → IsLocal l i s v → IsLocal (record l { retired = (l.retired + 1) % EACH; bag = after }) i' s' w
put_local v r share stamp taken w l P Q after put i i' s s' inside since h = let u : View = retired v r share stamp in
    local_since (record l { retired = (l.retired + 1) % EACH; bag = after }) i i' s s' w inside since
    (local_by l after ((l.retired + 1) % EACH) i s v w h (still_setup u w put.still) (still_caller u w put.still) (calm_same l i s v w.own.guard h (still_guard u w put.still)) (ap (λ (m : Moves). m.births) (still_moves u w put.still))
    (let a = h.retired in let b = ap (λ (m : Moves). m.retired) (still_moves u w put.still) in omega arith) (put_bag v r share stamp taken w l.bag P Q after put h.bag) (put_whole v r share stamp taken w l.bag P Q after put h.bag h.whole))
