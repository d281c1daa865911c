-- A first load that finds the list empty.
use Rattle.std.proofs.Common.{◌≡◌, ◌≢◌, ℕ, ◌%◌, length, Option, None, sym, refl, ap, ◌∙◌, subst, arith, false}
use Rattle.set_model.specs.declared.calls.Call.TheVariants.{Search}
use Rattle.set_model.specs.declared.names.SetName.{SetName}
use Rattle.record_memory.specs.declared.books.View.{View}
use Rattle.record_memory.specs.declared.books.Setup.{Setup}
use Rattle.row_words.specs.Refs.{RefParts, LinkParts}
use Rattle.row_words.specs.Packing.{link_in}
use Rattle.record_rule.specs.Facts.{link_at, mark_bit, HasMark}
use Rattle.record_rule.specs.Machines.{replies_for}
use Rattle.record_rule.specs.Links.{from_root, LoadedLink}
use Rattle.record_rule.specs.Placing.{MayPlace}
use Rattle.record_rule.proofs.Noted.{sees_itself, link_from_front, may_place_noted}
use Rattle.list_facts.specs.Michael.{michael}
use Rattle.list_facts.specs.Tellings.{IsTargetSeen}
use Rattle.cover_facts.specs.Keeping.{none}

-- behind what it noted a search for any key is answered no
pub none_there : (v w : View) (first : _) (n k : ℕ) → LoadedLink michael none v (from_root 0) 3 first n w → v.setup.roots ≡ 1 → (link_in n).flags ≡ 0 → (link_in n).target ≡ None → MayPlace michael w (length w.seen_updates) (Search k) false
none_there v w first n k told one clear empty =
    let link : link_at told.saw.body 3 ≡ link_in n = ap link_in told.saw.word in
    let unmarked : ¬ HasMark (link_at told.saw.body 3) = λ h. let e = ap mark_bit link in let f = ap (λ (z : ℕ). mark_bit record { flags = z; target = None }) clear in omega arith in
    let seen : IsTargetSeen (link_at told.saw.body 3).target None = subst (λ (t : Option RefParts). IsTargetSeen t None) (sym (ap (λ (l : LinkParts). l.target) link ∙ empty)) refl in
    let absent = told.saw.shown.between unmarked refl seen k (ap (λ (z : ℕ). k % z) one ∙ (let z : k % 1 ≡ 0 = omega arith in z)) (omega arith) tt in
    may_place_noted michael w w (Search k) false (sees_itself w) (link_from_front michael none v w (from_root 0) 3 n told)
    (subst (λ (z : SetName). replies_for z w.seen_updates (Search k) false) (sym (ap (λ (x : View). x.setup.set) told.view ∙ told.saw.set_is)) (tt, sym absent)) (λ no. absurd no)
