-- What the steps of an insertion leave.
use Rattle.std.proofs.Common.{◌≡◌, ◌≤◌, ◌+◌, ℕ, List, [], ◌∷◌, ◌++◌, append_assoc, Option, Some, None, true, false, refl, sym, ◌∙◌, subst, arith}
use Rattle.set_model.specs.declared.calls.Call.TheVariants.{Insert}
use Rattle.set_model.specs.declared.calls.InsertAnswer.TheVariants.{Done, Full, Again}
use Rattle.record_memory.specs.declared.books.View.{View}
use Rattle.row_words.specs.Refs.{RefParts, LinkParts}
use Rattle.record_rule.specs.Facts.{HasMark}
use Rattle.record_table.specs.declared.passes.Pass.{Pass}
use Rattle.record_table.specs.declared.nodes.Held.{Held}
use Rattle.record_table.specs.declared.nodes.Node.{Node}
use Rattle.record_table.specs.declared.nodes.Node.TheVariants.{At}
use Rattle.record_table.specs.Handles.{view}
use Rattle.record_table.specs.Nodes.{origin}
use Rattle.record_pieces.specs.Events.{Event, looked, refused, placed}
use Rattle.reclaim_api.specs.Holds.{KeepsButLink}
use Rattle.manager.specs.Callers.{KeepsOwn}
use Rattle.list_calls.specs.Records.{target_of, back, HasRecord, OwnsHand}
use Rattle.list_calls.specs.Standing.{IsBeyond, StandsBefore}
use Rattle.list_calls.proofs.Standing.{stands_relinked}
use Rattle.lazy_list.specs.declared.spots.Spot.TheVariants.{Present, Absent}
use Rattle.lazy_list.specs.Walks.{Finds}
use Rattle.lazy_list.specs.Pieces.{tries_lock, links_locked, FailsToLock, is_marked, is_late, Insertings, more, Inserts, adds, has_it, is_full, again}

-- the record of an earlier try is the caller's own still
pub hand_kept : (v w : View) (hand : Option RefParts) → KeepsOwn v w → OwnsHand v hand → OwnsHand w hand
hand_kept v w None keeps owns = tt
hand_kept v w (Some own) keeps owns = keeps own owns

module _ {S R : Type 0} (p q : Pass S R) (setup : (view q).setup ≡ (view p).setup) (root key : ℕ) (o : Node) (keeps : KeepsButLink (origin o) p q) where
  -- where a link was left anew, a walker stands where it stood, and the next record has a greater key still
  pub before_relinked : (node : Node) → StandsBefore p root key node → StandsBefore q root key node
  before_relinked node h = let s = stands_relinked p q setup root o keeps node h.stands in record { stands = s.0; below = let e = s.1 in let b = h.below in omega arith }

  pub beyond_relinked : (next : Option Held) → IsBeyond p root key next → IsBeyond q root key next
  beyond_relinked None h = tt
  beyond_relinked (Some at) h = let s = stands_relinked p q setup root o keeps (At at) h.0 in (s.0, (let e = s.1 in let b = h.1 in omega arith))

three : (a b c : List Event) → a ++ b ++ c ≡ a ++ (b ++ c)
three a b c = append_assoc a b c

four : (a b c d : List Event) → a ++ b ++ c ++ d ≡ a ++ (b ++ c ++ d)
four a b c d = simp append_assoc

five : (a b c d e : List Event) → a ++ b ++ c ++ d ++ e ≡ a ++ (b ++ c ++ d ++ e)
five a b c d e = simp append_assoc

-- what comes of a try, behind the tries before it
module _ (root key budget before after made : ℕ) (sum : after ≡ before + made) where
  pub no_hops_left : (hand : Option RefParts) (ds fs : List Event) → after ≡ budget → Insertings root key before hand ds → Finds key root made 0 None None fs → Inserts root key budget (Again after) (ds ++ (fs ++ back hand))
  no_hops_left hand ds fs full tries finds = subst (λ (z : ℕ × List Event). Inserts root key budget (Again z.0) z.1) (λ k. (sym full k, three ds fs (back hand) k)) (again tries finds (sym sum ∙ full))

  module _ (hand : Option RefParts) {low seen flags : ℕ} {node : Node} {at : Held} (link : LinkParts) (then : ℕ) (ds fs : List Event) (tries : Insertings root key before hand ds) (finds : Finds key root made low (Some (Present node flags at)) (Some seen) fs) where
    pub was_marked : HasMark link → Insertings root key after hand (ds ++ (fs ++ looked (At at) 3 link then ∷ []))
    was_marked mark = subst (λ k. Insertings root key k hand (ds ++ (fs ++ looked (At at) 3 link then ∷ []))) (sym sum) (more tries (is_marked link then finds mark))

    pub key_was_there : after ≤ budget → ¬ HasMark link → Inserts root key budget (Done false) (ds ++ (fs ++ looked (At at) 3 link then ∷ [] ++ back hand ++ placed (Insert key) false then ∷ []))
    key_was_there within clear =
        subst (Inserts root key budget (Done false)) (five ds fs (looked (At at) 3 link then ∷ []) (back hand) (placed (Insert key) false then ∷ [])) (has_it link then tries finds clear (let e = sum in let w = within in omega arith))

  module _ (hand : Option RefParts) {low seen flags : ℕ} {node : Node} {next : Option Held} (ds fs : List Event) (tries : Insertings root key before hand ds) (finds : Finds key root made low (Some (Absent node flags next)) (Some seen) fs) where
    pub none_was_left : (found : ℕ) → after ≤ budget → hand ≡ None → Inserts root key budget (Full found) (ds ++ (fs ++ refused found ∷ []))
    none_was_left found within is =
        subst (Inserts root key budget (Full found)) (three ds fs (refused found ∷ [])) (is_full (subst (λ (h : Option RefParts). Insertings root key before h ds) is tries) finds (let e = sum in let w = within in omega arith))

    pub was_late : (own : RefParts) (gs ls : List Event) → HasRecord own hand gs → FailsToLock node flags (target_of next) ls → Insertings root key after (Some own) (ds ++ (fs ++ gs ++ ls))
    was_late own gs ls got late = subst (λ k. Insertings root key k (Some own) (ds ++ (fs ++ gs ++ ls))) (sym sum) (more tries (is_late finds got refl late))

    pub was_linked : (own : RefParts) (gs : List Event) → after ≤ budget → flags ≡ 0 → HasRecord own hand gs → Inserts root key budget (Done true) (ds ++ (fs ++ gs ++ tries_lock node (target_of next) None ++ links_locked key node next own))
    was_linked own gs within clear got = subst (Inserts root key budget (Done true)) (five ds fs gs (tries_lock node (target_of next) None) (links_locked key node next own))
        (adds tries (subst (λ f. Finds key root made low (Some (Absent node f next)) (Some seen) fs) clear finds) got (let e = sum in let w = within in omega arith))
