-- What the steps of an insertion leave.
use Rattle.std.proofs.Common.{◌≡◌, ◌≤◌, ◌+◌, ℕ, List, [], ◌∷◌, ◌++◌, append_assoc, Option, Some, None, true, false, sym, ◌∙◌, subst, arith}
use Rattle.set_model.specs.declared.calls.Call.TheVariants.{Insert}
use Rattle.set_model.specs.declared.calls.InsertAnswer.TheVariants.{Done, Full, Again}
use Rattle.row_words.specs.Refs.{RefParts, LinkParts}
use Rattle.record_table.specs.declared.nodes.Held.{Held}
use Rattle.record_table.specs.declared.nodes.Node.{Node}
use Rattle.record_pieces.specs.Events.{Event, refused, placed}
use Rattle.michael_list.specs.declared.spots.Spot.TheVariants.{Present, Absent}
use Rattle.michael_list.specs.Walks.{Finds}
use Rattle.list_calls.specs.Records.{back, HasRecord}
use Rattle.michael_list.specs.Pieces.{links, Insertings, more, Inserts, adds, has_it, is_full, again}

-- what a try did stands behind the tries before it
behind_all : (ds fs gs hs : List Event) → ds ++ fs ++ gs ++ hs ≡ ds ++ (fs ++ (gs ++ hs))
behind_all ds fs gs hs = append_assoc (ds ++ fs) gs hs ∙ append_assoc ds fs (gs ++ hs)

-- what comes of a try, behind the tries before it
module _ (root key budget before after made : ℕ) (sum : after ≡ before + made) where
  pub no_hops_left : (hand : Option RefParts) (ds fs : List Event) → after ≡ budget → Insertings root key before hand ds → Finds key root made None None fs → Inserts root key budget (Again after) (ds ++ (fs ++ back hand))
  no_hops_left hand ds fs full tries finds = subst (λ (z : ℕ × List Event). Inserts root key budget (Again z.0) z.1) (λ k. (sym full k, append_assoc ds fs (back hand) k)) (again tries finds (sym sum ∙ full))

  pub key_was_there : (hand : Option RefParts) (node : Node) (at : Held) (link : LinkParts) (ds fs : List Event) (shown : ℕ) → after ≤ budget → Insertings root key before hand ds → Finds key root made (Some (Present node at link)) (Some shown) fs
      → Inserts root key budget (Done false) (ds ++ (fs ++ (back hand ++ placed (Insert key) false shown ∷ [])))
  key_was_there hand node at link ds fs shown within tries finds =
      subst (Inserts root key budget (Done false)) (behind_all ds fs (back hand) (placed (Insert key) false shown ∷ [])) (has_it tries finds (let e = sum in let w = within in omega arith))

  module _ (hand : Option RefParts) (node : Node) (next : Option Held) (ds fs : List Event) (shown : ℕ) (within : after ≤ budget) (tries : Insertings root key before hand ds) (finds : Finds key root made (Some (Absent node next)) (Some shown) fs) where
    pub none_was_left : (found : ℕ) → hand ≡ None → Inserts root key budget (Full found) (ds ++ (fs ++ refused found ∷ []))
    none_was_left found is =
        subst (Inserts root key budget (Full found)) (append_assoc ds fs (refused found ∷ [])) (is_full (subst (λ (h : Option RefParts). Insertings root key before h ds) is tries) finds (let e = sum in let w = within in omega arith))

    pub was_linked : (own : RefParts) (gs : List Event) → HasRecord own hand gs → Inserts root key budget (Done true) (ds ++ (fs ++ (gs ++ links key node next own None)))
    was_linked own gs record_is = subst (Inserts root key budget (Done true)) (behind_all ds fs gs (links key node next own None)) (adds tries finds record_is (let e = sum in let w = within in omega arith))

    pub was_refused : (own left : RefParts) (gs : List Event) (other : LinkParts) → left ≡ own → HasRecord own hand gs → Insertings root key after (Some left) (ds ++ (fs ++ (gs ++ links key node next own (Some other))))
    was_refused own left gs other same record_is =
        subst (λ (z : ℕ × RefParts × List Event). Insertings root key z.0 (Some z.1) z.2) (λ k. (sym sum k, sym same k, behind_all ds fs gs (links key node next own (Some other)) k)) (more other tries finds record_is)
