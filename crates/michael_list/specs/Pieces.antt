-- What each call of the list does, event by event: tries, each a walk and what comes of it, and then the answer. A call that changes nothing is placed behind just so many updates as its last walk's end says.
use Rattle.std.specs.Prelude.{◌≡◌, ℕ, ◌+◌, ◌≤◌, List, [], ◌∷◌, ◌++◌, Bool, true, false, Option, Some, None}
use Rattle.set_model.specs.declared.calls.Call.TheVariants.{Insert, Remove, Search}
use Rattle.set_model.specs.declared.calls.InsertAnswer.{InsertAnswer}
use Rattle.set_model.specs.declared.calls.InsertAnswer.TheVariants.{Done, Full, Again}
use Rattle.set_model.specs.declared.calls.LookAnswer.{LookAnswer}
use Rattle.set_model.specs.declared.calls.LookAnswer.TheVariants.{Done as Looked, Again as LookAgain}
use Rattle.row_words.specs.Refs.{RefParts, LinkParts}
use Rattle.row_words.specs.Packing.{packed_ref}
use Rattle.record_table.specs.declared.nodes.Held.{Held}
use Rattle.record_table.specs.declared.nodes.Node.{Node}
use Rattle.record_table.specs.declared.nodes.Node.TheVariants.{At}
use Rattle.record_pieces.specs.Events.{Event, exchanged, published, refused, stored_own, placed}
use Rattle.list_facts.specs.Steps.{marked_with}
use Rattle.michael_list.specs.declared.spots.Spot.TheVariants.{Present, Absent}
use Rattle.list_calls.specs.Records.{target_of, back, HasRecord}
use Rattle.michael_list.specs.Walks.{TakesOut, Finds}

-- the record is filled and linked where the walk ended; or the node's link was another than the walk found
abbrev pub links : ℕ → Node → Option Held → RefParts → Option LinkParts → List Event
links key before next own refusal = stored_own own 4 key ∷ stored_own own 3 (packed_ref (target_of next)) ∷ published before 3 (record { flags = 0; target = target_of next }) own (Some (Insert key)) refusal ∷ []

-- the record that the walk found is marked; or its link was another than the walk found
abbrev pub marks : ℕ → Held → LinkParts → Option LinkParts → List Event
marks key at link refusal = exchanged (At at) 3 link (marked_with link) (Some (Remove key)) refusal ∷ []

-- tries that failed, after so many hops, and the own record that the call has from them
module _ (root key : ℕ) where
  pub data Insertings : ℕ → Option RefParts → List Event → Type 0 where
    none : Insertings 0 None []
    more : {before_it hops shown : ℕ} {hand : Option RefParts} {own : RefParts} {before : Node} {next : Option Held} {es fs gs : List Event} (other : LinkParts) → Insertings before_it hand es → Finds key root hops (Some (Absent before next)) (Some shown) fs
        → HasRecord own hand gs → Insertings (before_it + hops) (Some own) (es ++ fs ++ gs ++ links key before next own (Some other))

  pub data Removings : ℕ → List Event → Type 0 where
    none : Removings 0 []
    more : {before_it hops shown : ℕ} {before : Node} {at : Held} {link : LinkParts} {es fs : List Event} (other : LinkParts) → Removings before_it es → Finds key root hops (Some (Present before at link)) (Some shown) fs
        → Removings (before_it + hops) (es ++ fs ++ marks key at link (Some other))

  -- an insertion within this budget of hops
  pub data Inserts (budget : ℕ) : InsertAnswer → List Event → Type 0 where
    adds : {made hops shown : ℕ} {hand : Option RefParts} {own : RefParts} {before : Node} {next : Option Held} {es fs gs : List Event} → Insertings made hand es → Finds key root hops (Some (Absent before next)) (Some shown) fs → HasRecord own hand gs
        → made + hops ≤ budget → Inserts budget (Done true) (es ++ fs ++ gs ++ links key before next own None)
    has_it : {made hops shown : ℕ} {hand : Option RefParts} {before : Node} {at : Held} {link : LinkParts} {es fs : List Event} → Insertings made hand es → Finds key root hops (Some (Present before at link)) (Some shown) fs
        → made + hops ≤ budget → Inserts budget (Done false) (es ++ fs ++ back hand ++ placed (Insert key) false shown ∷ [])
    is_full : {made hops shown found : ℕ} {before : Node} {next : Option Held} {es fs : List Event} → Insertings made None es → Finds key root hops (Some (Absent before next)) (Some shown) fs
        → made + hops ≤ budget → Inserts budget (Full found) (es ++ fs ++ refused found ∷ [])
    again : {made hops : ℕ} {hand : Option RefParts} {es fs : List Event} → Insertings made hand es → Finds key root hops None None fs
        → made + hops ≡ budget → Inserts budget (Again budget) (es ++ fs ++ back hand)

  -- a removal
  pub data Removes (budget : ℕ) : LookAnswer → List Event → Type 0 where
    takes_away : {made hops shown : ℕ} {before : Node} {at : Held} {link : LinkParts} {took : Bool} {es fs gs : List Event} → Removings made es → Finds key root hops (Some (Present before at link)) (Some shown) fs → TakesOut before at link took gs
        → made + hops ≤ budget → Removes budget (Looked true) (es ++ fs ++ marks key at link None ++ gs)
    lacks_it : {made hops shown : ℕ} {before : Node} {next : Option Held} {es fs : List Event} → Removings made es → Finds key root hops (Some (Absent before next)) (Some shown) fs
        → made + hops ≤ budget → Removes budget (Looked false) (es ++ fs ++ placed (Remove key) false shown ∷ [])
    again : {made hops : ℕ} {es fs : List Event} → Removings made es → Finds key root hops None None fs
        → made + hops ≡ budget → Removes budget (LookAgain budget) (es ++ fs)

  -- a search
  pub data Searches (budget : ℕ) : LookAnswer → List Event → Type 0 where
    sees : {hops shown : ℕ} {before : Node} {at : Held} {link : LinkParts} {fs : List Event} → Finds key root hops (Some (Present before at link)) (Some shown) fs
        → hops ≤ budget → Searches budget (Looked true) (fs ++ placed (Search key) true shown ∷ [])
    lacks_it : {hops shown : ℕ} {before : Node} {next : Option Held} {fs : List Event} → Finds key root hops (Some (Absent before next)) (Some shown) fs
        → hops ≤ budget → Searches budget (Looked false) (fs ++ placed (Search key) false shown ∷ [])
    again : {fs : List Event} → Finds key root budget None None fs → Searches budget (LookAgain budget) fs
