-- No call of the list leaves a record in its caller's hand.
use Rattle.std.proofs.Common.{ℕ, [], ◌∷◌, List, Bool, Option, refl}
use Rattle.set_model.specs.declared.calls.InsertAnswer.{InsertAnswer}
use Rattle.set_model.specs.declared.calls.LookAnswer.{LookAnswer}
use Rattle.row_words.specs.Refs.{RefParts, LinkParts}
use Rattle.record_table.specs.declared.nodes.Held.{Held}
use Rattle.record_table.specs.declared.nodes.Node.{Node}
use Rattle.reclaim_api.specs.declared.holding.Holding.TheVariants.{Held as Holds}
use Rattle.record_pieces.specs.Events.{Event, hopped}
use Rattle.record_pieces.proofs.Hands.{Hands, hands_both, hands_beside}
use Rattle.list_calls.proofs.Hands.{Balances, own_from, record_hands, back_hands}
use Rattle.michael_list.specs.declared.spots.Spot.{Spot}
use Rattle.michael_list.specs.declared.spots.Landing.{Landing}
use Rattle.michael_list.specs.Walks.{TakesOut, takes_out, is_refused, Looks, passes, finds, misses, clears, is_late, Hops, ends, meets_mark, moves, reaches, Walks, starts, goes_on, stays, restarts, Finds, found, needs_more, loads}
use Rattle.michael_list.specs.Pieces.{Insertings, Inserts, Removings, Removes, Searches}

-- a record that is taken out is retired
out_balances : {before : Node} {gone : Held} {link : LinkParts} {b : Bool} {es : List Event} → TakesOut before gone link b es → Balances es
out_balances takes_out = record { sums = refl }
out_balances (is_refused other) = record { sums = refl }

loads_balance : (at : Held) (n : ℕ) (link : LinkParts) (then : ℕ) → Balances (loads at n link then)
loads_balance at n link then = record { sums = refl }

looks_balance : {key : ℕ} {from : Node} {at : Held} {seen : ℕ} {landing : Landing} {shown : Option ℕ} {es : List Event} → Looks key from at seen landing shown es → Balances es
looks_balance {at = at} (passes n link then clean less) = loads_balance at n link then
looks_balance {at = at} (finds n link then clean same) = loads_balance at n link then
looks_balance {at = at} (misses n link then clean more) = loads_balance at n link then
looks_balance {at = at} (clears n link then marked out) = hands_both (loads_balance at n link then) (out_balances out)
looks_balance {at = at} (is_late n link then marked out) = hands_both (loads_balance at n link then) (out_balances out)

hops_balance : {key : ℕ} {from : Node} {landing : Landing} {shown : Option ℕ} {es : List Event} → Hops key from landing shown es → Balances es
hops_balance (ends place seen) = record { sums = refl }
hops_balance (meets_mark place link seen) = record { sums = refl }
hops_balance (moves place n seen) = record { sums = refl }
hops_balance {from = from} (reaches place at seen looks) = hands_both {es = hopped place from 3 (Holds at) seen ∷ []} (record { sums = refl }) (looks_balance looks)

walks_balance : {key root hops rank : ℕ} {from : Node} {es : List Event} → Walks key root hops from rank es → Balances es
walks_balance starts = record { sums = refl }
walks_balance (goes_on walk hop rises) = hands_both (walks_balance walk) (hops_balance hop)
walks_balance (stays walk hop) = hands_both (walks_balance walk) (hops_balance hop)
walks_balance (restarts walk hop) = hands_both (walks_balance walk) (hops_balance hop)

finds_balance : {key root hops : ℕ} {spot : Option Spot} {shown : Option ℕ} {es : List Event} → Finds key root hops spot shown es → Balances es
finds_balance (found walk hop) = hands_both (walks_balance walk) (hops_balance hop)
finds_balance (needs_more walk) = walks_balance walk

-- after tries that failed it has that one alone
insertings_hands : {root key hops : ℕ} {hand : Option RefParts} {es : List Event} → Insertings root key hops hand es → Hands 0 es (own_from hand)
insertings_hands Insertings.none = record { sums = refl }
insertings_hands (Insertings.more {hand = hand} other tries walk got) =
    hands_both (hands_both (hands_both (insertings_hands tries) (hands_beside (own_from hand) (finds_balance walk))) (record_hands got)) (record { sums = refl })

pub inserts_balance : {root key budget : ℕ} {answer : InsertAnswer} {es : List Event} → Inserts root key budget answer es → Balances es
inserts_balance (Inserts.adds {hand = hand} tries walk got few) =
    hands_both (hands_both (hands_both (insertings_hands tries) (hands_beside (own_from hand) (finds_balance walk))) (record_hands got)) (record { sums = refl })
inserts_balance (Inserts.has_it {hand = hand} tries walk few) =
    hands_both (hands_both (hands_both (insertings_hands tries) (hands_beside (own_from hand) (finds_balance walk))) (back_hands hand)) (record { sums = refl })
inserts_balance (Inserts.is_full tries walk few) = hands_both (hands_both (insertings_hands tries) (finds_balance walk)) (record { sums = refl })
inserts_balance (Inserts.again {hand = hand} tries walk all) = hands_both (hands_both (insertings_hands tries) (hands_beside (own_from hand) (finds_balance walk))) (back_hands hand)

removings_balance : {root key hops : ℕ} {es : List Event} → Removings root key hops es → Balances es
removings_balance Removings.none = record { sums = refl }
removings_balance (Removings.more other tries walk) = hands_both (hands_both (removings_balance tries) (finds_balance walk)) (record { sums = refl })

pub removes_balance : {root key budget : ℕ} {answer : LookAnswer} {es : List Event} → Removes root key budget answer es → Balances es
removes_balance (Removes.takes_away tries walk out few) = hands_both (hands_both (hands_both (removings_balance tries) (finds_balance walk)) (record { sums = refl })) (out_balances out)
removes_balance (Removes.lacks_it tries walk few) = hands_both (hands_both (removings_balance tries) (finds_balance walk)) (record { sums = refl })
removes_balance (Removes.again tries walk all) = hands_both (removings_balance tries) (finds_balance walk)

pub searches_balance : {root key budget : ℕ} {answer : LookAnswer} {es : List Event} → Searches root key budget answer es → Balances es
searches_balance (Searches.sees walk few) = hands_both (finds_balance walk) (record { sums = refl })
searches_balance (Searches.lacks_it walk few) = hands_both (finds_balance walk) (record { sums = refl })
searches_balance (Searches.again walk) = finds_balance walk
