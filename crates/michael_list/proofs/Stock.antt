-- Which calls of the list leave its caller's stock of records as it was, and that an insertion takes one record at most.
use Rattle.std.proofs.Common.{ℕ, List, [], ◌∷◌, ◌++◌, Bool, true, false, Option, Some, None, subst}
use Rattle.set_model.specs.declared.calls.Call.TheVariants.{Insert}
use Rattle.set_model.specs.declared.calls.InsertAnswer.{InsertAnswer}
use Rattle.set_model.specs.declared.calls.LookAnswer.{LookAnswer}
use Rattle.record_memory.specs.declared.books.Book.{Book}
use Rattle.record_memory.specs.declared.books.Setup.{Setup}
use Rattle.record_table.specs.declared.nodes.Held.{Held}
use Rattle.record_table.specs.declared.nodes.Node.{Node}
use Rattle.row_words.specs.Refs.{RefParts, LinkParts}
use Rattle.record_pieces.specs.Manners.{Manner}
use Rattle.record_pieces.specs.Events.{Event, KeepsStock, placed, refused}
use Rattle.record_pieces.specs.Trails.{Trail}
use Rattle.record_pieces.proofs.Stock.{AllKeep, both_keep, same_stock, stock_then, keeps_all, parts}
use Rattle.list_calls.proofs.Stock.{took_drew, took_then, drew_then, HasTaken, taken_then, record_taken, back_gives, Leaves}
use Rattle.michael_list.specs.declared.spots.Spot.{Spot}
use Rattle.michael_list.specs.declared.spots.Landing.{Landing}
use Rattle.michael_list.specs.Walks.{TakesOut, takes_out, is_refused, Looks, passes, finds, misses, clears, is_late, Hops, ends, meets_mark, moves, reaches, Walks, starts, goes_on, stays, restarts, Finds, found, needs_more}
use Rattle.list_calls.specs.Records.{back}
use Rattle.michael_list.specs.Pieces.{Insertings, Inserts, Removings, Removes, Searches, links, marks}

out_keep : (before : Node) (gone : Held) (link : LinkParts) (b : Bool) (es : List Event) → TakesOut before gone link b es → AllKeep es
out_keep before gone link b _ takes_out = (tt, (tt, tt))
out_keep before gone link b _ (is_refused other) = (tt, tt)

looks_keep : (key : ℕ) (from : Node) (at : Held) (seen : ℕ) (landing : Landing) (shown : Option ℕ) (es : List Event) → Looks key from at seen landing shown es → AllKeep es
looks_keep key from at seen landing shown _ (passes n link then clean less) = (tt, (tt, tt))
looks_keep key from at seen landing shown _ (finds n link then clean same) = (tt, (tt, tt))
looks_keep key from at seen landing shown _ (misses n link then clean more) = (tt, (tt, tt))
looks_keep key from at seen landing shown _ (clears n link then {fs = fs} marked out) = (tt, (tt, out_keep from at _ true fs out))
looks_keep key from at seen landing shown _ (is_late n link then {fs = fs} marked out) = (tt, (tt, out_keep from at _ false fs out))

hops_keep : (key : ℕ) (from : Node) (landing : Landing) (shown : Option ℕ) (es : List Event) → Hops key from landing shown es → AllKeep es
hops_keep key from landing shown _ (ends place seen) = (tt, tt)
hops_keep key from landing shown _ (meets_mark place link seen) = (tt, tt)
hops_keep key from landing shown _ (moves place n seen) = (tt, tt)
hops_keep key from landing shown _ (reaches place at seen {landing = l} {shown = s} {fs = fs} looks) = (tt, looks_keep key from at seen l s fs looks)

walks_keep : {key root hops rank : ℕ} {from : Node} {es : List Event} → Walks key root hops from rank es → AllKeep es
walks_keep starts = tt
walks_keep {key} (goes_on {from = from} {es = es} {fs = fs} walk hop rises) = both_keep es fs (walks_keep walk) (hops_keep key from _ _ fs hop)
walks_keep {key} (stays {from = from} {es = es} {fs = fs} walk hop) = both_keep es fs (walks_keep walk) (hops_keep key from _ _ fs hop)
walks_keep {key} (restarts {from = from} {es = es} {fs = fs} walk hop) = both_keep es fs (walks_keep walk) (hops_keep key from _ _ fs hop)

pub finds_keep : {key root hops : ℕ} {spot : Option Spot} {shown : Option ℕ} {es : List Event} → Finds key root hops spot shown es → AllKeep es
finds_keep {key} (found {from = from} {es = es} {fs = fs} walk hop) = both_keep es fs (walks_keep walk) (hops_keep key from _ _ fs hop)
finds_keep (needs_more walk) = walks_keep walk

removings_keep : {root key hops : ℕ} {es : List Event} → Removings root key hops es → AllKeep es
removings_keep Removings.none = tt
removings_keep {key = key} (Removings.more {at = at} {link = link} {es = es} {fs = fs} other before walk) =
    both_keep (es ++ fs) (marks key at link (Some other)) (both_keep es fs (removings_keep before) (finds_keep walk)) (tt, tt)

-- a removal and a search take no record
pub removes_keep : {root key budget : ℕ} {answer : LookAnswer} {es : List Event} → Removes root key budget answer es → AllKeep es
removes_keep {key = key} (Removes.takes_away {before = before} {at = at} {link = link} {took = took} {es = es} {fs = fs} {gs = gs} tries walk out few) =
    both_keep (es ++ fs ++ marks key at link None) gs (both_keep (es ++ fs) (marks key at link None) (both_keep es fs (removings_keep tries) (finds_keep walk)) (tt, tt)) (out_keep before at link took gs out)
removes_keep (Removes.lacks_it {es = es} {fs = fs} tries walk few) = both_keep (es ++ fs) _ (both_keep es fs (removings_keep tries) (finds_keep walk)) (tt, tt)
removes_keep (Removes.again {es = es} {fs = fs} tries walk all) = both_keep es fs (removings_keep tries) (finds_keep walk)

pub searches_keep : {root key budget : ℕ} {answer : LookAnswer} {es : List Event} → Searches root key budget answer es → AllKeep es
searches_keep (Searches.sees {fs = fs} walk few) = both_keep fs _ (finds_keep walk) (tt, tt)
searches_keep (Searches.lacks_it {fs = fs} walk few) = both_keep fs _ (finds_keep walk) (tt, tt)
searches_keep (Searches.again walk) = finds_keep walk

module _ (m : Manner) (k : Setup) where
  insertings_take : {root key hops : ℕ} {hand : Option RefParts} {es : List Event} (b c : Book) → Insertings root key hops hand es → Trail m k es b c → HasTaken hand b c
  insertings_take b c Insertings.none t = subst (KeepsStock b) t (same_stock b)
  insertings_take {key = key} b c (Insertings.more {hand = hand} {own = own} {before = before} {next = next} {es = es} {fs = fs} {gs = gs} other tries walk record_got) t =
      let p = parts m k (es ++ fs ++ gs) (links key before next own (Some other)) b c t in
      let q = parts m k (es ++ fs) gs b p.0 p.1 in
      let r = parts m k es fs b q.0 q.1 in
      let taken = taken_then hand b r.0 q.0 (insertings_take b r.0 tries r.1) (keeps_all m k fs r.0 q.0 (finds_keep walk) r.2) in
      took_then (record_taken m k own hand gs b q.0 p.0 record_got taken q.2) (keeps_all m k (links key before next own (Some other)) p.0 c (tt, (tt, (tt, tt))) p.2)

  -- after tries that failed, and a walk
  tried_taken : {root key before_it hops : ℕ} {hand : Option RefParts} {spot : Option Spot} {shown : Option ℕ} {es fs : List Event} (b c : Book) → Insertings root key before_it hand es → Finds key root hops spot shown fs → Trail m k (es ++ fs) b c → HasTaken hand b c
  tried_taken {hand = hand} {es = es} {fs = fs} b c tries walk t =
      let p = parts m k es fs b c t in taken_then hand b p.0 c (insertings_take b p.0 tries p.1) (keeps_all m k fs p.0 c (finds_keep walk) p.2)

  pub inserts_leave : {root key budget : ℕ} {answer : InsertAnswer} {es : List Event} (b c : Book) → Inserts root key budget answer es → Trail m k es b c → Leaves m k answer b c
  inserts_leave {key = key} b c (Inserts.adds {hand = hand} {own = own} {before = before} {next = next} {es = es} {fs = fs} {gs = gs} tries walk record_got few) t =
      let p = parts m k (es ++ fs ++ gs) (links key before next own None) b c t in
      let q = parts m k (es ++ fs) gs b p.0 p.1 in
      took_drew (took_then (record_taken m k own hand gs b q.0 p.0 record_got (tried_taken b q.0 tries walk q.1) q.2) (keeps_all m k (links key before next own None) p.0 c (tt, (tt, (tt, tt))) p.2))
  inserts_leave {key = key} b c (Inserts.has_it {shown = shown} {hand = hand} {es = es} {fs = fs} tries walk few) t =
      let p = parts m k (es ++ fs ++ back hand) (placed (Insert key) false shown ∷ []) b c t in
      let q = parts m k (es ++ fs) (back hand) b p.0 p.1 in
      drew_then (back_gives m k hand b q.0 p.0 (tried_taken b q.0 tries walk q.1) q.2).drew (keeps_all m k (placed (Insert key) false shown ∷ []) p.0 c (tt, tt) p.2)
  inserts_leave b c (Inserts.is_full {found = n} {es = es} {fs = fs} tries walk few) t =
      let p = parts m k (es ++ fs) (refused n ∷ []) b c t in
      let first = tried_taken b p.0 tries walk p.1 in
      let last = subst (KeepsStock p.2.0) p.2.2 (same_stock p.2.0) in
      (stock_then (stock_then first p.2.1.acts.stock) last, p.0, p.2.0, first, p.2.2, p.2.1.acts)
  inserts_leave b c (Inserts.again {hand = hand} {es = es} {fs = fs} tries walk all) t =
      let p = parts m k (es ++ fs) (back hand) b c t in
      back_gives m k hand b p.0 c (tried_taken b p.0 tries walk p.1) p.2
