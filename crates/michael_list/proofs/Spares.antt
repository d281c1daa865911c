-- An insertion that adds no key leaves all records spare that were, and the one that it got.
use Rattle.std.proofs.Common.{ℕ, List, [], ◌∷◌, ◌++◌, false, Option, Some, None, sym, subst}
use mathlib.Core.Option.{some-ne-none}
use Rattle.set_model.specs.declared.calls.Call.TheVariants.{Insert}
use Rattle.set_model.specs.declared.calls.InsertAnswer.{InsertAnswer}
use Rattle.record_memory.specs.declared.books.Book.{Book}
use Rattle.record_memory.specs.declared.books.Setup.{Setup}
use Rattle.row_words.specs.Refs.{RefParts}
use Rattle.record_pieces.specs.Manners.{Manner}
use Rattle.record_pieces.specs.Spares.{KeepsSpares}
use Rattle.record_pieces.specs.Events.{Event, begun, took, placed, refused, ended}
use Rattle.record_pieces.specs.Trails.{Trail}
use Rattle.record_pieces.proofs.Stock.{keeps_one, keeps_all, parts}
use Rattle.set_calls.specs.Spares.{GivesBack}
use Rattle.list_calls.specs.Records.{back}
use Rattle.list_calls.proofs.Spares.{Gets, keep_gets, both_get, record_gets, earlier_gets, back_gets, KeepsBut, others_then, but_then, record_keeps, back_leaves, around}
use Rattle.michael_list.specs.declared.spots.Spot.{Spot}
use Rattle.michael_list.specs.Walks.{Finds}
use Rattle.michael_list.specs.Pieces.{Insertings, Inserts, links}
use Rattle.michael_list.proofs.Stock.{finds_keep}

tries_get : {root key hops : ℕ} {hand : Option RefParts} {es : List Event} → Insertings root key hops hand es → Gets hand es
tries_get Insertings.none i r at = absurd (some-ne-none (took r) (sym at))
tries_get {key = key} (Insertings.more {own = own} {before = before} {next = next} {es = es} {fs = fs} {gs = gs} other tries walk record_got) i r at =
    both_get (Some own) (es ++ fs ++ gs) (links key before next own (Some other))
    (both_get (Some own) (es ++ fs) gs (both_get (Some own) es fs (earlier_gets es record_got (tries_get tries)) (keep_gets (Some own) fs (finds_keep walk))) (record_gets record_got))
    (keep_gets (Some own) (links key before next own (Some other)) (tt, (tt, (tt, tt)))) i r at

module _ (m : Manner) (k : Setup) where
  tries_keep : {root key hops : ℕ} {hand : Option RefParts} {es : List Event} (b c : Book) → Insertings root key hops hand es → Trail m k es b c → KeepsBut hand b c
  tries_keep b c Insertings.none t = subst (KeepsSpares b) t (λ r was. was)
  tries_keep {key = key} b c (Insertings.more {hand = hand} {own = own} {before = before} {next = next} {es = es} {fs = fs} {gs = gs} other tries walk record_got) t =
      let p = parts m k (es ++ fs ++ gs) (links key before next own (Some other)) b c t in
      let q = parts m k (es ++ fs) gs b p.0 p.1 in
      let r = parts m k es fs b q.0 q.1 in
      let kept = but_then hand b r.0 q.0 (tries_keep b r.0 tries r.1) (keeps_all m k fs r.0 q.0 (finds_keep walk) r.2).kept in
      others_then own b p.0 c (record_keeps m k own hand gs b q.0 p.0 record_got kept q.2) (keeps_all m k (links key before next own (Some other)) p.0 c (tt, (tt, (tt, tt))) p.2).kept

  -- after the tries and a walk
  tried_keep : {root key before_it hops : ℕ} {hand : Option RefParts} {spot : Option Spot} {shown : Option ℕ} {es fs : List Event} (b c : Book) → Insertings root key before_it hand es → Finds key root hops spot shown fs → Trail m k (es ++ fs) b c → KeepsBut hand b c
  tried_keep {hand = hand} {es = es} {fs = fs} b c tries walk t =
      let p = parts m k es fs b c t in but_then hand b p.0 c (tries_keep b p.0 tries p.1) (keeps_all m k fs p.0 c (finds_keep walk) p.2).kept

  inserts_give : {root key budget : ℕ} {answer : InsertAnswer} {es : List Event} (b c : Book) → Inserts root key budget answer es → Trail m k es b c → GivesBack answer es b c
  inserts_give b c (Inserts.adds tries walk record_got few) t = tt
  inserts_give {key = key} b c (Inserts.has_it {shown = shown} {hand = hand} {es = es} {fs = fs} tries walk few) t =
      let last = placed (Insert key) false shown ∷ [] in
      let p = parts m k (es ++ fs ++ back hand) last b c t in
      let q = parts m k (es ++ fs) (back hand) b p.0 p.1 in
      let left = back_leaves m k hand b q.0 p.0 (tried_keep b q.0 tries walk q.1) q.2 in
      let kept = (keeps_all m k last p.0 c (tt, tt) p.2).kept in
      let got : Gets hand (es ++ fs ++ back hand ++ last) = both_get hand (es ++ fs ++ back hand) last
      (both_get hand (es ++ fs) (back hand) (both_get hand es fs (tries_get tries) (keep_gets hand fs (finds_keep walk))) (back_gets hand)) (keep_gets hand last (tt, tt)) in record {
        kept = λ r was. kept r (left.0 r was);
        got = λ i r at. kept r (left.1 r (got i r at));
      }
  inserts_give b c (Inserts.is_full {found = n} {es = es} {fs = fs} tries walk few) t =
      let p = parts m k (es ++ fs) (refused n ∷ []) b c t in
      let first : KeepsSpares b p.0 = tried_keep b p.0 tries walk p.1 in
      let kept = (keeps_all m k (refused n ∷ []) p.0 c (tt, tt) p.2).kept in
      let got : Gets None (es ++ fs ++ refused n ∷ []) = both_get None (es ++ fs) (refused n ∷ []) (both_get None es fs (tries_get tries) (keep_gets None fs (finds_keep walk))) (keep_gets None (refused n ∷ []) (tt, tt)) in record {
        kept = λ r was. kept r (first r was);
        got = λ i r at. let bad = got i r at in absurd (cc);
      }
  inserts_give b c (Inserts.again {hand = hand} {es = es} {fs = fs} tries walk all) t =
      let p = parts m k (es ++ fs) (back hand) b c t in
      let left = back_leaves m k hand b p.0 c (tried_keep b p.0 tries walk p.1) p.2 in
      let got : Gets hand (es ++ fs ++ back hand) = both_get hand (es ++ fs) (back hand) (both_get hand es fs (tries_get tries) (keep_gets hand fs (finds_keep walk))) (back_gets hand) in record {
        kept = left.0;
        got = λ i r at. left.1 r (got i r at);
      }

  pub guard_gives : {root key budget : ℕ} (answer : InsertAnswer) (es : List Event) (b c : Book) → Inserts root key budget answer es → Trail m k (begun ∷ es ++ ended ∷ []) b c → GivesBack answer es b c
  guard_gives answer es b c inserts t =
      let p = parts m k es (ended ∷ []) t.0 c t.2 in
      around answer es b t.0 p.0 c (keeps_one m k begun b t.0 tt t.1).kept (inserts_give t.0 p.0 inserts p.1) (keeps_all m k (ended ∷ []) p.0 c (tt, tt) p.2).kept
