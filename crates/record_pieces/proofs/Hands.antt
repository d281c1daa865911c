-- The records that a caller has in hand, after a call of its reclaimer, after one of them changed, and after events.
use Rattle.std.proofs.Common.{◌≡◌, ℕ, zero, suc, ◌+◌, ◌-◌, ◌<◌, length, get_or, set, get_or-set_same, get_or-set_other, List, [], ◌∷◌, ◌++◌, Bool, true, false, Option, Some, None, sym, refl, ap, ◌∙◌, subst, arith}
use Rattle.std.specs.List.{count_by, sum_by}
use Rattle.std.proofs.lemmas.List.Sums.{sum_by-append, sum_by-cons}
use native.Mathlib.Decide.{ℕ_discrete}
use Rattle.record_memory.specs.declared.books.Book.{Book}
use Rattle.record_memory.specs.declared.books.Setup.{Setup}
use Rattle.record_memory.specs.declared.books.Share.{Share}
use Rattle.record_memory.specs.declared.books.Standing.{Standing}
use Rattle.record_memory.specs.declared.books.Standing.TheVariants.{Handing, Own, Spare, TakenOut, Limbo, Free, Spent}
use Rattle.record_memory.specs.declared.books.View.{View}
use Rattle.row_words.specs.Refs.{RefParts}
use Rattle.record_rule.specs.Kinds.{share_in}
use Rattle.record_rule.specs.Links.{HasTaken}
use Rattle.record_rule.proofs.CountingPlaces.{bit, count_cons}
use Rattle.record_rule.proofs.HandingOut.{known_within}
use Rattle.record_rule.proofs.Lists.{counts_same, counts_more, counts_less}
use Rattle.reclaim_api.specs.Frames.{rest_as, in_rest, is_as, LeavesRest, LeavesRestBut, LeavesRecords}
use Rattle.record_pieces.specs.Manners.{Manner}
use Rattle.record_pieces.specs.Hands.{is_in_hand, in_hand}
use Rattle.record_pieces.specs.Events.{Event, gained, dropped, retirements, Acts, Does}
use Rattle.record_pieces.specs.Trails.{Trail}

-- no entry stands past the end
past : {A : Type 0} (j : ℕ) → get_or {A = Option A} [] j None ≡ None
past zero = refl
past (suc j) = refl

-- two lists with the same entries where they count count the same
pub count_like : {A : Type 0} (p : Option A → Bool) → p None ≡ false → (xs ys : List (Option A)) → ((j : ℕ) → p (get_or xs j None) ≡ p (get_or ys j None)) → count_by p xs ≡ count_by p ys
count_like p none [] [] e = refl
count_like p none [] (y ∷ ys) e = let c = count_cons p y ys in let b = ap bit (sym (e 0) ∙ none) in let h = count_like p none [] ys (λ j. ap p (past j) ∙ sym (ap p (past (suc j))) ∙ e (suc j)) in omega arith
count_like p none (x ∷ xs) [] e = let c = count_cons p x xs in let b = ap bit (e 0 ∙ none) in let h = count_like p none xs [] (λ j. e (suc j) ∙ ap p (past (suc j)) ∙ sym (ap p (past j))) in omega arith
count_like p none (x ∷ xs) (y ∷ ys) e = let c = count_cons p x xs in let d = count_cons p y ys in let b = ap bit (e 0) in let h = count_like p none xs ys (λ j. e (suc j)) in omega arith

-- what counts is among the rest
rest_counts : (h : Share) (s : Standing) → h.standing ≡ s → is_as is_in_hand (rest_as h s) ≡ is_in_hand s
rest_counts h (Handing n) e = ap is_in_hand e
rest_counts h Own e = ap is_in_hand e
rest_counts h Spare e = ap is_in_hand e
rest_counts h TakenOut e = ap is_in_hand e
rest_counts h Limbo e = refl
rest_counts h Free e = refl
rest_counts h Spent e = refl

in_rest_counts : (o : Option Share) → is_as is_in_hand (in_rest o) ≡ is_as is_in_hand o
in_rest_counts None = refl
in_rest_counts (Some h) = rest_counts h h.standing refl

-- so as many are in hand where the rest is the same
hand_like : (xs ys : List (Option Share)) → ((j : ℕ) → in_rest (get_or ys j None) ≡ in_rest (get_or xs j None)) → count_by (is_as is_in_hand) ys ≡ count_by (is_as is_in_hand) xs
hand_like xs ys rest = count_like (is_as is_in_hand) refl ys xs (λ j. sym (in_rest_counts (get_or ys j None)) ∙ ap (is_as is_in_hand) (rest j) ∙ in_rest_counts (get_or xs j None))

-- where nothing else is known of the records
pub hand_mine : (b c : Book) → c.mine ≡ b.mine → in_hand c ≡ in_hand b
hand_mine b c e = ap (count_by (is_as is_in_hand)) e

pub hand_left : (v w : View) → LeavesRecords v w → in_hand w.own ≡ in_hand v.own
hand_left v w rest = hand_mine v.own w.own rest.mine

-- where records may have been freed
pub hand_rest : (v w : View) → LeavesRest v w → in_hand w.own ≡ in_hand v.own
hand_rest v w rest = hand_like v.own.mine w.own.mine (λ j. let place : j + 1 - 1 ≡ j = omega arith in subst (λ (k : ℕ). in_rest (get_or w.own.mine k None) ≡ in_rest (get_or v.own.mine k None)) place (rest.rest (j + 1)))

-- where what is known of one record changed
module _ (v w : View) (i : ℕ) (old new : Option Share) (was : share_in v i ≡ old) (mine : w.own.mine ≡ set v.own.mine (i - 1) new) (within : i - 1 < length v.own.mine) where
  pub hand_same : is_as is_in_hand new ≡ is_as is_in_hand old → in_hand w.own ≡ in_hand v.own
  hand_same same = ap (count_by (is_as is_in_hand)) mine ∙ counts_same (is_as is_in_hand) v.own.mine (i - 1) new None within (same ∙ sym (ap (is_as is_in_hand) was))

  pub hand_more : is_as is_in_hand old ≡ false → is_as is_in_hand new ≡ true → in_hand w.own ≡ in_hand v.own + 1
  hand_more before after = ap (count_by (is_as is_in_hand)) mine ∙ counts_more (is_as is_in_hand) v.own.mine (i - 1) new None within (ap (is_as is_in_hand) was ∙ before) after

  pub hand_less : is_as is_in_hand old ≡ true → is_as is_in_hand new ≡ false → in_hand w.own + 1 ≡ in_hand v.own
  hand_less before after = ap (λ l. count_by (is_as is_in_hand) l + 1) mine ∙ counts_less (is_as is_in_hand) v.own.mine (i - 1) new None within (ap (is_as is_in_hand) was ∙ before) after

-- where one that was taken out was retired
pub hand_rest_but : (v w : View) (r : RefParts) (share : Share) → HasTaken v r share → LeavesRestBut r.index v w → in_hand w.own + 1 ≡ in_hand v.own
hand_rest_but v w r share taken rest = ap (λ (n : ℕ). n + 1) (hand_like without w.own.mine still) ∙ counts_less (is_as is_in_hand) v.own.mine (r.index - 1) None None within (ap (is_as is_in_hand) taken.known ∙ ap is_in_hand taken.standing) refl
  where
    without : List (Option Share)
    without = set v.own.mine (r.index - 1) None

    within : r.index - 1 < length v.own.mine
    within = known_within v.own.mine (r.index - 1) share taken.known

    still : (j : ℕ) → in_rest (get_or w.own.mine j None) ≡ in_rest (get_or without j None)
    still j = by (ℕ_discrete j (r.index - 1))
      where
        by : Dec (j ≡ r.index - 1) → in_rest (get_or w.own.mine j None) ≡ in_rest (get_or without j None)
        by (yes e) = subst (λ (k : ℕ). in_rest (get_or w.own.mine k None) ≡ in_rest (get_or without k None)) (sym e) (rest.gone ∙ sym (ap in_rest (get_or-set_same v.own.mine (r.index - 1) None None within)))
        by (no ne) = rest.rest j ne ∙ sym (ap in_rest (get_or-set_other v.own.mine (r.index - 1) j None None ne))

-- an event that leaves as many in hand, and retires none
pub does_still : {m : Manner} {k : Setup} {e : Event} {b c : Book} → gained e ≡ 0 → dropped e ≡ 0 → retirements e ≡ 0 → in_hand c ≡ in_hand b → c.moves.retired ≡ b.moves.retired → Acts m k e b c → Does m k e b c
does_still more fewer none same still acts = record { acts = acts; hand = omega (arith, more, fewer, same); retires = omega (arith, none, still) }

-- from so many records in hand these events lead to so many
pub record Hands (n : ℕ) (es : List Event) (m : ℕ) : Type 0 where
  pub sums : n + sum_by gained es ≡ m + sum_by dropped es

pub hands_both : {n m o : ℕ} {es fs : List Event} → Hands n es m → Hands m fs o → Hands n (es ++ fs) o
hands_both {es = es} {fs = fs} first second = record { sums = omega (arith, first.sums, second.sums, sum_by-append gained es fs, sum_by-append dropped es fs) }

-- what is in hand beside stays there
pub hands_beside : {es : List Event} (k : ℕ) → Hands 0 es 0 → Hands k es k
hands_beside k h = record { sums = omega (arith, h.sums) }

-- and so they do with those of a book
pub hands_trail : (m : Manner) (k : Setup) (es : List Event) (b c : Book) → Trail m k es b c → Hands (in_hand b) es (in_hand c)
hands_trail m k [] b c t = record { sums = ap (λ (x : Book). in_hand x + 0) t }
hands_trail m k (e ∷ es) b c t = record { sums = omega (arith, t.1.hand, (hands_trail m k es t.0 c t.2).sums, sum_by-cons gained e es, sum_by-cons dropped e es) }

-- a call whose events leave none leaves as many as there were
pub hands_stay : (m : Manner) (k : Setup) (es : List Event) (b c : Book) → Hands 0 es 0 → Trail m k es b c → in_hand c ≡ in_hand b
hands_stay m k es b c none t = omega (arith, none.sums, (hands_trail m k es b c t).sums)

-- of events one after another as many records are retired as they say
pub retires_trail : (m : Manner) (k : Setup) (es : List Event) (b c : Book) → Trail m k es b c → c.moves.retired ≡ b.moves.retired + sum_by retirements es
retires_trail m k [] b c t = omega (arith, ap (λ (x : Book). x.moves.retired) t)
retires_trail m k (e ∷ es) b c t = omega (arith, t.1.retires, retires_trail m k es t.0 c t.2, sum_by-cons retirements e es)
