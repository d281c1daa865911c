-- Each call of a phase is placed behind all calls of earlier phases, whoever made them: the phase's bound lies between.
use mathlib.Core.Option.{some-injective}
use Rattle.std.proofs.Common.{◌≡◌, ℕ, zero, suc, ◌+◌, ◌≤◌, ◌<◌, List, [], ◌∷◌, ◌++◌, length, length-append, take, drop, ⊎_elim, Bool, true, false, Option, Some, refl, sym, ap, ◌∙◌, subst, arith}
use Rattle.std.proofs.Math.Seq.{take-length}
use Rattle.std.proofs.lemmas.Grind.{flat_map-append}
use Rattle.std.proofs.lemmas.List.{append_assoc, append-nil, length-map, take-append-le, take-append-drop}
use Rattle.set_model.specs.declared.calls.Call.{Call}
use Rattle.set_model.specs.declared.calls.Call.TheVariants.{Insert, Remove, Search}
use Rattle.set_model.specs.declared.calls.Reply.{Reply}
use Rattle.set_model.specs.declared.calls.Update.{Update}
use Rattle.record_memory.specs.declared.books.Answered.{Answered}
use Rattle.record_memory.specs.declared.books.Book.{Book}
use Rattle.record_memory.specs.declared.books.Guard.{Guard}
use Rattle.record_memory.specs.declared.books.Setup.{Setup}
use Rattle.record_memory.specs.declared.books.View.{View}
use Rattle.record_rule.specs.Facts.{At}
use Rattle.record_rule.specs.Laws.{with_update}
use Rattle.record_rule.specs.Links.{own_update}
use Rattle.record_rule.specs.Histories.{before, after}
use Rattle.record_rule.specs.World.{StartsWith}
use Rattle.record_rule.proofs.Lists.{below_at, at_append, get_at}
use Rattle.workload_text.specs.Limits.{calls_of_all}
use Rattle.manager.specs.Callers.{AnswersNone}
use Rattle.set_calls.specs.Answers.{Decided, Read}
use Rattle.set_api.specs.declared.answer.Answer.{Answer}
use Rattle.set_api.specs.declared.answer.Answer.TheVariants as answer
use Rattle.set_api.specs.Answers.{Tells}
use Rattle.set_api.specs.Turns.{Repeats, Turns, Phases, Met}
use Rattle.key_sums.specs.Balances.{answered_among, answers_in}
use Rattle.set_runs.specs.Runs.{IsCallersPlay}
use Rattle.run_facts.specs.Replies.{with_replies}
use Rattle.run_facts.specs.Phased.{answered_before, ArePhased}
use Rattle.run_facts.proofs.Answers.{among_more, phases_add}

-- what begins a list is no longer
shorter : {A : Type 0} (whole start : List A) → StartsWith whole start → length start ≤ length whole
shorter whole start h = omega (arith, ap length h.1, length-append start h.0)

-- the calls that a caller answered on the way from one view to another lie between their fronts
record Grows (u w : View) : Type 0 where
  longer : length u.front ≤ length w.front
  more : List Answered
  answered : w.own.answered ≡ u.own.answered ++ more
  placed : (n : ℕ) (a : Answered) → At more n a → (length u.front ≤ before a) × (after a ≤ length w.front)

grows_none : (u w : View) → AnswersNone u w → Grows u w
grows_none u w h = record { longer = omega (arith, ap length h.front); more = []; answered = h.answered ∙ sym (append-nil u.own.answered); placed = λ n a at. absurd (omega (arith, below_at [] n a at)) }

grows_then : (u v w : View) → Grows u v → Grows v w → Grows u w
grows_then u v w g h = record {
  longer = omega (arith, g.longer, h.longer);
  more = g.more ++ h.more;
  answered = h.answered ∙ ap (λ l. l ++ h.more) g.answered ∙ append_assoc u.own.answered g.more h.more;
  placed = λ n a at.
      ⊎_elim (λ e. let x = g.placed n a e in (x.0, omega (arith, x.1, h.longer))) (λ e. let x = h.placed e.0 a e.2 in (omega (arith, x.0, g.longer), x.1)) (at_append g.more h.more n a at);
}

one_more : (P : Answered → Type 0) (a : Answered) → P a → (n : ℕ) (b : Answered) → At (a ∷ []) n b → P b
one_more P a h zero b at = subst P (some-injective a b at) h
one_more P a h (suc n) b at = absurd (omega (arith, below_at (a ∷ []) (suc n) b at))

decided_grows : (call : Call) (u : Update) (v w : View) (d : Decided call v w) → own_update v (Some call) ≡ Some u → Grows v w
decided_grows call u v w d is =
    let front : length w.front ≡ length d.updates + 1 = ap length d.front ∙ ap (λ (x : Option Update). length (with_update d.updates x)) is ∙ length-append d.updates (u ∷ []) in
    let less = shorter d.updates v.front d.behind in
    record {
      longer = omega (arith, front, less);
      more = record { call = call; reply = true; decided = true; position = length d.updates } ∷ [];
      answered = d.answered;
      placed = one_more (λ a. (length v.front ≤ before a) × (after a ≤ length w.front)) _ (less, omega (arith, front));
    }

read_grows : (call : Call) (r : Bool) (v w : View) → Read call r v w → Grows v w
read_grows call r v w d =
    let less = shorter w.front v.front d.behind in
    record {
      longer = less;
      more = record { call = call; reply = r; decided = false; position = length w.front } ∷ [];
      answered = d.answered;
      placed = one_more (λ a. (length v.front ≤ before a) × (after a ≤ length w.front)) _ (less, omega arith);
    }

tells_grows : (call : Call) (a : Answer) (v w : View) → Tells call a v w → Grows v w
tells_grows (Insert key) (answer.Done true) v w t = decided_grows (Insert key) _ v w t refl
tells_grows (Insert key) (answer.Done false) v w t = read_grows (Insert key) false v w t
tells_grows (Insert key) (answer.Full found) v w t = grows_none v w t
tells_grows (Insert key) (answer.Again hops) v w t = grows_none v w t
tells_grows (Remove key) (answer.Done true) v w t = decided_grows (Remove key) _ v w t refl
tells_grows (Remove key) (answer.Done false) v w t = read_grows (Remove key) false v w t
tells_grows (Remove key) (answer.Full found) v w t = elim t [ ]
tells_grows (Remove key) (answer.Again hops) v w t = grows_none v w t
tells_grows (Search key) (answer.Done r) v w t = read_grows (Search key) r v w t
tells_grows (Search key) (answer.Full found) v w t = elim t [ ]
tells_grows (Search key) (answer.Again hops) v w t = grows_none v w t

same_grows : (v : View) → Grows v v
same_grows v = grows_none v v (record { answered = refl; front = refl })

met_grows : {bound : ℕ} (v w : View) → Met bound v w → Grows v w
met_grows v w m = record { longer = shorter w.front v.front m.own; more = []; answered = ap (λ (x : View). x.own.answered) m.rest ∙ sym (append-nil v.own.answered); placed = λ n a at. absurd (omega (arith, below_at [] n a at)) }

module _ {steps : Call → ℕ → Answer → Book → Book → Type 0} {budget : ℕ} where
  repeats_grow : {call : Call} {u v : View} → Repeats steps budget call u v → Grows u v
  repeats_grow {u = u} Repeats.none = same_grows u
  repeats_grow {call} (Repeats.again {u = u} {v = v} {w = w} hops before made) = grows_then u v w (repeats_grow before) (tells_grows call (answer.Again hops) v w made.tells)

  turns_grow : {calls : List Call} {replies : List Reply} {u v : View} → Turns steps budget calls replies u v → Grows u v
  turns_grow {u = u} Turns.none = same_grows u
  turns_grow (Turns.next {u = u} {v = v} {w = w} {call = call} before turn) = grows_then u v w (turns_grow before) (grows_then v turn.v w (repeats_grow turn.repeats) (tells_grows call turn.answer turn.v w turn.last.tells))

-- the replies to the first calls don't depend on those behind
with_front : (xs ys : List Call) (rs : List Reply) → (zs : List (Call × Reply)) × (with_replies (xs ++ ys) rs ≡ with_replies xs rs ++ zs)
with_front [] ys rs = (with_replies ys rs, refl)
with_front (x ∷ xs) ys [] = ([], refl)
with_front (x ∷ xs) ys (r ∷ rs) = let h = with_front xs ys rs in (h.0, ap (λ l. (x, r) ∷ l) h.1)

with_enough : (xs : List Call) (rs more : List Reply) → length xs ≤ length rs → with_replies xs (rs ++ more) ≡ with_replies xs rs
with_enough [] rs more e = refl
with_enough (x ∷ xs) [] more e = absurd (omega (arith, e))
with_enough (x ∷ xs) (r ∷ rs) more e = ap (λ l. (x, r) ∷ l) (with_enough xs rs more (omega (arith, e)))

joined_parts : (phases : List (List Call)) (p : ℕ) → calls_of_all phases ≡ calls_of_all (take p phases) ++ calls_of_all (drop p phases)
joined_parts phases p = ap calls_of_all (sym (take-append-drop p phases)) ∙ flat_map-append (λ (l : List Call). l) (take p phases) (drop p phases)

-- no more were answered before a phase than in all
fewer_before : (phases : List (List Call)) (replies : List Reply) (p : ℕ) → answered_before phases replies p ≤ length (answered_among (with_replies (calls_of_all phases) replies))
fewer_before phases replies p =
    let h = with_front (calls_of_all (take p phases)) (calls_of_all (drop p phases)) replies in
    let early = with_replies (calls_of_all (take p phases)) replies in
    let whole = ap (λ l. length (answered_among (with_replies l replies))) (joined_parts phases p) in
    omega (arith, whole, ap (λ l. length (answered_among l)) h.1, ap length (among_more early h.0), length-append (answered_among early) (answered_among h.0))

-- what holds at the end of so many phases
record Parted (phases : List (List Call)) (replies : List Reply) (bounds : List ℕ) (v : View) : Type 0 where
  within : (p bound : ℕ) → At bounds p bound → bound ≤ length v.front
  lies : (n : ℕ) (a : Answered) → At v.own.answered n a → after a ≤ length v.front
  replies_long : length replies ≡ length (calls_of_all phases)
  counted : length v.own.answered ≡ length (answered_among (with_replies (calls_of_all phases) replies))
  phased : ArePhased phases replies bounds v.own

-- one phase more
parted_next : (phases : List (List Call)) (calls : List Call) (before_it replies : List Reply) (bounds : List ℕ) (bound : ℕ) (v w x : View) → Parted phases before_it bounds v → Met bound v w → Grows w x
    → length (before_it ++ replies) ≡ length (calls_of_all (phases ++ calls ∷ [])) → length x.own.answered ≡ length (answered_among (with_replies (calls_of_all (phases ++ calls ∷ [])) (before_it ++ replies)))
    → Parted (phases ++ calls ∷ []) (before_it ++ replies) (bounds ++ bound ∷ []) x
parted_next phases calls before_it replies bounds bound v w x h met grown long counted = record {
  within = λ p b at. ⊎_elim (λ e. omega (arith, h.within p b e, front, grown.longer)) (λ e. omega (arith, get_at (bound ∷ []) e.0 b bound e.2, single e.0 b e.2, met.behind, grown.longer)) (at_append bounds (bound ∷ []) p b at);
  lies = λ n a at. ⊎_elim (λ e. omega (arith, h.lies n a e, front, grown.longer)) (λ e. (grown.placed e.0 a e.2).1) (at_append v.own.answered grown.more n a (subst (λ l. At l n a) answered at));
  replies_long = long;
  counted = counted;
  phased = record { one_each = omega (arith, length-append bounds (bound ∷ []), length-append phases (calls ∷ []), h.phased.one_each); earlier = earlier; later = later };
} where
  front : length v.front ≤ length w.front
  front = shorter w.front v.front met.own

  answered : x.own.answered ≡ v.own.answered ++ grown.more
  answered = grown.answered ∙ ap (λ (y : View). y.own.answered ++ grown.more) met.rest

  single : (i b : ℕ) → At (bound ∷ []) i b → bound ≡ b
  single zero b at = some-injective bound b at
  single (suc i) b at = absurd (omega (arith, below_at (bound ∷ []) (suc i) b at))

  -- the counts of earlier phases are as they were
  same_before : (p : ℕ) → p ≤ length phases → answered_before (phases ++ calls ∷ []) (before_it ++ replies) p ≡ answered_before phases before_it p
  same_before p few =
      ap (λ l. length (answered_among (with_replies (calls_of_all l) (before_it ++ replies)))) (take-append-le p phases (calls ∷ []) few)
      ∙ ap (λ l. length (answered_among l)) (with_enough (calls_of_all (take p phases)) before_it replies (omega (arith, h.replies_long, ap length (joined_parts phases p), length-append (calls_of_all (take p phases)) (calls_of_all (drop p phases)))))

  all_before : answered_before phases before_it (length phases) ≡ length v.own.answered
  all_before = ap (λ l. length (answered_among (with_replies (calls_of_all l) before_it))) (take-length phases) ∙ sym h.counted

  earlier : (p b n : ℕ) (a : Answered) → At (bounds ++ bound ∷ []) p b → At x.own.answered n a → n < answered_before (phases ++ calls ∷ []) (before_it ++ replies) p → after a ≤ b
  earlier p b n a at here less = ⊎_elim old new (at_append bounds (bound ∷ []) p b at) where
    old : At bounds p b → after a ≤ b
    old e =
        let few = subst (λ k. p < k) h.phased.one_each (below_at bounds p b e) in
        let less_before : n < answered_before phases before_it p = subst (λ k. n < k) (same_before p (omega (arith, few))) less in
        ⊎_elim (λ there. h.phased.earlier p b n a e there less_before) (λ there. absurd (omega (arith, there.1, less_before, fewer_before phases before_it p, h.counted))) (at_append v.own.answered grown.more n a (subst (λ l. At l n a) answered here))

    new : (q : ℕ) × (p ≡ length bounds + q) × At (bound ∷ []) q b → after a ≤ b
    new e =
        let q : e.0 ≡ 0 = omega (arith, below_at (bound ∷ []) e.0 b e.2) in
        let place : p ≡ length phases = omega (arith, e.1, q, h.phased.one_each) in
        let less_before : n < length v.own.answered = subst (λ k. n < k) (ap (answered_before (phases ++ calls ∷ []) (before_it ++ replies)) place ∙ same_before (length phases) (omega arith) ∙ all_before) less in
        ⊎_elim (λ there. omega (arith, h.lies n a there, met.before, single e.0 b e.2)) (λ there. absurd (omega (arith, there.1, less_before))) (at_append v.own.answered grown.more n a (subst (λ l. At l n a) answered here))

  later : (p b n : ℕ) (a : Answered) → At (bounds ++ bound ∷ []) p b → At x.own.answered n a → answered_before (phases ++ calls ∷ []) (before_it ++ replies) p ≤ n → b ≤ before a
  later p b n a at here more = ⊎_elim old new (at_append bounds (bound ∷ []) p b at) where
    old : At bounds p b → b ≤ before a
    old e =
        let few = subst (λ k. p < k) h.phased.one_each (below_at bounds p b e) in
        let more_before : answered_before phases before_it p ≤ n = subst (λ k. k ≤ n) (same_before p (omega (arith, few))) more in
        ⊎_elim (λ there. h.phased.later p b n a e there more_before) (λ there. omega (arith, h.within p b e, front, (grown.placed there.0 a there.2).0)) (at_append v.own.answered grown.more n a (subst (λ l. At l n a) answered here))

    new : (q : ℕ) × (p ≡ length bounds + q) × At (bound ∷ []) q b → b ≤ before a
    new e =
        let q : e.0 ≡ 0 = omega (arith, below_at (bound ∷ []) e.0 b e.2) in
        let place : p ≡ length phases = omega (arith, e.1, q, h.phased.one_each) in
        let more_before : length v.own.answered ≤ n = subst (λ k. k ≤ n) (ap (answered_before (phases ++ calls ∷ []) (before_it ++ replies)) place ∙ same_before (length phases) (omega arith) ∙ all_before) more in
        ⊎_elim (λ there. absurd (omega (arith, below_at v.own.answered n a there, more_before))) (λ there. omega (arith, (grown.placed there.0 a there.2).0, met.behind, single e.0 b e.2)) (at_append v.own.answered grown.more n a (subst (λ l. At l n a) answered here))

module _ {steps : Call → ℕ → Answer → Book → Book → Type 0} {budget : ℕ} where
  counted_at : {phases : List (List Call)} {replies : List Reply} {bounds : List ℕ} {u v : View} → Phases steps budget phases replies bounds u v → u.own.answered ≡ [] → length v.own.answered ≡ length (answered_among (with_replies (calls_of_all phases) replies))
  counted_at {phases} {replies} {v = v} ps none = sym (length-map v.own.answered _) ∙ ap length ((phases_add ps).1 ∙ ap (λ l. answers_in l ++ answered_among (with_replies (calls_of_all phases) replies)) none)

  parted : {phases : List (List Call)} {replies : List Reply} {bounds : List ℕ} {u v : View} → Phases steps budget phases replies bounds u v → u.own.answered ≡ [] → Parted phases replies bounds v
  parted {v = v} Phases.none none = record {
    within = λ p bound at. absurd (omega (arith, below_at [] p bound at));
    lies = λ n a at. absurd (omega (arith, below_at v.own.answered n a at, ap length none));
    replies_long = refl;
    counted = ap length none;
    phased = record { one_each = refl; earlier = λ p bound n a at. absurd (omega (arith, below_at [] p bound at)); later = λ p bound n a at. absurd (omega (arith, below_at [] p bound at)) };
  }
  parted {u = u} (Phases.next {phases = phases} {calls = calls} {before = before_it} {replies = replies} {bounds = bounds} {v = v} {w = w} {x = x} {bound = bound} earlier met turns) none =
      let whole = Phases.next earlier met turns in
      parted_next phases calls before_it replies bounds bound v w x (parted earlier none) met (turns_grow turns) (phases_add whole).0 (counted_at whole none)

  -- so the calls of a caller lie by phases in the history
  pub book_is_phased : {setup : Setup} {first : Guard} {number : ℕ} {phases : List (List Call)} {replies : List Reply} {bounds : List ℕ} {book : Book} → IsCallersPlay steps budget setup first number phases replies bounds book → ArePhased phases replies bounds book
  book_is_phased {phases = phases} {replies = replies} {bounds = bounds} p = subst (λ (b : Book). ArePhased phases replies bounds b) p.book_is (parted p.played (ap (λ (b : Book). b.answered) p.fresh.own)).phased
