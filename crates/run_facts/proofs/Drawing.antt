-- A caller draws no more records than it makes insertions, and fewer where one of them is answered `Full`.
use Rattle.std.proofs.Common.{◌≡◌, ℕ, ◌+◌, ◌≤◌, ◌<◌, ⊎_elim, false, cond, List, [], ◌∷◌, ◌++◌, map, refl, sym, ap, ◌∙◌, subst, arith}
use Rattle.std.proofs.Math.Nat.{eq-zero-or-pos}
use Rattle.std.proofs.lemmas.List.{map-append}
use Rattle.std.proofs.lemmas.List.Sums.{sum_by-append, sum_by-cons}
use Rattle.atomic_table.proofs.Lists.{at_longer}
use Rattle.set_model.specs.declared.calls.Call.{Call}
use Rattle.set_model.specs.declared.calls.Call.TheVariants.{Insert, Remove, Search}
use Rattle.set_model.specs.declared.calls.Reply.{Reply}
use Rattle.set_model.specs.declared.calls.Reply.TheVariants.{Full}
use Rattle.set_model.specs.Machine.{is_insertion, insertions_in}
use Rattle.record_memory.specs.declared.books.Book.{Book}
use Rattle.record_memory.specs.declared.books.View.{View}
use Rattle.record_memory.specs.declared.steps.Step.{Step}
use Rattle.record_memory.specs.declared.steps.Word.TheVariants.{Drawn}
use Rattle.record_rule.specs.Facts.{At}
use Rattle.record_rule.specs.Standings.{is_spare}
use Rattle.reclaim_api.specs.Frames.{had, AddsSteps}
use Rattle.record_pieces.proofs.Stock.{adds_none, adds_both}
use Rattle.set_api.specs.declared.answer.Answer.{Answer}
use Rattle.set_api.specs.declared.answer.Answer.TheVariants as answer
use Rattle.set_api.specs.Drawing.{TakesSpareFirst}
use Rattle.set_api.specs.Turns.{Makes, Repeats, Turn}
use Rattle.run_facts.specs.Fullness.{Goes, WasFull}

-- the calls that were answered
abbrev pub answered_calls : List (Call × Reply) → List Call
answered_calls answers = map (λ (a : Call × Reply). a.0) answers

-- how many records a caller has drawn, and how many are spare
abbrev drawn : View → ℕ
drawn v = v.own.moves.drawn

abbrev spare : View → ℕ
spare v = had is_spare v.own

module _ {steps : Call → ℕ → Answer → Book → Book → Type 0} {budget records : ℕ} (thrifty : TakesSpareFirst steps records) where
  -- an insertion that was made again and again drew one record at most, and none unless it left one spare
  insertion_repeats : {key : ℕ} {u v : View} → Repeats steps budget (Insert key) u v → (drawn v ≤ drawn u + 1) × (spare v ≡ 0 → drawn v ≤ drawn u)
  insertion_repeats Repeats.none = (omega arith, λ none. omega arith)
  insertion_repeats {key} {u} (Repeats.again {v = v} {w = w} hops before made) =
      let h = insertion_repeats before in
      let back = thrifty.given_back key budget hops v.own w.own made.steps_are in
      ⊎_elim
      (λ none. let one = thrifty.one key budget (answer.Again hops) v.own w.own made.steps_are in
      let few = h.1 none in (omega (arith, one, few), λ left. omega (arith, back, few, left)))
      (λ some. let same = thrifty.spare_first key budget (answer.Again hops) v.own w.own made.steps_are some in
      (omega (arith, same, h.0), λ left. absurd (omega (arith, back, same, some, left))))
      (eq-zero-or-pos (spare v))

  other_repeats : {call : Call} {u v : View} → is_insertion call ≡ false → Repeats steps budget call u v → drawn v ≡ drawn u
  other_repeats other Repeats.none = refl
  other_repeats {call} other (Repeats.again {v = v} {w = w} hops before made) = (thrifty.others call budget (answer.Again hops) v.own w.own other made.steps_are).drawn ∙ other_repeats other before

  adds_one : (call : Call) (a : Answer) (v w : View) → Makes steps budget call a v w → AddsSteps v.own w.own
  adds_one call a v w made = thrifty.adds call budget a v.own w.own made.steps_are

  repeats_add : {call : Call} {u v : View} → Repeats steps budget call u v → AddsSteps u.own v.own
  repeats_add {u = u} Repeats.none = adds_none u.own
  repeats_add {call} {u} (Repeats.again {v = v} {w = w} hops before made) = adds_both u.own v.own w.own (repeats_add before) (adds_one call (answer.Again hops) v w made)

  -- so a call with all its repeats draws one record at most, where it is an insertion, and none where it isn't
  insertion_draws : {key : ℕ} {r : Reply} {u w : View} → Turn steps budget (Insert key) r u w → drawn w ≤ drawn u + 1
  insertion_draws {key} {r} {u} {w} turn =
      let h = insertion_repeats turn.repeats in
      ⊎_elim
      (λ none. omega (arith, thrifty.one key budget turn.answer turn.v.own w.own turn.last.steps_are, h.1 none))
      (λ some. omega (arith, thrifty.spare_first key budget turn.answer turn.v.own w.own turn.last.steps_are some, h.0))
      (eq-zero-or-pos (spare turn.v))

  other_draws : {call : Call} {r : Reply} {u w : View} → is_insertion call ≡ false → Turn steps budget call r u w → drawn w ≡ drawn u
  other_draws {call} {r} {u} {w} other turn = (thrifty.others call budget turn.answer turn.v.own w.own other turn.last.steps_are).drawn ∙ other_repeats other turn.repeats

  turn_draws : (call : Call) {r : Reply} {u w : View} → Turn steps budget call r u w → drawn w ≤ drawn u + insertions_in (call ∷ [])
  turn_draws (Insert key) turn = omega (arith, insertion_draws turn)
  turn_draws (Remove key) turn = omega (arith, other_draws {call = Remove key} refl turn)
  turn_draws (Search key) turn = omega (arith, other_draws {call = Search key} refl turn)

  turn_adds : {call : Call} {r : Reply} {u w : View} → Turn steps budget call r u w → AddsSteps u.own w.own
  turn_adds {call} {r} {u} {w} turn = adds_both u.own turn.v.own w.own (repeats_add turn.repeats) (adds_one call turn.answer turn.v w turn.last)

  -- and all calls of a caller together no more than there are insertions among them
  pub goes_draws : {answers : List (Call × Reply)} {u v : View} → Goes steps budget answers u v → drawn v ≤ drawn u + insertions_in (answered_calls answers)
  goes_draws Goes.none = omega arith
  goes_draws (Goes.turn {answers = answers} {u = u} {v = v} {w = w} {call = call} {r = r} before turn) =
      let calls : answered_calls (answers ++ (call, r) ∷ []) ≡ answered_calls answers ++ call ∷ [] = map-append (λ (a : Call × Reply). a.0) answers ((call, r) ∷ []) in
      let count : insertions_in (answered_calls (answers ++ (call, r) ∷ [])) ≡ insertions_in (answered_calls answers) + insertions_in (call ∷ []) =
      ap insertions_in calls ∙ sum_by-append (λ c. cond (is_insertion c) 1 0) (answered_calls answers) (call ∷ []) in
      omega (arith, goes_draws before, turn_draws call turn, count)
  goes_draws (Goes.meeting before met) = omega (arith, goes_draws before, ap (λ (x : View). x.own.moves.drawn) met.rest)

  goes_adds : {answers : List (Call × Reply)} {u v : View} → Goes steps budget answers u v → AddsSteps u.own v.own
  goes_adds {u = u} Goes.none = adds_none u.own
  goes_adds {u = u} (Goes.turn {v = v} {w = w} before turn) = adds_both u.own v.own w.own (goes_adds before) (turn_adds turn)
  goes_adds {u = u} (Goes.meeting {w = w} before met) = subst (λ b. AddsSteps u.own b) (sym (ap (λ (x : View). x.own) met.rest)) (goes_adds before)

  -- an insertion that is answered `Full` draws none, so there they drew fewer
  pub full_draws : {answers : List (Call × Reply)} {n : ℕ} {u v : View} → WasFull steps budget answers n u v → drawn v < drawn u + insertions_in (answered_calls answers)
  full_draws {answers} {n} {u} {v} f =
      let last = thrifty.full f.key budget f.finds_none.found f.finds_none.v.own f.behind.own f.finds_none.last.steps_are in
      let none = (insertion_repeats f.finds_none.repeats).1 last.spare in
      let calls : answered_calls answers ≡ answered_calls f.earlier ++ Insert f.key ∷ answered_calls f.later =
      ap answered_calls f.answers_are ∙ map-append (λ (a : Call × Reply). a.0) f.earlier ((Insert f.key, Full) ∷ f.later) in
      let count : insertions_in (answered_calls answers) ≡ insertions_in (answered_calls f.earlier) + insertions_in (Insert f.key ∷ answered_calls f.later) =
      ap insertions_in calls ∙ sum_by-append (λ c. cond (is_insertion c) 1 0) (answered_calls f.earlier) (Insert f.key ∷ answered_calls f.later) in
      let one = sum_by-cons (λ c. cond (is_insertion c) 1 0) (Insert f.key) (answered_calls f.later) in
      omega (arith, goes_draws f.goes_to, goes_draws f.goes_on, last.drawn, none, count, one)

  -- and one of the caller's steps found all records drawn
  pub full_found : {answers : List (Call × Reply)} {n : ℕ} {u v : View} → WasFull steps budget answers n u v → (p : ℕ) × (t : Step) × At v.own.steps p t × (t.word ≡ Drawn) × (records ≤ t.found)
  full_found {v = v} f =
      let last = thrifty.full f.key budget f.finds_none.found f.finds_none.v.own f.behind.own f.finds_none.last.steps_are in
      let more = goes_adds f.goes_on in
      (last.place, last.step, subst (λ l. At l last.place last.step) (sym more.1) (at_longer f.behind.own.steps more.0 last.place last.step last.made), last.word, last.found)
