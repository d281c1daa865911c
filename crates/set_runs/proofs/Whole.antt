-- A run from its start to the closed table.
use Rattle.std.proofs.Common.{◌≡◌, ℕ, zero, suc, ◌+◌, ◌<◌, List, [], ◌∷◌, All, length, map, get_or, take, Some, slice_get, refl, sym, ap, ◌∙◌, subst, arith}
use Rattle.std.proofs.Math.Seq.{take-length}
use Rattle.std.proofs.Math.ListN.{get_or-map}
use Rattle.std.proofs.lemmas.List.{length-map}
use Rattle.std.proofs.lemmas.List.Elements.{All-get_or, All-map}
use Rattle.std.proofs.lemmas.Option.{slice_get_within, get_or_from_slice_get}
use Rattle.set_model.specs.declared.calls.Call.{Call}
use Rattle.set_model.specs.declared.calls.Reply.{Reply}
use Rattle.record_memory.specs.declared.books.Book.{Book}
use Rattle.record_memory.specs.declared.books.Guard.{Guard}
use Rattle.record_memory.specs.declared.books.Setup.{Setup}
use Rattle.record_memory.specs.declared.books.View.{View}
use Rattle.record_table.specs.Closing.{numbers_from}
use Rattle.record_table.specs.Made.{IsFresh}
use Rattle.workload_text.specs.Limits.{Plan, IsWorkload, phase_lines}
use Rattle.set_api.specs.declared.answer.Answer.{Answer}
use Rattle.set_api.specs.Callers.{AreFreshCallers}
use Rattle.set_api.specs.Turns.{Repeats, Turns, Phases}
use Rattle.set_runs.specs.declared.players.Player.{Player}
use Rattle.set_runs.specs.Playing.{phases_of, AtEach, IsAt, AreSeated}
use Rattle.set_runs.specs.Runs.{AreAtStart, IsCallersPlay}
use Rattle.set_runs.proofs.Progress.{by_recursion_at}

-- what stands at a place of a mapped list comes from what stands there
from_map : {X Y : Type 0} (f : X → Y) (xs : List X) (i : ℕ) (y : Y) → slice_get (map f xs) i ≡ Some y → (x : X) × (slice_get xs i ≡ Some x) × (f x ≡ y)
from_map f [] i y at = absurd (omega (arith, slice_get_within [] i y at))
from_map f (x ∷ xs) zero y at = (x, refl, get_or_from_slice_get (f x ∷ map f xs) 0 y y at)
from_map f (x ∷ xs) (suc i) y at = from_map f xs i y at

same_element : {X : Type 0} (xs : List X) (i : ℕ) (x y : X) → slice_get xs i ≡ Some x → slice_get xs i ≡ Some y → x ≡ y
same_element xs i x y a b = sym (get_or_from_slice_get xs i x x a) ∙ get_or_from_slice_get xs i y x b

pub map_twice : {X Y Z : Type 0} (f : Y → Z) (g : X → Y) (xs : List X) → map f (map g xs) ≡ map (λ x. f (g x)) xs
map_twice f g [] = refl
map_twice f g (x ∷ xs) = ap (λ l. f (g x) ∷ l) (map_twice f g xs)

-- numbers that are their places
pub numbers_by_place : {X : Type 0} (f : X → ℕ) (xs : List X) (from : ℕ) → ((i : ℕ) (d : X) → i < length xs → f (get_or xs i d) ≡ from + i) → map f xs ≡ numbers_from from (length xs)
numbers_by_place f [] from h = refl
numbers_by_place f (x ∷ xs) from h = ap (λ n. n ∷ map f xs) (omega (arith, h 0 x (omega arith))) ∙ ap (λ l. from ∷ l) (numbers_by_place f xs (from + 1) (λ i d there. omega (arith, h (suc i) d (omega (arith, there)))))

module _ {steps : Call → ℕ → Answer → Book → Book → Type 0} {budget : ℕ} where
  repeats_same : {call : Call} {u v : View} → Repeats steps budget call u v → v.own.caller ≡ u.own.caller
  repeats_same Repeats.none = refl
  repeats_same (Repeats.again hops before made) = made.same ∙ repeats_same before

  turns_same : {calls : List Call} {replies : List Reply} {u v : View} → Turns steps budget calls replies u v → v.own.caller ≡ u.own.caller
  turns_same Turns.none = refl
  turns_same (Turns.next before turn) = turn.last.same ∙ repeats_same turn.repeats ∙ turns_same before

  -- calls leave whose book it is
  pub phases_same : {phases : List (List Call)} {replies : List Reply} {bounds : List ℕ} {u v : View} → Phases steps budget phases replies bounds u v → v.own.caller ≡ u.own.caller
  phases_same Phases.none = refl
  phases_same (Phases.next before met turns) = turns_same turns ∙ ap (λ (w : View). w.own.caller) met.rest ∙ phases_same before

module _ {T C : Type 0} (has : T → C → Type 0) (set' : T) (view : C → View) (setup : Setup) (first : Guard) (lists : List (List (List Call))) (steps : Call → ℕ → Answer → Book → Book → Type 0) (budget : ℕ) where
  pub at_start : (players : List (Player C)) → AreAtStart has set' view setup first lists players → AtEach (λ i p. IsAt has set' lists 0 view steps budget [] i (view p.caller)) players players
  at_start players h = record {
    same_length = refl;
    each = λ i d there. record {
      has_it = h.has_each i d there;
      number_is = (h.seated i d there).number_is;
      played = subst (λ l. Phases steps budget [] l [] (view (get_or players i d).caller) (view (get_or players i d).caller)) (sym (h.seated i d there).none) Phases.none;
      counted = ap length (h.seated i d there).none;
      room = (h.seated i d there).room;
    };
  }

  module _ (count : ℕ) (bounds : List ℕ) (players left : List (Player C)) (start : AreAtStart has set' view setup first lists players) (at : AtEach (λ i p. IsAt has set' lists count view steps budget bounds i (view p.caller)) players left) where
    -- they are still callers of the set
    pub callers_stay : All (has set') (map (λ (p : Player C). p.caller) left)
    callers_stay = All-map (has set') (λ (p : Player C). p.caller) left
        (λ k d there. (at.each k d (subst (λ n. k < n) at.same_length there)).has_it)

    -- in order of number
    pub in_order : map (λ c. (view c).own.caller) (map (λ (p : Player C). p.caller) left) ≡ numbers_from 0 setup.callers
    in_order = map_twice (λ c. (view c).own.caller) (λ (p : Player C). p.caller) left
        ∙ numbers_by_place (λ (p : Player C). (view p.caller).own.caller) left 0 (λ i d there. let within : i < length players = subst (λ n. i < n) at.same_length there in
        omega (arith, phases_same (at.each i d within).played, ap (λ (b : Book). b.caller) (start.fresh i d within).own))
        ∙ ap (numbers_from 0) (at.same_length ∙ start.all ∙ sym start.callers)

    -- each played what is its part of the run
    callers_play : ((i : ℕ) → i < length lists → length (phases_of lists i) ≡ count) → (i : ℕ) (p : Player C) → slice_get left i ≡ Some p → IsCallersPlay steps budget setup first i (phases_of lists i) p.replies.items bounds (view p.caller).own
    callers_play whole i p here =
        let within : i < length players = subst (λ n. i < n) at.same_length (slice_get_within left i p here) in
        let there = at.each i p within in
        let of : i < length lists = subst (λ n. i < n) start.all within in
        let all : take count (phases_of lists i) ≡ phases_of lists i = ap (λ n. take n (phases_of lists i)) (sym (whole i of)) ∙ take-length (phases_of lists i) in
        let is : get_or left i p ≡ p = get_or_from_slice_get left i p p here in
        record {
          start = view (get_or players i p).caller;
          left = view p.caller;
          fresh = start.fresh i p within;
          played = subst (λ (q : Player C). Phases steps budget (phases_of lists i) q.replies.items bounds (view (get_or players i p).caller) (view q.caller)) is
              (subst (λ ps. Phases steps budget ps (get_or left i p).replies.items bounds (view (get_or players i p).caller) (view (get_or left i p).caller)) all there.played);
          book_is = refl;
        }

    -- so the replies and the books of all are those of a run
    pub each_plays : ((i : ℕ) → i < length lists → length (phases_of lists i) ≡ count) → (i : ℕ) (own : List Reply) (book : Book)
        → slice_get (map (λ (p : Player C). p.replies.items) left) i ≡ Some own → slice_get (map (λ (p : Player C). (view p.caller).own) left) i ≡ Some book
        → IsCallersPlay steps budget setup first i (phases_of lists i) own bounds book
    each_plays whole i own book told kept =
        let p = from_map (λ (q : Player C). q.replies.items) left i own told in
        let q = from_map (λ (r : Player C). (view r.caller).own) left i book kept in
        let same : (view p.0.caller).own ≡ book = ap (λ (r : Player C). (view r.caller).own) (same_element left i p.0 q.0 p.1 q.1) ∙ q.2 in
        subst (λ rs. IsCallersPlay steps budget setup first i (phases_of lists i) rs bounds book) p.2
        (subst (λ b. IsCallersPlay steps budget setup first i (phases_of lists i) p.0.replies.items bounds b) same (callers_play whole i p.0 p.1))

-- each caller of a lawful workload has all phases
pub whole_phases : (plan : Plan) → IsWorkload plan → (i : ℕ) → i < length plan.lists → length (phases_of plan.lists i) ≡ phase_lines plan.lists + 1
whole_phases plan limits i within = by_recursion_at (λ (phases : List (List Call)). length phases ≡ phase_lines plan.lists + 1) plan.lists i [] limits.same_phases within

-- callers that took their seats are at the start
pub seated_start : {T C : Type 0} (has : T → C → Type 0) (set' : T) (view : C → View) (setup : Setup) (first : Guard) (lists : List (List (List Call))) (callers : List C) (players : List (Player C))
    → setup.callers ≡ length lists → AreFreshCallers (has set') view setup first callers → AreSeated lists callers players → AreAtStart has set' view setup first lists players
seated_start has set' view setup first lists callers players count h s =
    let same : length players ≡ length callers = sym (length-map players (λ p. p.caller)) ∙ ap length s.callers_are in
    let its : (i : ℕ) (d : Player _) → i < length players → get_or callers i d.caller ≡ (get_or players i d).caller = λ i d there. ap (λ l. get_or l i d.caller) (sym s.callers_are) ∙ get_or-map (λ p. p.caller) players i d in
    record {
      all = same ∙ h.all ∙ count;
      callers = count;
      seated = s.each;
      has_each = λ i d there. subst (has set') (its i d there) (All-get_or (has set') callers i d.caller (subst (λ n. i < n) same there) h.has_each);
      fresh = λ i d there. subst (λ c. IsFresh setup first i (view c)) (its i d there) (h.fresh i d.caller (subst (λ n. i < n) same there));
    }
