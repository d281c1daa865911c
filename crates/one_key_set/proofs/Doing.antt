-- What calls of a guard did, as the events that a look and what comes of it are told by.
use Rattle.std.proofs.Common.{◌≡◌, ◌≢◌, ◌+◌, ◌<◌, ℕ, List, [], ◌∷◌, ◌++◌, Bool, true, false, IsTrue, Option, Some, None, subst, arith}
use Rattle.set_model.specs.declared.calls.Call.TheVariants.{Insert, Remove}
use Rattle.row_words.specs.Refs.{RefParts, LinkParts}
use Rattle.row_words.specs.Packing.{packed_ref}
use Rattle.record_rule.specs.Facts.{HasMark}
use Rattle.record_table.specs.declared.nodes.Held.{Held}
use Rattle.record_table.specs.declared.nodes.Node.TheVariants.{Root, At}
use Rattle.reclaim_api.specs.declared.scheme.Scheme.{Ghosts as OfScheme}
use Rattle.alloc_api.specs.declared.Allocator.{Ghosts as OfAllocator}
use Rattle.pool.specs.declared.Pool.{Ghosts as OfPool}
use Rattle.record_pieces.specs.Events.{Event, exchanged, published, unlinked, retired, stored_own}
use Rattle.manager.specs.declared.types.Guard.{Guard}
use Rattle.manager.specs.Guards.{Did, DidAll}
use Rattle.set_calls.proofs.Going.{did_one, did_then}
use Rattle.one_key_facts.specs.OneKey.{empty, empty_marked}
use Rattle.one_key_set.specs.Pieces.{links, marks, TakesOut, takes_out, is_late, Failures, more, Repeats, by_one, by_none}

-- what a test of the mark says
pub with_mark : (b : Bool) (link : LinkParts) → (IsTrue b → HasMark link) → b ≡ true → HasMark link
with_mark b link is e = is e

pub without_mark : (b : Bool) (link : LinkParts) → (HasMark link → IsTrue b) → b ≡ false → ¬ HasMark link
without_mark b link is e mark = let t = is mark in let none : ⊥ = cc in none

module _ {S R L A P : Type 0} {r : OfScheme R L} {a : OfAllocator A} {p : OfPool P} where
  -- a marked record was taken out and retired
  pub took_out : (f h i : Guard S R A P L r a p) (key : ℕ) (gone : Held) (new : LinkParts) (taken : RefParts) → new ≡ empty → taken ≡ gone.target → h.manager.now ≡ f.manager.now
      → Did f (unlinked (Root key) 3 gone.target new None) h → Did h (retired taken) i → (es : List Event) × TakesOut key gone es × DidAll f es i
  took_out f h i key gone new taken leads same manager first second =
      let e : Event = unlinked (Root key) 3 gone.target empty None in
      let out = subst (λ (l : LinkParts). Did f (unlinked (Root key) 3 gone.target l None) h) leads first in
      let away = subst (λ (t : RefParts). Did h (retired t) i) same second in
      (e ∷ retired gone.target ∷ [], takes_out, did_then f h i (e ∷ []) (retired gone.target ∷ []) manager (did_one f h e out) (did_one h i (retired gone.target) away))

  -- or the root led elsewhere
  pub was_late : (f h : Guard S R A P L r a p) (key : ℕ) (gone : Held) (new other : LinkParts) → new ≡ empty → Did f (unlinked (Root key) 3 gone.target new (Some other)) h → (es : List Event) × TakesOut key gone es × DidAll f es h
  was_late f h key gone new other leads did =
      let e : Event = unlinked (Root key) 3 gone.target empty (Some other) in
      (e ∷ [], is_late other, did_one f h e (subst (λ (l : LinkParts). Did f (unlinked (Root key) 3 gone.target l (Some other)) h) leads did))

  -- an own record was filled by two stores, and its exchange was made or refused; a and b are the record behind the stores
  pub three_did : (f h i j : Guard S R A P L r a p) (key number link : ℕ) (own a b : RefParts) (expected : LinkParts) (refusal : Option LinkParts) → number ≡ key → link ≡ packed_ref None → a ≡ own → b ≡ own → expected ≡ empty
      → h.manager.now ≡ f.manager.now → i.manager.now ≡ h.manager.now → Did f (stored_own own 4 number) h → Did h (stored_own a 3 link) i → Did i (published (Root key) 3 expected b (Some (Insert number)) refusal) j → DidAll f (links key own refusal) j
  three_did f h i j key number link own a b expected refusal is leads same again free first_table second_table first second third =
      let stores_key : Event = stored_own own 4 key in
      let stores_link : Event = stored_own own 3 (packed_ref None) in
      let exchange : Event = published (Root key) 3 empty own (Some (Insert key)) refusal in
      let did_first = subst (λ k. Did f (stored_own own 4 k) h) is first in
      let did_second = subst (λ (z : RefParts × ℕ). Did h (stored_own z.0 3 z.1) i) (λ k. (same k, leads k)) second in
      let did_third = subst (λ (z : LinkParts × RefParts × ℕ). Did i (published (Root key) 3 z.0 z.1 (Some (Insert z.2)) refusal) j) (λ k. (free k, again k, is k)) third in
      did_then f h j (stores_key ∷ []) (stores_link ∷ exchange ∷ []) first_table (did_one f h stores_key did_first)
      (did_then h i j (stores_link ∷ []) (exchange ∷ []) second_table (did_one h i stores_link did_second) (did_one i j exchange did_third))

  -- the exchange by which a record is marked was made or refused
  pub marking_did : (f h : Guard S R A P L r a p) (key number : ℕ) (at held : Held) (old new : LinkParts) (refusal : Option LinkParts) → number ≡ key → held ≡ at → old ≡ empty → new ≡ empty_marked
      → Did f (exchanged (At held) 3 old new (Some (Remove number)) refusal) h → DidAll f (marks key at refusal) h
  marking_did f h key number at held old new refusal is same clear marked did =
      did_one f h (exchanged (At at) 3 empty empty_marked (Some (Remove key)) refusal)
      (subst (λ (z : Held × LinkParts × LinkParts × ℕ). Did f (exchanged (At z.0) 3 z.1 z.2 (Some (Remove z.3)) refusal) h) (λ k. (same k, clear k, marked k, is k)) did)

  -- tries that failed, with one more behind them
  pub failed_again : (f h i : Guard S R A P L r a p) (Fails : List Event → Type 0) (made left rest tries : ℕ) (es fs : List Event) → rest + 1 ≡ left → h.manager.now ≡ f.manager.now → made + left ≡ tries → Failures Fails made es → DidAll f es h → Fails fs → DidAll h fs i
      → (made : ℕ) × (es : List Event) × (made + rest ≡ tries) × Failures Fails made es × DidAll f es i
  failed_again f h i Fails made left rest tries es fs one same sum failures did fails then =
      (made + 1, es ++ fs, omega arith, more failures fails, did_then f h i es fs same did then)

  -- or with the one that gave the answer
  pub answered_then : (f h i : Guard S R A P L r a p) {B : Type 0} (Tries : B → List Event → Type 0) (failed answer : B) (made left tries : ℕ) (es fs : List Event) → 0 < left → h.manager.now ≡ f.manager.now → made + left ≡ tries → Failures (Tries failed) made es → DidAll f es h
      → answer ≢ failed → Tries answer fs → DidAll h fs i → (es : List Event) × Repeats Tries failed tries answer es × DidAll f es i
  answered_then f h i Tries failed answer made left tries es fs some same sum failures did other tried then =
      (es ++ fs, by_one (omega arith) failures tried other, did_then f h i es fs same did then)

  -- or all that there may be
  pub failed_all : (f h : Guard S R A P L r a p) {B : Type 0} (Tries : B → List Event → Type 0) (failed : B) (made left tries : ℕ) (es : List Event) → left ≡ 0 → made + left ≡ tries → Failures (Tries failed) made es → DidAll f es h
      → (es : List Event) × Repeats Tries failed tries failed es × DidAll f es h
  failed_all f h Tries failed made left tries es none sum failures did =
      let all : made ≡ tries = omega arith in (es, by_none (subst (λ k. Failures (Tries failed) k es) all failures), did)
