-- What a pass notes over the steps of a call, and which reads it may place then.
use Rattle.std.proofs.Common.{◌≡◌, ℕ, ◌≤◌, List, length, length-append, take, Bool, None, sym, refl, ap, ◌∙◌, subst, arith}
use Rattle.std.proofs.lemmas.List.{take-append-le}
use Rattle.std.proofs.Math.Seq.{take-length}
use Rattle.set_model.specs.declared.calls.Call.{Call}
use Rattle.set_model.specs.declared.calls.Update.{Update}
use Rattle.record_memory.specs.declared.books.Setup.{Setup}
use Rattle.record_memory.specs.declared.books.View.{View}
use Rattle.row_words.specs.Refs.{RefParts, LinkParts}
use Rattle.record_rule.specs.Facts.{ShapeFacts, CoverFacts, Reach}
use Rattle.record_rule.specs.Machines.{replies_for}
use Rattle.record_rule.specs.World.{StartsWith}
use Rattle.record_rule.specs.Links.{Origin, LoadedKey, LoadedLink, ReachedLink, RefusedLink, ExchangedLink, UnlinkedRecord}
use Rattle.record_rule.specs.Placing.{SeesMore, MayPlace}
use Rattle.record_rule.proofs.Rebuilt.{starts_itself, starts_more, starts_then}

-- over no step and over two pieces
pub sees_itself : (v : View) → SeesMore v v
sees_itself v = record { updates = starts_itself v.seen_updates; taken_out = starts_itself v.seen_taken_out; front = refl; setup = refl }

pub sees_then : (u v w : View) → SeesMore u v → SeesMore v w → SeesMore u w
sees_then u v w a b = record {
  updates = starts_then u.seen_updates v.seen_updates w.seen_updates a.updates b.updates;
  taken_out = starts_then u.seen_taken_out v.seen_taken_out w.seen_taken_out a.taken_out b.taken_out;
  front = b.front ∙ a.front;
  setup = b.setup ∙ a.setup;
}

-- over a step that left these
sees_left : (v w x : View) → w ≡ x → SeesMore v x → SeesMore v w
sees_left v w x e h = subst (SeesMore v) (sym e) h

-- over each step on a node that decides nothing
pub sees_key : (v w : View) (p n : ℕ) (r : RefParts) → LoadedKey v p r n w → SeesMore v w
sees_key v w p n r told = sees_left v w _ told.view record { updates = starts_itself v.seen_updates; taken_out = starts_itself v.seen_taken_out; front = refl; setup = refl }

pub sees_refused : (v w : View) (o : Origin) (f n : ℕ) → RefusedLink v o f n w → SeesMore v w
sees_refused v w o f n told = sees_left v w _ told.view record { updates = starts_itself v.seen_updates; taken_out = starts_itself v.seen_taken_out; front = refl; setup = refl }

module _ (s : ShapeFacts) (c : CoverFacts) (v w : View) (o : Origin) (f n : ℕ) where
  pub sees_link : {first : Bool} → LoadedLink s c v o f first n w → SeesMore v w
  sees_link told = record { updates = told.whole.seen_updates; taken_out = told.whole.seen_taken_out; front = ap (λ (x : View). x.front) told.view; setup = ap (λ (x : View). x.setup) told.view }

  pub sees_reach : {q : Reach} → ReachedLink s c v o f q n w → SeesMore v w
  sees_reach told = record { updates = told.whole.seen_updates; taken_out = told.whole.seen_taken_out; front = ap (λ (x : View). x.front) told.view; setup = ap (λ (x : View). x.setup) told.view }

  -- which notes no less than the front
  pub link_from_front : {first : Bool} → LoadedLink s c v o f first n w → StartsWith w.seen_updates w.front
  link_from_front told = subst (StartsWith w.seen_updates) (sym (ap (λ (x : View). x.front) told.view)) told.whole.front

  pub reach_from_front : {q : Reach} → ReachedLink s c v o f q n w → StartsWith w.seen_updates w.front
  reach_from_front told = subst (StartsWith w.seen_updates) (sym (ap (λ (x : View). x.front) told.view)) told.whole.front

module _ (s : ShapeFacts) (v w : View) (o : Origin) (f : ℕ) where
  pub sees_exchange : (old new : LinkParts) → ExchangedLink s v o f old new None w → SeesMore v w
  sees_exchange old new told = sees_left v w _ told.view record { updates = told.whole.seen_updates; taken_out = told.whole.seen_taken_out; front = refl; setup = refl }

  pub sees_unlink : (gone : RefParts) (new : LinkParts) → UnlinkedRecord s v o f gone new w → SeesMore v w
  sees_unlink gone new told = sees_left v w _ told.view
      record { updates = told.whole.seen_updates; taken_out = starts_then v.seen_taken_out told.taken_out _ told.whole.seen_taken_out (starts_more told.taken_out _); front = refl; setup = refl }

-- A read may be placed behind the first p updates once the machine replies so there, by what the pass knew at v, from its front on and up to what it had noted
pub may_place : (s : ShapeFacts) (v w : View) (p : ℕ) (call : Call) (reply : Bool) → SeesMore v w → length v.front ≤ p → p ≤ length v.seen_updates → replies_for v.setup.set (take p v.seen_updates) call reply → (s.helped → w.own.offer ≡ None) → MayPlace s w p call reply
may_place s v w p call reply h low high replies free = record {
  behind = let e = ap length h.front in omega arith;
  within = let e = ap length h.updates.1 in let l = length-append v.seen_updates h.updates.0 in omega arith;
  replies = subst (λ (z : Setup × List Update). replies_for z.0.set z.1 call reply) (λ k. (sym h.setup k, (sym (take-append-le p v.seen_updates h.updates.0 high) ∙ ap (take p) (sym h.updates.1)) k)) replies;
  unoffered = free;
}

-- so behind all that a step of this call noted, of which what it showed is so
pub may_place_noted : (s : ShapeFacts) (v w : View) (call : Call) (reply : Bool) → SeesMore v w → StartsWith v.seen_updates v.front → replies_for v.setup.set v.seen_updates call reply → (s.helped → w.own.offer ≡ None) → MayPlace s w (length v.seen_updates) call reply
may_place_noted s v w call reply h from replies free = may_place s v w (length v.seen_updates) call reply h (let e = ap length from.1 in let l = length-append v.front from.0 in omega arith) (omega arith)
    (subst (λ (l : List Update). replies_for v.setup.set l call reply) (sym (take-length v.seen_updates)) replies) free
