-- What a try to hold leaves of the local part, and its steps.
use Rattle.std.proofs.Common.{◌≡◌, ℕ, ◌≤◌, List, [], ◌∷◌, ◌++◌, append_assoc, length, length-set, get_or-set_same, get_or-set_other, Bool, cond, Some, None, sym, refl, ap, ◌∙◌, subst, arith}
use Rattle.std.proofs.lemmas.Bool.{eq-eqb}
use Rattle.record_memory.specs.declared.steps.Step.{Step}
use Rattle.record_memory.specs.declared.books.View.{View}
use Rattle.record_memory.specs.declared.books.Guard.{Guard}
use Rattle.row_words.specs.Refs.{RefParts}
use Rattle.row_words.specs.Packing.{link_in}
use Rattle.record_rule.specs.Facts.{At, mark_bit, ShapeFacts, Reach}
use Rattle.record_rule.specs.Guards.{holding}
use Rattle.record_rule.specs.World.{StartsWith}
use Rattle.record_rule.specs.Kinds.{idle}
use Rattle.record_rule.specs.Links.{Origin, target_of, note_in, ReachedLink}
use Rattle.record_rule.proofs.Rebuilt.{starts_itself}
use Rattle.record_table.specs.declared.passes.Pass.{Pass}
use Rattle.record_table.specs.declared.nodes.Node.{Node}
use Rattle.record_table.specs.Handles.{view, since}
use Rattle.record_table.specs.Nodes.{origin, reach_at}
use Rattle.guard_facts.specs.Announcing.{word_of, reading}
use Rattle.ibr_facts.specs.Keeping.{ibr, ibr_reached}
use Rattle.reclaim_api.specs.Holds.{KeepsHeld}
use Rattle.reclaim_api.specs.LinkLoads.{link_load}
use Rattle.reclaim_api.specs.StepForms.{epoch_load, word_store}
use Rattle.reclaim_api.proofs.Keeping.{keeps_by}
use Rattle.reclaim_ibr.specs.declared.interval.Interval.{Interval}
use Rattle.reclaim_ibr.specs.LocalParts.{IsLocal}
use Rattle.reclaim_ibr.specs.LocalStays.{IsSettled, local_on, guarded_by}
use Rattle.reclaim_ibr.specs.Running.{IsRead}
use Rattle.reclaim_ibr.specs.Steps.{epoch_loaded, HasLoadedEpoch, upper_stored}
use Rattle.reclaim_ibr.proofs.Holding.{reached_is, rest_is, guard_is}

-- a store of the upper end leaves what is held
pub keeps_raise : {S R : Type 0} (q x : Pass S R) → since x ≡ since q → (e found : ℕ) → view x ≡ upper_stored (view q) e found → KeepsHeld q x
keeps_raise q x same e found is = keeps_by q x same (λ place. Unit {0}) (λ place f. Unit {0}) (ap (λ (v : View). v.setup) is)
    (λ h. record {
      step = ap (λ (v : View). v.own.guard.start_step) is;
      updates = ap (λ (v : View). v.own.guard.start_updates) is;
      holds = λ place r here at. subst (λ (v : View). At v.own.guard.holds place (Some r)) (sym is) at;
    })
    (λ place f n here at. subst (λ (v : View). At (note_in v.own.notes place).words f (Some n)) (sym is) at)
    (λ place here. ap (λ (v : View). length (note_in v.own.notes place).words) is)
    (λ place here. ap (λ (v : View). (note_in v.own.notes place).reached_at) is)
    (subst (λ (v : View). StartsWith v.seen_updates (view q).seen_updates) (sym is) (starts_itself (view q).seen_updates))

-- `p` before the load of the link, and `then` after it
module _ (s : ShapeFacts) {S R : Type 0} (p then : Pass S R) (o : Origin) (place n : ℕ) (told : ReachedLink s ibr (view p) o 3 (reach_at p place) n (view then)) (same : since then ≡ since p) where
  -- nothing was there to hold
  pub local_stopped : (l : Interval) (i : Bool) (t : View) → target_of (link_in n) ≡ None → IsLocal l i t (view p) → IsLocal l i t (view then)
  local_stopped l i t none h = local_on l l.upper i i t t (view p) (view then) (ap (λ (v : View). v.setup) told.view) (ap (λ (v : View). v.own.caller) told.view) (ap (λ (v : View). v.own.mine) told.view) (ap (λ (v : View). v.own.moves) told.view)
      (subst (λ (g : Guard). IsSettled g l.upper) (sym (reached_is s p then o place n told same ∙ ap (ibr_reached (view p).own.guard place) none)) record { words = h.words; calm = h.calm; settled = refl; upper = h.upper; first = h.first; limit = h.limit })
      (guarded_by i t (view p) (view then) (ap (λ (v : View). word_of v.own.guard 0) told.view) (ap (λ (v : View). v.own.guard.start_step) told.view) h.guarded) h

  -- the link leads to a record, and the epoch is loaded: `q` after that
  module _ (q : Pass S R) (e : ℕ) (h : HasLoadedEpoch (view then) e (view q)) (goes_on : since q ≡ since then) (target : RefParts) (clear : mark_bit (link_in n) ≡ 0) (to : (link_in n).target ≡ Some target) where
    -- the guard but for what is held and waits
    abbrev read : Guard
    read = record (view p).own.guard { holds = (view q).own.guard.holds; pending = (view q).own.guard.pending; readings = e ∷ []; reading_taken_out = h.taken_out }

    read_is : (view q).own.guard ≡ read
    read_is = rest_is s p then o place n told same q e h goes_on target clear to

    -- it is still the upper end, so that nothing waits
    confirmed : e ≡ word_of (view p).own.guard 1 → (view q).own.guard.pending ≡ None
    confirmed found = ap (λ (g : Guard). g.pending) (guard_is s p then o place n told same q e h goes_on target clear to)
        ∙ ap (λ (b : Bool). (cond b (holding (ibr_reached (view p).own.guard place (Some target)) place (Some target)) (ibr_reached (view p).own.guard place (Some target))).pending) (eq-eqb e (word_of (view p).own.guard 1) found)

    -- the epoch is no less than the last reading
    least : reading (view p).own.guard 0 ≤ e
    least = let a = h.rise in let b = ap (λ (v : View). reading v.own.guard 0) told.view in omega arith

    reads : reading (view q).own.guard 0 ≡ e
    reads = ap (λ (g : Guard). reading g 0) read_is

    pub is_read : IsRead (view p).own e (view q).own
    is_read = record { rise = least; limit = h.limit; read = reads }

    pub upper_raised : (x : View) (found : ℕ) → x ≡ upper_stored (view q) e found → length (view p).own.guard.announced ≡ 4 → word_of x.own.guard 1 ≡ e
    upper_raised x found is four = let words : length (view q).own.guard.announced ≡ 4 = ap (λ (g : Guard). length g.announced) read_is ∙ four in ap (λ (y : View). word_of y.own.guard 1) is ∙ get_or-set_same (view q).own.guard.announced 1 e 0 (omega arith)

    pub local_held : (l : Interval) (i : Bool) (t : View) → e ≡ word_of (view p).own.guard 1 → IsLocal l i t (view p) → IsLocal l i t (view q)
    local_held l i t found k = local_on l l.upper i i t t (view p) (view q) (ap (λ (v : View). v.setup) h.view ∙ ap (λ (v : View). v.setup) told.view) (ap (λ (v : View). v.own.caller) h.view ∙ ap (λ (v : View). v.own.caller) told.view)
        (ap (λ (v : View). v.own.mine) h.view ∙ ap (λ (v : View). v.own.mine) told.view) (ap (λ (v : View). v.own.moves) h.view ∙ ap (λ (v : View). v.own.moves) told.view) record {
          words = ap (λ (g : Guard). length g.announced) read_is ∙ k.words;
          calm = ap (λ (g : Guard). g.loaded) read_is ∙ k.calm;
          settled = confirmed found;
          upper = ap (λ (g : Guard). word_of g 1) read_is ∙ k.upper;
          first = let a = k.first in let b = least in let c = reads in omega arith;
          limit = let a = h.limit in let c = reads in omega arith;
        } (guarded_by i t (view p) (view q) (ap (λ (g : Guard). word_of g 0) read_is) (ap (λ (g : Guard). g.start_step) read_is) k.guarded) k

    -- or another one, which is stored as the upper end
    pub local_raised : (l : Interval) (i : Bool) (t x : View) (found : ℕ) → x ≡ upper_stored (view q) e found → IsLocal l i t (view p) → IsLocal (record l { upper = e }) i t x
    local_raised l i t x found is k = let words : length (view q).own.guard.announced ≡ 4 = ap (λ (g : Guard). length g.announced) read_is ∙ k.words in let u : View = upper_stored (view q) e found in subst (IsLocal (record l { upper = e }) i t) (sym is)
        (local_on l e i i t t (view p) u (ap (λ (v : View). v.setup) h.view ∙ ap (λ (v : View). v.setup) told.view) (ap (λ (v : View). v.own.caller) h.view ∙ ap (λ (v : View). v.own.caller) told.view)
        (ap (λ (v : View). v.own.mine) h.view ∙ ap (λ (v : View). v.own.mine) told.view) (ap (λ (v : View). v.own.moves) h.view ∙ ap (λ (v : View). v.own.moves) told.view) record {
          words = length-set (view q).own.guard.announced 1 e ∙ words;
          calm = ap (λ (g : Guard). g.loaded) read_is ∙ k.calm;
          settled = refl;
          upper = get_or-set_same (view q).own.guard.announced 1 e 0 (omega arith);
          first = let a = k.first in let b = least in let c = reads in omega arith;
          limit = let a = h.limit in let c = reads in omega arith;
        } (guarded_by i t (view p) u (get_or-set_other (view q).own.guard.announced 1 0 e 0 (λ z. omega arith) ∙ ap (λ (g : Guard). word_of g 0) read_is) (ap (λ (g : Guard). g.start_step) read_is) k.guarded) k)

-- The steps: the link, the epoch, and the upper end where that isn't the epoch
module _ (s : ShapeFacts) (v then u : View) (from : Node) (r : Reach) (n : ℕ) (told : ReachedLink s ibr v (origin from) 3 r n then) (e : ℕ) (h : HasLoadedEpoch then e u) where
  pub held_steps : u.own.steps ≡ v.own.steps ++ link_load v.own from 3 n ∷ epoch_load v.own e ∷ []
  unfolding idle
  held_steps = ap (λ (y : View). y.own.steps) h.view ∙ ap (λ (y : View). y.own.steps ++ epoch_load y.own e ∷ []) told.view ∙ append_assoc v.own.steps (link_load v.own from 3 n ∷ []) (epoch_load v.own e ∷ [])

  pub raised_steps : (w : View) (found : ℕ) → w ≡ upper_stored u e found → w.own.steps ≡ v.own.steps ++ link_load v.own from 3 n ∷ epoch_load v.own e ∷ word_store v.own 1 e found ∷ []
  unfolding idle
  raised_steps w found is = ap (λ (y : View). y.own.steps) is ∙ ap (λ (y : View). y.own.steps ++ word_store y.own 1 e found ∷ []) (h.view ∙ ap (λ (y : View). epoch_loaded y e h.taken_out) told.view)
      ∙ three v.own.steps (link_load v.own from 3 n ∷ []) (epoch_load v.own e ∷ []) (word_store v.own 1 e found ∷ [])
    where
      three : (a b c d : List Step) → ((a ++ b) ++ c) ++ d ≡ a ++ (b ++ (c ++ d))
      three a b c d = simp append_assoc
