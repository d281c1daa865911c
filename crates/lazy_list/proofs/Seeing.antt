-- What was seen of the updates, by an earlier place of them: it stands when more is seen.
use Rattle.std.proofs.Common.{◌≡◌, ℕ, ◌+◌, ◌-◌, ◌≤◌, List, ◌++◌, length, take, drop, take-append-drop, false, sym, ap, ◌∙◌, subst, arith}
use Rattle.std.proofs.lemmas.List.{length-take-le}
use Rattle.std.proofs.Math.Seq.{take-append-add}
use Rattle.atomic_table.proofs.Lists.{at_longer}
use Rattle.set_model.specs.declared.calls.Update.{Update}
use Rattle.set_model.specs.Keys.{contains}
use Rattle.set_model.specs.Histories.{keys_of}
use Rattle.record_rule.specs.Facts.{At as Stands}
use Rattle.record_rule.specs.World.{StartsWith}
use Rattle.record_rule.proofs.Rebuilt.{starts_then}
use Rattle.record_table.specs.declared.passes.Pass.{Pass}
use Rattle.record_table.specs.Handles.{view}
use Rattle.record_table.specs.Nodes.{HasStarted}
use Rattle.set_calls.specs.Knowing.{IsOfKeys, HasSeenKey}
use Rattle.lazy_list.specs.Places.{IsRemovalAt}

-- a removal stands where more updates are seen
pub removal_stays : (more fewer : List Update) (m key : ℕ) → StartsWith more fewer → IsRemovalAt fewer m key → IsRemovalAt more m key
removal_stays more fewer m key starts h = (h.0, (h.1.0, subst (λ (l : List Update). Stands l (m - 1) h.1.0) (sym starts.1) (at_longer fewer starts.0 (m - 1) h.1.0 h.1.1), h.1.2, h.1.3))

-- the first of what was seen
starts_early : (whole : List Update) (n : ℕ) → StartsWith whole (take n whole)
starts_early whole n = (drop n whole, sym (take-append-drop n whole))

-- which start with what is no longer
starts_short : (whole front : List Update) (n : ℕ) → StartsWith whole front → length front ≤ n → StartsWith (take n whole) front
starts_short whole front n starts short = (
  take (n - length front) starts.0,
  ap (take n) starts.1 ∙ ap (λ k. take k (front ++ starts.0)) (let z : n ≡ length front + (n - length front) = omega arith in z) ∙ take-append-add front starts.0 (n - length front),
)

-- a key was absent behind so many of these updates, no fewer than the front and than at the guard's start
pub absent_then : {S R : Type 0} (q : Pass S R) (key n : ℕ) (updates : List Update) → IsOfKeys (view q).setup.set → StartsWith (view q).seen_updates updates → StartsWith updates (view q).front → HasStarted q
    → n ≤ length updates → length (view q).front ≤ n → (view q).own.guard.start_updates ≤ n → contains (keys_of (take n updates)) key ≡ false → HasSeenKey q key false n
absent_then q key n updates keys seen front started within before since answer = record {
  of_keys = keys;
  updates = take n updates;
  many = length-take-le n updates within;
  seen = starts_then (take n updates) updates (view q).seen_updates (starts_early updates n) seen;
  front = starts_short updates (view q).front n front before;
  started = started;
  since_start = let e = length-take-le n updates within in omega arith;
  answer = answer;
}
