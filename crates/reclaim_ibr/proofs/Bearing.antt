-- The steps of a birth.
use Rattle.std.proofs.Common.{arith, ◌≡◌, ℕ, ◌<◌, ◌≤◌, List, [], ◌∷◌, ◌++◌, append_assoc, ap, ◌∙◌, refl}
use Rattle.record_memory.specs.declared.steps.Step.{Step}
use Rattle.record_memory.specs.declared.books.Setup.{Setup}
use Rattle.record_memory.specs.declared.books.Book.{Book}
use Rattle.record_memory.specs.declared.books.View.{View}
use Rattle.std.specs.Prelude.{count_by}
use Rattle.record_rule.specs.Kinds.{made_step, is_idle, idle}
use Rattle.guard_facts.specs.Announcing.{LAST_EPOCH, reading}
use Rattle.reclaim_api.specs.StepForms.{epoch_load, epoch_exchange}
use Rattle.reclaim_ibr.specs.Running.{one_try, no_try, Advances, AdvancesAtTimes, Bears}
use Rattle.reclaim_ibr.specs.Steps.{HasRead}

-- as many are idle where the same is known of each record
pub same_idle : (b c : Book) → c.mine ≡ b.mine → idle c ≡ idle b
unfolding idle
same_idle b c e = ap (count_by is_idle) e

-- the epoch was loaded, and tried
pub advanced_try : (v u w : View) (e n : ℕ) → HasRead v e u → e < LAST_EPOCH → w ≡ made_step u (epoch_exchange u.own e n) → (made : List Step) × Advances v.own made × (w.own.steps ≡ v.own.steps ++ made)
unfolding idle
advanced_try v u w e n read lt is = (
  epoch_load v.own e ∷ epoch_exchange v.own e n ∷ [],
  record { epoch = e; rise = read.rise; limit = read.limit; tried = epoch_exchange v.own e n ∷ []; tries = one_try lt n; steps = refl },
  ap (λ (x : View). x.own.steps) is ∙ ap (λ (x : View). x.own.steps ++ epoch_exchange x.own e n ∷ []) read.view ∙ append_assoc v.own.steps (epoch_load v.own e ∷ []) (epoch_exchange v.own e n ∷ []),
)

-- or it was the last one
pub advanced_last : (v u : View) (e : ℕ) → HasRead v e u → LAST_EPOCH ≤ e → (made : List Step) × Advances v.own made × (u.own.steps ≡ v.own.steps ++ made)
advanced_last v u e read le = (
  epoch_load v.own e ∷ [],
  record { epoch = e; rise = read.rise; limit = read.limit; tried = []; tries = no_try le; steps = refl },
  ap (λ (x : View). x.own.steps) read.view,
)

-- then it was loaded for the answer
pub bears_by : (k : Setup) (v u w : View) (made : List Step) (n : ℕ) → AdvancesAtTimes v.own made → u.own.steps ≡ v.own.steps ++ made → u.own.mine ≡ v.own.mine → reading v.own.guard 0 ≤ reading u.own.guard 0 → HasRead u n w → Bears k v.own n w.own
bears_by k v u w made n times steps mine rise read = record {
  read = record { rise = let a = read.rise in omega arith; limit = read.limit; read = ap (λ (x : View). reading x.own.guard 0) read.view };
  made = made;
  advances = times;
  steps = ap (λ (x : View). x.own.steps) read.view ∙ (λ j. steps j ++ record (epoch_load v.own n) { idle = same_idle v.own u.own mine j } ∷ []);
}
