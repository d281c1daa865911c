-- Entering: the epoch was loaded, and stored as the upper end and then as the lower end.
use Rattle.std.proofs.Common.{◌≡◌, ◌+◌, ◌-◌, ℕ, List, [], ◌∷◌, ◌++◌, append_assoc, length, length-append, length-set, set, get_or, get_or-set_same, get_or-set_other, count_by, false, true, Option, None, ap, ◌∙◌, arith}
use Rattle.record_memory.specs.declared.steps.Step.{Step}
use Rattle.record_memory.specs.declared.books.Guard.{Guard}
use Rattle.record_memory.specs.declared.books.Moves.{Moves}
use Rattle.record_memory.specs.declared.books.Setup.{Setup}
use Rattle.record_memory.specs.declared.books.Share.{Share}
use Rattle.record_memory.specs.declared.books.View.{View}
use Rattle.record_memory.specs.declared.books.Standing.TheVariants.{Free}
use Rattle.row_words.specs.declared.links.Chain.{Chain}
use Rattle.row_words.specs.declared.links.Freed.{Freed}
use Rattle.record_rule.specs.Kinds.{idle}
use Rattle.record_rule.specs.Standings.{is_limbo, is_spent}
use Rattle.guard_facts.specs.Announcing.{word_of, reading, entered}
use Rattle.reclaim_api.specs.Chained.{IsChainOf}
use Rattle.reclaim_api.specs.Frames.{in_rest, is_as, FreesInto, LeavesRest, LeavesRecords}
use Rattle.reclaim_api.specs.StepForms.{epoch_load, word_store}
use Rattle.reclaim_api.proofs.Kept.{chain_stays}
use Rattle.reclaim_ibr.specs.declared.interval.Interval.{Interval}
use Rattle.reclaim_ibr.specs.LocalParts.{IsLocal}
use Rattle.reclaim_ibr.specs.LocalStays.{local_on}
use Rattle.reclaim_ibr.specs.Running.{Enters}
use Rattle.reclaim_ibr.specs.Steps.{epoch_read, HasRead, upper_stored, HasBegun}
use Rattle.reclaim_ibr.proofs.Bearing.{same_idle}

-- Where the same is known of each record, nothing left limbo
pub records_free : (v w : View) (free : Chain) → w.setup ≡ v.setup → LeavesRecords v w → IsChainOf Free v free → IsChainOf Free w free
records_free v w free setup r h = chain_stays Free v w (ap (λ (k : Setup). k.records) setup) (λ i x known is. ap (λ (l : List (Option Share)). get_or l (i - 1) None) r.mine ∙ known) free h

pub records_rest : (v w : View) → LeavesRecords v w → LeavesRest v w
records_rest v w r = record {
  rest = λ i. ap (λ (l : List (Option Share)). in_rest (get_or l (i - 1) None)) r.mine;
  moves = ap (λ (m : Moves). record m { freed = v.own.moves.freed }) r.moves;
  answered = r.answered;
  locks = r.locks;
  front = r.front;
}

pub records_frees : (v w : View) (free : Chain) (f : Freed) → LeavesRecords v w → f.freed ≡ 0 → f.spent ≡ 0 → FreesInto v free f w free
records_frees v w free f r freed spent = record {
  idle = let a = same_idle v.own w.own r.mine in omega arith;
  count = omega arith;
  freed = let a = ap (λ (m : Moves). m.freed) r.moves in omega arith;
  spent = let a = ap (count_by (is_as is_spent)) r.mine in omega arith;
  limbo = λ left. let a = ap (count_by (is_as is_limbo)) r.mine in let b = ap (λ (m : Moves). m.freed) r.moves in let c = ap (λ (m : Moves). m.retired) r.moves in omega arith;
}

-- `v` as it entered, `u` once the epoch was loaded, `x` once the upper end was stored, and `w` once the lower end was
module _ (v u x w : View) (e upper : ℕ) (read : HasRead v e u) (raised : x ≡ upper_stored u e upper) (begun : HasBegun x e w) where
  abbrev then : View
  then = upper_stored (epoch_read v e read.taken_out) e upper

  then_is : x ≡ then
  then_is = raised ∙ ap (λ (y : View). upper_stored y e upper) read.view

  guard_is : w.own.guard ≡ entered begun.moment then.own.guard (length x.own.steps + 1) 0 e
  guard_is = begun.guard ∙ ap (λ (y : View). entered begun.moment y.own.guard (length x.own.steps + 1) 0 e) then_is

  pub entered_rest : LeavesRecords v w
  entered_rest = let r = begun.rest in record {
    mine = r.mine ∙ ap (λ (y : View). y.own.mine) then_is;
    moves = r.moves ∙ ap (λ (y : View). y.own.moves) then_is;
    answered = r.answered ∙ ap (λ (y : View). y.own.answered) then_is;
    locks = r.locks ∙ ap (λ (y : View). y.own.locks) then_is;
    front = r.front ∙ ap (λ (y : View). y.front) then_is;
  }

  pub entered_setup : w.setup ≡ v.setup
  entered_setup = begun.setup ∙ ap (λ (y : View). y.setup) then_is

  module _ (four : length v.own.guard.announced ≡ 4) where
    lower_is : word_of w.own.guard 0 ≡ e
    lower_is = ap (λ (g : Guard). word_of g 0) guard_is ∙ get_or-set_same (set v.own.guard.announced 1 e) 0 e 0 (let d = length-set v.own.guard.announced 1 e in omega arith)

    upper_is : word_of w.own.guard 1 ≡ e
    upper_is = ap (λ (g : Guard). word_of g 1) guard_is ∙ get_or-set_other (set v.own.guard.announced 1 e) 0 1 e 0 (λ q. omega arith) ∙ get_or-set_same v.own.guard.announced 1 e 0 (omega arith)

    pub entered_steps : (k : Setup) (f : Freed) → f.freed ≡ 0 → f.spent ≡ 0 → Enters k v.own f w.own
    unfolding idle
    entered_steps k f freed spent = record {
      none = (freed, spent);
      epoch = e;
      read = record { rise = read.rise; limit = read.limit; read = ap (λ (g : Guard). reading g 0) guard_is };
      ends = (lower_is, upper_is);
      upper = upper;
      lower = begun.lower;
      steps = begun.steps ∙ ap (λ (y : View). y.own.steps ++ word_store y.own 0 e begun.lower ∷ []) then_is ∙ three v.own.steps (epoch_load v.own e ∷ []) (word_store v.own 1 e upper ∷ []) (word_store v.own 0 e begun.lower ∷ []);
    }
      where
        three : (a b c d : List Step) → ((a ++ b) ++ c) ++ d ≡ a ++ (b ++ (c ++ d))
        three a b c d = simp append_assoc

  -- the caller has an interval, and its guard began with the last of these steps
  pub entered_local : (l : Interval) (s : View) → IsLocal l false s v → IsLocal (record l { upper = e }) true v w
  entered_local l s h = local_on l e false true s v v w entered_setup (begun.caller ∙ ap (λ (y : View). y.own.caller) then_is) entered_rest.mine entered_rest.moves record {
    words = ap (λ (g : Guard). length g.announced) guard_is ∙ length-set (set v.own.guard.announced 1 e) 0 e ∙ length-set v.own.guard.announced 1 e ∙ h.words;
    calm = ap (λ (g : Guard). g.loaded) guard_is ∙ h.calm;
    settled = ap (λ (g : Guard). g.pending) guard_is;
    upper = upper_is h.words;
    first = let a = h.first in let b = read.rise in let c = ap (λ (g : Guard). reading g 0) guard_is in omega arith;
    limit = let a = read.limit in let c = ap (λ (g : Guard). reading g 0) guard_is in omega arith;
  } record {
    lower = let a = h.first in let b = read.rise in let c = lower_is h.words in λ q. omega arith;
    started = let a = ap (λ (g : Guard). g.start_step) guard_is in let b = ap (λ (y : View). length y.own.steps) then_is in
        let c = length-append (v.own.steps ++ epoch_load v.own e ∷ []) (word_store (epoch_read v e read.taken_out).own 1 e upper ∷ []) in let d = length-append v.own.steps (epoch_load v.own e ∷ []) in omega arith;
  } h
