-- A store in an own announcement word: of the upper end, and of the lower one by which a guard begins or ends.
use Rattle.std.proofs.Common.{◌≡◌, ◌+◌, ◌≤◌, ℕ, cond, Bool, true, false, length, ap, ◌∙◌, arith}
use Rattle.std.proofs.lemmas.Bool.{ne_eqb}
use Rattle.record_memory.specs.declared.books.View.{View}
use Rattle.record_rule.specs.ControlSteps.{StoredWord, seeing_if}
use Rattle.record_rule.specs.Links.{with_step, roots_kept}
use Rattle.guard_facts.specs.Announcing.{entered, left}
use Rattle.ibr_facts.specs.Keeping.{ibr}
use Rattle.reclaim_api.specs.StepForms.{word_store}
use Rattle.reclaim_ibr.specs.Steps.{upper_stored, lower_cleared, HasBegun}

pub upper_is_stored : (v w : View) (e found : ℕ) → StoredWord ibr v 1 e found w → w ≡ upper_stored v e found
upper_is_stored v w e found told = told.view

pub lower_is_cleared : (v w : View) (found : ℕ) → StoredWord ibr v 0 0 found w → w ≡ lower_cleared v found
lower_is_cleared v w found told = told.view

-- the lower end is an epoch, so the guard begins with its store
pub guard_begins : (v w : View) (e found : ℕ) → 1 ≤ e → StoredWord ibr v 0 e found w → HasBegun v e w
guard_begins v w e found some told = record {
  lower = found;
  moment = told.moment;
  steps = ap (λ (x : View). x.own.steps) view_is;
  guard = ap (λ (x : View). x.own.guard) view_is;
  setup = ap (λ (x : View). x.setup) view_is;
  caller = ap (λ (x : View). x.own.caller) view_is;
  rest = record {
    mine = ap (λ (x : View). x.own.mine) view_is;
    moves = ap (λ (x : View). x.own.moves) view_is;
    answered = ap (λ (x : View). x.own.answered) view_is;
    locks = ap (λ (x : View). x.own.locks) view_is;
    front = ap (λ (x : View). x.front) view_is;
  };
}
  where
    -- what is known then, by whether the value is 0
    after : Bool → View
    after b = seeing_if (cond b false true) v told.updates told.taken_out (record (with_step v.own v.setup.records (word_store v.own 0 e found)) {
      guard = cond b (left v.own.guard 0 e) (entered told.moment v.own.guard (length v.own.steps + 1) 0 e);
      root_notes = roots_kept (cond b false true) v.own.root_notes;
    })

    view_is : w ≡ after false
    view_is = told.view ∙ ap after (ne_eqb e 0 (λ none. omega arith))
