-- The tallies of all callers of a closed table of sorted lists add up to the keys that its history leaves.
use Rattle.std.proofs.Common.{◌≡◌, ℕ, List, ◌++◌, map, take, sum_by, Bool, true, false, not, cond, refl, ap, ◌∙◌, subst, sym, arith}
use Rattle.std.proofs.lemmas.List.{append-nil}
use Rattle.set_model.specs.declared.calls.Call.{Call}
use Rattle.set_model.specs.declared.calls.Call.TheVariants.{Insert, Remove, Search}
use Rattle.set_model.specs.declared.calls.Reply.{Reply}
use Rattle.set_model.specs.declared.calls.Reply.TheVariants.{Yes, Full}
use Rattle.set_model.specs.declared.calls.Update.{Update}
use Rattle.set_model.specs.Keys.{empty}
use Rattle.set_model.specs.Machine.{key_of}
use Rattle.set_model.specs.Histories.{IsRead, IsBalanced}
use Rattle.set_model.proofs.HistoryLaws.{legal_is_balanced}
use Rattle.record_rule.specs.Facts.{ShapeFacts, CoverFacts}
use Rattle.record_rule.specs.Inputs.{answered_of, offer_of}
use Rattle.record_rule.specs.Histories.{HistoryFits}
use Rattle.record_table.specs.declared.closing.Closed.{Closed}
use Rattle.record_table.specs.Closing.{closed_setup, closed_books, history_of, IsClosedBy}
use Rattle.list_facts.specs.ClosedLists.{IsListSet}
use Rattle.key_sums.specs.declared.tallies.Tally.{Tally}
use Rattle.key_sums.specs.Tallies.{is_addition, is_removal, one_if, key_if, IsTallyOf}
use Rattle.key_sums.specs.Balances.{AreTalliesOf, AreBalanced}
use Rattle.key_sums.proofs.TallyBalance.{legal_from, of_keys, IsWeight, tallied, added_up}

-- a call that found no record left is of neither kind, and neither is one that changed nothing
added_full : (call : Call) → is_addition (call, Full) ≡ false
added_full (Insert key) = refl
added_full (Remove key) = refl
added_full (Search key) = refl

removed_full : (call : Call) → is_removal (call, Full) ≡ false
removed_full (Insert key) = refl
removed_full (Remove key) = refl
removed_full (Search key) = refl

added_reads : (call : Call) (reply : Reply) → IsRead call reply → is_addition (call, reply) ≡ false
added_reads (Insert key) reply is = ap (λ (r : Reply). is_addition (Insert key, r)) is
added_reads (Remove key) reply is = refl
added_reads (Search key) reply is = refl

removed_reads : (call : Call) (reply : Reply) → IsRead call reply → is_removal (call, reply) ≡ false
removed_reads (Insert key) reply is = refl
removed_reads (Remove key) reply is = ap (λ (r : Reply). is_removal (Remove key, r)) is
removed_reads (Search key) reply is = refl

-- what an update weighs, by whether it added its key
abbrev call_by : Bool → ℕ → Call
call_by added key = cond added (Insert key) (Remove key)

one_added : (added : Bool) (key : ℕ) → cond added 1 0 ≡ one_if (is_addition (call_by added key, Yes))
one_added true key = refl
one_added false key = refl

one_removed : (added : Bool) (key : ℕ) → cond (not added) 1 0 ≡ one_if (is_removal (call_by added key, Yes))
one_removed true key = refl
one_removed false key = refl

key_added : (added : Bool) (key : ℕ) → cond added key 0 ≡ key_if is_addition (call_by added key, Yes)
key_added true key = refl
key_added false key = refl

key_removed : (added : Bool) (key : ℕ) → cond added 0 key ≡ key_if is_removal (call_by added key, Yes)
key_removed true key = refl
key_removed false key = refl

additions : IsWeight (λ a. one_if (is_addition a)) (λ u. cond u.added 1 0)
additions = record { full = λ call. ap one_if (added_full call); reads = λ call reply is. ap one_if (added_reads call reply is); updates = λ u. one_added u.added u.key }

removals : IsWeight (λ a. one_if (is_removal a)) (λ u. cond (not u.added) 1 0)
removals = record { full = λ call. ap one_if (removed_full call); reads = λ call reply is. ap one_if (removed_reads call reply is); updates = λ u. one_removed u.added u.key }

added_keys : IsWeight (key_if is_addition) (λ u. cond u.added u.key 0)
added_keys = record { full = λ call. ap (λ b. cond b (key_of call) 0) (added_full call); reads = λ call reply is. ap (λ b. cond b (key_of call) 0) (added_reads call reply is); updates = λ u. key_added u.added u.key }

removed_keys : IsWeight (key_if is_removal) (λ u. cond u.added 0 u.key)
removed_keys = record { full = λ call. ap (λ b. cond b (key_of call) 0) (removed_full call); reads = λ call reply is. ap (λ b. cond b (key_of call) 0) (removed_reads call reply is); updates = λ u. key_removed u.added u.key }

module _ {s : ShapeFacts} {r : CoverFacts} (lists : IsListSet s) (c : Closed) (f : IsClosedBy s r c) where
  -- its history has all its updates
  all_updates : HistoryFits s (closed_setup c).set (history_of c) (map answered_of (closed_books c)) (map offer_of (closed_books c))
  all_updates = subst (λ updates. HistoryFits s (closed_setup c).set updates (map answered_of (closed_books c)) (map offer_of (closed_books c)))
      (ap (λ l. history_of c ++ l) (f.whole.unhelped lists.unhelped) ∙ append-nil (history_of c)) f.whole.fits

  balanced : IsBalanced (history_of c)
  balanced = legal_is_balanced (history_of c) (legal_from (history_of c) empty (λ i u at. of_keys (closed_setup c).set (take i (history_of c)) u (all_updates.lawful i u at)))

  module _ (tallies : List Tally) (are : AreTalliesOf c tallies) where
    -- what one number of all tallies adds up to
    field_sum : (w : Call × Reply → ℕ) (g : Update → ℕ) (field : Tally → ℕ) → IsWeight w g → ((t : Tally) (answers : List (Call × Reply)) → IsTallyOf t answers → field t ≡ sum_by w answers) → sum_by field tallies ≡ sum_by g (history_of c)
    field_sum w g field is counts = tallied w field is.full counts tallies (closed_books c) are.many are.each ∙ sym (added_up w g is s lists.unhelped (closed_setup c).set (history_of c) (closed_books c) all_updates)

    pub closed_balance : AreBalanced c tallies
    closed_balance = record {
      size = omega (
        arith,
        balanced.size,
        field_sum (λ a. one_if (is_addition a)) (λ u. cond u.added 1 0) (λ t. t.added) additions (λ t answers is. is.added),
        field_sum (λ a. one_if (is_removal a)) (λ u. cond (not u.added) 1 0) (λ t. t.removed) removals (λ t answers is. is.removed),
      );
      sum = omega (
        arith,
        balanced.sum,
        field_sum (key_if is_addition) (λ u. cond u.added u.key 0) (λ t. t.added_sum) added_keys (λ t answers is. is.added_sum),
        field_sum (key_if is_removal) (λ u. cond u.added 0 u.key) (λ t. t.removed_sum) removed_keys (λ t answers is. is.removed_sum),
      );
    }
