-- A record that was just drawn is new.
use Rattle.std.proofs.Common.{◌≡◌, ℕ, ◌+◌, ◌<◌, ◌≤◌, sym, ap, ◌∙◌, subst, arith}
use Rattle.record_memory.specs.declared.books.View.{View}
use Rattle.row_words.specs.Refs.{RefParts}
use Rattle.record_rule.specs.Kinds.{loaded_control, drew, DrewNew, share_in}
use Rattle.alloc_api.specs.Drawn.{IsNew}
use Rattle.alloc_api.proofs.News.{is_new}

pub drew_is_new : (before after : View) (seen found : ℕ) (r : RefParts) → after ≡ drew (loaded_control before 0 seen) found → DrewNew (loaded_control before 0 seen) found → found < before.setup.records → r.index ≡ found + 1 → r.generation ≡ before.setup.first
    → IsNew before after r
drew_is_new before after seen found r is new lt index first = let h = new lt in
    is_new before after r (subst (λ (w : View). r.index ≤ w.setup.records) (sym is) (omega arith)) first (ap (share_in before) index ∙ h.0) ((λ k. share_in (is k) (index k)) ∙ h.1)
