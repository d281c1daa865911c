-- What a load of the caller's own cursor leaves, and that a record which was just drawn is new.
use Rattle.std.proofs.Common.{◌≡◌, ℕ, ◌+◌, ◌<◌, ◌≤◌, sym, ap, ◌∙◌, subst, arith}
use Rattle.record_memory.specs.declared.books.View.{View}
use Rattle.record_memory.specs.declared.steps.Word.{Word}
use Rattle.record_memory.specs.declared.steps.Word.TheVariants.{Cursor}
use Rattle.record_memory.specs.Memory.{address, word_at}
use Rattle.record_memory.proofs.Stores.{word_at-cursor}
use Rattle.row_words.specs.Refs.{RefParts}
use Rattle.record_rule.specs.Facts.{CoverFacts}
use Rattle.record_rule.specs.Freeing.{LoadedBy}
use Rattle.record_rule.specs.Kinds.{loaded_control, share_in}
use Rattle.record_rule.specs.OwnDraws.{own_place, drew_own, DrewOwn}
use Rattle.alloc_api.specs.Drawn.{IsNew}
use Rattle.alloc_api.proofs.News.{is_new}

-- the reclaimer learns nothing by it
pub only_looked : (facts : CoverFacts) (v w : View) (word n : ℕ) → v.own.caller < v.setup.callers → word ≡ address v.setup.callers (Cursor v.own.caller) → LoadedBy facts v (word_at v.setup.callers word) word n w → w ≡ loaded_control v word n
only_looked facts v w word n counted is = subst (λ (x : Word). LoadedBy facts v x word n w → w ≡ loaded_control v word n) (sym (ap (word_at v.setup.callers) is ∙ word_at-cursor v.setup.callers v.setup.records v.own.caller counted)) (λ e. e)

-- the record behind those that the caller drew of its range
pub own_is_new : (before after : View) (word n : ℕ) (r : RefParts) → after ≡ drew_own (loaded_control before word n) n → DrewOwn (loaded_control before word n) n → r.index ≡ own_place before n + 1 → r.generation ≡ before.setup.first
    → IsNew before after r
own_is_new before after word n r is new index first =
    is_new before after r (subst (λ (w : View). r.index ≤ w.setup.records) (sym is) (let h = new.within in omega arith)) first (ap (share_in before) index ∙ new.before) ((λ k. share_in (is k) (index k)) ∙ new.after)
