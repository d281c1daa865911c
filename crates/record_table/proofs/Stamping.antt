-- Retiring a record stores its stamp.
use Rattle.std.proofs.Common.{◌≡◌, ℕ, set, sym, ap, ◌∙◌, subst}
use Rattle.atomic_table.specs.Table.{State}
use Rattle.record_memory.specs.declared.books.View.{View}
use Rattle.record_memory.specs.declared.books.Share.{Share}
use Rattle.row_words.specs.Refs.{RefParts}
use Rattle.row_words.specs.Packing.{packed_number}
use Rattle.record_rule.specs.Kinds.{IsOver, Lawful}
use Rattle.record_rule.specs.Links.{HasTaken, retired_with, retired}
use Rattle.record_table.specs.ToldLinks.{ToldRetire}

-- what the store tells, by the word that is stored
pub told_retire : (holds : State (Unit {0}) View → Type 0) (id : ℕ) (v : View) (word value stamp : ℕ) (r : RefParts) (h : Share) → HasTaken v r h → value ≡ packed_number r.generation stamp
    → Lawful holds id v word (λ _. packed_number r.generation stamp) (λ n w. (w ≡ retired v r h stamp) × IsOver v r.index 2 n) → Lawful holds id v word (λ _. value) (ToldRetire r value v)
told_retire holds id v word value stamp r h taken is may s u at = let x = may s u at in (
  x.0,
  subst (λ (n : ℕ). holds record { words = set s.words word n; homes = s.homes; views = set s.views id x.0 }) (sym is) x.1,
  record { share = h; taken = taken; over = x.2.1; view = x.2.0 ∙ ap (retired_with v r h) (sym is) },
)

-- and by its stamp
pub retired_so : (v w : View) (value found stamp : ℕ) (r t : RefParts) → r ≡ t → value ≡ packed_number r.generation stamp → ToldRetire r value v found w → (h : Share) × HasTaken v t h × (w ≡ retired v t h stamp)
retired_so v w value found stamp r t same is told = subst (λ (x : RefParts). (h : Share) × HasTaken v x h × (w ≡ retired v x h stamp)) same (told.share, told.taken, told.view ∙ ap (retired_with v r told.share) is)
