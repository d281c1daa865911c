-- What a caller's share of a record says of it.
use Rattle.std.proofs.Common.{zero, suc, List, [], ◌∷◌, get_or, Option, ◌≡◌, ◌≢◌, ℕ, Bool, true, false, cond, eqb, sym, refl, ap, ◌∙◌, subst, Some, None}
use Rattle.std.proofs.lemmas.Bool.{eqb-true, eq-eqb, ne_eqb}
use mathlib.Core.Option.{some}
use lib.ListN.{get_elem?}
use Rattle.record_memory.specs.declared.books.Standing.{Standing}
use Rattle.record_memory.specs.declared.books.Place.{Place}
use Rattle.record_memory.specs.declared.books.Place.TheVariants.{Of}
use Rattle.record_memory.specs.declared.books.Share.{Share}
use Rattle.record_rule.specs.Records.{Record, known, share_at, share}

-- a share that is read at an index stands there
pub at_some : (l : List (Option Share)) (k : ℕ) (h : Share) → get_or l k None ≡ Some h → get_elem? l k ≡ some (Some h)
at_some [] k h e = let none : ⊥ = cc in absurd none
at_some (x ∷ xs) zero h e = ap some e
at_some (x ∷ xs) (suc k) h e = at_some xs k h e

-- what the caller that has a record knows of it
abbrev pub share_of : Standing → Record → Share
share_of s r = record { standing = s; generation = r.generation; taken_number = r.taken_number; words = known s r.row }

-- the caller that has a record sees it, and no other caller does
pub seen_by : (c : ℕ) (s : Standing) (r : Record) → r.place ≡ Of c s → share c r ≡ Some (share_of s r)
seen_by c s r at = ap (λ (p : Place). share_at c p r) at ∙ ap (λ b. cond b (Some (share_of s r)) None) (eq-eqb c c refl)

-- no other caller
pub unseen_by : (c d : ℕ) (s : Standing) (r : Record) → r.place ≡ Of c s → d ≢ c → share d r ≡ None
unseen_by c d s r at ne = ap (λ (p : Place). share_at d p r) at ∙ ap (λ b. cond b (Some (share_of s r)) None) (ne_eqb c d (λ e. ne (sym e)))

-- the record is the caller's, and this is what it knows of it
abbrev HasIt : ℕ → Place → Record → Share → Type 0
HasIt c p r h = (p ≡ Of c h.standing) × (h ≡ share_of h.standing r)

-- by whose it is
has_if : (c b : ℕ) (s : Standing) (r : Record) (h : Share) (t : Bool) → eqb b c ≡ t → cond t (Some (share_of s r)) None ≡ Some h → HasIt c (Of b s) r h
has_if c b s r h true is e = let same : share_of s r ≡ h = cc in let e1 : b ≡ c = eqb-true b c is in
    subst (λ (z : Share). HasIt c (Of b s) r z) same (ap (λ (z : ℕ). Of z s) e1, refl)
has_if c b s r h false is e = let no : ⊥ = cc in absurd no

-- and by where it is
has_at : (c : ℕ) (p : Place) (r : Record) (h : Share) → share_at c p r ≡ Some h → HasIt c p r h
has_at c (Of b s) r h e = has_if c b s r h (eqb b c) refl e
has_at c p r h e = let no : ⊥ = cc in absurd no

-- a share says where the record is and what it is
pub has : (c : ℕ) (r : Record) (h : Share) → share c r ≡ Some h → (r.place ≡ Of c h.standing) × (h ≡ share_of h.standing r)
has c r h e = has_at c r.place r h e
