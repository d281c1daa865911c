-- Which records stay spare.
use Rattle.std.proofs.Common.{◌≡◌, ◌⊎◌, inl, inr, ℕ, ◌-◌, get_or, List, [], ◌∷◌, zero, suc, Some, None, refl, sym, ap, ◌∙◌, subst, arith}
use native.Mathlib.Decide.{ℕ_discrete}
use mathlib.Core.Option.{some-injective, some-ne-none}
use Rattle.record_memory.specs.declared.books.Book.{Book}
use Rattle.record_memory.specs.declared.books.Setup.{Setup}
use Rattle.record_memory.specs.declared.books.Share.{Share}
use Rattle.row_words.specs.Refs.{RefParts}
use Rattle.record_rule.specs.Facts.{At}
use Rattle.record_rule.specs.Standings.{is_spare}
use Rattle.record_rule.proofs.Lists.{counts_less}
use Rattle.record_rule.proofs.HandingOut.{known_within}
use Rattle.reclaim_api.specs.Frames.{had, is_as}
use Rattle.record_pieces.specs.Manners.{Manner}
use Rattle.record_pieces.specs.Spares.{IsSpareIn, KeepsSpares}
use Rattle.record_pieces.specs.Events.{Event, Takes, from_spare, handed, SetsAside}
use Rattle.record_pieces.proofs.Stock.{Keeps, AllKeep}

-- where none was spare, each is still
pub none_kept : (b c : Book) → had is_spare b ≡ 0 → KeepsSpares b c
none_kept b c none r h = absurd (omega (arith, none, counts_less (is_as is_spare) b.mine (r.index - 1) None None (known_within b.mine (r.index - 1) h.share h.known) (ap (is_as is_spare) h.known ∙ ap is_spare h.spare) refl))

-- one record at one generation
abbrev pub IsSame : RefParts → RefParts → Type 0
IsSame r s = (r.index - 1 ≡ s.index - 1) × (r.generation ≡ s.generation)

-- a record that is the same as a spare one is spare
pub same_spare : (b : Book) (r s : RefParts) → IsSame r s → IsSpareIn b s → IsSpareIn b r
same_spare b r s same h = record { share = h.share; known = ap (λ (i : ℕ). get_or b.mine i None) same.0 ∙ h.known; spare = h.spare; generation = h.generation ∙ sym same.1 }

-- each record that was spare still is, but for this one
abbrev pub KeepsOthers : RefParts → Book → Book → Type 0
KeepsOthers own b c = (r : RefParts) → IsSpareIn b r → IsSpareIn c r ⊎ IsSame r own

one_share : (a b : Share) → Some a ≡ Some b → a ≡ b
one_share a b e = cc

-- so after a record was got
pub takes_others : (m : Manner) (k : Setup) (b : Book) (own : RefParts) (c : Book) → Takes m k b own c → KeepsOthers own b c
takes_others m k b own c (from_spare d birth n bears one taken) r h = by (ℕ_discrete (r.index - 1) (own.index - 1))
  where
    by : Dec (r.index - 1 ≡ own.index - 1) → IsSpareIn c r ⊎ IsSame r own
    by (yes e) = let was = taken.was_spare in inr (e, sym h.generation ∙ ap (λ (x : Share). x.generation) (one_share h.share was.share (sym h.known ∙ ap (λ (i : ℕ). get_or b.mine i None) e ∙ was.known)) ∙ was.generation)
    by (no ne) = inl (taken.kept r ne h)
takes_others m k b own c (handed d e birth none gets same bears hands counts left) r h = inl (none_kept b c none r h)

-- and once it is spare again, all are
pub aside_kept : (own : RefParts) (b c d : Book) → KeepsOthers own b c → SetsAside c own d → KeepsSpares b d
aside_kept own b c d others aside r h = by (others r h)
  where
    by : IsSpareIn c r ⊎ IsSame r own → IsSpareIn d r
    by (inl is) = aside.kept r is
    by (inr same) = same_spare d r own same aside.is_spare_now

-- among events that get no record and give none back there is none that does
pub keep_at : (es : List Event) → AllKeep es → (i : ℕ) (e : Event) → At es i e → Keeps e
keep_at [] all i e at = absurd (some-ne-none e (sym at))
keep_at (x ∷ es) all zero e at = subst Keeps (some-injective x e at) all.0
keep_at (x ∷ es) all (suc i) e at = keep_at es all.1 i e at
