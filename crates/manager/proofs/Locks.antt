-- What a caller knows of a link that it has locked.
use Rattle.std.proofs.Common.{◌≡◌, ℕ, sym, ap, ◌∙◌, subst, Option, Some}
use Rattle.record_memory.specs.declared.books.View.{View}
use Rattle.row_words.specs.Refs.{RefParts, LinkParts}
use Rattle.row_words.proofs.Packed.{packed_link_same}
use Rattle.record_rule.specs.Facts.{ShapeFacts}
use Rattle.record_rule.specs.Links.{Origin, generation_at}
use Rattle.record_rule.specs.LockedLinks.{HasLocked, UnlinkedLocked}

-- one number
some_same : (a b : ℕ) → Some a ≡ Some b → a ≡ b
some_same a b e = cc

-- it knows one link
pub locked_once : (v : View) (o : Origin) (l m : LinkParts) → HasLocked v o 3 l → HasLocked v o 3 m → l ≡ m
locked_once v o l m a b = (packed_link_same (generation_at v.setup o) (generation_at v.setup o) l m a.in_range b.in_range (some_same _ _ (sym a.known ∙ b.known))).1

-- so what that leads to is what a store over it takes out
pub locked_target : (s : ShapeFacts) (v w : View) (o : Origin) (l : LinkParts) (gone : RefParts) (new : LinkParts) → HasLocked v o 3 l → l.target ≡ Some gone → (old : LinkParts) × HasLocked v o 3 old × UnlinkedLocked s v o 3 old gone new w
    → (old : LinkParts) × HasLocked v o 3 old × (old.target ≡ Some gone) × UnlinkedLocked s v o 3 old gone new w
locked_target s v w o l gone new has leads (old, locked, told) = (old, locked, ap (λ (x : LinkParts). x.target) (locked_once v o old l locked has) ∙ leads, told)
