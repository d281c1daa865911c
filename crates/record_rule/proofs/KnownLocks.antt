-- What a caller knows of the words that it has locked, after its steps on links.
use Rattle.std.proofs.Common.{◌≡◌, ℕ, List, [], ◌∷◌, cond, eqb, Bool, true, false, sym, refl, ap, ◌∙◌, Option, Some, None}
use Rattle.std.specs.Prelude.{◌&&◌}
use Rattle.std.proofs.lemmas.Bool.{eq-eqb}
use Rattle.set_model.specs.declared.calls.Call.{Call}
use Rattle.record_memory.specs.declared.books.LockedWord.{LockedWord}
use Rattle.record_memory.specs.declared.books.Setup.{Setup}
use Rattle.record_memory.specs.declared.books.View.{View}
use Rattle.row_words.specs.Refs.{LinkParts}
use Rattle.row_words.specs.Packing.{IsLink}
use Rattle.record_rule.specs.Facts.{lock_bit, has_lock, HasLock, ShapeFacts}
use Rattle.record_rule.specs.Locks.{IsOn, locked_in, without}
use Rattle.record_rule.specs.Links.{Origin, index_of, link_word, locked_word, ExchangedLink}
use Rattle.record_rule.specs.LockedLinks.{HasLocked}
use Rattle.record_rule.proofs.Locks.{is_on, on_is}

-- an entry of another word says nothing of this one
skips : (l : LockedWord) (i f : ℕ) (ls : List LockedWord) → ¬ IsOn l i f → locked_in i f (l ∷ ls) ≡ locked_in i f ls
skips l i f ls ne = by (eqb l.index i && eqb l.field f) refl
  where
    by : (b : Bool) → (eqb l.index i && eqb l.field f) ≡ b → cond b (Some l.value) (locked_in i f ls) ≡ locked_in i f ls
    by true e = absurd (ne (is_on l i f e))
    by false e = refl

-- a word is in a list no more once it was taken out of it, and any other one is as before
pub locked_no_more : (i f : ℕ) (ls : List LockedWord) → locked_in i f (without i f ls) ≡ None
locked_no_more i f [] = refl
locked_no_more i f (l ∷ ls) = by (eqb l.index i && eqb l.field f) refl (locked_no_more i f ls)
  where
    by : (b : Bool) → (eqb l.index i && eqb l.field f) ≡ b → locked_in i f (without i f ls) ≡ None → locked_in i f (cond b (without i f ls) (l ∷ without i f ls)) ≡ None
    by true e rest = rest
    by false e rest = skips l i f (without i f ls) (λ on. let wrong : false ≡ true = sym e ∙ on_is l i f on in let none : ⊥ = cc in none) ∙ rest

pub locked_beside : (i f j g : ℕ) (ls : List LockedWord) → ¬ ((j ≡ i) × (g ≡ f)) → locked_in j g (without i f ls) ≡ locked_in j g ls
locked_beside i f j g [] ne = refl
locked_beside i f j g (l ∷ ls) ne = by (eqb l.index i && eqb l.field f) refl (locked_beside i f j g ls ne)
  where
    by : (b : Bool) → (eqb l.index i && eqb l.field f) ≡ b → locked_in j g (without i f ls) ≡ locked_in j g ls → locked_in j g (cond b (without i f ls) (l ∷ without i f ls)) ≡ locked_in j g (l ∷ ls)
    by true e rest = rest ∙ sym (skips l j g ls (λ on. let here = is_on l i f e in ne (sym on.0 ∙ here.0, sym on.1 ∙ here.1)))
    by false e rest = ap (λ (x : Option ℕ). cond (eqb l.index j && eqb l.field g) (Some l.value) x) rest

-- what the caller has locked it has locked, as long as its list stays
pub locked_still : (v w : View) (o : Origin) (f : ℕ) (l : LinkParts) → w.setup ≡ v.setup → locked_in (index_of o) f w.own.locks ≡ locked_in (index_of o) f v.own.locks → HasLocked v o f l → HasLocked w o f l
locked_still v w o f l setup same has = record { known = same ∙ has.known ∙ ap (λ (z : Setup). Some (link_word z o l)) (sym setup); in_range = has.in_range }

-- An exchange that put the lock on has the word locked, with the new link
pub locked_then : (s : ShapeFacts) (v w : View) (o : Origin) (f : ℕ) (old new : LinkParts) (call : Option Call) → ExchangedLink s v o f old new call w → s.lockable f ≡ true → HasLock new → IsLink new → HasLocked w o f new
locked_then s v w o f old new call t lockable flag in_range = record {
  known = ap (λ (x : View). locked_in (index_of o) f x.own.locks) t.view
      ∙ ap (λ (b : Bool). locked_in (index_of o) f (cond b (locked_word v.setup o f new ∷ v.own.locks) v.own.locks)) (λ k. lockable k && eq-eqb (lock_bit new) 1 flag k)
      ∙ ap (λ (b : Bool). cond b (Some (link_word v.setup o new)) (locked_in (index_of o) f v.own.locks)) (on_is (locked_word v.setup o f new) (index_of o) f (refl, refl))
      ∙ ap (λ (x : View). Some (link_word x.setup o new)) (sym t.view);
  in_range = in_range;
}

-- And any other word that it has locked is locked still
pub locked_else : (s : ShapeFacts) (v w : View) (o p : Origin) (f g : ℕ) (old new l : LinkParts) (call : Option Call) → ExchangedLink s v o f old new call w → ¬ ((index_of o ≡ index_of p) × (f ≡ g)) → HasLocked v p g l → HasLocked w p g l
locked_else s v w o p f g old new l call t other has = locked_still v w p g l (ap (λ (x : View). x.setup) t.view) (ap (λ (x : View). locked_in (index_of p) g x.own.locks) t.view ∙ by (s.lockable f && has_lock new)) has
  where
    by : (b : Bool) → locked_in (index_of p) g (cond b (locked_word v.setup o f new ∷ v.own.locks) v.own.locks) ≡ locked_in (index_of p) g v.own.locks
    by true = skips (locked_word v.setup o f new) (index_of p) g v.own.locks other
    by false = refl
