-- The words that an exchange of a link is made with.
use Rattle.std.proofs.Common.{◌≡◌, ◌≢◌, ℕ, cond, eqb, sym, ap, ◌∙◌, subst, Option}
use Rattle.atomic_table.specs.Table.{State}
use Rattle.record_memory.specs.declared.books.Setup.{Setup}
use Rattle.record_memory.specs.declared.books.View.{View}
use Rattle.row_words.specs.Refs.{RefParts, LinkParts}
use Rattle.row_words.specs.Packing.{packed_link, link_in, own_in, IsPackedLink}
use Rattle.row_words.proofs.Packed.{own_in-packed_link, link_in-packed_link}
use Rattle.set_model.specs.declared.calls.Call.{Call}
use Rattle.record_rule.specs.Facts.{ShapeFacts}
use Rattle.record_rule.specs.LockedLinks.{HasLocked, PublishedLocked, ToldLocked}
use Rattle.record_rule.specs.Kinds.{Lawful}
use Rattle.record_rule.specs.Links.{Origin, generation_at, link_word}
use Rattle.record_memory.specs.declared.steps.StepKind.TheVariants.{Store, Exchange}
use Rattle.record_memory.specs.declared.steps.Word.{Word}
use Rattle.record_table.specs.Recording.{Records}

-- a link packed under the node's generation
pub link_word_is : (k setup : Setup) (o : Origin) (l : LinkParts) (generation word : ℕ) → k ≡ setup → generation ≡ generation_at setup o → word ≡ packed_link generation l → word ≡ link_word k o l
link_word_is k setup o l generation word same is packed = packed ∙ ap (λ (z : ℕ). packed_link z l) (is ∙ ap (λ (x : Setup). generation_at x o) (sym same))

-- an exchange between the same words
pub with_words : (holds : State (Unit {0}) View → Type 0) (id : ℕ) (v : View) (told : ℕ → View → Type 0) (p q a b c d : ℕ) → q ≡ p → c ≡ a → d ≡ b → Lawful holds id v p (λ n. cond (eqb n a) b n) told → Lawful holds id v q (λ n. cond (eqb n c) d n) told
with_words holds id v told p q a b c d i e f may = subst (λ (z : ℕ × ℕ × ℕ). Lawful holds id v z.0 (λ n. cond (eqb n z.1) z.2 n) told) (λ k. (sym i k, sym e k, sym f k)) may

-- and what it tells has it recorded so
pub recorded_words : (v : View) (told : View → ℕ → View → Type 0) (p q : Word) (a b c d : ℕ) → q ≡ p → c ≡ a → d ≡ b → Records Exchange p (λ n. cond (eqb n a) b n) told v → Records Exchange q (λ n. cond (eqb n c) d n) told v
recorded_words v told p q a b c d i e f may = subst (λ (z : Word × ℕ × ℕ). Records Exchange z.0 (λ n. cond (eqb n z.1) z.2 n) told v) (λ k. (sym i k, sym e k, sym f k)) may

-- a word that isn't this link under the node's generation holds another link
pub another_link : (k : Setup) (o : Origin) (l : LinkParts) (word : ℕ) → IsPackedLink word → own_in word ≡ generation_at k o → word ≢ link_word k o l → link_in word ≢ l
another_link k o l word packed own other e = other (packed.packed
    ∙ (λ j. packed_link ((sym (own_in-packed_link packed.own packed.link packed.in_range) ∙ ap own_in (sym packed.packed) ∙ own) j) ((sym (link_in-packed_link packed.own packed.link packed.in_range) ∙ ap link_in (sym packed.packed) ∙ e) j)))

-- a store of the same word
pub with_value : (holds : State (Unit {0}) View → Type 0) (id : ℕ) (v : View) (told : ℕ → View → Type 0) (p q a b : ℕ) → q ≡ p → b ≡ a → Lawful holds id v p (λ _. a) told → Lawful holds id v q (λ _. b) told
with_value holds id v told p q a b i e may = subst (λ (z : ℕ × ℕ). Lawful holds id v z.0 (λ _. z.1) told) (λ k. (sym i k, sym e k)) may

pub recorded_value : (v : View) (told : View → ℕ → View → Type 0) (p q : Word) (a b : ℕ) → q ≡ p → b ≡ a → Records Store p (λ _. a) told v → Records Store q (λ _. b) told v
recorded_value v told p q a b i e may = subst (λ (z : Word × ℕ). Records Store z.0 (λ _. z.1) told v) (λ k. (sym i k, sym e k)) may

-- what a linking store by the holder of the lock tells, by the own record's reference
pub linked_so : (s : ShapeFacts) (v w : View) (o : Origin) (r t : RefParts) (call : Option Call) (n : ℕ) → r ≡ t → ToldLocked v o 3 (λ x y. PublishedLocked s v o 3 x r call y) n w → (old : LinkParts) × HasLocked v o 3 old × PublishedLocked s v o 3 old t call w
linked_so s v w o r t call n same told = (told.old, told.locked, subst (λ (x : RefParts). PublishedLocked s v o 3 told.old x call w) same told.left)
