-- What a pass knows of a node's words after a step on its link.
use Rattle.std.proofs.Common.{◌≡◌, ℕ, zero, suc, ◌<◌, List, [], ◌∷◌, length, get_or, set, length-set, get_or-set_same, Bool, true, false, Option, Some, None, sym, refl, ap, ◌∙◌, subst, arith}
use native.Mathlib.Decide.{ℕ_discrete}
use Rattle.atomic_table.proofs.Lists.{set_here, set_else}
use Rattle.set_model.specs.declared.calls.Call.{Call}
use Rattle.record_memory.specs.declared.steps.StepKind.{StepKind}
use Rattle.record_memory.specs.declared.books.LockedWord.{LockedWord}
use Rattle.record_memory.specs.declared.books.Note.{Note}
use Rattle.record_memory.specs.declared.books.View.{View}
use Rattle.row_words.specs.Refs.{RefParts, LinkParts}
use Rattle.record_rule.specs.Facts.{At, ShapeFacts, CoverFacts}
use Rattle.record_rule.specs.Opening.{no_note}
use Rattle.record_rule.specs.Links.{Origin, from_root, from_place, note_in, note_word, noting, link_word, LoadedLink, LeftLink}
use Rattle.record_rule.proofs.Lists.{below_at, at_replicate}
use Rattle.reclaim_api.specs.Holds.{IsElsewhere}

-- a fact of an entry, after one was set where the list is that long
got_set_any : {A : Type 0} (P : A → Type 0) (l : List A) (i j : ℕ) (a d : A) → P (get_or l j d) → (j ≡ i → P a) → P (get_or (set l i a) j d)
got_set_any P [] i j a d else here = else
got_set_any P (x ∷ xs) zero zero a d else here = here refl
got_set_any P (x ∷ xs) zero (suc j) a d else here = else
got_set_any P (x ∷ xs) (suc i) zero a d else here = else
got_set_any P (x ∷ xs) (suc i) (suc j) a d else here = got_set_any P xs i j a d else (λ e. here (ap suc e))

-- a word of a note is kept by a step that leaves this word of the node's link, where it isn't that of the link or was the same
noted_word : (note : Note) (n f m : ℕ) → (f ≡ 0 → m ≡ n) → At note.words f (Some m) → At (note_word note 3 n).words f (Some m)
noted_word note n f m same at = by (ℕ_discrete f 0)
  where
    by : Dec (f ≡ 0) → At (set note.words 0 (Some n)) f (Some m)
    by (yes e) = subst (λ (z : ℕ × ℕ). At (set note.words 0 (Some n)) z.0 (Some z.1)) (λ k. (sym e k, sym (same e) k)) (set_here note.words 0 (Some n) (let b = below_at note.words f (Some m) at in omega arith))
    by (no ne) = set_else note.words 0 f (Some n) ne ∙ at

pub noting_keeps : (b : Bool) (notes : List Note) (o : Origin) (n place f m : ℕ) → (f ≡ 0 → ¬ IsElsewhere o place → m ≡ n) → At (note_in notes place).words f (Some m) → At (note_in (noting b notes o 3 n) place).words f (Some m)
noting_keeps false notes o n place f m same at = at
noting_keeps true notes (from_root k) n place f m same at = at
noting_keeps true notes (from_place p r) n place f m same at = got_set_any (λ (x : Note). At x.words f (Some m)) notes p place (note_word (note_in notes p) 3 n) no_note at
    (λ e. noted_word (note_in notes p) n f m (λ z. same z (λ ne. ne e)) (subst (λ k. At (note_in notes k).words f (Some m)) e at))

-- and each note has as many words
pub noting_long : (b : Bool) (notes : List Note) (o : Origin) (n place : ℕ) → length (note_in (noting b notes o 3 n) place).words ≡ length (note_in notes place).words
noting_long false notes o n place = refl
noting_long true notes (from_root k) n place = refl
noting_long true notes (from_place p r) n place = got_set_any (λ (x : Note). length x.words ≡ length (note_in notes place).words) notes p place
    (note_word (note_in notes p) 3 n) no_note refl (λ e. length-set (note_in notes p).words 0 (Some n) ∙ ap (λ k. length (note_in notes k).words) (sym e))

-- and was reached when it was
pub noting_reached : (b : Bool) (notes : List Note) (o : Origin) (n place : ℕ) → (note_in (noting b notes o 3 n) place).reached_at ≡ (note_in notes place).reached_at
noting_reached false notes o n place = refl
noting_reached true notes (from_root k) n place = refl
noting_reached true notes (from_place p r) n place = got_set_any (λ (x : Note). x.reached_at ≡ (note_in notes place).reached_at) notes p place (note_word (note_in notes p) 3 n) no_note refl (λ e. ap (λ k. (note_in notes k).reached_at) (sym e))

-- a place of which a word is known has a note
noted_place : (notes : List Note) (p f m : ℕ) → At (note_in notes p).words f (Some m) → p < length notes
noted_place [] p f m at = let none : None ≡ Some m = (at_replicate 5 f None (Some m) at).1 in let bad : ⊥ = cc in absurd bad
noted_place (x ∷ xs) zero f m at = omega arith
noted_place (x ∷ xs) (suc p) f m at = let h = noted_place xs p f m at in omega arith

-- so what is settled is noted there
noting_settled : (b : Bool) (notes : List Note) (p f m n : ℕ) (r : RefParts) → b ≡ true → At (note_in notes p).words f (Some m) → At (note_in (noting b notes (from_place p r) 3 n) p).words 0 (Some n)
noting_settled false notes p f m n r settled at = let bad : ⊥ = cc in absurd bad
noting_settled true notes p f m n r settled at = subst (λ (x : Note). At x.words 0 (Some n)) (sym (get_or-set_same notes p (note_word (note_in notes p) 3 n) no_note (noted_place notes p f m at)))
    (set_here (note_in notes p).words 0 (Some n) (let b = below_at (note_in notes p).words f (Some m) at in omega arith))

-- A held record's link that no step changes any more is known once it was loaded, where any word of the record was known before
pub load_notes : (s : ShapeFacts) (c : CoverFacts) (v w : View) (p : ℕ) (r : RefParts) (first : Bool) (n : ℕ) (told : LoadedLink s c v (from_place p r) 3 first n w) → s.settled 3 told.saw.body ≡ true
    → (f m : ℕ) → At (note_in v.own.notes p).words f (Some m) → At (note_in w.own.notes p).words 0 (Some n)
load_notes s c v w p r first n told settled f m at = subst (λ (x : View). At (note_in x.own.notes p).words 0 (Some n)) (sym told.view) (noting_settled (s.settled 3 told.saw.body) v.own.notes p f m n r settled at)

-- and once a step of any kind left it so
pub left_notes : (s : ShapeFacts) (v w : View) (p : ℕ) (r : RefParts) (old new : LinkParts) (call : Option Call) {kind : StepKind} {locks : List LockedWord} (told : LeftLink s v kind (from_place p r) 3 old new call locks w) → s.settled 3 told.body ≡ true
    → (f m : ℕ) → At (note_in v.own.notes p).words f (Some m) → At (note_in w.own.notes p).words 0 (Some (link_word v.setup (from_place p r) new))
left_notes s v w p r old new call told settled f m at = subst (λ (x : View). At (note_in x.own.notes p).words 0 (Some (link_word v.setup (from_place p r) new))) (sym told.view)
    (noting_settled (s.settled 3 told.body) v.own.notes p f m (link_word v.setup (from_place p r) new) r settled at)
