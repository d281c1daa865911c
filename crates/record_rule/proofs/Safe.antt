-- What a reclaimer's laws may use follows from where the records are, from the list of those taken out, and from what is held.
use Rattle.std.proofs.Common.{◌≡◌, ℕ, ◌+◌, ◌-◌, ◌≤◌, List, map, drop, sym, refl, ap, ◌∙◌, subst, arith, Some}
use Rattle.std.proofs.lemmas.List.{length-map}
use mathlib.Core.Option.{some}
use Rattle.atomic_table.proofs.Lists.{at_map}
use Rattle.set_model.specs.declared.calls.Update.{Update}
use Rattle.record_memory.specs.declared.books.Setup.{Setup}
use Rattle.record_memory.specs.declared.books.Book.{Book}
use Rattle.record_memory.specs.declared.books.Note.{Note}
use Rattle.record_memory.specs.declared.books.Standing.{Standing}
use Rattle.record_memory.specs.declared.books.Standing.TheVariants.{TakenOut, Limbo}
use Rattle.record_memory.specs.declared.books.Place.{Place}
use Rattle.record_memory.specs.declared.books.Place.TheVariants.{Linked, Of}
use Rattle.record_memory.specs.Memory.{Memory}
use Rattle.row_words.specs.Refs.{RefParts}
use Rattle.record_rule.specs.Records.{Record}
use Rattle.record_rule.specs.Inputs.{linked, out, shape_had, shape_at, shape_cell, unretired, limbo, scheme_had, scheme_at, scheme_cell, was_taken, taken_had, taken_at, taken_cell, guard_of, notes_of, outline, scheme_input}
use Rattle.record_rule.specs.Facts.{At, ShapeFacts, CoverFacts}
use Rattle.record_rule.specs.Held.{HoldFits, while_linked, while_out}
use Rattle.record_rule.specs.Laws.{IsThereAs, IsThere, IsSafe}
use Rattle.record_rule.specs.World.{Places, Parts}
use Rattle.record_rule.proofs.Lists.{below_at, at_below, map_at}

-- a linked record, and one that was taken out, as a reclaimer sees it
there_had : (c start generation m n : ℕ) (body : List ℕ) (s : Standing) (r : Record) → shape_had s r ≡ out generation body m n → start ≤ n → IsThereAs (scheme_had c s r) generation start
there_had c start generation m n body TakenOut r e h = let x : r.generation ≡ generation = cc in let y : r.taken_number ≡ n = cc in (x, omega arith)
there_had c start generation m n body Limbo r e h = let x : r.generation ≡ generation = cc in let y : r.taken_number ≡ n = cc in (x, omega arith)
there_had c start generation m n body s r e h = let none : ⊥ = cc in absurd none

-- a record that a caller has is not linked
unlinked_had : (s : Standing) (r : Record) (generation m : ℕ) (body : List ℕ) → shape_had s r ≡ linked generation body m → ⊥
unlinked_had TakenOut r generation m body e = cc
unlinked_had s r generation m body e = cc

-- a record that a set sees as linked is so
pub linked_place : (generation m : ℕ) (body : List ℕ) (p : Place) (r : Record) → shape_at p r ≡ linked generation body m → (p ≡ Linked) × (r.generation ≡ generation) × (drop 3 r.row ≡ body)
linked_place generation m body Linked r e = let x : r.generation ≡ generation = cc in let y : drop 3 r.row ≡ body = cc in (refl, x, y)
linked_place generation m body (Of c s) r e = absurd (unlinked_had s r generation m body e)
linked_place generation m body p r e = let none : ⊥ = cc in absurd none

-- so a reclaimer sees it there
there_linked : (start generation m : ℕ) (body : List ℕ) (p : Place) (r : Record) → shape_at p r ≡ linked generation body m → IsThereAs (scheme_at p r) generation start
there_linked start generation m body p r e = let x = linked_place generation m body p r e in subst (λ (q : Place). IsThereAs (scheme_at q r) generation start) (sym x.0) x.1

-- and one that was taken out
there_out : (start generation m n : ℕ) (body : List ℕ) (p : Place) (r : Record) → shape_at p r ≡ out generation body m n → start ≤ n → IsThereAs (scheme_at p r) generation start
there_out start generation m n body (Of c s) r e h = there_had c start generation m n body s r e h
there_out start generation m n body p r e h = let none : ⊥ = cc in absurd none

-- one that was taken out stands in the list
unretired_had : (c d generation b n : ℕ) (s : Standing) (r : Record) → scheme_had c s r ≡ unretired d generation b n → taken_had s r ≡ was_taken generation n
unretired_had c d generation b n TakenOut r e = let x : r.generation ≡ generation = cc in let y : r.taken_number ≡ n = cc in λ k. was_taken (x k) (y k)
unretired_had c d generation b n s r e = let none : ⊥ = cc in absurd none

-- in limbo as well
limbo_had : (c d generation b n st q : ℕ) (s : Standing) (r : Record) → scheme_had c s r ≡ limbo d generation b n st q → taken_had s r ≡ was_taken generation n
limbo_had c d generation b n st q Limbo r e = let x : r.generation ≡ generation = cc in let y : r.taken_number ≡ n = cc in λ k. was_taken (x k) (y k)
limbo_had c d generation b n st q s r e = let none : ⊥ = cc in absurd none

-- wherever it is
unretired_at : (d generation b n : ℕ) (p : Place) (r : Record) → scheme_at p r ≡ unretired d generation b n → taken_at p r ≡ was_taken generation n
unretired_at d generation b n (Of c s) r e = unretired_had c d generation b n s r e
unretired_at d generation b n p r e = let none : ⊥ = cc in absurd none

-- and in limbo
limbo_at : (d generation b n st q : ℕ) (p : Place) (r : Record) → scheme_at p r ≡ limbo d generation b n st q → taken_at p r ≡ was_taken generation n
limbo_at d generation b n st q (Of c s) r e = limbo_had c d generation b n st q s r e
limbo_at d generation b n st q p r e = let none : ⊥ = cc in absurd none

module _ (shape : ShapeFacts) (cover : CoverFacts) (setup : Setup) (records : List Record) (books : List Book) (taken_out : List RefParts) (updates : List Update) (m : Memory) where
  -- what is held is there
  held_there : (start : ℕ) (r : RefParts) (note : Note) → HoldFits shape (map shape_cell records) start r note → IsThere (scheme_input (outline m records books taken_out updates)) r start
  held_there start _ _ (while_linked i generation marked body note at fits) = let x = map_at shape_cell records i (linked generation body marked) at in
      (scheme_cell x.0, omega arith, subst (λ (k : ℕ). At (map scheme_cell records) k (scheme_cell x.0)) (let e : i ≡ i + 1 - 1 = omega arith in e) (at_map scheme_cell records i x.0 x.1), there_linked start generation marked body x.0.place x.0 x.2)
  held_there start _ _ (while_out i generation marked n body note at late fits) = let x = map_at shape_cell records i (out generation body marked n) at in
      (scheme_cell x.0, omega arith, subst (λ (k : ℕ). At (map scheme_cell records) k (scheme_cell x.0)) (let e : i ≡ i + 1 - 1 = omega arith in e) (at_map scheme_cell records i x.0 x.1), there_out start generation marked n body x.0.place x.0 x.2 late)

  -- so the laws may use all this
  pub safe : Places setup records books m → Parts shape cover setup (outline m records books taken_out updates) → IsSafe setup (scheme_input (outline m records books taken_out updates))
  safe p parts = record {
    callers = length-map books guard_of ∙ p.callers;
    words = λ d g at. (parts.words d g at).four;
    holds = λ d q g t at hold. let b = map_at guard_of books d g at in let notes : At (map notes_of books) d b.0.notes = at_map notes_of books d b.0 b.1 in let f = parts.held d g b.0.notes at notes in
        let note = at_below b.0.notes q (let l = below_at g.holds q (Some t) hold in let a = f.many in let c = f.noted in omega arith) in held_there g.start_taken_out t note.0 (f.holds q t note.0 hold note.1);
    starts = λ d g at. let b = map_at guard_of books d g at in (parts.held d g b.0.notes at (at_map notes_of books d b.0 b.1)).start;
    taken = λ i d e b n at. let x = map_at scheme_cell records i (unretired d e b n) at in parts.taken.own i e n (at_map taken_cell records i x.0 x.1 ∙ ap some (unretired_at d e b n x.0.place x.0 x.2));
    retired = λ i d e b n st q at. let x = map_at scheme_cell records i (limbo d e b n st q) at in parts.taken.own i e n (at_map taken_cell records i x.0 x.1 ∙ ap some (limbo_at d e b n st q x.0.place x.0 x.2));
    once = parts.taken.once;
  }
