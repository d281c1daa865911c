-- Where a lock may be: on a root's link or a linked record's. So an own record's link has none when it is linked, and none has that of a record which goes, or the link that is left behind it.
use Rattle.std.proofs.Common.{◌≡◌, ℕ, ◌/◌, ◌%◌, List, Option, Some, inl, inr, refl, ap, ◌∙◌, arith}
use Rattle.set_model.specs.declared.calls.Call.{Call}
use Rattle.row_words.specs.Refs.{RefParts, LinkParts}
use Rattle.row_words.specs.Packing.{packed_link, IsLink}
use Rattle.record_memory.specs.declared.books.Setup.{Setup}
use Rattle.record_memory.specs.declared.books.Note.{Note}
use Rattle.record_rule.specs.Inputs.{ShapeCell, out, ShapeInput}
use Rattle.record_rule.specs.Facts.{At, link_at, Near, at_root, at_held, ShapeFacts, FitsNear}
use Rattle.record_rule.specs.Laws.{NodeIs}
use Rattle.record_rule.proofs.Lists.{one_at}
use Rattle.list_facts.specs.Steps.{marked_with, MayPublish}
use Rattle.list_facts.proofs.Bodies.{clear_flags}
use Rattle.list_facts.proofs.Nodes.{cell_near, node_at}
use Rattle.list_facts.proofs.Publishing.{node_link}
use Rattle.list_facts.proofs.Unlinking.{noted_link}
use Rattle.lazy_facts.specs.Lazy.{LazyFits, MayTurn}

-- flag 2 is the lock
abbrev pub IsLocked : LinkParts → Type 0
IsLocked l = l.flags / 2 % 2 ≡ 1

-- a link with this flag or without any isn't locked
unlocked : (l : LinkParts) (n : ℕ) → n / 2 ≡ 0 → l.flags ≡ n → ¬ IsLocked l
unlocked l n low is lock = let z : l.flags / 2 % 2 ≡ 1 = lock in let w : l.flags / 2 ≡ n / 2 = ap (λ (k : ℕ). k / 2) is in omega arith

-- the cell of a root or of a linked record isn't that of one that was taken out
not_out : (near : Near) (generation e m k j : ℕ) (body b : List ℕ) → cell_near near generation body m ≡ out e b k j → ⊥
not_out (at_root r) generation e m k j body b is = let none : ⊥ = cc in none
not_out (at_held r note) generation e m k j body b is = let none : ⊥ = cc in none

-- a link is locked only while its record is a root or linked
pub locked_stands : {setup : Setup} {x : ShapeInput} → LazyFits setup x → {s : ShapeFacts} {near : Near} {f : ℕ} {old new : LinkParts} {call : Option Call} (n : NodeIs s x.cells near f old) → MayTurn setup near f old new call → ¬ IsLocked old → IsLocked new
    → (generation m k : ℕ) (body : List ℕ) → n.cell ≡ out generation body m k → ⊥
locked_stands {x = x} fits {near = near} {old = old} n (inl may) free lock generation m k body is =
    not_out near n.generation generation n.marked m k n.body body (one_at x.cells n.index (cell_near near n.generation n.body n.marked) n.cell (node_at fits.lists n may.0 (clear_flags old 0 refl may.1)) n.at ∙ is)
locked_stands fits {old = old} {new = new} n (inr (inl may)) free lock generation m k body is = unlocked new 0 refl (ap (λ (l : LinkParts). l.flags) may.2) lock
locked_stands fits {old = old} {new = new} n (inr (inr may)) free lock generation m k body is = unlocked new 1 refl (ap (λ (l : LinkParts). l.flags) may.4) lock

-- an own record that may be linked has no lock
pub published_unlocked : {s : ShapeFacts} {cells : List ShapeCell} {near : Near} {f flags : ℕ} {old : LinkParts} {setup : Setup} {body : List ℕ} {next : Option Near} {call : Option Call} → NodeIs s cells near f old → MayPublish flags setup near f old body next call
    → (g : ℕ) → g ≡ 3 → ¬ IsLocked (link_at body g)
published_unlocked {body = body} n may g field = unlocked (link_at body g) 0 refl (ap (λ (w : ℕ). (link_at body w).flags) field ∙ ap (λ (l : LinkParts). l.flags) (node_link n may.node))

-- nor has a record that may be taken out
pub taken_out_unlocked : {s : ShapeFacts} {cells : List ShapeCell} {gone : RefParts} {note : Note} {new : LinkParts} {i generation m : ℕ} {body : List ℕ}
    → FitsNear s cells (at_held gone note) i generation body m → IsLink new → (own : ℕ) × At note.words 0 (Some (packed_link own (marked_with new))) → (g : ℕ) → g ≡ 3 → ¬ IsLocked (link_at body g)
taken_out_unlocked {body = body} held in_range known g field = unlocked (link_at body g) 1 refl (ap (λ (w : ℕ). (link_at body w).flags) field ∙ ap (λ (l : LinkParts). l.flags) (noted_link held in_range known))

-- nor the link that is left in front of it
pub left_unlocked : (new : LinkParts) → new.flags ≡ 0 → ¬ IsLocked new
left_unlocked new none = unlocked new 0 refl none
