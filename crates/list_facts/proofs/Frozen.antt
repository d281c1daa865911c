-- A link of word 3, marked or not, leads to a linked record, or to one that was taken out later than its node.
use Rattle.std.proofs.Common.{◌≡◌, ℕ, ◌≤◌, ◌⊎◌, List, Some, refl, ◌∙◌, arith, inl, inr, ⊎_elim}
use Rattle.record_memory.specs.declared.books.Setup.{Setup}
use Rattle.row_words.specs.Refs.{RefParts, LinkParts}
use Rattle.record_rule.specs.Inputs.{ShapeCell, root, linked, out, ShapeInput}
use Rattle.record_rule.specs.Facts.{At, link_at, Near, ShapeFacts, FitsNear, is_root, is_linked, is_out}
use Rattle.record_rule.specs.Laws.{NodeIs, LeadsTo}
use Rattle.record_rule.proofs.Lists.{one_at}
use Rattle.list_facts.specs.Lists.{ListFits}
use Rattle.list_facts.proofs.Cells.{linked_spot, leads_linked}
use Rattle.list_facts.proofs.Nodes.{target_is}

-- as the law has it
abbrev pub Follows : ShapeInput → ShapeCell → RefParts → Type 0
Follows x cell t = LeadsTo x.cells t ⊎ ((k : ℕ) × (generation : ℕ) × (m : ℕ) × (body : List ℕ) × (cell ≡ out generation body m k) × (j : ℕ) × (k ≤ j) × At x.taken_out j t)

follows_from : {flags : ℕ → Type 0} {setup : Setup} {x : ShapeInput} → ListFits flags setup x → (s : ShapeFacts) (near : Near) (i generation m : ℕ) (body : List ℕ) (cell : ShapeCell) (t : RefParts) → At x.cells i cell → FitsNear s x.cells near i generation body m
    → (link_at body 3).target ≡ Some t → Follows x cell t
follows_from {setup = setup} {x = x} fits s _ i generation m body cell t at (is_root j e k b there) e3 = inl
    (leads_linked setup x.cells (record { home = i; rank = 0; generation = generation; body = body }) t (fits.next i (record { home = i; rank = 0; generation = generation; body = body }) t (root generation body m, there, refl) e3))
follows_from {setup = setup} {x = x} fits s _ i generation m body cell t at (is_linked j e k b note there known) e3 = inl (leads_linked setup x.cells (linked_spot setup generation body) t (fits.next i (linked_spot setup generation body) t (linked generation body m, there, refl) e3))
follows_from {x = x} fits s _ i generation m body cell t at (is_out j e k n b note there known) e3 = ⊎_elim inl (λ y. inr (n, generation, m, body, one_at x.cells i cell (out generation body m n) at there, y.0, (let z = y.1 in omega arith), y.2)) (fits.later i generation m n body t there e3)

pub leads_from : {flags : ℕ → Type 0} {setup : Setup} {x : ShapeInput} → ListFits flags setup x → {s : ShapeFacts} {near : Near} {f : ℕ} {l : LinkParts} (n : NodeIs s x.cells near f l) → f ≡ 3 → (t : RefParts) → l.target ≡ Some t → Follows x n.cell t
leads_from fits {s = s} {near = near} n field t to = follows_from fits s near n.index n.generation n.marked n.body n.cell t n.at n.fits (target_is n field ∙ to)

-- so what a guard that started before the node was taken out finds there was taken out behind its start, or is linked
pub follows_behind : (x : ShapeInput) {cell : ShapeCell} {t : RefParts} {start : ℕ} → Follows x cell t → ((k generation m : ℕ) (body : List ℕ) → cell ≡ out generation body m k → start ≤ k) → LeadsTo x.cells t ⊎ ((k : ℕ) × (start ≤ k) × At x.taken_out k t)
follows_behind x leads behind = ⊎_elim inl (λ (k, generation, m, body, is, j, late, at). let b = behind k generation m body is in inr (j, omega arith, at)) leads
