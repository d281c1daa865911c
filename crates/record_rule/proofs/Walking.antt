-- A walk over the rows of a table comes to the same records as one over what the set sees of them.
use Rattle.std.proofs.Common.{◌≡◌, ℕ, ◌-◌, ◌<◌, ◌≤◌, List, map, length, drop, arith, inl, inr, sym, refl, ap, ◌∙◌, subst}
use mathlib.Core.Option.{some}
use Rattle.atomic_table.proofs.Lists.{at_map}
use Rattle.set_model.specs.declared.calls.Update.{Update}
use Rattle.set_model.specs.declared.names.SetName.{SetName}
use Rattle.set_model.specs.declared.names.SetName.TheVariants.{Plain, Michael, Lazy}
use Rattle.record_memory.specs.declared.books.Setup.{Setup}
use Rattle.record_memory.specs.declared.books.Standing.{Standing}
use Rattle.record_memory.specs.declared.books.Standing.TheVariants.{TakenOut}
use Rattle.record_memory.specs.declared.books.Place.{Place}
use Rattle.record_memory.specs.declared.books.Place.TheVariants.{Root, Of}
use Rattle.row_words.specs.Refs.{RefParts}
use Rattle.record_rule.specs.Records.{Record, IsSound, carried}
use Rattle.record_rule.specs.Inputs.{root, linked, shape_cell, shape_at, shape_had}
use Rattle.record_rule.specs.Facts.{At, ShapeFacts}
use Rattle.record_rule.specs.Walks.{Ground, LeadsOn, IsWalked, from_root, from_record, IsOnWalk, Reads, read_for, cells_ground, HasRoots, rows_ground}
use Rattle.record_rule.specs.Laws.{LeadsTo}
use Rattle.record_rule.proofs.Lists.{one_at, map_at, at_below}
use Rattle.record_rule.proofs.Safe.{linked_place}

-- a record that a caller has is no root
no_root_had : (s : Standing) (r : Record) (generation m : ℕ) (body : List ℕ) → shape_had s r ≡ root generation body m → ⊥
no_root_had TakenOut r generation m body e = cc
no_root_had s r generation m body e = cc

-- a record that a set sees as a root is one
root_place : (generation m : ℕ) (body : List ℕ) (p : Place) (r : Record) → shape_at p r ≡ root generation body m → (p ≡ Root) × (drop 3 r.row ≡ body)
root_place generation m body Root r e = let y : drop 3 r.row ≡ body = cc in (refl, y)
root_place generation m body (Of c s) r e = absurd (no_root_had s r generation m body e)
root_place generation m body p r e = let none : ⊥ = cc in absurd none

-- the same keys are read where the same records are come to
same_read : (name : SetName) (g h : Ground) (updates : List Update) → ((k : ℕ) → Reads g k → Reads h k) → ((k : ℕ) → Reads h k → Reads g k) → read_for name g updates → read_for name h updates
same_read Plain g h updates there back was = λ k. (λ has. there k ((was k).0 has), λ r. (was k).1 (back k r))
same_read Michael g h updates there back was = λ k. (λ has. there k ((was k).0 has), λ r. (was k).1 (back k r))
same_read Lazy g h updates there back was = λ k. (λ has. there k ((was k).0 has), λ r. (was k).1 (back k r))

module _ (s : ShapeFacts) (setup : Setup) (records : List Record) (sound : (i : ℕ) (r : Record) → At records i r → IsSound setup i r) where
  abbrev row_of : Record → List ℕ
  row_of r = r.row

  -- what the set sees, and the rows
  abbrev cells : Ground
  cells = cells_ground s (map shape_cell records)

  abbrev rows : Ground
  rows = rows_ground s setup.roots (map row_of records)

  -- a root that the set sees is one of the first rows
  root_row : (body : List ℕ) → cells.root body → rows.root body
  root_row body (i, generation, m, at) =
      let x = map_at shape_cell records i (root generation body m) at in
      let p = root_place generation m body x.0.place x.0 x.2 in
      (i, x.0.row, (sound i x.0 x.1).no_root p.0, at_map row_of records i x.0 x.1, p.1)

  -- and each of the first rows is a root's
  row_root : (body : List ℕ) → rows.root body → cells.root body
  row_root body (i, row, low, at, is) =
      let x = map_at row_of records i row at in
      let cell : shape_cell x.0 ≡ root x.0.generation (drop 3 x.0.row) x.0.marked = ap (λ (p : Place). shape_at p x.0) ((sound i x.0 x.1).roots low) in
      let same : drop 3 x.0.row ≡ body = ap (drop 3) x.2 ∙ is in
      (i, x.0.generation, x.0.marked, at_map shape_cell records i x.0 x.1 ∙ ap some (cell ∙ ap (λ (b : List ℕ). root x.0.generation b x.0.marked) same))

  -- the row of a linked record carries its generation
  named_row : (t : RefParts) (body : List ℕ) → cells.named t body → rows.named t body
  named_row t body (m, some_index, at) =
      let x = map_at shape_cell records (t.index - 1) (linked t.generation body m) at in
      let p = linked_place t.generation m body x.0.place x.0 x.2 in (
        x.0.row,
        some_index,
        at_map row_of records (t.index - 1) x.0 x.1,
        λ f low. (sound (t.index - 1) x.0 x.1).generations f low ∙ ap (λ (z : Place). carried z x.0.generation f) p.0 ∙ p.1,
        p.2,
      )

  -- so a walk over what the set sees is one over the rows
  cells_rows : (t : RefParts) (body : List ℕ) → IsWalked cells t body → IsWalked rows t body
  cells_rows _ _ (from_root body t next is on named) = from_root body t next (root_row body is) on (named_row t next named)
  cells_rows _ _ (from_record r body t next walked on named) = from_record r body t next (cells_rows r body walked) on (named_row t next named)

  -- the first records are roots
  pub has_roots : 0 < setup.roots → setup.roots ≤ length records → HasRoots setup (map shape_cell records)
  has_roots some_root rooted = record {
    some_root = some_root;
    each = λ i low. let x = at_below records i (omega arith) in
        (x.0.generation, x.0.marked, drop 3 x.0.row, at_map shape_cell records i x.0 x.1 ∙ ap some (ap (λ (p : Place). shape_at p x.0) ((sound i x.0 x.1).roots low)));
  }

  module _ (walks : (body : List ℕ) (t : RefParts) → IsOnWalk cells body → LeadsOn s.leads body t → LeadsTo (map shape_cell records) t) where
    -- where a walk goes on, the row is that of a linked record
    row_named : (t : RefParts) (body : List ℕ) → LeadsTo (map shape_cell records) t → rows.named t body → cells.named t body
    row_named t body (b, m, some_index, at) (row, index, there, carries, is) =
        let x = map_at shape_cell records (t.index - 1) (linked t.generation b m) at in
        let p = linked_place t.generation m b x.0.place x.0 x.2 in
        let same : b ≡ body = sym p.2 ∙ ap (drop 3) (one_at (map row_of records) (t.index - 1) x.0.row row (at_map row_of records (t.index - 1) x.0 x.1) there) ∙ is in
        (m, some_index, subst (λ (z : List ℕ). At (map shape_cell records) (t.index - 1) (linked t.generation z m)) same at)

    -- so a walk over the rows is one over what the set sees
    rows_cells : (t : RefParts) (body : List ℕ) → IsWalked rows t body → IsWalked cells t body
    rows_cells _ _ (from_root body t next is on named) = let here = row_root body is in from_root body t next here on (row_named t next (walks body t (inl here) on) named)
    rows_cells _ _ (from_record r body t next walked on named) = let here = rows_cells r body walked in from_record r body t next here on (row_named t next (walks body t (inr (r, here)) on) named)

    -- and both read the same
    pub rows_read : (updates : List Update) → read_for s.name cells updates → read_for s.name rows updates
    rows_read updates was = same_read s.name cells rows updates
        (λ k r. record { ref = r.ref; body = r.body; walked = cells_rows r.ref r.body r.walked; present = r.present; kind = r.kind; key = r.key })
        (λ k r. record { ref = r.ref; body = r.body; walked = rows_cells r.ref r.body r.walked; present = r.present; kind = r.kind; key = r.key })
        was
