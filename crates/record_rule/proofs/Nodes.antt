-- The node of a step: a root, or a record that its caller holds, is there as the caller knows it.
use Rattle.std.proofs.Common.{◌≡◌, ℕ, ◌+◌, ◌-◌, ◌<◌, ◌≤◌, List, map, length, get_or, drop, true, sym, refl, ap, ◌∙◌, subst, arith, Some, ◌⊎◌, ⊎_elim, inl, inr}
use Rattle.std.proofs.lemmas.List.{get_or-drop, length-drop}
use mathlib.Core.Option.{some}
use lib.ListN.{get_elem?}
use Rattle.atomic_table.specs.Table.{State}
use Rattle.atomic_table.proofs.Lists.{at_map}
use Rattle.record_memory.specs.declared.books.Setup.{Setup}
use Rattle.record_memory.specs.declared.books.View.{View}
use Rattle.record_memory.specs.declared.books.Standing.{Standing}
use Rattle.record_memory.specs.declared.books.Standing.TheVariants.{TakenOut, Limbo}
use Rattle.record_memory.specs.declared.books.Place.{Place}
use Rattle.record_memory.specs.declared.books.Place.TheVariants.{Root, Linked, Of}
use Rattle.record_memory.specs.declared.steps.Word.TheVariants.{Field}
use Rattle.record_memory.specs.Memory.{address}
use Rattle.row_words.specs.Refs.{RefParts, LinkParts}
use Rattle.row_words.specs.Packing.{link_in, own_in, IsPackedLink}
use Rattle.record_rule.specs.Records.{Record, IsSetup, IsLinkField}
use Rattle.record_rule.specs.Inputs.{ShapeCell, root, out, shape_had, shape_at, shape_cell, guard_of, notes_of}
use Rattle.record_rule.specs.Facts.{At, word_in, at_root, at_held, ShapeFacts, FitsNear, is_root, CoverFacts}
use Rattle.record_rule.specs.Held.{HeldFits}
use Rattle.record_rule.specs.Laws.{NodeIs}
use Rattle.record_rule.specs.World.{Rule}
use Rattle.record_rule.specs.Links.{Origin, from_root, from_place, index_of, generation_at, note_in, near_of, Holds, node_step}
use Rattle.record_rule.proofs.Lists.{below_at, at_below, get_at, map_at}
use Rattle.record_rule.proofs.Steps.{book}
use Rattle.record_rule.proofs.Owners.{load_kept}
use Rattle.record_rule.proofs.HeldMoves.{HasBody, IsNode, fits_node}
use Rattle.record_rule.proofs.Moves.{IsSeenOrRoot, whole}
use Rattle.record_rule.proofs.Rebuilt.{not_held}
use Rattle.record_rule.specs.Recorded.{IsRootIndex, LeavesLink, LeavesWord, StepFits}
use Rattle.record_memory.specs.declared.steps.StepKind.{StepKind}
use Rattle.record_memory.specs.declared.steps.StepKind.TheVariants.{Load, Store, Swap, Add, Exchange}

-- a word of a record, as one of its body
pub body_word : (row : List ℕ) (f : ℕ) → 3 ≤ f → word_in (drop 3 row) f ≡ get_or row f 0
body_word row f low = get_or-drop 3 row (f - 3) 0 ∙ ap (λ (k : ℕ). get_or row k 0) (let e : 3 + (f - 3) ≡ f = omega arith in e)

-- what a cell with a body says of its record
pub record IsBodyOf (p : Place) (r : Record) (generation : ℕ) (body : List ℕ) (m : ℕ) : Type 0 where
  pub generation_is : r.generation ≡ generation
  pub body_is : drop 3 r.row ≡ body
  pub marked_is : r.marked ≡ m
  pub seen : IsSeenOrRoot p

-- by whose it is
body_had : (c generation m : ℕ) (body : List ℕ) (s : Standing) (r : Record) → HasBody (shape_had s r) generation body m → IsBodyOf (Of c s) r generation body m
body_had c generation m body TakenOut r h = record { generation_is = cc; body_is = cc; marked_is = cc; seen = tt }
body_had c generation m body Limbo r h = record { generation_is = cc; body_is = cc; marked_is = cc; seen = tt }
body_had c generation m body s r h = let none : ⊥ = cc in absurd none

-- and by where it is
pub body_at : (generation m : ℕ) (body : List ℕ) (p : Place) (r : Record) → HasBody (shape_at p r) generation body m → IsBodyOf p r generation body m
body_at generation m body Root r h = record { generation_is = cc; body_is = cc; marked_is = cc; seen = tt }
body_at generation m body Linked r h = record { generation_is = cc; body_is = cc; marked_is = cc; seen = tt }
body_at generation m body (Of c s) r h = body_had c generation m body s r h
body_at generation m body p r h = let none : ⊥ = cc in absurd none

-- the table has the root
abbrev IsRooted : Setup → Origin → Type 0
IsRooted setup (from_root n) = n < setup.roots
IsRooted setup (from_place p r) = Unit {0}

-- a step on a root
root_leaves : (setup : Setup) (i : ℕ) (kind : StepKind) (found left : ℕ) → IsRootIndex setup i → own_in found ≡ setup.first → own_in left ≡ setup.first → LeavesLink kind found left → LeavesWord setup i kind found left
root_leaves setup i Load found left at_it own own_left on = (on, λ _. own)
root_leaves setup i Store found left at_it own own_left on = inr ((at_it, own, own_left), on)
root_leaves setup i Swap found left at_it own own_left on = on
root_leaves setup i Add found left at_it own own_left on = on
root_leaves setup i Exchange found left at_it own own_left on = (at_it, own, own_left)

-- a load, or an exchange that is refused, leaves what it found
leaves_same : (kind : StepKind) (n : ℕ) → (kind ≡ Load) ⊎ (kind ≡ Exchange) → LeavesLink kind n n
leaves_same kind n on = ⊎_elim (λ x. subst (λ (k : StepKind). LeavesLink k n n) (sym x) refl) (λ x. subst (λ (k : StepKind). LeavesLink k n n) (sym x) tt) on

-- a step on a node is of one of three kinds
node_kind : (kind : StepKind) (found left : ℕ) → LeavesLink kind found left → (kind ≡ Load) ⊎ ((kind ≡ Store) ⊎ (kind ≡ Exchange))
node_kind Load found left on = inl refl
node_kind Store found left on = inr (inl refl)
node_kind Swap found left on = absurd on
node_kind Add found left on = absurd on
node_kind Exchange found left on = inr (inr refl)

module _ (shape : ShapeFacts) (cover : CoverFacts) (setup : Setup) (is_setup : IsSetup setup) (t : State (Unit {0}) View) (u : Rule shape cover setup t) (id : ℕ) (v : View) (at : get_elem? t.views id ≡ some v) (present : v.present ≡ true) where
  -- how a set sees the records
  abbrev cells : List ShapeCell
  cells = map shape_cell u.records

  -- the record that a step is on
  pub record NodeOf (o : Origin) : Type 0 where
    pub node : Record
    pub there : At u.records (index_of o - 1) node
    pub some_index : 0 < index_of o
    pub rooted : IsRooted setup o
    pub seen : IsSeenOrRoot node.place
    pub generation : node.generation ≡ generation_at setup o
    pub fits : FitsNear shape cells (near_of v o) (index_of o - 1) node.generation (drop 3 node.row) node.marked
    pub body : HasBody (shape_cell node) node.generation (drop 3 node.row) node.marked
    pub behind : (k e m : ℕ) (b : List ℕ) → shape_cell node ≡ out e b m k → v.own.guard.start_taken_out ≤ k

  -- the caller's book
  abbrev own_there : get_elem? u.books v.own.caller ≡ some v.own
  own_there = book shape cover setup t u id v at present

  -- what the caller holds fits
  pub own_held : HeldFits shape cover.places cells u.taken_out v.own.guard v.own.notes
  own_held = u.parts.held v.own.caller v.own.guard v.own.notes (at_map guard_of u.books v.own.caller v.own own_there) (at_map notes_of u.books v.own.caller v.own own_there)

  -- the note of what is held at a place
  pub note_there : (p : ℕ) (r : RefParts) → At v.own.guard.holds p (Some r) → At v.own.notes p (note_in v.own.notes p)
  note_there p r hold = let x = at_below v.own.notes p (let l = below_at v.own.guard.holds p (Some r) hold in let a = own_held.many in let b = own_held.noted in omega arith) in
      x.1 ∙ ap some (sym (get_at v.own.notes p x.0 _ x.1))

  -- a root
  root_node : (n : ℕ) → n < v.setup.roots → NodeOf (from_root n)
  root_node n h = let k : v.setup ≡ setup = (u.seated id v at).setup_is present in let low : n < setup.roots = (let e = ap (λ (z : Setup). z.roots) k in omega arith) in
      let x = at_below u.records n (let m = u.places.many in let f = is_setup.rooted in omega arith) in let r : Record = x.0 in let is : r.place ≡ _ = (u.places.sound n r x.1).roots low in
      let cell : shape_cell r ≡ root r.generation (drop 3 r.row) r.marked = ap (λ (p : Place). shape_at p r) is in
      let here : At u.records (n + 1 - 1) r = subst (λ (z : ℕ). At u.records z r) (let e : n ≡ n + 1 - 1 = omega arith in e) x.1 in record {
        node = r;
        there = here;
        some_index = omega arith;
        rooted = low;
        seen = subst IsSeenOrRoot (sym is) tt;
        generation = (u.places.sound n r x.1).root_generation is;
        fits = subst (λ (z : ℕ). FitsNear shape cells (at_root n) z r.generation (drop 3 r.row) r.marked) (let e : n ≡ n + 1 - 1 = omega arith in e) (is_root n r.generation r.marked (drop 3 r.row) (at_map shape_cell u.records n r x.1 ∙ ap some cell));
        body = subst (λ (c : ShapeCell). HasBody c r.generation (drop 3 r.row) r.marked) (sym cell) refl;
        behind = λ k e m b q. let none : ⊥ = (let z : root r.generation (drop 3 r.row) r.marked ≡ out e b m k = sym cell ∙ q in cc) in absurd none;
      }

  -- a held record, with what its holder knows of it
  node_as : (p : ℕ) (r : RefParts) (n : IsNode shape cells v.own.guard.start_taken_out r (note_in v.own.notes p)) (q : Record) → At u.records n.index q → shape_cell q ≡ n.cell → NodeOf (from_place p r)
  node_as p r n q there is = let b = body_at n.generation n.marked n.body q.place q (subst (λ (c : ShapeCell). HasBody c n.generation n.body n.marked) (sym is) n.has_body) in
      let index : n.index ≡ r.index - 1 = (let e = ap (λ (z : RefParts). z.index) n.reference in omega arith) in record {
        node = q;
        there = subst (λ (z : ℕ). At u.records z q) index there;
        some_index = let e = ap (λ (z : RefParts). z.index) n.reference in omega arith;
        rooted = tt;
        seen = b.seen;
        generation = b.generation_is ∙ sym (ap (λ (z : RefParts). z.generation) n.reference);
        fits = subst (λ (z : ℕ × (ℕ × (List ℕ × ℕ))). FitsNear shape cells (at_held r (note_in v.own.notes p)) z.0 z.1.0 z.1.1.0 z.1.1.1) (λ k. (index k, (sym b.generation_is k, (sym b.body_is k, sym b.marked_is k)))) n.fits;
        body = subst (λ (z : ShapeCell × (ℕ × (List ℕ × ℕ))). HasBody z.0 z.1.0 z.1.1.0 z.1.1.1) (λ k. (sym is k, (sym b.generation_is k, (sym b.body_is k, sym b.marked_is k)))) n.has_body;
        behind = λ k e m l z. n.behind k e m l (sym is ∙ z);
      }

  -- such a record is at the place
  held_node : (p : ℕ) (r : RefParts) → At v.own.guard.holds p (Some r) → NodeOf (from_place p r)
  held_node p r hold = let n = fits_node shape cover.places cells u.taken_out v.own.guard v.own.notes p r (note_in v.own.notes p) own_held hold (note_there p r hold) in
      let x = map_at shape_cell u.records n.index n.cell n.at in node_as p r n x.0 x.1 x.2

  -- the node of each step
  pub node_of : (o : Origin) → Holds v o → NodeOf o
  node_of (from_root n) h = root_node n h
  node_of (from_place p r) h = held_node p r h

  -- where its caller holds it, that is so, and there is a note of it
  pub noted_there : (o : Origin) → Holds v o → (p : ℕ) (r : RefParts) → o ≡ from_place p r → At v.own.guard.holds p (Some r) × At v.own.notes p (note_in v.own.notes p)
  noted_there o holds p r is = let hold : At v.own.guard.holds p (Some r) = subst (Holds v) is holds in (hold, note_there p r hold)

  module _ (o : Origin) (n : NodeOf o) where
    -- its body is five words
    pub five : length (drop 3 n.node.row) ≡ 5
    five = let e = (u.places.sound (index_of o - 1) n.node n.there).eight in let l = length-drop 3 n.node.row in omega arith

    -- the node as the laws of a set take it, with this link in one of its words
    abbrev pub node_with : (f : ℕ) (l : LinkParts) → 3 ≤ f → link_in (get_or n.node.row f 0) ≡ l → NodeIs shape cells (near_of v o) f l
    node_with f l low is = record {
      index = index_of o - 1;
      cell = shape_cell n.node;
      at = at_map shape_cell u.records (index_of o - 1) n.node n.there;
      generation = n.node.generation;
      body = drop 3 n.node.row;
      long = five;
      marked = n.node.marked;
      fits = n.fits;
      word = ap link_in (body_word n.node.row f low) ∙ is;
    }

    -- a step finds the node's word
    pub found_word : (word f : ℕ) → word ≡ address setup.callers (Field (index_of o) f) → f < 8 → get_or t.words word 0 ≡ get_or n.node.row f 0
    found_word word f is high = ap (λ (z : ℕ). get_or t.words z 0) is ∙ load_kept shape cover setup t u id v at present (index_of o) f n.node n.some_index high n.there

    -- which is a link
    pub found_link : (f k : ℕ) → IsLinkField f → k ≡ get_or n.node.row f 0 → IsPackedLink k
    found_link f k field found = subst IsPackedLink (sym found) ((u.places.sound (index_of o - 1) n.node n.there).links f field).0

  -- what a step on the node finds has the node's generation
  pub found_own : (o : Origin) (n : NodeOf o) (word f : ℕ) → word ≡ address setup.callers (Field (index_of o) f) → f < 8 → own_in (get_or t.words word 0) ≡ generation_at setup o
  found_own o n word f is high = ap own_in (found_word o n word f is high) ∙ (u.places.sound (index_of o - 1) n.node n.there).generations f high ∙ whole n.node.place n.node.generation f (λ d k e. subst IsSeenOrRoot e n.seen) ∙ n.generation

  -- so does a step that says it found a word with this generation, and left one
  pub finds_held : (o : Origin) → NodeOf o → (kind : StepKind) (f found left : ℕ) → own_in found ≡ generation_at setup o → own_in left ≡ generation_at setup o → LeavesLink kind found left
      → StepFits setup v.own.caller (node_step v kind o f found left)
  finds_held (from_root m) n kind f found left own own_left on = let low : m < setup.roots = n.rooted in let within : m < length u.records = below_at u.records m n.node (subst (λ (z : ℕ). At u.records z n.node) (let e : m + 1 - 1 ≡ m = omega arith in e) n.there) in
      let at_it : IsRootIndex setup (m + 1) = (omega arith, omega arith, let e = u.places.many in omega arith) in
      not_held setup v.own.caller (node_step v kind (from_root m) f found left) refl (node_kind kind found left on) (λ i g e. let same : m + 1 ≡ i = cc in
      subst (λ (z : ℕ). LeavesWord setup z kind found left) same (root_leaves setup (m + 1) kind found left at_it own own_left on))
  finds_held (from_place p r) n kind f found left own own_left on = record {
    kind = node_kind kind found left on;
    by = λ q e. on;
    word = λ q e. let same : r ≡ q = cc in (f, ap (λ (z : RefParts). Field z.index f) same);
    own = λ q e. let same : r ≡ q = cc in own ∙ ap (λ (z : RefParts). z.generation) same;
    left = λ q e. let same : r ≡ q = cc in own_left ∙ ap (λ (z : RefParts). z.generation) same;
    unheld = λ e. let wrong : ⊥ = cc in absurd wrong;
  }

  pub node_finds : (o : Origin) (n : NodeOf o) (kind : StepKind) (word f : ℕ) → word ≡ address setup.callers (Field (index_of o) f) → f < 8 → (kind ≡ Load) ⊎ (kind ≡ Exchange) → StepFits setup v.own.caller (node_step v kind o f (get_or t.words word 0) (get_or t.words word 0))
  node_finds o n kind word f is high on = let own = found_own o n word f is high in finds_held o n kind f (get_or t.words word 0) (get_or t.words word 0) own own (leaves_same kind (get_or t.words word 0) on)
