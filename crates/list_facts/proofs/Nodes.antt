-- The node of a step: what its caller knows of it, which cell it is, and where it stands.
use Rattle.std.proofs.Common.{◌≡◌, ℕ, ◌+◌, ◌-◌, ◌%◌, List, Some, None, sym, refl, ap, ◌∙◌, arith}
use Rattle.row_words.specs.Refs.{RefParts, LinkParts, refer}
use Rattle.row_words.specs.Packing.{key_in}
use Rattle.record_memory.specs.declared.books.Setup.{Setup}
use Rattle.record_memory.specs.declared.books.Note.{Note}
use Rattle.record_rule.specs.Inputs.{ShapeCell, root, linked, out, ShapeInput}
use Rattle.record_rule.specs.Facts.{At, link_at, key_at, HasMark, Near, at_root, at_held, ShapeFacts, FitsNote, FitsNear, is_root, is_linked, is_out}
use Rattle.record_rule.specs.Laws.{NodeIs, root_at, recelled}
use Rattle.record_rule.proofs.Lists.{get_at, one_at}
use Rattle.list_facts.specs.Lists.{Spot, spot, IsSpot, ListFits}
use Rattle.list_facts.specs.Tellings.{rank_at, home_at}
use Rattle.list_facts.specs.Steps.{key_in_note, key_noted, rank_near, home_near, IsKeyed, IsRecord}
use Rattle.list_facts.proofs.Spots.{Alike}
use Rattle.list_facts.proofs.Cells.{no_spot, rank_linked}

-- the key of a note is the body's
pub noted_key : (s : ShapeFacts) (note : Note) (body : List ℕ) → FitsNote s note body → (n : ℕ) × At note.words 1 (Some n) → key_noted note ≡ key_at body
noted_key s note body known (n, at) = ap key_in_note (get_at note.words 1 (Some n) None at) ∙ ap key_in (sym (known 1 n at).0)

-- a held record is the one that its reference names
abbrev pub IsNamed : Near → ℕ → ℕ → Type 0
IsNamed (at_root n) i generation = Unit {0}
IsNamed (at_held r note) i generation = r ≡ refer (i + 1) generation

-- the cell of a node without a mark
abbrev pub cell_near : Near → ℕ → List ℕ → ℕ → ShapeCell
cell_near (at_root n) generation body m = root generation body m
cell_near (at_held r note) generation body m = linked generation body m

-- where it stands
abbrev pub spot_near : ShapeFacts → Setup → Near → ℕ → List ℕ → Spot
spot_near s setup near generation body = record { home = home_at setup (root_at s near) body; rank = rank_at (root_at s near) body; generation = generation; body = body }

-- it is of the same kind with another body
recelled_near : (near : Near) (generation m m' : ℕ) (body body' : List ℕ) → recelled (cell_near near generation body m) body' m' ≡ cell_near near generation body' m'
recelled_near (at_root n) generation m m' body body' = refl
recelled_near (at_held r note) generation m m' body body' = refl

-- and in the same place where the key is the same
pub alike_near : (s : ShapeFacts) (setup : Setup) (near : Near) (generation : ℕ) (body body' : List ℕ) → key_at body' ≡ key_at body → Alike (spot_near s setup near generation body') (spot_near s setup near generation body)
alike_near s setup (at_root n) generation body body' e = record { home = refl; rank = refl; generation = refl }
alike_near s setup (at_held r note) generation body body' e = record { home = ap (λ (k : ℕ). k % setup.roots) e; rank = ap (λ (k : ℕ). k + 1) e; generation = refl }

-- where it is a linked record, it is one with another body
pub linked_near : (near : Near) (generation generation' m m' n : ℕ) (body body' other : List ℕ) → cell_near near generation body m ≡ linked generation' other n → cell_near near generation body' m' ≡ linked generation' body' m'
linked_near (at_root i) generation generation' m m' n body body' other e = let none : ⊥ = cc in absurd none
linked_near (at_held r note) generation generation' m m' n body body' other e = let z : generation ≡ generation' = cc in ap (λ (g : ℕ). linked g body' m') z

-- a held record's is one
pub record_near : (near : Near) (generation m : ℕ) (body : List ℕ) → IsRecord near → cell_near near generation body m ≡ linked generation body m
record_near (at_root i) generation m body held = absurd held
record_near (at_held r note) generation m body held = refl

module _ {s : ShapeFacts} {cells : List ShapeCell} where
  -- a held record's reference
  pub named : {near : Near} {i generation m : ℕ} {body : List ℕ} → FitsNear s cells near i generation body m → IsNamed near i generation
  named (is_root i generation m body at) = tt
  named (is_linked i generation m body note at known) = refl
  named (is_out i generation m n body note at known) = refl

  -- the index of a held record
  pub index_held : {r : RefParts} {note : Note} {i generation m : ℕ} {body : List ℕ} → FitsNear s cells (at_held r note) i generation body m → r.index - 1 ≡ i
  index_held {r = r} {i = i} known = let z : r.index ≡ i + 1 = ap (λ (t : RefParts). t.index) (named known) in omega arith

  -- the rank that a caller knows of a node is the node's
  pub rank_known : {near : Near} {i generation m : ℕ} {body : List ℕ} → FitsNear s cells near i generation body m → IsKeyed near → rank_near near ≡ rank_at (root_at s near) body
  rank_known (is_root i generation m body at) keyed = refl
  rank_known (is_linked i generation m body note at known) keyed = ap (λ k. k + 1) (noted_key s note body known keyed)
  rank_known (is_out i generation m n body note at known) keyed = ap (λ k. k + 1) (noted_key s note body known keyed)

  -- and so is the list
  pub home_known : {near : Near} {i generation m : ℕ} {body : List ℕ} → (setup : Setup) → FitsNear s cells near i generation body m → IsKeyed near → home_near setup near ≡ home_at setup (root_at s near) body
  home_known setup (is_root i generation m body at) keyed = refl
  home_known setup (is_linked i generation m body note at known) keyed = ap (λ k. k % setup.roots) (noted_key s note body known keyed)
  home_known setup (is_out i generation m n body note at known) keyed = ap (λ k. k % setup.roots) (noted_key s note body known keyed)

  -- where a node without a mark stands, whatever its body
  pub near_spot : {near : Near} {i generation m : ℕ} {body : List ℕ} → (setup : Setup) → FitsNear s cells near i generation body m → (body' : List ℕ) (m' : ℕ) → spot setup i (cell_near near generation body' m') ≡ Some (spot_near s setup near generation body')
  near_spot setup (is_root i generation m body at) body' m' = refl
  near_spot setup (is_linked i generation m body note at known) body' m' = refl
  near_spot setup (is_out i generation m n body note at known) body' m' = refl

  -- a held record that stands in a list is linked
  pub spot_held : {near : Near} {i generation m : ℕ} {body : List ℕ} → (setup : Setup) (a : Spot) → FitsNear s cells near i generation body m → IsRecord near → IsSpot setup cells i a → At cells i (linked generation body m) × (a.rank ≡ key_at body + 1)
  spot_held setup a (is_root i generation m body at) held stands = absurd held
  spot_held setup a (is_linked i generation m body note at known) held stands = (at, rank_linked setup cells i generation m body a at stands)
  spot_held setup a (is_out i generation m n body note at known) held stands = absurd (no_spot setup cells i (out generation body m n) a at refl stands)

  module _ {near : Near} {f : ℕ} {l : LinkParts} (n : NodeIs s cells near f l) (field : f ≡ 3) where
    -- a node's link in word 3
    pub link_is : link_at n.body 3 ≡ l
    link_is = ap (λ g. link_at n.body g) (sym field) ∙ n.word

    -- leads where the link does
    pub target_is : (link_at n.body 3).target ≡ l.target
    target_is = ap (λ (q : LinkParts). q.target) link_is

    -- and has no mark where that has none
    pub clean_link : ¬ HasMark l → ¬ HasMark (link_at n.body 3)
    clean_link clear = rw link_is clear

module _ {flags : ℕ → Type 0} {setup : Setup} {x : ShapeInput} (fits : ListFits flags setup x) {s : ShapeFacts} where
  -- a node without a mark is a root or a linked record
  pub cell_fits : {near : Near} {i generation m : ℕ} {body : List ℕ} → FitsNear s x.cells near i generation body m → ¬ HasMark (link_at body 3) → At x.cells i (cell_near near generation body m)
  cell_fits (is_root i generation m body at) clear = at
  cell_fits (is_linked i generation m body note at known) clear = at
  cell_fits (is_out i generation m n body note at known) clear = absurd (clear (fits.sorted i (out generation body m n) at).1)

  -- and stands in a list
  pub spot_fits : {near : Near} {i generation m : ℕ} {body : List ℕ} → FitsNear s x.cells near i generation body m → ¬ HasMark (link_at body 3) → IsSpot setup x.cells i (spot_near s setup near generation body)
  spot_fits {near = near} {generation = generation} {m = m} {body = body} known clear = (cell_near near generation body m, cell_fits known clear, near_spot setup known body m)

  -- no link has other flags
  pub flags_fit : {near : Near} {i generation m : ℕ} {body : List ℕ} → FitsNear s x.cells near i generation body m → flags (link_at body 3).flags
  flags_fit (is_root i generation m body at) = (fits.sorted i (root generation body m) at).0
  flags_fit (is_linked i generation m body note at known) = (fits.sorted i (linked generation body m) at).0
  flags_fit (is_out i generation m n body note at known) = (fits.sorted i (out generation body m n) at).0

  -- a node whose link has no mark, and what it is where this link was left
  module _ {near : Near} {f : ℕ} {l : LinkParts} (n : NodeIs s x.cells near f l) (field : f ≡ 3) (clear : ¬ HasMark l) where
    -- its cell
    pub node_at : At x.cells n.index (cell_near near n.generation n.body n.marked)
    node_at = cell_fits n.fits (clean_link n field clear)

    -- its spot
    pub node_spot : IsSpot setup x.cells n.index (spot_near s setup near n.generation n.body)
    node_spot = spot_fits n.fits (clean_link n field clear)

    -- its cell with another body
    pub relinked_is : (body : List ℕ) (m : ℕ) → recelled n.cell body m ≡ cell_near near n.generation body m
    relinked_is body m = ap (λ (c : ShapeCell). recelled c body m) (one_at x.cells n.index n.cell (cell_near near n.generation n.body n.marked) n.at node_at) ∙ recelled_near near n.generation n.marked m n.body body
