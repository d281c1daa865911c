-- What a load of a link shows is true of the history.
use Rattle.std.proofs.Common.{◌≡◌, ℕ, ◌+◌, ◌-◌, ◌%◌, ◌<◌, List, Option, Some, None, MatchOption, sym, refl, ap, ◌∙◌, subst, arith}
use Rattle.std.proofs.lemmas.Bool.{false_from_ne_true}
use Rattle.set_model.specs.Keys.{contains}
use Rattle.set_model.specs.Histories.{keys_of}
use Rattle.row_words.specs.Refs.{RefParts, LinkParts}
use Rattle.record_memory.specs.declared.books.Setup.{Setup}
use Rattle.record_rule.specs.Inputs.{ShapeCell, linked, out, ShapeInput, Start, Trace}
use Rattle.record_rule.specs.Facts.{At, link_at, key_at, Near, at_root, at_held, ShapeFacts}
use Rattle.record_rule.specs.Laws.{NodeIs, root_at, TargetSeen, no_target, lost, there, there_out}
use Rattle.list_facts.specs.Lists.{ListFits, Spot, IsSpot}
use Rattle.list_facts.specs.Tellings.{IsPresent, ListTold, rank_of, IsTargetSeen, ListShown}
use Rattle.list_facts.proofs.Spots.{nothing_between}
use Rattle.list_facts.proofs.Cells.{linked_spot, one_spot, no_spot, rank_linked, ordered}
use Rattle.list_facts.proofs.Nodes.{cell_near, spot_near, cell_fits, spot_fits, flags_fit, target_is}

-- what stands at a link's target, where that was seen, has the rank that was seen
above_seen : (s : ShapeFacts) (setup : Setup) (cells : List ShapeCell) {link : Option RefParts} {target : Option (List ℕ)} → TargetSeen s cells link target → (t : RefParts) (k : ℕ) (a : Spot) → link ≡ Some t → IsTargetSeen link target → IsSpot setup cells (t.index - 1) a
    → MatchOption (rank_of target) (Unit {0}) (λ r. k + 1 < r) → k + 1 < a.rank
above_seen s setup cells no_target t k a is seen stands high = let no : ⊥ = cc in absurd no
above_seen s setup cells (lost u) t k a is seen stands high = let none = seen.1 in let no : ⊥ = cc in absurd no
above_seen s setup cells (there u body m at) t k a is seen stands high =
    let same : u ≡ t = cc in
    omega (arith, rank_linked setup cells (t.index - 1) t.generation m body a (subst (λ (r : RefParts). At cells (r.index - 1) (linked r.generation body m)) same at) stands, high)
above_seen s setup cells (there_out u body m n at) t k a is seen stands high =
    let same : u ≡ t = cc in
    absurd (no_spot setup cells (t.index - 1) (out t.generation body m n) a (subst (λ (r : RefParts). At cells (r.index - 1) (out r.generation body m n)) same at) refl stands)

-- the body that was seen there is the one that stands there
body_seen : (s : ShapeFacts) (setup : Setup) (cells : List ShapeCell) {link : Option RefParts} {target : Option (List ℕ)} → TargetSeen s cells link target → (t : RefParts) (a : Spot) (b : List ℕ) → link ≡ Some t → target ≡ Some b → IsSpot setup cells (t.index - 1) a
    → (a.home ≡ key_at b % setup.roots) × (a.rank ≡ key_at b + 1)
body_seen s setup cells no_target t a b is seen stands = let no : ⊥ = cc in absurd no
body_seen s setup cells (lost u) t a b is seen stands = let no : ⊥ = cc in absurd no
body_seen s setup cells (there u body m at) t a b is seen stands =
    let same : u ≡ t = cc in
    let body_is : body ≡ b = cc in
    let spot_is = one_spot setup cells (t.index - 1) a (linked_spot setup t.generation body) stands (linked t.generation body m, subst (λ (r : RefParts). At cells (r.index - 1) (linked r.generation body m)) same at, refl) in
    (ap (λ (c : Spot). c.home) spot_is ∙ ap (λ (c : List ℕ). key_at c % setup.roots) body_is, ap (λ (c : Spot). c.rank) spot_is ∙ ap (λ (c : List ℕ). key_at c + 1) body_is)
body_seen s setup cells (there_out u body m n at) t a b is seen stands =
    let same : u ≡ t = cc in
    absurd (no_spot setup cells (t.index - 1) (out t.generation body m n) a (subst (λ (r : RefParts). At cells (r.index - 1) (out r.generation body m n)) same at) refl stands)

-- a link whose target was seen leads somewhere
pub leads_seen : (s : ShapeFacts) (cells : List ShapeCell) {link : Option RefParts} {target : Option (List ℕ)} → TargetSeen s cells link target → (b : List ℕ) → target ≡ Some b → (t : RefParts) × (link ≡ Some t)
leads_seen s cells no_target b e = let no : ⊥ = cc in absurd no
leads_seen s cells (lost t) b e = let no : ⊥ = cc in absurd no
leads_seen s cells (there t body m at) b e = (t, refl)
leads_seen s cells (there_out t body m n at) b e = (t, refl)

-- a held record's cell is no root's
linked_at : (s : ShapeFacts) (cells : List ShapeCell) (near : Near) (i generation m : ℕ) (body : List ℕ) → root_at s near ≡ None → At cells i (cell_near near generation body m) → At cells i (linked generation body m)
linked_at s cells (at_root n) i generation m body held at = let no : ⊥ = cc in absurd no
linked_at s cells (at_held r note) i generation m body held at = at

module _ {flags : ℕ → Type 0} {setup : Setup} {x : ShapeInput} (fits : ListFits flags setup x) (s : ShapeFacts) (i : ℕ) (a : Spot) (here : IsSpot setup x.cells i a) {target : Option (List ℕ)} (seen : TargetSeen s x.cells (link_at a.body 3).target target) where
  -- no key is present between what stands somewhere and what its link leads to
  pub none_behind : IsTargetSeen (link_at a.body 3).target target → (k : ℕ) → k % setup.roots ≡ a.home → a.rank < k + 1 → MatchOption (rank_of target) (Unit {0}) (λ r. k + 1 < r) → IsPresent x.cells k → ⊥
  none_behind known k home low high p =
      let lt = nothing_between (IsSpot setup x.cells) i a (k + 1) (ordered fits) here
      (λ t c e at. above_seen s setup x.cells seen t k c e known at high)
      p.0 (linked_spot setup p.1 p.3) (linked p.1 p.3 p.2, p.4, refl) (ap (λ q. q % setup.roots) p.6 ∙ home) (omega (arith, low, p.6)) in
      omega (arith, lt, p.6)

  -- and that stands behind it
  pub up_behind : (b : List ℕ) → target ≡ Some b → (key_at b % setup.roots ≡ a.home) × (a.rank < key_at b + 1)
  up_behind b known =
      let to = leads_seen s x.cells seen b known in
      let leads = fits.next i a to.0 here to.1 in
      let is = body_seen s setup x.cells seen to.0 leads.0 b to.1 known leads.2 in
      (sym is.0 ∙ leads.4, (let rank = leads.5 in let e = is.1 in omega arith))

module _ {flags : ℕ → Type 0} {setup : Setup} {x : ShapeInput} {h : Trace} (fits : ListFits flags setup x) (told : ListTold x h) {s : ShapeFacts} {near : Near} {f : ℕ} {l : LinkParts} {target : Option (List ℕ)} (n : NodeIs s x.cells near f l) (seen : TargetSeen s x.cells l.target target) where
  -- what is seen is what the node's link leads to
  node_seen : f ≡ 3 → TargetSeen s x.cells (link_at n.body 3).target target
  node_seen field = subst (λ o. TargetSeen s x.cells o target) (sym (target_is n field)) seen

  -- what the load of a node's link shows
  pub shows : (start : Start) → ListShown flags setup (record { node = root_at s near; body = n.body; field = f; target = target; marked = n.marked; start = start }) h.updates
  shows start = record {
    flagged = flags_fit fits n.fits;
    up = λ clear field b known. up_behind fits s n.index (spot_near s setup near n.generation n.body) (spot_fits fits n.fits clear) (node_seen field) b known;
    between = λ clear field known k home low high. false_from_ne_true (contains (keys_of h.updates) k)
        (λ has. none_behind fits s n.index (spot_near s setup near n.generation n.body) (spot_fits fits n.fits clear) (node_seen field) known k home low high ((told.keys k).0 has));
    present = λ clear held. (told.keys (key_at n.body)).1 (n.index, n.generation, n.marked, n.body, linked_at s x.cells near n.index n.generation n.marked n.body held (cell_fits fits n.fits clear), clear, refl);
  }
