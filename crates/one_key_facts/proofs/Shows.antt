-- What a load of a link shows is true of the history.
use Rattle.std.proofs.Common.{◌≡◌, ℕ, ◌+◌, ◌-◌, ◌%◌, ◌<◌, List, Option, Some, None, sym, refl, ap, ◌∙◌, subst, arith}
use Rattle.std.proofs.lemmas.Bool.{false_from_ne_true}
use Rattle.set_model.specs.Keys.{contains}
use Rattle.set_model.specs.Histories.{keys_of}
use Rattle.row_words.specs.Refs.{RefParts, LinkParts, refer}
use Rattle.record_rule.specs.Inputs.{ShapeCell, root, linked, out, ShapeInput, Start, Trace}
use Rattle.record_rule.specs.Facts.{At, link_at, key_at, HasMark, Near, ShapeFacts, FitsNear, is_root, is_linked, is_out}
use Rattle.record_rule.specs.Laws.{NodeIs, root_at, TargetSeen, no_target, lost, there, there_out}
use Rattle.record_rule.proofs.Lists.{one_at}
use Rattle.list_facts.specs.Tellings.{IsPresent, ListTold}
use Rattle.list_facts.proofs.Shows.{leads_seen}
use Rattle.list_facts.proofs.Nodes.{link_is as node_link}
use Rattle.one_key_facts.specs.OneKey.{LeadsToKey, IsUnder, OneKeyFits, OneKeyShown}
use Rattle.one_key_facts.proofs.Cells.{under}

-- the body that was seen at a linked record is that record's
body_seen : (s : ShapeFacts) (cells : List ShapeCell) {to : Option RefParts} {target : Option (List ℕ)} → TargetSeen s cells to target → (t : RefParts) (b : List ℕ) (k : ℕ) → to ≡ Some t → target ≡ Some b → LeadsToKey cells t k → key_at b ≡ k
body_seen s cells no_target t b k is seen leads = let no : ⊥ = cc in absurd no
body_seen s cells (lost u) t b k is seen leads = let no : ⊥ = cc in absurd no
body_seen s cells (there u body m at) t b k is seen leads =
    let same : u ≡ t = cc in
    let cell_is : linked t.generation body m ≡ linked t.generation leads.0 leads.1 = one_at cells (t.index - 1) _ _ (subst (λ (r : RefParts). At cells (r.index - 1) (linked r.generation body m)) same at) leads.3 in
    let body_is : b ≡ leads.0 = cc in
    ap key_at body_is ∙ leads.4
body_seen s cells (there_out u body m n at) t b k is seen leads =
    let same : u ≡ t = cc in
    let cell_is : out t.generation body m n ≡ linked t.generation leads.0 leads.1 = one_at cells (t.index - 1) _ _ (subst (λ (r : RefParts). At cells (r.index - 1) (out r.generation body m n)) same at) leads.3 in
    let no : ⊥ = cc in absurd no

module _ {x : ShapeInput} (fits : OneKeyFits x) where
  -- a root that leads nowhere has no record behind it
  none_under : (k generation m : ℕ) (body : List ℕ) → At x.cells k (root generation body m) → (link_at body 3).target ≡ None → IsPresent x.cells k → ⊥
  none_under k generation m body at ends p =
      let u : IsUnder x.cells k (refer (p.0 + 1) p.1) = subst (λ j. IsUnder x.cells j (refer (p.0 + 1) p.1)) p.6 (under fits p.0 p.1 p.2 p.3 p.4) in
      let cell_is : root u.0 u.2 u.1 ≡ root generation body m = one_at x.cells k _ _ u.3 at in
      let body_is : u.2 ≡ body = cc in
      let target_is : Some (refer (p.0 + 1) p.1) ≡ None = ap (λ (l : LinkParts). l.target) (sym u.4 ∙ ap (λ (b : List ℕ). link_at b 3) body_is) ∙ ends in
      cc

module _ {cells : List ShapeCell} {s : ShapeFacts} where
  -- a root by its number
  numbered : {near : Near} {i generation m : ℕ} {body : List ℕ} → FitsNear s cells near i generation body m → (k : ℕ) → root_at s near ≡ Some k → At cells k (root generation body m)
  numbered (is_root i generation m body at) k is = let same : i ≡ k = cc in subst (λ j. At cells j (root generation body m)) same at
  numbered (is_linked i generation m body note at known) k is = let no : ⊥ = cc in absurd no
  numbered (is_out i generation m n body note at known) k is = let no : ⊥ = cc in absurd no

module _ {x : ShapeInput} (fits : OneKeyFits x) {s : ShapeFacts} where
  flags_fit : {near : Near} {i generation m : ℕ} {body : List ℕ} → FitsNear s x.cells near i generation body m → (link_at body 3).flags < 2
  flags_fit (is_root i generation m body at) = let e = (fits.each i (root generation body m) at).0 in omega arith
  flags_fit (is_linked i generation m body note at known) = (fits.each i (linked generation body m) at).0
  flags_fit (is_out i generation m n body note at known) = let e = (fits.each i (out generation body m n) at).0 in omega arith

  pub ends_fit : {near : Near} {i generation m : ℕ} {body : List ℕ} → FitsNear s x.cells near i generation body m → root_at s near ≡ None → (link_at body 3).target ≡ None
  ends_fit (is_root i generation m body at) is = let no : ⊥ = cc in absurd no
  ends_fit (is_linked i generation m body note at known) is = (fits.each i (linked generation body m) at).1
  ends_fit (is_out i generation m n body note at known) is = (fits.each i (out generation body m n) at).1

  has_key : {near : Near} {i generation m : ℕ} {body : List ℕ} → FitsNear s x.cells near i generation body m → root_at s near ≡ None → ¬ HasMark (link_at body 3) → IsPresent x.cells (key_at body)
  has_key (is_root i generation m body at) is clear = let no : ⊥ = cc in absurd no
  has_key (is_linked i generation m body note at known) is clear = (i, generation, m, body, at, clear, refl)
  has_key (is_out i generation m n body note at known) is clear = let e = (fits.each i (out generation body m n) at).0 in absurd (clear (ap (λ f. f % 2) e))

  module _ {h : Trace} (told : ListTold x h) {near : Near} {f : ℕ} {l : LinkParts} {target : Option (List ℕ)} (n : NodeIs s x.cells near f l) (seen : TargetSeen s x.cells l.target target) where
    -- what a root leads to has its number as key
    seen_key : (k : ℕ) (b : List ℕ) → root_at s near ≡ Some k → f ≡ 3 → target ≡ Some b → key_at b ≡ k
    seen_key k b is field known =
        let to = leads_seen s x.cells seen b known in
        let leads = (fits.each k _ (numbered n.fits k is)).1 to.0 (ap (λ (q : LinkParts). q.target) (node_link n field) ∙ to.1) in
        body_seen s x.cells seen to.0 b k to.1 known leads

    pub shows : (start : Start) → OneKeyShown (record { node = root_at s near; body = n.body; field = f; target = target; marked = n.marked; start = start }) h.updates
    shows start = record {
      flagged = flags_fit n.fits;
      absent = λ k is ends. false_from_ne_true (contains (keys_of h.updates) k) (λ has. none_under fits k n.generation n.marked n.body (numbered n.fits k is) ends ((told.keys k).0 has));
      behind = seen_key;
      present = λ is clear. (told.keys (key_at n.body)).1 (has_key n.fits is clear);
      ends = ends_fit n.fits;
    }
