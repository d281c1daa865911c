-- Lists without the cells: the record that a node leads to is taken off.
use Rattle.std.proofs.Common.{◌≡◌, ◌≢◌, ℕ, ◌-◌, ◌<◌, ◌≤◌, ◌⊎◌, Some, inl, inr, sym, refl, ap, ◌∙◌, subst, arith}
use native.Mathlib.Decide.{dec_le, ℕ_discrete}
use Rattle.row_words.specs.Refs.{RefParts}
use Rattle.list_facts.specs.Lists.{Spot}
use Rattle.list_facts.proofs.Spots.{target_of, Leads, Reaches, Ordered, Alike, alike_same, Stays, leads_on, reaches_on, Turned, kept, stood_here, one_like}

-- the record that the node leads to is taken off, and the node's link leads to where that one's did
pub record Removes (S S' : ℕ → Spot → Type 0) (p : ℕ) (a a' b : Spot) (gone : RefParts) : Type 0 where
  pub base : Turned S S' p a a'
  pub leads : target_of a ≡ Some gone
  pub there : S (gone.index - 1) b
  pub turn : target_of a' ≡ target_of b
  pub others : (i : ℕ) (c : Spot) → i ≢ p → i ≢ gone.index - 1 → S i c → S' i c
  pub from : (i : ℕ) (c : Spot) → S' i c → ((i ≡ p) × (c ≡ a')) ⊎ ((i ≢ p) × (i ≢ gone.index - 1) × S i c)

module _ {S S' : ℕ → Spot → Type 0} {p : ℕ} {a a' b : Spot} {gone : RefParts} (m : Removes S S' p a a' b gone) where
  -- what stands at its index is the record that goes
  at_gone : (i : ℕ) (c : Spot) → i ≡ gone.index - 1 → S i c → Alike c b
  at_gone i c q s = alike_same c b (m.base.ordered.single (gone.index - 1) c b (subst (λ (k : ℕ). S k c) q s) m.there)

  -- the node leads to it, and stands before it
  it_goes : (t : RefParts) (c : Spot) → target_of a ≡ Some t → S (t.index - 1) c → Alike c b
  it_goes t c e s = let is : Some gone ≡ Some t = sym m.leads ∙ e in let z : gone ≡ t = cc in at_gone (t.index - 1) c (ap (λ (r : RefParts). r.index - 1) (sym z)) s

  behind : (b.home ≡ a.home) × (a.rank < b.rank)
  behind = let (c, named, at, generation, home, up) = m.base.ordered.next p a gone m.base.here m.leads in let same = it_goes gone c m.leads at in (sym same.home ∙ home, omega arith)

  -- what leads to it is in its list
  leads_there : (i : ℕ) (c : Spot) (t : RefParts) → S i c → target_of c ≡ Some t → t.index - 1 ≡ gone.index - 1 → (c.home ≡ a.home) × (c.rank < b.rank)
  leads_there i c t s e q = let (d, named, at, generation, home, up) = m.base.ordered.next i c t s e in let same = at_gone (t.index - 1) d q at in (sym home ∙ same.home ∙ behind.0, omega arith)

  -- and is the node
  leads_alone : (i : ℕ) (c : Spot) (t : RefParts) → i ≢ p → S i c → target_of c ≡ Some t → t.index - 1 ≡ gone.index - 1 → (c.home ≡ a.home) × (c.rank < b.rank) → Dec (a.rank ≤ c.rank) → Dec (c.rank ≡ a.rank) → ⊥
  leads_alone i c t ne s e q (near, up) (yes le) (yes eq) = ne (m.base.ordered.one i p c a s m.base.here near eq)
  leads_alone i c t ne s e q (near, up) (yes le) (no neq) = let (u, g, f, stands, no_later) = m.base.ordered.gap p i a c m.base.here s (sym near) (omega arith) in let is = it_goes u g f stands in omega arith
  leads_alone i c t ne s e q (near, up) (no nle) deq = let (u, g, f, stands, no_later) = m.base.ordered.gap i p c a s m.base.here near (omega arith) in
      let is : Some t ≡ Some u = sym e ∙ f in let z : t ≡ u = cc in
      let same = at_gone (u.index - 1) g (ap (λ (r : RefParts). r.index - 1) (sym z) ∙ q) stands in let after = behind.1 in omega arith

  -- so another spot's link leads to another record
  other : (i : ℕ) (c : Spot) (t : RefParts) → i ≢ p → S i c → target_of c ≡ Some t → t.index - 1 ≢ gone.index - 1
  other i c t ne s e q = leads_alone i c t ne s e q (leads_there i c t s e q) (dec_le a.rank c.rank) (ℕ_discrete c.rank a.rank)

  -- and its own link does
  pub past : (t : RefParts) → target_of b ≡ Some t → t.index - 1 ≢ gone.index - 1
  past t e q = let (d, named, at, generation, home, up) = m.base.ordered.next (gone.index - 1) b t m.there e in let same = at_gone (t.index - 1) d q at in omega arith

  -- what stood elsewhere still stands
  left : (i : ℕ) (c : Spot) → i ≢ gone.index - 1 → S i c → Stays S' i c
  left i c other s = kept m.base i c (λ ne. m.others i c ne other s) s

  -- what stood where a spot is left
  abbrev Before : ℕ → Spot → Type 0
  Before i c = (d : Spot) × S i d × Alike c d × (i ≢ gone.index - 1)

  -- each spot that is left was one
  before : (i : ℕ) (c : Spot) → ((i ≡ p) × (c ≡ a')) ⊎ ((i ≢ p) × (i ≢ gone.index - 1) × S i c) → Before i c
  before i c (inl (e, f)) = let (s, like) = stood_here m.base i c e f in let up = behind.1 in (a, s, like, λ q. let is = at_gone i a q s in omega arith)
  before i c (inr (ne, other, s)) = (c, s, alike_same c c refl, other)

  -- the three facts of sorted lists
  left_next : (i : ℕ) (c : Spot) (t : RefParts) → target_of c ≡ Some t → ((i ≡ p) × (c ≡ a')) ⊎ ((i ≢ p) × (i ≢ gone.index - 1) × S i c) → Leads S' c t
  left_next i c t e (inl (at, f)) = let (s, like) = stood_here m.base i c at f in let up = behind.1 in
      let is : target_of b ≡ Some t = sym m.turn ∙ sym (ap target_of f) ∙ e in
      leads_on S S' c b t (λ d s. left (t.index - 1) d (past t is) s) (like.home ∙ sym behind.0) (omega arith) (m.base.ordered.next (gone.index - 1) b t m.there is)
  left_next i c t e (inr (ne, far, s)) = leads_on S S' c c t (λ d u. left (t.index - 1) d (other i c t ne s e) u) refl (omega arith) (m.base.ordered.next i c t s e)

  left_one : (i j : ℕ) (c d : Spot) → c.home ≡ d.home → c.rank ≡ d.rank → Before i c → Before j d → i ≡ j
  left_one i j c d home rank (g, s, like, far) (k, u, alike, away) = one_like m.base i j c d g k home rank s like u alike

  -- what is behind the node is behind the record that goes, or that itself
  after_gone : (j : ℕ) (d : Spot) → S j d → j ≢ gone.index - 1 → d.home ≡ a.home → a.rank < d.rank → b.rank < d.rank
  after_gone j d s far home up = let (t, g, e, at, le) = m.base.ordered.gap p j a d m.base.here s (sym home) up in let same = it_goes t g e at in
      let apart : b.rank ≢ d.rank = λ eq. far (sym (m.base.ordered.one (gone.index - 1) j b d m.there s (behind.0 ∙ sym home) eq)) in omega arith

  left_gap : (i j : ℕ) (c d : Spot) → c.home ≡ d.home → c.rank < d.rank → ((i ≡ p) × (c ≡ a')) ⊎ ((i ≢ p) × (i ≢ gone.index - 1) × S i c) → Before j d → Reaches S' c d
  left_gap i j c d home up (inl (at, f)) (g, s, like, far) = let (here, near) = stood_here m.base i c at f in
      let place : g.home ≡ a.home = sym like.home ∙ sym home ∙ near.home in
      reaches_on S S' c b g d (λ t k e stands. left (t.index - 1) k (past t e) stands) (ap target_of f ∙ m.turn) (omega arith) (m.base.ordered.gap (gone.index - 1) j b g m.there s (behind.0 ∙ sym place) (after_gone j g s far place (omega arith)))
  left_gap i j c d home up (inr (ne, away, u)) (g, s, like, far) =
      reaches_on S S' c c g d (λ t k e stands. left (t.index - 1) k (other i c t ne u e) stands) refl (omega arith) (m.base.ordered.gap i j c g u s (home ∙ like.home) (omega arith))

  -- so the lists are still sorted
  pub removed : ((i : ℕ) (c d : Spot) → S' i c → S' i d → c ≡ d) → Ordered S'
  removed single = record {
    single = single;
    next = λ i c t s e. left_next i c t e (m.from i c s);
    one = λ i j c d s t home rank. left_one i j c d home rank (before i c (m.from i c s)) (before j d (m.from j d t));
    gap = λ i j c d s t home up. left_gap i j c d home up (m.from i c s) (before j d (m.from j d t));
  }
