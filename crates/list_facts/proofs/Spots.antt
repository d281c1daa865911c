-- Sorted lists as what stands at each index, without the cells; and a link that is turned.
use Rattle.std.proofs.Common.{◌≡◌, ◌≢◌, ℕ, ◌-◌, ◌<◌, ◌≤◌, ◌⊎◌, Option, Some, inl, inr, sym, refl, ap, ◌∙◌, subst, arith}
use native.Mathlib.Decide.{ℕ_discrete}
use Rattle.row_words.specs.Refs.{RefParts}
use Rattle.record_rule.specs.Facts.{link_at}
use Rattle.list_facts.specs.Lists.{Spot}

-- where a spot's link leads
abbrev pub target_of : Spot → Option RefParts
target_of a = (link_at a.body 3).target

-- what a link leads up to
abbrev pub Leads : (ℕ → Spot → Type 0) → Spot → RefParts → Type 0
Leads S a t = (b : Spot) × (0 < t.index) × S (t.index - 1) b × (b.generation ≡ t.generation) × (b.home ≡ a.home) × (a.rank < b.rank)

-- the target of a link that comes no later than this spot
abbrev pub Reaches : (ℕ → Spot → Type 0) → Spot → Spot → Type 0
Reaches S a b = (t : RefParts) × (c : Spot) × (target_of a ≡ Some t) × S (t.index - 1) c × (c.rank ≤ b.rank)

-- what stands at the indices is sorted lists
pub record Ordered (S : ℕ → Spot → Type 0) : Type 0 where
  pub single : (i : ℕ) (a b : Spot) → S i a → S i b → a ≡ b
  pub next : (i : ℕ) (a : Spot) (t : RefParts) → S i a → target_of a ≡ Some t → Leads S a t
  pub one : (i j : ℕ) (a b : Spot) → S i a → S j b → a.home ≡ b.home → a.rank ≡ b.rank → i ≡ j
  pub gap : (i j : ℕ) (a b : Spot) → S i a → S j b → a.home ≡ b.home → a.rank < b.rank → Reaches S a b

-- the same place, but for the body
pub record Alike (a b : Spot) : Type 0 where
  pub home : a.home ≡ b.home
  pub rank : a.rank ≡ b.rank
  pub generation : a.generation ≡ b.generation

-- a spot is in its own place
pub alike_same : (a b : Spot) → a ≡ b → Alike a b
alike_same a b e = record { home = ap (λ (s : Spot). s.home) e; rank = ap (λ (s : Spot). s.rank) e; generation = ap (λ (s : Spot). s.generation) e }

-- where something like the spot stands
abbrev pub Stays : (ℕ → Spot → Type 0) → ℕ → Spot → Type 0
Stays S i b = (c : Spot) × S i c × Alike c b

-- where a link leads up, another link to the same target does that comes no later
pub leads_on : (S S' : ℕ → Spot → Type 0) (a b : Spot) (t : RefParts) → ((c : Spot) → S (t.index - 1) c → Stays S' (t.index - 1) c) → a.home ≡ b.home → a.rank ≤ b.rank → Leads S b t → Leads S' a t
leads_on S S' a b t keep home rank (c, named, at, generation, same, up) =
    let (d, there, like) = keep c at in (d, named, there, like.generation ∙ generation, like.home ∙ same ∙ sym home, (let r = like.rank in omega arith))

-- and where it leads to what comes no later than a spot, it does so still
pub reaches_on : (S S' : ℕ → Spot → Type 0) (a b c d : Spot) → ((t : RefParts) (g : Spot) → target_of b ≡ Some t → S (t.index - 1) g → Stays S' (t.index - 1) g) → target_of a ≡ target_of b → c.rank ≤ d.rank → Reaches S b c → Reaches S' a d
reaches_on S S' a b c d keep same up (t, g, e, at, le) = let (k, stands, like) = keep t g e at in (t, k, same ∙ e, stands, (let r = like.rank in omega arith))

-- where what a node leads to is above a rank, all behind the node is
pub nothing_between : (S : ℕ → Spot → Type 0) (p : ℕ) (a : Spot) (rank : ℕ) → Ordered S → S p a → ((t : RefParts) (c : Spot) → target_of a ≡ Some t → S (t.index - 1) c → rank < c.rank)
    → (i : ℕ) (c : Spot) → S i c → c.home ≡ a.home → a.rank < c.rank → rank < c.rank
nothing_between S p a rank order here below i c s home up = let (t, d, e, at, le) = order.gap p i a c here s (sym home) up in let lt = below t d e at in omega arith

-- a node's link is turned: the lists that were, the node in them, and the node now
pub record Turned (S S' : ℕ → Spot → Type 0) (p : ℕ) (a a' : Spot) : Type 0 where
  pub ordered : Ordered S
  pub here : S p a
  pub like : Alike a' a
  pub node : S' p a'

module _ {S S' : ℕ → Spot → Type 0} {p : ℕ} {a a' : Spot} (m : Turned S S' p a a') where
  -- by whether it is the node
  kept_if : (i : ℕ) (b : Spot) → (i ≢ p → S' i b) → S i b → Dec (i ≡ p) → Stays S' i b
  kept_if i b other s (yes e) =
      let same : a ≡ b = m.ordered.single i a b (subst (λ (k : ℕ). S k a) (sym e) m.here) s in
      (a', subst (λ (k : ℕ). S' k a') (sym e) m.node, subst (Alike a') same m.like)
  kept_if i b other s (no ne) = (b, other ne, alike_same b b refl)

  -- what stood at an index still stands there, the node with another body
  pub kept : (i : ℕ) (b : Spot) → (i ≢ p → S' i b) → S i b → Stays S' i b
  kept i b other s = kept_if i b other s (ℕ_discrete i p)

  -- the node stood where it stands
  pub stood_here : (i : ℕ) (b : Spot) → i ≡ p → b ≡ a' → S i a × Alike b a
  stood_here i b e f = (subst (λ (k : ℕ). S k a) (sym e) m.here, subst (λ (c : Spot). Alike c a) (sym f) m.like)

  -- spots that are like two of one place are at one index
  pub one_like : (i j : ℕ) (b c d g : Spot) → b.home ≡ c.home → b.rank ≡ c.rank → S i d → Alike b d → S j g → Alike c g → i ≡ j
  one_like i j b c d g home rank s like t alike = m.ordered.one i j d g s t (sym like.home ∙ home ∙ alike.home) (sym like.rank ∙ rank ∙ alike.rank)

-- the node's link leads to where it did
pub record Turns (S S' : ℕ → Spot → Type 0) (p : ℕ) (a a' : Spot) : Type 0 where
  pub base : Turned S S' p a a'
  pub turn : target_of a' ≡ target_of a
  pub others : (i : ℕ) (b : Spot) → i ≢ p → S i b → S' i b
  pub from : (i : ℕ) (b : Spot) → S' i b → ((i ≡ p) × (b ≡ a')) ⊎ ((i ≢ p) × S i b)

-- what stood where a spot stands now, and how it is like it
abbrev Stood : (ℕ → Spot → Type 0) → ℕ → Spot → Type 0
Stood S i b = (c : Spot) × S i c × Alike b c × (target_of b ≡ target_of c)

module _ {S S' : ℕ → Spot → Type 0} {p : ℕ} {a a' : Spot} (m : Turns S S' p a a') where
  -- each spot stood where it stands, or is the node
  stood : (i : ℕ) (b : Spot) → ((i ≡ p) × (b ≡ a')) ⊎ ((i ≢ p) × S i b) → Stood S i b
  stood i b (inl (e, f)) = let (s, like) = stood_here m.base i b e f in (a, s, like, ap target_of f ∙ m.turn)
  stood i b (inr (ne, s)) = (b, s, alike_same b b refl, refl)

  -- what stood still stands
  stays_turned : (i : ℕ) (b : Spot) → S i b → Stays S' i b
  stays_turned i b s = kept m.base i b (λ ne. m.others i b ne s) s

  -- the three facts of sorted lists
  turned_next : (i : ℕ) (b : Spot) (t : RefParts) → target_of b ≡ Some t → Stood S i b → Leads S' b t
  turned_next i b t e (c, s, like, same) = leads_on S S' b c t (stays_turned (t.index - 1)) like.home (let r = like.rank in omega arith) (m.base.ordered.next i c t s (sym same ∙ e))

  turned_one : (i j : ℕ) (b c : Spot) → b.home ≡ c.home → b.rank ≡ c.rank → Stood S i b → Stood S j c → i ≡ j
  turned_one i j b c home rank (d, s, like, same) (g, t, alike, too) = one_like m.base i j b c d g home rank s like t alike

  turned_gap : (i j : ℕ) (b c : Spot) → b.home ≡ c.home → b.rank < c.rank → Stood S i b → Stood S j c → Reaches S' b c
  turned_gap i j b c home up (d, s, like, same) (g, u, alike, too) =
      reaches_on S S' b d g c (λ t k e at. stays_turned (t.index - 1) k at) same (omega arith) (m.base.ordered.gap i j d g s u (sym like.home ∙ home ∙ alike.home) (omega arith))

  -- so the lists are still sorted
  pub turned_ordered : ((i : ℕ) (b c : Spot) → S' i b → S' i c → b ≡ c) → Ordered S'
  turned_ordered single = record {
    single = single;
    next = λ i b t s e. turned_next i b t e (stood i b (m.from i b s));
    one = λ i j b c s t home rank. turned_one i j b c home rank (stood i b (m.from i b s)) (stood j c (m.from j c t));
    gap = λ i j b c s t home up. turned_gap i j b c home up (stood i b (m.from i b s)) (stood j c (m.from j c t));
  }
