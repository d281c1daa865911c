-- Lists without the cells: a record comes between a node and where the node's link leads.
use Rattle.std.proofs.Common.{◌≡◌, ◌≢◌, ℕ, ◌-◌, ◌<◌, ◌≤◌, Some, sym, refl, ap, ◌∙◌, subst, arith}
use native.Mathlib.Decide.{dec_le, ℕ_discrete}
use Rattle.row_words.specs.Refs.{RefParts}
use Rattle.list_facts.specs.Lists.{Spot}
use Rattle.list_facts.proofs.Spots.{target_of, Leads, Reaches, Ordered, Alike, alike_same, Stays, leads_on, reaches_on, nothing_between, Turned, kept, stood_here, one_like}

-- where a spot that stands now is from: the node, with its link turned, the record that came, or one that stood there before
pub data Came (S : ℕ → Spot → Type 0) (p q : ℕ) (a o : Spot) (i : ℕ) (b : Spot) : Type 0 where
  turned : i ≡ p → b ≡ a → Came S p q a o i b
  fresh : i ≡ q → b ≡ o → Came S p q a o i b
  stayed : i ≢ p → S i b → Came S p q a o i b

-- the same but for the links
data Was (S : ℕ → Spot → Type 0) (q : ℕ) (o : Spot) (i : ℕ) (b : Spot) : Type 0 where
  new : i ≡ q → b ≡ o → Was S q o i b
  old : (c : Spot) → S i c → Alike b c → Was S q o i b

-- the node's link is turned to the record that comes, which leads to where the node's did
pub record Inserts (S S' : ℕ → Spot → Type 0) (p : ℕ) (a a' o : Spot) (own : RefParts) : Type 0 where
  pub base : Turned S S' p a a'
  pub turn : target_of a' ≡ Some own
  pub named : 0 < own.index
  pub generation : o.generation ≡ own.generation
  pub home : o.home ≡ a.home
  pub above : a.rank < o.rank
  pub link : target_of o ≡ target_of a
  pub below : (t : RefParts) (c : Spot) → target_of a ≡ Some t → S (t.index - 1) c → o.rank < c.rank
  pub comes : S' (own.index - 1) o
  pub others : (i : ℕ) (b : Spot) → i ≢ p → S i b → S' i b
  pub from : (i : ℕ) (b : Spot) → S' i b → Came S p (own.index - 1) a' o i b

module _ {S S' : ℕ → Spot → Type 0} {p : ℕ} {a a' o : Spot} {own : RefParts} (m : Inserts S S' p a a' o own) where
  -- what stood still stands
  keeps : (i : ℕ) (b : Spot) → S i b → Stays S' i b
  keeps i b s = kept m.base i b (λ ne. m.others i b ne s) s

  -- each spot is the record that came, or stood where it stands
  was : (i : ℕ) (b : Spot) → Came S p (own.index - 1) a' o i b → Was S (own.index - 1) o i b
  was i b (turned e f) = let (s, like) = stood_here m.base i b e f in old a s like
  was i b (fresh e f) = new e f
  was i b (stayed ne s) = old b s (alike_same b b refl)

  -- behind the node nothing stands before the record that came
  beyond : (i : ℕ) (c : Spot) → S i c → c.home ≡ a.home → a.rank < c.rank → o.rank < c.rank
  beyond = nothing_between S p a o.rank m.base.ordered m.base.here m.below

  -- another spot that is before the record that came is before the node
  ahead : (i : ℕ) (b : Spot) → i ≢ p → S i b → b.home ≡ a.home → b.rank < o.rank → Dec (a.rank ≤ b.rank) → Dec (b.rank ≡ a.rank) → b.rank < a.rank
  ahead i b ne s home up (yes le) (yes e) = absurd (ne (m.base.ordered.one i p b a s m.base.here home e))
  ahead i b ne s home up (yes le) (no de) = let lt = beyond i b s home (omega arith) in absurd (omega arith)
  ahead i b ne s home up (no nle) d = omega arith

  -- the three facts of sorted lists
  next_after : (i : ℕ) (b : Spot) (t : RefParts) → target_of b ≡ Some t → Came S p (own.index - 1) a' o i b → Leads S' b t
  next_after i b t e (turned at f) = let (s, like) = stood_here m.base i b at f in let above = m.above in
      let is : Some own ≡ Some t = sym m.turn ∙ sym (ap target_of f) ∙ e in
      subst (λ (r : RefParts). Leads S' b r) (let z : own ≡ t = cc in z) (o, m.named, m.comes, m.generation, m.home ∙ sym like.home, omega arith)
  next_after i b t e (fresh at f) = let same = alike_same b o f in
      let is : target_of a ≡ Some t = sym m.link ∙ sym (ap target_of f) ∙ e in
      let (c, named, there, generation, home, up) = m.base.ordered.next p a t m.base.here is in let (d, stands, like) = keeps (t.index - 1) c there in let lt = m.below t c is there in
      (d, named, stands, like.generation ∙ generation, like.home ∙ home ∙ sym m.home ∙ sym same.home, omega arith)
  next_after i b t e (stayed ne s) = leads_on S S' b b t (keeps (t.index - 1)) refl (omega arith) (m.base.ordered.next i b t s e)

  one_after : (i j : ℕ) (b c : Spot) → b.home ≡ c.home → b.rank ≡ c.rank → Was S (own.index - 1) o i b → Was S (own.index - 1) o j c → i ≡ j
  one_after i j b c home rank (new e f) (new g h) = e ∙ sym g
  one_after i j b c home rank (new e f) (old d s like) = let same = alike_same b o f in let above = m.above in
      let lt = beyond j d s (sym like.home ∙ sym home ∙ same.home ∙ m.home) (omega arith) in absurd (omega arith)
  one_after i j b c home rank (old d s like) (new e f) = let same = alike_same c o f in let above = m.above in
      let lt = beyond i d s (sym like.home ∙ home ∙ same.home ∙ m.home) (omega arith) in absurd (omega arith)
  one_after i j b c home rank (old d s like) (old g t alike) = one_like m.base i j b c d g home rank s like t alike

  gap_after : (i j : ℕ) (b c : Spot) → b.home ≡ c.home → b.rank < c.rank → Came S p (own.index - 1) a' o i b → Was S (own.index - 1) o j c → Reaches S' b c
  gap_after i j b c home up (turned e f) (new g h) = let same = alike_same c o h in (own, o, ap target_of f ∙ m.turn, m.comes, omega arith)
  gap_after i j b c home up (turned e f) (old d s like) = let (here, near) = stood_here m.base i b e f in
      let lt = beyond j d s (sym like.home ∙ sym home ∙ near.home) (omega arith) in
      (own, o, ap target_of f ∙ m.turn, m.comes, omega arith)
  gap_after i j b c home up (fresh e f) (new g h) = let same = alike_same b o f in let alike = alike_same c o h in absurd (omega arith)
  gap_after i j b c home up (fresh e f) (old d s like) = let same = alike_same b o f in let above = m.above in
      reaches_on S S' b a d c (λ t g e at. keeps (t.index - 1) g at) (ap target_of f ∙ m.link) (omega arith) (m.base.ordered.gap p j a d m.base.here s (sym m.home ∙ sym same.home ∙ home ∙ like.home) (omega arith))
  gap_after i j b c home up (stayed ne s) (old d t like) = reaches_on S S' b b d c (λ t g e at. keeps (t.index - 1) g at) refl (omega arith) (m.base.ordered.gap i j b d s t (home ∙ like.home) (omega arith))
  gap_after i j b c home up (stayed ne s) (new g h) = let same = alike_same c o h in let near = home ∙ same.home ∙ m.home in
      let lt = ahead i b ne s near (omega arith) (dec_le a.rank b.rank) (ℕ_discrete b.rank a.rank) in let above = m.above in
      reaches_on S S' b b a c (λ t g e at. keeps (t.index - 1) g at) refl (omega arith) (m.base.ordered.gap i p b a s m.base.here near lt)

  -- so the lists are still sorted
  pub inserted : ((i : ℕ) (b c : Spot) → S' i b → S' i c → b ≡ c) → Ordered S'
  inserted single = record {
    single = single;
    next = λ i b t s e. next_after i b t e (m.from i b s);
    one = λ i j b c s t home rank. one_after i j b c home rank (was i b (m.from i b s)) (was j c (m.from j c t));
    gap = λ i j b c s t home up. gap_after i j b c home up (m.from i b s) (was j c (m.from j c t));
  }
