-- What a load of a link shows is true of the history, of a marked one too.
use Rattle.std.proofs.Common.{◌≡◌, ℕ, ◌-◌, ◌%◌, ◌<◌, ◌≤◌, List, Option, Some, None, sym, refl, ◌∙◌, subst, arith}
use Rattle.row_words.specs.Refs.{RefParts, LinkParts}
use Rattle.record_memory.specs.declared.books.Setup.{Setup}
use Rattle.record_rule.specs.Inputs.{ShapeCell, linked, out, ShapeInput, Start, Trace}
use Rattle.record_rule.specs.Facts.{At, link_at, key_at, HasMark, Near, ShapeFacts, FitsNear, is_root, is_linked, is_out}
use Rattle.record_rule.specs.Laws.{NodeIs, root_at, TargetSeen, no_target, lost, there, there_out}
use Rattle.record_rule.proofs.Lists.{one_at}
use Rattle.list_facts.specs.Lists.{ListFits}
use Rattle.list_facts.specs.Tellings.{IsMarked, still, gone, IsTargetSeen}
use Rattle.list_facts.proofs.Nodes.{target_is}
use Rattle.list_facts.proofs.Shows.{leads_seen, shows}
use Rattle.lazy_facts.specs.Absences.{IsSeen, TargetIs, AbsentAt}
use Rattle.lazy_facts.specs.Lazy.{LazyFits, LazyTold, LazyShown}

-- a node whose link has a mark is a marked record
marked_near : {flags : ℕ → Type 0} {setup : Setup} {x : ShapeInput} → ListFits flags setup x → (s : ShapeFacts) (near : Near) (i generation m start : ℕ) (body : List ℕ) → FitsNear s x.cells near i generation body m → HasMark (link_at body 3)
    → ((n e k : ℕ) (b : List ℕ) → At x.cells i (out e b k n) → start ≤ n) → IsMarked x.cells i body m start
marked_near fits s _ i generation m start body (is_root j e k b at) mark late = absurd ((fits.sorted i _ at).1 mark)
marked_near fits s _ i generation m start body (is_linked j e k b note at known) mark late = still generation at mark
marked_near fits s _ i generation m start body (is_out j e k n b note at known) mark late = gone generation n at (late n e k b at)

-- and no root
no_root : {flags : ℕ → Type 0} {setup : Setup} {x : ShapeInput} → ListFits flags setup x → (s : ShapeFacts) (near : Near) (i generation m : ℕ) (body : List ℕ) → FitsNear s x.cells near i generation body m → HasMark (link_at body 3) → root_at s near ≡ None
no_root fits s _ i generation m body (is_root j e k b at) mark = absurd ((fits.sorted i _ at).1 mark)
no_root fits s _ i generation m body (is_linked j e k b note at known) mark = refl
no_root fits s _ i generation m body (is_out j e k n b note at known) mark = refl

-- what a load sees of a link's target is there
seen_is : {s : ShapeFacts} {cells : List ShapeCell} {o : Option RefParts} {target : Option (List ℕ)} → TargetSeen s cells o target → (t : RefParts) (b : List ℕ) → o ≡ Some t → target ≡ Some b → IsSeen cells t b
seen_is no_target t b e is = let none : ⊥ = cc in absurd none
seen_is (lost u) t b e is = let none : ⊥ = cc in absurd none
seen_is {cells = cells} (there u body m at) t b e is = let same : u ≡ t = cc in let alike : body ≡ b = cc in
    (linked u.generation body m, subst (λ (r : RefParts). At cells (r.index - 1) (linked u.generation body m)) same at, ((λ j. (same j).generation), alike))
seen_is {cells = cells} (there_out u body m n at) t b e is = let same : u ≡ t = cc in let alike : body ≡ b = cc in
    (out u.generation body m n, subst (λ (r : RefParts). At cells (r.index - 1) (out u.generation body m n)) same at, ((λ j. (same j).generation), alike))

target_there : {s : ShapeFacts} {cells : List ShapeCell} {target : Option (List ℕ)} (o : Option RefParts) → TargetSeen s cells o target → IsTargetSeen o target → TargetIs cells o target
target_there None seen known = known
target_there (Some t) seen (b, is) = (b, is, seen_is seen t b refl is)

module _ {setup : Setup} {x : ShapeInput} {h : Trace} (fits : LazyFits setup x) (told : LazyTold setup x h) {s : ShapeFacts} {near : Near} {f : ℕ} {l : LinkParts} {target : Option (List ℕ)} (n : NodeIs s x.cells near f l) (seen : TargetSeen s x.cells l.target target)
    (start : Start) (c : ℕ) (at : At h.starts c start) (late : (k generation m : ℕ) (body : List ℕ) → n.cell ≡ out generation body m k → start.taken_out ≤ k) where
  module _ (mark : HasMark (link_at n.body 3)) where
    -- a marked node is linked, or was taken out behind the guard's start
    marked : IsMarked x.cells n.index n.body n.marked start.taken_out
    marked = marked_near fits.lists s near n.index n.generation n.marked start.taken_out n.body n.fits mark (λ k e m b there_. late k e m b (one_at x.cells n.index n.cell (out e b m k) n.at there_))

    marked_once : IsMarked x.cells n.index n.body n.marked 0
    marked_once = marked_near fits.lists s near n.index n.generation n.marked 0 n.body n.fits mark (λ k e m b there_. omega arith)

    -- so its key was absent
    absent : AbsentAt setup x.cells h.updates start n.body n.marked
    absent = told.absences c n.index n.marked start n.body at marked

    -- and what its link leads to stands behind it
    marked_up : f ≡ 3 → (b : List ℕ) → target ≡ Some b → (key_at b % setup.roots ≡ key_at n.body % setup.roots) × (key_at n.body < key_at b)
    marked_up field b is = let to = leads_seen s x.cells seen b is in
        fits.up n.index n.marked n.body b to.0 marked_once (target_is n field ∙ to.1) (seen_is seen to.0 b to.1 is)

    -- what is seen of its target
    there_is : f ≡ 3 → IsTargetSeen (link_at n.body 3).target target → TargetIs x.cells (link_at n.body 3).target target
    there_is field = target_there (link_at n.body 3).target (subst (λ (o : Option RefParts). TargetSeen s x.cells o target) (sym (target_is n field)) seen)

  pub lazy_shows : LazyShown setup (record { node = root_at s near; body = n.body; field = f; target = target; marked = n.marked; start = start }) h.updates
  lazy_shows = record {
    list = shows fits.lists told.list n seen start;
    is_record = λ mark. no_root fits.lists s near n.index n.generation n.marked n.body n.fits mark;
    up = λ mark field b is. marked_up mark field b is;
    marked = λ mark. told.list.marks n.index n.marked n.body (marked_once mark);
    within = λ mark. (absent mark).within;
    own = λ mark. (absent mark).own;
    up_to = λ mark field known. (absent mark).up_to target (there_is mark field known);
  }
