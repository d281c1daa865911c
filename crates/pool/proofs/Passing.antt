-- Shelves that a call looked at and passed by.
use Rattle.std.proofs.Common.{◌≡◌, ℕ, zero, suc, ◌+◌, ◌<◌, ◌≤◌, List, [], ◌∷◌, ◌++◌, length, sum_by, All, Option, sym, refl, ap, ◌∙◌, subst, arith}
use Rattle.std.proofs.lemmas.List.{append-nil, append_assoc, map-append, length-append}
use Rattle.std.proofs.lemmas.List.Sums.{sum_by-append}
use Rattle.std.proofs.lemmas.List.Elements.{All-nil, All-cons, All-append, All-weaker}
use mathlib.Core.Option.{some}
use lib.ListN.{get_elem?}
use Rattle.record_memory.specs.declared.steps.Step.{Step}
use Rattle.record_memory.specs.declared.steps.Word.TheVariants.{Shelf}
use Rattle.record_memory.specs.declared.books.Share.{Share}
use Rattle.record_memory.specs.declared.books.Drawing.{Drawing}
use Rattle.record_memory.specs.declared.books.View.{View}
use Rattle.record_rule.specs.Kinds.{idle, made_step}
use Rattle.record_rule.specs.Makes.{Makes}
use Rattle.pool.specs.Calls.{Leaves, EndsWith}
use Rattle.pool.specs.Looks.{Look, look, seen_as, looks_in, swaps_by, chains_by, SwapsLoaded, shelves_from, shelves_of, AreFirst}

-- the looks of two lists of steps
pub looks_append : (a b : List Step) → looks_in (a ++ b) ≡ looks_in a ++ looks_in b
looks_append [] b = refl
looks_append (t ∷ ts) b = ap (λ (l : List Look). seen_as t.kind t.word t.found ++ l) (looks_append ts b) ∙ sym (append_assoc (seen_as t.kind t.word t.found) (looks_in ts) (looks_in b))

-- one shelf more
next_shelf : (from k : ℕ) → shelves_from from (suc k) ≡ shelves_from from k ++ (from + k) ∷ []
next_shelf from zero = ap (λ (z : ℕ). z ∷ []) (let e : from ≡ from + 0 = omega arith in e)
next_shelf from (suc k) = ap (λ (l : List ℕ). from ∷ l) (next_shelf (from + 1) k ∙ ap (λ (z : ℕ). shelves_from (from + 1) k ++ z ∷ []) (let e : from + 1 + k ≡ from + suc k = omega arith in e))

pub shelves_more : (k : ℕ) → shelves_from 0 (k + 1) ≡ shelves_from 0 k ++ k ∷ []
shelves_more k = ap (shelves_from 0) (let e : k + 1 ≡ suc k = omega arith in e) ∙ next_shelf 0 k ∙ ap (λ (z : ℕ). shelves_from 0 k ++ z ∷ []) (let e : 0 + k ≡ k = omega arith in e)

-- how often steps swap, and how often one is a load of a shelf that finds a chain
abbrev pub swaps_in : List Step → ℕ
swaps_in steps = sum_by (λ (t : Step). swaps_by t.kind) steps

abbrev pub chains_in : List Step → ℕ
chains_in steps = sum_by (λ (t : Step). chains_by t.kind t.word t.found) steps

-- one step more swaps by what its kind says
loaded_more : (steps : List Step) (t : Step) (ahead more : ℕ) → swaps_in steps + ahead ≤ chains_in steps → more + swaps_by t.kind ≤ ahead + chains_by t.kind t.word t.found → swaps_in (steps ++ t ∷ []) + more ≤ chains_in (steps ++ t ∷ [])
loaded_more steps t ahead more le pays = omega (arith, le, pays, sum_by-append (λ (t : Step). swaps_by t.kind) steps (t ∷ []), sum_by-append (λ (t : Step). chains_by t.kind t.word t.found) steps (t ∷ []))

-- The first k shelves were looked at once, in order, by at most so many steps, and each was found so. That many loads that found a chain have no swap yet.
-- Nothing that is known of records changed
pub record Passed (P : ℕ → Type 0) (k most ahead : ℕ) (v w : View) : Type 0 where
  pub steps : List Step
  pub few : length steps ≤ most
  pub loaded : swaps_in steps + ahead ≤ chains_in steps
  pub drawing : Drawing
  pub view : w ≡ record v { own = record v.own { steps = v.own.steps ++ steps; drawing = drawing } }
  pub shelves : shelves_of (looks_in steps) ≡ shelves_from 0 k
  pub found : All (λ (l : Look). P l.found) (looks_in steps)

module _ (P : ℕ → Type 0) where
  pub passed_none : (v : View) → Passed P 0 0 0 v v
  passed_none v = record { steps = []; few = omega arith; loaded = omega arith; drawing = v.own.drawing; view = ap (λ (l : List Step). record v { own = record v.own { steps = l } }) (sym (append-nil v.own.steps)); shelves = refl; found = All-nil (λ (l : Look). P l.found) }

  -- the view after one step more
  view_more : (k most ahead : ℕ) (v w x : View) (t : Step) (p : Passed P k most ahead v w) → x ≡ made_step w t → x ≡ record v { own = record v.own { steps = v.own.steps ++ (p.steps ++ t ∷ []); drawing = (made_step w t).own.drawing } }
  view_more k most ahead v w x t p is = is ∙ ap (λ (z : View). record z { own = record z.own { steps = z.own.steps ++ t ∷ []; drawing = (made_step w t).own.drawing } }) p.view
      ∙ ap (λ (l : List Step). record v { own = record v.own { steps = l; drawing = (made_step w t).own.drawing } }) (append_assoc v.own.steps p.steps (t ∷ []))

  -- a step that is no look
  pub passed_beside : (k most ahead more : ℕ) (v w x : View) (t : Step) → Passed P k most ahead v w → x ≡ made_step w t → more + swaps_by t.kind ≤ ahead + chains_by t.kind t.word t.found → seen_as t.kind t.word t.found ≡ [] → Passed P k (most + 1) more v x
  passed_beside k most ahead more v w x t p is pays sees = let same : looks_in (p.steps ++ t ∷ []) ≡ looks_in p.steps = looks_append p.steps (t ∷ []) ∙ ap (λ (l : List Look). looks_in p.steps ++ (l ++ [])) sees ∙ append-nil (looks_in p.steps) in record {
    steps = p.steps ++ t ∷ [];
    few = omega (arith, length-append p.steps (t ∷ []), p.few);
    loaded = loaded_more p.steps t ahead more p.loaded pays;
    drawing = (made_step w t).own.drawing;
    view = view_more k most ahead v w x t p is;
    shelves = ap shelves_of same ∙ p.shelves;
    found = subst (All (λ (l : Look). P l.found)) (sym same) p.found;
  }

  -- one more shelf
  pub passed_more : (k most ahead more n : ℕ) (v w x : View) (t : Step) → Passed P k most ahead v w → x ≡ made_step w t → more + swaps_by t.kind ≤ ahead + chains_by t.kind t.word t.found → seen_as t.kind t.word t.found ≡ look k n ∷ [] → P n
      → Passed P (k + 1) (most + 1) more v x
  passed_more k most ahead more n v w x t p is pays sees here = record {
    steps = p.steps ++ t ∷ [];
    few = omega (arith, length-append p.steps (t ∷ []), p.few);
    loaded = loaded_more p.steps t ahead more p.loaded pays;
    drawing = (made_step w t).own.drawing;
    view = view_more k most ahead v w x t p is;
    shelves = ap shelves_of (looks_more p.steps t k n sees) ∙ map-append (λ (l : Look). l.shelf) (looks_in p.steps) (look k n ∷ []) ∙ ap (λ (l : List ℕ). l ++ k ∷ []) p.shelves ∙ sym (shelves_more k);
    found = subst (All (λ (l : Look). P l.found)) (sym (looks_more p.steps t k n sees)) (All-append (λ (l : Look). P l.found) (looks_in p.steps) (look k n ∷ []) p.found (All-cons (λ (l : Look). P l.found) (look k n) [] here (All-nil (λ (l : Look). P l.found))));
  }
    where
      looks_more : (steps : List Step) (t : Step) (k n : ℕ) → seen_as t.kind t.word t.found ≡ look k n ∷ [] → looks_in (steps ++ t ∷ []) ≡ looks_in steps ++ look k n ∷ []
      looks_more steps t k n sees = looks_append steps (t ∷ []) ∙ ap (λ (l : List Look). looks_in steps ++ l) (append-nil (seen_as t.kind t.word t.found) ∙ sees)

-- the bound may be higher
pub passed_within : (P : ℕ → Type 0) (k most more ahead : ℕ) (v w : View) → most ≤ more → Passed P k most ahead v w → Passed P k more ahead v w
passed_within P k most more ahead v w le p = record { steps = p.steps; few = omega (arith, le, p.few); loaded = p.loaded; drawing = p.drawing; view = p.view; shelves = p.shelves; found = p.found }

-- after the last one
module _ (P : ℕ → Type 0) (k most ahead : ℕ) (v w : View) (p : Passed P k most ahead v w) where
  pub passed_mine : w.own.mine ≡ v.own.mine
  passed_mine = ap (λ (z : View). z.own.mine) p.view

  pub passed_makes : Makes v w p.steps
  passed_makes = subst (λ (z : View). Makes v z p.steps) (sym p.view) record { appended = refl; rest = refl; retired = refl; freed = refl }

  pub passed_moves : w.own.moves ≡ v.own.moves
  passed_moves = ap (λ (z : View). z.own.moves) p.view

  pub passed_idle : idle w.own ≡ idle v.own
  unfolding idle
  passed_idle = ap (λ (z : View). idle z.own) p.view

-- a further step that is a look at the next shelf, and found something else there
module _ (P : ℕ → Type 0) (k most ahead n : ℕ) (v w x : View) (p : Passed P k most ahead v w) (t : Step) (mine : List (Option Share)) (drawing : Drawing)
    (is : x ≡ record w { own = record w.own { steps = w.own.steps ++ t ∷ []; mine = mine; drawing = drawing } }) (sees : seen_as t.kind t.word t.found ≡ look k n ∷ []) where
  abbrev pub steps : List Step
  steps = p.steps ++ t ∷ []

  pub last_makes : Makes v x steps
  last_makes = let e : x ≡ record v { own = record v.own { steps = v.own.steps ++ steps; mine = mine; drawing = drawing } } = is
      ∙ ap (λ (z : View). record z { own = record z.own { steps = z.own.steps ++ t ∷ []; mine = mine; drawing = drawing } }) p.view
      ∙ ap (λ (l : List Step). record v { own = record v.own { steps = l; mine = mine; drawing = drawing } }) (append_assoc v.own.steps p.steps (t ∷ [])) in
      subst (λ (z : View). Makes v z steps) (sym e) record { appended = refl; rest = refl; retired = refl; freed = refl }

  pub last_moves : x.own.moves ≡ v.own.moves
  last_moves = ap (λ (z : View). z.own.moves) is ∙ passed_moves P k most ahead v w p

  pub last_few : most < 32 → length steps < 33
  last_few h = omega (arith, length-append p.steps (t ∷ []), p.few)

  pub last_loaded : swaps_by t.kind ≤ ahead + chains_by t.kind t.word t.found → SwapsLoaded steps
  last_loaded pays = omega (arith, loaded_more p.steps t ahead 0 p.loaded (omega (arith, pays)))

  pub last_looks : looks_in steps ≡ looks_in p.steps ++ look k n ∷ []
  last_looks = looks_append p.steps (t ∷ []) ∙ ap (λ (l : List Look). looks_in p.steps ++ l) (append-nil (seen_as t.kind t.word t.found) ∙ sees)

  pub last_first : k < 16 → AreFirst 16 (looks_in steps)
  last_first below = record {
    count = k + 1;
    within = omega arith;
    first = ap shelves_of last_looks ∙ map-append (λ (l : Look). l.shelf) (looks_in p.steps) (look k n ∷ []) ∙ ap (λ (l : List ℕ). l ++ k ∷ []) p.shelves ∙ sym (shelves_more k);
  }

  -- and only it did
  abbrev pub last_ends : (Q : ℕ → Type 0) → ((m : ℕ) → P m → ¬ Q m) → Q n → EndsWith (looks_in steps) Q
  last_ends Q none here = record { earlier = looks_in p.steps; last = look k n; all = last_looks; here = here; not_before = All-weaker (λ (l : Look). P l.found) (λ (l : Look). ¬ (Q l.found)) (λ l h. none l.found h) (looks_in p.steps) p.found }

  -- what it left there
  pub last_leaves : (value : ℕ) → t.word ≡ Shelf k → t.left ≡ value → Leaves steps k value
  last_leaves value word left = (length p.steps, t, at_end p.steps t, word, left)
    where
      at_end : (l : List Step) (t : Step) → get_elem? (l ++ t ∷ []) (length l) ≡ some t
      at_end [] t = refl
      at_end (y ∷ ys) t = at_end ys t
