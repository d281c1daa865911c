-- The callers of passes that made no step, in order.
use Rattle.std.proofs.Common.{◌≡◌, ℕ, zero, suc, ◌+◌, ◌<◌, ◌≤◌, length, List, [], ◌∷◌, ◌++◌, map, All, cond, Bool, false, get_or, replicate, None, Option, sym, refl, ap, ◌∙◌, arith}
use Rattle.std.specs.List.{count_by}
use Rattle.std.proofs.lemmas.List.{reverse-append, append_assoc, append-nil, nil_from_length}
use Rattle.std.proofs.lemmas.List.Sums.{sum_by-cons}
use Rattle.std.proofs.lemmas.List.Elements.{All-nil, All-cons}
use mathlib.Core.List.{reverse}
use Rattle.record_memory.specs.declared.books.Guard.{Guard}
use Rattle.record_memory.specs.declared.books.Setup.{Setup}
use Rattle.record_memory.specs.declared.books.Book.{Book}
use Rattle.record_memory.specs.declared.books.Share.{Share}
use Rattle.record_memory.specs.declared.books.View.{View}
use Rattle.record_rule.specs.World.{carries}
use Rattle.record_rule.specs.Kinds.{is_idle, idle}
use Rattle.record_table.specs.declared.table.Table.{Table}
use Rattle.record_table.specs.declared.passes.Pass.{Pass}
use Rattle.record_table.specs.Handles.{setup_of, view, is_inside}
use Rattle.record_table.specs.Closing.{own_book, own_caller, numbers_from}
use Rattle.record_table.specs.Made.{IsFresh, AreFreshFrom}
use Rattle.record_table.proofs.Closings.{tail_fresh}
use Rattle.manager.specs.declared.types.Caller.{Caller}
use Rattle.record_memory.specs.declared.books.Standing.{Standing}
use Rattle.record_rule.specs.Standings.{is_limbo, is_spent}
use Rattle.reclaim_api.specs.Frames.{is_as, had, in_away}
use Rattle.reclaim_api.specs.Locals.{HasNoneAway}
use Rattle.manager.specs.Counted.{shown, AreCounted}
use Rattle.manager.specs.Made.{passes_of}

-- of records that a caller doesn't have none is idle
none_idle : (n : ℕ) → count_by is_idle (replicate n None) ≡ 0
none_idle zero = refl
none_idle (suc n) = let e = sum_by-cons (λ (x : Option Share). cond (is_idle x) 1 0) None (replicate n None) in let h = none_idle n in omega arith

-- nor is any of a caller that made no step
pub fresh_idle : (setup : Setup) (first : Guard) (c : ℕ) (v : View) → IsFresh setup first c v → idle v.own ≡ 0
unfolding idle
fresh_idle setup first c v f = ap (λ (b : Book). count_by is_idle b.mine) f.own ∙ none_idle setup.records

-- it has none in any way
none_had : (test : Standing → Bool) (n : ℕ) → count_by (is_as test) (replicate n None) ≡ 0
none_had test zero = refl
none_had test (suc n) = let e = sum_by-cons (λ (x : Option Share). cond (is_as test x) 1 0) None (replicate n None) in let h = none_had test n in omega arith

fresh_had : (test : Standing → Bool) (setup : Setup) (first : Guard) (c : ℕ) (v : View) → IsFresh setup first c v → had test v.own ≡ 0
fresh_had test setup first c v f = ap (λ (b : Book). had test b) f.own ∙ none_had test setup.records

-- so none of them is in limbo or spent
no_entry : (n j : ℕ) → get_or {A = Option Share} (replicate n None) j None ≡ None
no_entry zero j = refl
no_entry (suc n) zero = refl
no_entry (suc n) (suc j) = no_entry n j

pub fresh_away : (setup : Setup) (first : Guard) (c : ℕ) (v : View) → IsFresh setup first c v → HasNoneAway v
fresh_away setup first c v f i = ap (λ (b : Book). in_away (get_or b.mine i None)) f.own ∙ ap in_away (no_entry setup.records i)

-- and all its counts are 0
pub fresh_counted : (setup : Setup) (first : Guard) (c : ℕ) (v : View) → IsFresh setup first c v → AreCounted (record { drawn = 0; reused = 0; retired = 0; freed = 0; spent = 0 }) v.own
fresh_counted setup first c v f = record {
  drawn = ap (λ (b : Book). shown b.moves.drawn) (sym f.own);
  reused = ap (λ (b : Book). shown b.moves.reused) (sym f.own);
  retired = ap (λ (b : Book). shown b.moves.retired) (sym f.own);
  freed = ap (λ (b : Book). shown b.moves.freed) (sym f.own);
  spent = ap shown (sym (fresh_had is_spent setup first c v f));
  limbo = let a = fresh_had is_limbo setup first c v f in let d = ap (λ (b : Book). b.moves.freed) f.own in let e = ap (λ (b : Book). b.moves.retired) f.own in omega arith;
}

module _ {S R : Type 0} (t : Table S R) (first : Guard) where
  -- it is outside, and made no step
  abbrev pub IsNew : Pass S R → Type 0
  IsNew p = (is_inside p ≡ false) × ((c : ℕ) × (c < (setup_of t).callers) × IsFresh (setup_of t) first c (view p))

  pub all_new : (from : ℕ) (ps : List (Pass S R)) → from + length ps ≤ (setup_of t).callers → AreFreshFrom t first from ps → All IsNew ps
  all_new from [] few f = All-nil IsNew
  all_new from (p ∷ ps) few f = All-cons IsNew p ps ((f.each_outside 0 p refl).inside_is, (from + 0, omega arith, f.each_view 0 p refl)) (all_new (from + 1) ps (omega arith) (tail_fresh t first from p ps f))

module _ {S R L : Type 0} where
  -- one caller more
  pub map_push : (cs : List (Caller S R L)) (c : Caller S R L) → passes_of (cs ++ c ∷ []) ≡ passes_of cs ++ c.pass ∷ []
  map_push [] c = refl
  map_push (x ∷ xs) c = ap (λ (l : List (Pass S R)). x.pass ∷ l) (map_push xs c)

  -- the last pass that is left comes next
  pub seat_more : (all xs ys : List (Pass S R)) (cs ds : List (Caller S R L)) (p : Pass S R) (c : Caller S R L) → xs ≡ ys ++ p ∷ [] → ds ≡ cs ++ c ∷ [] → c.pass ≡ p → passes_of cs ++ reverse xs ≡ all → passes_of ds ++ reverse ys ≡ all
  seat_more all xs ys cs ds p c e f is was = ap (λ (l : List (Caller S R L)). passes_of l ++ reverse ys) f ∙ ap (λ (l : List (Pass S R)). l ++ reverse ys) (map_push cs c ∙ ap (λ (q : Pass S R). passes_of cs ++ q ∷ []) is)
      ∙ append_assoc (passes_of cs) (p ∷ []) (reverse ys) ∙ ap (λ (l : List (Pass S R)). passes_of cs ++ l) (sym (ap (λ (l : List (Pass S R)). reverse l) e ∙ reverse-append ys (p ∷ []))) ∙ was

  -- the callers the other way round
  pub passes_reversed : (cs : List (Caller S R L)) → passes_of (reverse cs) ≡ reverse (passes_of cs)
  passes_reversed [] = refl
  passes_reversed (c ∷ cs) = ap (λ (l : List (Caller S R L)). passes_of l) (reverse-append (c ∷ []) cs) ∙ map_push (reverse cs) c ∙ ap (λ (l : List (Pass S R)). l ++ c.pass ∷ []) (passes_reversed cs) ∙ sym (reverse-append (c.pass ∷ []) (passes_of cs))

  -- and one less
  pub popped_passes : (xs ys : List (Caller S R L)) (c : Caller S R L) → xs ≡ ys ++ c ∷ [] → passes_of xs ≡ passes_of ys ++ c.pass ∷ []
  popped_passes xs ys c e = ap (λ (l : List (Caller S R L)). passes_of l) e ∙ map_push ys c

  -- a table has a caller
  pub no_callers : (cs : List (Caller S R L)) → length cs ≡ 0 → (n : ℕ) → 0 < n → map own_caller (passes_of cs) ≡ numbers_from 0 n → ⊥
  no_callers [] none zero some e = omega arith
  no_callers [] none (suc n) some e = cc
  no_callers (c ∷ cs) none n some e = omega arith

-- a view that absorbed all passes but those that are left carries all books once none is left
pub all_absorbed : {S R : Type 0} (all : List Book) (left : List (Pass S R)) (v : View) → length left ≡ 0 → carries v ++ map own_book (reverse left) ≡ all → carries v ≡ all
all_absorbed {S} {R} all left v none is = sym (append-nil (carries v)) ∙ ap (λ (l : List (Pass S R)). carries v ++ map own_book (reverse l)) (sym (nil_from_length left none)) ∙ is
