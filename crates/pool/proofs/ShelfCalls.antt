-- What the calls of the pool of shelves answer.
use Rattle.std.proofs.Common.{◌≡◌, ◌≢◌, ℕ, ◌+◌, ◌-◌, ◌*◌, ◌<◌, List, [], ◌∷◌, ◌++◌, get_or, Some, None, sym, refl, ap, ◌∙◌, subst, arith, inl}
use Rattle.std.proofs.lemmas.Bool.{ne_eqb}
use Rattle.std.proofs.lemmas.List.Elements.{All-weaker}
use Rattle.record_memory.specs.declared.steps.Word.{Word}
use Rattle.record_memory.specs.declared.steps.Word.TheVariants.{Shelf}
use Rattle.record_memory.specs.Memory.{word_at}
use Rattle.record_memory.specs.declared.steps.Step.{Step}
use Rattle.record_memory.specs.declared.steps.StepKind.TheVariants.{Load, Swap, Exchange}
use Rattle.record_memory.specs.declared.books.View.{View}
use Rattle.row_words.specs.Refs.{RefParts, IsRef}
use Rattle.row_words.specs.Packing.{packed_ref}
use Rattle.row_words.specs.declared.links.Chain.{Chain}
use Rattle.record_rule.specs.Facts.{CoverFacts}
use Rattle.record_rule.specs.Freeing.{LoadedBy}
use Rattle.record_rule.specs.Kinds.{share_in, idle, made_step, drawing_after}
use Rattle.record_rule.specs.Shelving.{shelf_step, HasFreeChain, TookChain, GaveChain}
use Rattle.record_table.proofs.ShelfSteps.{shelf_word, head_is_ref}
use Rattle.reclaim_api.specs.Chained.{refs_in}
use Rattle.pool.specs.Calls.{IsFull, Gains, Loses, Takes, Gives}
use Rattle.pool.specs.declared.Taken.TheVariants.{Some as Took, None as FoundNone}
use Rattle.pool.specs.declared.Given.TheVariants.{Done, Kept}
use Rattle.pool.proofs.Passing.{Passed, passed_beside, passed_more, passed_within, passed_mine, passed_makes, passed_moves, passed_idle, last_makes, last_few, last_loaded, last_moves, last_first, last_ends, last_leaves}
use Rattle.pool.proofs.FreeChains.{full_of, chain_of, chain_still, chain_was}

abbrev pub IsZero : ℕ → Type 0
IsZero n = n ≡ 0

abbrev pub IsSome : ℕ → Type 0
IsSome n = n ≢ 0

-- a load of the word of a shelf is recorded as what it is
pub loads_shelf : (c : CoverFacts) (v w : View) (k word n : ℕ) → k < 16 → word ≡ 4 + k → LoadedBy c v (word_at v.setup.callers word) word n w → w ≡ made_step v (shelf_step v Load k n n)
loads_shelf c v w k word n below at l = let named : word_at v.setup.callers word ≡ Shelf k = ap (word_at v.setup.callers) at ∙ shelf_word v.setup.callers k below in
    subst (λ (z : Word). LoadedBy c v z word n w) named l ∙ ap (λ (z : Word). made_step v (record { kind = Load; word = z; held = None; found = n; left = n; idle = idle v.own })) named

-- no reference is 0
some_ref : (head : RefParts) → IsRef head → packed_ref (Some head) ≢ 0
unfolding packed_ref
some_ref head is e = let i = is.index.0 in omega arith

module _ (k : ℕ) (v w x : View) where
  -- a shelf that its load finds empty is passed by
  pub passes_empty : Passed IsZero k (2 * k) 0 v w → x ≡ made_step w (shelf_step w Load k 0 0) → Passed IsZero (k + 1) (2 * (k + 1)) 0 v x
  passes_empty p is = passed_within IsZero (k + 1) (2 * k + 1) (2 * (k + 1)) 0 v x (omega arith) (passed_more IsZero k (2 * k) 0 0 0 v w x (shelf_step w Load k 0 0) p is (omega arith) refl refl)

  -- one that it finds taken isn't looked at yet
  pub found_chain : (n : ℕ) → Passed IsZero k (2 * k) 0 v w → n ≢ 0 → x ≡ made_step w (shelf_step w Load k n n) → Passed IsZero k (2 * k + 1) 1 v x
  found_chain n p some_value is = passed_beside IsZero k (2 * k) 0 1 v w x (shelf_step w Load k n n) p is (rw (ne_eqb n 0 some_value) (omega arith)) (rw (ne_eqb n 0 some_value) refl)

  -- and is passed by where another caller was faster
  pub passes_emptied : Passed IsZero k (2 * k + 1) 1 v w → x ≡ made_step w (shelf_step w Swap k 0 0) → Passed IsZero (k + 1) (2 * (k + 1)) 0 v x
  passes_emptied p is = passed_within IsZero (k + 1) (2 * k + 1 + 1) (2 * (k + 1)) 0 v x (omega arith) (passed_more IsZero k (2 * k + 1) 1 0 0 v w x (shelf_step w Swap k 0 0) p is (omega arith) refl refl)

  -- a shelf that an exchange finds taken is passed by
  pub passes_taken : (n : ℕ) → Passed IsSome k k 0 v w → n ≢ 0 → x ≡ made_step w (shelf_step w Exchange k n n) → Passed IsSome (k + 1) (k + 1) 0 v x
  passes_taken n p some_value is = passed_more IsSome k k 0 0 n v w x (shelf_step w Exchange k n n) p is (omega arith) refl some_value

module _ (k : ℕ) (v w x : View) (head : RefParts) where
  -- a chain was taken
  pub took_chain : k < 16 → Passed IsZero k (2 * k + 1) 1 v w → TookChain w k head x → Takes 16 (λ steps. ⊥) v x (Took (record { head = Some head; count = 32 }))
  took_chain below p t = let chain : Chain = record { head = Some head; count = 32 } in let n : ℕ = packed_ref (Some head) in let step : Step = shelf_step w Swap k n 0 in let d = drawing_after w.own.drawing w.setup.records step in
      let full = full_of x chain head t.refs refl refl t.chain in let mine = passed_mine IsZero k (2 * k + 1) 1 v w p in record {
        steps = p.steps ++ step ∷ [];
        made = last_makes IsZero k (2 * k + 1) 1 n v w x p step t.mine d t.view refl;
        few = last_few IsZero k (2 * k + 1) 1 n v w x p step t.mine d t.view refl (omega arith);
        loaded = last_loaded IsZero k (2 * k + 1) 1 n v w x p step t.mine d t.view refl (omega arith);
        moves = last_moves IsZero k (2 * k + 1) 1 n v w x p step t.mine d t.view refl;
        looks = last_first IsZero k (2 * k + 1) 1 n v w x p step t.mine d t.view refl below;
        answer = (
          full.0,
          subst (Gains v x) (sym full.1) record {
            had = All-weaker (λ (r : RefParts). share_in w r.index ≡ None) (λ (r : RefParts). share_in v r.index ≡ None) (λ r e. ap (λ l. get_or l (r.index - 1) None) (sym mine) ∙ e) t.refs t.had;
            others = λ i apart. t.others i apart ∙ ap (λ l. get_or l (i - 1) None) mine;
            more = let a = t.more in let b = passed_idle IsZero k (2 * k + 1) 1 v w p in let c = t.chain.many in omega arith;
          },
          record {
            ended = last_ends IsZero k (2 * k + 1) 1 n v w x p step t.mine d t.view refl (λ found. found ≢ 0) (λ m e ne. ne e) (some_ref head (head_is_ref x head t.refs t.chain));
            named = refl;
            emptied = last_leaves IsZero k (2 * k + 1) 1 n v w x p step t.mine d t.view refl 0 refl refl;
          },
        );
      }

  -- a chain was put
  pub gave_chain : (chain : Chain) (refs : List RefParts) → k < 16 → Passed IsSome k k 0 v w → chain.head ≡ Some head → IsFull v chain → HasFreeChain w head refs → GaveChain w k head refs x → Gives 16 (λ steps. ⊥) v x chain Done
  gave_chain chain refs below p is full has t = let n : ℕ = packed_ref (Some head) in let step : Step = shelf_step w Exchange k 0 n in let d = drawing_after w.own.drawing w.setup.records step in
      let was = chain_was v (v.own.steps ++ p.steps) p.drawing head refs (subst (λ (z : View). HasFreeChain z head refs) p.view has) in let same = (full_of v chain head refs is full.count was).1 in let mine = passed_mine IsSome k k 0 v w p in record {
        steps = p.steps ++ step ∷ [];
        made = last_makes IsSome k k 0 0 v w x p step t.mine d t.view refl;
        few = last_few IsSome k k 0 0 v w x p step t.mine d t.view refl (omega arith);
        moves = last_moves IsSome k k 0 0 v w x p step t.mine d t.view refl;
        looks = last_first IsSome k k 0 0 v w x p step t.mine d t.view refl below;
        answer = (
          subst (Loses v x) (sym same) record {
            gone = t.gone;
            others = λ i apart. t.others i apart ∙ ap (λ l. get_or l (i - 1) None) mine;
            less = let a = t.less in let b = passed_idle IsSome k k 0 v w p in let c = has.many in omega arith;
          },
          record {
            ended = last_ends IsSome k k 0 0 v w x p step t.mine d t.view refl (λ found. found ≡ 0) (λ m ne e. ne e) refl;
            named = last_leaves IsSome k k 0 0 v w x p step t.mine d t.view refl (packed_ref chain.head) refl (ap packed_ref (sym is));
          },
        );
      }

module _ (v w : View) where
  -- each shelf was empty
  pub took_none : Passed IsZero 16 32 0 v w → Takes 16 (λ steps. ⊥) v w FoundNone
  took_none p = record {
    steps = p.steps;
    made = passed_makes IsZero 16 32 0 v w p;
    few = omega (arith, p.few);
    loaded = omega (arith, p.loaded);
    moves = passed_moves IsZero 16 32 0 v w p;
    looks = record { count = 16; within = omega arith; first = p.shelves };
    answer = (passed_mine IsZero 16 32 0 v w p, inl record { all = p.shelves; empty = p.found });
  }

  -- each shelf was taken
  pub kept_chain : (chain : Chain) → Passed IsSome 16 16 0 v w → Gives 16 (λ steps. ⊥) v w chain (Kept chain)
  kept_chain chain p = record {
    steps = p.steps;
    made = passed_makes IsSome 16 16 0 v w p;
    few = omega (arith, p.few);
    moves = passed_moves IsSome 16 16 0 v w p;
    looks = record { count = 16; within = omega arith; first = p.shelves };
    answer = (refl, passed_mine IsSome 16 16 0 v w p, inl record { all = p.shelves; taken = p.found });
  }

  -- the chain is still the caller's
  pub still_has : (k : ℕ) (chain : Chain) (head : RefParts) → Passed IsSome k k 0 v w → chain.head ≡ Some head → IsFull v chain → HasFreeChain w head (refs_in v chain)
  still_has k chain head p is full = subst (λ (z : View). HasFreeChain z head (refs_in v chain)) (sym p.view) (chain_still v (v.own.steps ++ p.steps) p.drawing head (refs_in v chain) (chain_of v chain head is full))
