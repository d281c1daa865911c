-- The first 32 free records are cut off their chain, and put back.
use Rattle.std.proofs.Common.{◌≡◌, ◌≢◌, ℕ, ◌-◌, ◌≤◌, List, [], ◌∷◌, ◌++◌, append_assoc, get_or, Option, None, sym, refl, ap, ◌∙◌, subst, arith}
use native.Mathlib.Decide.{ℕ_discrete}
use Rattle.record_memory.specs.declared.steps.Step.{Step}
use Rattle.record_memory.specs.declared.steps.Word.TheVariants.{Field}
use Rattle.record_memory.specs.declared.steps.StepKind.TheVariants.{Store}
use Rattle.record_memory.specs.declared.books.View.{View}
use Rattle.record_memory.specs.declared.books.Standing.TheVariants.{Free}
use Rattle.row_words.specs.Refs.{RefParts}
use Rattle.row_words.specs.Rows.{Row, with_next}
use Rattle.row_words.specs.declared.links.Chain.{Chain}
use Rattle.limbo_bags.specs.Wholes.{AreApart}
use Rattle.limbo_bags.proofs.Chains.{chain_kept}
use Rattle.limbo_bags.proofs.Cuts.{IsCut, Halves, chain_cut}
use Rattle.record_rule.specs.Kinds.{stored, idle}
use Rattle.record_rule.specs.ChainRows.{row_in, row_of_share, share_with}
use Rattle.record_rule.proofs.Makes.{idle_mine}
use Rattle.reclaim_api.specs.Chained.{IsAs, IsChainOf, refs_in}
use Rattle.reclaim_api.proofs.Kept.{as_stays}
use Rattle.record_pieces.specs.OwnSteps.{own_load}
use Rattle.record_pieces.specs.Giving.{chain_loads, CutsOff, Mends}
use Rattle.pool.specs.Calls.{IsFull}
use Rattle.manager.specs.Giving.{GoesAlong}
use Rattle.manager.proofs.Stay.{mine_stays}
use Rattle.manager.proofs.FreeSteps.{row_mine, store_step, store_made, store_free, store_idle}

module _ (v u w : View) (chain : Chain) (last : RefParts) (next : Option RefParts) (value : ℕ) (records : u.setup.records ≡ v.setup.records) (list : IsChainOf Free v chain) (enough : 32 ≤ chain.count) (along : GoesAlong v chain last next u) where
  -- the last record that goes is free
  pub last_was : IsAs Free v last
  last_was = subst (IsAs Free v) along.place (list.list.owned 31 last (omega (arith, enough, list.list.count)))

  pub last_is : IsAs Free u last
  last_is = as_stays Free v u records (mine_stays Free v u along.mine) last last_was

  -- the two parts
  abbrev pub first_part : Chain
  first_part = record { head = chain.head; count = 32 }

  abbrev pub rest_part : Chain
  rest_part = record { head = next; count = chain.count - 32 }

  module _ (is : w ≡ stored u last.index 1 value) (row : row_in w last ≡ with_next (row_in u last) None) (others : (q : RefParts) → q.index ≢ last.index → row_in w q ≡ row_in u q) where
    -- each record that was free is free
    pub cut_free : (q : RefParts) → IsAs Free v q → IsAs Free w q
    cut_free q h = store_free u w last value last_is is q (as_stays Free v u records (mine_stays Free v u along.mine) q h)

    is_cut : IsCut (IsAs Free v) (IsAs Free w) (row_in v) (row_in w) 31 chain first_part rest_part last
    is_cut = record {
      list = list.list;
      fits = omega (arith, enough);
      place = along.place;
      stored = row ∙ ap (λ (x : Row). with_next x None) (row_mine v u along.mine last);
      others = λ q ne. others q ne ∙ row_mine v u along.mine q;
      owned = cut_free;
      first_head = refl;
      first_count = refl;
      rest_head = along.next_is;
      rest_count = refl;
    }

    halves : Halves (IsAs Free w) (row_in v) (row_in w) chain first_part rest_part
    halves = chain_cut (IsAs Free v) (IsAs Free w) (row_in v) (row_in w) 31 chain first_part rest_part last is_cut

    -- one is a chain of 32, and the other is what is left
    pub cut_full : IsFull w first_part
    cut_full = record { count = refl; list = record { list = halves.first_list } }

    pub cut_rest : IsChainOf Free w rest_part
    cut_rest = record { list = halves.rest_list }

    pub cut_apart : AreApart (refs_in w first_part) (refs_in w rest_part)
    cut_apart = halves.apart

    pub cut_idle : idle w.own ≡ idle v.own
    cut_idle = store_idle u w last value last_is is ∙ idle_mine v u along.mine

    -- by these steps
    pub cut_steps : CutsOff v.own last w.own
    cut_steps = record {
      walked = along.walked;
      many = along.many;
      next = along.found;
      found = get_or last_is.owns.share.words 1 0;
      left = value;
      steps = (store_made u w last value last_is is).appended ∙ ap (λ (l : List Step). l ++ store_step u w last value last_is is ∷ []) along.made.appended
          ∙ append_assoc v.own.steps (chain_loads v.own along.walked ++ own_load v.own last 1 along.found ∷ []) (store_step u w last value last_is is ∷ [])
          ∙ ap (λ (l : List Step). v.own.steps ++ l) (append_assoc (chain_loads v.own along.walked) (own_load v.own last 1 along.found ∷ []) (store_step u w last value last_is is ∷ [])
          ∙ ap (λ (n : ℕ). chain_loads v.own along.walked ++ own_load v.own last 1 along.found ∷ record { kind = Store; word = Field last.index 1; held = None; found = get_or last_is.owns.share.words 1 0; left = value; idle = n } ∷ []) (idle_mine v u along.mine));
    }

    -- a pool that keeps nothing leaves what is known of each record, and then the chain is put back
    module _ (x y : View) (again : ℕ) (at : x.setup.records ≡ w.setup.records) (mine : x.own.mine ≡ w.own.mine) (then_is : y ≡ stored x last.index 1 again) (row_then : row_in y last ≡ with_next (row_in x last) next)
        (others_then : (q : RefParts) → q.index ≢ last.index → row_in y q ≡ row_in x q) where
      pub back_is : IsAs Free x last
      back_is = as_stays Free w x at (mine_stays Free w x mine) last (cut_free last last_was)

      free_again : (q : RefParts) → IsAs Free v q → IsAs Free y q
      free_again q h = store_free x y last again back_is then_is q (as_stays Free w x at (mine_stays Free w x mine) q (cut_free q h))

      row_again : (q : RefParts) → row_in y q ≡ row_in v q
      row_again q = by (ℕ_discrete q.index last.index)
        where
          at_last : row_in y last ≡ row_in v last
          at_last = row_then ∙ ap (λ (z : Row). with_next z next) (row_mine w x mine last ∙ row ∙ ap (λ (z : Row). with_next z None) (row_mine v u along.mine last)) ∙ ap (with_next (row_in v last)) along.next_is

          by : Dec (q.index ≡ last.index) → row_in y q ≡ row_in v q
          by (yes e) = ap (λ (i : ℕ). row_of_share (share_with y i)) e ∙ at_last ∙ sym (ap (λ (i : ℕ). row_of_share (share_with v i)) e)
          by (no ne) = others_then q ne ∙ row_mine w x mine q ∙ others q ne ∙ row_mine v u along.mine q

      pub back_list : IsChainOf Free y chain
      back_list = record { list = (chain_kept (IsAs Free v) (IsAs Free y) (row_in v) (row_in y) chain free_again (λ k d b. row_again (get_or (refs_in v chain) k d)) list.list).list }

      pub back_idle : idle y.own ≡ idle v.own
      back_idle = store_idle x y last again back_is then_is ∙ idle_mine w x mine ∙ cut_idle

      pub back_steps : Mends x.own last y.own
      back_steps = (_, _, (store_made x y last again back_is then_is).appended)
