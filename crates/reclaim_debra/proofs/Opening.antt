-- The local part of a caller that made no step.
use Rattle.std.proofs.Common.{◌≡◌, ℕ, [], ◌∷◌, get_or, Bool, false, None, refl, ap, arith, inr}
use Rattle.record_memory.specs.declared.books.View.{View}
use Rattle.record_memory.specs.declared.books.Guard.{Guard}
use Rattle.row_words.specs.declared.links.Chain.{Chain}
use Rattle.record_rule.specs.Facts.{LimboRecord}
use Rattle.reclaim_api.specs.Frames.{in_away}
use Rattle.reclaim_api.specs.Bags.{bag_count}
use Rattle.guard_facts.specs.Announcing.{first_guard}
use Rattle.debra_facts.specs.Rounds.{PLACES}
use Rattle.reclaim_debra.specs.LocalParts.{is_stamped, is_other, IsLocal}
use Rattle.reclaim_debra.specs.Stamped.{empty_bag}
use Rattle.reclaim_api.proofs.Bagged.{bag_away}

module _ (s v : View) (guard : v.own.guard ≡ first_guard PLACES (1 ∷ 0 ∷ 0 ∷ [])) (none : (i : ℕ) → in_away (get_or v.own.mine i None) ≡ None) where
  -- nothing is in limbo
  none_there : (t : LimboRecord → Bool) → bag_count t v.own ≡ 0
  none_there t = bag_away t (record v { own = record v.own { mine = [] } }) v none

  pub opens : (a b d : Chain) → a.head ≡ None → a.count ≡ 0 → b.head ≡ None → b.count ≡ 0 → d.head ≡ None → d.count ≡ 0 → IsLocal (record { reading = 1; place = 0; current = a; second = b; third = d }) false s v
  opens a b d a_head a_count b_head b_count d_head d_count = record {
    bags = record {
      second = 0;
      third = 0;
      readings = ap (λ (g : Guard). g.readings) guard;
      rise = omega arith;
      rose = inr (refl, d_count);
      limit = omega arith;
      place = ap (λ (g : Guard). g.scan_place) guard;
      current_bag = empty_bag v 1 a a_head a_count (none_there (is_stamped 1));
      second_bag = empty_bag v 0 b b_head b_count (none_there (is_stamped 0));
      third_bag = empty_bag v 0 d d_head d_count (none_there (is_stamped 0));
      no_other = none_there (is_other 1 0 0);
    };
    guarded = ap (λ (g : Guard). g.active) guard;
  }
