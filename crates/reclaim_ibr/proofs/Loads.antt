-- The epoch is loaded while no scan is on, which leaves all records.
use Rattle.std.proofs.Common.{◌≡◌, ℕ, ◌+◌, ◌*◌, List, [], length, Bool, false, cond, None, ap, ◌∙◌, arith}
use Rattle.std.specs.Prelude.{not}
use Rattle.std.proofs.lemmas.Bool.{ne_eqb}
use Rattle.record_memory.specs.declared.books.Guard.{Guard}
use Rattle.record_memory.specs.declared.books.View.{View}
use Rattle.record_rule.specs.Facts.{LimboRecord}
use Rattle.record_rule.specs.Links.{with_step}
use Rattle.record_rule.specs.Freeing.{count_freed, guard_loaded, LoadedControl}
use Rattle.ibr_facts.specs.Keeping.{ibr, ibr_read, is_met, is_scanned}
use Rattle.reclaim_api.specs.StepForms.{epoch_load}
use Rattle.reclaim_api.proofs.Bagged.{all_stay, bag_none}
use Rattle.reclaim_ibr.specs.Steps.{HasLoadedEpoch, HasRead}
use Rattle.reclaim_ibr.proofs.Confirmed.{confirmed_rest, read_calm}

module _ (v w : View) (e : ℕ) (told : LoadedControl ibr v 1 e w) (calm : v.own.guard.loaded ≡ []) where
  abbrev now : Guard
  now = ibr_read v.own.guard.pending v.own.guard e told.moment.taken_out

  -- none of the ends was loaded, and there is a caller
  unscanned : is_scanned v.setup now ≡ false
  unscanned = let few = ap (λ (g : Guard). length g.loaded) (confirmed_rest v.own.guard.pending v.own.guard e) ∙ ap (λ (l : List ℕ). length l) calm in
      ne_eqb (length now.loaded) (2 * v.setup.callers) (λ all. let some = told.counted in omega arith)

  abbrev may : LimboRecord → Bool
  may = ibr.may_free v.setup (guard_loaded ibr v 1 e told.moment)

  none : count_freed may 0 v.own.mine ≡ 0
  none = bag_none may v.own (λ x. ap (λ (b : Bool). cond b (not (is_met now.loaded x.birth x.stamp)) false) unscanned)

  pub epoch_is_loaded : HasLoadedEpoch v e w
  epoch_is_loaded = record {
    taken_out = told.moment.taken_out;
    view = told.view ∙ (λ k. record v {
      own = record (with_step v.own v.setup.records (epoch_load v.own e)) {
        mine = all_stay may 0 v.own.mine none k;
        moves = record v.own.moves { freed = freed k };
        guard = ap (λ (b : Bool). cond b (record now { loaded = [] }) now) unscanned k;
      };
    });
    rise = told.shows.0;
    limit = told.shows.1;
    behind = λ i h known is. let a = told.behind i h known is in let b = told.taken_out_is in omega arith;
  }
    where
      freed : v.own.moves.freed + count_freed may 0 v.own.mine ≡ v.own.moves.freed
      freed = let n = none in omega arith

-- where nothing waits
pub epoch_is_read : (v w : View) (e : ℕ) → v.own.guard.pending ≡ None → HasLoadedEpoch v e w → HasRead v e w
epoch_is_read v w e none h = record {
  taken_out = h.taken_out;
  view = h.view ∙ ap (λ (g : Guard). record v { own = record (with_step v.own v.setup.records (epoch_load v.own e)) { guard = g } }) (read_calm v.own.guard e h.taken_out none);
  rise = h.rise;
  limit = h.limit;
  behind = h.behind;
}
