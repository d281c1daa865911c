-- Whether a pass is inside an operation of its caller.
use Rattle.std.specs.Prelude.{◌≡◌, ◌≤◌, length, true, false}
use Rattle.record_table.specs.declared.passes.Pass.{Pass}
use Rattle.record_table.specs.Handles.{view, since, is_inside}

module _ {S R : Type 0} where
  -- it is the pass of the same caller of the same table, and has absorbed no other in between
  pub record IsSameCaller (old new : Pass S R) : Type 0 where
    pub table : new.seat.table_id ≡ old.seat.table_id
    pub seat : new.seat.id ≡ old.seat.id
    pub caller : (view new).own.caller ≡ (view old).own.caller
    pub setup : (view new).setup ≡ (view old).setup
    pub present : (view new).present ≡ (view old).present
    pub others : (view new).others ≡ (view old).others

  -- it is inside a guard, which began no later than its last step
  pub record IsInside (p : Pass S R) : Type 0 where
    pub inside : is_inside p ≡ true
    pub later : length (since p).own.steps ≤ length (view p).own.steps

  -- it entered a guard
  pub record Enters (old new : Pass S R) : Type 0 where
    pub same : IsSameCaller old new
    pub began : since new ≡ view old
    pub entered : IsInside new

  -- it left its guard
  pub record Leaves (old new : Pass S R) : Type 0 where
    pub same : IsSameCaller old new
    pub ended : since new ≡ view new
    pub outside : is_inside new ≡ false
