-- What clauses say of a table and of its passes.
use Rattle.std.specs.Prelude.{◌≡◌, ℕ, Bool, true, refl}
use Rattle.std.proofs.Common.{◌∙◌}
use Rattle.atomic_table.specs.Table.{State}
use Rattle.record_memory.specs.declared.books.Setup.{Setup}
use Rattle.record_memory.specs.declared.books.View.{View}
use Rattle.record_rule.specs.Facts.{ShapeFacts, CoverFacts}
use Rattle.record_rule.specs.World.{Rule}
use Rattle.record_table.specs.declared.table.Table.{Table}
use Rattle.record_table.specs.declared.passes.Pass.{Pass}

-- the numbers that the table was made with
abbrev pub setup_of : {S R : Type 0} → Table S R → Setup
setup_of t = t.board.shared.key

-- the rule that holds of it between any two steps, by the facts of its set and of its reclaimer
abbrev pub rule : {S R : Type 0} → ShapeFacts → CoverFacts → Table S R → State (Unit {0}) View → Type 0
rule shape cover t = Rule shape cover (setup_of t)

-- it is of the same caller, and carries no other book than before
pub record IsSameView (old new : View) : Type 0 where
  pub caller : new.own.caller ≡ old.own.caller
  pub setup : new.setup ≡ old.setup
  pub present : new.present ≡ old.present
  pub others : new.others ≡ old.others

module _ {S R : Type 0} where
  -- what the pass knows
  abbrev pub view : Pass S R → View
  view p = p.seat.me.0

  -- what it knew when its guard began or ended, and whether it is inside one
  abbrev pub since : Pass S R → View
  since p = p.since.value.me.0

  abbrev pub is_inside : Pass S R → Bool
  is_inside p = p.inside.value

  -- its number among all passes that the table ever had
  abbrev pub seat_of : Pass S R → ℕ
  seat_of p = p.seat.id

  -- it is a pass of this table
  pub record IsPassOf (t : Table S R) (p : Pass S R) : Type 0 where
    pub table : p.seat.table_id ≡ t.board.shared.table_id
    pub setup : (view p).setup ≡ setup_of t
    pub present : (view p).present ≡ true

  -- it made no step
  pub record IsSameSeat (old new : Pass S R) : Type 0 where
    pub same_seat : new.seat ≡ old.seat

  -- it is the pass of the same caller of the same table, and has absorbed no other in between
  pub record IsSamePass (old new : Pass S R) : Type 0 where
    pub table : new.seat.table_id ≡ old.seat.table_id
    pub seat : new.seat.id ≡ old.seat.id
    pub caller : (view new).own.caller ≡ (view old).own.caller
    pub setup : (view new).setup ≡ (view old).setup
    pub present : (view new).present ≡ (view old).present
    pub others : (view new).others ≡ (view old).others
    pub since : new.since ≡ old.since
    pub inside : new.inside ≡ old.inside

  -- which it is of itself, and over two pieces
  abbrev pub same_start : (p : Pass S R) → IsSamePass p p
  same_start p = record { table = refl; seat = refl; caller = refl; setup = refl; present = refl; others = refl; since = refl; inside = refl }

  abbrev pub same_then : (p q r : Pass S R) → IsSamePass p q → IsSamePass q r → IsSamePass p r
  same_then p q r a b = record { table = b.table ∙ a.table; seat = b.seat ∙ a.seat; caller = b.caller ∙ a.caller; setup = b.setup ∙ a.setup; present = b.present ∙ a.present; others = b.others ∙ a.others; since = b.since ∙ a.since; inside = b.inside ∙ a.inside }
