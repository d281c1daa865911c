-- What a pass knows after it took up another's front.
use Rattle.std.specs.Prelude.{◌≡◌, ◌⊎◌, List, Bool, true, false}
use Rattle.set_model.specs.declared.calls.Update.{Update}
use Rattle.record_memory.specs.declared.books.View.{View}
use Rattle.record_rule.specs.World.{StartsWith}
use Rattle.record_rule.specs.Beginnings.{begins}
use Rattle.record_rule.specs.Splits.{spent}

-- a message that carries a front from one pass to another, and no book
abbrev pub message : List Update → View
message front = record spent { front = front }

-- The pass keeps the longer one. No table has two fronts of which neither begins the other; so there the pass would keep both, where its next look at the table sees them
abbrev pub heard_by : Bool → Bool → View → List Update → View
heard_by true c v front = record v { front = front }
heard_by false true v front = v
heard_by false false v front = record v { seen_updates = front }

abbrev pub heard : View → List Update → View
heard v front = heard_by (begins v.front front) (begins front v.front) v front

-- the pass has taken up a front: its own now begins with both, and is one of them; nothing else that it knows changed
pub record HasMet (before : View) (front : List Update) (after : View) : Type 0 where
  pub own : StartsWith after.front before.front
  pub met : StartsWith after.front front
  pub one : (after.front ≡ before.front) ⊎ (after.front ≡ front)
  pub rest : after ≡ record before { front = after.front }
