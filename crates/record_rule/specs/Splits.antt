-- What two passes know after one was split off, and what a pass knows that another was joined into.
use Rattle.std.specs.Prelude.{List, [], ◌∷◌, ◌++◌, length, nat_lt, if◌then◌else◌, None, Bool, true, false}
use Rattle.set_model.specs.declared.calls.Update.{Update}
use Rattle.set_model.specs.declared.names.SetName.TheVariants.{Plain}
use Rattle.set_model.specs.declared.names.ReclaimerName.TheVariants.{Nothing}
use Rattle.set_model.specs.declared.names.AllocatorName.TheVariants.{Bump}
use Rattle.record_memory.specs.declared.books.Setup.{Setup}
use Rattle.record_memory.specs.declared.books.View.{View}
use Rattle.record_memory.specs.declared.books.Book.{Book}
use Rattle.record_memory.specs.declared.books.Guard.{Guard}
use Rattle.record_rule.specs.World.{carries}
use Rattle.record_rule.specs.Beginnings.{agree}
use Rattle.record_rule.specs.Opening.{first_book}

abbrev pub left_of : View → List Book → View
left_of v [] = v
left_of v (b ∷ bs) = record v { others = bs; alone = false }

abbrev pub right_of : View → List Book → View
right_of v [] = v
right_of v (b ∷ bs) = record v { own = b; others = []; alone = false }

-- the pass keeps all but the first book that is not its own caller's
abbrev pub split_left : View → View
split_left v = left_of v v.others

-- a new pass has that book
abbrev pub split_right : View → View
split_right v = right_of v v.others

-- of two beginnings of one list, the one that has more
abbrev pub longer : {A : Type 0} → List A → List A → List A
longer xs ys = if nat_lt (length xs) (length ys) then ys else xs

-- What a joined pass knows of the updates, its front first: the longer lists, where what each of the two passes knows is of one history, and their fronts are.
-- On a table they always are. Where they weren't, the pass would keep two lists of which neither begins the other, with which no table can end
abbrev pub known_by : Bool → Bool → Bool → View → View → List Update × List Update
known_by true true true v w = (longer v.front w.front, longer v.seen_updates w.seen_updates)
known_by true true false v w = (v.front, w.front)
known_by true false c v w = (w.front, w.seen_updates)
known_by false b c v w = (v.front, v.seen_updates)

abbrev pub known_by_both : View → View → List Update × List Update
known_by_both v w = known_by (agree v.front v.seen_updates) (agree w.front w.seen_updates) (agree v.front w.front) v w

-- the pass carries the other's books behind its own, and knows these updates
abbrev pub joined_with : List Update × List Update → View → View → View
joined_with known v w = record v {
  others = v.others ++ carries w;
  front = known.0;
  seen_updates = known.1;
  seen_taken_out = longer v.seen_taken_out w.seen_taken_out;
}

-- and has seen what either had
abbrev pub joined : View → View → View
joined v w = joined_with (known_by_both v w) v w

-- what is left of a pass that was joined into another
abbrev pub no_setup : Setup
no_setup = record { records = 0; roots = 0; callers = 0; first = 0; set = Plain; reclaimer = Nothing; allocator = Bump }

abbrev pub no_guard : Guard
no_guard = record { active = false; start_taken_out = 0; start_updates = 0; start_step = 0; announced = []; holds = []; pending = None; epoch = 0; readings = []; reading_taken_out = 0; scan_place = 0; loaded = [] }

abbrev pub spent : View
spent = record { setup = no_setup; present = false; alone = false; own = first_book no_setup no_guard 0; others = []; front = []; seen_updates = []; seen_taken_out = [] }
