-- Whether what is known of the updates of a table can be of one history.
use Rattle.std.specs.Prelude.{◌⊎◌, List, [], ◌∷◌, Bool, true, false, not, ◌==◌, ◌&&◌, ◌||◌, if◌then◌else◌}
use Rattle.set_model.specs.declared.calls.Update.{Update}
use Rattle.record_memory.specs.declared.books.View.{View}
use Rattle.record_rule.specs.World.{StartsWith}

abbrev pub same_update : Update → Update → Bool
same_update a b = (a.caller == b.caller) && ((a.number == b.number) && ((a.key == b.key) && (if a.added then b.added else not b.added)))

-- whether the second list begins with the first
abbrev pub begins : List Update → List Update → Bool
begins [] whole = true
begins (x ∷ xs) [] = false
begins (x ∷ xs) (y ∷ ys) = same_update x y && begins xs ys

-- one of two lists begins the other, as any two do that begin the updates of one table
abbrev pub agree : List Update → List Update → Bool
agree xs ys = begins xs ys || begins ys xs

-- of the updates that the pass knows by its front and by its steps, one list begins the other
abbrev pub IsOneHistory : View → Type 0
IsOneHistory v = StartsWith v.seen_updates v.front ⊎ StartsWith v.front v.seen_updates
