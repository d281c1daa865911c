-- What contracts see of a set in one thread.
use Rattle.std.specs.Prelude.{ℕ, ◌<◌, refl}
use Rattle.std.specs.Coded.{Coded, code_by, coded×, coded_ℕ}
use Rattle.std.specs.FinSet as std_set
use Rattle.set_model.specs.declared.calls.Call.{Call}
use Rattle.set_model.specs.declared.calls.Call.TheVariants.{Insert, Remove, Search}
use Rattle.set_model.specs.Keys.{Keys, size_of}

-- a set of keys, and how many keys it has room for
pub record KeysWithRoom : Type 0 where
  pub keys : Keys
  pub room : ℕ

-- stored as the pair of its fields
abbrev pub keys_with_room_code : Coded KeysWithRoom
keys_with_room_code = code_by (Keys × ℕ) (coded× (std_set.code coded_ℕ) coded_ℕ) (λ s. (s.keys, s.room)) (λ p. record { keys = p.0; room = p.1 }) (λ _. refl)

-- the call finds room: where it inserts, fewer keys are there than there is room for
abbrev pub HasRoomFor : Call → KeysWithRoom → Type 0
HasRoomFor (Insert key) set = size_of set.keys < set.room
HasRoomFor (Remove key) set = Unit {0}
HasRoomFor (Search key) set = Unit {0}
