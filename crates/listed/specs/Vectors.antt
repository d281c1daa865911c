-- What vectors of vectors hold.
use Rattle.std.specs.Prelude.{List, map}
use Rattle.std.specs.Global.{Vec}

-- the lists that vectors hold
abbrev pub items_of : {X : Type 0} → List (Vec X) → List (List X)
items_of vecs = map (λ vec. vec.items) vecs
