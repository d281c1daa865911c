-- What an object tells of its bytes: `Some` of them, or `None` where it tells nothing.
use Rattle.std.specs.Prelude.{◌≡◌, ℕ, List, [], ◌++◌, Option, Some, None, refl}
use Rattle.std.proofs.Common.{sym, ap, append_assoc}

-- these bytes, and then those of the object
abbrev pub with_front : List ℕ → Option (List ℕ) → Option (List ℕ)
with_front bytes None = None
with_front bytes (Some told) = Some (bytes ++ told)

-- the bytes of the object, and then these
abbrev pub with_back : Option (List ℕ) → List ℕ → Option (List ℕ)
with_back None bytes = None
with_back (Some told) bytes = Some (told ++ bytes)

-- nothing is left, where the object tells what is left
abbrev pub IsAllGiven : Option (List ℕ) → Type 0
IsAllGiven None = Unit {0}
IsAllGiven (Some left) = left ≡ []

pub with_front-append : (xs ys : List ℕ) (o : Option (List ℕ)) → with_front (xs ++ ys) o ≡ with_front xs (with_front ys o)
with_front-append xs ys None = refl
with_front-append xs ys (Some told) = ap Some (append_assoc xs ys told)

pub with_back-append : (o : Option (List ℕ)) (xs ys : List ℕ) → with_back o (xs ++ ys) ≡ with_back (with_back o xs) ys
with_back-append None xs ys = refl
with_back-append (Some told) xs ys = ap Some (sym (append_assoc told xs ys))
