-- How readings follow one another.
use Rattle.std.proofs.Common.{◌≡◌, ℕ, ◌+◌, ◌≤◌, List, ◌++◌, length, take, Option, Some, None, IsSome, sym, ap, subst, ◌∙◌, arith, length-append, append-nil}
use Rattle.std.proofs.lemmas.List.{length-take-le}
use Rattle.std.proofs.lemmas.Bool.{false≢true}
use Rattle.std.proofs.lemmas.List.{append_cancel_right}
use Rattle.outside.specs.Bytes.{with_front, with_front-append, IsAllGiven}
use Rattle.bench_core.specs.Reading.{Gave, GaveAll}

module _ {S : Type 0} (left : S → Option (List ℕ)) where
  pub Gave-then : (a b c : S) (x y : List ℕ) → Gave left a b x → Gave left b c y → Gave left a c (x ++ y)
  Gave-then a b c x y first second = first ∙ ap (with_front x) second ∙ sym (with_front-append x y (left c))

  -- a piece of n bytes more was given
  pub Gave-piece : (a b c : S) (so_far piece : List ℕ) (n : ℕ) → n ≤ length piece → Gave left a b so_far → Gave left b c (take n piece)
      → (given : List ℕ) × Gave left a c given × (length given ≡ length so_far + n)
  Gave-piece a b c so_far piece n within first second =
      let front = take n piece in
      (so_far ++ front, Gave-then a b c so_far front first second, omega (arith, length-append so_far front, length-take-le n piece within))

same_front : (o : Option (List ℕ)) (x y : List ℕ) → IsSome (with_front x o) → with_front x o ≡ with_front y o → x ≡ y
same_front None x y told same = absurd (false≢true told)
same_front (Some rest) x y told same = append_cancel_right x y rest (let e : x ++ rest ≡ y ++ rest = cc in e)

all_given : (o : Option (List ℕ)) (x bytes : List ℕ) → IsAllGiven o → Some bytes ≡ with_front x o → x ≡ bytes
all_given None x bytes none same = cc
all_given (Some rest) x bytes none same = let e : bytes ≡ x ++ rest = cc in sym (e ∙ ap (λ r. x ++ r) none ∙ append-nil x)

front_length : (o : Option (List ℕ)) (x bytes : List ℕ) → Some bytes ≡ with_front x o → length x ≤ length bytes
front_length None x bytes same = cc
front_length (Some rest) x bytes same = let e : bytes ≡ x ++ rest = cc in omega (arith, ap length e, length-append x rest)

-- a source that tells its bytes gave just these
pub Gave-same : {S : Type 0} (left : S → Option (List ℕ)) (a b : S) (x y : List ℕ) → IsSome (left a) → Gave left a b x → Gave left a b y → x ≡ y
Gave-same left a b x y told first second = same_front (left b) x y (subst IsSome first told) (sym first ∙ second)

-- one that tells that it has given all has given just what it had
pub GaveAll-is : {S : Type 0} (left : S → Option (List ℕ)) (a b : S) (x bytes : List ℕ) → left a ≡ Some bytes → GaveAll left a b x → x ≡ bytes
GaveAll-is left a b x bytes told given = all_given (left b) x bytes given.all (sym told ∙ given.gave)

-- what was given is a front of what it had
pub Gave-length-le : {S : Type 0} (left : S → Option (List ℕ)) (a b : S) (x bytes : List ℕ) → left a ≡ Some bytes → Gave left a b x → length x ≤ length bytes
Gave-length-le left a b x bytes told given = front_length (left b) x bytes (sym told ∙ given)
