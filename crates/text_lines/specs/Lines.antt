-- Texts made of lines, and numbers in them. Other texts are spelled by these words too.
use Rattle.std.specs.Prelude.{◌≢◌, ℕ, List, [], ◌∷◌, ◌++◌}
use Rattle.std.specs.List.{flat_map, AllByRecursion}
use Rattle.std.specs.Fmt.{decimal}

-- a line: these bytes, and a line feed
abbrev pub line : List ℕ → List ℕ
line bytes = bytes ++ 10 ∷ []

-- lines, one after another
abbrev pub lines_text : List (List ℕ) → List ℕ
lines_text lines = flat_map line lines

-- a word and a number, a blank between them: decimal digits without a leading zero, 0 being `0`
abbrev pub numbered : List ℕ → ℕ → List ℕ
numbered word n = word ++ 32 ∷ decimal n

-- bytes that can stand in a line: none of them is a line feed
abbrev pub HasNoFeed : List ℕ → Type 0
HasNoFeed bytes = AllByRecursion (λ byte. byte ≢ 10) bytes
