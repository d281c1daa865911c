-- Words in pairs, a name and a value.
use Rattle.std.specs.Prelude.{◌≡◌, ◌⊎◌, ℕ, List, [], ◌∷◌, Option, Some, None}

-- the name is one of these
abbrev pub IsOneOf : List (List ℕ) → List ℕ → Type 0
IsOneOf [] name = ⊥
IsOneOf (word ∷ words) name = (name ≡ word) ⊎ IsOneOf words name

-- one of the pairs has this name and this value
abbrev pub Gives : List (List ℕ) → List ℕ → List ℕ → Type 0
Gives [] name value = ⊥
Gives (given ∷ []) name value = ⊥
Gives (given ∷ word ∷ words) name value = ((given ≡ name) × (word ≡ value)) ⊎ Gives words name value

-- none of the pairs has this name
abbrev pub IsAbsent : List (List ℕ) → List ℕ → Type 0
IsAbsent words name = (value : List ℕ) → ¬ (Gives words name value)

-- The words are pairs in any order. Each name is one of these, and none comes twice.
abbrev pub ArePairs : List (List ℕ) → List (List ℕ) → Type 0
ArePairs names [] = Unit {0}
ArePairs names (given ∷ []) = ⊥
ArePairs names (given ∷ word ∷ words) = IsOneOf names given × IsAbsent words given × ArePairs names words

-- the pairs give this value, in words of `text`, or the name is absent and it is the default
abbrev pub GivesOr : {X : Type 0} → List (List ℕ) → List ℕ → (X → List ℕ) → X → X → Type 0
GivesOr words name text default value = Gives words name (text value) ⊎ (IsAbsent words name × (value ≡ default))

-- the pairs give this value, in words of `text`, if there is one, and else the name is absent
abbrev pub GivesMaybe : {X : Type 0} → List (List ℕ) → List ℕ → (X → List ℕ) → Option X → Type 0
GivesMaybe words name text None = IsAbsent words name
GivesMaybe words name text (Some value) = Gives words name (text value)

-- the words are pairs, and no name comes twice
abbrev pub HasNamesOnce : List (List ℕ) → Type 0
HasNamesOnce [] = Unit {0}
HasNamesOnce (given ∷ []) = ⊥
HasNamesOnce (given ∷ word ∷ words) = IsAbsent words given × HasNamesOnce words
