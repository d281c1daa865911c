-- What becomes of a record of the bag by the words that a scan loaded.
use Rattle.std.specs.Prelude.{ℕ, List, Bool, ◌&&◌, not}
use Rattle.row_words.specs.Refs.{RefParts}
use Rattle.limbo_bags.specs.Wholes.{is_last, is_reusable}
use Rattle.hazard_facts.specs.Pointers.{is_named}

-- it stays where one of them names it
abbrev pub stays : List ℕ → RefParts → Bool
stays words r = is_named r words

-- else it goes
abbrev pub goes : List ℕ → RefParts → Bool
goes words r = not (is_named r words)

-- and can be handed out anew, or is spent
abbrev pub returns : List ℕ → RefParts → Bool
returns words r = goes words r && is_reusable r

abbrev pub is_lost : List ℕ → RefParts → Bool
is_lost words r = goes words r && is_last r
