-- The words for modes and values.
use Rattle.std.specs.Prelude.{ℕ, Bool, true, false, List, [], ◌∷◌, map, codes}
use Rattle.std.specs.Prelude.{String}
use Rattle.std.specs.Global.{Global}
use Rattle.std.specs.String.{string_bytes}
use Rattle.set_model.specs.declared.names.AllocatorName.{AllocatorName}
use Rattle.set_model.specs.declared.names.AllocatorName.TheVariants.{Bump, Once}
use Rattle.command_words.specs.declared.command.Mode.{Mode}
use Rattle.command_words.specs.declared.command.Mode.TheVariants.{Play, Check, Generate, Trial}

-- the bytes of each word
abbrev pub texts_of : List (String Global) → List (List ℕ)
texts_of words = map string_bytes words

abbrev pub mode_word : Mode → List ℕ
mode_word Play = codes "play"
mode_word Check = codes "check"
mode_word Generate = codes "generate"
mode_word Trial = codes "trial"

-- the names that may stand behind a mode
abbrev pub names_of : Mode → List (List ℕ)
names_of Play = codes "--set" ∷ codes "--reclaimer" ∷ codes "--allocator" ∷ codes "--buckets" ∷ codes "--records" ∷ []
names_of Check = []
names_of Generate = codes "--callers" ∷ codes "--calls" ∷ codes "--keys" ∷ codes "--seed" ∷ codes "--shared" ∷ []
names_of Trial = codes "--set" ∷ codes "--reclaimer" ∷ codes "--callers" ∷ codes "--calls" ∷ codes "--keys" ∷ codes "--seed" ∷ []

abbrev pub allocator_word : AllocatorName → List ℕ
allocator_word Bump = codes "bump"
allocator_word Once = codes "once"

abbrev pub answer_word : Bool → List ℕ
answer_word true = codes "yes"
answer_word false = codes "no"
