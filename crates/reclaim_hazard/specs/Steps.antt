-- What each part of a try to hold, of leaving and of a scan leaves of what its pass knows.
use Rattle.std.specs.Prelude.{◌≡◌, ◌≢◌, ℕ, ◌+◌, List, length, false, Some, None}
use Rattle.record_memory.specs.declared.books.View.{View}
use Rattle.row_words.specs.Refs.{RefParts, LinkParts}
use Rattle.row_words.specs.Packing.{packed_ref, packed_link, link_in}
use Rattle.record_rule.specs.Facts.{mark_bit, ShapeFacts}
use Rattle.record_rule.specs.Guards.{holding}
use Rattle.record_rule.specs.ControlSteps.{own_store}
use Rattle.record_rule.specs.Links.{Origin, with_step, ReachedLink}
use Rattle.record_table.specs.declared.nodes.Held.{Held as HeldThere}
use Rattle.guard_facts.specs.Announcing.{announcing}
use Rattle.hazard_facts.specs.Pointers.{hazard, scan_word}
use Rattle.reclaim_api.specs.Scanning.{LoadsSome, LoadsAll}
use Rattle.reclaim_hazard.specs.Running.{is_unnamed}
use Rattle.reclaim_api.specs.declared.holding.Holding.{Holding}
use Rattle.reclaim_api.specs.declared.holding.Holding.TheVariants.{Null, Held, Marked, Moved}

-- what is known after a store in the own word of a place: nothing is held there
abbrev pub stored_own : View → ℕ → ℕ → ℕ → View
stored_own v place value found = record v { own = record (with_step v.own v.setup.records (own_store v place found value)) { guard = holding (announcing v.own.guard place value) place None } }

-- the target was named, and the link then loaded again
pub record HasLoadedAgain (s : ShapeFacts) (v : View) (o : Origin) (place : ℕ) (target : RefParts) (again : LinkParts) (w : View) : Type 0 where
  pub named : ℕ
  pub word : ℕ
  pub again_is : again ≡ link_in word
  pub told : ReachedLink s hazard (stored_own v place (packed_ref (Some target)) named) o 3 (record { place = place; first = false; step = length v.own.steps + 2 }) word w

-- how a link that was loaded again is answered, and what to hold: held where it leads there without a mark, and else by the link, which is a word under this generation
abbrev pub AnswersBy : ℕ → LinkParts → HeldThere → Holding → Type 0
AnswersBy own again held Null = ⊥
AnswersBy own again held (Held h) = (mark_bit again ≡ 0) × (again.target ≡ Some held.target) × (h ≡ held)
AnswersBy own again held (Marked m) = (mark_bit again ≡ 1) × (m ≡ again)
AnswersBy own again held (Moved n) = (mark_bit again ≡ 0) × (again.target ≢ Some held.target) × (n ≡ packed_link own again)

-- the first words of a scan were loaded, and not all of them
abbrev pub HasLoadedWords : View → List ℕ → View → Type 0
HasLoadedWords v words w = LoadsSome scan_word v words w

-- all words were loaded, and the records that none of them names left limbo
abbrev pub HasScanned : View → List ℕ → View → Type 0
HasScanned v words w = LoadsAll scan_word is_unnamed v words w
