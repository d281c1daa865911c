-- A scan: announcement words are loaded one after another, and with the last one those records leave limbo that they let go.
use Rattle.std.specs.Prelude.{◌≡◌, ℕ, ◌+◌, List, [], ◌∷◌, ◌++◌, Bool, Option, None}
use Rattle.record_memory.specs.declared.steps.Word.TheVariants.{Announced}
use Rattle.record_memory.specs.declared.steps.StepKind.TheVariants.{Load}
use Rattle.record_memory.specs.declared.steps.Step.{Step}
use Rattle.record_memory.specs.declared.books.Book.{Book}
use Rattle.record_memory.specs.declared.books.Drawing.{Drawing}
use Rattle.record_memory.specs.declared.books.Share.{Share}
use Rattle.record_memory.specs.declared.books.View.{View}
use Rattle.row_words.specs.declared.links.Freed.{Freed}
use Rattle.record_rule.specs.Facts.{LimboRecord}
use Rattle.record_rule.specs.Kinds.{idle}
use Rattle.reclaim_api.specs.Bags.{LeftLimbo}
use Rattle.reclaim_api.specs.StepForms.{IsNoneFreed}

-- the loads that found these values, from the word with this number in an order on, made while so many records were idle
abbrev pub word_loads : (ℕ → ℕ) → ℕ → ℕ → List ℕ → List Step
word_loads order idle_then i [] = []
word_loads order idle_then i (n ∷ ns) = record { kind = Load; word = Announced (order i); held = None; found = n; left = n; idle = idle_then } ∷ word_loads order idle_then (i + 1) ns

-- what is known once the first words of a scan were loaded, and not all of them
abbrev pub with_words : (ℕ → ℕ) → View → List ℕ → Drawing → View
with_words order v words drawing = record v { own = record v.own { steps = v.own.steps ++ word_loads order (idle v.own) 0 words; drawing = drawing; guard = record v.own.guard { loaded = words } } }

pub record LoadsSome (order : ℕ → ℕ) (v : View) (words : List ℕ) (w : View) : Type 0 where
  pub drawing : Drawing
  pub view : w ≡ with_words order v words drawing

-- all words were loaded, and the records that they let go left limbo
pub record LoadsAll (order : ℕ → ℕ) (frees : List ℕ → LimboRecord → Bool) (v : View) (words : List ℕ) (w : View) : Type 0 where
  pub steps : w.own.steps ≡ v.own.steps ++ word_loads order (idle v.own) 0 words
  pub left : LeftLimbo (frees words) v w
  pub guard : w.own.guard ≡ v.own.guard
  pub notes : w.own.notes ≡ v.own.notes
  pub seen : w.seen_updates ≡ v.seen_updates

-- no scan is due: nothing is loaded and nothing freed
pub record Waits (mine : List (Option Share)) (made : List Step) (f : Freed) (c : Book) : Type 0 where
  pub none : made ≡ []
  pub freed : IsNoneFreed f
  pub mine_is : c.mine ≡ mine
