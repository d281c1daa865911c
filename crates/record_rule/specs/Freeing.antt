-- A load of a control word, after which records of the caller's limbo may be free.
use Rattle.std.specs.Prelude.{◌≡◌, ℕ, ◌+◌, ◌<◌, List, [], ◌∷◌, length, Bool, Option, Some, None, slice_index_or, ◌==◌, ◌&&◌, if◌then◌else◌}
use Rattle.set_model.specs.declared.calls.Update.{Update}
use Rattle.record_memory.specs.declared.steps.Word.{Word}
use Rattle.record_memory.specs.declared.steps.Word.TheVariants.{Drawn, Epoch, Lock, Blank, Shelf, Announced, Cursor, Field}
use Rattle.record_memory.specs.declared.books.View.{View}
use Rattle.record_memory.specs.declared.books.Share.{Share}
use Rattle.record_memory.specs.declared.books.Guard.{Guard}
use Rattle.record_memory.specs.declared.books.Standing.{Standing}
use Rattle.record_memory.specs.declared.books.Standing.TheVariants.{TakenOut, Free, Spent}
use Rattle.record_memory.specs.Memory.{word_at}
use Rattle.row_words.specs.Refs.{RefParts, refer}
use Rattle.row_words.specs.Packing.{number_in}
use Rattle.record_rule.specs.Facts.{Moment, LimboRecord, CoverFacts}
use Rattle.record_rule.specs.Kinds.{share_in, freed_more, control_load, loaded_control}
use Rattle.record_rule.specs.Links.{with_step, AreWhole}
use Rattle.record_rule.specs.Standings.{is_limbo}

-- a record at the last generation is never handed out again
abbrev pub freed_standing : ℕ → Standing
freed_standing generation = if generation == 1048575 then Spent else Free

-- what a test of limbo records reads of the one with the index i + 1
abbrev pub limbo_share : ℕ → Share → LimboRecord
limbo_share i h = record { reference = refer (i + 1) h.generation; birth = number_in (slice_index_or h.words 0 0); stamp = number_in (slice_index_or h.words 2 0) }

abbrev pub leaves_limbo : (LimboRecord → Bool) → ℕ → Share → Bool
leaves_limbo may i h = is_limbo h.standing && may (limbo_share i h)

abbrev pub freed_of : (LimboRecord → Bool) → ℕ → Option Share → Option Share
freed_of may i None = None
freed_of may i (Some h) = Some (if leaves_limbo may i h then record h { standing = freed_standing h.generation } else h)

-- what a caller knows of its records from the index i + 1 on, once those of its limbo that pass the test have left it
abbrev pub freed_from : (LimboRecord → Bool) → ℕ → List (Option Share) → List (Option Share)
freed_from may i [] = []
freed_from may i (s ∷ ss) = freed_of may i s ∷ freed_from may (i + 1) ss

-- and how many leave it
abbrev pub leaves_one : (LimboRecord → Bool) → ℕ → Option Share → ℕ
leaves_one may i None = 0
leaves_one may i (Some h) = if leaves_limbo may i h then 1 else 0

abbrev pub count_freed : (LimboRecord → Bool) → ℕ → List (Option Share) → ℕ
count_freed may i [] = 0
count_freed may i (s ∷ ss) = leaves_one may i s + count_freed may (i + 1) ss

-- the guard of a caller that loaded n from a control word
abbrev pub guard_loaded : CoverFacts → View → ℕ → ℕ → Moment → Guard
guard_loaded c v word n m = c.loaded v.setup m v.own.caller v.own.guard (word_at v.setup.callers word) n

pub record LoadedControl (c : CoverFacts) (v : View) (word n : ℕ) (w : View) : Type 0 where
  pub updates : List Update
  pub taken_out : List RefParts
  pub whole : AreWhole v updates taken_out
  pub moment : Moment
  pub taken_out_is : moment.taken_out ≡ length taken_out
  pub updates_is : moment.updates ≡ length updates
  -- each record that its caller took out and hasn't retired was among them
  pub behind : (i : ℕ) (h : Share) → share_in v i ≡ Some h → h.standing ≡ TakenOut → h.taken_number < length taken_out
  -- its caller is one of the table's
  pub counted : v.own.caller < v.setup.callers
  -- what the reclaimer learns of the value by the guard before
  pub shows : c.shows v.setup v.own.guard (word_at v.setup.callers word) n
  pub view : w ≡ record v {
    own = record (with_step v.own v.setup.records (control_load v word n)) {
      mine = freed_from (c.may_free v.setup (guard_loaded c v word n moment)) 0 v.own.mine;
      moves = freed_more v.own.moves (count_freed (c.may_free v.setup (guard_loaded c v word n moment)) 0 v.own.mine);
      guard = c.cleared v.setup (guard_loaded c v word n moment);
    };
  }

-- A load of a control word by anybody: of the epoch and of an announcement the reclaimer learns, and every other word leaves guard and records as they were
abbrev pub LoadedBy : CoverFacts → View → Word → ℕ → ℕ → View → Type 0
LoadedBy c v Drawn word n w = w ≡ loaded_control v word n
LoadedBy c v Epoch word n w = LoadedControl c v word n w
LoadedBy c v Lock word n w = w ≡ loaded_control v word n
LoadedBy c v Blank word n w = w ≡ loaded_control v word n
LoadedBy c v (Shelf k) word n w = w ≡ loaded_control v word n
LoadedBy c v (Announced k) word n w = LoadedControl c v word n w
LoadedBy c v (Cursor d) word n w = w ≡ loaded_control v word n
LoadedBy c v (Field i f) word n w = w ≡ loaded_control v word n
