-- What the last pass of a table knows once it has absorbed every other, of the words that are left.
use Rattle.std.proofs.Common.{◌≡◌, ℕ, zero, suc, ◌+◌, List, length, refl, sym, ap, ◌∙◌, subst, arith}
use Rattle.std.proofs.lemmas.List.{length-map}
use mathlib.Core.Option.{some-injective, some-ne-none, some}
use lib.ListN.{get_elem?}
use Rattle.atomic_table.proofs.Lists.{at_map}
use Rattle.record_memory.specs.declared.books.Setup.{Setup}
use Rattle.record_memory.specs.declared.books.View.{View}
use Rattle.record_memory.specs.declared.books.Book.{Book}
use Rattle.record_rule.specs.Records.{IsSetup}
use Rattle.record_rule.specs.Facts.{ShapeFacts, CoverFacts}
use Rattle.record_rule.specs.Laws.{ShapeLaws}
use Rattle.record_rule.specs.World.{Rule, carries}
use Rattle.record_rule.specs.ClosedTables.{ClosedFits}
use Rattle.record_rule.specs.Beginnings.{IsOneHistory}
use Rattle.record_rule.proofs.Beginnings.{one_begins}
use Rattle.record_rule.proofs.Closes.{closed_fits}
use Rattle.record_table.specs.declared.closing.Closed.{Closed}
use Rattle.record_table.specs.Closing.{closed_words, closed_setup, closed_view, numbers_from, IsLastOf, IsEndOf, IsClosedBy}

numbers_at : (from n c x : ℕ) → get_elem? (numbers_from from n) c ≡ some x → x ≡ from + c
numbers_at from zero c x e = absurd (some-ne-none x (sym e))
numbers_at from (suc n) zero x e = let z = some-injective from x e in omega arith
numbers_at from (suc n) (suc c) x e = let z = numbers_at (from + 1) n c x e in omega arith

numbers_many : (from n : ℕ) → length (numbers_from from n) ≡ n
numbers_many from zero = refl
numbers_many from (suc n) = ap suc (numbers_many (from + 1) n)

module _ (setup : Setup) (v : View) (last : IsLastOf setup v) where
  numbered : (c : ℕ) (b : Book) → get_elem? (carries v) c ≡ some b → b.caller ≡ c
  numbered c b e = let z = numbers_at 0 setup.callers c b.caller (ap (λ l. get_elem? l c) (sym last) ∙ at_map (λ (x : Book). x.caller) (carries v) c b e) in omega arith

  many : length (carries v) ≡ setup.callers
  many = sym (length-map (carries v) (λ (b : Book). b.caller)) ∙ ap length last ∙ numbers_many 0 setup.callers

  -- the end of a table is one that its rule allows
  ended_fits : (s : ShapeFacts) (r : CoverFacts) → ShapeLaws s → (words : List ℕ) → IsSetup setup → IsEndOf (Rule s r setup) v words → ClosedFits s r setup words (carries v) v.front
  ended_fits s r laws words numbers e = subst (λ ws. ClosedFits s r setup ws (carries v) v.front) e.words_are (closed_fits s r setup e.state e.rule e.seat v e.known many numbered laws numbers)

-- what the last pass knows is of one history
pub one_history : (s : ShapeFacts) (r : CoverFacts) (setup : Setup) (v : View) (words : List ℕ) → IsEndOf (Rule s r setup) v words → IsOneHistory v
one_history s r setup v words e = let u = e.rule in let f = u.seated e.seat v e.known in one_begins u.updates v.front v.seen_updates f.front f.seen_updates

pub closed_by : (s : ShapeFacts) (r : CoverFacts) → ShapeLaws s → (setup : Setup) (v : View) (c : Closed) → IsSetup setup → closed_setup c ≡ setup → closed_view c ≡ v → IsEndOf (Rule s r setup) v (closed_words c) → IsLastOf setup v → IsClosedBy s r c
closed_by s r laws setup v c numbers k w e last = subst (λ (z : Setup × View). ClosedFits s r z.0 (closed_words c) (carries z.1) z.1.front) (λ j. (sym k j, sym w j)) (ended_fits setup v last s r laws (closed_words c) numbers e)
