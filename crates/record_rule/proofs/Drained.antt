-- Where a step found that no record was left, every record was drawn.
use Rattle.std.proofs.Common.{◌≡◌, ℕ, zero, suc, ◌+◌, ◌≤◌, List, [], ◌∷◌, length, sum_by, refl, subst, arith}
use Rattle.std.proofs.lemmas.List.Sums.{sum_by-cons}
use Rattle.set_model.specs.declared.calls.Update.{Update}
use Rattle.set_model.specs.declared.names.AllocatorName.{AllocatorName}
use Rattle.set_model.specs.declared.names.AllocatorName.TheVariants.{Bump}
use Rattle.record_memory.specs.declared.steps.Step.{Step}
use Rattle.record_memory.specs.declared.steps.Word.TheVariants.{Drawn}
use Rattle.record_memory.specs.declared.books.Setup.{Setup}
use Rattle.record_memory.specs.declared.books.Book.{Book}
use Rattle.record_memory.specs.declared.books.Place.{Place}
use Rattle.record_memory.specs.declared.books.Place.TheVariants.{Undrawn, Root, Linked, Shelved, Of}
use Rattle.record_memory.specs.Memory.{Memory, memory}
use Rattle.record_rule.specs.Records.{Record}
use Rattle.record_rule.specs.Facts.{At, ShapeFacts, CoverFacts}
use Rattle.record_rule.specs.Standings.{is_root}
use Rattle.record_rule.specs.PlaceCounts.{count_in}
use Rattle.record_rule.specs.Counts.{drawn_as, was_drawn, drawn_by}
use Rattle.record_rule.specs.World.{IsLeftBy, Places}
use Rattle.record_rule.specs.ClosedTables.{ClosedFits}
use Rattle.record_rule.proofs.Lists.{below_at}
use Rattle.record_rule.proofs.CountingPlaces.{bit, in_cons}

-- a record that isn't undrawn is a root or was drawn
root_or_drawn : (p : Place) → ¬ (p ≡ Undrawn) → bit (is_root p) + drawn_as p ≡ 1
root_or_drawn Undrawn ne = absurd (ne refl)
root_or_drawn Root ne = refl
root_or_drawn Linked ne = refl
root_or_drawn (Shelved k) ne = refl
root_or_drawn (Of c s) ne = refl

-- so where none is undrawn, each is counted once
roots_and_drawn : (l : List Record) → ((i : ℕ) (r : Record) → At l i r → ¬ (r.place ≡ Undrawn)) → count_in is_root l + sum_by was_drawn l ≡ length l
roots_and_drawn [] none = refl
roots_and_drawn (r ∷ rs) none = let h = roots_and_drawn rs (λ i x at. none (suc i) x at) in let e = root_or_drawn r.place (none zero r refl) in
    let a = in_cons is_root r rs in let b = sum_by-cons was_drawn r rs in omega (arith, h, e, a, b)

-- where as many were drawn as there are, the allocator `Bump` has left none undrawn
none_undrawn : (setup : Setup) (records : List Record) (books : List Book) (m : Memory) → Places setup records books m → setup.allocator ≡ Bump → setup.records ≤ m.drawn → (i : ℕ) (r : Record) → At records i r → ¬ (r.place ≡ Undrawn)
none_undrawn setup records books m p bump all i r at is = let left = subst (λ (a : AllocatorName). IsLeftBy a setup m i) bump (p.undrawn i r at is) in
    let lt = below_at records i r at in let many = p.many in omega (arith, left, lt, many, all)

-- where a step found the number of records or more, and the allocator is `Bump`, every record was drawn
pub none_left : {s : ShapeFacts} {c : CoverFacts} {setup : Setup} {words : List ℕ} {books : List Book} {history : List Update} → ClosedFits s c setup words books history → setup.allocator ≡ Bump
    → (d : ℕ) (b : Book) → At books d b → (n : ℕ) (t : Step) → At b.steps n t → t.word ≡ Drawn → setup.records ≤ t.found → setup.roots + sum_by drawn_by books ≡ setup.records
none_left {setup = setup} {words = words} {books = books} closed bump d b book n t step on past = let m : Memory = memory setup.callers setup.records words in
    let within : t.found ≤ m.drawn = closed.seen d b book n t step on in let all : setup.records ≤ m.drawn = omega (arith, within, past) in
    let each = roots_and_drawn closed.records (none_undrawn setup closed.records books m closed.placed bump all) in
    let roots = closed.counted.roots in let many = closed.placed.many in let drawn = closed.moved.drawn in omega (arith, each, roots, many, drawn)
