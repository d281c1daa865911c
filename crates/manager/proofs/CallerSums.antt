-- The records that callers have, counted by caller and by place.
use Rattle.std.proofs.Common.{◌≡◌, ◌≢◌, ℕ, zero, suc, ◌+◌, ◌<◌, ◌≤◌, List, [], ◌∷◌, map, length, sum_by, Bool, true, false, cond, eqb, Some, None, sym, refl, ap, ◌∙◌, arith}
use Rattle.std.specs.List.{count_by}
use Rattle.std.proofs.lemmas.Bool.{eq-eqb, eqb-true, false_from_ne_true}
use Rattle.std.proofs.lemmas.List.Sums.{sum_by-cons}
use native.Mathlib.Decide.{ℕ_discrete}
use Rattle.record_memory.specs.declared.books.Book.{Book}
use Rattle.record_memory.specs.declared.books.Setup.{Setup}
use Rattle.record_memory.specs.declared.books.Place.{Place}
use Rattle.record_memory.specs.declared.books.Place.TheVariants.{Undrawn, Root, Linked, Shelved, Of}
use Rattle.record_memory.specs.declared.books.Share.{Share}
use Rattle.record_memory.specs.declared.books.Standing.{Standing}
use Rattle.record_memory.specs.Memory.{Memory}
use Rattle.record_rule.specs.Facts.{At}
use Rattle.record_rule.specs.Records.{Record, share_at, share, known}
use Rattle.record_rule.specs.World.{Places}
use Rattle.record_rule.specs.Standings.{is_had}
use Rattle.record_rule.specs.PlaceCounts.{count_in}
use Rattle.record_rule.proofs.CountingPlaces.{bit, count_cons, in_cons}
use Rattle.reclaim_api.specs.Frames.{is_as, had}

-- the sum over so many numbers from one on
abbrev over : ℕ → ℕ → (ℕ → ℕ) → ℕ
over from zero f = 0
over from (suc n) f = f from + over (from + 1) n f

-- of two parts
over_adds : (f g h : ℕ → ℕ) → ((c : ℕ) → f c ≡ g c + h c) → (from n : ℕ) → over from n f ≡ over from n g + over from n h
over_adds f g h e from zero = refl
over_adds f g h e from (suc n) = let a = e from in let b = over_adds f g h e (from + 1) n in omega arith

-- where there is nothing
over_none : (f : ℕ → ℕ) (from n : ℕ) → ((c : ℕ) → from ≤ c → f c ≡ 0) → over from n f ≡ 0
over_none f from zero e = refl
over_none f from (suc n) e = let a = e from (omega arith) in let b = over_none f (from + 1) n (λ c low. e c (omega arith)) in omega arith

-- and where there is one number alone
over_one : (f : ℕ → ℕ) (d x : ℕ) → f d ≡ x → ((c : ℕ) → c ≢ d → f c ≡ 0) → (from n : ℕ) → from ≤ d → d < from + n → over from n f ≡ x
over_one f d x is else from zero low high = absurd (omega arith)
over_one f d x is else from (suc n) low high = by (λ lower higher. over_one f d x is else (from + 1) n lower higher) (ℕ_discrete from d)
  where
    by : (from + 1 ≤ d → d < from + 1 + n → over (from + 1) n f ≡ x) → Dec (from ≡ d) → f from + over (from + 1) n f ≡ x
    by rest (yes e) = let a : f from ≡ f d = ap f e in let b = over_none f (from + 1) n (λ c above. else c (λ k. omega arith)) in omega arith
    by rest (no ne) = let a = else from ne in let b = rest (omega arith) (omega arith) in omega arith

module _ (test : Standing → Bool) where
  -- how many of these records a caller has so
  abbrev by_caller : List Record → ℕ → ℕ
  by_caller rs c = count_by (is_as test) (map (share c) rs)

  -- one record is counted for the one caller that has it
  place_sum : (n : ℕ) (r : Record) (p : Place) → ((d : ℕ) (s : Standing) → p ≡ Of d s → d < n) → over 0 n (λ c. bit (is_as test (share_at c p r))) ≡ bit (is_had test p)
  place_sum n r Undrawn within = over_none (λ c. 0) 0 n (λ c low. refl)
  place_sum n r Root within = over_none (λ c. 0) 0 n (λ c low. refl)
  place_sum n r Linked within = over_none (λ c. 0) 0 n (λ c low. refl)
  place_sum n r (Shelved k) within = over_none (λ c. 0) 0 n (λ c low. refl)
  place_sum n r (Of d s) within = over_one (λ c. bit (is_as test (share_at c (Of d s) r))) d (bit (test s)) (has d true (eq-eqb d d refl)) (λ c ne. has c false (false_from_ne_true (eqb d c) (λ t. ne (sym (eqb-true d c t))))) 0 n (omega arith) (let w = within d s refl in omega arith)
    where
      held : Share
      held = record { standing = s; generation = r.generation; taken_number = r.taken_number; words = known s r.row }

      has : (c : ℕ) (b : Bool) → eqb d c ≡ b → bit (is_as test (cond (eqb d c) (Some held) None)) ≡ bit (is_as test (cond b (Some held) None))
      has c b e = ap (λ (z : Bool). bit (is_as test (cond z (Some held) None))) e

  record_sum : (n : ℕ) (rs : List Record) → ((i : ℕ) (r : Record) → At rs i r → (d : ℕ) (s : Standing) → r.place ≡ Of d s → d < n) → over 0 n (by_caller rs) ≡ count_in (is_had test) rs
  record_sum n [] within = over_none (λ c. 0) 0 n (λ c low. refl)
  record_sum n (r ∷ rs) within =
      let a = over_adds (by_caller (r ∷ rs)) (λ c. bit (is_as test (share c r))) (by_caller rs) (λ c. count_cons (is_as test) (share c r) (map (share c) rs)) 0 n in
      let b = place_sum n r r.place (within 0 r refl) in let h = record_sum n rs (λ i q at. within (suc i) q at) in let c = in_cons (is_had test) r rs in omega arith

  -- each caller's book has what the records say
  book_sum : (records : List Record) (from : ℕ) (books : List Book) → ((c : ℕ) (b : Book) → At books c b → b.mine ≡ map (share (from + c)) records) → sum_by (had test) books ≡ over from (length books) (by_caller records)
  book_sum records from [] mine = refl
  book_sum records from (b ∷ bs) mine = let a = sum_by-cons (had test) b bs in
      let here : had test b ≡ by_caller records from = ap (count_by (is_as test)) (mine 0 b refl) ∙ ap (by_caller records) (omega arith) in
      let h = book_sum records (from + 1) bs (λ c x at. mine (suc c) x at ∙ ap (λ k. map (share k) records) (omega arith)) in omega arith

  -- so the callers' numbers add up to the table's
  pub callers_had : (setup : Setup) (records : List Record) (books : List Book) (m : Memory) → Places setup records books m → sum_by (had test) books ≡ count_in (is_had test) records
  callers_had setup records books m p = book_sum records 0 books (λ c b at. (p.books_fit c b at).mine ∙ ap (λ k. map (share k) records) (omega arith))
      ∙ ap (λ n. over 0 n (by_caller records)) p.callers ∙ record_sum setup.callers records (λ i r at. (p.sound i r at).callers)
