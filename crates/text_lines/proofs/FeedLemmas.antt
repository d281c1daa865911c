-- Which bytes have no line feed, and which texts differ.
use Rattle.std.proofs.Common.{◌≡◌, ◌≢◌, ℕ, ◌^◌, ◌<◌, List, [], ◌∷◌, ◌++◌, ap, arith, true, not, eqb, get_or}
use Rattle.std.specs.Fmt.{decimal}
use Rattle.std.specs.List.{AllByRecursion, list_all}
use Rattle.std.proofs.lemmas.Bool.{and_parts, eqb-false, not-true}
use Rattle.std.specs.Str.Parse.{AllDigits}
use Rattle.std.proofs.lemmas.Fmt.{decimal_is_IsNumeral, decimal_injective}
use Rattle.std.proofs.lemmas.List.{append_cancel_left}
use Rattle.std.proofs.lemmas.Str.Parse.{digit_from_value}
use Rattle.text_lines.specs.Lines.{numbered, HasNoFeed}

pub digits_feedless : (ds : List ℕ) → AllDigits 10 ds → HasNoFeed ds
digits_feedless [] h = tt
digits_feedless (c ∷ ds) h = let d = digit_from_value c h.0 in (omega arith, digits_feedless ds h.1)

pub feedless_append : (xs ys : List ℕ) → HasNoFeed xs → HasNoFeed ys → HasNoFeed (xs ++ ys)
feedless_append [] ys hx hy = hy
feedless_append (x ∷ xs) ys hx hy = (hx.0, feedless_append xs ys hx.1 hy)

pub feedless_decimal : (n : ℕ) → n < 2 ^ 64 → HasNoFeed (decimal n)
feedless_decimal n h = digits_feedless (decimal n) (decimal_is_IsNumeral n h).0.1

pub feedless_numbered : (word : List ℕ) (n : ℕ) → HasNoFeed word → n < 2 ^ 64 → HasNoFeed (numbered word n)
feedless_numbered word n hw hn = feedless_append word (32 ∷ decimal n) hw (omega arith, feedless_decimal n hn)

pub feedless_by_test : (bytes : List ℕ) → list_all (λ b. not (eqb b 10)) bytes ≡ true → HasNoFeed bytes
feedless_by_test [] h = tt
feedless_by_test (b ∷ bytes) h =
    let parts = and_parts (not (eqb b 10)) (list_all (λ c. not (eqb c 10)) bytes) h in
    (eqb-false b 10 (not-true (eqb b 10) parts.0), feedless_by_test bytes parts.1)

pub feedless_lines : (xs ys : List (List ℕ)) → AllByRecursion HasNoFeed xs → AllByRecursion HasNoFeed ys → AllByRecursion HasNoFeed (xs ++ ys)
feedless_lines [] ys hx hy = hy
feedless_lines (x ∷ xs) ys hx hy = (hx.0, feedless_lines xs ys hx.1 hy)

-- texts that start with different bytes
pub other_start : (xs ys : List ℕ) → get_or xs 0 0 ≢ get_or ys 0 0 → xs ≢ ys
other_start xs ys ne e = ne (ap (λ (zs : List ℕ). get_or zs 0 0) e)

-- a word and a number tell the number
pub same_number : (word : List ℕ) (m n : ℕ) → m < 2 ^ 64 → n < 2 ^ 64 → numbered word m ≡ numbered word n → m ≡ n
same_number word m n hm hn e =
    let digits : decimal m ≡ decimal n = let all = append_cancel_left word (32 ∷ decimal m) (32 ∷ decimal n) e in cc in
    decimal_injective m n hm hn digits
