-- Facts on the lines at the front of bytes.
use Rattle.std.proofs.Common.{◌≡◌, ◌≢◌, ℕ, zero, suc, ◌+◌, ◌^◌, ◌<◌, ◌≤◌, ◌⊎◌, inl, inr, List, [], ◌∷◌, ◌++◌, length, get_or, take, drop, refl, sym, ap, subst, ◌∙◌, arith, true, false}
use Rattle.std.specs.Fmt.{decimal}
use Rattle.std.specs.Str.Parse.{AllDigits, digits_value}
use Rattle.std.specs.Char.{is_ascii_digit, digit_value}
use Rattle.std.specs.Int.{IsInRange}
use Rattle.std.proofs.lemmas.Str.Parse.{digit_from_value, digits_value-take-le}
use Rattle.std.proofs.lemmas.Bool.Decides.{nat_tests}
use Rattle.std.proofs.lemmas.Bool.{cases_eq, false≢true}
use Rattle.std.proofs.lemmas.List.{append_cancel_left, take-append-drop, take_more}
use Rattle.text_lines.specs.Lines.{line, numbered, HasNoFeed}
use Rattle.text_lines.specs.Numbers.{IsNumber}
use Rattle.text_lines.proofs.FeedLemmas.{digits_feedless, feedless_decimal}
use Rattle.text_lines.proofs.LineLemmas.{same_line}
use Rattle.text_lines.proofs.NumberLemmas.{IsNumber-decimal}

-- bytes have a line at the front, or no line feed
pub line_or_rest : (bytes : List ℕ) → ((text : List ℕ) × (more : List ℕ) × HasNoFeed text × (bytes ≡ line text ++ more)) ⊎ HasNoFeed bytes
line_or_rest [] = inr tt
line_or_rest (b ∷ bytes) = go (cases_eq b 10) (line_or_rest bytes) where
  go : (b ≡ 10) ⊎ (b ≢ 10) → ((text : List ℕ) × (more : List ℕ) × HasNoFeed text × (bytes ≡ line text ++ more)) ⊎ HasNoFeed bytes → ((text : List ℕ) × (more : List ℕ) × HasNoFeed text × (b ∷ bytes ≡ line text ++ more)) ⊎ HasNoFeed (b ∷ bytes)
  go (inl e) other = inl ([], bytes, tt, cc)
  go (inr ne) (inl l) = inl (b ∷ l.0, l.1, (ne, l.2), ap (λ (w : List ℕ). b ∷ w) l.3)
  go (inr ne) (inr h) = inr (ne, h)

-- what a text of a word, a blank and these digits says of a number
pub behind_word : (text word rest digits : List ℕ) (n : ℕ) → text ≡ word ++ rest → rest ≡ 32 ∷ digits → text ≡ numbered word n → digits ≡ decimal n
behind_word text word rest digits n first second e =
    let same : rest ≡ 32 ∷ decimal n = append_cancel_left word rest (32 ∷ decimal n) (sym first ∙ e) in
    cc

pub numbered_behind : (text word rest digits : List ℕ) (n : ℕ) → text ≡ word ++ rest → rest ≡ 32 ∷ digits → digits ≡ decimal n → text ≡ numbered word n
numbered_behind text word rest digits n first second e = first ∙ ap (λ (w : List ℕ). word ++ w) (second ∙ ap (λ (w : List ℕ). 32 ∷ w) e)

pub is_number : (digits : List ℕ) (n : ℕ) → n < 2 ^ 64 → digits ≡ decimal n → IsNumber digits n
is_number digits n fits e = subst (λ (ds : List ℕ). IsNumber ds n) (sym e) (IsNumber-decimal n fits)

-- ---- digits at the front of a line of digits

digit_test : (c : ℕ) → digit_value c < 10 → is_ascii_digit c ≡ true
digit_test c h = let d = digit_from_value c h in grind (arith, nat_tests)

-- behind digits comes a digit or the line feed
pub after_digits : (ds rest : List ℕ) (i : ℕ) → AllDigits 10 ds → AllDigits 10 (take i (line ds ++ rest)) → (is_ascii_digit (get_or (line ds ++ rest) i 0) ≡ true) ⊎ (get_or (line ds ++ rest) i 0 ≡ 10)
after_digits [] rest zero hd h = inr refl
after_digits [] rest (suc i) hd h = absurd (not_a_digit (digit_from_value 10 h.0)) where
  not_a_digit : IsInRange 48 57 10 → ⊥
  not_a_digit r = omega (arith, r)
after_digits (d ∷ ds) rest zero hd h = inl (digit_test d hd.0)
after_digits (d ∷ ds) rest (suc i) hd h = after_digits ds rest i hd.1 h.1

-- digits at the front are the first ones
pub first_digits : (ds rest : List ℕ) (i : ℕ) → AllDigits 10 (take i (line ds ++ rest)) → take i (line ds ++ rest) ≡ take i ds
first_digits [] rest zero h = refl
first_digits [] rest (suc i) h = absurd (not_a_digit (digit_from_value 10 h.0)) where
  not_a_digit : IsInRange 48 57 10 → ⊥
  not_a_digit r = omega (arith, r)
first_digits (d ∷ ds) rest zero h = refl
first_digits (d ∷ ds) rest (suc i) h = ap (λ (xs : List ℕ). d ∷ xs) (first_digits ds rest i h.1)

-- bytes that begin with a line of digits: another byte than a digit behind digits is the line feed
pub feed_behind_digits : (bytes rest : List ℕ) (n i : ℕ) → n < 2 ^ 64 → AllDigits 10 (take i bytes) → is_ascii_digit (get_or bytes i 0) ≡ false → get_or bytes i 0 ≢ 10 → bytes ≢ line (decimal n) ++ rest
feed_behind_digits bytes rest n i fits h other ne e =
    let digits = (IsNumber-decimal n fits).digits in
    let next = after_digits (decimal n) rest i digits (subst (λ (xs : List ℕ). AllDigits 10 (take i xs)) e h) in
    let here : get_or bytes i 0 ≡ get_or (line (decimal n) ++ rest) i 0 = ap (λ (xs : List ℕ). get_or xs i 0) e in
    elim next [ inl digit ↦ false≢true (sym other ∙ ap is_ascii_digit here ∙ digit) | inr feed ↦ ne (here ∙ feed) ]

-- and their value is at most the number's
pub value_so_far : (bytes rest : List ℕ) (n i : ℕ) → n < 2 ^ 64 → AllDigits 10 (take i bytes) → bytes ≡ line (decimal n) ++ rest → digits_value 10 (take i bytes) ≤ n
value_so_far bytes rest n i fits h e =
    let same : take i bytes ≡ take i (decimal n) = ap (take i) e ∙ first_digits (decimal n) rest i (subst (λ (xs : List ℕ). AllDigits 10 (take i xs)) e h) in
    let value = (IsNumber-decimal n fits).value in
    omega (arith, ap (digits_value 10) same, digits_value-take-le 10 (decimal n) i (omega arith))

-- where a line feed is behind digits, they are the line
pub line_of_digits : (bytes rest : List ℕ) (n i : ℕ) → n < 2 ^ 64 → AllDigits 10 (take i bytes) → bytes ≡ line (take i bytes) ++ drop (i + 1) bytes → bytes ≡ line (decimal n) ++ rest → IsNumber (take i bytes) n
line_of_digits bytes rest n i fits h front e =
    is_number (take i bytes) n fits (same_line (take i bytes) (decimal n) (drop (i + 1) bytes) rest (digits_feedless (take i bytes) h) (feedless_decimal n fits) (sym front ∙ e)).0

pub split_at : (bytes : List ℕ) (i : ℕ) → i < length bytes → get_or bytes i 0 ≡ 10 → bytes ≡ line (take i bytes) ++ drop (i + 1) bytes
split_at bytes i lt feed =
    let more = take_more bytes i 0 lt in
    sym (take-append-drop (i + 1) bytes) ∙ ap (λ (xs : List ℕ). xs ++ drop (i + 1) bytes) (more ∙ ap (λ (b : ℕ). take i bytes ++ b ∷ []) feed)
