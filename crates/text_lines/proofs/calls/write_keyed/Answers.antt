use Rattle.std.proofs.Common.{◌≡◌, ℕ, ◌+◌, ◌-◌, ◌≤◌, List, ◌∷◌, ◌++◌, length, take, drop, set, ap, ◌∙◌, arith, decimal, append-nil, length-set, length-drop}
use Rattle.std.proofs.lemmas.Fmt.{length-decimal-le}
use Rattle.std.proofs.lemmas.List.{drop-set, drop_all, take_all, length-take-le, drop_at}
use borrow.Rule.Slice.PartMut.{put_mid}
use Rattle.text_lines.proofs.calls.write_keyed.Goals as goal

-- the bytes from here on were overwritten
drop_put : (xs ys : List ℕ) (a k : ℕ) → a ≤ length xs → length xs ≡ a + k → drop a (put_mid a k xs ys) ≡ ys
drop_put xs ys a k within all =
    drop_at (take a xs) (ys ++ drop k (drop a xs)) a (length-take-le a xs within) ∙ ap (λ (zs : List ℕ). ys ++ zs) (drop_all k (drop a xs) (omega (arith, length-drop a xs))) ∙ append-nil ys

-- a blank before the bytes from a place on, and a letter before the blank
laid : (xs rest : List ℕ) (letter d : ℕ) → 2 ≤ d → d ≤ 32 → length xs ≡ 32 → drop d xs ≡ rest → take (32 - (d - 2)) (drop (d - 2) (set (set xs (d - 1) 32) (d - 2) letter)) ≡ letter ∷ 32 ∷ rest
laid xs rest letter d some few all is =
    let ys = set xs (d - 1) 32 in
    let size : length ys ≡ 32 = length-set xs (d - 1) 32 ∙ all in
    let whole = take_all (32 - (d - 2)) (drop (d - 2) (set ys (d - 2) letter)) (omega (arith, length-drop (d - 2) (set ys (d - 2) letter), length-set ys (d - 2) letter, size)) in
    let one : d - 2 + 1 ≡ d - 1 = omega arith in
    let two : d - 1 + 1 ≡ d = omega arith in
    let second : drop (d - 1) ys ≡ 32 ∷ rest = drop-set xs (d - 1) 32 (omega arith) ∙ ap (λ (n : ℕ). 32 ∷ drop n xs) two ∙ ap (λ (zs : List ℕ). 32 ∷ zs) is in
    whole ∙ drop-set ys (d - 2) letter (omega arith) ∙ ap (λ (n : ℕ). letter ∷ drop n ys) one ∙ ap (λ (zs : List ℕ). letter ∷ zs) second

pub write_digits-digits-requires : goal.write_digits-digits-requires
write_digits-digits-requires c =
    let few : length (decimal c.args.key) ≤ 20 = length-decimal-le 20 c.args.key (omega arith) (omega arith) c.ranges.key.fits in
    (omega arith, omega arith)

pub overflow_sub-buffer : goal.overflow_sub-buffer
overflow_sub-buffer c =
    let few : length (decimal c.args.key) ≤ 20 = length-decimal-le 20 c.args.key (omega arith) (omega arith) c.ranges.key.fits in
    omega arith

pub overflow_sub-buffer-2 : goal.overflow_sub-buffer-2
overflow_sub-buffer-2 c =
    let few : length (decimal c.args.key) ≤ 20 = length-decimal-le 20 c.args.key (omega arith) (omega arith) c.ranges.key.fits in
    omega arith

pub overflow_sub-result : goal.overflow_sub-result
overflow_sub-result c =
    let few : length (decimal c.args.key) ≤ 20 = length-decimal-le 20 c.args.key (omega arith) (omega arith) c.ranges.key.fits in
    omega arith

pub returns : goal.returns
returns c =
    let few : length (decimal c.args.key) ≤ 20 = length-decimal-le 20 c.args.key (omega arith) (omega arith) c.ranges.key.fits in
    let a = 32 - length c.args.end.now in
    let ended = drop_put c.args.buffer.now c.copy_from_slice.new.self a (32 - a) (omega arith) (omega arith) in
    let written = c.write_digits-digits.ensures.written ∙ ap (λ (zs : List ℕ). decimal c.args.key ++ zs) (ended ∙ c.copy_from_slice.ensures.after) in
    laid c.write_digits-digits.new.buf (decimal c.args.key ++ c.args.end.now) c.args.letter c.write_digits-digits.result (omega arith) (omega arith) (omega arith) written
