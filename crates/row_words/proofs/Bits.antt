-- Fields that are shifted and joined by `or` are a sum.
use Rattle.std.proofs.Common.{◌≡◌, ℕ, ◌+◌, ◌*◌, ◌%◌, ◌^◌, ◌<◌, bit_or, ap, ◌∙◌, arith}
use Rattle.std.proofs.lemmas.Nat.{or_shifted}

pub or_field : (own low : ℕ) → own < 2 ^ 20 → low < 2 ^ 44 → bit_or (own * 2 ^ 44 % 2 ^ 64) low ≡ own * 2 ^ 44 + low
or_field own low o h =
    let whole : own * 2 ^ 44 % 2 ^ 64 ≡ own * 2 ^ 44 = omega arith in
    rw whole (or_shifted own 44 low h)

pub or_fields : (own tag low : ℕ) → own < 2 ^ 20 → tag < 2 ^ 4 → low < 2 ^ 40 → bit_or (bit_or (own * 2 ^ 44 % 2 ^ 64) (tag * 2 ^ 40 % 2 ^ 64)) low ≡ own * 2 ^ 44 + (tag * 2 ^ 40 + low)
or_fields own tag low o t h =
    let small : tag * 2 ^ 40 % 2 ^ 64 < 2 ^ 44 = omega arith in
    let high : own * 2 ^ 44 + tag * 2 ^ 40 % 2 ^ 64 ≡ (own * 16 + tag) * 2 ^ 40 = omega arith in
    let all : (own * 16 + tag) * 2 ^ 40 + low ≡ own * 2 ^ 44 + (tag * 2 ^ 40 + low) = omega arith in
    ap (λ n. bit_or n low) (or_field own _ o small ∙ high) ∙ or_shifted (own * 16 + tag) 40 low h ∙ all

pub or_index : (generation index : ℕ) → generation < 2 ^ 20 → index < 2 ^ 20 → bit_or (generation * 2 ^ 20 % 2 ^ 64) index ≡ generation * 2 ^ 20 + index
or_index generation index g h =
    let whole : generation * 2 ^ 20 % 2 ^ 64 ≡ generation * 2 ^ 20 = omega arith in
    rw whole (or_shifted generation 20 index h)
