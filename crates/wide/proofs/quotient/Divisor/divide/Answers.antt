-- A short quotient is two digits of the two words as they stand; a longer one is that of all but the last 6 bits, and then of those.
use Rattle.std.proofs.Common.{◌≡◌, ℕ, ◌+◌, ◌*◌, ◌/◌, ◌^◌, ◌<◌, ◌∙◌, arith}
use lib.Bits.{bit_and, and_mask}
use mir.Facts.{Fits-cat}
use Rattle.wide.proofs.Laws.{divides, quot_lt, next_digits, divided_is}
use Rattle.wide.proofs.quotient.Divisor.divide.Goals as goal

-- ---- a short quotient
top_lt : (high low v : ℕ) → high < v / 64 → low < 2 ^ 64 → high * 64 + low / 2 ^ 58 < v
top_lt high low v h k = omega arith

whole : (high low : ℕ) → (high * 64 + low / 2 ^ 58) * 2 ^ 58 + bit_and low 288230376151711743 ≡ high * 2 ^ 64 + low
whole high low = omega (arith, and_mask low 58)

-- ---- a longer one: r is left before the last 6 bits of low
most_lt : (high low v : ℕ) → high < v → low < 2 ^ 64 → high * 2 ^ 58 + low / 64 < 2 ^ 58 * v
most_lt high low v h k = omega arith

bits : (r low : ℕ) → bit_and r 4503599627370495 * 64 + bit_and low 63 < 2 ^ 58
bits r low = omega (arith, and_mask r 52, and_mask low 6)

left : (r low : ℕ) → r / 2 ^ 52 * 2 ^ 58 + (bit_and r 4503599627370495 * 64 + bit_and low 63) ≡ r * 64 + bit_and low 63
left r low = omega (arith, and_mask r 52)

left_lt : (r low v : ℕ) → r < v → r / 2 ^ 52 * 2 ^ 58 + (bit_and r 4503599627370495 * 64 + bit_and low 63) < 2 ^ 6 * v
left_lt r low v h = omega (arith, left r low, and_mask low 6)

both : (high low : ℕ) → (high * 2 ^ 58 + low / 64) * 64 + bit_and low 63 ≡ high * 2 ^ 64 + low
both high low = omega (arith, and_mask low 6)

-- ---- at the places of the code
pub overflow_add-result : goal.overflow_add-result
overflow_add-result c =
    let a = c.args in
    let v = a.self.v in
    let top = a.self.top in
    let z : 0 < v = omega arith in
    let first = divides z c.two_digits-first.ensures in
    Fits-cat 58 6 tt
    (quot_lt (2 ^ 58) z c.two_digits-first.ensures (most_lt a.high a.low v c.requires c.ranges.low.fits))
    (quot_lt (2 ^ 6) z c.two_digits-second.ensures (left_lt c.two_digits-first.result.rem a.low v first.small))

pub returns : goal.returns
returns c =
    let a = c.args in
    let v = a.self.v in
    let top = a.self.top in
    let z : 0 < v = omega arith in
    let first = divides z c.two_digits-first.ensures in
    let second = divides z c.two_digits-second.ensures in
    divided_is _ v _ (a.high * 2 ^ 64 + a.low)
    (next_digits 64 v (a.high * 2 ^ 58 + a.low / 64) (bit_and a.low 63) _ _ _ _ first.whole (second.whole ∙ left c.two_digits-first.result.rem a.low)
    ∙ both a.high a.low)
    second.small
