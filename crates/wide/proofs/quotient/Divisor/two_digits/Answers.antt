-- Two steps of long division: the first digit's remainder goes before the second.
use Rattle.std.proofs.Common.{◌≡◌, ℕ, ◌+◌, ◌*◌, ◌/◌, ◌^◌, ◌<◌, ◌∙◌, arith}
use lib.Bits.{bit_and, and_mask}
use Rattle.wide.proofs.Laws.{divides, next_digits, divided_is}
use Rattle.wide.proofs.quotient.Divisor.two_digits.Goals as goal

-- the digits of the dividend
joined : (x n : ℕ) → (x * 2 ^ 29 + n / 2 ^ 29) * 2 ^ 29 + bit_and n 536870911 ≡ x * 2 ^ 58 + n
joined x n = omega (arith, and_mask n 29)

pub returns : goal.returns
returns c =
    let a = c.args in
    let v = a.self.v in
    let top = a.self.top in
    let z : 0 < v = omega arith in
    let first = divides z c.digit-first.ensures in
    let second = divides z c.digit-second.ensures in
    divided_is _ v _ (a.x * 2 ^ 58 + a.n)
    (next_digits (2 ^ 29) v (a.x * 2 ^ 29 + a.n / 2 ^ 29) (bit_and a.n 536870911) _ _ _ _ first.whole second.whole ∙ joined a.x a.n)
    second.small
