-- One amount over many weights of one sum w: its size is whole · w + part, and part over w is a fraction of 2^63. For each weight
-- t the product with the fraction is the quotient of part × t over w, or one less.
use Rattle.std.specs.Prelude.{◌≡◌, ℕ, ◌+◌, ◌*◌, ◌/◌, ◌%◌, ◌^◌, ◌<◌, ◌≤◌, ℤ}
use Rattle.std.proofs.Common.{sym, ap, ap₂, ◌∙◌, ⊎_elim, arith}
use Rattle.std.proofs.Common.{mul-le-mul_right, mul-lt-mul_of_pos_right, le_of_mul-le-mul_right, div-add-mod', mod-lt, div-lt_iff_lt-mul}
use Rattle.std.proofs.Math.Arith.{digits_div, digits_mod}
use Rattle.ints.specs.Bridge.{abs}
use Rattle.ints.specs.NatSums.{le_or_lt}
use Rattle.wide.specs.declared.Divided.{Divided}
use Rattle.wide.specs.Exact.{divided}

-- f is part × 2^63 over w, rounded down
pub record Fraction (part w f : ℕ) : Type 0 where
  pub low : f * w ≤ part * 2 ^ 63
  pub high : part * 2 ^ 63 < f * w + w

-- an amount within its limit, and those three numbers of it and of w
pub record AnyRated (amount : ℤ) (w whole part fraction : ℕ) : Type 0 where
  pub most : abs amount ≤ 100000000000000000
  pub sum : abs amount ≡ whole * w + part
  pub less : part < w
  pub rounded : Fraction part w fraction

-- an amount and a sum within their limits, and those three numbers of them
pub record Rated (amount : ℤ) (w whole part fraction : ℕ) : Type 0 where
  pub most : abs amount ≤ 100000000000000000
  pub total : w ≤ 100000000000000000
  pub sum : abs amount ≡ whole * w + part
  pub less : part < w
  pub rounded : Fraction part w fraction

-- t is a weight of w, a sum within its limit
abbrev pub Weight : ℕ → ℕ → Type 0
Weight t w = (t ≤ w) × (w ≤ 100000000000000000)

-- a quotient and a remainder below the divisor are the only ones
pub divided_is : (x w q r : ℕ) (d : Divided ℕ) → d.quot ≡ q → d.rem ≡ r → q * w + r ≡ x → r < w → d ≡ divided x w
divided_is x w q r d a b e l =
    ap₂ both (a ∙ sym (digits_div q l) ∙ ap (λ (n : ℕ). n / w) e) (b ∙ sym (digits_mod q l) ∙ ap (λ (n : ℕ). n % w) e)
  where
    both : ℕ → ℕ → Divided ℕ
    both q r = record { quot = q; rem = r }

-- a product whose high word is 0
pub one_word : (n : ℕ) → n / 2 ^ 64 ≡ 0 → {l : ℕ} → l ≡ n % 2 ^ 64 → l ≡ n
one_word n h e = omega (arith, div-add-mod' n (2 ^ 64))

pub record Near (n w q : ℕ) : Type 0 where
  pub low : q * w ≤ n
  pub high : n < q * w + (w + w)

-- the high word of fraction × 2 t
pub near : (part f t w : ℕ) → 0 < w → t ≤ 100000000000000000 → Fraction part w f → Near (part * t) w (f * (2 * t) / 2 ^ 64)
near part f t w z h F =
    let q = f * (2 * t) / 2 ^ 64 in
    let d = div-add-mod' (f * (2 * t)) (2 ^ 64) in
    let l : f * (2 * t) % 2 ^ 64 < 2 ^ 64 = mod-lt (f * (2 * t)) (omega arith) in
    go (f * (2 * t) / 2 ^ 64) (f * (2 * t) % 2 ^ 64) d l
  where
    go : (q r : ℕ) → q * 2 ^ 64 + r ≡ f * (2 * t) → r < 2 ^ 64 → Near (part * t) w q
    go q r e l =
        let a : f * w * t ≤ part * 2 ^ 63 * t = mul-le-mul_right t F.low in
        let b : part * 2 ^ 63 * t ≤ (f * w + w) * t = mul-le-mul_right t (omega (arith, F.high)) in
        let c : (q * 2 ^ 64 + r) * w ≡ f * (2 * t) * w = ap (λ (n : ℕ). n * w) e in
        let g : r * w < 2 ^ 64 * w = mul-lt-mul_of_pos_right l z in
        let t2 : t * w ≤ 100000000000000000 * w = mul-le-mul_right w h in
        record {
          low = le_of_mul-le-mul_right {k = 2 ^ 64} (omega arith) (omega arith);
          high = ⊎_elim (λ o. absurd (omega arith)) (λ o. o) (le_or_lt (q * w + (w + w)) (part * t));
        }

-- and it is at most 2 t
pub high_le : (f t : ℕ) → f < 2 ^ 64 → f * (2 * t) / 2 ^ 64 < 2 * t + 1
high_le f t h =
    let z : 0 < 2 ^ 64 = omega arith in
    let g : f ≤ 2 ^ 64 = omega arith in
    let m : f * (2 * t) ≤ 2 ^ 64 * (2 * t) = mul-le-mul_right (2 * t) g in
    (div-lt_iff_lt-mul z).1 (omega arith)

-- a difference taken modulo 2^64, of numbers that differ by less
pub wrapped : (n y r : ℕ) → y ≤ n → n < y + 2 ^ 64 → r < 2 ^ 64 → (r + y % 2 ^ 64) % 2 ^ 64 ≡ n % 2 ^ 64 → r + y ≡ n
wrapped n y r a b c e =
    omega (arith, div-add-mod' n (2 ^ 64), div-add-mod' y (2 ^ 64), div-add-mod' (r + y % 2 ^ 64) (2 ^ 64))

-- the size's share is no larger than the size
pub share_le : (size whole part w t q : ℕ) → 0 < w → t ≤ w → size ≡ whole * w + part → q * w ≤ part * t → whole * t + q ≤ size
share_le size whole part w t q z h e l =
    le_of_mul-le-mul_right {k = w} (omega (arith, mul-le-mul_right size h, ap (λ (n : ℕ). n * t) e)) z
