-- a × b = a1·b1·2^64 + (a0·b1 + a1·b0)·2^32 + a0·b0, and the columns with their carries add up to that.
use Rattle.std.proofs.Common.{◌≡◌, ℕ, ◌+◌, ◌*◌, ◌/◌, ◌%◌, ◌^◌, ◌<◌, ◌≤◌}
use Rattle.std.proofs.Common.{ap, ◌∙◌, ap₂, mod-lt, mul-le-mul, div-add-mod', arith, pow_pos}
use mathlib.Core.Path.{subst⁻¹}
use Rattle.wide.proofs.Laws.{words_is}
use Rattle.wide.proofs.product.multiply.Goals as goal

-- the largest product of two halves, (2^32 − 1)²
abbrev K : ℕ
K = 18446744065119617025

half_product : (p q : ℕ) → p < 2 ^ 32 → q < 2 ^ 32 → p * q ≤ K
half_product p q h k = mul-le-mul {n₁ = p} {m₁ = q} {n₂ = 4294967295} {m₂ = 4294967295} (omega arith) (omega arith)

-- the middle sum m, its carry included, gives its upper part to the high word and its lower to the low word
upper : (m : ℕ) → m < 2 ^ 65 → (m / 2 ^ 64 * 2 ^ 32) % 2 ^ 64 + m % 2 ^ 64 / 2 ^ 32 ≡ m / 2 ^ 32
upper m h = omega arith

lower : (m : ℕ) → (m % 2 ^ 64 * 2 ^ 32) % 2 ^ 64 ≡ m % 2 ^ 32 * 2 ^ 32
lower m = omega arith

-- in any base: two columns, the lower carrying l
join : (B x m w q r l s : ℕ) → q * B + r ≡ m → l * (B * B) + s ≡ w + r * B → (x + q + l) * (B * B) + s ≡ x * (B * B) + m * B + w
join B x m w q r l s e f = omega (arith, ap (λ (t : ℕ). t * B) e)

expand : (B a1 a0 b1 b0 : ℕ) → (a1 * b1) * (B * B) + (a0 * b1 + a1 * b0) * B + a0 * b0 ≡ (a1 * B + a0) * (b1 * B + b0)
expand B a1 a0 b1 b0 = omega arith

high_fits : (x m l : ℕ) → x ≤ K → m ≤ 2 * K → l ≤ 1 → x + m / 2 ^ 32 + l < 2 ^ 64
high_fits x m l h k j = omega arith

-- the low column of a product, and its high word
abbrev column : ℕ → ℕ → ℕ
column m w = w + (m % 2 ^ 64 * 2 ^ 32) % 2 ^ 64

abbrev high : ℕ → ℕ → ℕ → ℕ
high x m w = x + (m / 2 ^ 64 * 2 ^ 32) % 2 ^ 64 + m % 2 ^ 64 / 2 ^ 32 + column m w / 2 ^ 64

module _ (x m w : ℕ) (x-le : x ≤ K) (m-le : m ≤ 2 * K) (w_le : w ≤ K) where
  high_is : high x m w ≡ x + m / 2 ^ 32 + column m w / 2 ^ 64
  high_is = omega (arith, upper m (omega arith))

  fits : high x m w < 2 ^ 64
  fits = subst⁻¹ (λ (n : ℕ). n < 2 ^ 64) high_is (high_fits x m (column m w / 2 ^ 64) x-le m-le (omega (arith, lower m)))

  total : high x m w * 2 ^ 64 + column m w % 2 ^ 64 ≡ x * 2 ^ 64 + m * 2 ^ 32 + w
  total =
      let e : column m w / 2 ^ 64 * 2 ^ 64 + column m w % 2 ^ 64 ≡ w + m % 2 ^ 32 * 2 ^ 32 = omega (arith, lower m) in
      ap (λ (n : ℕ). n * 2 ^ 64 + column m w % 2 ^ 64) high_is
      ∙ join (2 ^ 32) x m w (m / 2 ^ 32) (m % 2 ^ 32) (column m w / 2 ^ 64) (column m w % 2 ^ 64) (omega arith) e

-- a × b, from the halves of each
abbrev top : ℕ → ℕ → ℕ
top a b = (a / 2 ^ 32) * (b / 2 ^ 32)

abbrev across : ℕ → ℕ → ℕ
across a b = (a % 2 ^ 32) * (b / 2 ^ 32) + (a / 2 ^ 32) * (b % 2 ^ 32)

abbrev bottom : ℕ → ℕ → ℕ
bottom a b = (a % 2 ^ 32) * (b % 2 ^ 32)

module _ (a b : ℕ) (a-fits : a < 2 ^ 64) (b-fits : b < 2 ^ 64) where
  top_le : top a b ≤ K
  top_le = half_product (a / 2 ^ 32) (b / 2 ^ 32) (omega arith) (omega arith)

  across_le : across a b ≤ 2 * K
  across_le =
      omega (
        arith,
        half_product (a % 2 ^ 32) (b / 2 ^ 32) (omega arith) (omega arith),
        half_product (a / 2 ^ 32) (b % 2 ^ 32) (omega arith) (omega arith),
      )

  bottom_le : bottom a b ≤ K
  bottom_le = half_product (a % 2 ^ 32) (b % 2 ^ 32) (omega arith) (omega arith)

  high_word : high (top a b) (across a b) (bottom a b) < 2 ^ 64
  high_word = fits (top a b) (across a b) (bottom a b) top_le across_le bottom_le

  whole : high (top a b) (across a b) (bottom a b) * 2 ^ 64 + column (across a b) (bottom a b) % 2 ^ 64 ≡ a * b
  whole =
      total (top a b) (across a b) (bottom a b) top_le across_le bottom_le
      ∙ expand (2 ^ 32) (a / 2 ^ 32) (a % 2 ^ 32) (b / 2 ^ 32) (b % 2 ^ 32)
      ∙ ap₂ ◌*◌ (div-add-mod' a (2 ^ 32)) (div-add-mod' b (2 ^ 32))

pub returns : goal.returns
returns c =
    let a = c.args.a in
    let b = c.args.b in
    simp (
      c.high_half.ensures,
      c.add-low.ensures,
      c.add-middle.ensures,
      c.high_half-b1.ensures,
      c.low_half-b0.ensures,
      c.high_half-a1.ensures,
      c.low_half-a0.ensures,
    )
    (words_is (high (top a b) (across a b) (bottom a b)) (column (across a b) (bottom a b) % 2 ^ 64) (a * b) (whole a b c.ranges.a.fits c.ranges.b.fits)
    (mod-lt _ (pow_pos 64)))
