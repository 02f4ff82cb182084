-- Quotient and remainder are settled by what they add up to; and the three cases of `ratio`.
use Rattle.std.proofs.Common.{◌≡◌, ℕ, ◌+◌, ◌*◌, ◌/◌, ◌%◌, ◌^◌, ◌<◌, ◌≤◌, sym, refl}
use Rattle.std.proofs.Common.{ap, ◌∙◌, ap₂, mod-lt, div-lt_iff_lt-mul, div-add-mod', arith, le-ltb, lt-ltb, ne_eqb, Ok, Err}
use mathlib.Core.Path.{subst⁻¹}
use lib.Arith.{digits_div, digits_mod}
use Rattle.wide.specs.declared.Words.{Words}
use Rattle.wide.specs.declared.Divided.{Divided}
use Rattle.wide.specs.declared.NoRatio.TheVariants.{Over, ByZero}
use Rattle.wide.specs.Exact.{words, divided, ratio}

module _ (q d r n : ℕ) (whole : q * d + r ≡ n) (small : r < d) where
  quot_is : q ≡ n / d
  quot_is = sym (digits_div q small) ∙ ap (λ (x : ℕ). x / d) whole

  rem_is : r ≡ n % d
  rem_is = sym (digits_mod q small) ∙ ap (λ (x : ℕ). x % d) whole

pub divided_is : (q d r n : ℕ) → q * d + r ≡ n → r < d → ◌≡◌ {A = Divided ℕ} (record { quot = q; rem = r }) (divided n d)
divided_is q d r n e h = ap₂ {C = Divided ℕ} (λ (x y : ℕ). record { quot = x; rem = y }) (quot_is q d r n e h) (rem_is q d r n e h)

-- what a quotient and remainder are known by
pub record Divides (n d : ℕ) (r : Divided ℕ) : Type 0 where
  pub whole : r.quot * d + r.rem ≡ n
  pub small : r.rem < d

pub divides : {n d : ℕ} {r : Divided ℕ} → 0 < d → r ≡ divided n d → Divides n d r
divides {n} {d} z e = subst⁻¹ (λ (r : Divided ℕ). Divides n d r) e (record { whole = div-add-mod' n d; small = mod-lt n z })

pub quot_lt : {n d : ℕ} {r : Divided ℕ} (k : ℕ) → 0 < d → r ≡ divided n d → n < k * d → r.quot < k
quot_lt k z e h = rw e ((div-lt_iff_lt-mul z).1 h)

-- long division: what is left of the first digits, in base B, goes before the next
pub next_digits : (B v x d q1 r1 q0 r0 : ℕ) → q1 * v + r1 ≡ x → q0 * v + r0 ≡ r1 * B + d → (q1 * B + q0) * v + r0 ≡ x * B + d
next_digits B v x d q1 r1 q0 r0 e f = omega (arith, ap (λ (n : ℕ). n * B) e)

pub words_is : (h l n : ℕ) → h * 2 ^ 64 + l ≡ n → l < 2 ^ 64 → ◌≡◌ {A = Words} (record { high = h; low = l }) (words n)
words_is h l n e s = ap₂ {C = Words} (λ (x y : ℕ). record { high = x; low = y }) (quot_is h (2 ^ 64) l n e s) (rem_is h (2 ^ 64) l n e s)

pub ratio_by_zero : (a b : ℕ) → ratio a b 0 ≡ Err ByZero
unfolding ratio
ratio_by_zero a b = refl

pub ratio_exact : (a b c : ℕ) → 0 < c → a * b / c < 2 ^ 64 → ratio a b c ≡ Ok (divided (a * b) c)
unfolding ratio
ratio_exact a b c h k = rw (ne_eqb c 0 (λ e. omega arith), lt-ltb (a * b / c) (2 ^ 64) k)

pub ratio_over : (a b c : ℕ) → 0 < c → 2 ^ 64 ≤ a * b / c → ratio a b c ≡ Err Over
unfolding ratio
ratio_over a b c h k = rw (ne_eqb c 0 (λ e. omega arith), le-ltb (a * b / c) (2 ^ 64) k)
