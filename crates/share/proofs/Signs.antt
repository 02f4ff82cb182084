-- What an amount's share over w and the rest are, from those of its size: below 0 the quotient is −q and nothing is left, or −q − 1 and
-- w − m is left.
use Rattle.std.proofs.Common.{◌≡◌, ℕ, ◌+◌, ◌-◌, ◌*◌, ◌<◌, ◌≤◌, ℤ, pos, ◌-ℤ◌, ◌*ℤ◌, nat_abs, sym}
use Rattle.std.proofs.Common.{ap, ◌∙◌, mod-lt, mul-le-mul_left, div-add-mod', le_of_mul-le-mul_right, arith, w64, SFits, to_z, to_z-of_z}
use Rattle.std.proofs.lemmas.Int.{to_z_pos}
use Rattle.ints.specs.Bridge.{up, dn, abs, abs_is, za, sub#, mul#}
use Rattle.ints.specs.Rest.{Split, split_out}
use Rattle.ints.specs.Words.{back}
use Rattle.wide.specs.declared.Divided.{Divided}
use Rattle.wide.specs.Exact.{divided}

-- what a size's quotient and remainder add up to
pub record Parts (size t w : ℕ) (d : Divided ℕ) : Type 0 where
  pub sum : d.quot * w + d.rem ≡ size * t
  pub small : d.rem < w
  pub quot_le : d.quot ≤ size

pub parts : (size t w : ℕ) (d : Divided ℕ) → t ≤ w → 0 < w → d ≡ divided (size * t) w → Parts size t w d
parts size t w d h z e =
    let f : d.quot * w + d.rem ≡ size * t = rw e (div-add-mod' (size * t) w) in
    record { sum = f; small = rw e (mod-lt (size * t) z); quot_le = le_of_mul-le-mul_right {k = w} (omega (arith, mul-le-mul_left size h)) z }

-- of an amount as a word, whose size the machine works out
pub parts_of : {p : ℤ} {t w n : ℕ} {d : Divided ℕ} → SFits w64 p → n ≡ nat_abs (back p) → t ≤ w → 0 < w → d ≡ divided (n * t) w
    → Parts (abs p) t w d
parts_of {p} {t} {w} {n} {d} f i h z e =
    let s : n ≡ abs p = i ∙ ap nat_abs (to_z-of_z f) ∙ sym (abs_is p) in
    parts (abs p) t w d h z (e ∙ ap (λ (m : ℕ). divided (m * t) w) s)

-- ---- the three answers
module _ (p : ℤ) (t w : ℕ) {d : Divided ℕ} (k : Parts (abs p) t w d) where
  pub above : dn p ≡ 0 → Split (p *ℤ pos t) w (pos d.quot) d.rem
  above z = split_out (omega (arith, k.sum, mul# p (pos t), ap (λ (n : ℕ). n * t) z)) k.small

  pub whole : up p ≡ 0 → d.rem ≡ 0 → Split (p *ℤ pos t) w (pos 0 -ℤ pos d.quot) 0
  whole z e =
      split_out
      (omega (arith, k.sum, e, mul# p (pos t), ap (λ (n : ℕ). n * t) z, ap (λ (n : ℕ). n * w) (sub# (pos 0) (pos d.quot)).sum))
      (omega (arith, k.small))

  pub broken : up p ≡ 0 → 0 < d.rem → Split (p *ℤ pos t) w (pos 0 -ℤ pos d.quot -ℤ pos 1) (w - d.rem)
  broken z l =
      split_out
      (omega (
        arith,
        k.sum,
        k.small,
        mul# p (pos t),
        ap (λ (n : ℕ). n * t) z,
        ap (λ (n : ℕ). n * w) (sub# (pos 0) (pos d.quot)).sum,
        ap (λ (n : ℕ). n * w) (sub# (pos 0 -ℤ pos d.quot) (pos 1)).sum,
      ))
      (omega (arith, k.small))

-- ---- as words
pub word : (q : ℕ) → q ≤ 100000000000000001 → to_z w64 q ≡ pos q
word q h = to_z_pos w64 q (omega arith)

pub minus : (q : ℕ) → q ≤ 100000000000000001 → SFits w64 (pos 0 -ℤ pos q)
minus q h = omega (za, sub# (pos 0) (pos q))

pub minus_one : (q : ℕ) → q ≤ 100000000000000000 → SFits w64 (pos 0 -ℤ pos q -ℤ pos 1)
minus_one q h = omega (za, sub# (pos 0) (pos q), sub# (pos 0 -ℤ pos q) (pos 1))
