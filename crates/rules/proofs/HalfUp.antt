-- Rounding half up is what it says: x / d lies from half below q to less than half above it, and q is the one such number.
use Prim.Native.Nat.{ℕ, ◌*◌, ◌<◌}
use native.Mathlib.Omega.{arith}
use mathlib.Core.Path.{◌≡◌}
use lib.IntN.{ℤ, pos, ◌+ℤ◌, ◌*ℤ◌}
use lib.Signed.{◌≤ℤ◌, ◌<ℤ◌}
use Rattle.ints.specs.Floor.{floor_is, floor_eq}
use Rattle.rules.specs.Charges.{half_up}

-- q is x / d rounded half up: q · 2d ≤ 2x + d < (q + 1) · 2d
pub record IsHalfUp (x : ℤ) (d : ℕ) (q : ℤ) : Type 0 where
  pub low : (q *ℤ pos (2 * d)) ≤ℤ (pos 2 *ℤ x +ℤ pos d)
  pub high : (pos 2 *ℤ x +ℤ pos d) <ℤ ((q +ℤ pos 1) *ℤ pos (2 * d))

module _ (x : ℤ) (d : ℕ) (h : 0 < d) where
  twice : 0 < 2 * d
  twice = omega arith

  pub half_up_is : IsHalfUp x d (half_up x (pos d))
  unfolding half_up
  half_up_is = let f = floor_is (pos 2 *ℤ x +ℤ pos d) (2 * d) twice in record { low = f.low; high = f.high }

  pub half_up_eq : {q : ℤ} → IsHalfUp x d q → q ≡ half_up x (pos d)
  unfolding half_up
  half_up_eq f = floor_eq twice (record { low = f.low; high = f.high })
