-- The bands of a point rounded each for itself, beside both rounded together (paper 02, Q-4).
use Rattle.std.specs.Prelude.{ℕ, List, ℤ, pos, ◌+ℤ◌, ◌-ℤ◌, ◌*ℤ◌, ◌≤ℤ◌}
use Rattle.rules.specs.declared.Point.{Point}
use Rattle.rules.specs.Charges.{half_up, excess, of_user}

-- use charge and overrun of a point as they were before: both bands added, then rounded once
abbrev pub use_once : Point → ℤ
use_once p = half_up (p.tp *ℤ (pos 100 -ℤ p.dp) *ℤ p.mp +ℤ p.tf *ℤ (pos 100 -ℤ p.df) *ℤ p.mf) (pos 1000)

abbrev pub overrun_once : ℤ → Point → ℤ
overrun_once kind p =
    half_up (pos 3 *ℤ p.tp *ℤ excess kind p.vp p.mp +ℤ pos 3 *ℤ p.tf *ℤ excess kind p.vf p.mf) (pos 1000)

-- x and y differ by at most d, either way
pub record Apart (d x y : ℤ) : Type 0 where
  pub more : x ≤ℤ (y +ℤ d)
  pub less : y ≤ℤ (x +ℤ d)

-- how many points the user with this number has
abbrev pub points_of : ℕ → List Point → ℤ
points_of k points = of_user (λ p. pos 1) k points
