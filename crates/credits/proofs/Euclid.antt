-- The library's quotient by a number above 0 is the floor.
use Rattle.std.proofs.Common.{◌≡◌, ℕ, ℤ, pos, negsuc, refl}
use Rattle.std.specs.Int.{int_div_euclid}
use Rattle.ints.specs.Floor.{floor}

pub floor_is_euclid : (x : ℤ) (w : ℕ) → int_div_euclid x (pos w) ≡ floor x (pos w)
unfolding floor
floor_is_euclid (pos a) w = refl
floor_is_euclid (negsuc a) w = refl
