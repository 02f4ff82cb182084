-- What the machine adds: a signed local holds bits, so that each operand is read back from them, `to_z w64 (of_z w64 x)`, which is x where x fits.
use Rattle.std.specs.Prelude.{◌≡◌, refl, Bool, true, false, ℕ, zero, suc, ◌+◌, ◌/◌, ◌%◌, ◌≤◌, ◌<◌, ◌^◌}
use Rattle.std.specs.Prelude.{T, eqb, ltb, ℤ, pos, negsuc, nat_abs, neg_ℤ, ◌+ℤ◌, ◌-ℤ◌, ◌*ℤ◌, ◌≤ℤ◌, ◌<ℤ◌}
use Rattle.std.proofs.Common.{sym, ap, ◌∙◌, arith, eq-eqb, ne_eqb, div-le_self, div-add-mod'}
use Rattle.std.proofs.Common.{div-lt_iff_lt-mul, mul-le-mul_left, SFits, Fits, to_z, of_z, to_z-of_z}
use Rattle.std.specs.Int.Signed.{non_neg, quot_z, rem_z}
use Rattle.std.proofs.Math.Nat.{mod-le}
use Rattle.std.specs.Int.{w64}
use Rattle.std.proofs.Math.Facts.{sfits_lit}
use Rattle.ints.specs.Bridge.{up, dn, abs, abs_is, za, fits_in, neg#, add#, sub#, mul#, one#}
use Rattle.ints.specs.Floor.{floor}
use Rattle.ints.specs.Range.{eq_z, eq_z_true, eq_z_false, outside, outside_false}

-- what stands in a need for an operand x
abbrev pub back : ℤ → ℤ
back x = to_z w64 (of_z w64 x)

pub record Back (x y : ℤ) : Type 0 where
  pub hi : up y ≡ up x
  pub lo : dn y ≡ dn x

-- of an operand, for `omega`'s list
pub back# : {x : ℤ} → SFits w64 x → Back x (back x)
back# {x} f = record { hi = ap up (to_z-of_z f); lo = ap dn (to_z-of_z f) }

-- `x == y` at signed numbers is a test of the bits
pub same_bits : {x y : ℤ} → SFits w64 x → SFits w64 y → of_z w64 x ≡ of_z w64 y → x ≡ y
same_bits {x} {y} f g e = sym (to_z-of_z f) ∙ ap (to_z w64) e ∙ to_z-of_z g

-- so it is the test of the numbers
pub eqb_bits : {x y : ℤ} → SFits w64 x → SFits w64 y → eqb (of_z w64 x) (of_z w64 y) ≡ eq_z x y
eqb_bits {x} {y} f g = go (eq_z x y) refl
  where
    go : (t : Bool) → eq_z x y ≡ t → eqb (of_z w64 x) (of_z w64 y) ≡ t
    go true e = eq-eqb (of_z w64 x) (of_z w64 y) (ap (of_z w64) (eq_z_true x y e))
    go false e = ne_eqb (of_z w64 x) (of_z w64 y) (λ b. eq_z_false x y e (same_bits f g b))

pub eqb_word : {x : ℤ} (n : ℕ) → T (ltb n (2 ^ 63)) → SFits w64 x → eqb (of_z w64 x) n ≡ eq_z x (pos n)
eqb_word n t f = eqb_bits f (sfits_lit t)

-- the quotient toward zero is no larger than the dividend; a divisor above zero has bits above zero
pub quot_small : (x y : ℤ) → abs (quot_z x y) ≤ abs x
quot_small (pos a) (pos b) = omega (arith, div-le_self a b)
quot_small (pos a) (negsuc b) = omega (arith, div-le_self a (suc b), neg# (pos (a / suc b)))
quot_small (negsuc a) (pos b) = omega (arith, div-le_self (suc a) b, neg# (pos (suc a / b)))
quot_small (negsuc a) (negsuc b) = omega (arith, div-le_self (suc a) (suc b))

-- by 2 or more, it is far within a word
pub quot_half : {x : ℤ} (w : ℕ) → 1 < w → SFits w64 x → abs (quot_z x (pos w)) ≤ 2 ^ 62
quot_half {x} w h f = go x (fits_in f)
  where
    half : (n : ℕ) → n ≤ 2 ^ 63 → n / w < 2 ^ 62 + 1
    half n l = (div-lt_iff_lt-mul {k = w} (omega arith)).1 (omega (arith, mul-le-mul_left (2 ^ 62 + 1) h))

    go : (x : ℤ) → up x + dn x ≤ 2 ^ 63 → abs (quot_z x (pos w)) ≤ 2 ^ 62
    go (pos a) l = omega (arith, half a (omega arith))
    go (negsuc a) l = omega (arith, half (suc a) (omega arith), neg# (pos (suc a / w)))

pub rem_small : (x y : ℤ) → abs (rem_z x y) ≤ abs x
rem_small (pos a) y = omega (arith, mod-le a (nat_abs y))
rem_small (negsuc a) y = omega (arith, mod-le (suc a) (nat_abs y), neg# (pos (suc a % nat_abs y)))

-- of a dividend that is not negative it is the floor
pub quot_floor : (x : ℤ) (w : ℕ) → pos 0 ≤ℤ x → quot_z x (pos w) ≡ floor x (pos w)
unfolding floor
quot_floor (pos a) w h = refl
quot_floor (negsuc a) w h = absurd (omega za)

-- and the remainder what the floor leaves
pub rem_floor : (x : ℤ) (w : ℕ) → pos 0 ≤ℤ x → rem_z x (pos w) ≡ x -ℤ floor x (pos w) *ℤ pos w
unfolding floor
rem_floor (pos a) w h = omega (za, div-add-mod' a w, sub# (pos a) (pos (a / w) *ℤ pos w), mul# (pos (a / w)) (pos w))
rem_floor (negsuc a) w h = absurd (omega za)

-- of a negative dividend the floor is one below the quotient of the number after it
pub quot_below : (x : ℤ) (w : ℕ) → x <ℤ pos 0 → quot_z (x +ℤ pos 1) (pos w) -ℤ pos 1 ≡ floor x (pos w)
unfolding floor
quot_below (pos a) w h = absurd (omega za)
quot_below (negsuc zero) w h = omega (za, div-le_self 0 w, sub# (pos (0 / w)) (pos 1))
quot_below (negsuc (suc a)) w h =
    let next : negsuc (suc a) +ℤ pos 1 ≡ negsuc a = omega (za, add# (negsuc (suc a)) (pos 1)) in
    rw next (omega (za, neg# (pos (suc a / w)), sub# (neg_ℤ (pos (suc a / w))) (pos 1)))

-- a position counted from 1, less 1, as an index of n entries
pub record Index (n : ℕ) (u : ℤ) : Type 0 where
  pub at : nat_abs (u -ℤ pos 1) < n
  pub fits : SFits w64 (u -ℤ pos 1)
  pub cast : T (non_neg (u -ℤ pos 1)) × Fits w64 (nat_abs (u -ℤ pos 1))

pub index : (n : ℕ) (u : ℤ) → n < 2 ^ 63 → outside (pos 1) (pos n) u ≡ false → Index n u
index n u h e =
    let w = outside_false (pos 1) (pos n) u e in
    let d = sub# u (pos 1) in
    let a = abs_is (u -ℤ pos 1) in
    let o = one# (u -ℤ pos 1) in
    record { at = omega za; fits = omega za; cast = omega za }
