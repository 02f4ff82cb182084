-- The amounts of a point beside those with both bands rounded once, as they were before Q-4: at most a cent off, a user's sums at most a
-- cent a point; either way occurs; of one band alone, as a generator's, nothing differs.
use Prim.Native.Nat.{ℕ, ◌*◌, ◌<◌}
use native.Mathlib.Omega.{arith}
use mathlib.Core.Path.{◌≡◌, refl}
use mathlib.Core.Bool.{Bool, true, false, cond}
use mathlib.Core.List.{List, [], ◌∷◌, map}
use lib.Dec.{lit<}
use lib.IntN.{ℤ, pos, ◌+ℤ◌, ◌-ℤ◌, ◌*ℤ◌, +ℤ_idr, zero-*ℤ}
use lib.Signed.{◌≤ℤ◌}
use Rattle.ints.specs.Bridge.{za, add#, mul#}
use Rattle.ints.specs.Floor.{floor, floor_is, floor_mono, floor_shift, floor_add_low, floor_add_high}
use Rattle.ints.specs.Order.{≤_trans, add_mono}
use Rattle.ints.specs.Ring.{add_swap}
use Rattle.ints.specs.Range.{eq_z}
use Rattle.rules.specs.declared.Point.{Point}
use Rattle.rules.specs.declared.User.{User}
use Rattle.rules.specs.Lines.{distributor, consumer, point_of}
use Rattle.rules.specs.Charges.{half_up, or_zero, use_charge, allowance, excess, overrun, of_user, EUST, overruns}
use Rattle.rules.specs.Bands.{use_once, overrun_once, Apart, points_of}

module _ (x y : ℤ) (d : ℕ) (h : 0 < d) where
  -- what `half_up` divides by 2d, of each and of both
  abbrev X : ℤ
  X = pos 2 *ℤ x +ℤ pos d

  abbrev Y : ℤ
  Y = pos 2 *ℤ y +ℤ pos d

  abbrev Z : ℤ
  Z = pos 2 *ℤ (x +ℤ y) +ℤ pos d

  -- d more, and d is less than the divisor 2d
  together : X +ℤ Y ≡ Z +ℤ pos d
  together = omega (
    za,
    mul# (pos 2) x,
    mul# (pos 2) y,
    mul# (pos 2) (x +ℤ y),
    add# x y,
    add# (pos 2 *ℤ x) (pos d),
    add# (pos 2 *ℤ y) (pos d),
    add# (pos 2 *ℤ (x +ℤ y)) (pos d),
    add# X Y,
    add# Z (pos d),
  )

  no_less : Z ≤ℤ (X +ℤ Y)
  no_less = omega (za, together, add# Z (pos d))

  no_more : (X +ℤ Y) ≤ℤ (Z +ℤ pos 1 *ℤ pos (2 * d))
  no_more = omega (za, together, add# Z (pos d), add# Z (pos 1 *ℤ pos (2 * d)))

  pub half_up_apart : Apart (pos 1) (half_up x (pos d) +ℤ half_up y (pos d)) (half_up (x +ℤ y) (pos d))
  unfolding half_up
  half_up_apart =
      let z : 0 < 2 * d = omega arith in
      let f = floor_is X (2 * d) z in
      let g = floor_is Y (2 * d) z in
      let k = floor_is Z (2 * d) z in
      let m = floor_is (X +ℤ Y) (2 * d) z in
      record {
        more = ≤_trans (floor_add_low f g m) (floor_mono m (floor_shift (pos 1) k) no_more);
        less = ≤_trans (floor_mono k m no_less) (floor_add_high f g m);
      }

-- ---- of a point
pub use_apart : (p : Point) → Apart (pos 1) (use_charge p) (use_once p)
unfolding use_charge
use_apart p = half_up_apart (p.tp *ℤ (pos 100 -ℤ p.dp) *ℤ p.mp) (p.tf *ℤ (pos 100 -ℤ p.df) *ℤ p.mf) 1000 (lit< tt)

pub overrun_apart : (kind : ℤ) (p : Point) → Apart (pos 1) (overrun kind p) (overrun_once kind p)
unfolding overrun
overrun_apart kind p =
    half_up_apart (pos 3 *ℤ p.tp *ℤ excess kind p.vp p.mp) (pos 3 *ℤ p.tf *ℤ excess kind p.vf p.mf) 1000 (lit< tt)

-- a point with these tariffs, either band contracted and verified alike
abbrev alike : ℕ → ℕ → ℕ → ℕ → Point
alike tp tf contracted verified = point_of (map pos (1 ∷ tp ∷ tf ∷ 0 ∷ 0 ∷ contracted ∷ contracted ∷ verified ∷ verified ∷ []))

abbrev beside : (Point → ℤ) → (Point → ℤ) → Point → ℤ × ℤ
beside f g p = (f p, g p)

-- a cent more and a cent less, of use and of overrun

pub either_way :
    beside use_charge use_once (alike 1005 335 3 3)
    ∷ beside use_charge use_once (alike 1004 304 1 1)
    ∷ beside (overrun consumer) (overrun_once consumer) (alike 1005 335 20 22)
    ∷ beside (overrun distributor) (overrun_once distributor) (alike 1008 308 10 12)
    ∷ []
    ≡ (pos 403, pos 402) ∷ (pos 130, pos 131) ∷ (pos 403, pos 402) ∷ (pos 394, pos 395) ∷ []
unfolding use_charge overrun excess allowance or_zero half_up floor
either_way = refl

-- one band alone, as of a generator: the same
alone : (x : ℤ) {y : ℤ} → y ≡ pos 0 → half_up x (pos 1000) +ℤ half_up y (pos 1000) ≡ half_up (x +ℤ y) (pos 1000)
unfolding half_up floor
alone x e = rw (e, +ℤ_idr, +ℤ_idr) refl

pub use_alone : (p : Point) → p.tf ≡ pos 0 → use_charge p ≡ use_once p
unfolding use_charge
use_alone p e = alone _ (rw (e, zero-*ℤ, zero-*ℤ) refl)

pub overrun_alone : (kind : ℤ) (p : Point) → p.tf ≡ pos 0 → overrun kind p ≡ overrun_once kind p
unfolding overrun
overrun_alone kind p e = alone _ (rw (e, zero-*ℤ) refl)

-- ---- of a user: at most a cent for each of its points
added : {c d w x y z : ℤ} → Apart c w x → Apart d y z → Apart (c +ℤ d) (w +ℤ y) (x +ℤ z)
added {c} {d} {w} {x} {y} {z} a b = record {
  more = rw (add_swap x z c d) (add_mono a.more b.more);
  less = rw (add_swap w y c d) (add_mono a.less b.less);
}

sum_apart : {f g : Point → ℤ} → ((p : Point) → Apart (pos 1) (f p) (g p)) → (k : ℕ) (points : List Point)
    → Apart (points_of k points) (of_user f k points) (of_user g k points)
unfolding of_user
sum_apart a k [] = record { more = omega za; less = omega za }
sum_apart {f} {g} a k (p ∷ ps) = added (here (eq_z p.user (pos k))) (sum_apart a k ps)
  where
    here : (t : Bool) → Apart (cond t (pos 1) (pos 0)) (cond t (f p) (pos 0)) (cond t (g p) (pos 0))
    here true = a p
    here false = record { more = omega za; less = omega za }

pub EUST_apart : (k : ℕ) (points : List Point) → Apart (points_of k points) (EUST points k) (of_user use_once k points)
EUST_apart = sum_apart use_apart

pub overruns_apart : (k : ℕ) (u : User) (points : List Point)
    → Apart (points_of k points) (overruns points k u) (of_user (overrun_once u.kind) k points)
overruns_apart k u = sum_apart (overrun_apart u.kind) k
