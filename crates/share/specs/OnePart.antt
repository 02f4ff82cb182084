-- Laws of one part, the share of an amount P of either sign between two weight sums: what it makes with its neighbour, how near the
-- exact share it is, its sign and its size.
use Rattle.std.specs.Prelude.{◌≡◌, ℕ, zero, suc, ◌*◌, ◌<◌, ◌≤◌}
use Rattle.std.specs.Prelude.{ℤ, pos, negsuc, ◌+ℤ◌, ◌-ℤ◌, ◌*ℤ◌, ◌≤ℤ◌, ◌<ℤ◌}
use Rattle.std.proofs.Common.{arith, mul-le-mul_left, sym, ap, ⊎_elim}
use Rattle.std.proofs.Math.IntN.{+ℤ_invr}
use Rattle.ints.specs.Bridge.{abs, za, add#, sub#, mul#, one#, le_in}
use Rattle.ints.specs.Order.{le_or_lt, <→≤}
use Rattle.ints.specs.Ring.{all3, diff}
use Rattle.ints.specs.Floor.{floor, IsFloor, floor_in, floor_out, floor_is, floor_eq, floor_mono, floor_multiple, share_up, share_dn}
use Rattle.share.specs.Running.{part}

-- ---- the floors at both ends of the weights
pub floor_none : (P W : ℤ) → pos 0 <ℤ W → floor (P *ℤ pos 0) W ≡ pos 0
floor_none P (negsuc n) h = absurd (omega za)
floor_none P (pos n) h = let k : 0 < n = omega za in sym (floor_eq k (floor_out (omega (arith, mul# P (pos 0)))))

pub floor_whole : (P W : ℤ) → pos 0 <ℤ W → floor (P *ℤ W) W ≡ P
floor_whole P (negsuc n) h = absurd (omega za)
floor_whole P (pos n) h = let k : 0 < n = omega za in sym (floor_eq k (floor_multiple P n k))

-- ---- two parts on end are one, the part of no weight is 0, and that of all weights is P
pub part_add : (P b t u W : ℤ) → part P b t W +ℤ part P t u W ≡ part P b u W
unfolding part
part_add P b t u W = chain (floor (P *ℤ b) W) (floor (P *ℤ t) W) (floor (P *ℤ u) W)
  where
    chain : (x y z : ℤ) → (y -ℤ x) +ℤ (z -ℤ y) ≡ z -ℤ x
    chain = all3 _ (λ a b c d e f. simp diff (omega arith))

pub part_none : (P b W : ℤ) → part P b b W ≡ pos 0
unfolding part
part_none P b W = +ℤ_invr (floor (P *ℤ b) W)

pub part_whole : (P W : ℤ) → pos 0 <ℤ W → part P (pos 0) W W ≡ P
unfolding part
part_whole P W h = rw (floor_whole P W h, floor_none P W h) (omega (za, sub# P (pos 0)))

-- ---- less than one from the exact share: |part × W − P × w| < W
near : (x y z q r : ℤ) (n : ℕ) → z ≡ x +ℤ y → IsFloor z n q → IsFloor x n r → abs ((q -ℤ r) *ℤ pos n -ℤ y) < n
near x y z q r n e f g =
    omega (
      za,
      floor_in f,
      floor_in g,
      add# x y,
      mul# (q -ℤ r) (pos n),
      ap (λ (t : ℕ). t * n) (sub# q r).sum,
      sub# ((q -ℤ r) *ℤ pos n) y,
      one# ((q -ℤ r) *ℤ pos n -ℤ y),
    )

over : (P b w : ℤ) → P *ℤ (b +ℤ w) ≡ P *ℤ b +ℤ P *ℤ w
over = all3 _ (λ a b c d e f. simp diff (omega arith))

pub part_near : (P b w W : ℤ) → pos 0 <ℤ W → abs (part P b (b +ℤ w) W *ℤ W -ℤ P *ℤ w) < abs W
unfolding part
part_near P b w (negsuc n) h = absurd (omega za)
part_near P b w (pos n) h =
    let k : 0 < n = omega za in
    let l = near (P *ℤ b) (P *ℤ w) (P *ℤ (b +ℤ w)) _ _ n (over P b w) (floor_is (P *ℤ (b +ℤ w)) n k) (floor_is (P *ℤ b) n k) in
    omega arith

-- ---- a part has the sign of P, or is 0
times_up : (P : ℤ) {b t : ℤ} → pos 0 ≤ℤ P → b ≤ℤ t → (P *ℤ b) ≤ℤ (P *ℤ t)
times_up (negsuc n) h k = absurd (omega za)
times_up (pos n) {b} {t} h k = omega (za, mul# (pos n) b, mul# (pos n) t, mul-le-mul_left n (le_in k))

times_dn : (P : ℤ) {b t : ℤ} → P ≤ℤ pos 0 → b ≤ℤ t → (P *ℤ t) ≤ℤ (P *ℤ b)
times_dn (pos (suc n)) h k = absurd (omega za)
times_dn (pos zero) {b} {t} h k = omega (za, mul# (pos 0) b, mul# (pos 0) t)
times_dn (negsuc n) {b} {t} h k = omega (za, mul# (negsuc n) b, mul# (negsuc n) t, mul-le-mul_left (suc n) (le_in k))

floor_rises : {x y : ℤ} (W : ℤ) → pos 0 <ℤ W → x ≤ℤ y → floor x W ≤ℤ floor y W
floor_rises (negsuc n) h l = absurd (omega za)
floor_rises {x} {y} (pos n) h l = let k : 0 < n = omega za in floor_mono (floor_is x n k) (floor_is y n k) l

dif_up : (x y : ℤ) → x ≤ℤ y → pos 0 ≤ℤ (y -ℤ x)
dif_up x y h = omega (za, sub# y x)

dif_dn : (x y : ℤ) → y ≤ℤ x → (y -ℤ x) ≤ℤ pos 0
dif_dn x y h = omega (za, sub# y x)

pub part_up : (P : ℤ) {b t W : ℤ} → b ≤ℤ t → pos 0 <ℤ W → pos 0 ≤ℤ P → pos 0 ≤ℤ part P b t W
unfolding part
part_up P {b} {t} {W} h k p = dif_up _ _ (floor_rises W k (times_up P p h))

pub part_dn : (P : ℤ) {b t W : ℤ} → b ≤ℤ t → pos 0 <ℤ W → P ≤ℤ pos 0 → part P b t W ≤ℤ pos 0
unfolding part
part_dn P {b} {t} {W} h k p = dif_dn _ _ (floor_rises W k (times_dn P p h))

-- ---- and is no larger in size
gap_up : {P q r : ℤ} → pos 0 ≤ℤ r → r ≤ℤ q → q ≤ℤ P → abs (q -ℤ r) ≤ abs P
gap_up {P} {q} {r} h k l = omega (za, sub# q r, one# (q -ℤ r))

gap_dn : {P q r : ℤ} → r ≤ℤ pos 0 → q ≤ℤ r → P ≤ℤ q → abs (q -ℤ r) ≤ abs P
gap_dn {P} {q} {r} h k l = omega (za, sub# q r, one# (q -ℤ r))

pub part_small : (P : ℤ) {b t W : ℤ} → pos 0 ≤ℤ b → b ≤ℤ t → t ≤ℤ W → pos 0 <ℤ W → abs (part P b t W) ≤ abs P
unfolding part
part_small P {b = negsuc b} h k l z = absurd (omega za)
part_small P {b = pos b} {t = negsuc t} h k l z = absurd (omega za)
part_small P {b = pos b} {t = pos t} {W = negsuc w} h k l z = absurd (omega za)
part_small P {b = pos b} {t = pos t} {W = pos w} h k l z = ⊎_elim below above (le_or_lt P (pos 0))
  where
    w_up : 0 < w
    w_up = omega za

    b_in : b ≤ w
    b_in = omega za

    t_in : t ≤ w
    t_in = omega za

    below : P ≤ℤ pos 0 → abs (part P (pos b) (pos t) (pos w)) ≤ abs P
    below g =
        gap_dn
        (share_dn P b w b_in w_up (floor_is (P *ℤ pos b) w w_up) g).1
        (floor_rises (pos w) z (times_dn P g k))
        (share_dn P t w t_in w_up (floor_is (P *ℤ pos t) w w_up) g).0

    above : pos 0 <ℤ P → abs (part P (pos b) (pos t) (pos w)) ≤ abs P
    above g =
        gap_up
        (share_up P b w b_in w_up (floor_is (P *ℤ pos b) w w_up) (<→≤ g)).0
        (floor_rises (pos w) z (times_up P (<→≤ g) k))
        (share_up P t w t_in w_up (floor_is (P *ℤ pos t) w w_up) (<→≤ g)).1
