-- Every cell of a table lies less than one cent from its exact value VC × VD / ΣVD: |cell × ΣVD − VC × VD| < ΣVD.
use Prim.Native.Nat.{ℕ, ◌*◌, ◌<◌}
use mathlib.Core.Path.{ap}
use mathlib.Core.Logic.{◌≢◌}
use mathlib.Core.List.{List}
use lib.IntN.{ℤ, pos, negsuc, ◌+ℤ◌, ◌-ℤ◌, ◌*ℤ◌}
use lib.ListN.{length, get_or}
use lib.Signed.{◌<ℤ◌}
use Rattle.ints.specs.Bridge.{abs, za, add#, sub#, mul#, one#, ne_in}
use Rattle.ints.specs.Floor.{floor, floor_is, floor_in, Floor#}
use Rattle.ints.specs.Sums.{sum_ℤ}
use Rattle.rules.specs.Table.{Cell, rounded_down, rounded_up, cell_at, Table}

-- the floor, and the floor plus 1 where the value is not whole
near_down : (x q : ℤ) (w : ℕ) → Floor# x w q → pos (abs (q *ℤ pos w -ℤ x)) <ℤ pos w
near_down x q w f = omega (za, mul# q (pos w), sub# (q *ℤ pos w) x, one# (q *ℤ pos w -ℤ x))

near_up : (x q : ℤ) (w : ℕ) → Floor# x w q → q *ℤ pos w ≢ x → pos (abs ((q +ℤ pos 1) *ℤ pos w -ℤ x)) <ℤ pos w
near_up x q w f z =
    omega (
      za,
      ne_in z,
      mul# q (pos w),
      mul# (q +ℤ pos 1) (pos w),
      ap (λ (t : ℕ). t * w) (add# q (pos 1)).sum,
      sub# ((q +ℤ pos 1) *ℤ pos w) x,
      one# ((q +ℤ pos 1) *ℤ pos w -ℤ x),
    )

near_above : (x cell : ℤ) (w : ℕ) → 0 < w → Cell x (pos w) cell → pos (abs (cell *ℤ pos w -ℤ x)) <ℤ pos w
near_above x cell w h (rounded_down e) = rw e (near_down x (floor x (pos w)) w (floor_in (floor_is x w h)))
near_above x cell w h (rounded_up e z) = rw e (near_up x (floor x (pos w)) w (floor_in (floor_is x w h)) z)

pub near_cell : (x S cell : ℤ) → pos 0 <ℤ S → Cell x S cell → pos (abs (cell *ℤ S -ℤ x)) <ℤ S
near_cell x (pos w) cell h c = near_above x cell w (omega za) c
near_cell x (negsuc w) cell h c = absurd (omega za)

pub one_cent :
    (vc vd cells : List ℤ)
    → Table vc vd cells
    → pos 0 <ℤ sum_ℤ vd
    → (i j : ℕ)
    → i < length vc
    → j < length vd
    → pos (abs (cell_at (length vd) cells i j *ℤ sum_ℤ vd -ℤ get_or vc i (pos 0) *ℤ get_or vd j (pos 0))) <ℤ sum_ℤ vd
one_cent vc vd cells t h i j p q =
    near_cell (get_or vc i (pos 0) *ℤ get_or vd j (pos 0)) (sum_ℤ vd) (cell_at (length vd) cells i j) h (t.cell i j p q)
