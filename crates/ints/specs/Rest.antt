-- What a division rounded down leaves over: x is floor (x / w) times w, and the rest, which is below w.
use Rattle.std.specs.Prelude.{◌≡◌, ℕ, ◌+◌, ◌*◌, ◌<◌, ℤ, pos, negsuc, ◌+ℤ◌, ◌-ℤ◌, ◌*ℤ◌}
use Rattle.std.proofs.Common.{ap, ◌∙◌, arith}
use Rattle.ints.specs.Bridge.{up, dn, za, add#, sub#, mul#, one#, eq_in}
use Rattle.ints.specs.Floor.{IsFloor, floor, floor_in, floor_out, floor_pos, floor_neg, floor_unique}

-- x − floor (x / w) · w
pub rest : ℤ → ℕ → ℕ
rest x w = up (x -ℤ floor x (pos w) *ℤ pos w)

-- x is q · w + r, and r is below w
pub record Split (x : ℤ) (w : ℕ) (q : ℤ) (r : ℕ) : Type 0 where
  pub sum : x ≡ q *ℤ pos w +ℤ pos r
  pub less : r < w

pub split_floor : {x : ℤ} {w : ℕ} {q : ℤ} {r : ℕ} → Split x w q r → IsFloor x w q
split_floor {x} {w} {q} {r} s = floor_out (omega (za, eq_in s.sum, s.less, add# (q *ℤ pos w) (pos r), mul# q (pos w)))

floor_split : {x : ℤ} {w : ℕ} {q : ℤ} → IsFloor x w q → Split x w q (up (x -ℤ q *ℤ pos w))
floor_split {x} {w} {q} f =
    let g = floor_in f in
    let z : dn (x -ℤ q *ℤ pos w) ≡ 0 = omega (arith, g, mul# q (pos w), sub# x (q *ℤ pos w), one# (x -ℤ q *ℤ pos w)) in
    record {
      sum = omega (za, mul# q (pos w), sub# x (q *ℤ pos w), add# (q *ℤ pos w) (pos (up (x -ℤ q *ℤ pos w))));
      less = omega (arith, g, mul# q (pos w), sub# x (q *ℤ pos w));
    }

-- the floor and the rest are such numbers
pub rest_split : (x : ℤ) (w : ℕ) → 0 < w → Split x w (floor x (pos w)) (rest x w)
unfolding rest floor
rest_split (pos a) w h = floor_split (floor_pos a w h)
rest_split (negsuc a) w h = floor_split (floor_neg a w h)

-- and there are no others
pub quot_is : {x : ℤ} {w : ℕ} {q : ℤ} {r : ℕ} → Split x w q r → q ≡ floor x (pos w)
unfolding floor
quot_is {x = pos a} {w = w} s = floor_unique (split_floor s) (floor_pos a w (omega (arith, s.less)))
quot_is {x = negsuc a} {w = w} s = floor_unique (split_floor s) (floor_neg a w (omega (arith, s.less)))

only_rest : {x : ℤ} {w : ℕ} {p q : ℤ} {r : ℕ} → IsFloor x w p → Split x w q r → r ≡ up (x -ℤ p *ℤ pos w)
only_rest {x} {w} {p} {q} {r} f s =
    let t = floor_split f in
    let e : x ≡ p *ℤ pos w +ℤ pos r = s.sum ∙ ap (λ (z : ℤ). z *ℤ pos w +ℤ pos r) (floor_unique (split_floor s) f) in
    omega (za, eq_in e, eq_in t.sum, add# (p *ℤ pos w) (pos r), add# (p *ℤ pos w) (pos (up (x -ℤ p *ℤ pos w))))

pub rest_is : {x : ℤ} {w : ℕ} {q : ℤ} {r : ℕ} → Split x w q r → r ≡ rest x w
unfolding rest floor
rest_is {x = pos a} {w = w} s = only_rest (floor_pos a w (omega (arith, s.less))) s
rest_is {x = negsuc a} {w = w} s = only_rest (floor_neg a w (omega (arith, s.less))) s

-- in parts, as `omega` finds it
pub split_out : {x : ℤ} {w : ℕ} {q : ℤ} {r : ℕ} → up q * w + r + dn x ≡ up x + dn q * w → r < w → Split x w q r
split_out {x} {w} {q} {r} e l = record { sum = omega (za, add# (q *ℤ pos w) (pos r), mul# q (pos w)); less = l }
