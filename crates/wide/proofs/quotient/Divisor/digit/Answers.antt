-- With v = v1·2^29 + v0 and h = q·v1 + t, the dividend and p = q·v0 make q·v and m = t·2^29 + d: so q is the quotient, or one more where
-- p passes m, which it does by less than v.
use Rattle.std.proofs.Common.{◌≡◌, ℕ, ◌+◌, ◌-◌, ◌*◌, ◌/◌, ◌%◌, ◌^◌, ◌<◌, ◌≤◌, ap}
use Rattle.std.proofs.Common.{lt_of_le_of_lt, mul-le-mul_right, mod-lt, mul-le-mul, div-add-mod', sub-le, arith, w64, Fits, rules}
use native.Mathlib.Decide.{dec_le}
use lib.Bits.{bit_and, and_mask}
use Rattle.wide.specs.declared.quotient.Divisor.{Divisor}
use Rattle.wide.proofs.Laws.{divided_is}
use Rattle.wide.proofs.quotient.Divisor.digit.Goals as goal

-- a step's numbers: v in its upper and lower bits, h by the upper
record Step (h d v v1 v0 q t : ℕ) : Type 0 where
  v_is : v1 * 2 ^ 29 + v0 ≡ v
  v0_lt : v0 < 2 ^ 29
  v_lt : v < 2 ^ 64
  top : 2 ^ 63 ≤ v
  h_is : q * v1 + t ≡ h
  t_lt : t < v1
  h_lt : h < v
  d_lt : d < 2 ^ 29

module _ {h d v v1 v0 q t : ℕ} (s : Step h d v v1 v0 q t) where
  -- what is left of the dividend is below v
  left_lt : t * 2 ^ 29 + d < v
  left_lt = omega arith

  q_le : q ≤ 2 ^ 29
  q_le = go (dec_le q (2 ^ 29))
    where
      go : Dec (q ≤ 2 ^ 29) → q ≤ 2 ^ 29
      go (yes p) = p
      go (no f) =
          let k : 2 ^ 29 + 1 ≤ q = omega arith in
          absurd (omega (arith, mul-le-mul_right v1 k))

  p_lt : q * v0 < 2 ^ 58
  p_lt = let k : v0 ≤ 2 ^ 29 - 1 = omega arith in omega (arith, mul-le-mul q_le k)

  balance : h * 2 ^ 29 + d + q * v0 ≡ q * v + (t * 2 ^ 29 + d)
  balance = omega (arith, ap (λ (x : ℕ). q * x) s.v_is)

  exact : q * v0 ≤ t * 2 ^ 29 + d → q * v + (t * 2 ^ 29 + d - q * v0) ≡ h * 2 ^ 29 + d
  exact k = omega (arith, balance)

-- one less
less_one : (n v q p m : ℕ) → n + p ≡ q * v + m → m < p → p - m ≤ v → 1 ≤ q → (q - 1) * v + (v - (p - m)) ≡ n
less_one n v q p m e l k j =
    let f : q ≡ (q - 1) + 1 = omega arith in
    omega (arith, ap (λ (x : ℕ). x * v) f)

-- a product that passes m is not by 0
not_none : (q v0 m : ℕ) → m < q * v0 → 1 ≤ q
not_none q v0 m l = go (dec_le 1 q)
  where
    go : Dec (1 ≤ q) → 1 ≤ q
    go (yes p) = p
    go (no f) = let z : q ≡ 0 = omega arith in absurd (omega (arith, ap (λ (x : ℕ). x * v0) z))

passes : (p m v : ℕ) → p < 2 ^ 58 → 2 ^ 63 ≤ v → p - m ≤ v
passes p m v h k = omega arith

below : (v p m : ℕ) → m < p → p - m ≤ v → v - (p - m) < v
below v p m l k = omega arith

-- at a place of the code
step : (k : Divisor) (h d : ℕ) → Fits w64 k.v → (h < k.v) × (d < 2 ^ 29)
    → Step h d k.v (k.v / 2 ^ 29) (bit_and k.v 536870911) (h / (k.v / 2 ^ 29)) (h % (k.v / 2 ^ 29))
step k h d f r =
    let t = k.top in
    let z : 0 < k.v / 2 ^ 29 = omega arith in
    let m = and_mask k.v 29 in
    record {
      v_is = omega (arith, m);
      v0_lt = omega (arith, m);
      v_lt = f.fits;
      top = t;
      h_is = div-add-mod' h (k.v / 2 ^ 29);
      t_lt = mod-lt h z;
      h_lt = r.0;
      d_lt = r.1;
    }

pub returns-then-p-m : goal.returns-then-p-m
returns-then-p-m c =
    let a = c.args in
    let v = a.self.v in
    let f : Fits w64 a.self.v = search rules in
    let s = step a.self a.h a.d f c.requires in
    divided_is (a.h / (v / 2 ^ 29)) v _ (a.h * 2 ^ 29 + a.d) (exact s c.if-p-m.true) (lt_of_le_of_lt (sub-le _ _) (left_lt s))

pub returns-else-p-m : goal.returns-else-p-m
returns-else-p-m c =
    let a = c.args in
    let v = a.self.v in
    let f : Fits w64 a.self.v = search rules in
    let s = step a.self a.h a.d f c.requires in
    let q = a.h / (v / 2 ^ 29) in
    let m = a.h % (v / 2 ^ 29) * 2 ^ 29 + a.d in
    let p = q * bit_and v 536870911 in
    let l : m < p = c.if-p-m.false in
    let k : p - m ≤ v = passes p m v (p_lt s) a.self.top in
    divided_is (q - 1) v (v - (p - m)) (a.h * 2 ^ 29 + a.d)
    (less_one (a.h * 2 ^ 29 + a.d) v q p m (balance s) l k (not_none q (bit_and v 536870911) m l))
    (below v p m l k)
