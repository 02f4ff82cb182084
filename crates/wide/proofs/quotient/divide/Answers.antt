-- Moved up by s, divisor and dividend are both times S = 2^s: the quotient stays, and the remainder is times S too.
use Rattle.std.proofs.Common.{◌≡◌, ℕ, suc, ◌+◌, ◌-◌, ◌*◌, ◌/◌, ◌%◌, ◌^◌, ◌<◌, ◌≤◌, sym, ap, ◌∙◌, subst}
use Rattle.std.proofs.Common.{lt_trans, mul-le-mul_right, mod-lt, mod-eq_of_lt, div-lt_iff_lt-mul, mul-lt-mul_of_pos_right}
use Rattle.std.proofs.Common.{div-add-mod', mul-div_cancel, arith, pow_pos, pow-add, w64, Fits, rules}
use native.Mathlib.Nat.{mul-add-div_right}
use lib.Arith.{digits_mod}
use lib.Count.{count_leading_zeros, leading_top}
use Rattle.wide.proofs.Laws.{divides, divided_is}
use Rattle.wide.proofs.quotient.divide.Goals as goal

-- the divisor c times S has its top bit set; T moves the other way
record Up (c S T : ℕ) : Type 0 where
  word : S * T ≡ 2 ^ 63
  low : 2 ^ 63 ≤ c * S
  high : c * S < 2 ^ 64

-- the count of leading zeros does that
up : (c : ℕ) → 0 < c → c < 2 ^ 64 → Up c (2 ^ count_leading_zeros 64 c) (2 ^ (63 - count_leading_zeros 64 c))
up c h k =
    let s = count_leading_zeros 64 c in
    let t = leading_top 64 c h k in
    let j = t.0 in
    let e : s + (63 - s) ≡ 63 = omega (arith, t.1) in
    let e₁ : j + s ≡ 63 = omega (arith, t.1) in
    let e₂ : suc j + s ≡ 64 = omega (arith, t.1) in
    record {
      word = sym (pow-add 2 s (63 - s)) ∙ ap (λ (n : ℕ). 2 ^ n) e;
      low = subst (λ (n : ℕ). n ≤ c * 2 ^ s) (sym (pow-add 2 j s) ∙ ap (λ (n : ℕ). 2 ^ n) e₁) (mul-le-mul_right (2 ^ s) t.2);
      high = subst (λ (n : ℕ). c * 2 ^ s < n) (sym (pow-add 2 (suc j) s) ∙ ap (λ (n : ℕ). 2 ^ n) e₂) (mul-lt-mul_of_pos_right t.3 (pow_pos s));
    }

-- what the code's words are after that: the divisor v, and the dividend's two words x and m
record Moved (c h l S T : ℕ) : Type 0 where
  v_is : (c * S) % 2 ^ 64 ≡ c * S
  v_top : 2 ^ 63 ≤ (c * S) % 2 ^ 64
  v_lt : (c * S) % 2 ^ 64 < 2 ^ 64
  x_lt : (h * S) % 2 ^ 64 + l / 2 / T < (c * S) % 2 ^ 64
  all : ((h * S) % 2 ^ 64 + l / 2 / T) * 2 ^ 64 + (l * S) % 2 ^ 64 ≡ (h * 2 ^ 64 + l) * S

-- the two words' sum, moved up
sum_up : (B h e k l S : ℕ) → e * B + k ≡ l * S → (h * S + e) * B + k ≡ (h * B + l) * S
sum_up B h e k l S i = omega arith

-- e are the bits that leave l, f those that stay
moved : (c h l S T : ℕ) → Up c S T → 0 < S → 0 < T → h < c → l < 2 ^ 64 → Moved c h l S T
moved c h l S T u S_pos T-pos h_lt l_lt =
    let e = l / 2 / T in
    let f = l / 2 % T * 2 + l % 2 in
    let cut : e * (2 * T) + f ≡ l = omega (arith, div-add-mod' (l / 2) T) in
    let k : f + 1 ≤ 2 * T = omega (arith, mod-lt (l / 2) T-pos) in
    let f_lt : f * S < 2 ^ 64 = omega (arith, mul-le-mul_right S k, u.word) in
    let l-is : e * 2 ^ 64 + f * S ≡ l * S = omega (arith, ap (λ (n : ℕ). n * S) cut, ap (λ (n : ℕ). e * n) u.word) in
    let m-is : (l * S) % 2 ^ 64 ≡ f * S = ap (λ (n : ℕ). n % 2 ^ 64) (sym l-is) ∙ digits_mod e f_lt in
    let v_is : (c * S) % 2 ^ 64 ≡ c * S = mod-eq_of_lt u.high in
    let j : h + 1 ≤ c = omega arith in
    let g = mul-le-mul_right S j in
    let h_is : (h * S) % 2 ^ 64 ≡ h * S = mod-eq_of_lt (omega (arith, g, u.high)) in
    let e-lt : e < S = (div-lt_iff_lt-mul T-pos).1 (omega (arith, u.word)) in
    record {
      v_is = v_is;
      v_top = rw v_is u.low;
      v_lt = rw v_is u.high;
      x_lt = rw (h_is, v_is) (omega (arith, g, e-lt));
      all = rw (h_is, m-is) (sum_up (2 ^ 64) h e (f * S) l S l-is);
    }

-- back down: a quotient q and a remainder r of n·S over v = c·S
module _ (n c S v q r : ℕ) (S_pos : 0 < S) (v_is : v ≡ c * S) (whole : q * v + r ≡ n * S) where
  back : q * c + r / S ≡ n
  back =
      let k : q * c * S + r ≡ n * S = omega (arith, whole, ap (λ (t : ℕ). q * t) v_is) in
      sym (mul-add-div_right S_pos (q * c) r) ∙ ap (λ (t : ℕ). t / S) k ∙ mul-div_cancel n S_pos

  back_lt : r < v → r / S < c
  back_lt h = (div-lt_iff_lt-mul S_pos).1 (subst (λ (t : ℕ). r < t) v_is h)

-- at the places of the code
words : (c h l : ℕ) → h < c → Fits w64 c → Fits w64 l → Moved c h l (2 ^ count_leading_zeros 64 c) (2 ^ (63 - count_leading_zeros 64 c))
words c h l k f g =
    moved _ _ _ _ _ (up c (omega arith) f.fits) (pow_pos (count_leading_zeros 64 c)) (pow_pos (63 - count_leading_zeros 64 c)) k g.fits

pub overflow_add-high : goal.overflow_add-high
overflow_add-high c =
    let f : Fits w64 c.args.n.low = search rules in
    let w = words c.args.c c.args.n.high c.args.n.low c.requires c.ranges.c f in
    record { fits = lt_trans w.x_lt w.v_lt }

pub invariant_of-divisor : goal.invariant_of-divisor
invariant_of-divisor c =
    let f : Fits w64 c.args.n.low = search rules in
    record { top = (words c.args.c c.args.n.high c.args.n.low c.requires c.ranges.c f).v_top }

pub divide-r-requires : goal.divide-r-requires
divide-r-requires c =
    let f : Fits w64 c.args.n.low = search rules in
    (words c.args.c c.args.n.high c.args.n.low c.requires c.ranges.c f).x_lt

pub returns : goal.returns
returns c =
    let a = c.args in
    let f : Fits w64 c.args.n.low = search rules in
    let w = words a.c a.n.high a.n.low c.requires c.ranges.c f in
    let S_pos = pow_pos (count_leading_zeros 64 a.c) in
    let z : 0 < (a.c * 2 ^ count_leading_zeros 64 a.c) % 2 ^ 64 = omega (arith, w.v_top) in
    let t = divides z c.divide-r.ensures in
    let n = a.n.high * 2 ^ 64 + a.n.low in
    divided_is _ a.c _ n
    (back n a.c _ _ _ _ S_pos w.v_is (t.whole ∙ w.all))
    (back_lt n a.c _ _ _ _ S_pos w.v_is (t.whole ∙ w.all) t.small)
