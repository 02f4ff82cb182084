-- Division rounded down, of a whole number by a natural above 0: what it is, that there is one such number, and its laws.
use Rattle.std.specs.Prelude.{◌≡◌, refl, ℕ, ◌+◌, ◌*◌, ◌/◌, ◌≤◌, ◌<◌}
use Rattle.std.specs.Prelude.{ℤ, pos, negsuc, ◌+ℤ◌, ◌*ℤ◌, ◌≤ℤ◌, ◌<ℤ◌}
use Rattle.std.proofs.Common.{ap, ⊎_elim, arith, mul-le-mul_right, mul-le-mul_left, div-add-mod', mod-lt}
use Rattle.std.proofs.Math.Nat.{div-zero}
use Rattle.ints.specs.Bridge.{up, dn, abs, za, add#, mul#, one#, lt_in}
use Rattle.ints.specs.Order.{le_or_lt, ≤_antisym, ≤_refl}

-- x / w rounded towards minus infinity (paper 01, "Units and arithmetic"): `floor_is`, below. The divisors of the paper are above 0; by
-- any other the value is of no use: by 0 it is 0 or −1 by the sign of x, by a negative 0 (`floor_by_zero`, `floor_by_negative`).
unfoldable pub floor : ℤ → ℤ → ℤ
floor (pos a) (pos w) = pos (a / w)
floor (negsuc a) (pos w) = negsuc (a / w)
floor (pos a) (negsuc w) = pos 0
floor (negsuc a) (negsuc w) = pos 0

-- q is x / w, rounded down: q · w ≤ x < (q + 1) · w
pub record IsFloor (x : ℤ) (w : ℕ) (q : ℤ) : Type 0 where
  pub low : (q *ℤ pos w) ≤ℤ x
  pub high : x <ℤ ((q +ℤ pos 1) *ℤ pos w)

-- the same in ℕ, as `omega` reads it
pub record Floor# (x : ℤ) (w : ℕ) (q : ℤ) : Type 0 where
  pub low : up q * w + dn x ≤ up x + dn q * w
  pub high : up x + dn q * w < up q * w + w + dn x

pub floor_in : {x : ℤ} {w : ℕ} {q : ℤ} → IsFloor x w q → Floor# x w q
floor_in {x} {w} {q} f = omega (za, f, mul# q (pos w), mul# (q +ℤ pos 1) (pos w), ap (λ (t : ℕ). t * w) (add# q (pos 1)).sum)

pub floor_out : {x : ℤ} {w : ℕ} {q : ℤ} → Floor# x w q → IsFloor x w q
floor_out {x} {w} {q} f = record {
  low = omega (za, mul# q (pos w));
  high = omega (za, mul# (q +ℤ pos 1) (pos w), ap (λ (t : ℕ). t * w) (add# q (pos 1)).sum);
}

-- each case of `floor` is one. The laws below go by these two, so that each law that a wrong case breaks refuses it by itself
pub floor_pos : (a w : ℕ) → 0 < w → IsFloor (pos a) w (pos (a / w))
floor_pos a w h = floor_out {q = pos (a / w)} (omega (arith, div-add-mod' a w, mod-lt a h))

pub floor_neg : (a w : ℕ) → 0 < w → IsFloor (negsuc a) w (negsuc (a / w))
floor_neg a w h = floor_out {q = negsuc (a / w)} (omega (arith, div-add-mod' a w, mod-lt a h))

pub floor_is : (x : ℤ) (w : ℕ) → 0 < w → IsFloor x w (floor x (pos w))
unfolding floor
floor_is (pos a) w h = floor_pos a w h
floor_is (negsuc a) w h = floor_neg a w h

pub floor_by_zero : (a : ℕ) → (floor (pos a) (pos 0) ≡ pos 0) × (floor (negsuc a) (pos 0) ≡ negsuc 0)
unfolding floor
floor_by_zero a = (ap pos (div-zero a), ap negsuc (div-zero a))

pub floor_by_negative : (x : ℤ) (w : ℕ) → floor x (negsuc w) ≡ pos 0
unfolding floor
floor_by_negative (pos a) w = refl
floor_by_negative (negsuc a) w = refl

-- ---- a larger number has a floor at least as large; so there is one floor
pub floor_mono : {x y : ℤ} {w : ℕ} {q r : ℤ} → IsFloor x w q → IsFloor y w r → x ≤ℤ y → q ≤ℤ r
floor_mono {x} {y} {w} {q} {r} f g h = ⊎_elim (λ p. p) (λ p. absurd (clash p)) (le_or_lt q r)
  where
    clash : r <ℤ q → ⊥
    clash p = omega (za, floor_in f, floor_in g, mul-le-mul_right w (lt_in p))

pub floor_unique : {x : ℤ} {w : ℕ} {q r : ℤ} → IsFloor x w q → IsFloor x w r → q ≡ r
floor_unique {x} f g = ≤_antisym (floor_mono f g (≤_refl x)) (floor_mono g f (≤_refl x))

pub floor_eq : {x : ℤ} {w : ℕ} {q : ℤ} → 0 < w → IsFloor x w q → q ≡ floor x (pos w)
unfolding floor
floor_eq {x = pos a} {w = w} h f = floor_unique f (floor_pos a w h)
floor_eq {x = negsuc a} {w = w} h f = floor_unique f (floor_neg a w h)

-- ---- sums
pub floor_add_low : {x y : ℤ} {w : ℕ} {q r s : ℤ} → IsFloor x w q → IsFloor y w r → IsFloor (x +ℤ y) w s → (q +ℤ r) ≤ℤ s
floor_add_low {x} {y} {w} {q} {r} {s} f g k = ⊎_elim (λ p. p) (λ p. absurd (clash p)) (le_or_lt (q +ℤ r) s)
  where
    clash : s <ℤ (q +ℤ r) → ⊥
    clash p = omega (za, floor_in f, floor_in g, floor_in k, add# x y, ap (λ (t : ℕ). t * w) (add# q r).sum, mul-le-mul_right w (lt_in p))

pub floor_add_high : {x y : ℤ} {w : ℕ} {q r s : ℤ} → IsFloor x w q → IsFloor y w r → IsFloor (x +ℤ y) w s → s ≤ℤ (q +ℤ r +ℤ pos 1)
floor_add_high {x} {y} {w} {q} {r} {s} f g k = ⊎_elim (λ p. p) (λ p. absurd (clash p)) (le_or_lt s (q +ℤ r +ℤ pos 1))
  where
    clash : (q +ℤ r +ℤ pos 1) <ℤ s → ⊥
    clash p = omega (
      za,
      floor_in f,
      floor_in g,
      floor_in k,
      add# x y,
      ap (λ (t : ℕ). t * w) (add# q r).sum,
      ap (λ (t : ℕ). t * w) (add# (q +ℤ r) (pos 1)).sum,
      mul-le-mul_right w (lt_in p),
    )

-- ---- multiples
pub floor_multiple : (k : ℤ) (w : ℕ) → 0 < w → IsFloor (k *ℤ pos w) w k
floor_multiple k w h = floor_out (omega (arith, mul# k (pos w)))

pub floor_shift : {x : ℤ} {w : ℕ} {q : ℤ} (k : ℤ) → IsFloor x w q → IsFloor (x +ℤ k *ℤ pos w) w (q +ℤ k)
floor_shift {x} {w} {q} k f = floor_out (omega (arith, floor_in f, mul# k (pos w), add# x (k *ℤ pos w), ap (λ (t : ℕ). t * w) (add# q k).sum))

-- ---- a share: t out of w of p lies between 0 and p
pub share_up : (p : ℤ) (t w : ℕ) {q : ℤ} → t ≤ w → 0 < w → IsFloor (p *ℤ pos t) w q → pos 0 ≤ℤ p → (pos 0 ≤ℤ q) × (q ≤ℤ p)
share_up p t w {q} h k f g =
    let d : dn p ≡ 0 = omega (za, one# p) in
    let e : dn p * t ≡ 0 * t = ap (λ (n : ℕ). n * t) d in
    let e' : dn p * w ≡ 0 * w = ap (λ (n : ℕ). n * w) d in (
      floor_mono (floor_multiple (pos 0) w k) f (omega (za, mul# p (pos t), mul# (pos 0) (pos w))),
      floor_mono f (floor_multiple p w k) (omega (za, mul# p (pos t), mul# p (pos w), mul-le-mul_left (up p) h)),
    )

pub share_dn : (p : ℤ) (t w : ℕ) {q : ℤ} → t ≤ w → 0 < w → IsFloor (p *ℤ pos t) w q → p ≤ℤ pos 0 → (p ≤ℤ q) × (q ≤ℤ pos 0)
share_dn p t w {q} h k f g =
    let d : up p ≡ 0 = omega (za, one# p) in
    let e : up p * t ≡ 0 * t = ap (λ (n : ℕ). n * t) d in
    let e' : up p * w ≡ 0 * w = ap (λ (n : ℕ). n * w) d in (
      floor_mono (floor_multiple p w k) f (omega (za, mul# p (pos t), mul# p (pos w), mul-le-mul_left (dn p) h)),
      floor_mono f (floor_multiple (pos 0) w k) (omega (za, mul# p (pos t), mul# (pos 0) (pos w))),
    )

pub share_small : (p : ℤ) (t w : ℕ) {q : ℤ} → t ≤ w → 0 < w → IsFloor (p *ℤ pos t) w q → abs q ≤ abs p
share_small p t w {q} h k f = ⊎_elim below above (le_or_lt p (pos 0))
  where
    below : p ≤ℤ pos 0 → abs q ≤ abs p
    below g = let s = share_dn p t w h k f g in omega (za, one# q, one# p)

    above : pos 0 <ℤ p → abs q ≤ abs p
    above g = let s = share_up p t w h k f (omega za) in omega (za, one# q, one# p)

-- the same of the floor itself: t out of w of p, rounded down, is no larger than p
pub floor_share : (p t w : ℤ) → pos 0 ≤ℤ t → t ≤ℤ w → pos 0 <ℤ w → abs (floor (p *ℤ t) w) ≤ abs p
unfolding floor
floor_share p (pos t) (pos w) h k l = go (p *ℤ pos t) refl
  where
    z : 0 < w
    z = omega za

    go : (x : ℤ) → p *ℤ pos t ≡ x → abs (floor x (pos w)) ≤ abs p
    go (pos a) e = share_small p t w {q = pos (a / w)} (omega za) z (rw e (floor_pos a w z))
    go (negsuc a) e = share_small p t w {q = negsuc (a / w)} (omega za) z (rw e (floor_neg a w z))
floor_share p (negsuc t) w h k l = absurd (omega za)
floor_share p (pos t) (negsuc w) h k l = absurd (omega za)
