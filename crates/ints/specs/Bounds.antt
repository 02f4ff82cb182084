-- Bounds of sums, differences, products and floors, each with its fit in 64 bits. A bound that is a numeral is computed, so that the
-- last argument of each law is `tt`.
use Rattle.std.specs.Prelude.{◌≡◌, refl, List, [], ◌∷◌, ℕ, zero, suc, ◌+◌, ◌*◌, ◌/◌, ◌^◌, ◌≤◌, ◌<◌}
use Rattle.std.specs.Prelude.{T, leb, ltb, length, take, get_or, ℤ, pos, negsuc, ◌+ℤ◌, ◌-ℤ◌, ◌*ℤ◌, ◌≤ℤ◌}
use Rattle.std.proofs.Common.{ap, subst, zero-le, suc-le-suc, arith, mul-le-mul, mul-le-mul_left, le_trans, div-lt_iff_lt-mul, leb→le, ltb→lt, SFits}
use Rattle.std.specs.Int.{w64}
use Rattle.ints.specs.Bridge.{up, dn, abs, za, add#, sub#, mul#, one#}
use Rattle.ints.specs.Sums.{sum_ℤ, Small, small_tail, sum_end, NonNeg, sum_nonneg, sum_take_nonneg, sum_take_le}
use Rattle.ints.specs.Floor.{floor}

-- −below ≤ x ≤ above, and x fits 64 bits
pub record Word (below above : ℕ) (x : ℤ) : Type 0 where
  pub low : dn x ≤ below
  pub high : up x ≤ above
  pub fits : SFits w64 x

pub word : {L H : ℕ} {x : ℤ} → dn x ≤ L → up x ≤ H → T (ltb (L + H) (2 ^ 63)) → Word L H x
word {L} {H} {x} l h t = record { low = l; high = h; fits = omega (za, ltb→lt (L + H) (2 ^ 63) t) }

pub word_lit : (n : ℕ) → T (ltb (0 + n) (2 ^ 63)) → Word 0 n (pos n)
word_lit n t = word (omega arith) (omega arith) t

-- what it says in ℤ
pub word_nonneg : {H : ℕ} {x : ℤ} → Word 0 H x → pos 0 ≤ℤ x
word_nonneg w = omega za

pub word_le : {L H : ℕ} {x : ℤ} → Word L H x → x ≤ℤ pos H
word_le w = omega za

pub word_abs : {K : ℕ} {x : ℤ} → Word K K x → abs x ≤ K
word_abs {K} {x} w = omega (arith, one# x)

-- a wider bound
pub word_wide : {L H : ℕ} {x : ℤ} (M G : ℕ) → Word L H x → T (leb L M) → T (leb H G) → Word M G x
word_wide {L} {H} M G w l h = record { low = omega (arith, leb→le L M l); high = omega (arith, leb→le H G h); fits = w.fits }

pub word_add : {L H M G : ℕ} {x y : ℤ} → Word L H x → Word M G y → T (ltb (L + M + (H + G)) (2 ^ 63)) → Word (L + M) (H + G) (x +ℤ y)
word_add {x = x} {y = y} v w t = word (omega (arith, add# x y)) (omega (arith, add# x y)) t

pub word_sub : {L H M G : ℕ} {x y : ℤ} → Word L H x → Word M G y → T (ltb (L + G + (H + M)) (2 ^ 63)) → Word (L + G) (H + M) (x -ℤ y)
word_sub {x = x} {y = y} v w t = word (omega (arith, sub# x y)) (omega (arith, sub# x y)) t

-- of two numbers that are not negative
pub word_mul : {H G : ℕ} {x y : ℤ} → Word 0 H x → Word 0 G y → T (ltb (0 + H * G) (2 ^ 63)) → Word 0 (H * G) (x *ℤ y)
word_mul {H} {G} {x} {y} v w t =
    let a : dn x ≡ 0 = omega arith in
    let b : dn y ≡ 0 = omega arith in
    let m = mul# x y in
    word
    (omega (arith, ap (λ (n : ℕ). n * up y) a, ap (λ (n : ℕ). up x * n) b))
    (omega (arith, ap (λ (n : ℕ). n * dn y) a, mul-le-mul v.high w.high))
    t

-- of any number and one that is not negative
pub word_scale : {L H G : ℕ} {x y : ℤ} → Word L H x → Word 0 G y → T (ltb (L * G + H * G) (2 ^ 63)) → Word (L * G) (H * G) (x *ℤ y)
word_scale {L} {H} {G} {x} {y} v w t =
    let b : dn y ≡ 0 = omega arith in
    let m = mul# x y in
    word
    (omega (arith, ap (λ (n : ℕ). up x * n) b, mul-le-mul v.low w.high))
    (omega (arith, ap (λ (n : ℕ). dn x * n) b, mul-le-mul v.high w.high))
    t

-- a number no larger in size than another
pub word_within : {L H : ℕ} {x : ℤ} (K : ℕ) (y : ℤ) → abs y ≤ abs x → Word L H x → T (leb L K) → T (leb H K) → T (ltb (K + K) (2 ^ 63))
    → Word K K y
word_within {L} {H} {x} K y h w l k t =
    let a = leb→le L K l in
    let b = leb→le H K k in
    word (omega (arith, one# x)) (omega (arith, one# x)) t

-- of a number that is not negative, rounded down
pub word_floor : {X : ℕ} {x : ℤ} (H w : ℕ) → Word 0 X x → T (ltb 0 w) → T (ltb X (suc H * w)) → T (ltb (0 + H) (2 ^ 63))
    → Word 0 H (floor x (pos w))
unfolding floor
word_floor {X} {x} H w v z h t = go x v.low v.high
  where
    go : (x : ℤ) → dn x ≤ 0 → up x ≤ X → Word 0 H (floor x (pos w))
    go (pos a) l u =
        let m : a < suc H * w = omega (arith, ltb→lt X (suc H * w) h) in
        let d : a / w < suc H = (div-lt_iff_lt-mul (ltb→lt 0 w z)).1 m in
        word (omega arith) (omega arith) t
    go (negsuc a) l u = absurd (omega arith)

-- ---- sums of lists
sum_any : (K : ℕ) (xs : List ℤ) (i : ℕ) → Small K xs → abs (sum_ℤ (take i xs)) ≤ K * length xs
unfolding sum_ℤ
sum_any K [] zero s = omega arith
sum_any K [] (suc i) s = omega arith
sum_any K (x ∷ xs) zero s = omega arith
sum_any K (x ∷ xs) (suc i) s = omega (arith, s.small 0 (suc-le-suc zero-le), sum_any K xs i (small_tail s), add# x (sum_ℤ (take i xs)))

-- each part's sum, of a list whose entries are at most K in size
pub word_take : (K n : ℕ) (xs : List ℤ) (i : ℕ) → Small K xs → length xs ≤ n → T (ltb (K * n + K * n) (2 ^ 63))
    → Word (K * n) (K * n) (sum_ℤ (take i xs))
word_take K n xs i s l t =
    let h : abs (sum_ℤ (take i xs)) ≤ K * n = le_trans (sum_any K xs i s) (mul-le-mul_left K l) in
    word (omega arith) (omega arith) t

-- and of one with none negative and a bound on the whole sum
pub word_parts : {H : ℕ} (xs : List ℤ) (i : ℕ) → NonNeg xs → Word 0 H (sum_ℤ xs) → T (ltb (0 + H) (2 ^ 63)) → Word 0 H (sum_ℤ (take i xs))
word_parts {H} xs i n w t =
    word (omega (za, sum_take_nonneg xs i n)) (omega (za, sum_take_le xs i n, sum_take_nonneg xs i n, word_nonneg w)) t

-- the sum of a list whose entries are all from 0 to K, or all at most K in size
pub record Words (L H : ℕ) (xs : List ℤ) : Type 0 where
  pub at : (i : ℕ) → i < length xs → Word L H (get_or xs i (pos 0))

pub words_nonneg : {H : ℕ} {xs : List ℤ} → Words 0 H xs → NonNeg xs
words_nonneg w = record { at = λ i h. word_nonneg (w.at i h) }

pub words_small : {K : ℕ} {xs : List ℤ} → Words K K xs → Small K xs
words_small w = record { small = λ i h. word_abs (w.at i h) }

pub word_total : (K n : ℕ) (xs : List ℤ) → Words K K xs → length xs ≤ n → T (ltb (K * n + K * n) (2 ^ 63)) → Word (K * n) (K * n) (sum_ℤ xs)
word_total K n xs w l t = subst (Word (K * n) (K * n)) (sum_end xs (length xs) refl) (word_take K n xs (length xs) (words_small w) l t)

pub word_sum : (K n : ℕ) (xs : List ℤ) → Words 0 K xs → length xs ≤ n → T (ltb (0 + K * n) (2 ^ 63)) → Word 0 (K * n) (sum_ℤ xs)
word_sum K n xs w l t =
    let s : Small K xs = record { small = λ i h. at_most (w.at i h) } in
    let h : abs (sum_ℤ xs) ≤ K * n = subst (λ (z : ℤ). abs z ≤ K * n) (sum_end xs (length xs) refl)
    (le_trans (sum_any K xs (length xs) s) (mul-le-mul_left K l)) in
    word (omega (za, sum_nonneg xs (words_nonneg w))) (omega arith) t
  where
    at_most : {x : ℤ} → Word 0 K x → abs x ≤ K
    at_most v = omega arith
