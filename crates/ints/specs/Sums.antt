-- Sums of whole numbers: of a list, and of a function over the numbers below n.
use mathlib.Core.Path.{◌≡◌, refl, sym, ap, ◌∙◌}
use Rattle.std.specs.Prelude.{List, [], ◌∷◌, ◌++◌, ℕ, zero, suc, ◌+◌, ◌*◌}
use Rattle.std.specs.Prelude.{◌^◌, ◌≤◌, ◌<◌, length, take, get_or, set, ◌≤ℤ◌}
use Rattle.std.proofs.Common.{zero-le, suc-le-suc, arith, le_of_suc-le-suc, not-suc-le-zero, mul-le-mul_left, add-one, take-suc, take_all, SFits}
use lib.IntN.{ℤ, pos, ◌+ℤ◌, ◌-ℤ◌, ◌*ℤ◌, +ℤ_idl, +ℤ_idr, +ℤ_assoc}
use Rattle.std.specs.Int.{w64}
use Rattle.ints.specs.Bridge.{abs, za, add#}
use Rattle.ints.specs.Ring.{all3, diff, add_swap}
use Rattle.ints.specs.Order.{add_mono, ≤_refl, ≤_trans, ≡→≤}
use Rattle.ints.specs.NatSums.{Σ}

-- ---- of a list
unfoldable pub sum_ℤ : List ℤ → ℤ
sum_ℤ [] = pos 0
sum_ℤ (x ∷ xs) = x +ℤ sum_ℤ xs

pub sum_append : (xs ys : List ℤ) → sum_ℤ (xs ++ ys) ≡ sum_ℤ xs +ℤ sum_ℤ ys
unfolding sum_ℤ
sum_append [] ys = sym (+ℤ_idl (sum_ℤ ys))
sum_append (x ∷ xs) ys = ap (λ (t : ℤ). x +ℤ t) (sum_append xs ys) ∙ sym (+ℤ_assoc x (sum_ℤ xs) (sum_ℤ ys))

pub sum_one : (x : ℤ) → sum_ℤ (x ∷ []) ≡ x
unfolding sum_ℤ
sum_one x = +ℤ_idr x

pub sum_none : sum_ℤ [] ≡ pos 0
unfolding sum_ℤ
sum_none = refl

-- one more element: what a loop that adds up a slice asks at its turn's end
pub sum_more : (xs : List ℤ) (i : ℕ) (d : ℤ) → i < length xs → sum_ℤ (take (i + 1) xs) ≡ sum_ℤ (take i xs) +ℤ get_or xs i d
sum_more xs i d h = rw (add-one, take-suc xs i d h, sum_append, sum_one)

pub sum_start : (xs : List ℤ) → sum_ℤ (take 0 xs) ≡ pos 0
unfolding sum_ℤ
sum_start xs = refl

pub sum_end : (xs : List ℤ) (i : ℕ) → i ≡ length xs → sum_ℤ (take i xs) ≡ sum_ℤ xs
sum_end xs i e = ap sum_ℤ (take_all i xs (omega arith))

-- each element at most K in size: so is the sum, K times the length, and so is each part's
pub record Small (K : ℕ) (xs : List ℤ) : Type 0 where
  pub small : (i : ℕ) → i < length xs → abs (get_or xs i (pos 0)) ≤ K

pub small_tail : {K : ℕ} {x : ℤ} {xs : List ℤ} → Small K (x ∷ xs) → Small K xs
small_tail h = record { small = λ i k. h.small (suc i) (suc-le-suc k) }

pub sum_take_small : (K : ℕ) (xs : List ℤ) (i : ℕ) → Small K xs → i ≤ length xs → abs (sum_ℤ (take i xs)) ≤ K * i
unfolding sum_ℤ
sum_take_small K [] zero h k = omega arith
sum_take_small K [] (suc i) h k = absurd (not-suc-le-zero k)
sum_take_small K (x ∷ xs) zero h k = omega arith
sum_take_small K (x ∷ xs) (suc i) h k = omega (
  arith,
  h.small 0 (suc-le-suc zero-le),
  sum_take_small K xs i (small_tail h) (le_of_suc-le-suc k),
  add# x (sum_ℤ (take i xs)),
)

-- a loop's turn over such a list: the element is a word, and so is the sum with it
pub small_fits : (K : ℕ) (xs : List ℤ) (i : ℕ) → K < 2 ^ 63 → i < length xs → Small K xs → SFits w64 (get_or xs i (pos 0))
small_fits K xs i k h s = omega (za, s.small i h)

pub turn_fits : (K : ℕ) (xs : List ℤ) (i : ℕ) → K * length xs < 2 ^ 63 → i < length xs → Small K xs
    → SFits w64 (sum_ℤ (take i xs) +ℤ get_or xs i (pos 0))
turn_fits K xs i k h s =
    omega (za, s.small i h, sum_take_small K xs i s (omega arith), mul-le-mul_left K h, add# (sum_ℤ (take i xs)) (get_or xs i (pos 0)))

-- none of the list is negative: so is no part's sum, and a longer part's is at least as large
pub record NonNeg (xs : List ℤ) : Type 0 where
  pub at : (i : ℕ) → i < length xs → pos 0 ≤ℤ get_or xs i (pos 0)

pub nonneg_head : {x : ℤ} {xs : List ℤ} → NonNeg (x ∷ xs) → pos 0 ≤ℤ x
nonneg_head h = h.at 0 (suc-le-suc zero-le)

pub nonneg_tail : {x : ℤ} {xs : List ℤ} → NonNeg (x ∷ xs) → NonNeg xs
nonneg_tail h = record { at = λ i k. h.at (suc i) (suc-le-suc k) }

pub sum_nonneg : (xs : List ℤ) → NonNeg xs → pos 0 ≤ℤ sum_ℤ xs
unfolding sum_ℤ
sum_nonneg [] h = ≤_refl (pos 0)
sum_nonneg (x ∷ xs) h = omega (za, nonneg_head h, sum_nonneg xs (nonneg_tail h), add# x (sum_ℤ xs))

pub sum_take_nonneg : (xs : List ℤ) (i : ℕ) → NonNeg xs → pos 0 ≤ℤ sum_ℤ (take i xs)
unfolding sum_ℤ
sum_take_nonneg xs zero h = ≡→≤ (sym (sum_start xs))
sum_take_nonneg [] (suc i) h = ≤_refl (pos 0)
sum_take_nonneg (x ∷ xs) (suc i) h = omega (za, nonneg_head h, sum_take_nonneg xs i (nonneg_tail h), add# x (sum_ℤ (take i xs)))

pub sum_take_rises : (xs : List ℤ) (i : ℕ) → NonNeg xs → i < length xs → sum_ℤ (take i xs) ≤ℤ sum_ℤ (take (i + 1) xs)
sum_take_rises xs i h l = rw (sum_more xs i (pos 0) l) (omega (za, h.at i l, add# (sum_ℤ (take i xs)) (get_or xs i (pos 0))))

pub sum_take_le : (xs : List ℤ) (i : ℕ) → NonNeg xs → sum_ℤ (take i xs) ≤ℤ sum_ℤ xs
unfolding sum_ℤ
sum_take_le xs zero h = ≤_trans (≡→≤ (sum_start xs)) (sum_nonneg xs h)
sum_take_le [] (suc i) h = ≤_refl (pos 0)
sum_take_le (x ∷ xs) (suc i) h = add_mono (≤_refl x) (sum_take_le xs i (nonneg_tail h))

-- one entry is no more than the whole
pub entry_le_sum : (xs : List ℤ) (i : ℕ) → NonNeg xs → i < length xs → get_or xs i (pos 0) ≤ℤ sum_ℤ xs
entry_le_sum xs i h l =
    let m = sum_more xs i (pos 0) l in
    omega (za, sum_take_nonneg xs i h, sum_take_le xs (i + 1) h, m, add# (sum_ℤ (take i xs)) (get_or xs i (pos 0)))

-- a store
pub sum_set : (xs : List ℤ) (i : ℕ) (v d : ℤ) → i < length xs → sum_ℤ (set xs i v) ≡ sum_ℤ xs +ℤ (v -ℤ get_or xs i d)
unfolding sum_ℤ
sum_set [] i v d h = absurd (not-suc-le-zero h)
sum_set (x ∷ xs) zero v d h = swap x v (sum_ℤ xs)
  where
    swap : (x v s : ℤ) → v +ℤ s ≡ x +ℤ s +ℤ (v -ℤ x)
    swap = all3 _ (λ a b c d e f. simp diff (omega arith))
sum_set (x ∷ xs) (suc i) v d h =
    ap (λ (t : ℤ). x +ℤ t) (sum_set xs i v d (le_of_suc-le-suc h)) ∙ sym (+ℤ_assoc x (sum_ℤ xs) (v -ℤ get_or xs i d))

-- ---- of a function, over the numbers below n: rows and columns of a table
unfoldable pub Σ< : ℕ → (ℕ → ℤ) → ℤ
Σ< zero f = pos 0
Σ< (suc n) f = Σ< n f +ℤ f n

pub Σ_zero : (n : ℕ) → Σ< n (λ k. pos 0) ≡ pos 0
unfolding Σ<
Σ_zero zero = refl
Σ_zero (suc n) = ap (λ (t : ℤ). t +ℤ pos 0) (Σ_zero n)

pub Σ_ext : (n : ℕ) (f g : ℕ → ℤ) → ((k : ℕ) → k < n → f k ≡ g k) → Σ< n f ≡ Σ< n g
unfolding Σ<
Σ_ext zero f g h = refl
Σ_ext (suc n) f g h = mathlib.Core.Path.ap₂ ◌+ℤ◌ (Σ_ext n f g (λ k l. h k (omega arith))) (h n (omega arith))

pub Σ_add : (n : ℕ) (f g : ℕ → ℤ) → Σ< n (λ k. f k +ℤ g k) ≡ Σ< n f +ℤ Σ< n g
unfolding Σ<
Σ_add zero f g = refl
Σ_add (suc n) f g = ap (λ (t : ℤ). t +ℤ (f n +ℤ g n)) (Σ_add n f g) ∙ add_swap (Σ< n f) (Σ< n g) (f n) (g n)

pub Σ_scale : (n : ℕ) (f : ℕ → ℤ) (c : ℤ) → Σ< n (λ k. f k *ℤ c) ≡ Σ< n f *ℤ c
unfolding Σ<
Σ_scale zero f c = sym (lib.IntN.zero-*ℤ c)
Σ_scale (suc n) f c = ap (λ (t : ℤ). t +ℤ f n *ℤ c) (Σ_scale n f c) ∙ over (Σ< n f) (f n) c
  where
    over : (x y z : ℤ) → x *ℤ z +ℤ y *ℤ z ≡ (x +ℤ y) *ℤ z
    over = all3 _ (λ a b c d e f. simp diff (omega arith))

-- the rows' totals and the columns' totals have one sum
pub Σ_swap : (m n : ℕ) (f : ℕ → ℕ → ℤ) → Σ< m (λ i. Σ< n (λ j. f i j)) ≡ Σ< n (λ j. Σ< m (λ i. f i j))
unfolding Σ<
Σ_swap zero n f = sym (Σ_zero n)
Σ_swap (suc m) n f = ap (λ (t : ℤ). t +ℤ Σ< n (λ j. f m j)) (Σ_swap m n f) ∙ sym (Σ_add n (λ j. Σ< m (λ i. f i j)) (λ j. f m j))

pub Σ_mono : (n : ℕ) (f g : ℕ → ℤ) → ((k : ℕ) → k < n → f k ≤ℤ g k) → Σ< n f ≤ℤ Σ< n g
unfolding Σ<
Σ_mono zero f g h = ≤_refl (pos 0)
Σ_mono (suc n) f g h = add_mono (Σ_mono n f g (λ k l. h k (omega arith))) (h n (omega arith))

-- the sum of a list by its elements
pub Σ_list : (xs : List ℤ) (n : ℕ) → n ≤ length xs → Σ< n (λ k. get_or xs k (pos 0)) ≡ sum_ℤ (take n xs)
unfolding Σ<
Σ_list xs zero h = sym (sum_start xs)
Σ_list xs (suc n) h = ap (λ (t : ℤ). t +ℤ get_or xs n (pos 0)) (Σ_list xs n (omega arith)) ∙ sym (sum_more xs n (pos 0) h)
    ∙ ap (λ (k : ℕ). sum_ℤ (take k xs)) (add-one n)

-- the sum of naturals
pub Σ_pos : (n : ℕ) (f : ℕ → ℕ) → Σ< n (λ k. pos (f k)) ≡ pos (Σ n f)
unfolding Σ< Σ
Σ_pos zero f = refl
Σ_pos (suc n) f = ap (λ (t : ℤ). t +ℤ pos (f n)) (Σ_pos n f)
