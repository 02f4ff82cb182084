-- Sums of lists made line by line.
use Prim.Native.Nat.{ℕ, zero, suc, ◌<◌, zero-le, suc-le-suc}
use native.Mathlib.Omega.{arith}
use native.Mathlib.Nat.{not-suc-le-zero, le_of_suc-le-suc}
use mathlib.Core.Path.{◌≡◌, refl, ap, ap₂, ◌∙◌}
use mathlib.Core.List.{List, [], ◌∷◌}
use lib.ListN.{length, get_or, replicate}
use lib.IntN.{ℤ, pos, ◌+ℤ◌}
use lib.Signed.{◌≤ℤ◌, ◌<ℤ◌}
use Rattle.ints.specs.Bridge.{za, add#}
use Rattle.ints.specs.Order.{add_mono}
use Rattle.ints.specs.Ring.{add_swap}
use Rattle.ints.specs.Sums.{sum_ℤ, NonNeg, nonneg_head, nonneg_tail, sum_nonneg}
use Rattle.rules.specs.Lists.{each_from, side_by_side}

-- sums side by side
pub sum_sides : (xs ys : List ℤ) → length xs ≡ length ys → sum_ℤ (side_by_side ◌+ℤ◌ xs ys) ≡ sum_ℤ xs +ℤ sum_ℤ ys
unfolding side_by_side sum_ℤ
sum_sides [] [] e = refl
sum_sides [] (y ∷ ys) e = absurd (omega arith)
sum_sides (x ∷ xs) [] e = absurd (omega arith)
sum_sides (x ∷ xs) (y ∷ ys) e = ap (λ (t : ℤ). x +ℤ y +ℤ t) (sum_sides xs ys (omega arith)) ∙ add_swap x y (sum_ℤ xs) (sum_ℤ ys)

pub sum_zeros : (n : ℕ) → sum_ℤ (replicate n (pos 0)) ≡ pos 0
unfolding sum_ℤ
sum_zeros zero = refl
sum_zeros (suc n) = ap (λ (t : ℤ). pos 0 +ℤ t) (sum_zeros n)

-- none above 0, and one above 0 among none negative
pub none_above : (xs : List ℤ) → ((i : ℕ) → i < length xs → get_or xs i (pos 0) ≤ℤ pos 0) → sum_ℤ xs ≤ℤ pos 0
unfolding sum_ℤ
none_above [] h = omega za
none_above (x ∷ xs) h = omega (za, h 0 (suc-le-suc zero-le), none_above xs (λ i k. h (suc i) (suc-le-suc k)), add# x (sum_ℤ xs))

pub some_above : (xs : List ℤ) (i : ℕ) → NonNeg xs → i < length xs → pos 0 <ℤ get_or xs i (pos 0) → pos 0 <ℤ sum_ℤ xs
unfolding sum_ℤ
some_above [] i h k z = absurd (not-suc-le-zero k)
some_above (x ∷ xs) zero h k z = omega (za, sum_nonneg xs (nonneg_tail h), add# x (sum_ℤ xs))
some_above (x ∷ xs) (suc i) h k z = omega (za, nonneg_head h, some_above xs i (nonneg_tail h) (le_of_suc-le-suc k) z, add# x (sum_ℤ xs))

-- lines of the same values
pub same_each : {A B : Type 0} (k : ℕ) (f g : ℕ → A → B) (xs : List A) → ((i : ℕ) (x : A) → f i x ≡ g i x) → each_from k f xs ≡ each_from k g xs
unfolding each_from
same_each k f g [] h = refl
same_each k f g (x ∷ xs) h = ap₂ ◌∷◌ (h k x) (same_each (suc k) f g xs h)

-- lines none of which is above the other's
pub sum_le : (xs ys : List ℤ) → length xs ≡ length ys → ((i : ℕ) → i < length xs → get_or xs i (pos 0) ≤ℤ get_or ys i (pos 0)) → sum_ℤ xs ≤ℤ sum_ℤ ys
unfolding sum_ℤ
sum_le [] [] e h = omega za
sum_le [] (y ∷ ys) e h = absurd (omega arith)
sum_le (x ∷ xs) [] e h = absurd (omega arith)
sum_le (x ∷ xs) (y ∷ ys) e h =
    add_mono (h 0 (suc-le-suc zero-le)) (sum_le xs ys (omega arith) (λ i k. h (suc i) (suc-le-suc k)))
