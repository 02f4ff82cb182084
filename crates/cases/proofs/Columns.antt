-- Case d: three columns are all that user 1's total allows.
use Prim.Native.Nat.{ℕ, ◌+◌}
use mathlib.Core.Path.{◌≡◌}
use mathlib.Core.Logic.{◌⊎◌, inl, inr}
use mathlib.Core.List.{[], ◌∷◌}
use native.Mathlib.Omega.{arith}
use lib.IntN.{ℤ, pos, ◌+ℤ◌, ◌*ℤ◌}
use Rattle.ints.specs.Bridge.{za, add#}
use Rattle.ints.specs.Floor.{floor}
use Rattle.rules.specs.Table.{Cell, rounded_down, rounded_up}
use Rattle.cases.specs.Inputs.{these}

total : (x y z : ℤ) (k m n : ℕ) → x ≡ pos k → y ≡ pos m → z ≡ pos n → pos 0 +ℤ x +ℤ y +ℤ z ≡ pos 296 → k + m + n ≡ 296
total x y z k m n p q r s = omega (za, add# (pos 0) x, add# (pos 0 +ℤ x) y, add# (pos 0 +ℤ x +ℤ y) z)

-- three cells of floors 94, 186 and 15 that total 296: just one of them is rounded up
pub three :
    (x y z : ℤ)
    → Cell (pos 632 *ℤ pos 296) (pos 1970) x
    → Cell (pos 1238 *ℤ pos 296) (pos 1970) y
    → Cell (pos 100 *ℤ pos 296) (pos 1970) z
    → pos 0 +ℤ x +ℤ y +ℤ z ≡ pos 296
    → (x ∷ y ∷ z ∷ [] ≡ these (95 ∷ 186 ∷ 15 ∷ [])) ⊎ ((x ∷ y ∷ z ∷ [] ≡ these (94 ∷ 187 ∷ 15 ∷ [])) ⊎ (x ∷ y ∷ z ∷ [] ≡ these (94 ∷ 186 ∷ 16 ∷ [])))
unfolding floor
three x y z (rounded_up p _) (rounded_down q) (rounded_down r) s = inl (cc)
three x y z (rounded_down p) (rounded_up q _) (rounded_down r) s = inr (inl (cc))
three x y z (rounded_down p) (rounded_down q) (rounded_up r _) s = inr (inr (cc))
three x y z (rounded_down p) (rounded_down q) (rounded_down r) s = absurd (omega (arith, total x y z 94 186 15 p q r s))
three x y z (rounded_down p) (rounded_up q _) (rounded_up r _) s = absurd (omega (arith, total x y z 94 187 16 p q r s))
three x y z (rounded_up p _) (rounded_down q) (rounded_up r _) s = absurd (omega (arith, total x y z 95 186 16 p q r s))
three x y z (rounded_up p _) (rounded_up q _) (rounded_down r) s = absurd (omega (arith, total x y z 95 187 15 p q r s))
three x y z (rounded_up p _) (rounded_up q _) (rounded_up r _) s = absurd (omega (arith, total x y z 95 187 16 p q r s))
