-- Ring identities on ℤ: each number is a difference of two naturals, an identity is one between sums of products of naturals, and `omega`
-- multiplies those out.
use Rattle.std.specs.Prelude.{◌≡◌, ℕ, suc, ◌+◌, ◌*◌, ◌≤◌, ◌<◌, ◌↔◌}
use Rattle.std.specs.Prelude.{ℤ, pos, negsuc, neg_ℤ, ◌+ℤ◌, ◌*ℤ◌, ◌≤ℤ◌, ◌<ℤ◌}
use Rattle.std.proofs.Common.{ap, subst, arith}
use Rattle.std.proofs.Math.IntN.{sub_ℕ}
use Rattle.ints.specs.Bridge.{up, dn, za, Sub, nat_sub#, add#, mul#, neg#}

-- a − b
infixl 6 ◌⊖◌
pub ◌⊖◌ : ℕ → ℕ → ℤ
a ⊖ b = sub_ℕ a b

pub dif# : (a b : ℕ) → Sub a b (a ⊖ b)
unfolding ◌⊖◌
dif# a b = nat_sub# a b

pub split : (x : ℤ) → up x ⊖ dn x ≡ x
split x = omega (za, dif# (up x) (dn x))

pub ⊖_pos : (n : ℕ) → pos n ≡ n ⊖ 0
⊖_pos n = omega (za, dif# n 0)

pub ⊖_negsuc : (n : ℕ) → negsuc n ≡ 0 ⊖ suc n
⊖_negsuc n = omega (za, dif# 0 (suc n))

pub ⊖_add : (a b c d : ℕ) → (a ⊖ b) +ℤ (c ⊖ d) ≡ (a + c) ⊖ (b + d)
⊖_add a b c d = omega (za, dif# a b, dif# c d, dif# (a + c) (b + d), add# (a ⊖ b) (c ⊖ d))

pub ⊖_neg : (a b : ℕ) → neg_ℤ (a ⊖ b) ≡ b ⊖ a
⊖_neg a b = omega (za, dif# a b, dif# b a, neg# (a ⊖ b))

pub ⊖_eq : (a b c d : ℕ) → (a ⊖ b ≡ c ⊖ d) ↔ (a + d ≡ c + b)
⊖_eq a b c d = (λ h. omega (za, dif# a b, dif# c d), λ h. omega (za, dif# a b, dif# c d))

pub ⊖_le : (a b c d : ℕ) → ((a ⊖ b) ≤ℤ (c ⊖ d)) ↔ (a + d ≤ c + b)
⊖_le a b c d = (λ h. omega (za, dif# a b, dif# c d), λ h. omega (za, dif# a b, dif# c d))

pub ⊖_lt : (a b c d : ℕ) → ((a ⊖ b) <ℤ (c ⊖ d)) ↔ (a + d < c + b)
⊖_lt a b c d = (λ h. omega (za, dif# a b, dif# c d), λ h. omega (za, dif# a b, dif# c d))

-- the product, from the two parts of each factor
mul_dif : (p q r s u v a b c d : ℕ) → p + b ≡ q + a → r + d ≡ s + c → u ≡ p * r + q * s → v ≡ p * s + q * r
    → u + (a * d + b * c) ≡ v + (a * c + b * d)
mul_dif p q r s u v a b c d e f g h =
    omega (arith, ap (λ (t : ℕ). t * r) e, ap (λ (t : ℕ). t * s) e, ap (λ (t : ℕ). t * a) f, ap (λ (t : ℕ). t * b) f)

pub ⊖_mul : (a b c d : ℕ) → (a ⊖ b) *ℤ (c ⊖ d) ≡ (a * c + b * d) ⊖ (a * d + b * c)
⊖_mul a b c d =
    let m = mul# (a ⊖ b) (c ⊖ d) in
    let e = mul_dif _ _ _ _ _ _ a b c d (dif# a b).sum (dif# c d).sum m.hi m.lo in
    omega (za, dif# (a * c + b * d) (a * d + b * c))

-- what an identity or an order of differences comes to
pub ruleset diff = (⊖_pos, ⊖_negsuc, ⊖_add, ⊖_neg, ⊖_mul, ⊖_eq, ⊖_le, ⊖_lt)

pub all1 : (Q : ℤ → Type 0) → ((a b : ℕ) → Q (a ⊖ b)) → (x : ℤ) → Q x
all1 Q f x = subst Q (split x) (f (up x) (dn x))

pub all2 : (Q : ℤ → ℤ → Type 0) → ((a b c d : ℕ) → Q (a ⊖ b) (c ⊖ d)) → (x y : ℤ) → Q x y
all2 Q f x y = all1 (λ (t : ℤ). Q x t) (λ c d. all1 (λ (t : ℤ). Q t (c ⊖ d)) (λ a b. f a b c d) x) y

pub all3 : (Q : ℤ → ℤ → ℤ → Type 0) → ((a b c d e f : ℕ) → Q (a ⊖ b) (c ⊖ d) (e ⊖ f)) → (x y z : ℤ) → Q x y z
all3 Q f x y z = all1 (λ (t : ℤ). Q x y t) (λ a b. all2 (λ (t u : ℤ). Q t u (a ⊖ b)) (λ c d p q. f c d p q a b) x y) z

pub all4 : (Q : ℤ → ℤ → ℤ → ℤ → Type 0) → ((a b c d e f g h : ℕ) → Q (a ⊖ b) (c ⊖ d) (e ⊖ f) (g ⊖ h))
    → (x y z w : ℤ) → Q x y z w
all4 Q f x y z w = all1 (λ (t : ℤ). Q x y z t) (λ a b. all3 (λ (t u v : ℤ). Q t u v (a ⊖ b)) (λ c d p q r s. f c d p q r s a b) x y z) w

pub all5 : (Q : ℤ → ℤ → ℤ → ℤ → ℤ → Type 0) → ((a b c d e f g h i j : ℕ) → Q (a ⊖ b) (c ⊖ d) (e ⊖ f) (g ⊖ h) (i ⊖ j))
    → (x y z w t : ℤ) → Q x y z w t
all5 Q f x y z w t =
    all1 (λ (m : ℤ). Q x y z w m) (λ a b. all4 (λ (m n o p : ℤ). Q m n o p (a ⊖ b)) (λ c d e g h i j k. f c d e g h i j k a b) x y z w) t

-- ---- two sums of two
pub add_swap : (a b c d : ℤ) → a +ℤ b +ℤ (c +ℤ d) ≡ a +ℤ c +ℤ (b +ℤ d)
add_swap = all4 _ (λ a b c d e f g h. simp diff (omega arith))
