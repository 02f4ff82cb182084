-- The order on ℤ, by name, for `search`, `grw` and proofs by hand. Each is one line by the bridge.
use Rattle.std.specs.Prelude.{◌≡◌, ◌⊎◌, ℕ, ◌+◌, ◌≤◌, ℤ, pos, neg_ℤ, ◌+ℤ◌, ◌≤ℤ◌, ◌<ℤ◌}
use Rattle.std.proofs.Common.{inl, inr}
use Rattle.std.proofs.Math.Decide.{dec_le}
use Rattle.ints.specs.Bridge.{up, dn, abs, za, add#, neg#, one#}

pub ≤_refl : (a : ℤ) → a ≤ℤ a
≤_refl a = omega za

pub ≤_trans : {a b c : ℤ} → a ≤ℤ b → b ≤ℤ c → a ≤ℤ c
≤_trans h k = omega za

pub ≤_antisym : {a b : ℤ} → a ≤ℤ b → b ≤ℤ a → a ≡ b
≤_antisym h k = omega za

pub <→≤ : {a b : ℤ} → a <ℤ b → a ≤ℤ b
<→≤ h = omega za

pub ≡→≤ : {a b : ℤ} → a ≡ b → a ≤ℤ b
≡→≤ h = omega za

pub le_or_lt : (a b : ℤ) → (a ≤ℤ b) ⊎ (b <ℤ a)
le_or_lt a b = go (dec_le (up a + dn b) (up b + dn a))
  where
    go : Dec (up a + dn b ≤ up b + dn a) → (a ≤ℤ b) ⊎ (b <ℤ a)
    go (yes p) = inl (omega za)
    go (no f) = inr (omega za)

pub add_mono : {a b c d : ℤ} → a ≤ℤ b → c ≤ℤ d → (a +ℤ c) ≤ℤ (b +ℤ d)
add_mono {a} {b} {c} {d} h k = omega (za, add# a c, add# b d)

-- a bound in ℕ, and the two bounds in ℤ that it is
pub abs_le : (a : ℤ) (n : ℕ) → a ≤ℤ pos n → neg_ℤ (pos n) ≤ℤ a → abs a ≤ n
abs_le a n h k = omega (za, one# a, neg# (pos n))
