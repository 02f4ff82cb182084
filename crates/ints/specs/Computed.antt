-- A rule at every number below n, by one test that is computed.
use Rattle.std.proofs.Common.{subst, arith, not-suc-le-zero}
use Rattle.std.specs.Prelude.{Bool, true, false, ℕ, zero, suc, ◌<◌, T}
use Rattle.std.proofs.Math.Decide.{dec_le}

abbrev pub both : Bool → Bool → Bool
both true b = b
both false b = false

both_true : (a b : Bool) → T (both a b) → T a × T b
both_true true b t = (tt, t)
both_true false b t = absurd t

-- the test passes at each number below n
abbrev pub below : (ℕ → Bool) → ℕ → Bool
below test zero = true
below test (suc n) = both (test n) (below test n)

pub below_at : (test : ℕ → Bool) (n : ℕ) → T (below test n) → (k : ℕ) → k < n → T (test k)
below_at test zero t k h = absurd (not-suc-le-zero h)
below_at test (suc n) t k h = go (dec_le (suc k) n) (below_at test n (both_true (test n) (below test n) t).1 k)
  where
    go : Dec (k < n) → (k < n → T (test k)) → T (test k)
    go (yes l) earlier = earlier l
    go (no f) earlier = subst (λ (m : ℕ). T (test m)) (omega (arith, f)) (both_true (test n) (below test n) t).0
