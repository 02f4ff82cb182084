-- Tests on whole numbers: a value outside its limits, two values equal, and what the tests tell.
use Rattle.std.specs.Prelude.{◌≡◌, refl, ◌≢◌, ◌↔◌, Bool, true, false, ◌||◌, eqb, ℤ, pos, negsuc, ◌≤ℤ◌}
use Rattle.std.proofs.Common.{sym, ap, ◌∙◌, true≢false, eqb-true, eq-eqb}
use Rattle.std.proofs.lemmas.Bool.{false≢true}
use Rattle.std.specs.Int.Signed.{lt_z}
use Rattle.ints.specs.Bridge.{za}

-- x < low or high < x
unfoldable pub outside : ℤ → ℤ → ℤ → Bool
outside low high x = lt_z x low || lt_z high x

pub record Within (low high x : ℤ) : Type 0 where
  pub above : low ≤ℤ x
  pub below : x ≤ℤ high

-- an "or" that does not hold
pub or_false : (a b : Bool) → (a || b) ≡ false → (a ≡ false) × (b ≡ false)
or_false false b e = (refl, e)
or_false true b e = absurd (true≢false e)

pub outside_false : (low high x : ℤ) → outside low high x ≡ false → Within low high x
unfolding outside
outside_false low high x e = let f = or_false (lt_z x low) (lt_z high x) e in record { above = omega za; below = omega za }

pub not_below : (a b : ℤ) → b ≤ℤ a → lt_z a b ≡ false
not_below a b h = go (lt_z a b) refl
  where
    go : (t : Bool) → lt_z a b ≡ t → t ≡ false
    go true e = absurd (omega za)
    go false e = refl

pub within_false : (low high x : ℤ) → Within low high x → outside low high x ≡ false
unfolding outside
within_false low high x w = rw (not_below x low w.above, not_below high x w.below)

-- a equals b
abbrev pub eq_z : ℤ → ℤ → Bool
eq_z (pos a) (pos b) = eqb a b
eq_z (pos a) (negsuc b) = false
eq_z (negsuc a) (pos b) = false
eq_z (negsuc a) (negsuc b) = eqb a b

pub eq_z_true : (a b : ℤ) → eq_z a b ≡ true → a ≡ b
eq_z_true (pos a) (pos b) e = ap pos (eqb-true a b e)
eq_z_true (pos a) (negsuc b) e = absurd (false≢true e)
eq_z_true (negsuc a) (pos b) e = absurd (false≢true e)
eq_z_true (negsuc a) (negsuc b) e = ap negsuc (eqb-true a b e)

pub eq_z_refl : (a : ℤ) → eq_z a a ≡ true
eq_z_refl (pos a) = eq-eqb a a refl
eq_z_refl (negsuc a) = eq-eqb a a refl

pub eq_z_false : (a b : ℤ) → eq_z a b ≡ false → a ≢ b
eq_z_false a b e p = true≢false (sym (eq_z_refl a) ∙ ap (λ (x : ℤ). eq_z a x) p ∙ e)

-- tests that hold in the same cases, and one that does not hold
pub eq_z_same : (a b c d : ℤ) → (a ≡ b) ↔ (c ≡ d) → eq_z a b ≡ eq_z c d
eq_z_same a b c d f = go (eq_z a b) refl (eq_z c d) refl
  where
    go : (s : Bool) → eq_z a b ≡ s → (t : Bool) → eq_z c d ≡ t → s ≡ t
    go true e true e' = refl
    go true e false e' = absurd (eq_z_false c d e' (f.0 (eq_z_true a b e)))
    go false e true e' = absurd (eq_z_false a b e (f.1 (eq_z_true c d e')))
    go false e false e' = refl

pub eq_z_not : (a b : ℤ) → a ≢ b → eq_z a b ≡ false
eq_z_not a b n = eq_z_same a b (pos 0) (pos 1) (λ e. absurd (n e), λ e. absurd (omega za))
