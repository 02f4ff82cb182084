-- A number that is none of the three lies outside 1 to 3.
use Rattle.std.proofs.Common.{◌≡◌, refl, ◌≤◌, Bool, true, false, ℤ, pos, negsuc, arith, w64, of_z}
use Rattle.std.proofs.lemmas.Int.{to_z-of_z}
use Rattle.ints.specs.Bridge.{za}
use Rattle.ints.specs.Range.{outside, Within, outside_false}
use Rattle.rules.proofs.kinds.KindTryFromI64.try_from.Goals as goal

between : (x : ℤ) → Within (pos 1) (pos 3) x → (1 ≤ of_z w64 x) × (of_z w64 x ≤ 3)
between (pos n) w = (omega (za, w.above), omega (za, w.below))
between (negsuc n) w = absurd (omega (za, w.above))

none : (x : ℤ) → ((1 ≤ of_z w64 x) × (of_z w64 x ≤ 3) → ⊥) → outside (pos 1) (pos 3) x ≡ true
none x n = go (outside (pos 1) (pos 3) x) refl
  where
    go : (t : Bool) → outside (pos 1) (pos 3) x ≡ t → outside (pos 1) (pos 3) x ≡ true
    go true e = e
    go false e = absurd (n (between x (outside_false (pos 1) (pos 3) x e)))

pub returns-in_default : goal.returns-in_default
returns-in_default c = (to_z-of_z w64 c.args.number c.ranges.number, none c.args.number (λ w. omega arith))
