-- What the tests tell: the month that `%` gives, the line of a user's number, and a number that is no kind's.
use Prim.Native.Nat.{ℕ, zero, suc, ◌<◌, ◌≤◌}
use mathlib.Core.Path.{◌≡◌, refl, sym, ap, ◌∙◌}
use mathlib.Core.Bool.{true, false, true≢false}
use mathlib.Core.List.{List, []}
use lib.IntN.{ℤ, pos, negsuc, ◌-ℤ◌}
use lib.ListN.{length, get_or, get_or-eq_default}
use lib.Signed.{rem_z, ◌≤ℤ◌}
use Rattle.std.specs.Prelude.{Option, Some, None, MatchOption}
use Rattle.std.specs.Borrow.{Bor}
use Rattle.std.proofs.Common.{arith}
use Rattle.std.proofs.lemmas.Int.{ints}
use Rattle.std.specs.List.{HoldsAt}
use Rattle.ints.specs.Bridge.{za, sub#}
use Rattle.ints.specs.Range.{outside, within_false, eq_z_not}
use Rattle.ints.specs.Words.{rem_floor}
use Rattle.rules.specs.declared.Point.{Point}
use Rattle.rules.specs.declared.User.{User}
use Rattle.rules.specs.Calendar.{month_of_year}
use Rattle.rules.specs.Lines.{user_of, kind_of, unfit_point}
use Rattle.rules.specs.Kinds.{NoKindAt}

-- above 0 the remainder is mm
pub mm : (m : ℤ) → pos 200001 ≤ℤ m → rem_z m (pos 100) ≡ month_of_year m
unfolding month_of_year
mm m h = let z : pos 0 ≤ℤ m = omega za in rem_floor m 100 z

-- no user, and 0 for its kind
pub no_kind : (users : List User) (user : ℤ) → outside (pos 1) (pos (length users)) user ≡ true → kind_of users user ≡ pos 0
unfolding kind_of
no_kind users (pos zero) e = refl
no_kind users (pos (suc k)) e =
    let past : length users ≤ k = unfold outside in grind (arith, ints) in
    rw (kind_of, get_or-eq_default users (user_of []) past) refl
no_kind users (negsuc k) e = refl

-- what is found at the index of a user, which is its number less 1
pub found :
    (users : List User) (user : ℤ) (i : ℕ) (r : Option (Bor User))
    → pos i ≡ user -ℤ pos 1
    → MatchOption r (length users ≤ i) (λ x. (i < length users) × HoldsAt (λ y. x.now ≡ y) users i)
    → MatchOption r (outside (pos 1) (pos (length users)) user ≡ true)
    (λ x. (outside (pos 1) (pos (length users)) user ≡ false) × (x.now.kind ≡ kind_of users user))
unfolding outside kind_of
found users (pos (suc k)) i None e h =
    let same : i ≡ k = omega (za, sub# (pos (suc k)) (pos 1)) in
    grind (arith, ints)
found users (pos (suc k)) i (Some x) e h =
    let same : i ≡ k = omega (za, sub# (pos (suc k)) (pos 1)) in (
      within_false (pos 1) (pos (length users)) (pos (suc k)) (record { above = omega za; below = omega (za, h.0) }),
      ap (λ (u : User). u.kind) (h.1 (user_of [])) ∙ ap (λ (n : ℕ). (get_or users n (user_of [])).kind) same,
    )
found users (pos zero) i r e h = absurd (omega (za, sub# (pos 0) (pos 1)))
found users (negsuc k) i r e h = absurd (omega (za, sub# (negsuc k) (pos 1)))

-- where there is no kind, none of its zeros is asked for
pub fits_no_kind : (number : ℤ) (p : Point) → NoKindAt number → unfit_point number p ≡ false
unfolding unfit_point
fits_no_kind number p e =
    rw (eq_z_not number (pos 3) (other (pos 3) (unfold outside in refl)), eq_z_not number (pos 1) (other (pos 1) (unfold outside in refl)))
  where
    other : (k : ℤ) → outside (pos 1) (pos 3) k ≡ false → number ≡ k → ⊥
    other k h q = true≢false (sym e ∙ ap (outside (pos 1) (pos 3)) q ∙ h)
