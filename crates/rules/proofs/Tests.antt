-- A list of tests that refuses nothing: each test in it refused nothing.
use Prim.Native.Nat.{ℕ, zero, suc, ◌+◌, ◌<◌, zero-le, suc-le-suc}
use mathlib.Core.Path.{◌≡◌, refl, sym, ap, ◌∙◌}
use mathlib.Core.Bool.{Bool, true, false, ◌&&◌, true≢false}
use mathlib.Core.List.{List, [], ◌∷◌}
use native.Mathlib.Omega.{arith}
use native.Mathlib.Nat.{not-suc-le-zero, le_of_suc-le-suc}
use lib.ListN.{length, get_or}
use Rattle.rules.specs.Verdict.{Verdict, accepted, refused, when, ◌then◌, each_line}

pub refused_not_accepted : {n p : ℕ} → refused n p ≡ accepted → ⊥
refused_not_accepted e = let z : ◌≡◌ {A = ℕ} 0 1 = cc in omega arith

pub then_accepted : (v w : Verdict) → (v then w) ≡ accepted → (v ≡ accepted) × (w ≡ accepted)
then_accepted accepted w e = (refl, e)
then_accepted (refused n p) w e = absurd (refused_not_accepted e)

pub then_assoc : (u v w : Verdict) → ((u then v) then w) ≡ (u then v then w)
then_assoc accepted v w = refl
then_assoc (refused n p) v w = refl

pub when_accepted : (t : Bool) (n p : ℕ) → when t n p ≡ accepted → t ≡ false
when_accepted true n p e = absurd (refused_not_accepted e)
when_accepted false n p e = refl

-- the first of several tests, and those after it
pub when_then : (t : Bool) (n p : ℕ) (w : Verdict) → (when t n p then w) ≡ accepted → (t ≡ false) × (w ≡ accepted)
when_then true n p w e = absurd (refused_not_accepted e)
when_then false n p w e = (refl, e)

-- an "and" that does not hold
pub and_false : (a b : Bool) → (a && b) ≡ false → a ≡ true → b ≡ false
and_false true b e h = e
and_false false b e h = absurd (true≢false (sym h))

-- each line passes its own test, whose position is counted from k; and the other way round
pub each_accepted :
    {A : Type 0} (test : ℕ → A → Verdict) (k : ℕ) (xs : List A) (d : A)
    → each_line test k xs ≡ accepted
    → (i : ℕ)
    → i < length xs
    → test (k + i) (get_or xs i d) ≡ accepted
unfolding each_line
each_accepted test k [] d e i h = absurd (not-suc-le-zero h)
each_accepted test k (x ∷ xs) d e zero h = ap (λ (n : ℕ). test n x) (omega arith) ∙ (then_accepted (test k x) _ e).0
each_accepted test k (x ∷ xs) d e (suc i) h =
    ap (λ (n : ℕ). test n (get_or xs i d)) (omega arith)
    ∙ each_accepted test (suc k) xs d (then_accepted (test k x) _ e).1 i (le_of_suc-le-suc h)

pub each_accepts :
    {A : Type 0} (test : ℕ → A → Verdict) (k : ℕ) (xs : List A) (d : A)
    → ((i : ℕ) → i < length xs → test (k + i) (get_or xs i d) ≡ accepted)
    → each_line test k xs ≡ accepted
unfolding each_line
each_accepts test k [] d h = refl
each_accepts test k (x ∷ xs) d h =
    let first : test k x ≡ accepted = ap (λ (n : ℕ). test n x) (omega arith) ∙ h 0 (suc-le-suc zero-le) in
    ap (λ (v : Verdict). v then each_line test (suc k) xs) first
    ∙ each_accepts test (suc k) xs d (λ i l. ap (λ (n : ℕ). test n (get_or xs i d)) (omega arith) ∙ h (suc i) (suc-le-suc l))

-- positions from 1, as the lines of a month are counted
pub each_from_1 :
    {A : Type 0} (test : ℕ → A → Verdict) (xs : List A) (d : A)
    → each_line test 1 xs ≡ accepted
    → (i : ℕ)
    → i < length xs
    → test (suc i) (get_or xs i d) ≡ accepted
each_from_1 test xs d e i h = ap (λ (n : ℕ). test n (get_or xs i d)) (omega arith) ∙ each_accepted test 1 xs d e i h
