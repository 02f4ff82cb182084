-- The outcome of a test, and tests in order (paper 01, "Why a month comes back").
use Rattle.std.specs.Prelude.{ℕ, suc, ◌≡◌, Bool, true, false, List, [], ◌∷◌}

-- nothing stands against the call, or it is refused with a number and a place
pub data Verdict : Type 0 where
  accepted : Verdict
  refused : ℕ → ℕ → Verdict

-- refused with this number and place where the test holds
abbrev pub when : Bool → ℕ → ℕ → Verdict
when true n p = refused n p
when false n p = accepted

-- the first of two tests that refuses
infixr 5 ◌then◌
abbrev pub ◌then◌ : Verdict → Verdict → Verdict
accepted then v = v
refused n p then v = refused n p

-- what is claimed of a call, by the verdict on it: one thing of an accepted call, another of one refused with number n and place p
pub record ByVerdict (v : Verdict) (done : Type 0) (back : ℕ → ℕ → Type 0) : Type 0 where
  pub where_accepted : v ≡ accepted → done
  pub where_refused : (n p : ℕ) → v ≡ refused n p → back n p

-- one test of each line in turn, which is given the line's position, counted from k
unfoldable pub each_line : {A : Type 0} → (ℕ → A → Verdict) → ℕ → List A → Verdict
each_line test k [] = accepted
each_line test k (x ∷ xs) = test k x then each_line test (suc k) xs
