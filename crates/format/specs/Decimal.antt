-- A value of the month file (paper 01, "The month file"): "A value is 1 to 18 digits, with no leading zero but in 0 itself, after one
-- minus sign if negative; -0 is wrong." First as the text of a whole number, then in those words; proofs/Decimals.antt proves that the
-- two say the same. Assumes nothing.
use Rattle.std.specs.Prelude.{ℕ, zero, suc, ◌+◌, ◌/◌, ◌%◌, ◌≤◌, ◌<◌, ◌≡◌, cond, List, [], ◌∷◌, ◌++◌, ltb, length, ℤ, pos, negsuc}
use Rattle.std.proofs.Common.{lt-ltb, le-ltb}
use Rattle.format.specs.Bytes.{minus, Digit}

-- the last digits of n, at most k of them, with no leading zero but in 0 itself
unfoldable pub shown : ℕ → ℕ → List ℕ
shown zero n = []
shown (suc k) n = cond (ltb n 10) ((48 + n) ∷ []) (shown k (n / 10) ++ ((48 + n % 10) ∷ []))

pub shown_one : (k n : ℕ) → n < 10 → shown (suc k) n ≡ (48 + n) ∷ []
unfolding shown
shown_one k n h = rw (lt-ltb n 10 h)

pub shown_more : (k n : ℕ) → 10 ≤ n → shown (suc k) n ≡ shown k (n / 10) ++ ((48 + n % 10) ∷ [])
unfolding shown
shown_more k n h = rw (le-ltb n 10 h)

-- a value's text
abbrev pub text : ℤ → List ℕ
text (pos n) = shown 18 n
text (negsuc n) = minus ∷ shown 18 (suc n)

-- a value that 18 digits hold
abbrev pub Small : ℤ → Type 0
Small (pos n) = n < 1_000_000_000_000_000_000
Small (negsuc n) = suc n < 1_000_000_000_000_000_000

-- every element of a list
abbrev pub All : {A : Type 0} → (A → Type 0) → List A → Type 0
All P [] = Unit {0}
All P (x ∷ xs) = P x × All P xs

-- 1 to 18 digits, the first of them not 0
pub record Numeral (t : List ℕ) : Type 0 where
  pub first : ℕ
  pub rest : List ℕ
  pub is : t ≡ first ∷ rest
  pub low : 49 ≤ first
  pub high : first < 58
  pub digits : All Digit rest
  pub short : length rest ≤ 17

-- paper 01's words for a value: 0 itself; digits with no leading zero; the same after one minus sign
pub data Value (t : List ℕ) : Type 0 where
  nought : t ≡ 48 ∷ [] → Value t
  plain : Numeral t → Value t
  below : (u : List ℕ) → t ≡ minus ∷ u → Numeral u → Value t
