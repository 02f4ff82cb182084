-- A cursor: what is scanned or read on is the text from its place on. Assumes nothing.
use Rattle.std.specs.Prelude.{ℕ, ◌+◌, ◌≡◌, Bool, true, false, List, [], ◌∷◌, eqb, take, drop}
use Rattle.std.specs.List.{prefix_len}
use Rattle.format.specs.Bytes.{m, is_digit, is_lead}
use Rattle.monthfile.specs.declared.cursor.Cursor.{Cursor}

-- the text from the cursor's place on
abbrev pub rest : Cursor → List ℕ
rest c = drop c.at c.text.now

-- d is c so many bytes on
pub record Passed (c d : Cursor) (n : ℕ) : Type 0 where
  pub at : d.at ≡ c.at + n
  pub text : d.text ≡ c.text

-- this byte comes first
abbrev pub byte_here : ℕ → List ℕ → Bool
byte_here b [] = false
byte_here b (x ∷ t) = eqb x b

-- a digit but 0 comes first
abbrev pub lead_here : List ℕ → Bool
lead_here [] = false
lead_here (b ∷ t) = is_lead b

-- a file may end before this: nothing, or an `m`
abbrev pub file_ends : List ℕ → Bool
file_ends [] = true
file_ends (b ∷ t) = eqb b m

-- how many digits come first, at most so many
abbrev pub digits_here : ℕ → List ℕ → ℕ
digits_here most t = prefix_len is_digit (take most t)
