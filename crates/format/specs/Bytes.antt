-- Bytes, and quoted text as bytes, so that these pages show a month file as paper 01 prints it. Assumes nothing.
use Rattle.std.specs.Prelude.{ℕ, ◌≤◌, ◌<◌, ◌≡◌, refl, ◌↔◌, Bool, true, false, ◌&&◌, ◌||◌, List, [], ◌∷◌, leb, ltb, eqb}
use Prim.Native.Char.{code}
use Prim.Native.String.{String, [] as nothing, ◌∷◌ as ◌then◌}
use Rattle.std.proofs.lemmas.Bool.{false≢true}
use Rattle.std.proofs.Common.{leb-true, ltb-true, le-leb, lt-ltb}

-- the bytes of a quoted text
abbrev pub bytes : String → List ℕ
bytes nothing = []
bytes (c then s) = code c ∷ bytes s

-- "Values are parted by commas, lines end in LF" (paper 01, "The month file")
abbrev pub comma : ℕ
comma = 44

abbrev pub lf : ℕ
lf = 10

abbrev pub cr : ℕ
cr = 13

-- what ends a line: LF, or "CR LF, which is now read as LF, also mixed with LF" (paper 02, Q-3)
pub data LineEnd : Type 0 where
  LF : LineEnd
  CRLF : LineEnd

abbrev pub line_end : LineEnd → List ℕ
line_end LF = lf ∷ []
line_end CRLF = cr ∷ lf ∷ []

-- "one minus sign (byte 2D hexadecimal)"
abbrev pub minus : ℕ
minus = 0x2d

-- "a byte `m`, with which a further file begins"
abbrev pub m : ℕ
m = 109

-- a digit, as a test and in words
abbrev pub is_digit : ℕ → Bool
is_digit b = leb 48 b && ltb b 58

pub record Digit (b : ℕ) : Type 0 where
  pub low : 48 ≤ b
  pub high : b < 58

pub is_digit_lem : (b : ℕ) → (is_digit b ≡ true) ↔ Digit b
is_digit_lem b = (λ e. words (leb 48 b) (ltb b 58) refl refl e, λ d. rw (le-leb 48 b d.low, lt-ltb b 58 d.high))
  where
    words : (p q : Bool) → leb 48 b ≡ p → ltb b 58 ≡ q → (p && q) ≡ true → Digit b
    words true true x y e = record { low = leb-true 48 b x; high = ltb-true b 58 y }
    words true false x y e = absurd (false≢true e)
    words false q x y e = absurd (false≢true e)

-- a digit but 0
abbrev pub is_lead : ℕ → Bool
is_lead b = leb 49 b && ltb b 58

-- "a line of values begins at a digit or minus sign" (paper 01, "Why a month comes back")
abbrev pub starts_line : ℕ → Bool
starts_line b = eqb b minus || is_digit b
