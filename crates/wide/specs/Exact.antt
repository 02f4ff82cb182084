-- What the arithmetic on two words answers (paper 01, "Units and arithmetic").
use Rattle.std.specs.Prelude.{ℕ, ◌*◌, ◌/◌, ◌%◌, ◌^◌, cond, ◌==◌, nat_lt, Result, Ok, Err}
use Rattle.wide.specs.declared.Words.{Words}
use Rattle.wide.specs.declared.Divided.{Divided}
use Rattle.wide.specs.declared.NoRatio.{NoRatio}
use Rattle.wide.specs.declared.NoRatio.TheVariants.{Over, ByZero}

-- a number below 2^128 as two words of 64 bits
abbrev pub words : ℕ → Words
words n = record { high = n / 2 ^ 64; low = n % 2 ^ 64 }

-- quotient and remainder of n over d
abbrev pub divided : ℕ → ℕ → Divided ℕ
divided n d = record { quot = n / d; rem = n % d }

-- a × b over c: quotient and remainder, or that c is 0, or that the quotient passes 64 bits
unfoldable pub ratio : ℕ → ℕ → ℕ → Result (Divided ℕ) NoRatio
ratio a b c = cond (c == 0) (Err ByZero) (cond (nat_lt (a * b / c) (2 ^ 64)) (Ok (divided (a * b) c)) (Err Over))
