-- The file check's answer. Assumes nothing.
use Rattle.std.specs.Prelude.{ℕ, ℤ, pos, negsuc, Result, Ok, Err}
use Rattle.format.specs.declared.Fault.{Fault}
use Rattle.format.specs.declared.Fault.TheVariants.{Faulty, Full}
use Rattle.monthfile.specs.declared.check.NotFiles.{NotFiles}
use Rattle.monthfile.specs.declared.check.NotFiles.TheVariants.{At, TooLong}

-- as the number of paper 01: −1 for files on end, else the place of the 11; −2 for a text over 10^15 bytes
abbrev pub seen : Result Unit NotFiles → ℤ
seen (Ok u) = negsuc 0
seen (Err (At p)) = pos p
seen (Err TooLong) = negsuc 1

-- the byte at which a file comes back
abbrev pub place : Fault → ℕ
place (Faulty p) = p
place (Full p) = p
