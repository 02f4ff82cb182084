-- The number of the digits so far. Assumes nothing.
use Rattle.monthfile.proofs.DigitSteps.{SoFar}
use Rattle.monthfile.proofs.cursor.Cursor.read_digits.Given as goal

abbrev pub invariant-loop-byte : goal.invariant-loop-byte
invariant-loop-byte l = SoFar l.initial.self l.self l.byte-index l.number
