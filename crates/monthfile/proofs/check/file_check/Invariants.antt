-- Each file read leads to the check of what is left. Assumes nothing.
use Rattle.std.proofs.Common.{◌-◌, length}
use Rattle.monthfile.proofs.Checking.{Same}
use Rattle.monthfile.proofs.check.file_check.Given as goal

abbrev pub invariant-loop-at : goal.invariant-loop-at
invariant-loop-at l = Same l.text l.at

abbrev pub decreases-loop-at : goal.decreases-loop-at
decreases-loop-at l = length l.text - l.at
