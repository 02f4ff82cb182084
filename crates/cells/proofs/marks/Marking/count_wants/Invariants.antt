-- No count is above the number of columns that were looked at.
use Rattle.std.proofs.Common.{ℕ, ◌≤◌, length, get_or}
use Rattle.cells.proofs.marks.Marking.count_wants.Given as goal

abbrev pub invariant-loop-want : goal.invariant-loop-want
invariant-loop-want l = (k : ℕ) → get_or l.counts k 0 ≤ length l.yielded
