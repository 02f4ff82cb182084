-- The reader keeps its text, and goes on in it.
use Rattle.std.proofs.Common.{◌≡◌, length, ◌-◌}
use Rattle.runs.proofs.files.each_file.Given as goal

abbrev pub invariant-loop-month : goal.invariant-loop-month
invariant-loop-month g l = l.reader.text.now ≡ l.text

abbrev pub decreases-loop-month : goal.decreases-loop-month
decreases-loop-month g l = length l.text - l.reader.at
