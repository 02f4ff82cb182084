-- Each turn reads some bytes more; the buffer keeps its length.
use Rattle.std.proofs.Common.{length, ◌-◌}
use Rattle.runs.proofs.input.read_all.Given as goal

abbrev pub decreases-loop-n : goal.decreases-loop-n
decreases-loop-n g l = length l.initial.buffer - l.n
