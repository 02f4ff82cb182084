-- The loop adds up the entries, each small enough that no part's sum leaves 64 bits.
use Rattle.std.proofs.Common.{map}
use Rattle.ints.specs.Adding.{Added}
use Rattle.ints.proofs.total_by.Given as goal

abbrev pub invariant-loop-x : goal.invariant-loop-x
invariant-loop-x g l = Added (map g.of l.lines) l.sum l.x-index
