-- The loop finds each entry as it was, and writes the sum.
use Rattle.ints.specs.Adding.{sums}
use Rattle.ints.specs.Fill.{Filling}
use Rattle.ints.proofs.add_by.Given as goal

abbrev pub invariant-loop-i : goal.invariant-loop-i
invariant-loop-i g l = Filling (sums g.of l.initial.out l.lines) l.initial.out l.out l.i
