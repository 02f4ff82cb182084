-- The loop adds up the entries, each small enough that no part's sum leaves 64 bits.
use Rattle.ints.specs.Adding.{Added}
use Rattle.ints.proofs.total.Given as goal

abbrev pub invariant-loop-x : goal.invariant-loop-x
invariant-loop-x l = Added l.amounts l.sum l.x-index
