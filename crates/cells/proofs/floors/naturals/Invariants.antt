-- What was written so far, and its sum.
use Rattle.cells.specs.Naturals.{Naturals}
use Rattle.cells.proofs.floors.naturals.Given as goal

abbrev pub invariant-loop-j : goal.invariant-loop-j
invariant-loop-j l = Naturals l.vd l.initial.debits l.debits l.j l.sum
