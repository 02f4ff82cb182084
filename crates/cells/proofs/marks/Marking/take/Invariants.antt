-- Each mark keeps every total.
use Rattle.cells.specs.Marking.{KeepsTotals}
use Rattle.cells.proofs.marks.Marking.take.Given as goal

abbrev pub invariant-loop-j : goal.invariant-loop-j
invariant-loop-j l = KeepsTotals l.initial.self l.self
