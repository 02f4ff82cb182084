-- Row by row, every total is kept.
use Rattle.cells.specs.Marking.{KeepsTotals}
use Rattle.cells.proofs.marks.Marking.deal.Given as goal

abbrev pub invariant-loop-i : goal.invariant-loop-i
invariant-loop-i l = KeepsTotals l.initial.self l.self
