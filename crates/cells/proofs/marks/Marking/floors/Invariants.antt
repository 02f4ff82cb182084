-- Row by row; the rows below i are done.
use Rattle.cells.specs.Floors.{Rowed}
use Rattle.cells.proofs.marks.Marking.floors.Given as goal

abbrev pub invariant-loop-i : goal.invariant-loop-i
invariant-loop-i l = Rowed l.vc l.debits l.w l.cells l.self.marks.now l.self.lacks.now l.self.wants.now l.lefts l.i
