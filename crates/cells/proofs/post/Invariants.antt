use Rattle.cells.specs.Finish.{Posted}
use Rattle.cells.proofs.post.Given as goal

abbrev pub invariant-loop-i : goal.invariant-loop-i
invariant-loop-i l = Posted l.initial.cells l.table.marks.now l.cells l.i
