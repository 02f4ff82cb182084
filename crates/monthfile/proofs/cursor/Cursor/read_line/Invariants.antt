-- Each value is stored in its turn. Assumes nothing.
use Rattle.monthfile.proofs.ReadSteps.{Row}
use Rattle.monthfile.proofs.cursor.Cursor.read_line.Given as goal

abbrev pub invariant-loop-i : goal.invariant-loop-i
invariant-loop-i g l = Row l.initial.self l.self g.row.N l.i l.value-items
