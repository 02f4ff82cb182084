-- Each line is stored in its turn. Assumes nothing.
use Rattle.monthfile.proofs.ReadSteps.{Block}
use Rattle.monthfile.proofs.cursor.Cursor.read_lines.Given as goal

abbrev pub invariant-loop-count : goal.invariant-loop-count
invariant-loop-count g l = Block g.L.Line.of g.row.N l.initial.lines l.initial.self l.self l.count l.lines
