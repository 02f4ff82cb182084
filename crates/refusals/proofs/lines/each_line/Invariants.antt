-- The lines before i passed, so that the verdict is that of the rest.
use Rattle.rules.proofs.Turns.{Past}
use Rattle.refusals.proofs.lines.each_line.Given as goal

abbrev pub invariant-loop-i : goal.invariant-loop-i
invariant-loop-i g l = Past g.verdict l.lines l.i
