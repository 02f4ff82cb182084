-- The loop writes each agent's row from the slice's start.
use Rattle.ints.specs.Fill.{Filling}
use Rattle.statement.specs.Statement.{agent_rows_of}
use Rattle.statement.proofs.payees.rows.Given as goal

abbrev pub invariant-loop-i : goal.invariant-loop-i
invariant-loop-i l = Filling (agent_rows_of l.payees.last l.payees.line.month l.vmant l.vc l.payees.agents.now) l.initial.out l.out l.i
