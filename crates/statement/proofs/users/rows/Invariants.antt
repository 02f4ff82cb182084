-- The loop writes each user's row from the slice's start.
use Rattle.ints.specs.Fill.{Filling}
use Rattle.statement.specs.Columns.{user_rows_by}
use Rattle.statement.proofs.users.rows.Given as goal

abbrev pub invariant-loop-i : goal.invariant-loop-i
invariant-loop-i l = Filling (user_rows_by l.users l.columns) l.initial.out l.out l.i
