-- The loop writes each point's row from the slice's start.
use Rattle.std.proofs.Common.{map}
use Rattle.ints.specs.Fill.{Filling}
use Rattle.statement.specs.Statement.{point_row}
use Rattle.statement.proofs.points.rows.Given as goal

abbrev pub invariant-loop-i : goal.invariant-loop-i
invariant-loop-i l = Filling (map (point_row l.users) l.points) l.initial.out l.out l.i
