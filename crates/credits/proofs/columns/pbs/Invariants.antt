-- The loop writes the column from its start.
use Rattle.ints.specs.Fill.{Filling}
use Rattle.rules.specs.Credits.{pbs}
use Rattle.credits.proofs.columns.pbs.Given as goal

abbrev pub invariant-loop-i : goal.invariant-loop-i
invariant-loop-i l = Filling (pbs l.agents) l.initial.out l.out l.i
