-- The loop writes each agent's own credit from the slice's start.
use Rattle.std.proofs.Common.{map}
use Rattle.ints.specs.Fill.{Filling}
use Rattle.rules.specs.Credits.{own_credit}
use Rattle.credits.proofs.payees.Payees.own_credits.Given as goal

abbrev pub invariant-loop-i : goal.invariant-loop-i
invariant-loop-i l = Filling (map (own_credit l.due.after l.due.upto) l.self.agents.now) l.initial.out l.out l.i
