-- Each value before the last has its comma, and the last the line's end. Assumes nothing.
use Rattle.std.proofs.Common.{◌-◌}
use Rattle.format.specs.Machine.{fresh, value}
use Rattle.monthfile.specs.Passing.{Leads}
use Rattle.monthfile.proofs.cursor.Cursor.scan_line.Given as goal

abbrev pub invariant-loop : goal.invariant-loop
invariant-loop l = Leads l.initial.self (value fresh l.commas) l.self (value fresh (l.commas - l.counter))
