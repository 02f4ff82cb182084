-- Each line takes one from the room. Assumes nothing.
use Rattle.std.proofs.Common.{◌-◌}
use Rattle.monthfile.specs.Passing.{Leads, several}
use Rattle.monthfile.proofs.cursor.Cursor.scan_lines.Given as goal

abbrev pub invariant-loop : goal.invariant-loop
invariant-loop l = Leads l.initial.self (several l.room l.commas) l.self (several (l.room - l.counter) l.commas)
