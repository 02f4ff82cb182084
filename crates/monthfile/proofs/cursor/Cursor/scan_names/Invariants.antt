-- Each byte must be the names' next. Assumes nothing.
use Rattle.std.proofs.Common.{drop}
use Rattle.monthfile.specs.Passing.{Leads, at_names}
use Rattle.monthfile.proofs.cursor.Cursor.scan_names.Given as goal

abbrev pub invariant-loop-byte : goal.invariant-loop-byte
invariant-loop-byte l = Leads l.initial.self (at_names l.names) l.self (at_names (drop l.byte-index l.names))
