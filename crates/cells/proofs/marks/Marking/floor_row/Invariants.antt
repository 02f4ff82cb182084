-- Each turn writes one cell and its mark, and adds the remainder to its column's sum and to the row's. No row's lack is touched.
use Rattle.std.proofs.Common.{◌≡◌}
use Rattle.cells.specs.Rows.{RowGoing}
use Rattle.cells.proofs.marks.Marking.floor_row.Given as goal

abbrev pub invariant-loop-j : goal.invariant-loop-j
invariant-loop-j l =
    RowGoing l.v l.debits l.w l.initial.cells l.initial.self.marks.now l.initial.self.wants.now l.initial.lefts l.base l.cells l.self.marks.now l.self.wants.now
    l.lefts
    l.j
    l.lacks
    l.left
    × (l.self.lacks.now ≡ l.initial.self.lacks.now)
