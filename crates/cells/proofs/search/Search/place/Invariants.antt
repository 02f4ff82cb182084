use Rattle.cells.specs.Place.{Going}
use Rattle.cells.specs.Searching.{height, width}
use Rattle.cells.proofs.search.Search.place.Given as goal

abbrev pub invariant-loop-i : goal.invariant-loop-i
invariant-loop-i l =
    let s = l.initial.self in
    let t = l.self.table in
    Going (height s) (width s) s.table.marks.now s.table.lacks.now s.table.wants.now t.marks.now t.lacks.now t.wants.now l.i
