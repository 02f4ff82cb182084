use Rattle.cells.specs.Visit.{FreeInv}
use Rattle.cells.specs.Searching.{width, columns}
use Rattle.cells.proofs.search.Search.most_wanting.Given as goal

abbrev pub invariant-loop-j : goal.invariant-loop-j
invariant-loop-j l = FreeInv (width l.self) l.self.table.marks.now l.self.table.wants.now (columns l.self) l.i l.best l.most l.j
