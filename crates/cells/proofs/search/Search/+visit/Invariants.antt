-- Each visit goes on to visits with less open: what is above 0 in rows and columns falls at every call.
use Rattle.std.proofs.Common.{ℕ, ◌+◌, slice_set}
use Rattle.ints.specs.NatSums.{total}
use Rattle.cells.specs.declared.search.Search.{Search}
use Rattle.cells.specs.Turns.{RowInv, ColInv}
use Rattle.cells.specs.Searching.{height, width, rows, columns, Still}
use Rattle.cells.proofs.search.Search.+visit.Given as goal

abbrev left : Search → ℕ
left s = total (rows s) + total (columns s)

abbrev pub decreases-visit_column : goal.decreases-visit_column
decreases-visit_column l = left l.self.now

abbrev pub decreases-visit_row : goal.decreases-visit_row
decreases-visit_row l = left l.self.now

-- from the visit's entry, of s, to the loop's head, of s'
abbrev InRow : Search → Search → ℕ → ℕ → Type 0
InRow s s' i j = Still s s' × RowInv (height s) (width s) s.table.marks.now s.table.wants.now (slice_set (rows s) i 0) (columns s) i
    s'.table.marks.now s'.table.wants.now (rows s') (columns s') j

abbrev InColumn : Search → Search → ℕ → ℕ → Type 0
InColumn s s' j i = Still s s' × ColInv (height s) (width s) s.table.marks.now s.table.wants.now (rows s) (slice_set (columns s) j 0) j
    s'.table.marks.now s'.table.wants.now (rows s') (columns s') i

abbrev pub invariant-visit_column-loop-i : goal.invariant-visit_column-loop-i
invariant-visit_column-loop-i l = InColumn l.fn.self l.self l.j l.i

abbrev pub invariant-visit_row-loop-j : goal.invariant-visit_row-loop-j
invariant-visit_row-loop-j l = InRow l.fn.self l.self l.i l.j
