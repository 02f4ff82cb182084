-- The laws of `Turns` at what the struct holds.
use Rattle.std.proofs.Common.{◌<◌, false, slice_set, ◌∙◌, arith, rules, length-set}
use Rattle.cells.specs.Marks.{below}
use Rattle.cells.specs.Turns.{row_now, row_start, row_skip, row_miss, row_wants, row_less, row_hit, row_last}
use Rattle.cells.specs.Turns.{col_start, col_skip, col_miss, col_less, col_hit, col_last}
use Rattle.cells.specs.Searching.{opened, width, cells_long, rows, columns, length-opened, opened-set, opened_on, opened_off, still_then}
use Rattle.cells.proofs.search.Search.+visit.Goals as goal
use Rattle.cells.proofs.search.Search.+visit.Goals.{visit_column-else-self-i-via-then-self-i+then-self-i-eq-MARKED+else-visit_row}
use Rattle.cells.proofs.search.Search.+visit.Goals.{visit_column-else-self-i-via-then-self-i+else-self-i-eq-MARKED}
use Rattle.cells.proofs.search.Search.+visit.Goals.{visit_column-else-self-i-via-else-self-i}
use Rattle.cells.proofs.search.Search.+visit.Goals.{visit_row-else-self-j-via-then-self-j+then-self-i-eq-BROKEN+else-visit_column}
use Rattle.cells.proofs.search.Search.+visit.Goals.{visit_row-else-self-j-via-then-self-j+else-self-i-eq-BROKEN}
use Rattle.cells.proofs.search.Search.+visit.Goals.{visit_row-else-self-j-via-else-self-j}

-- ---- a column
pub visit_column-loop-i-init : goal.visit_column-loop-i-init
visit_column-loop-i-init t c =
    let s = c.args.self.now in (
      search rules,
      rw (opened-set s.open_columns.now c.args.j)
          (col_start s.table.marks.now s.table.wants.now (rows s) (slice_set (columns s) c.args.j 0) c.args.j (length-opened s.open_rows.now)
          (length-set (columns s) c.args.j 0 ∙ length-opened s.open_columns.now)),
    )

pub visit_column-visit_row-requires : goal.visit_column-visit_row-requires
visit_column-visit_row-requires t c =
    let s = c.args.self.now in
    let I = c.loop-i.invariant in
    let on = opened_on s.open_columns.now c.args.j c.requires.0 c.requires.1 in (
      omega (arith, c.decreases, col_less (columns s) c.args.j (length-opened s.open_columns.now) c.requires.0 on c.loop-i.i I.1),
      (omega (arith, c.loop-i-test.true, I.0.rows), c.if-self-i.true),
    )

pub visit_column-returns-then-visit_row : goal.visit_column-returns-then-visit_row
visit_column-returns-then-visit_row t c =
    let j = c.args.j in
    let s = c.args.self.now in
    let l = c.loop-i in
    let I = l.invariant in
    let v = c.visit_row in
    let k = still_then I.0 v.ensures.0 in (
      search rules,
      col_hit (columns s) j (length-opened s.open_columns.now) c.requires.0 (opened_on s.open_columns.now j c.requires.0 c.requires.1) l.i I.1
          v.result
          c.loop-i-test.true
          (omega (arith, below c.loop-i-test.true c.requires.0, cells_long s, k.cells))
          c.if-self-i-eq-MARKED.true
          (opened_on l.self.open_rows.now l.i (omega (arith, c.loop-i-test.true, I.0.rows)) c.if-self-i.true)
          (rw (I.0.rows, I.0.columns) at v.ensures.1)
          c.if-visit_row.true,
    )

pub visit_column-loop-i-preserved : goal.visit_column-loop-i-preserved
visit_column-loop-i-preserved t c =
    let j = c.args.j in
    let l = c.loop-i in
    let I = l.invariant in
    let h = c.loop-i-test.true in
    elim c.else-self-i.branch [
      | visit_column-else-self-i-via-then-self-i+then-self-i-eq-MARKED+else-visit_row w ↦
          let v = w.visit_row in
          let k = still_then I.0 v.ensures.0 in
          rw w.self-is (
            k,
            col_miss j l.i I.1 h v.result (rw (I.0.rows, I.0.columns) at v.ensures.1) w.if-visit_row.false (length-opened _ ∙ k.rows) (length-opened _
                ∙ k.columns),
          )
      | visit_column-else-self-i-via-then-self-i+else-self-i-eq-MARKED w ↦
          rw w.self-is (I.0, col_skip j l.i I.1 h (λ e. absurd (w.if-self-i-eq-MARKED.false e)))
      | visit_column-else-self-i-via-else-self-i w ↦
          rw w.self-is
          (I.0, col_skip j l.i I.1 h (λ e. opened_off l.self.open_rows.now l.i (omega (arith, h, I.0.rows)) w.if-self-i.false))
    ]

pub visit_column-returns : goal.visit_column-returns
visit_column-returns t c =
    let s = c.args.self.now in
    let I = c.loop-i.invariant in
    let on = opened_on s.open_columns.now c.args.j c.requires.0 c.requires.1 in (
      I.0,
      col_last (columns s) c.args.j (length-opened s.open_columns.now) c.requires.0 on c.loop-i.i I.1 c.loop-i-test.false c.requires.2,
    )

-- ---- a row
pub visit_row-returns-in-Some : goal.visit_row-returns-in-Some
visit_row-returns-in-Some t c =
    let i = c.args.i in
    let s = c.args.self.now in
    let j = c.in-Some.j in (
      search rules,
      row_now i j (cells_long s) s.wide c.requires.0 (opened_on s.open_rows.now i c.requires.0 c.requires.1) c.in-Some.ensures
          (opened (slice_set s.open_rows.now i false)),
    )

pub visit_row-loop-j-init : goal.visit_row-loop-j-init
visit_row-loop-j-init t c =
    let s = c.args.self.now in (
      search rules,
      rw (opened-set s.open_rows.now c.args.i)
          (row_start s.table.marks.now s.table.wants.now (slice_set (rows s) c.args.i 0) (columns s) c.args.i
          (length-set (rows s) c.args.i 0 ∙ length-opened s.open_rows.now) (length-opened s.open_columns.now)),
    )

pub visit_row-visit_column-requires : goal.visit_row-visit_column-requires
visit_row-visit_column-requires t c =
    let i = c.args.i in
    let s = c.args.self.now in
    let l = c.loop-j in
    let I = l.invariant in
    let h : l.j < width l.self = omega (arith, c.loop-j-test.true, I.0.columns) in
    let on = opened_on s.open_rows.now i c.requires.0 c.requires.1 in (
      omega (arith, c.decreases, row_less (rows s) i (length-opened s.open_rows.now) c.requires.0 on l.j I.1),
      (
        h,
        c.if-self-j.true,
        row_wants i l.j I.1 c.loop-j-test.true (rw c.in_default.is at c.most_wanting.ensures) c.if-self-i-eq-BROKEN.true
            (opened_on l.self.open_columns.now l.j h c.if-self-j.true),
      ),
    )

pub visit_row-returns-then-visit_column : goal.visit_row-returns-then-visit_column
visit_row-returns-then-visit_column t c =
    let i = c.args.i in
    let s = c.args.self.now in
    let l = c.loop-j in
    let I = l.invariant in
    let v = c.visit_column in
    let k = still_then I.0 v.ensures.0 in (
      search rules,
      row_hit (rows s) i (length-opened s.open_rows.now) c.requires.0 (opened_on s.open_rows.now i c.requires.0 c.requires.1) l.j I.1 v.result
          c.loop-j-test.true
          (omega (arith, below c.requires.0 c.loop-j-test.true, cells_long s, k.cells))
          c.if-self-i-eq-BROKEN.true
          (opened_on l.self.open_columns.now l.j (omega (arith, c.loop-j-test.true, I.0.columns)) c.if-self-j.true)
          (rw (I.0.rows, I.0.columns) at v.ensures.1)
          c.if-visit_column.true,
    )

pub visit_row-loop-j-preserved : goal.visit_row-loop-j-preserved
visit_row-loop-j-preserved t c =
    let i = c.args.i in
    let l = c.loop-j in
    let I = l.invariant in
    let h = c.loop-j-test.true in
    elim c.else-self-j.branch [
      | visit_row-else-self-j-via-then-self-j+then-self-i-eq-BROKEN+else-visit_column w ↦
          let v = w.visit_column in
          let k = still_then I.0 v.ensures.0 in
          rw w.self-is (
            k,
            row_miss i l.j I.1 h v.result (rw (I.0.rows, I.0.columns) at v.ensures.1) w.if-visit_column.false (length-opened _ ∙ k.rows) (length-opened _
                ∙ k.columns),
          )
      | visit_row-else-self-j-via-then-self-j+else-self-i-eq-BROKEN w ↦
          rw w.self-is (I.0, row_skip i l.j I.1 h (λ e. absurd (w.if-self-i-eq-BROKEN.false e)))
      | visit_row-else-self-j-via-else-self-j w ↦
          rw w.self-is
          (I.0, row_skip i l.j I.1 h (λ e. opened_off l.self.open_columns.now l.j (omega (arith, h, I.0.columns)) w.if-self-j.false))
    ]

pub visit_row-returns : goal.visit_row-returns
visit_row-returns t c =
    let s = c.args.self.now in
    let I = c.loop-j.invariant in
    let on = opened_on s.open_rows.now c.args.i c.requires.0 c.requires.1 in (
      I.0,
      row_last (rows s) c.args.i (length-opened s.open_rows.now) c.requires.0 on c.loop-j.j I.1 c.loop-j-test.false,
    )
