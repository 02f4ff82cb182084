use Rattle.std.proofs.Common.{◌*◌, length, refl, to_z-of_z, w64, SFits, rules}
use Rattle.ints.specs.Words.{back}
use Rattle.ints.specs.Rest.{quot_is, rest_is}
use Rattle.cells.specs.Rows.{RowAsks, row_start, row_more}
use Rattle.cells.proofs.marks.Marking.floor_row.Goals as goal

pub loop-j-init : goal.loop-j-init
loop-j-init c = rw (to_z-of_z c.ranges.v) (row_start c.requires.1, refl)

pub loop-j-preserved : goal.loop-j-preserved
loop-j-preserved c =
    let s = c.args in
    let t = s.self.now in
    let f = c.at-cell in
    let split = rw (c.of-rate.ensures.amount, c.of-rate.ensures.w) at f.ensures in
    let I = c.loop-j.invariant in
    let a : RowAsks (back s.v) s.debits.now s.w s.cells.now t.marks.now t.wants.now s.lefts.now (s.i * length s.debits.now) =
    rw (to_z-of_z c.ranges.v) c.requires.1 in
    let g : SFits w64 f.result.quot = search rules in
    let column = c.add.ensures in
    let row = c.add-lacks.ensures in
    rw (to_z-of_z g, column.1, row.1) (
      row_more a I.0 c.loop-j-test.true f.result.quot f.result.rem (quot_is split) (rest_is split) c.state.result
          c.state.ensures c.add.result column.0 c.add-lacks.result row.0,
      I.1,
    )
