use Rattle.std.proofs.Common.{[], sym, ◌∙◌, arith}
use Rattle.std.proofs.lemmas.List.{length-map}
use Rattle.ints.specs.Fill.{filling_more}
use Rattle.rules.specs.Lists.{get_d_map}
use Rattle.rules.specs.Lines.{point_of}
use Rattle.statement.specs.Statement.{point_row}
use Rattle.statement.proofs.points.rows.Goals as goal

pub loop-i-preserved : goal.loop-i-preserved
loop-i-preserved c =
    let r = c.requires in
    filling_more (rw length-map (sym r.1)) c.loop-i.invariant c.row.result (omega (arith, r.1))
    (c.row.ensures ∙ sym (get_d_map (point_row c.args.users.now) c.args.points.now c.loop-i.i (point_of []) c.row.result c.loop-i-test.true))
