-- Assumes nothing.
use Rattle.std.proofs.Common.{◌≡◌, length, arith}
use Rattle.std.proofs.lemmas.List.{set-get_or}
use Rattle.monthfile.proofs.ReadSteps.{one_more, over, full}
use Rattle.monthfile.proofs.cursor.Cursor.read_lines.Goals as goal

pub returns-then-not-line_here : goal.returns-then-not-line_here
returns-then-not-line_here g c = rw set-get_or (over c.loop-count.invariant (cc))

pub loop-count-preserved : goal.loop-count-preserved
loop-count-preserved g c = one_more c.loop-count.invariant (omega arith) (cc) c.read_line.ensures c.of.ensures

pub returns : goal.returns
returns g c =
    let e : c.loop-count.count ≡ length c.loop-count.lines = omega arith in
    rw (← e) (full c.loop-count.invariant (omega arith))
