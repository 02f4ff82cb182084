-- The cell of row i and column j lies in the table.
use Rattle.std.proofs.Common.{arith}
use Rattle.cells.specs.Marks.{below}
use Rattle.cells.specs.Kept.{kept_then, kept_mark}
use Rattle.cells.proofs.marks.Marking.take.Goals as goal
use Rattle.cells.proofs.marks.Marking.take.Goals.{then-self-j+then-self-i-eq-BROKEN+then-self-i-gt0, else-self-j}

pub loop-j-preserved : goal.loop-j-preserved
loop-j-preserved c =
    let k = c.loop-j.invariant in
    elim c.if-self-j.branch [
      | then-self-j+then-self-i-eq-BROKEN+then-self-i-gt0 w ↦
          rw w.self-is
          (kept_then k
          (kept_mark _ _ _ c.args.i c.loop-j.j c.requires.0 c.loop-j-test.true
          (omega (arith, below c.requires.0 c.loop-j-test.true, c.args.self.now.grid, k.cells)) (omega (arith, k.tall))
          (omega (arith, k.wide)) w.if-self-i-eq-BROKEN.true w.if-self-i-gt0.true (omega (arith, w.if-self-j.true, c.requires.1))))
      | else-self-j w ↦ rw w.self-is k
    ]
