use Rattle.std.proofs.Common.{◌<◌, length, arith}
use Rattle.cells.specs.Visit.{free_pass, free_better}
use Rattle.cells.specs.Searching.{opened_on, opened_off}
use Rattle.cells.proofs.search.Search.most_wanting.Goals as goal
use Rattle.cells.proofs.search.Search.most_wanting.Goals.{then-want-most+then-self-i-eq-BROKEN+then-self-j, else-want-most}
use Rattle.cells.proofs.search.Search.most_wanting.Goals.{else-want-most-via-then-want-most+then-self-i-eq-BROKEN+else-self-j}
use Rattle.cells.proofs.search.Search.most_wanting.Goals.{else-want-most-via-then-want-most+else-self-i-eq-BROKEN, else-want-most-via-else-want-most}

pub loop-j-preserved : goal.loop-j-preserved
loop-j-preserved c =
    let columns = c.args.self.now.open_columns.now in
    let j = c.loop-j.j in
    let I = c.loop-j.invariant in
    let h : j < length columns = omega (arith, c.loop-j-test.true, c.args.self.now.wide) in
    elim c.if-want-most.branch [
      | then-want-most+then-self-i-eq-BROKEN+then-self-j w ↦
          rw (w.best-is, w.most-is) (free_better I h w.if-want-most.true w.if-self-i-eq-BROKEN.true (opened_on columns j h w.if-self-j.true))
      | else-want-most w ↦
          rw (w.best-is, w.most-is) (free_pass I h (λ a b. elim w.else-want-most.branch [
            | else-want-most-via-then-want-most+then-self-i-eq-BROKEN+else-self-j v ↦ omega (arith, b, opened_off columns j h v.if-self-j.false)
            | else-want-most-via-then-want-most+else-self-i-eq-BROKEN v ↦ absurd (v.if-self-i-eq-BROKEN.false a)
            | else-want-most-via-else-want-most v ↦ omega (arith, v.if-want-most.false)
          ]))
    ]
