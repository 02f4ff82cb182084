-- The first file is the one at the start of the text.
use Rattle.std.proofs.Common.{arith}
use Rattle.runs.proofs.Buffered.{begins_first, begins_later}
use Rattle.runs.proofs.files.begin.Goals as goal
use Rattle.runs.proofs.files.begin.Goals.{then-first+in_ok-open, else-first}

pub returns : goal.returns
returns c =
    let r = c.in_ok-month.ensures in
    record {
      begins = elim c.if-first.branch [
        | then-first+in_ok-open w ↦ begins_first _ _ _ _ _ _ r.reads w.if-first.true (rw w.books-is w.in_ok-open.ensures)
        | else-first w ↦ begins_later _ _ _ _ _ _ r.reads (omega (arith, w.if-first.false)) w.books-is
      ];
      advances = r.advances;
    }
