-- Assumes nothing.
use Rattle.std.proofs.Common.{suc, ◌+◌, ◌-◌, arith}
use Rattle.monthfile.proofs.Joining.{further, later, then, handed}
use Rattle.monthfile.proofs.LineSteps.{one_more, the_last, comma_taken, comma_missing, end_next}
use Rattle.monthfile.proofs.cursor.Cursor.scan_line.Goals as goal

pub returns-in_err-scan_value : goal.returns-in_err-scan_value
returns-in_err-scan_value c =
    handed _ _ _ (later (one_more c.loop.counter c.loop.invariant (omega arith)) (c.in_err-scan_value.ensures _)) c.from_residual.ensures.1

pub returns-in_err-scan_byte : goal.returns-in_err-scan_byte
returns-in_err-scan_byte c =
    let k = c.args.commas - (c.loop.counter + 1) in
    let l = further (one_more c.loop.counter c.loop.invariant (omega arith)) (c.in_ok-scan_value.ensures (suc k)) in
    handed _ _ _ (later l (comma_missing k c.in_err-scan_byte.ensures)) c.from_residual-in_err-scan_byte.ensures.1

pub loop-preserved : goal.loop-preserved
loop-preserved c =
    let k = c.args.commas - (c.loop.counter + 1) in
    let l = further (one_more c.loop.counter c.loop.invariant (omega arith)) (c.in_ok-scan_value.ensures (suc k)) in
    further l (comma_taken k c.in_ok-scan_byte.ensures)

pub returns-in_err-scan_value-2 : goal.returns-in_err-scan_value-2
returns-in_err-scan_value-2 c =
    let l = later (the_last c.loop.counter c.loop.invariant (omega arith)) (c.in_err-scan_value-2.ensures 0) in
    handed _ _ _ l c.from_residual-in_err-scan_value-2.ensures.1

pub returns : goal.returns
returns c =
    let l = further (the_last c.loop.counter c.loop.invariant (omega arith)) (c.in_ok-scan_value-2.ensures 0) in
    then _ _ _ l (end_next _ _ _ c.scan_end.ensures)
