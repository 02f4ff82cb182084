-- Assumes nothing.
use Rattle.std.proofs.Common.{arith}
use Rattle.monthfile.proofs.Joining.{then, handed}
use Rattle.monthfile.proofs.BlockSteps.{name_taken, name_missing, names_over}
use Rattle.monthfile.proofs.cursor.Cursor.scan_names.Goals as goal

pub returns-in_err-scan_byte : goal.returns-in_err-scan_byte
returns-in_err-scan_byte c = handed _ _ _ (name_missing _ _ c.loop-byte.invariant (omega arith) c.in_err-scan_byte.ensures) c.from_residual.ensures.1

pub loop-byte-preserved : goal.loop-byte-preserved
loop-byte-preserved c = name_taken _ _ c.loop-byte.invariant (omega arith) c.in_ok-scan_byte.ensures

pub returns : goal.returns
returns c = then _ _ _ (names_over _ _ c.loop-byte.invariant (omega arith)) c.scan_end.ensures
