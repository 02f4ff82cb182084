-- Assumes nothing.
use Rattle.std.proofs.Common.{arith}
use borrow.Author.Rules.{rules}
use borrow.Author.Tests.{lt-ltb}
use Rattle.monthfile.proofs.Checking.{place_small}
use Rattle.rateio_c.proofs.rateio_check.Goals as goal

pub overflow_cast-result : goal.overflow_cast-result
overflow_cast-result c =
    let e = rw c.in-Err-At.field-0-is at c.in-Err-At.ensures in
    let l = place_small _ _ e in
    search rules

pub returns-in-Err-At : goal.returns-in-Err-At
returns-in-Err-At c =
    let e = rw c.in-Err-At.field-0-is at c.in-Err-At.ensures in
    let l = place_small _ _ e in
    rw (lt-ltb c.in-Err-At.place 9_223_372_036_854_775_808 (omega arith)) e
