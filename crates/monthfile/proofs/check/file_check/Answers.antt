-- Assumes nothing.
use Rattle.std.proofs.Common.{ap, sym, ◌∙◌, arith, Ok}
use Rattle.std.proofs.lemmas.Result.{err_from_is_err_and}
use Rattle.format.proofs.FileCheck.{check_over}
use Rattle.monthfile.proofs.Checking.{goes_on_lem, forward, all_read, comes_back}
use Rattle.monthfile.proofs.check.file_check.Goals as goal

pub returns-then-most-gt-LONGEST : goal.returns-then-most-gt-LONGEST
returns-then-most-gt-LONGEST c = sym (check_over _ c.if-most-gt-LONGEST.true)

pub returns-in_err-at : goal.returns-in_err-at
returns-in_err-at c =
    let p = err_from_is_err_and c.from_residual.result c.from_residual.ensures.1 in
    rw p.1 (comes_back _ _ c.loop-at.invariant (omega arith) _ _ (sym c.in_err-at.ensures) p.2)

pub returns-then-at-most : goal.returns-then-at-most
returns-then-at-most c = all_read _ _ c.loop-at.invariant (omega arith) (sym c.in_ok-at.ensures ∙ ap (λ x. Ok x) c.if-at-most.true)

pub loop-at-smaller : goal.loop-at-smaller
loop-at-smaller c = let f = forward _ _ c.loop-at.invariant _ (sym c.in_ok-at.ensures) in omega arith

pub loop-at-preserved : goal.loop-at-preserved
loop-at-preserved c =
    let e = sym c.in_ok-at.ensures in
    let f = forward _ _ c.loop-at.invariant _ e in
    goes_on_lem _ _ c.loop-at.invariant _ e (omega arith)
