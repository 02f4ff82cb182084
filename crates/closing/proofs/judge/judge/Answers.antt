-- Each group of refusals in turn; the held credits looked at are one for each user of the ledger.
use Rattle.std.proofs.Common.{sym, ap, ◌∙◌}
use lib.Seq.{length-take-le}
use Rattle.rules.specs.Answers.{verdict_of}
use Rattle.closing.proofs.Judging.{stops, order, held_reach, sums_left, weighable, finds}
use Rattle.closing.proofs.judge.judge.Goals as goal

pub returns-in_err-first : goal.returns-in_err-first
returns-in_err-first c short b = stops _ c.from_residual.result c.from_residual.ensures.1 (rw c.in_err-first.was at (order b))

pub state_verdict-requires : goal.state_verdict-requires
state_verdict-requires c = held_reach c.requires.1 (ap verdict_of c.in_ok-first.was)

pub returns-in_err-state_verdict : goal.returns-in_err-state_verdict
returns-in_err-state_verdict c short b =
    stops _ c.from_residual-in_err-state_verdict.result c.from_residual-in_err-state_verdict.ensures.1
    (rw (c.in_ok-first.was, sym c.in_err-state_verdict.ensures) at (order b))

pub returns-in_err-sums : goal.returns-in_err-sums
returns-in_err-sums c short b =
    stops _ c.from_residual-in_err-sums.result c.from_residual-in_err-sums.ensures.1
    (rw (c.in_ok-first.was, sym c.in_ok-state_verdict.ensures, sym c.in_err-sums.ensures.verdict) at (order b))

pub slice_bounds-weighed-end : goal.slice_bounds-weighed-end
slice_bounds-weighed-end c = sym (length-take-le _ _ (held_reach c.requires.1 (ap verdict_of c.in_ok-first.was)))

pub weighed-requires : goal.weighed-requires
weighed-requires c =
    let one = ap verdict_of c.in_ok-first.was in
    (_, weighable c.requires.1 one (sym c.in_ok-state_verdict.ensures) (sym c.in_ok-sums.ensures.verdict) c.in_ok-sums.ensures.found)

pub returns-in_err-bills : goal.returns-in_err-bills
returns-in_err-bills c short b =
    let one = ap verdict_of c.in_ok-first.was in
    let three = sym c.in_ok-state_verdict.ensures in
    let five = sym c.in_ok-sums.ensures.verdict in
    stops _ c.from_residual-in_err-bills.result c.from_residual-in_err-bills.ensures.1
    ((c.in_err-bills.ensures _ (weighable b one three five c.in_ok-sums.ensures.found)).verdict ∙ sums_left b one three five)

pub returns : goal.returns
returns c short b =
    let one = ap verdict_of c.in_ok-first.was in
    let three = sym c.in_ok-state_verdict.ensures in
    let five = sym c.in_ok-sums.ensures.verdict in
    let found = c.in_ok-sums.ensures.found in
    finds b one three five found (c.in_ok-bills.ensures _ (weighable b one three five found))
