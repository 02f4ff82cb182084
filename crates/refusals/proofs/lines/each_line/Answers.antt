-- What the test tells of line i is the verdict on it: the next lines are looked at only where it is accepted.
use Rattle.std.proofs.Common.{◌≡◌, ◌+◌, Err, sym, ap, ◌∙◌, rules, arith}
use Rattle.rules.specs.Answers.{verdict_of}
use Rattle.rules.proofs.Turns.{none_past, line_refused, line_past, all_past}
use Rattle.refusals.proofs.lines.each_line.Goals as goal

pub loop-i-init : goal.loop-i-init
loop-i-init g c = none_past _ _

pub returns : goal.returns
returns g c = sym (all_past _ _ c.loop-i-test.false c.loop-i.invariant)

pub loop-i-preserved : goal.loop-i-preserved
loop-i-preserved g c =
    let tested = c.requires.1.1.1 _ _ _ c.test.ensures ∙ ap (g.verdict (c.loop-i.i + 1)) c.index-lines-i.is in
    line_past _ _ c.index-lines-i.result (omega arith) c.loop-i.invariant (sym tested ∙ ap verdict_of (c.in_ok-test.was))

pub returns-in_err-test : goal.returns-in_err-test
returns-in_err-test g c =
    let tested = c.requires.1.1.1 _ _ _ c.test.ensures ∙ ap (g.verdict (c.loop-i.i + 1)) c.index-lines-i.is in
    let same : c.from_residual.result ≡ Err c.in_err-test.field-0.0 = search rules in
    ap verdict_of same ∙ sym (line_refused _ _ c.index-lines-i.result (omega arith) c.loop-i.invariant (sym tested ∙ ap verdict_of c.in_err-test.was))
