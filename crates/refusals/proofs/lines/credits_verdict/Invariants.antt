use Rattle.rules.specs.Refusals.{credit_test}
use Rattle.refusals.proofs.lines.credits_verdict.Given as goal

abbrev pub ghost-each_line : goal.ghost-each_line
ghost-each_line a = credit_test
