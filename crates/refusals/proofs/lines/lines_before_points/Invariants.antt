use Rattle.rules.specs.Refusals.{agent_test, user_test}
use Rattle.refusals.proofs.lines.lines_before_points.Given as goal

abbrev pub ghost-each_line : goal.ghost-each_line
ghost-each_line a = agent_test

abbrev pub ghost-each_line-2 : goal.ghost-each_line-2
ghost-each_line-2 a = user_test
