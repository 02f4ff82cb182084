-- What the credits of a month's payees ask of the sum of its debits, the last closed month, its month line and its agent lines: no more than the tests of
-- closing tell (proofs/Tested).
use Rattle.std.specs.Prelude.{◌≡◌, List, ℤ, pos, ◌<ℤ◌}
use Rattle.ints.specs.Range.{Within}
use Rattle.ints.specs.Sums.{sum_ℤ}
use Rattle.rules.specs.declared.MonthLine.{MonthLine}
use Rattle.rules.specs.Most.{most_debits}
use Rattle.rules.specs.declared.Agent.{Agent}
use Rattle.rules.specs.Ranges.{Amount, MonthAfter}
use Rattle.rules.specs.Credits.{SMSEFrom, pbs, VMANTsFrom, agent_VCs_from}
use Rattle.credits.specs.Columns.{AgentLines}

-- debits are at most what 1,024 points and 512 corrections come to
pub record Payable (debits last : ℤ) (line : MonthLine) (agents : List Agent) : Type 0 where
  pub months : MonthAfter last line.month
  pub fee : Amount line.ons
  pub owed : Within (pos 0) (pos most_debits) debits
  pub lines : AgentLines agents
  pub weighed : pos 0 <ℤ sum_ℤ (pbs agents)

-- what working them out answers and leaves in its slices: the balance, the weights, each agent's part of the balance, its credit
pub record AgentCredits (debits last : ℤ) (line : MonthLine) (agents : List Agent) (balance : ℤ) (pb vmant vc : List ℤ) : Type 0 where
  pub SMSE : balance ≡ SMSEFrom debits last line agents
  pub weights : pb ≡ pbs agents
  pub VMANTs : vmant ≡ VMANTsFrom debits last line agents
  pub VCs : vc ≡ agent_VCs_from debits last line agents
