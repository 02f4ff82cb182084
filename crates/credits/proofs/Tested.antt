-- What closing's tests tell is what the credits ask: tests 1 to 7 for the sums of the agent lines, 8 and 9 for the credits.
use Prim.Native.Nat.{suc, ◌≤◌}
use mathlib.Core.Path.{◌≡◌}
use mathlib.Core.Logic.{◌≢◌}
use mathlib.Core.List.{List, []}
use lib.IntN.{pos}
use lib.ListN.{length}
use lib.Signed.{◌<ℤ◌}
use Rattle.ints.specs.Bridge.{za}
use Rattle.ints.specs.Sums.{sum_ℤ}
use Rattle.rules.specs.Verdict.{accepted, each_line}
use Rattle.rules.specs.declared.Agent.{Agent}
use Rattle.rules.specs.Lines.{Lines, agent_of}
use Rattle.rules.specs.Charges.{EUSTs, pv_total, VDs}
use Rattle.rules.specs.State.{State}
use Rattle.rules.specs.Credits.{pbs}
use Rattle.rules.specs.Refusals.{agent_test}
use Rattle.rules.proofs.Tests.{when_accepted, each_from_1}
use Rattle.rules.proofs.Fits.{agent_fits}
use Rattle.rules.proofs.Passed.{Passed}
use Rattle.rules.proofs.Ranged.{Ranged, ranged_passed}
use Rattle.rules.proofs.BoundsCharges.{charge_bounds}
use Rattle.rules.proofs.BoundsCredits.{credit_bounds}
use Rattle.credits.specs.Columns.{AgentLines}
use Rattle.credits.specs.Payable.{Payable}

-- from the test of the agent lines alone
pub accepted_lines : (agents : List Agent) → length agents ≤ 256 → each_line agent_test 1 agents ≡ accepted → AgentLines agents
accepted_lines agents h e = record {
  few = h;
  line = λ i k. (agent_fits (suc i) _ (when_accepted _ 5 (suc i) (each_from_1 agent_test agents (agent_of []) e i k))).amounts;
}

pub agent_lines : {s : State} {l : Lines} → Ranged s l → AgentLines l.agents
agent_lines r = record { few = r.few_agents; line = λ i h. (r.agent i h).amounts }

pub payable :
    {s : State} {l : Lines}
    → Ranged s l
    → (pos 0 <ℤ pv_total l → sum_ℤ (EUSTs l) ≢ pos 0)
    → sum_ℤ (pbs l.agents) ≢ pos 0
    → Payable (sum_ℤ (VDs s l)) s.month l.line l.agents
payable r nine eight =
    let w = (charge_bounds r nine).VD_total in
    record {
      months = r.months;
      fee = r.ons;
      owed = record { above = omega za; below = omega za };
      lines = agent_lines r;
      weighed = (credit_bounds r nine eight).pb_above;
    }

-- a month that breaks no limit
pub payable_passed : (s : State) (l : Lines) → length s.credits ≡ s.users → Passed s l → Payable (sum_ℤ (VDs s l)) s.month l.line l.agents
payable_passed s l w p = payable (ranged_passed s l w p) p.EUST_total p.pb_total
