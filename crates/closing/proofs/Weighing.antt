-- Refusals 8, 9 and 10 as the code comes to them, of a month that has passed the tests before: what each step asks, and how they make up
-- `sum_tests`.
use Prim.Native.Nat.{◌≤◌}
use mathlib.Core.Path.{◌≡◌, sym, ◌∙◌}
use mathlib.Core.List.{List}
use lib.IntN.{ℤ, pos}
use lib.ListN.{length}
use Rattle.ints.specs.Adding.{Summable}
use Rattle.ints.specs.Range.{eq_z}
use Rattle.ints.specs.Sums.{sum_ℤ}
use Rattle.rules.specs.Verdict.{Verdict, accepted, when, ◌then◌}
use Rattle.rules.specs.Lines.{Lines}
use Rattle.rules.specs.State.{State}
use Rattle.rules.specs.Charges.{pvs, pv_total, EUSTs, VDs}
use Rattle.rules.specs.Credits.{pbs}
use Rattle.rules.specs.Refusals.{weight_tests, debit_test, sum_tests}
use Rattle.rules.proofs.Tests.{then_accepted, when_accepted}
use Rattle.rules.proofs.Ranged.{ranged}
use Rattle.charges.specs.declared.scan.Sums.{Sums}
use Rattle.charges.specs.Month.{Month, first_uses}
use Rattle.charges.proofs.Ready.{uses_asked, uses_sum_is, pv_is, ready}
use Rattle.credits.specs.Columns.{AgentLines}
use Rattle.credits.proofs.Tested.{agent_lines}
use Rattle.closing.specs.Judged.{Weighable}

-- 8 and 9 of what the code adds up
abbrev pub weights : Lines → Sums → Verdict
weights l s = weight_tests (sum_ℤ (pbs l.agents)) (sum_ℤ (pvs l.agents)) (sum_ℤ (first_uses l.users s))

module _ {held : List ℤ} {l : Lines} {s : Sums} {st : State} (t : Weighable held l s st) where
  pub agents_asked : AgentLines l.agents
  agents_asked = agent_lines (ranged t.tests)

  pub few_users : length l.users ≤ 512
  few_users = (ranged t.tests).few_users

  pub total_asked : Summable (first_uses l.users s)
  total_asked = uses_asked t.tests t.sums

  weights_are : weights l s ≡ weight_tests (sum_ℤ (pbs l.agents)) (pv_total l) (sum_ℤ (EUSTs l))
  weights_are = rw (pv_is l, uses_sum_is t.tests t.sums)

  -- 8 and 9, and then 10
  pub sums_order : (weights l s then debit_test (sum_ℤ (VDs st l))) ≡ sum_tests st l
  unfolding sum_tests
  sums_order = rw weights_are

  module _ (passed : weights l s ≡ accepted) where
    pub debits_left : debit_test (sum_ℤ (VDs st l)) ≡ sum_tests st l
    debits_left = rw passed at sums_order

    pub bill_asked : Month l.users s (sum_ℤ (pvs l.agents)) held st l
    bill_asked =
        let nine = (then_accepted (when (eq_z (sum_ℤ (pbs l.agents)) (pos 0)) 8 0) _ (sym weights_are ∙ passed)).1 in
        ready t.tests t.sums (pv_is l) t.held_are (when_accepted _ 9 0 nine)
