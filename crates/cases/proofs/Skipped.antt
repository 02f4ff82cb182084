-- The months of Q-8 come to what was worked out by hand; what falls due in the cycle by the theorem over every list of closings.
use mathlib.Core.Path.{refl}
use mathlib.Core.Logic.{inl, inr}
use lib.IntN.{pos}
use Rattle.ints.specs.Bridge.{za}
use Rattle.ints.specs.Floor.{floor}
use Rattle.ints.specs.Range.{outside}
use Rattle.ints.specs.Sums.{sum_ℤ}
use Rattle.share.specs.Running.{part, parts_from, running_share}
use Rattle.rules.specs.Verdict.{each_line}
use Rattle.rules.specs.Lists.{each_from, side_by_side}
use Rattle.rules.specs.Calendar.{month_of_year, impossible_month, cycle_month, cycle_of, settled_to}
use Rattle.rules.specs.Lines.{kind_of, bad_agent, bad_user, bad_point, unfit_point}
use Rattle.rules.specs.Charges.{half_up, or_zero, use_charge, allowance, excess, overrun, of_user, EUSTs, overrun_sums, VMEs, pv_total, CPVs, ns, VDs}
use Rattle.rules.specs.Charges.{new_credits}
use Rattle.rules.specs.Credits.{VMPA}
use Rattle.rules.specs.Refusals.{bad_counts, short_slices, bad_month, count_tests, state_tests, lines_before_points, line_tests, sum_tests, refusal}
use Rattle.rules.specs.Tally.{opened, verdicts}
use Rattle.rules.specs.WholeCycle.{first_closed, Closed, WholeCycle, SameEachMonth}
use Rattle.rules.proofs.WholeCycle.{whole_cycle}
use Rattle.cases.specs.Skipped.{cycle, Skipped}

whole : WholeCycle (pos 2024) (opened 2 2) cycle
unfolding first_closed Closed refusal bad_counts short_slices bad_month count_tests state_tests lines_before_points line_tests sum_tests each_line
    outside impossible_month month_of_year kind_of bad_agent bad_user bad_point unfit_point floor sum_ℤ each_from side_by_side half_up or_zero
    use_charge allowance excess overrun of_user EUSTs overrun_sums VMEs pv_total CPVs ns VDs new_credits running_share parts_from part
whole = record { from = omega za; to = inr (inr (inr (inl (refl, refl)))) }

pub skipped : Skipped
unfolding verdicts SameEachMonth refusal bad_counts short_slices bad_month count_tests state_tests lines_before_points line_tests sum_tests each_line
    outside impossible_month month_of_year kind_of bad_agent bad_user bad_point unfit_point floor sum_ℤ each_from side_by_side half_up or_zero
    use_charge allowance excess overrun of_user EUSTs overrun_sums VMEs pv_total CPVs ns VDs new_credits running_share parts_from part cycle_month
    cycle_of settled_to VMPA
skipped =
    record {
      twenty_five = refl;
      minus_one = refl;
      answers = refl;
      all_of_it = whole_cycle 2 2 cycle (pos 2024) whole 1 (pos 25) (λ e c. refl, (λ e c. refl, (λ e c. refl, (λ e c. refl, tt))));
      nothing = whole_cycle 2 2 cycle (pos 2024) whole 0 (pos 0) (λ e c. refl, (λ e c. refl, (λ e c. refl, (λ e c. refl, tt))));
    }
