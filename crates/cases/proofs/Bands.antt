-- The months of Q-4 come to what was worked out by hand.
use mathlib.Core.Path.{refl}
use Rattle.ints.specs.Floor.{floor}
use Rattle.ints.specs.Range.{outside}
use Rattle.ints.specs.Sums.{sum_ℤ}
use Rattle.share.specs.Running.{part, parts_from, running_share}
use Rattle.rules.specs.Verdict.{each_line}
use Rattle.rules.specs.Lists.{each_from, side_by_side}
use Rattle.rules.specs.Calendar.{month_of_year, impossible_month, cycle_month, cycle_of, settled_to}
use Rattle.rules.specs.Lines.{kind_of, bad_agent, bad_user, bad_point, unfit_point}
use Rattle.rules.specs.Charges.{half_up, or_zero, use_charge, allowance, excess, overrun, of_user, EUSTs, overrun_sums, VMEs, pv_total, CPVs, ns, VDs}
use Rattle.rules.specs.Charges.{new_credits}
use Rattle.rules.specs.Credits.{VMPA, VMST, own_credit, own_credits_from, SMSEFrom, VMANTsFrom, agent_VCs_from, VCsFrom}
use Rattle.rules.specs.Refusals.{bad_counts, short_slices, bad_month, count_tests, state_tests, lines_before_points, line_tests, sum_tests, refusal}
use Rattle.rules.specs.Tally.{after, verdicts}
use Rattle.cases.specs.Bands.{ByBand}

pub by_band : ByBand
unfolding after verdicts refusal bad_counts short_slices bad_month count_tests state_tests lines_before_points line_tests sum_tests each_line outside
    impossible_month month_of_year kind_of bad_agent bad_user bad_point unfit_point floor sum_ℤ each_from side_by_side half_up or_zero use_charge
    allowance excess overrun of_user EUSTs overrun_sums VMEs pv_total CPVs ns VDs new_credits running_share parts_from part cycle_month cycle_of
    settled_to VMPA VMST own_credit own_credits_from SMSEFrom VMANTsFrom agent_VCs_from VCsFrom
by_band =
    record {
      answers = refl;
      first = refl;
      second = refl;
      third = refl;
      once_more = refl;
      once_less = refl;
      once_over = refl;
      once_none = refl;
    }
