-- The cases a to j hold: by computation, but for d's three columns, which Columns.antt shows to be all that the totals allow.
use mathlib.Core.Path.{refl}
use lib.Dec.{lit<}
use Rattle.ints.specs.Floor.{floor}
use Rattle.ints.specs.Range.{outside}
use Rattle.ints.specs.Sums.{sum_ℤ, Σ<}
use Rattle.share.specs.Running.{part, parts_from, running_share}
use Rattle.format.specs.Grammar.{more, line}
use Rattle.format.specs.Machine.{format, in_value, enter, step}
use Rattle.format.specs.Values.{read_digits, read_value, read_line, read_lines, read_blocks}
use Rattle.format.specs.Reading.{scan, scan_at, reading}
use Rattle.rules.specs.Verdict.{each_line}
use Rattle.rules.specs.Lists.{each_from, side_by_side}
use Rattle.rules.specs.Calendar.{month_of_year, impossible_month, cycle_month, settled_to}
use Rattle.rules.specs.Lines.{kind_of, bad_agent, bad_user, bad_point, unfit_point}
use Rattle.rules.specs.Charges.{half_up, or_zero, use_charge, allowance, excess, overrun, of_user, EUSTs, overrun_sums, VMEs, pv_total, CPVs, ns, VDs}
use Rattle.rules.specs.Charges.{new_credits}
use Rattle.rules.specs.Credits.{VMPA, VMST, own_credit, own_credits_from, SMSEFrom, VMANTsFrom, agent_VCs_from, VCsFrom}
use Rattle.rules.specs.Refusals.{bad_counts, short_slices, bad_month, count_tests, state_tests, lines_before_points, line_tests, sum_tests, refusal}
use Rattle.rules.specs.Tally.{after, verdicts}
use Rattle.rules.proofs.OneTable.{one_table}
use Rattle.cases.specs.ByHand.{A, B, C, D, E, F, G, H, I, J, All, by_hand}
use Rattle.cases.proofs.Tables.{table_of, whole_of}
use Rattle.cases.proofs.Columns.{three}

a : A
unfolding reading scan_at scan read_blocks read_lines read_line read_value read_digits format more line in_value enter step refusal bad_counts
    short_slices bad_month count_tests state_tests lines_before_points line_tests sum_tests each_line outside impossible_month month_of_year kind_of
    bad_agent bad_user bad_point unfit_point floor sum_ℤ Σ< each_from side_by_side half_up or_zero use_charge allowance excess overrun of_user EUSTs
    overrun_sums VMEs pv_total CPVs ns VDs new_credits running_share parts_from part cycle_month settled_to VMPA VMST own_credit own_credits_from
    SMSEFrom VMANTsFrom agent_VCs_from VCsFrom
a =
    record {
      read_whole = refl;
      lines = refl;
      closed = refl;
      EUST = refl;
      VME = refl;
      CPV = refl;
      VD = refl;
      held = refl;
      VMSTs = refl;
      VMPAs = refl;
      balance = refl;
      VMANT = refl;
      VC = refl;
      cells = table_of _ _ _ refl;
      only = λ cells t. one_table (whole_of _ _ refl) t (table_of _ _ _ refl);
    }

b : B
unfolding running_share parts_from part floor sum_ℤ
b = refl

c : C
unfolding running_share parts_from part floor sum_ℤ
c = refl

d : D
unfolding floor sum_ℤ Σ<
d =
    record {
      one_of_three = λ cells t. three _ _ _ (t.cell 0 0 (lit< tt) (lit< tt)) (t.cell 1 0 (lit< tt) (lit< tt)) (t.cell 2 0 (lit< tt) (lit< tt))
          (t.column 0 (lit< tt));
      tables = (table_of _ _ _ refl, (table_of _ _ _ refl, (table_of _ _ _ refl, tt)));
      columns = refl;
    }

e : E
unfolding use_charge half_up floor
e = refl

f : F
unfolding overrun excess allowance or_zero half_up floor
f = refl

g : G
unfolding overrun excess allowance or_zero half_up floor
g = refl

h : H
unfolding VMPA settled_to cycle_month month_of_year floor
h = refl

i : I
unfolding VMPA settled_to cycle_month month_of_year floor
i = refl

j : J
unfolding after verdicts refusal bad_counts short_slices bad_month count_tests state_tests lines_before_points line_tests sum_tests each_line outside
    impossible_month month_of_year kind_of bad_agent bad_user bad_point unfit_point floor sum_ℤ each_from side_by_side half_up or_zero use_charge
    allowance excess overrun of_user EUSTs overrun_sums VMEs pv_total CPVs ns VDs new_credits
j = record { closed = refl; n = refl; debit = refl; held = refl; charges = refl; debit_then = refl; held_then = refl }

pub checked_by_hand : All by_hand
checked_by_hand = (a, (b, (c, (d, (e, (f, (g, (h, (i, (j, tt))))))))))
