-- Sister lines at work (paper 02, Q-13), with nothing assumed: two months, each with its sisters apart and on one line, their amounts
-- worked out; and amounts of sisters on one line that are not those of both, so that no more can be claimed.
use Prim.Native.Nat.{ℕ}
use native.Mathlib.Omega.{arith}
use mathlib.Core.Path.{◌≡◌, refl}
use mathlib.Core.List.{List, [], ◌∷◌, ◌++◌, map}
use lib.IntN.{ℤ, pos, neg_ℤ}
use lib.ListN.{length, replicate}
use Rattle.ints.specs.Floor.{floor}
use Rattle.ints.specs.Range.{outside}
use Rattle.ints.specs.Sums.{sum_ℤ}
use Rattle.share.specs.Running.{part, parts_from, running_share}
use Rattle.share.specs.Joined.{joined, left_out}
use Rattle.rules.specs.Verdict.{accepted, each_line}
use Rattle.rules.specs.Lists.{each_from, side_by_side}
use Rattle.rules.specs.Calendar.{month_of_year, impossible_month, cycle_month, settled_to}
use Rattle.rules.specs.Lines.{Lines, month_lines, kind_of, bad_agent, bad_user, bad_point, unfit_point}
use Rattle.rules.specs.July.{july_line, july_agents, july_users, lines, points}
use Rattle.rules.specs.State.{State}
use Rattle.rules.specs.Charges.{half_up, or_zero, use_charge, allowance, excess, overrun, of_user, EUSTs, overrun_sums, VMEs, pv_total, CPVs, ns, VDs}
use Rattle.rules.specs.Credits.{VMPA, VMST, own_credit, own_credits_from, SMSEFrom, SMSE, VMANTsFrom, VMANTs, agent_VCs_from, VCsFrom, VCs}
use Rattle.rules.specs.Refusals.{bad_counts, bad_month, count_tests, state_tests, lines_before_points, line_tests, sum_tests, refusal}
use Rattle.rules.specs.Sisters.{AgentsReceive, UsersGet}
use Rattle.rules.proofs.SisterAgents.{VMANT_left_out, VMANT_joined, agents_as_one}
use Rattle.rules.proofs.SisterUsers.{CPV_left_out, CPV_joined, users_as_one}

-- a new ledger of the month's counts
abbrev new : Lines → State
new l = record { users = length l.users; agents = length l.agents; month = pos 0; credits = replicate (length l.users) (pos 0) }

abbrev these : List ℕ → List ℤ
these = map pos

-- what an amount is, and what it should be
abbrev Amounts : Type 0
Amounts = List ℤ × List ℤ

-- ---- the month of paper 01's example file, its second agent and its second user on two lines each
abbrev agents_apart : List (List ℕ)
agents_apart =
    (1 ∷ 1000 ∷ 0 ∷ 0 ∷ 0 ∷ 0 ∷ 4 ∷ [])
    ∷ (2 ∷ 700 ∷ 10 ∷ 0 ∷ 0 ∷ 25 ∷ 0 ∷ [])
    ∷ (3 ∷ 1300 ∷ 20 ∷ 0 ∷ 0 ∷ 0 ∷ 0 ∷ [])
    ∷ []

abbrev users_apart : List (List ℕ)
users_apart = (1 ∷ 2 ∷ 0 ∷ 0 ∷ []) ∷ (2 ∷ 3 ∷ 0 ∷ 0 ∷ []) ∷ (3 ∷ 3 ∷ 0 ∷ 0 ∷ []) ∷ []

-- the user of the last point
abbrev points_under : ℕ → List (List ℕ)
points_under n =
    (1 ∷ 1000 ∷ 500 ∷ 0 ∷ 0 ∷ 3 ∷ 2 ∷ 3 ∷ 2 ∷ [])
    ∷ (2 ∷ 2000 ∷ 0 ∷ 50 ∷ 0 ∷ 5 ∷ 0 ∷ 5 ∷ 0 ∷ [])
    ∷ (n ∷ 2000 ∷ 0 ∷ 50 ∷ 0 ∷ 11 ∷ 0 ∷ 11 ∷ 0 ∷ [])
    ∷ []

abbrev apart : Lines
apart = month_lines july_line (lines agents_apart) (lines users_apart) (points (points_under 3))

-- the agents on one line, and the users
abbrev agents_one : Lines
agents_one = month_lines july_line (lines july_agents) (lines users_apart) (points (points_under 3))

abbrev users_one : Lines
users_one = month_lines july_line (lines agents_apart) (lines july_users) (points (points_under 2))

pub agents_one_lem : AgentsReceive 1 (new apart) apart (new agents_one) agents_one
unfolding joined own_credits_from own_credit VMST VMPA settled_to cycle_month month_of_year floor
agents_one_lem =
    agents_as_one 1 (new apart) apart (new agents_one) agents_one
    (record { pair = omega arith; pb = refl; pv = refl; own = refl; line = refl; users = refl; points = refl })
    refl

pub users_one_lem : UsersGet 1 apart users_one
unfolding pv_total
users_one_lem = users_as_one 1 apart users_one (record { pair = omega arith; users = refl; points = refl; pv = refl })

-- ---- a month whose balance is above 0: its first two agents and users on one line; its third ones, who have no weight, left out
abbrev first : List ℕ
first = 1 ∷ 100 ∷ 31 ∷ 0 ∷ 0 ∷ 0 ∷ 5 ∷ []

abbrev second : List ℕ
second = 2 ∷ 233 ∷ 20 ∷ 0 ∷ 0 ∷ 0 ∷ 0 ∷ []

abbrev none : ℕ → List ℕ
none n = n ∷ 0 ∷ 0 ∷ 0 ∷ 0 ∷ 0 ∷ 0 ∷ []

abbrev last : ℕ → List ℕ
last n = n ∷ 334 ∷ 46 ∷ 0 ∷ 0 ∷ 24 ∷ 0 ∷ []

abbrev consumer : ℕ → List ℕ
consumer n = n ∷ 2 ∷ 0 ∷ []

-- one point of this power
abbrev power : ℕ → ℕ → List ℕ
power n mp = n ∷ 1000 ∷ 0 ∷ 0 ∷ 0 ∷ mp ∷ 0 ∷ mp ∷ 0 ∷ []

abbrev december : List (List ℕ) → List (List ℕ) → List (List ℕ) → Lines
december agents users rows = month_lines (record { month = pos 202412; ons = pos 100 }) (lines agents) (lines users) (points rows)

abbrev four_agents : List (List ℕ)
four_agents = first ∷ second ∷ none 3 ∷ last 4 ∷ []

abbrev four_users : List (List ℕ)
four_users = consumer 1 ∷ consumer 2 ∷ consumer 3 ∷ consumer 4 ∷ []

abbrev three_users : List (List ℕ)
three_users = consumer 1 ∷ consumer 2 ∷ consumer 3 ∷ []

abbrev powers : List (List ℕ)
powers = power 1 7 ∷ power 2 13 ∷ power 4 22 ∷ []

abbrev four : Lines
four = december four_agents four_users powers

abbrev agents_joined : Lines
agents_joined = december ((1 ∷ 333 ∷ 51 ∷ 0 ∷ 0 ∷ 0 ∷ 5 ∷ []) ∷ none 2 ∷ last 3 ∷ []) four_users powers

abbrev agent_out : Lines
agent_out = december (first ∷ second ∷ last 3 ∷ []) four_users powers

abbrev users_joined : Lines
users_joined = december four_agents three_users (power 1 7 ∷ power 1 13 ∷ power 3 22 ∷ [])

abbrev user_out : Lines
user_out = december four_agents three_users (power 1 7 ∷ power 2 13 ∷ power 3 22 ∷ [])

pub agents_joined_lem : VMANTs (new agents_joined) agents_joined ≡ joined 0 (VMANTs (new four) four)
unfolding joined SMSEFrom own_credits_from own_credit VMST VMPA settled_to cycle_month month_of_year floor sum_ℤ VDs ns VMEs CPVs EUSTs overrun_sums pv_total
agents_joined_lem = VMANT_joined (new four) four 0 (new agents_joined) agents_joined refl (omega arith) refl

pub agent_out_lem : VMANTs (new agent_out) agent_out ≡ left_out 2 (VMANTs (new four) four)
unfolding left_out SMSEFrom own_credits_from own_credit VMST VMPA settled_to cycle_month month_of_year floor sum_ℤ VDs ns VMEs CPVs EUSTs overrun_sums pv_total
agent_out_lem = VMANT_left_out (new four) four 2 (new agent_out) agent_out refl (omega arith) refl refl

pub users_joined_lem : CPVs users_joined ≡ joined 0 (CPVs four)
unfolding joined pv_total EUSTs each_from of_user use_charge half_up floor
users_joined_lem = CPV_joined four 0 users_joined refl (omega arith) refl

pub user_out_lem : CPVs user_out ≡ left_out 2 (CPVs four)
unfolding left_out pv_total EUSTs each_from of_user use_charge half_up floor
user_out_lem = CPV_left_out four 2 user_out refl (omega arith) refl refl

-- ---- what is not claimed: the first month with a yearly adjustment of 6 for each sister, and with a correction of −600 for the first of
-- the users
abbrev adjusted : List (List ℕ) → Lines
adjusted sisters = month_lines july_line (lines ((1 ∷ 1000 ∷ 0 ∷ 0 ∷ 0 ∷ 0 ∷ 4 ∷ []) ∷ sisters)) (lines users_apart) (points (points_under 3))

abbrev corrected : List (List ℤ) → ℕ → Lines
corrected after n =
    month_lines july_line (lines agents_apart) (these (1 ∷ 2 ∷ 0 ∷ []) ∷ (pos 2 ∷ pos 3 ∷ neg_ℤ (pos 600) ∷ []) ∷ after) (points (points_under n))

abbrev adjusted_apart : Lines
adjusted_apart = adjusted ((2 ∷ 700 ∷ 10 ∷ 0 ∷ 0 ∷ 6 ∷ 0 ∷ []) ∷ (3 ∷ 1300 ∷ 20 ∷ 0 ∷ 0 ∷ 6 ∷ 0 ∷ []) ∷ [])

abbrev adjusted_one : Lines
adjusted_one = adjusted ((2 ∷ 2000 ∷ 30 ∷ 0 ∷ 0 ∷ 12 ∷ 0 ∷ []) ∷ [])

abbrev corrected_apart : Lines
corrected_apart = corrected (these (3 ∷ 3 ∷ 0 ∷ []) ∷ []) 3

abbrev corrected_one : Lines
corrected_one = corrected [] 2

-- ---- each is a month that closing takes
abbrev months : List Lines
months = apart ∷ agents_one ∷ users_one ∷ four ∷ agents_joined ∷ agent_out ∷ users_joined ∷ user_out ∷ []

abbrev unclaimed : List Lines
unclaimed = adjusted_apart ∷ adjusted_one ∷ corrected_apart ∷ corrected_one ∷ []

pub taken : map (λ (l : Lines). refusal (new l) accepted l) (months ++ unclaimed) ≡ replicate 12 accepted
unfolding refusal bad_counts bad_month count_tests state_tests lines_before_points line_tests sum_tests each_line bad_agent bad_user bad_point
    unfit_point outside impossible_month month_of_year floor each_from side_by_side sum_ℤ half_up or_zero use_charge allowance excess overrun of_user
    EUSTs overrun_sums VMEs pv_total CPVs ns VDs part parts_from running_share kind_of
taken = refl

-- ---- the amounts
unfoldable pub amounts : List Amounts
amounts =
    -- those of both, where sisters stand on one line
    (VMANTs (new apart) apart, neg_ℤ (pos 369) ∷ neg_ℤ (pos 258) ∷ neg_ℤ (pos 479) ∷ [])
    ∷ (VMANTs (new agents_one) agents_one, neg_ℤ (pos 369) ∷ neg_ℤ (pos 737) ∷ [])
    ∷ (VCs (new apart) apart, these (635 ∷ 434 ∷ 801 ∷ 100 ∷ []))
    ∷ (VCs (new agents_one) agents_one, these (635 ∷ 1235 ∷ 100 ∷ []))
    ∷ (CPVs apart, these (6 ∷ 7 ∷ 17 ∷ []))
    ∷ (CPVs users_one, these (6 ∷ 24 ∷ []))
    ∷ (VMANTs (new four) four, these (513 ∷ 1197 ∷ 0 ∷ 1716 ∷ []))
    ∷ (VMANTs (new agents_joined) agents_joined, these (1710 ∷ 0 ∷ 1716 ∷ []))
    ∷ (CPVs four, these (16 ∷ 30 ∷ 0 ∷ 51 ∷ []))
    ∷ (CPVs users_joined, these (46 ∷ 0 ∷ 51 ∷ []))
    -- every other, where a line without weight is left out
    ∷ (VMANTs (new agent_out) agent_out, these (513 ∷ 1197 ∷ 1716 ∷ []))
    ∷ (CPVs user_out, these (16 ∷ 30 ∷ 51 ∷ []))
    -- another balance, since floor(6 / 12) twice is 0 and floor(12 / 12) is 1
    ∷ (SMSE (new adjusted_apart) adjusted_apart ∷ [], neg_ℤ (pos 1104) ∷ [])
    ∷ (SMSE (new adjusted_one) adjusted_one ∷ [], neg_ℤ (pos 1105) ∷ [])
    -- another debit, since that of a user who is owed is 0 and the one who owes pays all: 500 − 7 − 600 and 1100 − 17, or 1600 − 24 − 600
    ∷ (VDs (new corrected_apart) corrected_apart, these (394 ∷ 0 ∷ 1083 ∷ []))
    ∷ (VDs (new corrected_one) corrected_one, these (394 ∷ 976 ∷ []))
    ∷ []

pub worked : map (λ (c : Amounts). c.0) amounts ≡ map (λ (c : Amounts). c.1) amounts
unfolding amounts VCsFrom agent_VCs_from VMANTsFrom SMSEFrom own_credits_from own_credit VMST VMPA settled_to cycle_month month_of_year floor
    each_from side_by_side sum_ℤ half_up or_zero use_charge allowance excess overrun of_user EUSTs overrun_sums VMEs pv_total CPVs ns VDs part
    parts_from running_share
worked = refl
