-- Why a month comes back: refusals 1 to 10 of opening and closing, in the paper's order (paper 01, "Why a month comes back").
use Rattle.std.specs.Prelude.{ℕ, ◌+◌, ◌*◌, Bool, not, ◌&&◌, ◌||◌, List, eqb, ltb, ℤ, pos, length}
use Rattle.std.specs.Int.Signed.{le_z, lt_z}
use Rattle.ints.specs.Range.{outside, eq_z}
use Rattle.ints.specs.Sums.{sum_ℤ}
use Rattle.rules.specs.declared.Lengths.{Lengths}
use Rattle.rules.specs.declared.MonthLine.{MonthLine}
use Rattle.rules.specs.declared.Point.{Point}
use Rattle.rules.specs.Verdict.{Verdict, when, ◌then◌, each_line}
use Rattle.rules.specs.Calendar.{impossible_month}
use Rattle.rules.specs.Most.{most_held}
use Rattle.rules.specs.declared.Agent.{Agent}
use Rattle.rules.specs.declared.User.{User}
use Rattle.rules.specs.Lines.{Lines, kind_of, bad_amount, bad_agent, bad_user, bad_point, unfit_point}
use Rattle.rules.specs.State.{State}
use Rattle.rules.specs.Charges.{pv_total, EUSTs, VDs}
use Rattle.rules.specs.Credits.{pbs}

-- limits of the counts: 1 to 512 users, 1 to 256 agents, at most 1,024 points
abbrev pub bad_users : ℕ → Bool
bad_users n = eqb n 0 || ltb 512 n

abbrev pub bad_agents : ℕ → Bool
bad_agents n = eqb n 0 || ltb 256 n

-- entries that a month needs: (agents + 1) × users of cells, twice that plus 4 × (agents + 1 + users) of work
abbrev pub cells_needed : ℕ → ℕ → ℕ
cells_needed users agents = (agents + 1) * users

abbrev pub work_needed : ℕ → ℕ → ℕ
work_needed users agents = 2 * cells_needed users agents + 4 * (agents + 1 + users)

-- 1: a count outside its limit or unlike the ledger's, or a last closed month neither 0 nor possible; the counts are those of user,
-- agent and point lines
unfoldable pub bad_counts : State → ℕ → ℕ → ℕ → Bool
bad_counts s users agents points =
    bad_users users
    || bad_agents agents
    || ltb 1024 points
    || not (eqb users s.users)
    || not (eqb agents s.agents)
    || (not (eq_z s.month (pos 0)) && impossible_month s.month)

-- 2: a slice too short; place 1 held, 2 cells, 3 work, the lowest that is
unfoldable pub short_slices : State → Lengths → Verdict
short_slices s n =
    when (ltb n.held s.users) 2 1
    then when (ltb n.cells (cells_needed s.users s.agents)) 2 2
    then when (ltb n.work (work_needed s.users s.agents)) 2 3

-- 3: month impossible, or not later than the last closed
unfoldable pub bad_month : ℤ → ℤ → Bool
bad_month last month = impossible_month month || le_z month last

-- 4: a held credit below 0 or above 10^17; place its user
abbrev pub credit_test : ℕ → ℤ → Verdict
credit_test k credit = when (outside (pos 0) (pos most_held) credit) 4 k

-- each line for 5, 6, 7: a value out of range; a point's user that does not exist; a generator's f column or a distributor's
-- discount not 0
abbrev pub agent_test : ℕ → Agent → Verdict
agent_test k a = when (bad_agent k a) 5 k

abbrev pub user_test : ℕ → User → Verdict
user_test k u = when (bad_user k u) 5 k

abbrev pub point_test : List User → ℕ → Point → Verdict
point_test users k p =
    when (bad_point p) 5 k
    then when (outside (pos 1) (pos (length users)) p.user) 6 k
    then when (unfit_point (kind_of users p.user) p) 7 k

-- ---- closing, group by group
-- 1 and 2: the counts of user, agent and point lines, then the slices that were lent, on which the verdict is `short`
unfoldable pub count_tests : State → Verdict → ℕ → ℕ → ℕ → Verdict
count_tests s short users agents points = when (bad_counts s users agents points) 1 0 then short

-- 3 and 4: the month, then the held credits
unfoldable pub state_tests : State → MonthLine → Verdict
state_tests s line = when (bad_month s.month line.month) 3 0 then each_line credit_test 1 s.credits

-- 5, 6, 7: ons, agent and user lines in order, and then the points
unfoldable pub lines_before_points : MonthLine → List Agent → List User → Verdict
lines_before_points line agents users =
    when (bad_amount line.ons) 5 0
    then each_line agent_test 1 agents
    then each_line user_test 1 users

unfoldable pub line_tests : Lines → Verdict
line_tests l = lines_before_points l.line l.agents l.users then each_line (point_test l.users) 1 l.points

-- 8: sum of pb is 0. 9: sum of pv above 0, sum of EUST 0
abbrev pub weight_tests : ℤ → ℤ → ℤ → Verdict
weight_tests pb pv EUST = when (eq_z pb (pos 0)) 8 0 then when (lt_z (pos 0) pv && eq_z EUST (pos 0)) 9 0

-- 10: sum VD is 0
abbrev pub debit_test : ℤ → Verdict
debit_test VD = when (eq_z VD (pos 0)) 10 0

unfoldable pub sum_tests : State → Lines → Verdict
sum_tests s l = weight_tests (sum_ℤ (pbs l.agents)) (pv_total l) (sum_ℤ (EUSTs l)) then debit_test (sum_ℤ (VDs s l))

-- THE ORDER: 1, 2, 3, 4; then the lines; then 8, 9, 10. Calls are lent different slices: `short` is the verdict of 2 on them
unfoldable pub refusal : State → Verdict → Lines → Verdict
refusal s short l =
    count_tests s short (length l.users) (length l.agents) (length l.points)
    then state_tests s l.line
    then line_tests l
    then sum_tests s l

-- opening gives 1 or 2
unfoldable pub opening_refusal : ℕ → ℕ → ℕ → Verdict
opening_refusal users agents held_length =
    when (bad_users users || bad_agents agents) 1 0
    then when (ltb held_length users) 2 1
