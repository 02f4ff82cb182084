-- The statement of a month: every charge and every credit that stands behind its table of cells, row by row (paper 01, "Charges of a
-- user" and "Credits of a payee"), or why the month comes back.
use Rattle.std.specs.Prelude.{ℕ, ◌+◌, ◌≡◌, Result, Ok, List, [], ◌∷◌, ◌++◌, map, ltb, ℤ, pos, ◌+ℤ◌, length, drop, get_or}
use Rattle.ints.specs.Sums.{sum_ℤ}
use Rattle.rules.specs.declared.Agent.{Agent}
use Rattle.rules.specs.declared.Ledger.{Ledger}
use Rattle.rules.specs.declared.MonthLine.{MonthLine}
use Rattle.rules.specs.declared.Point.{Point}
use Rattle.rules.specs.declared.User.{User}
use Rattle.rules.specs.declared.outcomes.Refusal.{Refusal}
use Rattle.rules.specs.Verdict.{Verdict, refused, when, ◌then◌, ByVerdict}
use Rattle.rules.specs.Lists.{each_from}
use Rattle.rules.specs.Calendar.{cycle_month, settled_to}
use Rattle.rules.specs.Lines.{Lines, kind_of}
use Rattle.rules.specs.State.{State}
use Rattle.rules.specs.Charges.{use_charge, overrun, overrun_sums, EUSTs, VMEs, CPVs, ns, VDs, new_credits}
use Rattle.rules.specs.Credits.{VMST, VMPA, SMSE, VMANTsFrom, agent_VCs_from}
use Rattle.rules.specs.Direct.{ongs}
use Rattle.rules.specs.Refusals.{refusal}
use Rattle.rules.specs.Answers.{verdict_of}
use Rattle.rules.specs.Calls.{state_of}
use Rattle.statement.specs.declared.PointRow.{PointRow}
use Rattle.statement.specs.declared.UserRow.{UserRow}
use Rattle.statement.specs.declared.PayeeRow.{PayeeRow}
use Rattle.statement.specs.declared.RowRooms.{RowRooms}

-- ---- the rows
-- the entry of a column at i, counted from 0
abbrev pub at : List ℤ → ℕ → ℤ
at column i = get_or column i (pos 0)

-- a point: use charge (A1-4, A1-7) and overrun (A.1.10)
abbrev pub point_row : List User → Point → PointRow
point_row users p = record { use_charge = use_charge p; overrun = overrun (kind_of users p.user) p }

unfoldable pub point_rows : Lines → List PointRow
point_rows l = map (point_row l.users) l.points

-- a user: its entry of every column, with ret and ong of its line
unfoldable pub user_rows_of : (EUST overruns VME CPV before n VD after : List ℤ) → List User → List UserRow
user_rows_of EUST overruns VME CPV before n VD after users =
    each_from 0
    (λ i u.
    record {
      eust = at EUST i;
      overruns = at overruns i;
      ret = u.ret;
      vme = at VME i;
      cpv = at CPV i;
      held_before = at before i;
      n = at n i;
      vd = at VD i;
      held_after = at after i;
      ong = u.ong;
    })
    users

-- EUST, overruns, ret, VME, CPV (1.2.1.1.2), held credit before, n, debit VD, held credit after (1.2.2), direct charge (paper 02, Q-1)
unfoldable pub user_rows : State → Lines → List UserRow
user_rows s l = user_rows_of (EUSTs l) (overrun_sums l) (VMEs l) (CPVs l) s.credits (ns s l) (VDs s l) (new_credits s l) l.users

-- an agent: VMST, VMPA, VMANT, ret, credit VC (6), and its shared part, which is all of it
unfoldable pub agent_rows_of : ℤ → ℤ → (VMANT VC : List ℤ) → List Agent → List PayeeRow
agent_rows_of last month VMANT VC agents =
    each_from 0
    (λ i a.
    record {
      vmst = VMST a;
      vmpa = VMPA (settled_to last month) (cycle_month month) a;
      vmant = at VMANT i;
      ret = a.ret;
      vc = at VC i;
      shared = at VC i;
    })
    agents

-- ONS: its credit is ons and every direct charge (10), its shared part is ons, and nothing else is its own
abbrev pub ons_row : ℤ → ℤ → PayeeRow
ons_row ons direct = record { vmst = pos 0; vmpa = pos 0; vmant = pos 0; ret = pos 0; vc = ons +ℤ direct; shared = ons }

-- the agents in order, and then ONS; from the sum of VD, the last closed month and the sum of the direct charges, and of a month on a state
unfoldable pub payee_rows_from : ℤ → ℤ → MonthLine → List Agent → ℤ → List PayeeRow
payee_rows_from debits last line agents direct =
    agent_rows_of last line.month (VMANTsFrom debits last line agents) (agent_VCs_from debits last line agents) agents ++ ons_row line.ons direct ∷ []

abbrev pub payee_rows : State → Lines → List PayeeRow
payee_rows s l = payee_rows_from (sum_ℤ (VDs s l)) s.month l.line l.agents (sum_ℤ (ongs l.users))

-- ---- why it comes back
-- 2: a slice too short, of the lengths of those that a statement is lent; place 1 held, 7 the points' rows, 8 the users', 9 the payees',
-- the lowest that is: the places between are those of slices that closing is lent. The last count is that of point lines
unfoldable pub short_rooms : State → RowRooms → ℕ → Verdict
short_rooms s n points =
    when (ltb n.held s.users) 2 1
    then when (ltb n.points points) 2 7
    then when (ltb n.users s.users) 2 8
    then when (ltb n.payees (s.agents + 1)) 2 9

-- on this ledger and these slices, with so many points
abbrev pub short_of : Ledger → List ℤ → List PointRow → List UserRow → List PayeeRow → ℕ → Verdict
short_of g held points users payees count =
    short_rooms (state_of g held) (record { held = length held; points = length points; users = length users; payees = length payees }) count

-- closing's refusals in their order, but with this 2
abbrev pub stating_refusal : Ledger → List ℤ → List PointRow → List UserRow → List PayeeRow → Lines → Verdict
stating_refusal g held points users payees l = refusal (state_of g held) (short_of g held points users payees (length l.points)) l

-- ---- stating the month l on this ledger and these held credits answered r and left the slices of rows so
-- accepted: the balance, and every row; entries beyond stay
pub record StatedMonth (g : Ledger) (held : List ℤ) (l : Lines) (points : List PointRow) (users : List UserRow) (payees : List PayeeRow)
    (r : Result ℤ Refusal) (points' : List PointRow) (users' : List UserRow) (payees' : List PayeeRow) : Type 0 where
  pub stated : r ≡ Ok (SMSE (state_of g held) l)
  pub rows_of_points : points' ≡ point_rows l ++ drop (length l.points) points
  pub rows_of_users : users' ≡ user_rows (state_of g held) l ++ drop (length l.users) users
  pub rows_of_payees : payees' ≡ payee_rows (state_of g held) l ++ drop (length l.agents + 1) payees

-- refused with n and p: no balance, and everything as it was
pub record NotStated (points : List PointRow) (users : List UserRow) (payees : List PayeeRow)
    (r : Result ℤ Refusal) (points' : List PointRow) (users' : List UserRow) (payees' : List PayeeRow) (n p : ℕ) : Type 0 where
  pub answer : verdict_of r ≡ refused n p
  pub rows_of_points : points' ≡ points
  pub rows_of_users : users' ≡ users
  pub rows_of_payees : payees' ≡ payees

abbrev pub States :
    Ledger
    → List ℤ
    → Lines
    → List PointRow
    → List UserRow
    → List PayeeRow
    → Result ℤ Refusal
    → List PointRow
    → List UserRow
    → List PayeeRow
    → Type 0
States g held l points users payees r points' users' payees' =
    ByVerdict (stating_refusal g held points users payees l)
    (StatedMonth g held l points users payees r points' users' payees')
    (NotStated points users payees r points' users' payees')
