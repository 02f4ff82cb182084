-- What an accepted month writes, and what that asks: all of it is what closing's tests have shown.
use Rattle.std.specs.Prelude.{ℕ, ◌+◌, ◌<◌, ◌≡◌, false, List, [], ℤ, length, get_or}
use Rattle.rules.specs.declared.Ledger.{Ledger}
use Rattle.rules.specs.declared.Point.{Point}
use Rattle.rules.specs.Verdict.{Verdict, accepted}
use Rattle.rules.specs.Lines.{Lines, point_of, bad_point}
use Rattle.rules.specs.State.{State}
use Rattle.rules.specs.Credits.{SMSE}
use Rattle.rules.specs.Refusals.{refusal}
use Rattle.charges.specs.declared.scan.Sums.{Sums}
use Rattle.charges.specs.declared.month.Bills.{Bills}
use Rattle.charges.specs.Scan.{SumsOf}
use Rattle.charges.specs.Month.{Billed}
use Rattle.statement.specs.declared.PointRow.{PointRow}
use Rattle.statement.specs.declared.UserRow.{UserRow}
use Rattle.statement.specs.declared.PayeeRow.{PayeeRow}
use Rattle.statement.specs.Statement.{point_rows, user_rows, payee_rows}

-- every point is in its ranges
abbrev pub InRange : List Point → Type 0
InRange points = (i : ℕ) → i < length points → bad_point (get_or points i (point_of [])) ≡ false

-- nothing refuses these lines on the state st, whose credits are held, one for each user; s is what a scan of the points has found, the
-- bills are theirs, and every slice has one entry for each of its rows
pub record Statable (ledger : Ledger) (held : List ℤ) (l : Lines) (s : Sums) (bills : Bills)
    (rows_of_points : List PointRow) (rows_of_users : List UserRow) (rows_of_payees : List PayeeRow) (st : State) (short : Verdict) : Type 0 where
  pub accepts : refusal st short l ≡ accepted
  pub one_each : length st.credits ≡ st.users
  pub last_is : ledger.month ≡ st.month
  pub held_are : held ≡ st.credits
  pub sums : SumsOf l s
  pub billed : Billed (length l.users) st l bills
  pub point_count : length rows_of_points ≡ length l.points
  pub user_count : length rows_of_users ≡ length l.users
  pub payee_count : length rows_of_payees ≡ length l.agents + 1

-- the balance, and the slices as they are left
pub record StatedRows (st : State) (l : Lines) (balance : ℤ)
    (rows_of_points : List PointRow) (rows_of_users : List UserRow) (rows_of_payees : List PayeeRow) : Type 0 where
  pub SMSE_is : balance ≡ SMSE st l
  pub points : rows_of_points ≡ point_rows l
  pub users : rows_of_users ≡ user_rows st l
  pub payees : rows_of_payees ≡ payee_rows st l
