-- The rows of users and of payees from their columns, and what working these out asks: no more than closing's tests have shown.
use Rattle.std.specs.Prelude.{◌≡◌, List, ℤ, length}
use Rattle.rules.specs.declared.Agent.{Agent}
use Rattle.rules.specs.declared.MonthLine.{MonthLine}
use Rattle.rules.specs.declared.User.{User}
use Rattle.rules.specs.Charges.{ns_from}
use Rattle.rules.specs.Credits.{SMSEFrom}
use Rattle.charges.specs.Month.{Settleable}
use Rattle.statement.specs.declared.UserRow.{UserRow}
use Rattle.statement.specs.declared.users.Columns.{Columns}
use Rattle.statement.specs.declared.PayeeRow.{PayeeRow}
use Rattle.statement.specs.Statement.{user_rows_of, payee_rows_from}

-- ---- of the users
-- every column has one entry for each user, and n can be worked out
pub record ColumnsFit (users : List User) (c : Columns) (out : List UserRow) : Type 0 where
  pub use_count : length c.uses.now ≡ length users
  pub overrun_count : length c.overruns.now ≡ length users
  pub vme_count : length c.vme.now ≡ length users
  pub debit_count : length c.debits.now ≡ length users
  pub credit_count : length c.credits.now ≡ length users
  pub out_count : length out ≡ length users
  pub amounts : Settleable c.vme.now c.cpv.now c.held.now

abbrev pub user_rows_by : List User → Columns → List UserRow
user_rows_by users c =
    user_rows_of c.uses.now c.overruns.now c.vme.now c.cpv.now c.held.now (ns_from c.vme.now c.cpv.now c.held.now) c.debits.now c.credits.now users

-- ---- of the payees: the balance, and the rows
pub record StatesPayees (debits last : ℤ) (line : MonthLine) (agents : List Agent) (direct balance : ℤ) (rows : List PayeeRow) : Type 0 where
  pub SMSE : balance ≡ SMSEFrom debits last line agents
  pub rows_are : rows ≡ payee_rows_from debits last line agents direct
