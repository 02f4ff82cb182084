-- What an accepted month writes, and what that asks.
use Rattle.std.specs.Prelude.{ℕ, ◌+◌, ◌*◌, ◌≤◌, ◌≡◌, List, ℤ, length}
use Rattle.rules.specs.declared.Ledger.{Ledger}
use Rattle.rules.specs.Verdict.{Verdict, accepted}
use Rattle.rules.specs.Lines.{Lines}
use Rattle.rules.specs.State.{State}
use Rattle.rules.specs.Charges.{new_credits}
use Rattle.rules.specs.Direct.{MonthTable}
use Rattle.rules.specs.Refusals.{refusal}
use Rattle.charges.specs.declared.month.Bills.{Bills}
use Rattle.charges.specs.Month.{Billed}

-- nothing refuses the lines l on the state st, whose credits are one for each user; the bills are theirs, and every slice has the room
pub record Writable (bills : Bills) (ledger : Ledger) (l : Lines) (held cells : List ℤ) (work : List ℕ) (st : State) (short : Verdict)
    : Type 0 where
  pub accepts : refusal st short l ≡ accepted
  pub one_each : length st.credits ≡ st.users
  pub last_is : ledger.month ≡ st.month
  pub bills_are : Billed (length l.users) st l bills
  pub held_count : length held ≡ length l.users
  pub cells_count : length cells ≡ (length l.agents + 1) * length l.users
  pub work_count : (length l.agents + 1) * length l.users ≤ length work

-- the slices as they are left
pub record Written (st : State) (l : Lines) (work : List ℕ) (held' cells' : List ℤ) (work' : List ℕ) : Type 0 where
  pub credits : held' ≡ new_credits st l
  pub table : MonthTable st l cells'
  pub scratch : length work' ≡ length work
