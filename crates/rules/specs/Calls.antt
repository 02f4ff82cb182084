-- Opening and closing: what is answered, and what each lent slice holds afterwards (paper 01, "The ledger").
use Rattle.std.specs.Prelude.{ℕ, ◌≡◌, Ok, List, ◌++◌, ℤ, pos, length, take, drop, replicate}
use Rattle.rules.specs.declared.Ledger.{Ledger}
use Rattle.rules.specs.declared.outcomes.Outcome.{Outcome}
use Rattle.rules.specs.Verdict.{Verdict, refused, ByVerdict}
use Rattle.rules.specs.Answers.{verdict_of}
use Rattle.rules.specs.Lines.{Lines}
use Rattle.rules.specs.Charges.{new_credits}
use Rattle.rules.specs.Direct.{MonthTable}
use Rattle.rules.specs.State.{State}
use Rattle.rules.specs.declared.Lengths.{Lengths}
use Rattle.rules.specs.Refusals.{cells_needed, short_slices, refusal, opening_refusal}

-- what a ledger and a held slice stand for: the credits are the first entry per user
abbrev pub state_of : Ledger → List ℤ → State
state_of g held = record { users = g.users; agents = g.agents; month = g.month; credits = take g.users held }

-- ---- opening with these counts and held slice answered r and left the slice as held'
-- accepted: the first entry per user is 0, entries beyond stay
pub record Opened (users agents : ℕ) (held : List ℤ) (r : Outcome) (held' : List ℤ) : Type 0 where
  pub outcome : r ≡ record { answer = Ok tt; ledger = record { users = users; agents = agents; month = pos 0 } }
  pub credits : held' ≡ replicate users (pos 0) ++ drop users held

-- refused with n and p: a ledger of counts 0 and month 0, and the slice as it was
abbrev pub empty_ledger : Ledger
empty_ledger = record { users = 0; agents = 0; month = pos 0 }

pub record NotOpened (held : List ℤ) (r : Outcome) (held' : List ℤ) (n p : ℕ) : Type 0 where
  pub answer : verdict_of r.answer ≡ refused n p
  pub ledger : r.ledger ≡ empty_ledger
  pub credits : held' ≡ held

abbrev pub Opens : ℕ → ℕ → List ℤ → Outcome → List ℤ → Type 0
Opens users agents held r held' = ByVerdict (opening_refusal users agents (length held)) (Opened users agents held r held') (NotOpened held r held')

-- ---- closing the month l on this ledger and these slices answered r and left the slices so
abbrev pub lengths_of : List ℤ → List ℤ → List ℕ → Lengths
lengths_of held cells work = record { held = length held; cells = length cells; work = length work }

-- why it comes back, if it does
abbrev pub closing_refusal : Ledger → List ℤ → List ℤ → List ℕ → Lines → Verdict
closing_refusal g held cells work l = refusal (state_of g held) (short_slices (state_of g held) (lengths_of held cells work)) l

-- accepted: the ledger with this month; the new credits; the month's table, which broken cells of the shared part take the extra cent
-- being free. Entries beyond stay, and what the work slice holds is free
pub record Closed (g : Ledger) (held : List ℤ) (l : Lines) (cells : List ℤ) (work : List ℕ) (r : Outcome) (held' cells' : List ℤ) (work' : List ℕ)
    : Type 0 where
  pub outcome : r ≡ record { answer = Ok tt; ledger = record { users = g.users; agents = g.agents; month = l.line.month } }
  pub credits : held' ≡ new_credits (state_of g held) l ++ drop g.users held
  pub table : MonthTable (state_of g held) l (take (cells_needed g.users g.agents) cells')
  pub beyond : drop (cells_needed g.users g.agents) cells' ≡ drop (cells_needed g.users g.agents) cells
  pub scratch : length work' ≡ length work

-- refused with n and p: everything as it was
pub record NotClosed (g : Ledger) (held cells : List ℤ) (work : List ℕ) (r : Outcome) (held' cells' : List ℤ) (work' : List ℕ) (n p : ℕ) : Type 0 where
  pub answer : verdict_of r.answer ≡ refused n p
  pub ledger : r.ledger ≡ g
  pub credits : held' ≡ held
  pub table : cells' ≡ cells
  pub scratch : work' ≡ work

abbrev pub Closes : Ledger → List ℤ → Lines → List ℤ → List ℕ → Outcome → List ℤ → List ℤ → List ℕ → Type 0
Closes g held l cells work r held' cells' work' =
    ByVerdict (closing_refusal g held cells work l) (Closed g held l cells work r held' cells' work') (NotClosed g held cells work r held' cells' work')
