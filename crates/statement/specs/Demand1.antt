-- DEMAND 1 of one statement, in words: closing's limits in closing's order, with the statement's own slices, decide its answer; a refused
-- one changes nothing; an accepted one leaves every entry beyond its rows as it was (paper 01, "Why a month comes back").
use Rattle.std.specs.Prelude.{ℕ, ◌+◌, ◌≤◌, ◌≡◌, Result, List, ℤ, length, drop}
use Rattle.rules.specs.declared.Ledger.{Ledger}
use Rattle.rules.specs.declared.outcomes.Refusal.{Refusal}
use Rattle.rules.specs.Verdict.{accepted, refused}
use Rattle.rules.specs.Lines.{Lines}
use Rattle.rules.specs.State.{State}
use Rattle.rules.specs.Limits.{Limit, limit, ◌before◌, month_limits}
use Rattle.rules.specs.Answers.{verdict_of}
use Rattle.rules.specs.Calls.{state_of}
use Rattle.rules.specs.Demand1.{AnsweredBy}
use Rattle.statement.specs.declared.PointRow.{PointRow}
use Rattle.statement.specs.declared.UserRow.{UserRow}
use Rattle.statement.specs.declared.PayeeRow.{PayeeRow}
use Rattle.statement.specs.declared.RowRooms.{RowRooms}

-- 2: the held credits of every user; a row for each point line, each user and each payee
abbrev pub row_rooms : State → RowRooms → ℕ → Limit
row_rooms s n points =
    limit (s.users ≤ n.held) 2 1
    before limit (points ≤ n.points) 2 7
    before limit (s.users ≤ n.users) 2 8
    before limit (s.agents + 1 ≤ n.payees) 2 9

-- one statement: what was handed in, what was answered, and the slices of rows as it left them
pub record StateCall : Type 0 where
  pub ledger : Ledger
  pub held : List ℤ
  pub lines : Lines
  pub points : List PointRow
  pub users : List UserRow
  pub payees : List PayeeRow
  pub answer : Result ℤ Refusal
  pub points_left : List PointRow
  pub users_left : List UserRow
  pub payees_left : List PayeeRow

abbrev pub stating_limits : StateCall → Limit
stating_limits c =
    let s = state_of c.ledger c.held in
    let n : RowRooms = record { held = length c.held; points = length c.points; users = length c.users; payees = length c.payees } in
    month_limits s (row_rooms s n (length c.lines.points)) c.lines

-- a refused statement, which has no balance: every slice entry for entry as it was
pub record Unchanged (c : StateCall) : Type 0 where
  pub points : c.points_left ≡ c.points
  pub users : c.users_left ≡ c.users
  pub payees : c.payees_left ≡ c.payees

-- a slice of which so many entries were written: those beyond, and its length, as they were
pub record Beyond {A : Type 0} (n : ℕ) (lent left : List A) : Type 0 where
  pub same : drop n left ≡ drop n lent
  pub same_length : length left ≡ length lent

pub record Demand1Stating (c : StateCall) : Type 0 where
  pub answer : AnsweredBy (stating_limits c) c.answer
  pub unchanged : (n p : ℕ) → verdict_of c.answer ≡ refused n p → Unchanged c
  pub points : verdict_of c.answer ≡ accepted → Beyond (length c.lines.points) c.points c.points_left
  pub users : verdict_of c.answer ≡ accepted → Beyond (length c.lines.users) c.users c.users_left
  pub payees : verdict_of c.answer ≡ accepted → Beyond (length c.lines.agents + 1) c.payees c.payees_left
