-- DEMAND 1 in words, of one call: exactly the limits decide its answer; a refused call changes nothing; an accepted one does its work and
-- leaves every entry beyond it as it was (paper 01, "Why a month comes back" and "The ledger").
use Rattle.std.specs.Prelude.{ℕ, ◌≡◌, ◌↔◌, Result, List, ℤ, pos, length, take, drop, replicate}
use Rattle.rules.specs.declared.outcomes.Outcome.{Outcome}
use Rattle.rules.specs.declared.outcomes.Refusal.{Refusal}
use Rattle.rules.specs.Verdict.{accepted, refused}
use Rattle.rules.specs.Refusals.{cells_needed}
use Rattle.rules.specs.Limits.{Limit, opening_limits, closing_limits}
use Rattle.rules.specs.Answers.{verdict_of}
use Rattle.rules.specs.Calls.{state_of, lengths_of}
use Rattle.rules.specs.Demand.{Call}

-- accepted exactly if every limit is kept; refused with a number and a place exactly if the first limit that is broken comes back so
pub record AnsweredBy (limits : Limit) {T : Type 0} (a : Result T Refusal) : Type 0 where
  pub done : limits.keeps ↔ (verdict_of a ≡ accepted)
  pub back : (n p : ℕ) → limits.breaks n p ↔ (verdict_of a ≡ refused n p)

-- opening with these counts and held slice answered r and left the slice as held'
pub record Demand1Opening (users agents : ℕ) (held : List ℤ) (r : Outcome) (held' : List ℤ) : Type 0 where
  pub answer : AnsweredBy (opening_limits users agents (length held)) r.answer
  -- refused: a ledger of counts 0 and month 0, and the slice entry for entry as it was
  pub no_ledger : (n p : ℕ) → verdict_of r.answer ≡ refused n p → r.ledger ≡ record { users = 0; agents = 0; month = pos 0 }
  pub unchanged : (n p : ℕ) → verdict_of r.answer ≡ refused n p → held' ≡ held
  -- accepted: a ledger of these counts, no month closed, a credit of 0 for each user; entries beyond as they were
  pub ledger : verdict_of r.answer ≡ accepted → r.ledger ≡ record { users = users; agents = agents; month = pos 0 }
  pub credits : verdict_of r.answer ≡ accepted → take users held' ≡ replicate users (pos 0)
  pub beyond : verdict_of r.answer ≡ accepted → drop users held' ≡ drop users held

-- a refused closing: the ledger, and each lent slice entry for entry, as they were handed in
pub record Unchanged (c : Call) : Type 0 where
  pub ledger : c.outcome.ledger ≡ c.ledger
  pub held : c.held_left ≡ c.held
  pub cells : c.cells_left ≡ c.cells
  pub work : c.work_left ≡ c.work

-- an accepted one: the ledger with this month; entries beyond the users' credits and beyond the table, and every length, as they were
pub record Advanced (c : Call) : Type 0 where
  pub ledger : c.outcome.ledger ≡ record { users = c.ledger.users; agents = c.ledger.agents; month = c.lines.line.month }
  pub held : drop c.ledger.users c.held_left ≡ drop c.ledger.users c.held
  pub held_length : length c.held_left ≡ length c.held
  pub cells :
      let n = cells_needed c.ledger.users c.ledger.agents in
      drop n c.cells_left ≡ drop n c.cells
  pub cells_length : length c.cells_left ≡ length c.cells
  pub work_length : length c.work_left ≡ length c.work

pub record Demand1Closing (c : Call) : Type 0 where
  pub answer : AnsweredBy (closing_limits (state_of c.ledger c.held) (lengths_of c.held c.cells c.work) c.lines) c.outcome.answer
  pub unchanged : (n p : ℕ) → verdict_of c.outcome.answer ≡ refused n p → Unchanged c
  pub advanced : verdict_of c.outcome.answer ≡ accepted → Advanced c
