-- DEMAND 1 of one statement that kept its promise `States`; of an accepted one, what it wrote. Assumes nothing else.
use Prim.Native.Nat.{ℕ, ◌+◌, ◌≤◌}
use mathlib.Core.Path.{◌≡◌, sym, ap, ◌∙◌}
use mathlib.Core.List.{List, [], ◌∷◌, ◌++◌}
use native.Mathlib.Omega.{arith}
use lib.IntN.{ℤ}
use lib.ListN.{length, drop, length-map, length-append}
use lib.Seq.{drop_at, length-take-le}
use Rattle.rules.specs.declared.Agent.{Agent}
use Rattle.rules.specs.Verdict.{Verdict, accepted}
use Rattle.rules.specs.Credits.{VMANTs, agent_VCs}
use Rattle.ints.specs.Sums.{sum_ℤ}
use Rattle.rules.specs.Lists.{length_each_from}
use Rattle.rules.specs.State.{State}
use Rattle.rules.specs.Direct.{ongs}
use Rattle.rules.specs.Refusals.{refusal}
use Rattle.rules.specs.Answers.{verdict_of}
use Rattle.rules.specs.Calls.{state_of}
use Rattle.rules.proofs.Passed.{Passed, slices_accepted, passed}
use Rattle.rules.proofs.Promise.{answers}
use Rattle.rules.proofs.Limits.{Agrees, agrees_when, agrees_before}
use Rattle.rules.proofs.LimitsTests.{long_enough}
use Rattle.rules.proofs.LimitsMonth.{month_agrees}
use Rattle.rules.proofs.Demand1.{answered, same_length}
use Rattle.statement.specs.declared.RowRooms.{RowRooms}
use Rattle.statement.specs.Statement.{short_rooms, short_of, point_row, point_rows, user_rows_of, user_rows, agent_rows_of, ons_row, payee_rows_from}
use Rattle.statement.specs.Statement.{payee_rows, StatedMonth, States}
use Rattle.statement.specs.Demand1.{row_rooms, StateCall, Beyond, Demand1Stating}

rooms_agree : (s : State) (n : RowRooms) (points : ℕ) → Agrees (row_rooms s n points) (short_rooms s n points)
unfolding short_rooms
rooms_agree s n points =
    agrees_before _ _ (agrees_when _ 2 1 (long_enough _ _))
    (λ h. agrees_before _ _ (agrees_when _ 2 7 (long_enough _ _))
    (λ h. agrees_before _ _ (agrees_when _ 2 8 (long_enough _ _)) (λ h. agrees_when _ 2 9 (long_enough _ _))))

-- rows written over the front of a slice
beyond : {A : Type 0} (n : ℕ) (rows lent left : List A) → length rows ≡ n → n ≤ length lent → left ≡ rows ++ drop n lent → Beyond n lent left
beyond n rows lent left e h w =
    record { same = ap (drop n) w ∙ drop_at rows (drop n lent) n e; same_length = ap length w ∙ same_length n rows lent e h }

agent_count : (last month : ℤ) (vmant vc : List ℤ) (agents : List Agent) → length (agent_rows_of last month vmant vc agents) ≡ length agents
unfolding agent_rows_of
agent_count last month vmant vc agents = length_each_from 0 _ agents

module _ (c : StateCall) where
  abbrev pub Promised : Type 0
  Promised = States c.ledger c.held c.lines c.points c.users c.payees c.answer c.points_left c.users_left c.payees_left

  abbrev s : State
  s = state_of c.ledger c.held

  abbrev short : Verdict
  short = short_of c.ledger c.held c.points c.users c.payees (length c.lines.points)

  abbrev n : RowRooms
  n = record { held = length c.held; points = length c.points; users = length c.users; payees = length c.payees }

  pub point_count : length (point_rows c.lines) ≡ length c.lines.points
  unfolding point_rows
  point_count = length-map c.lines.points (point_row c.lines.users)

  pub user_count : length (user_rows s c.lines) ≡ length c.lines.users
  unfolding user_rows user_rows_of
  user_count = length_each_from 0 _ c.lines.users

  pub payee_count : length (payee_rows s c.lines) ≡ length c.lines.agents + 1
  unfolding payee_rows_from
  payee_count =
      let rows = agent_rows_of s.month c.lines.line.month (VMANTs s c.lines) (agent_VCs s c.lines) c.lines.agents in
      length-append rows (ons_row c.lines.line.ons (sum_ℤ (ongs c.lines.users)) ∷ []) ∙ ap (λ (n : ℕ). n + 1) (agent_count _ _ _ _ c.lines.agents)

  rooms : Agrees (row_rooms s n (length c.lines.points)) short
  rooms = rooms_agree s n (length c.lines.points)

  module _ (o : Promised) where
    verdict : verdict_of c.answer ≡ refusal s short c.lines
    verdict = answers c.answer (λ d. ap verdict_of d.stated) (λ n p b. b.answer) o

    module _ (a : verdict_of c.answer ≡ accepted) where
      kept : refusal s short c.lines ≡ accepted
      kept = sym verdict ∙ a

      pub accepted_so :
          StatedMonth c.ledger c.held c.lines c.points c.users c.payees c.answer c.points_left c.users_left c.payees_left
      accepted_so = o.where_accepted kept

      room : (row_rooms s n (length c.lines.points)).keeps
      room = rooms.accepted.1 (slices_accepted s short c.lines kept)

      month : Passed s c.lines
      month = passed s short c.lines kept

      pub one_each : length s.credits ≡ length c.lines.users
      one_each = length-take-le c.ledger.users c.held room.0 ∙ sym month.users

    pub demand_1 : Demand1Stating c
    demand_1 = record {
      answer = answered (month_agrees s (row_rooms s n (length c.lines.points)) short c.lines rooms) verdict;
      unchanged = λ n p a.
          let b = o.where_refused n p (sym verdict ∙ a) in
          record { points = b.rows_of_points; users = b.rows_of_users; payees = b.rows_of_payees };
      points = λ a. beyond _ (point_rows c.lines) _ _ point_count (room a).1.0 (accepted_so a).rows_of_points;
      users = λ a. beyond _ (user_rows s c.lines) _ _ user_count (omega (arith, (room a).1.1.0, (month a).users)) (accepted_so a).rows_of_users;
      payees = λ a. beyond _ (payee_rows s c.lines) _ _ payee_count (omega (arith, (room a).1.1.1, (month a).agents)) (accepted_so a).rows_of_payees;
    }
