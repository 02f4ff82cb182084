-- Paper 02, Q-8: VMPA worked by hand after months that never closed, and a cycle of paper 01's example month, whose second agent has a
-- yearly adjustment of 25: August is skipped, and comes back when it is handed in after September.
use Rattle.std.specs.Prelude.{ℕ, ◌≡◌, List, [], ◌∷◌, map, ℤ, pos}
use Rattle.rules.specs.Verdict.{accepted, refused}
use Rattle.rules.specs.Calendar.{cycle_month, settled_to}
use Rattle.rules.specs.Lines.{month_lines, agent_of}
use Rattle.rules.specs.July.{july_line, july_agents, july_users, july_points, lines, points}
use Rattle.rules.specs.Credits.{VMPA}
use Rattle.rules.specs.Tally.{Fed, opened, verdicts, added}
use Rattle.rules.specs.WholeCycle.{VMPAofCycle}
use Rattle.cases.specs.Inputs.{these, minus, enough}

-- VMPA of an agent with this yearly adjustment: the last closed month and the one that closes
abbrev pub VMPAafter : ℤ → ℕ × ℕ → ℤ
VMPAafter pa (last, m) =
    VMPA (settled_to (pos last) (pos m)) (cycle_month (pos m)) (agent_of (pos 1 ∷ pos 0 ∷ pos 0 ∷ pos 0 ∷ pos 0 ∷ pa ∷ pos 0 ∷ []))

-- each month after the one before it, and after a skipped one; into the new year; after an earlier cycle, its July skipped or not, once
-- with June alone closed of the whole cycle; after years
abbrev months : List (ℕ × ℕ)
months =
    (202407, 202408)
    ∷ (202408, 202409)
    ∷ (202407, 202409)
    ∷ (202412, 202501)
    ∷ (202411, 202502)
    ∷ (202506, 202507)
    ∷ (202506, 202508)
    ∷ (202406, 202501)
    ∷ (202406, 202506)
    ∷ (202007, 202407)
    ∷ []

-- the example file's lines in another month
abbrev in_month : ℕ → Fed
in_month m =
    record {
      lines = month_lines (record { month = pos m; ons = july_line.ons }) (lines july_agents) (lines july_users) (points july_points);
      lengths = enough 2 2;
    }

abbrev pub cycle : List Fed
cycle = map in_month (202407 ∷ 202409 ∷ 202408 ∷ 202506 ∷ [])

pub record Skipped : Type 0 where
  pub twenty_five : map (VMPAafter (pos 25)) months ≡ these (2 ∷ 2 ∷ 4 ∷ 2 ∷ 6 ∷ 2 ∷ 4 ∷ 14 ∷ 25 ∷ 2 ∷ [])
  pub minus_one :
      map (VMPAafter (minus 1)) months
      ≡ pos 0 ∷ pos 0 ∷ pos 0 ∷ pos 0 ∷ pos 0 ∷ minus 1 ∷ minus 1 ∷ minus 1 ∷ minus 1 ∷ minus 1 ∷ []
  pub answers : verdicts (opened 2 2) cycle ≡ accepted ∷ accepted ∷ refused 3 0 ∷ accepted ∷ []
  -- what falls due in the cycle: 2 in July, 4 in September and 19 in June to the agent with 25, nothing to the other
  pub all_of_it : added (VMPAofCycle (pos 2024) 1) (opened 2 2) cycle ≡ pos 25
  pub nothing : added (VMPAofCycle (pos 2024) 0) (opened 2 2) cycle ≡ pos 0
