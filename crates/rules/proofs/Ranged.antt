-- What is known once tests 1 to 7 are passed, before any sum is tested: counts within their limits, and every value in its range. The
-- sums that tests 8, 9 and 10 look at are worked out with no more than this.
use Prim.Native.Nat.{ℕ, suc, ◌≤◌, ◌<◌}
use native.Mathlib.Omega.{arith}
use mathlib.Core.Path.{◌≡◌, sym, ◌∙◌}
use mathlib.Core.Logic.{◌≢◌}
use mathlib.Core.List.{[]}
use lib.ListN.{length, get_or}
use lib.IntN.{ℤ, pos}
use lib.Signed.{◌<ℤ◌}
use Rattle.ints.specs.Range.{Within}
use Rattle.rules.specs.Most.{most_held}
use Rattle.rules.specs.Lines.{Lines, agent_of, user_of, point_of}
use Rattle.rules.specs.State.{State}
use Rattle.rules.specs.Tested.{Tested}
use Rattle.rules.specs.Ranges.{Amount, MonthAfter}
use Rattle.rules.specs.Limits.{AgentFits, UserFits, PointFits}
use Rattle.rules.proofs.Fits.{Possible, not_impossible}
use Rattle.rules.proofs.Passed.{Passed, counts, state_passed, lines_passed}

pub record Ranged (s : State) (l : Lines) : Type 0 where
  pub few_users : length l.users ≤ 512
  pub few_agents : length l.agents ≤ 256
  pub few_points : length l.points ≤ 1024
  pub months : MonthAfter s.month l.line.month
  -- one held credit per user
  pub count : length s.credits ≡ length l.users
  pub held : (j : ℕ) → j < length s.credits → Within (pos 0) (pos most_held) (get_or s.credits j (pos 0))
  pub ons : Amount l.line.ons
  pub agent : (i : ℕ) → i < length l.agents → AgentFits (suc i) (get_or l.agents i (agent_of []))
  pub user : (j : ℕ) → j < length l.users → UserFits (suc j) (get_or l.users j (user_of []))
  pub point : (m : ℕ) → m < length l.points → PointFits (get_or l.points m (point_of []))

months : {last month : ℤ} → (last ≢ pos 0 → Possible last) → Possible month → last <ℤ month → MonthAfter last month
months h p l = record { there = not_impossible p; last_there = λ z. not_impossible (h z); later = l }

-- from the tests
pub ranged : {s : State} {l : Lines} → Tested s l → Ranged s l
ranged {s} {l} t =
    let first = counts s _ _ _ t.counts in
    let state = state_passed s l.line t.state in
    let lines = lines_passed l t.lines in
    record {
      few_users = first.users_between.1;
      few_agents = first.agents_between.1;
      few_points = first.few_points;
      months = months first.last_month state.month state.later;
      count = t.held;
      held = state.credits;
      ons = lines.ons;
      agent = lines.agent;
      user = lines.user;
      point = λ m h. (lines.point m h).values;
    }

-- a month that breaks no limit
pub ranged_passed : (s : State) (l : Lines) → length s.credits ≡ s.users → Passed s l → Ranged s l
ranged_passed s l w p = record {
  few_users = omega (arith, p.users, p.few_users);
  few_agents = omega (arith, p.agents, p.few_agents);
  few_points = p.few_points;
  months = months p.last_month p.month p.later;
  count = w ∙ sym p.users;
  held = p.credits;
  ons = p.ons;
  agent = p.agent;
  user = p.user;
  point = λ m h. (p.point m h).values;
}
