-- A closing that nothing refuses has passed every test of paper 01's refusals 1 to 10: what is known of it from then on.
use Prim.Native.Nat.{ℕ, suc, ◌≤◌, ◌<◌}
use mathlib.Core.Path.{◌≡◌, refl, sym, ◌∙◌}
use mathlib.Core.Logic.{◌≢◌}
use mathlib.Core.Bool.{Bool, true, false, not, ◌||◌}
use mathlib.Core.List.{[]}
use native.Mathlib.Omega.{arith}
use lib.Dec.{eqb, ltb}
use lib.Ieee.Bits.{is_true}
use lib.IntN.{ℤ, pos}
use lib.ListN.{length, get_or}
use lib.Signed.{◌<ℤ◌, lt_z}
use borrow.Author.Tests.{ltb-false, eqb-true, eqb-false, not-false}
use Rattle.ints.specs.Bridge.{le_z_false, lt_out}
use Rattle.ints.specs.Range.{Within, or_false, outside_false, eq_z, eq_z_true, eq_z_false}
use Rattle.ints.specs.Sums.{sum_ℤ}
use Rattle.rules.specs.declared.MonthLine.{MonthLine}
use Rattle.rules.specs.Verdict.{Verdict, accepted, each_line}
use Rattle.rules.specs.Most.{most_held}
use Rattle.rules.specs.Lines.{Lines, agent_of, user_of, point_of}
use Rattle.rules.specs.Charges.{pv_total, EUSTs, VDs}
use Rattle.rules.specs.Credits.{pbs}
use Rattle.rules.specs.State.{State}
use Rattle.rules.specs.declared.Lengths.{Lengths}
use Rattle.rules.specs.Refusals.{bad_counts, cells_needed, work_needed, short_slices, bad_month, credit_test, agent_test, user_test}
use Rattle.rules.specs.Refusals.{point_test, count_tests, state_tests, lines_before_points, line_tests, weight_tests, sum_tests, refusal}
use Rattle.rules.specs.Tested.{Tested}
use Rattle.rules.proofs.Tests.{then_accepted, when_accepted, when_then, and_false, each_from_1}
use Rattle.rules.specs.Ranges.{Amount}
use Rattle.rules.specs.Limits.{AgentFits, UserFits}
use Rattle.rules.proofs.Fits.{Possible, possible, agent_fits, user_fits, PointPassed, point_passed}

-- every test was passed but 2, of the slices that a call is lent
pub record Passed (s : State) (l : Lines) : Type 0 where
  -- 1: counts within their limits and the ledger's, and a last closed month that is 0 or possible
  pub users : length l.users ≡ s.users
  pub agents : length l.agents ≡ s.agents
  pub some_users : 0 < s.users
  pub few_users : s.users ≤ 512
  pub some_agents : 0 < s.agents
  pub few_agents : s.agents ≤ 256
  pub few_points : length l.points ≤ 1024
  pub last_month : s.month ≢ pos 0 → Possible s.month
  -- 3: the month is possible, and later than the last closed
  pub month : Possible l.line.month
  pub later : s.month <ℤ l.line.month
  -- 4: each held credit
  pub credits : (j : ℕ) → j < length s.credits → Within (pos 0) (pos most_held) (get_or s.credits j (pos 0))
  -- 5, 6, 7: each line, counted from 0
  pub ons : Amount l.line.ons
  pub agent : (i : ℕ) → i < length l.agents → AgentFits (suc i) (get_or l.agents i (agent_of []))
  pub user : (j : ℕ) → j < length l.users → UserFits (suc j) (get_or l.users j (user_of []))
  pub point : (k : ℕ) → k < length l.points → PointPassed l.users (get_or l.points k (point_of []))
  -- 8, 9, 10: the sums that are divided by
  pub pb_total : sum_ℤ (pbs l.agents) ≢ pos 0
  pub EUST_total : pos 0 <ℤ pv_total l → sum_ℤ (EUSTs l) ≢ pos 0
  pub VD_total : sum_ℤ (VDs s l) ≢ pos 0

-- a test that holds
not_equal : (a b : ℤ) → a ≢ b → not (eq_z a b) ≡ true
not_equal a b h = go (eq_z a b) refl
  where
    go : (t : Bool) → eq_z a b ≡ t → not t ≡ true
    go true e = absurd (h (eq_z_true a b e))
    go false e = refl

pub lt_z_is : {a b : ℤ} → a <ℤ b → lt_z a b ≡ true
lt_z_is h = is_true _ h.lt

-- ---- what the parts of `refusal` tell
pub between : (n most : ℕ) → (eqb n 0 || ltb most n) ≡ false → (0 < n) × (n ≤ most)
between n most e =
    let f = or_false (eqb n 0) (ltb most n) e in
    let z : n ≡ 0 → ⊥ = eqb-false n 0 f.0 in
    (omega (arith, z), ltb-false most n f.1)

pub record Counts (s : State) (users agents points : ℕ) : Type 0 where
  pub users_between : (0 < users) × (users ≤ 512)
  pub agents_between : (0 < agents) × (agents ≤ 256)
  pub few_points : points ≤ 1024
  pub same_users : users ≡ s.users
  pub same_agents : agents ≡ s.agents
  pub last_month : s.month ≢ pos 0 → Possible s.month

pub counts : (s : State) (users agents points : ℕ) → bad_counts s users agents points ≡ false → Counts s users agents points
unfolding bad_counts
counts s users agents points e =
    let e₅ = or_false _ _ e in
    let e₄ = or_false _ _ e₅.0 in
    let e₃ = or_false _ _ e₄.0 in
    let e₂ = or_false _ _ e₃.0 in
    let e₁ = or_false _ _ e₂.0 in
    record {
      users_between = between _ 512 e₁.0;
      agents_between = between _ 256 e₁.1;
      few_points = ltb-false _ _ e₂.1;
      same_users = eqb-true _ _ (not-false _ e₃.1);
      same_agents = eqb-true _ _ (not-false _ e₄.1);
      last_month = λ z. possible _ (and_false _ _ e₅.1 (not_equal _ _ z));
    }

-- 2 of a closing: no slice too short
pub record Slices (s : State) (n : Lengths) : Type 0 where
  pub held : s.users ≤ n.held
  pub cells : cells_needed s.users s.agents ≤ n.cells
  pub work : work_needed s.users s.agents ≤ n.work

pub slices : (s : State) (n : Lengths) → short_slices s n ≡ accepted → Slices s n
unfolding short_slices
slices s n e =
    let a = when_then _ 2 1 _ e in
    let b = when_then _ 2 2 _ a.1 in
    record { held = ltb-false _ _ a.0; cells = ltb-false _ _ b.0; work = ltb-false _ _ (when_accepted _ 2 3 b.1) }

month_after : (last month : ℤ) → bad_month last month ≡ false → Possible month × (last <ℤ month)
unfolding bad_month
month_after last month e = let f = or_false _ _ e in (possible _ f.0, lt_out (le_z_false month last f.1))

-- 3 and 4
pub record StatePassed (s : State) (line : MonthLine) : Type 0 where
  pub month : Possible line.month
  pub later : s.month <ℤ line.month
  pub credits : (j : ℕ) → j < length s.credits → Within (pos 0) (pos most_held) (get_or s.credits j (pos 0))

pub state_passed : (s : State) (line : MonthLine) → state_tests s line ≡ accepted → StatePassed s line
unfolding state_tests
state_passed s line e =
    let a = when_then (bad_month s.month line.month) 3 0 _ e in
    let m = month_after s.month line.month a.0 in
    record {
      month = m.0;
      later = m.1;
      credits = λ j h. outside_false _ _ _ (when_accepted _ 4 (suc j) (each_from_1 credit_test s.credits (pos 0) a.1 j h));
    }

-- ons and the lines of each block
pub record LinesPassed (l : Lines) : Type 0 where
  pub ons : Amount l.line.ons
  pub agent : (i : ℕ) → i < length l.agents → AgentFits (suc i) (get_or l.agents i (agent_of []))
  pub user : (j : ℕ) → j < length l.users → UserFits (suc j) (get_or l.users j (user_of []))
  pub point : (k : ℕ) → k < length l.points → PointPassed l.users (get_or l.points k (point_of []))

pub lines_passed : (l : Lines) → line_tests l ≡ accepted → LinesPassed l
unfolding line_tests lines_before_points
lines_passed l e =
    let p = then_accepted (lines_before_points l.line l.agents l.users) _ e in
    let a = when_then _ 5 0 _ p.0 in
    let b = then_accepted (each_line agent_test 1 l.agents) _ a.1 in
    record {
      ons = outside_false _ _ _ a.0;
      agent = λ i h. agent_fits _ _ (when_accepted _ 5 (suc i) (each_from_1 agent_test l.agents (agent_of []) b.0 i h));
      user = λ j h. user_fits _ _ (when_accepted _ 5 (suc j) (each_from_1 user_test l.users (user_of []) b.1 j h));
      point = λ k h. point_passed l.users (suc k) _ (each_from_1 (point_test l.users) l.points (point_of []) p.1 k h);
    }

sums :
    (s : State) (l : Lines)
    → sum_tests s l ≡ accepted
    → (sum_ℤ (pbs l.agents) ≢ pos 0) × (pos 0 <ℤ pv_total l → sum_ℤ (EUSTs l) ≢ pos 0) × (sum_ℤ (VDs s l) ≢ pos 0)
unfolding sum_tests
sums s l e =
    let d = then_accepted (weight_tests (sum_ℤ (pbs l.agents)) (pv_total l) (sum_ℤ (EUSTs l))) _ e in
    let a = when_then _ 8 0 _ d.0 in
    (eq_z_false _ _ a.0, λ h. eq_z_false _ _ (and_false _ _ (when_accepted _ 9 0 a.1) (lt_z_is h)), eq_z_false _ _ (when_accepted _ 10 0 d.1))

-- the groups of a closing's refusals
module _ (s : State) (short : Verdict) (l : Lines) (e : refusal s short l ≡ accepted) where
  parts :
      (count_tests s short (length l.users) (length l.agents) (length l.points) ≡ accepted)
      × (state_tests s l.line ≡ accepted)
      × (line_tests l ≡ accepted)
      × (sum_tests s l ≡ accepted)
  unfolding refusal
  parts =
      let a = then_accepted (count_tests s short (length l.users) (length l.agents) (length l.points)) _ e in
      let b = then_accepted (state_tests s l.line) _ a.1 in
      let c = then_accepted (line_tests l) _ b.1 in
      (a.0, b.0, c.0, c.1)

  -- 2
  pub slices_accepted : short ≡ accepted
  unfolding count_tests
  slices_accepted = (when_then (bad_counts s (length l.users) (length l.agents) (length l.points)) 1 0 _ parts.0).1

  -- what its amounts ask, where there is one held credit for each user
  pub tested : length s.credits ≡ s.users → Tested s l
  unfolding count_tests
  tested w =
      let e = (when_then (bad_counts s (length l.users) (length l.agents) (length l.points)) 1 0 _ parts.0).0 in
      record { counts = e; state = parts.1; lines = parts.2; held = w ∙ sym (counts s _ _ _ e).same_users }

  -- all others
  pub passed : Passed s l
  unfolding count_tests
  passed =
      let first = counts s _ _ _ (when_then (bad_counts s (length l.users) (length l.agents) (length l.points)) 1 0 _ parts.0).0 in
      let state = state_passed s l.line parts.1 in
      let lines = lines_passed l parts.2 in
      let last = sums s l parts.3 in
      record {
        users = first.same_users;
        agents = first.same_agents;
        some_users = omega (arith, first.same_users, first.users_between);
        few_users = omega (arith, first.same_users, first.users_between);
        some_agents = omega (arith, first.same_agents, first.agents_between);
        few_agents = omega (arith, first.same_agents, first.agents_between);
        few_points = first.few_points;
        last_month = first.last_month;
        month = state.month;
        later = state.later;
        credits = state.credits;
        ons = lines.ons;
        agent = lines.agent;
        user = lines.user;
        point = lines.point;
        pb_total = last.0;
        EUST_total = last.1;
        VD_total = last.2;
      }
