-- The limits of opening and closing agree with their refusals: of any arguments, the first limit that is broken is the one that the call
-- is refused for, and a call that keeps all is accepted. Assumes nothing.
use Prim.Native.Nat.{ℕ, ◌<◌}
use mathlib.Core.Path.{◌≡◌, sym, subst}
use mathlib.Core.Logic.{◌↔◌}
use mathlib.Core.Bool.{false, ◌&&◌}
use mathlib.Core.List.{List, []}
use native.Mathlib.Omega.{arith}
use lib.IntN.{ℤ, pos}
use lib.ListN.{length, get_or, length-map}
use lib.Signed.{lt_z, ◌≤ℤ◌, ◌<ℤ◌}
use Rattle.ints.specs.Bridge.{za, lt_z_true, lt_out}
use Rattle.ints.specs.Range.{eq_z, eq_z_false, eq_z_not}
use Rattle.ints.specs.Sums.{sum_ℤ, sum_nonneg}
use Rattle.rules.specs.Verdict.{Verdict, when, ◌then◌, each_line}
use Rattle.rules.specs.Lists.{get_d_map}
use Rattle.rules.specs.declared.Agent.{Agent}
use Rattle.rules.specs.Lines.{Lines, agent_of, point_of, bad_amount}
use Rattle.rules.specs.State.{State}
use Rattle.rules.specs.Charges.{use_charge, pv_total, EUSTs, ns, VDs}
use Rattle.rules.specs.Credits.{pbs}
use Rattle.rules.specs.declared.Lengths.{Lengths}
use Rattle.rules.specs.Refusals.{bad_counts, short_slices, bad_month, credit_test, agent_test, user_test, point_test}
use Rattle.rules.specs.Refusals.{count_tests, state_tests, lines_before_points, line_tests, debit_test, sum_tests, refusal, opening_refusal}
use Rattle.rules.specs.Limits.{Limit, Each, AgentFits, opening_limits}
use Rattle.rules.specs.Limits.{closing_rooms, credit_limit, agent_limit, user_limit, point_limits, month_limits, closing_limits}
use Rattle.rules.proofs.Tests.{and_false, then_assoc}
use Rattle.rules.proofs.Passed.{lt_z_is}
use Rattle.rules.proofs.Entries.{sum_or_zero}
use Rattle.rules.proofs.PerUser.{Upto, all_users}
use Rattle.rules.proofs.BoundsPoint.{use_bounds}
use Rattle.rules.proofs.BoundsCharges.{above}
use Rattle.rules.proofs.Limits.{Agrees, agrees_when, agrees_before, agrees_lines, each_at}
use Rattle.rules.proofs.LimitsTests.{counts_fit, long_enough, rooms_agree, counts_agree, later_agrees, in_range, of_kind}
use Rattle.rules.proofs.LimitsTests.{credit_agrees, agent_agrees, user_agrees, point_agrees}

-- ---- opening
pub opening_agrees : (users agents held : ℕ) → Agrees (opening_limits users agents held) (opening_refusal users agents held)
unfolding opening_refusal
opening_agrees users agents held =
    agrees_before _ _ (agrees_when _ 1 0 (counts_fit users agents)) (λ k. agrees_when _ 2 1 (long_enough users held))

-- ---- 8, 9, 10: no sum is negative, so one that is not 0 is above 0
above_zero : (x : ℤ) → pos 0 ≤ℤ x → (pos 0 <ℤ x) ↔ (eq_z x (pos 0) ≡ false)
above_zero x n = (λ h. eq_z_not x (pos 0) (λ z. absurd (omega za)), λ e. above n (eq_z_false x (pos 0) e))

weighed : (pv EUST : ℤ) → pos 0 ≤ℤ EUST → (pos 0 <ℤ pv → pos 0 <ℤ EUST) ↔ ((lt_z (pos 0) pv && eq_z EUST (pos 0)) ≡ false)
weighed pv EUST n = (
  λ h. of_kind (lt_z (pos 0) pv) _ (λ e. h (lt_out (lt_z_true (pos 0) pv e))) (above_zero EUST n).0,
  λ e h. (above_zero EUST n).1 (and_false _ _ e (lt_z_is h)),
)

pb_nonneg : (agents : List Agent) → Each AgentFits 1 agents → pos 0 ≤ℤ sum_ℤ (pbs agents)
pb_nonneg agents e =
    sum_nonneg (pbs agents)
    (record {
      at = λ i h.
          let k : i < length agents = omega (arith, length-map agents (λ (a : Agent). a.pb)) in
          rw (get_d_map (λ (a : Agent). a.pb) agents i (agent_of []) (pos 0) k) (each_at AgentFits 1 agents (agent_of []) e i k).amounts.pb.above;
    })

EUST_nonneg : (l : Lines) → Each (λ k p. (point_limits l.users k p).keeps) 1 l.points → pos 0 ≤ℤ sum_ℤ (EUSTs l)
unfolding EUSTs
EUST_nonneg l e = let u = all_users {g = λ u. use_charge} 1 l.users l.points (λ u. record { at = charge }) in omega (za, u)
  where
    charge : (m : ℕ) → m < length l.points → Upto 400000000000 (use_charge (get_or l.points m (point_of [])))
    charge m h =
        let w = (use_bounds (each_at (λ k p. (point_limits l.users k p).keeps) 1 l.points (point_of []) e m h).0).charge in
        record { low = omega arith; high = w.high }

VD_nonneg : (s : State) (l : Lines) → pos 0 ≤ℤ sum_ℤ (VDs s l)
unfolding VDs
VD_nonneg s l = sum_or_zero (ns s l)

-- ---- THE ORDER: one test after the other
in_a_row :
    (s : State) (short : Verdict) (l : Lines)
    → refusal s short l
    ≡ (when (bad_counts s (length l.users) (length l.agents) (length l.points)) 1 0
    then short
    then when (bad_month s.month l.line.month) 3 0
    then each_line credit_test 1 s.credits
    then when (bad_amount l.line.ons) 5 0
    then each_line agent_test 1 l.agents
    then each_line user_test 1 l.users
    then each_line (point_test l.users) 1 l.points
    then when (eq_z (sum_ℤ (pbs l.agents)) (pos 0)) 8 0
    then when (lt_z (pos 0) (pv_total l) && eq_z (sum_ℤ (EUSTs l)) (pos 0)) 9 0
    then debit_test (sum_ℤ (VDs s l)))
unfolding refusal count_tests state_tests line_tests lines_before_points sum_tests
in_a_row s short l = simp then_assoc

pub month_agrees : (s : State) (rooms : Limit) (short : Verdict) (l : Lines) → Agrees rooms short → Agrees (month_limits s rooms l) (refusal s short l)
month_agrees s rooms short l r =
    subst (λ (v : Verdict). Agrees (month_limits s rooms l) v) (sym (in_a_row s short l))
    (agrees_before _ _ (agrees_when _ 1 0 (counts_agree s l))
    (λ h. agrees_before _ _ r
    (λ h. agrees_before _ _ (agrees_when _ 3 0 (later_agrees s.month l.line.month))
    (λ h. agrees_before _ _ (agrees_lines credit_limit credit_test credit_agrees s.credits)
    (λ h. agrees_before _ _ (agrees_when _ 5 0 (in_range _ _ l.line.ons))
    (λ h. agrees_before _ _ (agrees_lines agent_limit agent_test agent_agrees l.agents)
    (λ agents. agrees_before _ _ (agrees_lines user_limit user_test user_agrees l.users)
    (λ h. agrees_before _ _ (agrees_lines (point_limits l.users) (point_test l.users) (point_agrees l.users) l.points)
    (λ points. agrees_before _ _ (agrees_when _ 8 0 (above_zero _ (pb_nonneg l.agents agents)))
    (λ h. agrees_before _ _ (agrees_when _ 9 0 (weighed _ _ (EUST_nonneg l points)))
    (λ h. agrees_when _ 10 0 (above_zero _ (VD_nonneg s l)))))))))))))

pub closing_agrees : (s : State) (n : Lengths) (l : Lines) → Agrees (closing_limits s n l) (refusal s (short_slices s n) l)
closing_agrees s n l = month_agrees s (closing_rooms s n) (short_slices s n) l (rooms_agree s n)
