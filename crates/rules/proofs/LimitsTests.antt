-- Each limit of opening and closing beside its test for refusals 1 to 7: the limit is kept exactly where the test does not hold. Assumes
-- nothing.
use Prim.Native.Nat.{ℕ, ◌≤◌}
use mathlib.Core.Path.{◌≡◌, refl}
use mathlib.Core.Logic.{◌⊎◌, inl, inr, ◌↔◌}
use mathlib.Core.Bool.{Bool, true, false, not, ◌&&◌, ◌||◌}
use mathlib.Core.List.{List}
use native.Mathlib.Omega.{arith}
use lib.Dec.{eqb, ltb}
use lib.IntN.{ℤ, pos}
use lib.ListN.{length}
use lib.Signed.{le_z, ◌<ℤ◌}
use borrow.Author.Tests.{ltb-false, le-ltb, eqb-true, eq-eqb, ne_eqb, not-false}
use Rattle.ints.specs.Bridge.{za, le_z_false, lt_out}
use Rattle.ints.specs.Range.{Within, outside, or_false, outside_false, within_false, eq_z, eq_z_true, eq_z_refl}
use Rattle.rules.specs.declared.Point.{Point}
use Rattle.rules.specs.Calendar.{impossible_month}
use Rattle.rules.specs.declared.Agent.{Agent}
use Rattle.rules.specs.declared.User.{User}
use Rattle.rules.specs.Lines.{Lines, generator, distributor, non_zero, bad_agent, bad_user, bad_point, unfit_point}
use Rattle.rules.specs.State.{State}
use Rattle.rules.specs.declared.Lengths.{Lengths}
use Rattle.rules.specs.Refusals.{bad_users, bad_agents, bad_counts, short_slices, bad_month, credit_test, agent_test, user_test, point_test}
use Rattle.rules.specs.Limits.{Month, AgentFits, UserFits, PointFits, KindFits, CountsFit}
use Rattle.rules.specs.Limits.{CountsAgree, closing_rooms, Later, credit_limit, agent_limit, user_limit, point_limits}
use Rattle.rules.proofs.Tests.{and_false}
use Rattle.rules.proofs.Fits.{agent_fits, user_fits, point_fits}
use Rattle.rules.proofs.Months.{month_possible}
use Rattle.rules.proofs.Passed.{between}
use Rattle.rules.proofs.Limits.{Agrees, agrees_when, agrees_before}

-- ---- tests that fail
neither : {a b : Bool} → a ≡ false → b ≡ false → (a || b) ≡ false
neither e f = rw (e, f)

not_unlike : {a b : ℤ} → a ≡ b → not (eq_z a b) ≡ false
not_unlike {a} {b} e = rw (e, eq_z_refl b)

-- ---- 1 and 2
pub counts_fit : (users agents : ℕ) → CountsFit users agents ↔ ((bad_users users || bad_agents agents) ≡ false)
counts_fit users agents = (there, back)
  where
    within : (n most : ℕ) → 1 ≤ n → n ≤ most → (eqb n 0 || ltb most n) ≡ false
    within n most a b = let z : n ≡ 0 → ⊥ = λ e. omega arith in neither (ne_eqb n 0 z) (le-ltb most n b)

    there : CountsFit users agents → (bad_users users || bad_agents agents) ≡ false
    there f = neither (within users 512 f.some_users f.few_users) (within agents 256 f.some_agents f.few_agents)

    back : (bad_users users || bad_agents agents) ≡ false → CountsFit users agents
    back e =
        let f = or_false _ _ e in
        let u = between users 512 f.0 in
        let a = between agents 256 f.1 in
        record { some_users = u.0; few_users = u.1; some_agents = a.0; few_agents = a.1 }

last_closed : (m : ℤ) → ((m ≡ pos 0) ⊎ Month m) ↔ ((not (eq_z m (pos 0)) && impossible_month m) ≡ false)
last_closed m = (there, back (eq_z m (pos 0)) refl)
  where
    right : (a : Bool) {b : Bool} → b ≡ false → (a && b) ≡ false
    right true e = e
    right false e = refl

    there : (m ≡ pos 0) ⊎ Month m → (not (eq_z m (pos 0)) && impossible_month m) ≡ false
    there (inl e) = rw (not_unlike e)
    there (inr h) = right (not (eq_z m (pos 0))) ((month_possible m).0 h)

    back : (t : Bool) → eq_z m (pos 0) ≡ t → (not t && impossible_month m) ≡ false → (m ≡ pos 0) ⊎ Month m
    back true e f = inl (eq_z_true m (pos 0) e)
    back false e f = inr ((month_possible m).1 f)

pub counts_agree : (s : State) (l : Lines) → CountsAgree s l ↔ (bad_counts s (length l.users) (length l.agents) (length l.points) ≡ false)
unfolding bad_counts
counts_agree s l = (there, back)
  where
    there : CountsAgree s l → bad_counts s (length l.users) (length l.agents) (length l.points) ≡ false
    there c =
        neither
        (neither
        (neither (neither ((counts_fit _ _).0 c.fit) (le-ltb _ _ c.few_points)) (rw (eq-eqb _ _ c.users)))
        (rw (eq-eqb _ _ c.agents)))
        ((last_closed s.month).0 c.last)

    back : bad_counts s (length l.users) (length l.agents) (length l.points) ≡ false → CountsAgree s l
    back e =
        let e₅ = or_false _ _ e in
        let e₄ = or_false _ _ e₅.0 in
        let e₃ = or_false _ _ e₄.0 in
        let e₂ = or_false _ _ e₃.0 in
        record {
          fit = (counts_fit _ _).1 e₂.0;
          few_points = ltb-false _ _ e₂.1;
          users = eqb-true _ _ (not-false _ e₃.1);
          agents = eqb-true _ _ (not-false _ e₄.1);
          last = (last_closed s.month).1 e₅.1;
        }

pub long_enough : (need n : ℕ) → (need ≤ n) ↔ (ltb n need ≡ false)
long_enough need n = (le-ltb n need, ltb-false n need)

-- the slices that a closing is lent
pub rooms_agree : (s : State) (n : Lengths) → Agrees (closing_rooms s n) (short_slices s n)
unfolding short_slices
rooms_agree s n =
    agrees_before _ _ (agrees_when _ 2 1 (long_enough _ _))
    (λ k. agrees_before _ _ (agrees_when _ 2 2 (long_enough _ _)) (λ k. agrees_when _ 2 3 (long_enough _ _)))

-- ---- 3 and 4
pub later_agrees : (last month : ℤ) → Later last month ↔ (bad_month last month ≡ false)
unfolding bad_month
later_agrees last month = (
  λ t. neither ((month_possible month).0 t.month_is) (not_le t.later),
  λ e. let f = or_false _ _ e in record { month_is = (month_possible month).1 f.0; later = lt_out (le_z_false month last f.1) },
)
  where
    not_le : last <ℤ month → le_z month last ≡ false
    not_le h = go (le_z month last) refl
      where
        go : (t : Bool) → le_z month last ≡ t → t ≡ false
        go true e = absurd (omega za)
        go false e = refl

pub in_range : (low high x : ℤ) → Within low high x ↔ (outside low high x ≡ false)
in_range low high x = (within_false low high x, outside_false low high x)

pub credit_agrees : (k : ℕ) (x : ℤ) → Agrees (credit_limit k x) (credit_test k x)
credit_agrees k x = agrees_when _ 4 k (in_range _ _ x)

-- ---- 5, 6, 7
agent_fine : (k : ℕ) (a : Agent) → AgentFits k a → bad_agent k a ≡ false
unfolding bad_agent
agent_fine k a f =
    let m = f.amounts in
    rw (
      not_unlike f.number,
      within_false _ _ _ m.pb,
      within_false _ _ _ m.pv,
      within_false _ _ _ m.afs,
      within_false _ _ _ m.rfs,
      within_false _ _ _ m.pa,
      within_false _ _ _ m.ret,
    )

pub agent_agrees : (k : ℕ) (a : Agent) → Agrees (agent_limit k a) (agent_test k a)
agent_agrees k a = agrees_when _ 5 k (agent_fine k a, agent_fits k a)

user_fine : (k : ℕ) (u : User) → UserFits k u → bad_user k u ≡ false
unfolding bad_user
user_fine k u f = rw (not_unlike f.number, within_false _ _ _ f.kind, within_false _ _ _ f.ret, within_false _ _ _ f.ong)

pub user_agrees : (k : ℕ) (u : User) → Agrees (user_limit k u) (user_test k u)
user_agrees k u = agrees_when _ 5 k (user_fine k u, user_fits k u)

point_fine : (p : Point) → PointFits p → bad_point p ≡ false
unfolding bad_point
point_fine p f =
    rw (
      within_false _ _ _ f.tp,
      within_false _ _ _ f.dp,
      within_false _ _ _ f.mp,
      within_false _ _ _ f.vp,
      within_false _ _ _ f.tf,
      within_false _ _ _ f.df,
      within_false _ _ _ f.mf,
      within_false _ _ _ f.vf,
    )

-- a test that is asked only of one kind
pub of_kind : (t : Bool) {P : Type 0} (b : Bool) → (t ≡ true → P) → (P → b ≡ false) → (t && b) ≡ false
of_kind true b h f = f (h refl)
of_kind false b h f = refl

zero_is : (x : ℤ) → non_zero x ≡ false → x ≡ pos 0
zero_is x e = eq_z_true x (pos 0) (not-false _ e)

kind_agrees : (kind : ℤ) (p : Point) → KindFits kind p ↔ (unfit_point kind p ≡ false)
unfolding unfit_point
kind_agrees kind p = (there, back)
  where
    there : KindFits kind p → unfit_point kind p ≡ false
    there f =
        neither
        (of_kind (eq_z kind generator) _ (λ e. f.bands (eq_z_true _ _ e))
        (λ z. neither (neither (neither (not_unlike z.0) (not_unlike z.1)) (not_unlike z.2)) (not_unlike z.3)))
        (of_kind (eq_z kind distributor) _ (λ e. f.discounts (eq_z_true _ _ e)) (λ z. neither (not_unlike z.0) (not_unlike z.1)))

    back : unfit_point kind p ≡ false → KindFits kind p
    back e =
        let f = or_false _ _ e in
        record {
          bands = λ k.
              let a = or_false _ _ (and_false _ _ f.0 (is kind generator k)) in
              let b = or_false _ _ a.0 in
              let c = or_false _ _ b.0 in
              (zero_is _ c.0, zero_is _ c.1, zero_is _ b.1, zero_is _ a.1);
          discounts = λ k. let a = or_false _ _ (and_false _ _ f.1 (is kind distributor k)) in (zero_is _ a.0, zero_is _ a.1);
        }
      where
        is : (a b : ℤ) → a ≡ b → eq_z a b ≡ true
        is a b k = rw (k, eq_z_refl b)

pub point_agrees : (users : List User) (k : ℕ) (p : Point) → Agrees (point_limits users k p) (point_test users k p)
point_agrees users k p =
    agrees_before _ _ (agrees_when _ 5 k (point_fine p, point_fits p))
    (λ h. agrees_before _ _ (agrees_when _ 6 k (in_range _ _ p.user)) (λ h. agrees_when _ 7 k (kind_agrees _ p)))
