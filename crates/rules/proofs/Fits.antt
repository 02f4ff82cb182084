-- A month and lines with every value in its range: what the tests for 3, 5, 6 and 7 tell of those that they let pass.
use Prim.Native.Nat.{ℕ}
use mathlib.Core.Path.{◌≡◌}
use mathlib.Core.Bool.{false}
use mathlib.Core.List.{List}
use lib.IntN.{ℤ, pos}
use lib.ListN.{length}
use borrow.Author.Tests.{not-false}
use Rattle.ints.specs.Range.{outside, Within, or_false, outside_false, within_false, eq_z_true}
use Rattle.rules.specs.declared.Point.{Point}
use Rattle.rules.specs.Verdict.{accepted}
use Rattle.rules.specs.Calendar.{month_of_year, impossible_month}
use Rattle.rules.specs.declared.Agent.{Agent}
use Rattle.rules.specs.declared.User.{User}
use Rattle.rules.specs.Lines.{kind_of, bad_amounts, bad_band, bad_agent, bad_user, bad_point, unfit_point}
use Rattle.rules.specs.Refusals.{point_test}
use Rattle.rules.specs.Ranges.{Amount, Tariff, Discount, Power}
use Rattle.rules.specs.Limits.{AgentFits, UserFits, PointFits}
use Rattle.rules.proofs.Tests.{when_accepted, when_then}

-- a month that there is
pub record Possible (m : ℤ) : Type 0 where
  pub year : Within (pos 200001) (pos 209912) m
  pub mm : Within (pos 1) (pos 12) (month_of_year m)

pub possible : (m : ℤ) → impossible_month m ≡ false → Possible m
unfolding impossible_month
possible m e = let f = or_false _ _ e in record { year = outside_false _ _ _ f.0; mm = outside_false _ _ _ f.1 }

pub not_impossible : {m : ℤ} → Possible m → impossible_month m ≡ false
unfolding impossible_month
not_impossible p = rw (within_false _ _ _ p.year, within_false _ _ _ p.mm)

-- four values of one kind, or of a band, each tested in turn
amounts_within : {pb pv afs rfs : ℤ} → bad_amounts pb pv afs rfs ≡ false → Amount pb × Amount pv × Amount afs × Amount rfs
amounts_within e =
    let e₃ = or_false _ _ e in
    let e₂ = or_false _ _ e₃.0 in
    let e₁ = or_false _ _ e₂.0 in
    (outside_false _ _ _ e₁.0, outside_false _ _ _ e₁.1, outside_false _ _ _ e₂.1, outside_false _ _ _ e₃.1)

band_within :
    {tariff discount contracted verified : ℤ}
    → bad_band tariff discount contracted verified ≡ false
    → Tariff tariff × Discount discount × Power contracted × Power verified
band_within e =
    let e₃ = or_false _ _ e in
    let e₂ = or_false _ _ e₃.0 in
    let e₁ = or_false _ _ e₂.0 in
    (outside_false _ _ _ e₁.0, outside_false _ _ _ e₁.1, outside_false _ _ _ e₂.1, outside_false _ _ _ e₃.1)

-- an agent line, a user line, a point's own values
pub agent_fits : (k : ℕ) (a : Agent) → bad_agent k a ≡ false → AgentFits k a
unfolding bad_agent
agent_fits k a e =
    let e₃ = or_false _ _ e in
    let e₂ = or_false _ _ e₃.0 in
    let e₁ = or_false _ _ e₂.0 in
    let m = amounts_within e₁.1 in
    record {
      number = eq_z_true _ _ (not-false _ e₁.0);
      amounts = record { pb = m.0; pv = m.1; afs = m.2; rfs = m.3; pa = outside_false _ _ _ e₂.1; ret = outside_false _ _ _ e₃.1 };
    }

pub user_fits : (k : ℕ) (u : User) → bad_user k u ≡ false → UserFits k u
unfolding bad_user
user_fits k u e =
    let e₃ = or_false _ _ e in
    let e₂ = or_false _ _ e₃.0 in
    let e₁ = or_false _ _ e₂.0 in
    record {
      number = eq_z_true _ _ (not-false _ e₁.0);
      kind = outside_false _ _ _ e₁.1;
      ret = outside_false _ _ _ e₂.1;
      ong = outside_false _ _ _ e₃.1;
    }

pub point_fits : (p : Point) → bad_point p ≡ false → PointFits p
unfolding bad_point
point_fits p e =
    let b = or_false _ _ e in
    let peak = band_within b.0 in
    let off = band_within b.1 in
    record { tp = peak.0; tf = off.0; dp = peak.1; df = off.1; mp = peak.2; mf = off.2; vp = peak.3; vf = off.3 }

-- a point among these users
pub record PointPassed (users : List User) (p : Point) : Type 0 where
  pub values : PointFits p
  pub user : Within (pos 1) (pos (length users)) p.user
  pub fit : unfit_point (kind_of users p.user) p ≡ false

pub point_passed : (users : List User) (k : ℕ) (p : Point) → point_test users k p ≡ accepted → PointPassed users p
point_passed users k p e =
    let a = when_then (bad_point p) 5 k _ e in
    let b = when_then (outside (pos 1) (pos (length users)) p.user) 6 k _ a.1 in
    record { values = point_fits p a.0; user = outside_false _ _ _ b.0; fit = when_accepted _ 7 k b.1 }
