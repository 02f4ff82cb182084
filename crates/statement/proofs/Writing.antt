-- A month that nothing refuses has what the rows of its points, its users and its payees ask.
use Prim.Native.Nat.{suc}
use mathlib.Core.Path.{◌≡◌}
use mathlib.Core.Bool.{false, ◌&&◌}
use mathlib.Core.List.{List, []}
use lib.IntN.{ℤ, pos}
use lib.ListN.{length, get_or}
use lib.Signed.{lt_z}
use Rattle.ints.specs.Adding.{Summable}
use Rattle.ints.specs.Range.{Within, eq_z}
use Rattle.ints.specs.Sums.{sum_ℤ}
use Rattle.rules.specs.declared.Ledger.{Ledger}
use Rattle.rules.specs.Verdict.{Verdict}
use Rattle.rules.specs.Most.{most_direct}
use Rattle.rules.specs.Lines.{Lines, point_of, bad_point}
use Rattle.rules.specs.State.{State}
use Rattle.rules.specs.Charges.{pvs, pv_total, EUSTs}
use Rattle.rules.specs.Credits.{pbs}
use Rattle.rules.specs.Direct.{ongs}
use Rattle.rules.specs.Refusals.{point_test, count_tests, state_tests, lines_before_points, line_tests, weight_tests, sum_tests, refusal}
use Rattle.rules.specs.Tested.{Tested}
use Rattle.rules.proofs.Tests.{then_accepted, when_accepted, when_then, each_from_1}
use Rattle.rules.proofs.Passed.{passed, tested}
use Rattle.rules.proofs.BoundsDirect.{DirectBounds, bounds_direct}
use Rattle.charges.specs.declared.scan.Sums.{Sums}
use Rattle.charges.specs.declared.month.Bills.{Bills}
use Rattle.charges.specs.Month.{Month}
use Rattle.charges.proofs.Ready.{pv_is, ready}
use Rattle.credits.specs.Payable.{Payable}
use Rattle.credits.proofs.Tested.{payable_passed}
use Rattle.statement.specs.declared.PointRow.{PointRow}
use Rattle.statement.specs.declared.UserRow.{UserRow}
use Rattle.statement.specs.declared.PayeeRow.{PayeeRow}
use Rattle.statement.specs.Writes.{InRange, Statable}

module _ {ledger : Ledger} {held : List ℤ} {l : Lines} {s : Sums} {bills : Bills} {xs : List PointRow} {ys : List UserRow} {zs : List PayeeRow}
    {st : State} {short : Verdict} (w : Statable ledger held l s bills xs ys zs st short) where
  tests : Tested st l
  tests = tested st short l w.accepts w.one_each

  nine : (lt_z (pos 0) (pv_total l) && eq_z (sum_ℤ (EUSTs l)) (pos 0)) ≡ false
  unfolding refusal sum_tests
  nine =
      let a = then_accepted (count_tests st short (length l.users) (length l.agents) (length l.points)) _ w.accepts in
      let b = then_accepted (state_tests st l.line) _ a.1 in
      let c = then_accepted (line_tests l) _ b.1 in
      let d = then_accepted (weight_tests (sum_ℤ (pbs l.agents)) (pv_total l) (sum_ℤ (EUSTs l))) _ c.1 in
      when_accepted _ 9 0 (when_then (eq_z (sum_ℤ (pbs l.agents)) (pos 0)) 8 0 _ d.0).1

  pub in_range : InRange l.points
  unfolding line_tests
  in_range i h =
      let t = (then_accepted (lines_before_points l.line l.agents l.users) _ tests.lines).1 in
      let p = each_from_1 (point_test l.users) l.points (point_of []) t i h in
      (when_then (bad_point (get_or l.points i (point_of []))) 5 (suc i) _ p).0

  pub month : Month l.users s (sum_ℤ (pvs l.agents)) held st l
  month = ready tests w.sums (pv_is l) w.held_are nine

  pub payable : Payable bills.total ledger.month l.line l.agents
  payable = rw (w.last_is, w.billed.total) (payable_passed st l w.one_each (passed st short l w.accepts))

  -- ---- the direct charges
  direct_bounds : DirectBounds l
  direct_bounds = bounds_direct (passed st short l w.accepts)

  pub direct_summable : Summable (ongs l.users)
  direct_summable = direct_bounds.summable

  pub direct_within : Within (pos 0) (pos most_direct) (sum_ℤ (ongs l.users))
  direct_within = direct_bounds.total
