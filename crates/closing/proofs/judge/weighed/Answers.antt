-- 8 and 9 by the sums, then the amounts, then 10 by theirs. What each step asks is what the month has passed.
use Rattle.std.proofs.Common.{◌≡◌, length, sym, ap, ◌∙◌, w64, SFits, to_z, of_z, rules}
use mir.Facts.{to_z-of_z}
use Rattle.rules.specs.Verdict.{accepted}
use Rattle.rules.specs.Lines.{lines_of}
use Rattle.rules.specs.State.{State}
use Rattle.rules.specs.Answers.{verdict_of}
use Rattle.rules.specs.Refusals.{debit_test, sum_tests}
use Rattle.charges.specs.Month.{Month, Billed}
use Rattle.credits.proofs.Amounts.{pb_summable, pv_summable}
use Rattle.closing.specs.Judged.{Weighable}
use Rattle.closing.proofs.Judging.{stops}
use Rattle.closing.proofs.Weighing.{weights, agents_asked, few_users, total_asked, sums_order, debits_left, bill_asked}
use Rattle.closing.proofs.judge.weighed.Goals as goal
use Rattle.closing.proofs.judge.weighed.Goals.{After-weights_verdict, In_ok-weights_verdict, After-bill-bills}

-- what the sums have come to
weights_told : (c : After-weights_verdict) → verdict_of c.weights_verdict.result ≡ weights (lines_of c.args.month) c.args.sums.now
weights_told c =
    let pv : SFits w64 c.pv_total-pv.result = search rules in
    let pb : SFits w64 c.pb_total-pb.result = search rules in
    let uses : SFits w64 c.total.result = search rules in
    rw (sym c.pb_total-pb.ensures, sym c.pv_total-pv.ensures, sym c.total.ensures) (simp (to_z-of_z, pv, pb, uses) at c.weights_verdict.ensures)

-- what the amounts ask, and what they have come to
weights_passed : (c : In_ok-weights_verdict) → weights (lines_of c.args.month) c.args.sums.now ≡ accepted
weights_passed c = sym (weights_told c.before.before) ∙ ap verdict_of c.in_ok-weights_verdict.was

month_asked :
    (c : In_ok-weights_verdict) {st : State}
    → Weighable c.args.held.now (lines_of c.args.month) c.args.sums.now st
    → Month c.args.month.users.now c.args.sums.now (to_z w64 (of_z w64 c.pv_total-pv.result)) c.args.held.now st (lines_of c.args.month)
month_asked c t =
    let f : SFits w64 c.pv_total-pv.result = search rules in
    rw (to_z-of_z f, c.pv_total-pv.ensures) (bill_asked t (weights_passed c))

module _ (c : After-bill-bills) {st : State} (t : Weighable c.args.held.now (lines_of c.args.month) c.args.sums.now st) where
  billed : Billed (length c.args.month.users.now) st (lines_of c.args.month) c.bill-bills.result
  billed = c.bill-bills.ensures _ _ (month_asked c.before.before t)

  -- 10, which is left
  debits_told : debit_test (to_z w64 (of_z w64 c.bill-bills.result.total)) ≡ sum_tests st (lines_of c.args.month)
  debits_told =
      let f : SFits w64 c.bill-bills.result.total = search rules in
      ap debit_test (to_z-of_z f ∙ billed.total) ∙ debits_left t (weights_passed c.before.before)

pub shared_ref_as_front-uses : goal.shared_ref_as_front-uses
shared_ref_as_front-uses c = few_users c.requires.1

pub pb_total-pb-requires : goal.pb_total-pb-requires
pb_total-pb-requires c = pb_summable (agents_asked c.requires.1)

pub pv_total-pv-requires : goal.pv_total-pv-requires
pv_total-pv-requires c = pv_summable (agents_asked c.requires.1)

pub total-requires : goal.total-requires
total-requires c = total_asked c.requires.1

pub returns-in_err-weights_verdict : goal.returns-in_err-weights_verdict
returns-in_err-weights_verdict c st t =
    stops _ c.from_residual.result c.from_residual.ensures.1
    (rw (sym (weights_told c.before.before.before) ∙ ap verdict_of c.in_err-weights_verdict.was) at (sums_order t))

pub bill-bills-requires : goal.bill-bills-requires
bill-bills-requires c = (_, _, month_asked c.before c.requires.1)

pub returns-in_err-debits_verdict : goal.returns-in_err-debits_verdict
returns-in_err-debits_verdict c st t =
    stops _ c.from_residual-in_err-debits_verdict.result c.from_residual-in_err-debits_verdict.ensures.1
    (c.in_err-debits_verdict.ensures ∙ debits_told c.before.before.before.before.before t)

pub returns : goal.returns
returns c st t =
    let b = c.before.before.before.before in
    record { verdict = c.in_ok-debits_verdict.ensures ∙ debits_told b t; found = billed b t }
