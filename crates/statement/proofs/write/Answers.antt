-- The rows of the points, of the users and of the payees, one after the other.
use Rattle.std.proofs.Common.{◌∙◌, rules, to_z-of_z, w64, SFits}
use Rattle.credits.proofs.Amounts.{pv_summable}
use Rattle.statement.specs.Statement.{point_rows}
use Rattle.statement.proofs.Writing.{in_range, month, payable, direct_summable, direct_within}
use Rattle.statement.proofs.write.Goals as goal

pub rows-requires : goal.rows-requires
rows-requires c = let w = c.requires.2 in (in_range w, w.point_count)

pub pv_total-pv-requires : goal.pv_total-pv-requires
pv_total-pv-requires c = pv_summable (payable c.requires.2).lines

pub state_users-requires : goal.state_users-requires
state_users-requires c =
    let w = c.requires.2 in
    let pv : SFits w64 c.pv_total-pv.result = search rules in
    rw (to_z-of_z pv, c.pv_total-pv.ensures) ((_, _, month w, w.billed), w.user_count)

pub invariant_of-payees : goal.invariant_of-payees
invariant_of-payees c =
    let total : SFits w64 c.args.judged.now.bills.total = search rules in
    let last : SFits w64 c.args.standing.ledger.month = search rules in
    record { payable = rw (to_z-of_z total, to_z-of_z last) (payable c.requires.2) }

pub total-requires : goal.total-requires
total-requires c = direct_summable c.requires.2

pub state_payees-requires : goal.state_payees-requires
state_payees-requires c =
    let w = c.requires.2 in
    let direct : SFits w64 c.total.result = search rules in
    rw (to_z-of_z direct, c.total.ensures) (direct_within w, w.payee_count)

pub returns : goal.returns
unfolding point_rows
returns c st short w =
    let pv : SFits w64 c.pv_total-pv.result = search rules in
    let total : SFits w64 c.args.judged.now.bills.total = search rules in
    let last : SFits w64 c.args.standing.ledger.month = search rules in
    let direct : SFits w64 c.total.result = search rules in
    let balance : SFits w64 c.state_payees.result = search rules in
    let payees = rw (to_z-of_z total, to_z-of_z last, to_z-of_z direct, c.total.ensures, w.last_is, w.billed.total) at c.state_payees.ensures in
    record {
      SMSE_is = to_z-of_z balance ∙ payees.SMSE;
      points = c.rows.ensures;
      users = c.state_users.ensures st _ (rw (to_z-of_z pv, c.pv_total-pv.ensures) (month w)) w.billed;
      payees = payees.rows_are;
    }
