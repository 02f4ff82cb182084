-- Judged first: a refused month as it was, an accepted one written.
use Rattle.std.proofs.Common.{rules, w64, SFits, to_z-of_z}
use Rattle.statement.proofs.Stating.{begun, refused_states, held_lent, points_reach, points_lent, users_reach, users_lent, payees_reach, payees_lent}
use Rattle.statement.proofs.Stating.{may_write, accepted_states}
use Rattle.statement.proofs.state.Goals as goal

pub judge-requires : goal.judge-requires
judge-requires c = let a = c.args in (_, begun _ _ _ a.point_rows.now a.user_rows.now a.payee_rows.now (c.stating_verdict-first.ensures a.held.now))

pub returns-in_err-judged : goal.returns-in_err-judged
returns-in_err-judged c =
    let a = c.args in
    refused_states _ _ _ a.point_rows.now a.user_rows.now a.payee_rows.now _ c.from_residual.result c.from_residual.ensures.1
    (c.in_err-judged.ensures _ (begun _ _ _ a.point_rows.now a.user_rows.now a.payee_rows.now (c.stating_verdict-first.ensures a.held.now))).verdict

pub slice_bounds-one_each-end : goal.slice_bounds-one_each-end
slice_bounds-one_each-end c =
    let a = c.args in
    held_lent _ _ _ a.point_rows.now a.user_rows.now a.payee_rows.now (c.stating_verdict-first.ensures a.held.now) c.in_ok-judged.ensures

pub slice_bounds-write-end : goal.slice_bounds-write-end
slice_bounds-write-end c =
    let a = c.args in
    points_reach _ _ _ a.point_rows.now a.user_rows.now a.payee_rows.now (c.stating_verdict-first.ensures a.held.now) c.in_ok-judged.ensures

pub slice_bounds-write-end-2 : goal.slice_bounds-write-end-2
slice_bounds-write-end-2 c =
    let a = c.args in
    points_lent _ _ _ a.point_rows.now a.user_rows.now a.payee_rows.now (c.stating_verdict-first.ensures a.held.now) c.in_ok-judged.ensures

pub slice_bounds-write-end-3 : goal.slice_bounds-write-end-3
slice_bounds-write-end-3 c =
    let a = c.args in
    users_reach _ _ _ a.point_rows.now a.user_rows.now a.payee_rows.now (c.stating_verdict-first.ensures a.held.now) c.in_ok-judged.ensures

pub slice_bounds-write-end-4 : goal.slice_bounds-write-end-4
slice_bounds-write-end-4 c =
    let a = c.args in
    users_lent _ _ _ a.point_rows.now a.user_rows.now a.payee_rows.now (c.stating_verdict-first.ensures a.held.now) c.in_ok-judged.ensures

pub slice_bounds-write-end-5 : goal.slice_bounds-write-end-5
slice_bounds-write-end-5 c =
    let a = c.args in
    payees_reach _ _ _ a.point_rows.now a.user_rows.now a.payee_rows.now (c.stating_verdict-first.ensures a.held.now) c.in_ok-judged.ensures

pub slice_bounds-write-end-6 : goal.slice_bounds-write-end-6
slice_bounds-write-end-6 c =
    let a = c.args in
    payees_lent _ _ _ a.point_rows.now a.user_rows.now a.payee_rows.now (c.stating_verdict-first.ensures a.held.now) c.in_ok-judged.ensures

pub write-requires : goal.write-requires
write-requires c =
    let a = c.args in
    (_, _, may_write _ _ _ a.point_rows.now a.user_rows.now a.payee_rows.now (c.stating_verdict-first.ensures a.held.now) c.in_ok-judged.ensures)

pub returns : goal.returns
returns c =
    let a = c.args in
    let told = c.stating_verdict-first.ensures a.held.now in
    let balance : SFits w64 c.write.result = search rules in
    rw (to_z-of_z balance)
    (accepted_states _ _ _ a.point_rows.now a.user_rows.now a.payee_rows.now told c.in_ok-judged.ensures
    (c.write.ensures _ _ (may_write _ _ _ a.point_rows.now a.user_rows.now a.payee_rows.now told c.in_ok-judged.ensures)))
