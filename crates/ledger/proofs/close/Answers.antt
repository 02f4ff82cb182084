-- Judged first: a refused month as it was, an accepted one written.
use Rattle.std.proofs.Common.{sym, rules, arith, w64, SFits}
use lib.Seq.{length-take-le}
use mir.Facts.{to_z-of_z}
use Rattle.closing.proofs.Ready.{held_reach, cells_reach, cells_few, writable}
use Rattle.ledger.proofs.Closing.{begun, passed_so, found_so, refused_closes, accepted_closes}
use Rattle.ledger.proofs.close.Goals as goal

pub judge-requires : goal.judge-requires
judge-requires c = (_, begun _ _ c.args.cells.now c.args.work.now _ (rw c.of-counts.ensures at (c.closing_verdict-first.ensures c.args.held.now)))

pub returns-in-Err : goal.returns-in-Err
returns-in-Err c =
    refused_closes _ _ c.args.cells.now c.args.work.now _
    (c.in-Err.ensures _ (begun _ _ c.args.cells.now c.args.work.now _ (rw c.of-counts.ensures at (c.closing_verdict-first.ensures c.args.held.now)))).verdict

-- An accepted month has few cells, and the slices have the room.
pub overflow_mul-c : goal.overflow_mul-c
overflow_mul-c c =
    let k = passed_so _ _ c.args.cells.now c.args.work.now _ (rw c.of-counts.ensures at (c.closing_verdict-first.ensures c.args.held.now)) c.in-Ok.ensures in
    omega (arith, cells_few _ _ _ _ _ k)

pub slice_bounds-write-end : goal.slice_bounds-write-end
slice_bounds-write-end c =
    held_reach _ _ _ _ _
    (passed_so _ _ c.args.cells.now c.args.work.now _ (rw c.of-counts.ensures at (c.closing_verdict-first.ensures c.args.held.now)) c.in-Ok.ensures)

pub slice_bounds-write-end-in-Ok : goal.slice_bounds-write-end-in-Ok
slice_bounds-write-end-in-Ok c =
    let k = passed_so _ _ c.args.cells.now c.args.work.now _ (rw c.of-counts.ensures at (c.closing_verdict-first.ensures c.args.held.now)) c.in-Ok.ensures in
    sym (length-take-le _ _ (held_reach _ _ _ _ _ k))

pub slice_bounds-write-end-in-Ok-2 : goal.slice_bounds-write-end-in-Ok-2
slice_bounds-write-end-in-Ok-2 c =
    cells_reach _ _ _ _ _
    (passed_so _ _ c.args.cells.now c.args.work.now _ (rw c.of-counts.ensures at (c.closing_verdict-first.ensures c.args.held.now)) c.in-Ok.ensures)

pub slice_bounds-write-end-in-Ok-3 : goal.slice_bounds-write-end-in-Ok-3
slice_bounds-write-end-in-Ok-3 c =
    let k = passed_so _ _ c.args.cells.now c.args.work.now _ (rw c.of-counts.ensures at (c.closing_verdict-first.ensures c.args.held.now)) c.in-Ok.ensures in
    sym (length-take-le _ _ (cells_reach _ _ _ _ _ k))

pub write-requires : goal.write-requires
write-requires c =
    let told = rw c.of-counts.ensures at (c.closing_verdict-first.ensures c.args.held.now) in
    let k = passed_so _ _ c.args.cells.now c.args.work.now _ told c.in-Ok.ensures in
    let f = found_so _ _ c.args.cells.now c.args.work.now _ told c.in-Ok.ensures in
    (_, _, writable _ _ c.args.cells.now c.args.work.now _ k _ f.bills)

-- What is answered of a month that is written.
pub returns-in-Ok : goal.returns-in-Ok
returns-in-Ok c =
    let told = rw c.of-counts.ensures at (c.closing_verdict-first.ensures c.args.held.now) in
    let k = passed_so _ _ c.args.cells.now c.args.work.now _ told c.in-Ok.ensures in
    let f = found_so _ _ c.args.cells.now c.args.work.now _ told c.in-Ok.ensures in
    let m : SFits w64 c.args.month.line.month = search rules in
    rw (to_z-of_z m)
    (accepted_closes _ _ c.args.cells.now c.args.work.now _ k
    (c.write.ensures _ _ (writable _ _ c.args.cells.now c.args.work.now _ k _ f.bills))
    c.write.auto.cells)
