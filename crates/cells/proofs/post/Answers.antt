-- The element and the sum are words.
use Rattle.std.proofs.Common.{◌≡◌, ◌<◌, length, get_or, pos, ◌+ℤ◌, ◌-◌, ap₂, zero-add, arith, to_z-of_z, w64, SFits, rules}
use Rattle.cells.specs.Fill.{filled_more}
use Rattle.cells.specs.Finish.{post_fits}
use Rattle.cells.proofs.post.Goals as goal

pub loop-i-preserved : goal.loop-i-preserved
loop-i-preserved c =
    let l = c.loop-i in
    let s = c.args in
    let e = c.cent in
    let h : l.i < length s.cells.now = omega (arith, c.loop-i-test.true, c.requires.long) in
    let p = post_fits c.requires l.invariant h in
    let g : SFits w64 e.result = search rules in
    let f : SFits w64 (get_or l.cells l.i (pos 0) +ℤ e.result) = rw e.ensures p.0 in
    let z : get_or l.cells l.i (pos 0) +ℤ e.result ≡ get_or s.cells.now l.i (pos 0) +ℤ pos (get_or s.table.now.marks.now l.i 0 - 1) =
    ap₂ ◌+ℤ◌ (l.invariant.after l.i (omega arith)) e.ensures in
    simp (to_z-of_z, p.1, g, f)
    (rw zero-add at (filled_more l.invariant (omega (arith, l.invariant.long, h)) (get_or l.cells l.i (pos 0) +ℤ e.result) z))
