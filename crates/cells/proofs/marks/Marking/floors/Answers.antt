-- A credit is a word, so the machine's reading of it is the credit itself.
use Rattle.std.proofs.Common.{ℕ, ◌<◌, List, length, get_or, ℤ, pos, sym, ◌∙◌, arith, to_z-of_z, w64, SFits}
use Rattle.ints.specs.Sums.{Small, small_fits}
use Rattle.cells.specs.Floors.{rowed_none, rowed_more, row_asks, floored}
use Rattle.cells.proofs.marks.Marking.floors.Goals as goal

credit : (vc : List ℤ) (i : ℕ) → i < length vc → Small 100000000000000000 vc → SFits w64 (get_or vc i (pos 0))
credit vc i h s = small_fits 100000000000000000 vc i (omega arith) h s

pub loop-i-init : goal.loop-i-init
loop-i-init c = rowed_none c.requires.0 c.requires.1

pub floor_row-requires : goal.floor_row-requires
floor_row-requires c =
    let R = c.loop-i.invariant in
    let h = c.loop-i-test.true in
    rw (to_z-of_z (credit c.args.vc.now c.loop-i.i h c.requires.0.values)) (omega (arith, h, R.lacks_long), row_asks c.requires.0 R h)

pub loop-i-preserved : goal.loop-i-preserved
loop-i-preserved c =
    let f = c.floor_row.ensures in
    let h = c.loop-i-test.true in
    rw f.lacks
    (rowed_more c.requires.0 c.loop-i.invariant h (rw (to_z-of_z (credit c.args.vc.now c.loop-i.i h c.requires.0.values)) at f.row))

pub returns : goal.returns
returns c =
    let R = c.loop-i.invariant in
    let o = c.requires.1 in (
      floored c.requires.0 c.loop-i.i R c.loop-i-test.false,
      R.marks_long ∙ sym o.marks_long,
      R.lacks_long ∙ sym o.lacks_long,
      R.wants_long ∙ sym o.wants_long,
    )
