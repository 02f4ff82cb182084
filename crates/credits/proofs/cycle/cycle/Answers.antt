-- The year, or until June the year before.
use Rattle.std.proofs.Common.{ℤ, pos, ◌-ℤ◌, to_z-of_z, w64, SFits}
use Rattle.std.specs.Int.Signed.{quot_z}
use Rattle.ints.specs.Bridge.{za, sub#}
use Rattle.ints.specs.Words.{quot_small}
use Rattle.rules.specs.Calendar.{cycle_of}
use Rattle.rules.proofs.Fits.{Possible, possible}
use Rattle.credits.proofs.Months.{quot_fits, rem_fits, year, mm}
use Rattle.credits.proofs.cycle.cycle.Goals as goal

less : {m : ℤ} → Possible m → SFits w64 (quot_z m (pos 100) -ℤ pos 1)
less {m} p = let y = p.year in omega (za, quot_small m (pos 100), sub# (quot_z m (pos 100)) (pos 1))

pub returns-then-month-lt7 : goal.returns-then-month-lt7
unfolding cycle_of
returns-then-month-lt7 c =
    let f = c.ranges.month in
    let p = possible c.args.month c.requires in
    let second = rw (to_z-of_z f, to_z-of_z (rem_fits p), mm p) at c.if-month-lt7.true in
    rw (to_z-of_z f, to_z-of_z (quot_fits p), to_z-of_z (less p), year p, second)

pub returns-else-month-lt7 : goal.returns-else-month-lt7
unfolding cycle_of
returns-else-month-lt7 c =
    let f = c.ranges.month in
    let p = possible c.args.month c.requires in
    let first = rw (to_z-of_z f, to_z-of_z (rem_fits p), mm p) at c.if-month-lt7.false in
    rw (to_z-of_z f, to_z-of_z (quot_fits p), year p, first)
