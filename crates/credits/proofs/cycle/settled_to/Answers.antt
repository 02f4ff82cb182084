-- The three cases of the definition: none closed, one in the same cycle, one in an earlier.
use Rattle.std.proofs.Common.{◌≡◌, ◌≢◌, false, ℤ, pos, ◌-ℤ◌, sym, ap, ◌∙◌, to_z-of_z, w64, SFits, of_z, rules}
use Rattle.std.proofs.Math.Facts.{sfits_lit}
use Rattle.ints.specs.Bridge.{za, sub#}
use Rattle.ints.specs.Words.{back, same_bits}
use Rattle.rules.specs.Calendar.{impossible_month, cycle_month, cycle_of}
use Rattle.rules.proofs.Fits.{possible}
use Rattle.rules.proofs.Cycle.{cycle_within, settled_none, settled_same, settled_earlier}
use Rattle.credits.proofs.cycle.settled_to.Goals as goal

-- ---- none closed
less : (m : ℤ) → impossible_month m ≡ false → SFits w64 (cycle_month m -ℤ pos 1)
less m h = let w = cycle_within m (possible m h) in omega (za, sub# (cycle_month m) (pos 1))

pub overflow_sub-result : goal.overflow_sub-result
overflow_sub-result c =
    let f : SFits w64 c.cycle_month.result = search rules in
    rw (to_z-of_z f, c.cycle_month.ensures, to_z-of_z c.ranges.month) (less c.args.month c.requires.there)

pub returns-then-last-eq0 : goal.returns-then-last-eq0
returns-then-last-eq0 c =
    let f : SFits w64 c.cycle_month.result = search rules in
    rw (to_z-of_z f, c.cycle_month.ensures, to_z-of_z c.ranges.month, to_z-of_z (less c.args.month c.requires.there))
    (sym (settled_none c.args.month (same_bits c.ranges.last (sfits_lit tt) c.if-last-eq0.true)))

-- ---- one closed
cycle_is : {m q : ℤ} → SFits w64 m → q ≡ cycle_of (back m) → q ≡ cycle_of m
cycle_is f e = rw (to_z-of_z f) at e

pub returns-then-cycle : goal.returns-then-cycle
returns-then-cycle c =
    let last_fits : SFits w64 c.cycle.result = search rules in
    let this_fits : SFits w64 c.cycle-2.result = search rules in
    let f : SFits w64 c.cycle_month-then-cycle.result = search rules in
    let some : c.args.last ≢ pos 0 = λ e. c.if-last-eq0.false (rw e) in
    let same = sym (cycle_is c.ranges.last c.cycle.ensures)
    ∙ same_bits last_fits this_fits c.if-cycle.true
    ∙ cycle_is c.ranges.month c.cycle-2.ensures in
    rw (to_z-of_z f, c.cycle_month-then-cycle.ensures, to_z-of_z c.ranges.last) (sym (settled_same c.args.month some same))

pub returns : goal.returns
returns c =
    let some : c.args.last ≢ pos 0 = λ e. c.if-last-eq0.false (rw e) in
    sym
    (settled_earlier c.args.month some (λ e. c.if-cycle.false
    (ap (of_z w64) (cycle_is c.ranges.last c.cycle.ensures ∙ e ∙ sym (cycle_is c.ranges.month c.cycle-2.ensures)))))
