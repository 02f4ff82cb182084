-- Assumes nothing.
use Rattle.std.proofs.Common.{refl, arith}
use Rattle.std.proofs.lemmas.Bool.Decides.{nat_tests}
use Rattle.monthfile.specs.Cursor.{rest}
use Rattle.monthfile.proofs.DigitSteps.{looked_at, all_read, no_digit, a_digit, small, below_all}
use Rattle.monthfile.proofs.cursor.Cursor.read_digits.Goals as goal

pub returns-in_default-clause-read : goal.returns-in_default-clause-read
returns-in_default-clause-read c =
    no_digit c.loop-byte.invariant (looked_at _ _ _ (rest c.args.self.now) c.loop-byte-test.true) (grind (arith, nat_tests))

pub returns-in_default-clause-small : goal.returns-in_default-clause-small
returns-in_default-clause-small c =
    let h = looked_at _ _ _ (rest c.args.self.now) c.loop-byte-test.true in
    below_all c.loop-byte.byte-index _ (omega (arith, h.early)) c.loop-byte.invariant.below

pub returns-in_default-2-clause-read : goal.returns-in_default-2-clause-read
returns-in_default-2-clause-read c =
    no_digit c.loop-byte.invariant (looked_at _ _ _ (rest c.args.self.now) c.loop-byte-test.true) (grind (arith, nat_tests))

pub returns-in_default-2-clause-small : goal.returns-in_default-2-clause-small
returns-in_default-2-clause-small c =
    let h = looked_at _ _ _ (rest c.args.self.now) c.loop-byte-test.true in
    below_all c.loop-byte.byte-index _ (omega (arith, h.early)) c.loop-byte.invariant.below

pub overflow_mul-number : goal.overflow_mul-number
overflow_mul-number c =
    let h = looked_at _ _ _ (rest c.args.self.now) c.loop-byte-test.true in
    let b = below_all c.loop-byte.byte-index _ (omega (arith, h.early)) c.loop-byte.invariant.below in
    omega arith

pub overflow_add-number : goal.overflow_add-number
overflow_add-number c =
    let h = looked_at _ _ _ (rest c.args.self.now) c.loop-byte-test.true in
    let b = below_all c.loop-byte.byte-index _ (omega (arith, h.early)) c.loop-byte.invariant.below in
    omega arith

pub loop-byte-preserved : goal.loop-byte-preserved
loop-byte-preserved c =
    let h = looked_at _ _ _ (rest c.args.self.now) c.loop-byte-test.true in
    rw c.from.ensures
    (a_digit c.loop-byte.invariant h _ (omega (arith, h.early)) (record { low = omega arith; high = omega arith }) (record { at = refl; text = refl }))

pub returns-clause-read : goal.returns-clause-read
returns-clause-read c = all_read c.loop-byte.invariant _ c.min.ensures c.loop-byte-test.false

pub returns-clause-small : goal.returns-clause-small
returns-clause-small c = small c.loop-byte.invariant c.min.result _ c.loop-byte.auto.byte-index-end (omega arith)
