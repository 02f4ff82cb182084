use Rattle.std.proofs.Common.{◌≡◌, ℕ, ◌<◌, List, length, get_or, ℤ, pos, nat_abs, arith, to_z-of_z, w64, SFits}
use Rattle.ints.specs.Bridge.{dn, abs_is, za}
use Rattle.ints.specs.Words.{back}
use Rattle.cells.specs.Naturals.{Unsigned, Naturals, debit_at, naturals_start, naturals_more, sum_small}
use Rattle.cells.proofs.floors.naturals.Goals as goal

-- the debit that the turn reads is a word, and no negative one
size : {vd : List ℤ} {debits debits' : List ℕ} {j sum : ℕ} → Unsigned vd debits → Naturals vd debits debits' j sum → j < length vd
    → nat_abs (back (get_or vd j (pos 0))) ≡ debit_at vd j
size {vd} {debits} {debits'} {j} A N h =
    let z : dn (get_or vd j (pos 0)) ≡ 0 = omega (za, A.sign.above j h) in
    let f : SFits w64 (get_or vd j (pos 0)) = omega (za, sum_small A N h) in
    simp (to_z-of_z, f) (omega (arith, z, abs_is (get_or vd j (pos 0))))

pub loop-j-init : goal.loop-j-init
loop-j-init c = naturals_start _ _

pub overflow_add-sum : goal.overflow_add-sum
overflow_add-sum c =
    omega (arith, size c.requires c.loop-j.invariant c.loop-j-test.true, sum_small c.requires c.loop-j.invariant c.loop-j-test.true)

pub loop-j-preserved : goal.loop-j-preserved
loop-j-preserved c =
    naturals_more c.requires c.loop-j.invariant c.loop-j-test.true _ (size c.requires c.loop-j.invariant c.loop-j-test.true)
