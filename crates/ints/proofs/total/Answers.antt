use Rattle.std.proofs.Common.{refl, rules, w64, SFits, to_z, get_or, pos, ◌+ℤ◌}
use Rattle.std.proofs.lemmas.Int.{to_z-of_z}
use Rattle.ints.specs.Adding.{added_none, added_more, added_fits}
use Rattle.ints.proofs.total.Goals as goal
use Rattle.ints.proofs.total.Goals.{After-sum-1}

module _ (c : After-sum-1) where
  entry_fits : SFits w64 (get_or c.args.amounts.now c.loop-x.x-index (pos 0))
  entry_fits = search rules

  sum_fits : SFits w64 (to_z w64 c.loop-x.sum-bits +ℤ get_or c.args.amounts.now c.loop-x.x-index (pos 0))
  sum_fits = added_fits c.loop-x.invariant c.requires c.loop-x-test.true refl

pub loop-x-init : goal.loop-x-init
loop-x-init c = added_none _

pub overflow_add-sum : goal.overflow_add-sum
overflow_add-sum c = simp (to_z-of_z, entry_fits c) (sum_fits c)

pub loop-x-preserved : goal.loop-x-preserved
loop-x-preserved c = simp (to_z-of_z, entry_fits c, sum_fits c) (added_more c.loop-x.invariant c.loop-x-test.true refl)
