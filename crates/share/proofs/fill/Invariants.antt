-- The loop's turn in plain numbers: the next weight sum lies between 0 and W, so its floor is no larger than the amount, and the
-- difference of the two floors is the next part.
use Rattle.std.proofs.Common.{◌≡◌, ℕ, List, take, ℤ, ◌*ℤ◌}
use Rattle.ints.specs.Fill.{Filling}
use Rattle.ints.specs.Floor.{floor}
use Rattle.ints.specs.Sums.{sum_ℤ}
use Rattle.share.specs.Running.{running_share}
use Rattle.share.proofs.fill.Given as goal

-- after i weights: their sum, its floor, and the parts so far
pub record Turn (P W through lower : ℤ) (ws old parts : List ℤ) (i : ℕ) : Type 0 where
  pub sum : through ≡ sum_ℤ (take i ws)
  pub floor_is : lower ≡ floor (P *ℤ sum_ℤ (take i ws)) W
  pub done : Filling (running_share P ws) old parts i

abbrev pub invariant-loop-i : goal.invariant-loop-i
invariant-loop-i l = Turn l.p l.total l.through l.lower l.weights l.initial.parts l.parts l.i
