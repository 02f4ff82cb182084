-- What writing a whole running share asks, and what it has written after some of the weights.
use Rattle.std.specs.Prelude.{◌≡◌, ◌≤◌, List, length, ℤ, pos, ◌≤ℤ◌}
use Rattle.ints.specs.Bridge.{abs}
use Rattle.ints.specs.Sums.{sum_ℤ, NonNeg}

-- P is −10^17 to 10^17; no weight is negative, and their sum W is 1 to 10^17; one part for each weight
pub record Fillable (P W : ℤ) (ws parts : List ℤ) : Type 0 where
  pub amount : abs P ≤ 100000000000000000
  pub weights : NonNeg ws
  pub sum : sum_ℤ ws ≡ W
  pub some : pos 1 ≤ℤ W
  pub most : W ≤ℤ pos 100000000000000000
  pub long : length parts ≡ length ws
