-- The running share (paper 01, "Units and arithmetic").
use Rattle.std.specs.Prelude.{List, [], ◌∷◌, ℤ, pos, ◌+ℤ◌, ◌-ℤ◌, ◌*ℤ◌}
use Rattle.ints.specs.Floor.{floor}
use Rattle.ints.specs.Sums.{sum_ℤ}

-- the part between two weight sums: floor(P × through / W) less floor(P × before / W)
unfoldable pub part : ℤ → ℤ → ℤ → ℤ → ℤ
part P before through W = floor (P *ℤ through) W -ℤ floor (P *ℤ before) W

-- the parts of the weights ws, of which `before` come first
unfoldable pub parts_from : ℤ → ℤ → ℤ → List ℤ → List ℤ
parts_from P W before [] = []
parts_from P W before (w ∷ ws) = part P before (before +ℤ w) W ∷ parts_from P W (before +ℤ w) ws

-- an amount P over the weights ws
unfoldable pub running_share : ℤ → List ℤ → List ℤ
running_share P ws = parts_from P (sum_ℤ ws) (pos 0) ws
