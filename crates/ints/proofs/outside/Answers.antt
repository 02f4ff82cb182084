use Rattle.std.proofs.Common.{arith}
use Rattle.std.proofs.lemmas.Int.{ints, to_z-of_z}
use Rattle.ints.specs.Range.{outside}
use Rattle.ints.proofs.outside.Goals as goal

pub returns : goal.returns
unfolding outside
returns c = grind (arith, ints, to_z-of_z)
