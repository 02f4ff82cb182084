use Rattle.std.proofs.Common.{arith}
use Rattle.cells.specs.Place.{going_end}
use Rattle.cells.proofs.search.Search.place.Goals as goal

pub returns : goal.returns
returns c =
    let g = c.loop-i.invariant in
    (g.kept.cells, going_end g c.requires.feasible (omega (arith, c.requires.tall, c.loop-i-test.false)))
