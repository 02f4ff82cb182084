-- What stands at the index is the line of the user.
use Rattle.std.proofs.Common.{◌≡◌, pos, ◌-ℤ◌, arith}
use Rattle.std.proofs.lemmas.Int.{ints, to_z-of_z}
use Rattle.refusals.proofs.Laws.{found}
use Rattle.refusals.proofs.points.line_of.Goals as goal

pub returns : goal.returns
returns c =
    let e : pos c.in_ok-i.i ≡ c.args.user -ℤ pos 1 = grind (arith, ints, to_z-of_z) in
    found c.args.users.now c.args.user c.in_ok-i.i c.get.result e c.get.ensures.lookup.3
