-- What the rate of any sum answers. The search proves it too, but where a number is wrong it only gives up.
use Rattle.std.proofs.Common.{to_z-of_z, w64, SFits, rules}
use Rattle.share.proofs.weights.Rate.at.Goals as goal

pub returns : goal.returns
returns c =
    let f : SFits w64 c.args.self.amount = search rules in
    rw (to_z-of_z f) at c.at.ensures
