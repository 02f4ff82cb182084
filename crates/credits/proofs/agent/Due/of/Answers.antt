-- The two cycle months, as the machine has them, are the definitions'.
use Rattle.std.proofs.Common.{rules, to_z-of_z, w64, SFits}
use Rattle.rules.proofs.Cycle.{twelfths}
use Rattle.credits.proofs.agent.Due.of.Goals as goal

pub invariant_of-result : goal.invariant_of-result
invariant_of-result c =
    let last : SFits w64 c.args.last = search rules in
    let month : SFits w64 c.args.month = search rules in
    let after : SFits w64 c.settled_to.result = search rules in
    let upto : SFits w64 c.cycle_month.result = search rules in
    record {
      twelfths =
          rw (to_z-of_z after, to_z-of_z upto, c.settled_to.ensures, c.cycle_month.ensures, to_z-of_z last, to_z-of_z month) (twelfths c.requires);
    }
