-- The numbers of a rate of any sum, and the sum's limit. The search proves it too, but where a number is wrong it only gives up.
use Rattle.std.proofs.Common.{to_z-of_z, w64, SFits, rules}
use Rattle.share.proofs.weights.Rate.of.Goals as goal

pub invariant_of-result : goal.invariant_of-result
invariant_of-result c =
    let k = c.of-rate.result in
    let f : SFits w64 k.amount = search rules in
    record {
      rated = rw (to_z-of_z f) (record {
        most = k.rated.most;
        total = rw c.of-rate.ensures.w c.requires.w.1;
        sum = k.rated.sum;
        less = k.rated.less;
        rounded = k.rated.rounded;
      });
    }
