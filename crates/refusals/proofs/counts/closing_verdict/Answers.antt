-- What 1 has shown is what 2 asks.
use Rattle.std.proofs.Common.{[], sym, arith}
use Rattle.rules.proofs.Tests.{when_accepted}
use Rattle.rules.proofs.Passed.{counts}
use Rattle.refusals.proofs.counts.closing_verdict.Goals as goal

pub short_slices-requires : goal.short_slices-requires
short_slices-requires c =
    let k = counts _ _ _ _ (when_accepted _ _ _ (sym (c.in_ok-counts_verdict.ensures []))) in
    (omega (arith, k), omega (arith, k))
