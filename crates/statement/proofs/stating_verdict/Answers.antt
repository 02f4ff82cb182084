-- What 1 has shown is what 2 asks.
use Rattle.std.proofs.Common.{[], sym, arith}
use Rattle.rules.proofs.Tests.{when_accepted}
use Rattle.rules.proofs.Passed.{counts}
use Rattle.statement.proofs.stating_verdict.Goals as goal

pub short_rooms-requires : goal.short_rooms-requires
short_rooms-requires c = omega (arith, counts _ _ _ _ (when_accepted _ _ _ (sym (c.in_ok-counts_verdict.ensures []))))
