-- The index is what is left of the counts before it.
use Rattle.std.proofs.Common.{◌≡◌, ◌≤◌, length}
use Rattle.cells.proofs.deal.level.Given as goal

abbrev pub invariant-loop-t : goal.invariant-loop-t
invariant-loop-t l =
    let skip = l.t-iterator.iter in
    let enumerate = skip.iter in
    (skip.n ≡ 2) × (enumerate.count ≡ 0) × (length enumerate.iter.rest.now ≤ length l.counts)
