-- WHAT A CALLER OF `part` LEARNS, in paper 01's words: from `Reads.Learnt`, generated of the checked contract, so that a contract that
-- promises less is refused here. Nothing is assumed of a caller.
use Rattle.std.proofs.Common.{sym, subst}
use contract.Lifetimes.{Lfts}
use denote.Triple.Entry.{Args, Res}
use denote.Triple.Clauses.{Lasts, at_exit}
use Rattle.share.specs.Answer.{answer_of}
use Rattle.share.specs.Limits.{ShareLimits}
use Rattle.share.proofs.Limits.{share_limits}
use Rattle.share.specs.contracts.part as part
use Rattle.share.proofs.part.Reads as part_reads

-- there is no `requires` that a caller would have to show first
pub asks_nothing : (κs : Lfts 0) (a : Args part.signature κs) → part_reads.Asked κs a
asks_nothing κs a = tt

-- the part exactly within the limits, else 5 with the place of the first that is not
pub part_learnt : (κs : Lfts 0) (a : Args part.signature κs) (r : Res part.signature κs) (last : Lasts part.ended κs a)
    → part_reads.Learnt κs a r (at_exit part.ended κs a last) → ShareLimits a.0 a.1.0 a.1.1.0 a.1.1.1.0 (answer_of r)
part_learnt κs a r last l = subst (ShareLimits a.0 a.1.0 a.1.1.0 a.1.1.1.0) (sym l) (share_limits _ _ _ _)
