-- The arrays are lent as long as there are agents; ONS's entry is the one after theirs.
use Rattle.std.proofs.Common.{List, [], ◌∷◌, ◌++◌, ℤ, ap, ◌∙◌, arith, to_z-of_z, length-take-le}
use Rattle.ints.specs.Fill.{set_last}
use Rattle.rules.specs.Credits.{VCsFrom}
use Rattle.rules.proofs.BoundsAgent.{amount}
use Rattle.credits.proofs.payees.Payees.vcs.Goals as goal

pub returns : goal.returns
unfolding VCsFrom
returns c =
    let ons = c.args.self.now.line.ons in
    rw (to_z-of_z (amount c.args.self.now.payable.fee).fits)
    (set_last c.agent_credits.new.vc c.args.vc.now _ ons c.requires (c.agent_credits.auto.vc ∙ length-take-le _ _ (omega arith))
    ∙ ap (λ (l : List ℤ). l ++ ons ∷ []) c.agent_credits.ensures.VCs)
