-- The parts as rules' bounds of an agent line have them.
use Rattle.std.proofs.Common.{sym, to_z-of_z}
use Rattle.rules.specs.Credits.{own_credit}
use Rattle.rules.proofs.BoundsAgent.{agent_bounds, correction}
use Rattle.credits.proofs.agent.Due.own_credit.Goals as goal

pub overflow_add-result : goal.overflow_add-result
overflow_add-result c =
    let a = c.requires in
    let b = agent_bounds c.args.self.twelfths a in
    let due = c.vmpa.ensures c.args.agent (sym (to_z-of_z (correction a.pa).fits)) in
    simp (due, c.vmst.ensures, to_z-of_z, b.VMPA.fits, b.VMST.fits) b.VMST_VMPA.fits

pub overflow_add-result-2 : goal.overflow_add-result-2
overflow_add-result-2 c =
    let a = c.requires in
    let b = agent_bounds c.args.self.twelfths a in
    let due = c.vmpa.ensures c.args.agent (sym (to_z-of_z (correction a.pa).fits)) in
    simp (due, c.vmst.ensures, to_z-of_z, b.VMPA.fits, b.VMST.fits, b.VMST_VMPA.fits, (correction a.ret).fits) b.own.fits

pub returns : goal.returns
unfolding own_credit
returns c =
    let a = c.requires in
    let b = agent_bounds c.args.self.twelfths a in
    let due = c.vmpa.ensures c.args.agent (sym (to_z-of_z (correction a.pa).fits)) in
    simp (due, c.vmst.ensures, to_z-of_z, b.VMPA.fits, b.VMST.fits, b.VMST_VMPA.fits, (correction a.ret).fits, b.own.fits)
