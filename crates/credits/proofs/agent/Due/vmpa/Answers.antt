-- Every number on the way is within rules' bounds of what falls due.
use Rattle.std.proofs.Common.{rules, to_z-of_z, w64, SFits}
use Rattle.rules.specs.Credits.{VMPA}
use Rattle.rules.proofs.BoundsAgent.{due_bounds}
use Rattle.credits.proofs.agent.Due.vmpa.Goals as goal

pub overflow_mul-pa : goal.overflow_mul-pa
overflow_mul-pa c =
    let upto : SFits w64 c.args.self.upto = search rules in
    simp (to_z-of_z, upto, c.ranges.pa) (due_bounds c.args.self.twelfths c.requires).due.fits

pub overflow_mul-pa-2 : goal.overflow_mul-pa-2
overflow_mul-pa-2 c =
    let after : SFits w64 c.args.self.after = search rules in
    simp (to_z-of_z, after, c.ranges.pa) (due_bounds c.args.self.twelfths c.requires).due_before.fits

pub overflow_sub-result : goal.overflow_sub-result
overflow_sub-result c =
    let after : SFits w64 c.args.self.after = search rules in
    let upto : SFits w64 c.args.self.upto = search rules in
    let b = due_bounds c.args.self.twelfths c.requires in
    simp (
      c.floor_12.ensures,
      c.floor_12-2.ensures,
      to_z-of_z,
      after,
      upto,
      c.ranges.pa,
      b.due.fits,
      b.due_before.fits,
      b.floor_due.fits,
      b.floor_before.fits,
    )
    b.VMPA.fits

pub returns : goal.returns
unfolding VMPA
returns c a e =
    let after : SFits w64 c.args.self.after = search rules in
    let upto : SFits w64 c.args.self.upto = search rules in
    let b = due_bounds c.args.self.twelfths c.requires in
    rw e
    (simp (
      c.floor_12.ensures,
      c.floor_12-2.ensures,
      to_z-of_z,
      after,
      upto,
      c.ranges.pa,
      b.due.fits,
      b.due_before.fits,
      b.floor_due.fits,
      b.floor_before.fits,
      b.VMPA.fits,
    ))
