-- Four amounts; each number on the way fits.
use Rattle.std.proofs.Common.{to_z-of_z}
use Rattle.ints.specs.Bounds.{word_add, word_sub}
use Rattle.rules.specs.Credits.{VMST}
use Rattle.rules.proofs.BoundsAgent.{amount}
use Rattle.credits.proofs.agent.vmst.Goals as goal

pub returns : goal.returns
unfolding VMST
returns c =
    let p = c.requires in
    let pb_pv = word_sub (amount p.pb) (amount p.pv) tt in
    let pb_pv_afs = word_add pb_pv (amount p.afs) tt in
    let all = word_sub pb_pv_afs (amount p.rfs) tt in
    simp (
      to_z-of_z,
      (amount p.pb).fits,
      (amount p.pv).fits,
      (amount p.afs).fits,
      (amount p.rfs).fits,
      pb_pv.fits,
      pb_pv_afs.fits,
      all.fits,
    )
