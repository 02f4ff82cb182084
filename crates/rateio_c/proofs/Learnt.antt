-- WHAT A CALLER IN C LEARNS, in paper 01's words ("The month file", last paragraph): from `Reads.Learnt`, generated of the checked
-- contracts of `rateio_share` and `rateio_check`, so that a contract that promises less is refused here. Nothing is assumed of a caller.
use Prim.Native.Nat.{◌≤◌}
use mathlib.Core.Path.{◌≡◌, refl, sym, ap, ap₂, ◌∙◌, subst}
use lib.ListN.{length}
use lib.IntN.{ℤ, pos, ◌+ℤ◌}
use contract.Lifetimes.{Lfts}
use denote.Triple.Entry.{Args, Res}
use denote.Triple.Clauses.{Lasts, at_exit}
use Rattle.ints.specs.Order.{≤_trans}
use Rattle.share.specs.Running.{part}
use Rattle.share.specs.OnePart.{part_add, part_none}
use Rattle.share.specs.Answer.{sharing, seen_by_c}
use Rattle.share.specs.Limits.{AmountWithin, TotalWithin, SumsWithin}
use Rattle.share.proofs.Limits.{share_limits}
use Rattle.format.specs.Language.{Checked}
use Rattle.format.specs.Saved.{Saved, moved_number}
use Rattle.format.proofs.FileCheck.{file_check}
use Rattle.format.proofs.SavedReads.{same_check}
use Rattle.rateio_c.specs.Seen.{SeenShare}
use Rattle.rateio_c.specs.contracts.rateio_share as share
use Rattle.rateio_c.proofs.rateio_share.Reads as share_reads
use Rattle.rateio_c.specs.contracts.rateio_check as check
use Rattle.rateio_c.proofs.rateio_check.Reads as check_reads

-- neither has a `requires` that its caller would have to show first
pub asks_nothing :
    ((κs : Lfts 0) (a : Args share.signature κs) → share_reads.Asked κs a) × ((κs : Lfts 1) (a : Args check.signature κs) → check_reads.Asked κs a)
asks_nothing = (λ κs a. tt, λ κs a. tt)

seen : (P b t W : ℤ) → SeenShare P b t W (seen_by_c (sharing P b t W))
seen P b t W =
    let l = share_limits P b t W in
    record {
      part = λ p w s. ap seen_by_c ((l.part _).1 (p, w, s, refl));
      amount = λ p. ap seen_by_c (l.amount.1 p);
      total = λ p w. ap seen_by_c (l.total.1 (p, w));
      sums = λ p w s. ap seen_by_c (l.sums.1 (p, w, s));
    }

-- THE SHARE: the part where the limits hold, else −10^18 less the place
pub share_learnt : (κs : Lfts 0) (a : Args share.signature κs) (r : Res share.signature κs) (last : Lasts share.ended κs a)
    → share_reads.Learnt κs a r (at_exit share.ended κs a last) → SeenShare a.0 a.1.0 a.1.1.0 a.1.1.1.0 r
share_learnt κs a r last l = subst (λ (x : ℤ). SeenShare a.0 a.1.0 a.1.1.0 a.1.1.1.0 x) (sym l) (seen _ _ _ _)

-- SISTER LINES (paper 02, Q-13), of what the share answers: neighbours receive together what one line of both receives, a weight of 0
-- receives 0
module _ {P b t W : ℤ} (p : AmountWithin P) (w : TotalWithin W) (first : SumsWithin b t W) where
  pub neighbours_learnt : {u x y z : ℤ} → SumsWithin t u W → SeenShare P b t W x → SeenShare P t u W y → SeenShare P b u W z → x +ℤ y ≡ z
  unfolding part
  neighbours_learnt {u} second one other line =
      let both : SumsWithin b u W = record { low = first.low; between = ≤_trans first.between second.between; high = second.high } in
      ap₂ ◌+ℤ◌ (one.part p w first) (other.part p w second) ∙ part_add P b t u W ∙ sym (line.part p w both)

  pub nothing_learnt : {x : ℤ} → b ≡ t → SeenShare P b t W x → x ≡ pos 0
  unfolding part
  nothing_learnt e line = line.part p w first ∙ rw e (part_none P t W)

-- THE FILE CHECK: −1 for files on end, else the place of the 11; −2 over 10^15 bytes
pub check_learnt : (κs : Lfts 1) (a : Args check.signature κs) (r : Res check.signature κs) (last : Lasts check.ended κs a)
    → check_reads.Learnt κs a r (at_exit check.ended κs a last) → Checked a.0.now r
check_learnt κs a r last l = subst (λ (x : ℤ). Checked a.0.now x) (sym l) (file_check a.0.now)

-- THE LAW OF THE SAVED FILE (paper 02, Q-3) of two calls: with CRs added before LFs the same −1, or the place moved
pub check_saved :
    (κs : Lfts 1) (a : Args check.signature κs) (r : Res check.signature κs) (last : Lasts check.ended κs a)
    (κs' : Lfts 1) (b : Args check.signature κs') (s : Res check.signature κs') (last' : Lasts check.ended κs' b)
    → check_reads.Learnt κs a r (at_exit check.ended κs a last)
    → check_reads.Learnt κs' b s (at_exit check.ended κs' b last')
    → (c : Saved a.0.now b.0.now)
    → length b.0.now ≤ 1_000_000_000_000_000
    → s ≡ moved_number c r
check_saved κs a r last κs' b s last' l l' c h = l' ∙ same_check a.0.now b.0.now c h ∙ ap (moved_number c) (sym l)
