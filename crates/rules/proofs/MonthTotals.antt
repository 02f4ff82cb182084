-- The totals of a month that breaks no limit: compensation totals the variable parcels, and credits total debits, of which there are some.
use mathlib.Core.Path.{◌≡◌, ap, ◌∙◌}
use mathlib.Core.Logic.{⊎_elim}
use lib.ListN.{length}
use lib.IntN.{pos}
use lib.Signed.{◌≤ℤ◌, ◌<ℤ◌}
use Rattle.ints.specs.Bounds.{word_nonneg}
use Rattle.ints.specs.Order.{le_or_lt, ≤_antisym}
use Rattle.ints.specs.Sums.{sum_ℤ}
use Rattle.rules.specs.Lines.{Lines}
use Rattle.rules.specs.Charges.{pv_total, CPVs, VDs}
use Rattle.rules.specs.Credits.{VCs}
use Rattle.rules.specs.State.{State}
use Rattle.rules.proofs.Passed.{Passed}
use Rattle.rules.proofs.Sides.{sum_zeros}
use Rattle.rules.proofs.Totals.{CPV_total, CPV_zero, VC_total}
use Rattle.rules.proofs.BoundsCharges.{above}
use Rattle.rules.proofs.Bounds.{Bounds, bounds}

pub record Balanced (s : State) (l : Lines) : Type 0 where
  pub compensation : sum_ℤ (CPVs l) ≡ pv_total l
  pub credits_are_debits : sum_ℤ (VCs s l) ≡ sum_ℤ (VDs s l)
  pub some_debit : pos 0 <ℤ sum_ℤ (VDs s l)

module _ (s : State) (l : Lines) (w : length s.credits ≡ s.users) (p : Passed s l) where
  limits : Bounds s l
  limits = bounds s l w p

  none : pv_total l ≤ℤ pos 0 → sum_ℤ (CPVs l) ≡ pv_total l
  none z = ap sum_ℤ (CPV_zero l z) ∙ sum_zeros (length l.users) ∙ ≤_antisym (word_nonneg limits.sums.pv_total_lem) z

  some : pos 0 <ℤ pv_total l → sum_ℤ (CPVs l) ≡ pv_total l
  some z = CPV_total l z (above (word_nonneg limits.sums.EUST_total) (p.EUST_total z))

  pub balanced : Balanced s l
  balanced = record {
    compensation = ⊎_elim none some (le_or_lt (pv_total l) (pos 0));
    credits_are_debits = VC_total s l limits.payees.pb_above;
    some_debit = above (word_nonneg limits.charges.VD_total) p.VD_total;
  }
