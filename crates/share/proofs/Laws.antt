-- Laws of the running share (paper 01, "Running share"), for every list of weights and an amount P of either sign. Each asks only what
-- it needs: total and nearness a weight sum above 0, sign and size also that no weight is negative, the others nothing.
use Rattle.std.specs.Prelude.{◌≡◌, ℕ, zero, suc, ◌+◌, ◌<◌, List, [], ◌∷◌, length, take}
use Rattle.std.specs.Prelude.{ℤ, pos, ◌+ℤ◌, ◌-ℤ◌, ◌*ℤ◌, ◌≤ℤ◌, ◌<ℤ◌, slice_index_or, refl}
use Rattle.std.proofs.Common.{add-one, sym, ap, ap₂, ◌∙◌}
use Rattle.std.proofs.Math.Seq.{take-nil}
use Rattle.std.proofs.Math.IntN.{+ℤ_idl, +ℤ_idr, +ℤ_assoc}
use Rattle.ints.specs.Bridge.{abs, za, sub#, mul#}
use Rattle.ints.specs.Sums.{sum_ℤ, NonNeg, Small, sum_take_nonneg, sum_take_rises, sum_take_le}
use Rattle.share.specs.Running.{part, parts_from, running_share}
use Rattle.share.specs.OnePart.{part_add, part_none, part_whole, part_near, part_up, part_dn, part_small}

-- ---- as many parts as weights
length_from : (P W b : ℤ) (ws : List ℤ) → length (parts_from P W b ws) ≡ length ws
unfolding parts_from
length_from P W b [] = refl
length_from P W b (w ∷ ws) = ap suc (length_from P W (b +ℤ w) ws)

pub length_share : (P : ℤ) (ws : List ℤ) → length (running_share P ws) ≡ length ws
unfolding running_share
length_share P ws = length_from P (sum_ℤ ws) (pos 0) ws

-- ---- part k lies between the sum of the weights before it and the sum through it
at_from : (P W b : ℤ) (ws : List ℤ) (k : ℕ) → slice_index_or (parts_from P W b ws) k (pos 0)
    ≡ part P (b +ℤ sum_ℤ (take k ws)) (b +ℤ sum_ℤ (take (suc k) ws)) W
unfolding parts_from sum_ℤ
at_from P W b [] k = sym (ap (λ (l : List ℤ). part P (b +ℤ sum_ℤ l) (b +ℤ pos 0) W) (take-nil k) ∙ part_none P (b +ℤ pos 0) W)
at_from P W b (w ∷ ws) zero = ap₂ (λ (x y : ℤ). part P x (b +ℤ y) W) (sym (+ℤ_idr b)) (sym (+ℤ_idr w))
at_from P W b (w ∷ ws) (suc k) =
    at_from P W (b +ℤ w) ws k ∙ ap₂ (λ (x y : ℤ). part P x y W) (+ℤ_assoc b w (sum_ℤ (take k ws))) (+ℤ_assoc b w (sum_ℤ (take (suc k) ws)))

pub part_at : (P : ℤ) (ws : List ℤ) (k : ℕ) → slice_index_or (running_share P ws) k (pos 0)
    ≡ part P (sum_ℤ (take k ws)) (sum_ℤ (take (k + 1) ws)) (sum_ℤ ws)
unfolding running_share
part_at P ws k = rw add-one (at_from P (sum_ℤ ws) (pos 0) ws k ∙ ap₂ (λ (x y : ℤ). part P x y (sum_ℤ ws)) (+ℤ_idl (sum_ℤ (take k ws)))
    (+ℤ_idl (sum_ℤ (take (suc k) ws))))

-- ---- the parts total P
total_from : (P W b : ℤ) (ws : List ℤ) → sum_ℤ (parts_from P W b ws) ≡ part P b (b +ℤ sum_ℤ ws) W
unfolding parts_from sum_ℤ
total_from P W b [] = rw +ℤ_idr (sym (part_none P b W))
total_from P W b (w ∷ ws) = rw (total_from P W (b +ℤ w) ws, +ℤ_assoc b w (sum_ℤ ws)) (part_add P b (b +ℤ w) (b +ℤ (w +ℤ sum_ℤ ws)) W)

pub parts_total : (P : ℤ) (ws : List ℤ) → pos 0 <ℤ sum_ℤ ws → sum_ℤ (running_share P ws) ≡ P
unfolding running_share
parts_total P ws h = total_from P (sum_ℤ ws) (pos 0) ws ∙ rw +ℤ_idl (part_whole P (sum_ℤ ws) h)

-- ---- each part lies less than one from the exact share: |part × W − P × w| < W
near_from :
    (P W b : ℤ) (ws : List ℤ) (k : ℕ)
    → pos 0 <ℤ W
    → abs (slice_index_or (parts_from P W b ws) k (pos 0) *ℤ W -ℤ P *ℤ slice_index_or ws k (pos 0)) < abs W
unfolding parts_from
near_from P W b [] k z = omega (za, mul# (pos 0) W, mul# P (pos 0), sub# (pos 0 *ℤ W) (P *ℤ pos 0))
near_from P W b (w ∷ ws) zero z = part_near P b w W z
near_from P W b (w ∷ ws) (suc k) z = near_from P W (b +ℤ w) ws k z

pub parts_near :
    (P : ℤ) (ws : List ℤ) (k : ℕ)
    → pos 0 <ℤ sum_ℤ ws
    → abs (slice_index_or (running_share P ws) k (pos 0) *ℤ sum_ℤ ws -ℤ P *ℤ slice_index_or ws k (pos 0)) < abs (sum_ℤ ws)
unfolding running_share
parts_near P ws k z = near_from P (sum_ℤ ws) (pos 0) ws k z

-- ---- no part has the other sign than P, or a larger size
module _ (P : ℤ) (ws : List ℤ) (h : NonNeg ws) (z : pos 0 <ℤ sum_ℤ ws) where
  weight : {k : ℕ} → k < length (running_share P ws) → k < length ws
  weight l = rw length_share at l

  pub parts_up : pos 0 ≤ℤ P → NonNeg (running_share P ws)
  parts_up p = record { at = λ k l. rw (part_at P ws k) (part_up P (sum_take_rises ws k h (weight l)) z p) }

  pub parts_dn : P ≤ℤ pos 0 → (k : ℕ) → k < length (running_share P ws) → slice_index_or (running_share P ws) k (pos 0) ≤ℤ pos 0
  parts_dn p k l = rw (part_at P ws k) (part_dn P (sum_take_rises ws k h (weight l)) z p)

  pub parts_small : Small (abs P) (running_share P ws)
  parts_small = record {
    small = λ k l. rw (part_at P ws k) (part_small P (sum_take_nonneg ws k h) (sum_take_rises ws k h (weight l)) (sum_take_le ws (k + 1) h) z);
  }
