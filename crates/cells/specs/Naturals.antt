-- Debits as naturals: none is negative, so nothing is lost.
use Rattle.std.specs.Prelude.{◌≡◌, ℕ, suc, ◌+◌, ◌<◌, ◌≤◌, List, length, get_or, ℤ, pos, ◌≤ℤ◌, slice_index_or, slice_set, refl}
use Rattle.std.proofs.Common.{sym, ◌∙◌, arith, zero-add, add-one}
use Rattle.ints.specs.Bridge.{up, za}
use Rattle.ints.specs.NatSums.{Σ, Σ_upto}
use Rattle.ints.specs.Sums.{sum_ℤ, sum_end, Σ_ext, Σ_list, Σ_pos}
use Rattle.cells.specs.Fill.{Filled, filled_none, filled_more}

abbrev pub debit_at : List ℤ → ℕ → ℕ
debit_at vd k = up (slice_index_or vd k (pos 0))

-- none is negative
pub record NonNegative (vd : List ℤ) : Type 0 where
  pub above : (k : ℕ) → k < length vd → pos 0 ≤ℤ slice_index_or vd k (pos 0)

pub debit_is : {vd : List ℤ} → NonNegative vd → (k : ℕ) → k < length vd → slice_index_or vd k (pos 0) ≡ pos (debit_at vd k)
debit_is N k h = omega (za, N.above k h)

-- the sum as a natural
pub sum_is : (vd : List ℤ) → NonNegative vd → sum_ℤ vd ≡ pos (Σ (length vd) (debit_at vd))
sum_is vd N =
    sym (sum_end vd (length vd) refl)
    ∙ sym (Σ_list vd (length vd) (omega arith))
    ∙ Σ_ext (length vd) (λ k. get_or vd k (pos 0)) (λ k. pos (debit_at vd k)) (λ k h. debit_is N k h)
    ∙ Σ_pos (length vd) (debit_at vd)

-- ---- the loop that writes them
pub record Unsigned (vd : List ℤ) (debits : List ℕ) : Type 0 where
  pub long : length debits ≡ length vd
  pub sign : NonNegative vd
  pub most : Σ (length vd) (debit_at vd) ≤ 100000000000000000

pub record Naturals (vd : List ℤ) (debits debits' : List ℕ) (j sum : ℕ) : Type 0 where
  pub here : j ≤ length vd
  pub wrote : Filled 0 0 (debit_at vd) debits debits' j
  pub total : sum ≡ Σ j (debit_at vd)

pub naturals_start : (vd : List ℤ) (debits : List ℕ) → Naturals vd debits debits 0 0
unfolding Σ
naturals_start vd debits = record { here = omega arith; wrote = filled_none 0 0 (debit_at vd) debits; total = refl }

module _ {vd : List ℤ} {debits debits' : List ℕ} {j sum : ℕ} (A : Unsigned vd debits) (N : Naturals vd debits debits' j sum) (h : j < length vd) where
  -- the sum with the next stays below the whole
  pub sum_small : sum + debit_at vd j ≤ 100000000000000000
  unfolding Σ
  sum_small = omega (arith, N.total, A.most, Σ_upto (suc j) (length vd) (debit_at vd) h)

  pub naturals_more : (x : ℕ) → x ≡ debit_at vd j → Naturals vd debits (slice_set debits' j x) (j + 1) (sum + x)
  unfolding Σ
  naturals_more x e = record {
    here = omega arith;
    wrote = rw (zero-add j) at (filled_more N.wrote (omega (arith, N.wrote.long, A.long)) x e);
    total = rw (add-one j) (omega (arith, N.total));
  }
