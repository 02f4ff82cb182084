-- Whether a list of cells is a table can be decided: its rules are equations of whole numbers, for the payees and the users of two lists.
use Rattle.std.specs.Prelude.{◌≡◌, ℕ, zero, suc, ◌*◌, ◌<◌, List, length, ℤ, pos, ◌+ℤ◌, ◌*ℤ◌, slice_index_or}
use Rattle.std.proofs.Common.{sym, subst, arith, not-suc-le-zero}
use Rattle.std.proofs.Math.Decide.{ℕ_discrete, map_dec}
use Rattle.std.proofs.Math.IntN.{ℤ_discrete}
use Rattle.ints.specs.Floor.{floor}
use Rattle.ints.specs.Sums.{sum_ℤ, Σ<}
use Rattle.rules.specs.Table.{Cell, rounded_down, rounded_up, cell_at, Table}

both? : {A B : Type 0} → Dec A → Dec B → Dec (A × B)
both? (yes a) (yes b) = yes (a, b)
both? (yes a) (no f) = no (λ t. f t.1)
both? (no f) d = no (λ t. f t.0)

-- P of every number below n
all_below? : (n : ℕ) (P : ℕ → Type 0) → ((i : ℕ) → Dec (P i)) → Dec ((i : ℕ) → i < n → P i)
all_below? zero P dec = yes (λ i h. absurd (not-suc-le-zero h))
all_below? (suc n) P dec = map_dec more (λ f. (λ i h. f i (omega arith), f n (omega arith))) (both? (all_below? n P dec) (dec n))
  where
    more : ((i : ℕ) → i < n → P i) × P n → (i : ℕ) → i < suc n → P i
    more t i h = go (ℕ_discrete i n)
      where
        go : Dec (i ≡ n) → P i
        go (yes e) = subst P (sym e) t.1
        go (no f) = t.0 i (omega arith)

cell? : (x S cell : ℤ) → Dec (Cell x S cell)
cell? x S cell = go (ℤ_discrete cell (floor x S)) (ℤ_discrete cell (floor x S +ℤ pos 1)) (ℤ_discrete (floor x S *ℤ S) x)
  where
    go : Dec (cell ≡ floor x S) → Dec (cell ≡ floor x S +ℤ pos 1) → Dec (floor x S *ℤ S ≡ x) → Dec (Cell x S cell)
    go (yes d) u w = yes (rounded_down d)
    go (no d) (yes u) (no w) = yes (rounded_up u w)
    go (no d) (yes u) (yes w) = no none
      where
        none : Cell x S cell → ⊥
        none (rounded_down e) = d e
        none (rounded_up e n) = n w
    go (no d) (no u) w = no none
      where
        none : Cell x S cell → ⊥
        none (rounded_down e) = d e
        none (rounded_up e n) = u e

module _ (vc vd cells : List ℤ) where
  size? : Dec (length cells ≡ length vc * length vd)
  size? = ℕ_discrete (length cells) (length vc * length vd)

  cells? : Dec ((i : ℕ) → i < length vc → (j : ℕ) → j < length vd → Cell (slice_index_or vc i (pos 0) *ℤ slice_index_or vd j (pos 0)) (sum_ℤ vd)
      (cell_at (length vd) cells i j))
  cells? = all_below? (length vc) _ (λ i. all_below? (length vd) _ (λ j. cell? _ _ _))

  rows? : Dec ((i : ℕ) → i < length vc → Σ< (length vd) (λ j. cell_at (length vd) cells i j) ≡ slice_index_or vc i (pos 0))
  rows? = all_below? (length vc) _ (λ i. ℤ_discrete _ _)

  columns? : Dec ((j : ℕ) → j < length vd → Σ< (length vc) (λ i. cell_at (length vd) cells i j) ≡ slice_index_or vd j (pos 0))
  columns? = all_below? (length vd) _ (λ j. ℤ_discrete _ _)

  pub table? : Dec (Table vc vd cells)
  table? =
      map_dec (λ t. record { size = t.0.0; cell = λ i j h k. t.0.1 i h j k; row = t.1.0; column = t.1.1 })
      (λ T. ((T.size, λ i h j k. T.cell i j h k), (T.row, T.column))) (both? (both? size? cells?) (both? rows? columns?))
