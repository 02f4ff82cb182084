-- The marks by list order: of all choices of marks with these totals, the one that holds more at the first cell where it differs from another.
use Rattle.std.specs.Prelude.{◌≡◌, ℕ, ◌+◌, ◌-◌, ◌*◌, ◌<◌, ◌≤◌, List, slice_index}
use Rattle.ints.specs.NatSums.{Σ}
use Rattle.cells.specs.Marks.{at, row, col, Kind}

-- a cell's mark
abbrev pub mk : List ℕ → ℕ → ℕ
mk xs p = slice_index xs p - 1

-- another choice of marks, cell by cell, on the broken cells of xs and with its totals
pub record Other (m n : ℕ) (xs : List ℕ) (y : ℕ → ℕ) : Type 0 where
  pub most : (i j : ℕ) → i < m → j < n → y (i * n + j) ≤ 1
  pub whole : (i j : ℕ) → i < m → j < n → at n xs i j ≡ 0 → y (i * n + j) ≡ 0
  pub rows : (i : ℕ) → i < m → Σ n (λ j. y (i * n + j)) ≡ row n xs i
  pub cols : (j : ℕ) → j < n → Σ m (λ i. y (i * n + j)) ≡ col m n xs j

-- none that has the totals of xs holds more than ys at the first cell where the two differ, if that is below P
pub record First (m n : ℕ) (xs ys : List ℕ) (P : ℕ) : Type 0 where
  pub first : (y : ℕ → ℕ) → Other m n xs y → (p : ℕ) → p < P → ((q : ℕ) → q < p → y q ≡ mk ys q) → y p ≤ mk ys p

-- the pass: the same broken cells and totals as xs, and first by list order
pub record Led (m n : ℕ) (xs ys : List ℕ) : Type 0 where
  pub kind : Kind xs ys
  pub rows : (i : ℕ) → i < m → row n ys i ≡ row n xs i
  pub cols : (j : ℕ) → j < n → col m n ys j ≡ col m n xs j
  pub first : First m n xs ys (m * n)
