-- The table of cells (paper 01, "The table of cells"; Submódulo 8.3, (12) and (14)).
use Rattle.std.specs.Prelude.{ℕ, ◌+◌, ◌*◌, ◌<◌, ◌≡◌, ◌≢◌, List, ℤ, pos, ◌+ℤ◌, ◌*ℤ◌, length, get_or, ◌≤ℤ◌}
use Rattle.ints.specs.Floor.{floor}
use Rattle.ints.specs.Sums.{sum_ℤ, Σ<}

-- a cell of exact value x / S: its floor, or its floor plus 1 where the value is not whole
pub data Cell (x S cell : ℤ) : Type 0 where
  rounded_down : cell ≡ floor x S → Cell x S cell
  rounded_up : cell ≡ floor x S +ℤ pos 1 → floor x S *ℤ S ≢ x → Cell x S cell

-- the cell of the payee i and the user j, counted from 0: cells stand payee by payee, users in order
abbrev pub cell_at : ℕ → List ℤ → ℕ → ℕ → ℤ
cell_at users cells i j = get_or cells (i * users + j) (pos 0)

-- the cells of payees with credits vc and users with debits vd
pub record Table (vc vd cells : List ℤ) : Type 0 where
  pub size : length cells ≡ length vc * length vd
  pub cell : (i j : ℕ) → i < length vc → j < length vd → Cell (get_or vc i (pos 0) *ℤ get_or vd j (pos 0)) (sum_ℤ vd) (cell_at (length vd) cells i j)
  -- each payee's total VC, each user's total VD
  pub row : (i : ℕ) → i < length vc → Σ< (length vd) (λ j. cell_at (length vd) cells i j) ≡ get_or vc i (pos 0)
  pub column : (j : ℕ) → j < length vd → Σ< (length vc) (λ i. cell_at (length vd) cells i j) ≡ get_or vd j (pos 0)

-- Of all lists of cells that are T the largest in list order, payees in order and users within them (paper 02, Q-6): another one that has
-- the same cells before the place p holds no more at p
pub record Largest (T : List ℤ → Type 0) (cells : List ℤ) : Type 0 where
  pub table : T cells
  pub first : (other : List ℤ) → T other → (p : ℕ) → ((q : ℕ) → q < p → get_or other q (pos 0) ≡ get_or cells q (pos 0))
      → get_or other p (pos 0) ≤ℤ get_or cells p (pos 0)
