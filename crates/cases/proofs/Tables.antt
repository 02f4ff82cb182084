-- A test that tells whether a list of cells is a table, and that it says so only of tables; the same of whole values.
use Prim.Native.Nat.{ℕ, zero, suc, ◌*◌, ◌<◌}
use mathlib.Core.Path.{◌≡◌, refl, ap, ◌∙◌}
use mathlib.Core.Bool.{Bool, true, false, not, ◌&&◌, ◌||◌, false≢true}
use mathlib.Core.Logic.{◌⊎◌, inl, inr}
use mathlib.Core.List.{List}
use native.Mathlib.Omega.{arith}
use native.Mathlib.Nat.{not-suc-le-zero}
use native.Mathlib.Decide.{ℕ_discrete}
use lib.Dec.{eqb}
use lib.IntN.{ℤ, pos, ◌+ℤ◌, ◌*ℤ◌}
use lib.ListN.{length, get_or}
use borrow.Author.Tests.{eqb-true, not-true}
use Rattle.ints.specs.Floor.{floor}
use Rattle.ints.specs.Range.{eq_z, eq_z_true, eq_z_false}
use Rattle.ints.specs.Sums.{sum_ℤ, Σ<}
use Rattle.rules.specs.Table.{Cell, rounded_down, rounded_up, cell_at, Table}
use Rattle.rules.proofs.OneTable.{AllWhole}

-- a test of every number below n
abbrev below : ℕ → (ℕ → Bool) → Bool
below zero f = true
below (suc n) f = below n f && f n

and_left : (a b : Bool) → (a && b) ≡ true → a ≡ true
and_left true b e = refl
and_left false b e = absurd (false≢true e)

and_right : (a b : Bool) → (a && b) ≡ true → b ≡ true
and_right true b e = e
and_right false b e = absurd (false≢true e)

or_cases : (a b : Bool) → (a || b) ≡ true → (a ≡ true) ⊎ (b ≡ true)
or_cases true b e = inl refl
or_cases false b e = inr e

below_at : (n : ℕ) (f : ℕ → Bool) → below n f ≡ true → (k : ℕ) → k < n → f k ≡ true
below_at zero f e k h = absurd (not-suc-le-zero h)
below_at (suc n) f e k h = go (ℕ_discrete k n) (below_at n f (and_left (below n f) (f n) e) k)
  where
    go : Dec (k ≡ n) → (k < n → f k ≡ true) → f k ≡ true
    go (yes p) r = ap f p ∙ and_right (below n f) (f n) e
    go (no q) r = r (omega arith)

-- x / S is whole
abbrev is_whole : ℤ → ℤ → Bool
is_whole x S = eq_z (floor x S *ℤ S) x

-- a cell: the floor, or the floor plus 1 where the value is not whole
abbrev is_up : ℤ → ℤ → ℤ → Bool
is_up x S cell = eq_z cell (floor x S +ℤ pos 1) && not (is_whole x S)

abbrev is_cell : ℤ → ℤ → ℤ → Bool
is_cell x S cell = eq_z cell (floor x S) || is_up x S cell

cell_of : (x S cell : ℤ) → is_cell x S cell ≡ true → Cell x S cell
cell_of x S cell e = go (or_cases (eq_z cell (floor x S)) (is_up x S cell) e)
  where
    go : (eq_z cell (floor x S) ≡ true) ⊎ (is_up x S cell ≡ true) → Cell x S cell
    go (inl d) = rounded_down (eq_z_true cell (floor x S) d)
    go (inr u) =
        rounded_up (eq_z_true cell (floor x S +ℤ pos 1) (and_left (eq_z cell (floor x S +ℤ pos 1)) (not (is_whole x S)) u))
        (eq_z_false (floor x S *ℤ S) x (not-true (is_whole x S) (and_right (eq_z cell (floor x S +ℤ pos 1)) (not (is_whole x S)) u)))

module _ (vc vd cells : List ℤ) where
  abbrev fit : Bool
  fit = eqb (length cells) (length vc * length vd)

  abbrev fine : ℕ → ℕ → Bool
  fine i j = is_cell (get_or vc i (pos 0) *ℤ get_or vd j (pos 0)) (sum_ℤ vd) (cell_at (length vd) cells i j)

  abbrev row_right : ℕ → Bool
  row_right i = eq_z (Σ< (length vd) (λ j. cell_at (length vd) cells i j)) (get_or vc i (pos 0))

  abbrev column_right : ℕ → Bool
  column_right j = eq_z (Σ< (length vc) (λ i. cell_at (length vd) cells i j)) (get_or vd j (pos 0))

  abbrev all_fine : Bool
  all_fine = below (length vc) (λ i. below (length vd) (fine i))

  abbrev totals : Bool
  totals = below (length vc) row_right && below (length vd) column_right

  -- the size, each cell, each payee's and each user's total
  abbrev pub is_table : Bool
  is_table = (fit && all_fine) && totals

  pub table_of : is_table ≡ true → Table vc vd cells
  table_of e =
      let s = and_left (fit && all_fine) totals e in
      let t = and_right (fit && all_fine) totals e in
      record {
        size = eqb-true (length cells) (length vc * length vd) (and_left fit all_fine s);
        cell = λ i j h k. cell_of (get_or vc i (pos 0) *ℤ get_or vd j (pos 0)) (sum_ℤ vd) (cell_at (length vd) cells i j)
            (below_at (length vd) (fine i) (below_at (length vc) (λ m. below (length vd) (fine m)) (and_right fit all_fine s) i h) j k);
        row = λ i h. eq_z_true (Σ< (length vd) (λ j. cell_at (length vd) cells i j)) (get_or vc i (pos 0))
            (below_at (length vc) row_right (and_left (below (length vc) row_right) (below (length vd) column_right) t) i h);
        column = λ j h. eq_z_true (Σ< (length vc) (λ i. cell_at (length vd) cells i j)) (get_or vd j (pos 0))
            (below_at (length vd) column_right (and_right (below (length vc) row_right) (below (length vd) column_right) t) j h);
      }

-- every exact value is whole
module _ (vc vd : List ℤ) where
  abbrev whole_at : ℕ → ℕ → Bool
  whole_at i j = is_whole (get_or vc i (pos 0) *ℤ get_or vd j (pos 0)) (sum_ℤ vd)

  abbrev pub all_whole : Bool
  all_whole = below (length vc) (λ i. below (length vd) (whole_at i))

  pub whole_of : all_whole ≡ true → AllWhole vc vd
  whole_of e = record {
    at = λ i j h k. eq_z_true _ _ (below_at (length vd) (whole_at i) (below_at (length vc) (λ m. below (length vd) (whole_at m)) e i h) j k);
  }
