-- Of the tables of some credits and debits one is the largest in list order (paper 02, Q-6), whatever their number and size.
use Rattle.std.specs.Prelude.{◌≡◌, ℕ, ◌*◌, ◌/◌, ◌%◌, ◌⊎◌, List, length, ℤ, pos, ◌+ℤ◌, ◌*ℤ◌, ◌≤ℤ◌}
use Rattle.std.specs.Prelude.{slice_index_or}
use Rattle.std.proofs.Common.{subst, inl, inr}
use Rattle.ints.specs.Floor.{floor}
use Rattle.ints.specs.Sums.{sum_ℤ}
use Rattle.rules.specs.Table.{Cell, rounded_down, rounded_up, Table, Largest}
use Rattle.cells.specs.Naturals.{NonNegative}
use Rattle.cells.specs.Floors.{Spot, spot}
use Rattle.cells.specs.Exists.{a_table_exists}
use Rattle.cells.specs.Choice.{Narrow, largest_of}
use Rattle.cells.specs.Decided.{table?}

-- the floor of the cell at the place p
floor_at : List ℤ → List ℤ → ℕ → ℤ
floor_at vc vd p = floor (slice_index_or vc (p / length vd) (pos 0) *ℤ slice_index_or vd (p % length vd) (pos 0)) (sum_ℤ vd)

two : {x S cell : ℤ} → Cell x S cell → (cell ≡ floor x S) ⊎ (cell ≡ floor x S +ℤ pos 1)
two (rounded_down e) = inl e
two (rounded_up e n) = inr e

-- a table leaves each place its floor or one more
narrow : (vc vd cells : List ℤ) → Table vc vd cells → Narrow (length vc * length vd) (floor_at vc vd) cells
unfolding floor_at
narrow vc vd cells T = record { long = T.size; near = λ p h. near p (spot (length vc) (length vd) p h) }
  where
    near : (p : ℕ) → Spot (length vc) (length vd) p → (slice_index_or cells p (pos 0) ≡ floor_at vc vd p)
        ⊎ (slice_index_or cells p (pos 0) ≡ floor_at vc vd p +ℤ pos 1)
    near p s =
        subst (λ (q : ℕ). (slice_index_or cells q (pos 0) ≡ floor_at vc vd p) ⊎ (slice_index_or cells q (pos 0) ≡ floor_at vc vd p +ℤ pos 1)) s.place
        (two (T.cell (p / length vd) (p % length vd) s.row s.column))

pub record HasLargest (vc vd : List ℤ) : Type 0 where
  pub cells : List ℤ
  pub holds : Largest (Table vc vd) cells

pub a_largest_exists : (vc vd : List ℤ) → NonNegative vd → pos 1 ≤ℤ sum_ℤ vd → sum_ℤ vc ≡ sum_ℤ vd → HasLargest vc vd
a_largest_exists vc vd sign some equal =
    let t = a_table_exists vc vd sign some equal in
    let l = largest_of (length vc * length vd) (floor_at vc vd) (Table vc vd) (table? vc vd) (narrow vc vd) t.cells t.holds in
    record { cells = l.list; holds = l.largest }
