-- A table's slices in one struct: what calls ask of it, and what they leave.
use Rattle.std.specs.Prelude.{◌≡◌, ℕ, ◌*◌, List, length, ℤ, slice_set}
use Rattle.cells.specs.declared.marks.Marking.{Marking}
use Rattle.cells.specs.Kept.{Kept}
use Rattle.cells.specs.Rows.{RowFloors}
use Rattle.cells.specs.Floors.{Slices, Floored}

abbrev pub KeepsTotals : Marking → Marking → Type 0
KeepsTotals t t' = Kept (length t.lacks.now) (length t.wants.now) t.marks.now t.lacks.now t.wants.now t'.marks.now t'.lacks.now t'.wants.now

-- ---- the floors
abbrev pub HasRoom : Marking → List ℤ → List ℕ → List ℤ → List ℕ → Type 0
HasRoom t vc debits cells lefts = Slices vc debits cells t.marks.now t.lacks.now t.wants.now lefts

-- row i has been floored
pub record FloorsRow (t : Marking) (i : ℕ) (v : ℤ) (debits : List ℕ) (w : ℕ) (cells : List ℤ) (lefts : List ℕ) (t' : Marking) (cells' : List ℤ)
    (lefts' : List ℕ) : Type 0 where
  pub lack : ℕ
  pub lacks : t'.lacks.now ≡ slice_set t.lacks.now i lack
  pub row : RowFloors v debits w cells t.marks.now t.wants.now lefts (i * length debits) cells' t'.marks.now t'.wants.now lefts' (length debits) lack

abbrev pub Floors : List ℤ → List ℕ → ℕ → List ℤ → Marking → Marking → Type 0
Floors vc debits w cells t t' = Floored vc debits w cells t'.marks.now t'.lacks.now t'.wants.now
    × (length t'.marks.now ≡ length t.marks.now) × (length t'.lacks.now ≡ length t.lacks.now) × (length t'.wants.now ≡ length t.wants.now)
