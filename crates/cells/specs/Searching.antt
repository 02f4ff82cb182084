-- What the search has open, as the code holds it, and what its calls do to the struct: the laws of `Visit` and `Place` at its slices.
-- In those laws a list of numbers says what is open, above 0 while it is.
use Rattle.std.specs.Prelude.{◌≡◌, ℕ, ◌*◌, ◌<◌, Bool, true, false, cond, Option, List, length, map, slice_index, slice_index_or, slice_set}
use Rattle.std.specs.Prelude.{replicate, refl}
use Rattle.std.proofs.Common.{ap, ◌∙◌, arith}
use Rattle.std.proofs.lemmas.List.{map-set, length-map, length-replicate, get_or-map, get_or-replicate}
use Rattle.cells.specs.declared.search.Search.{Search}
use Rattle.cells.specs.Visit.{Free, RowVisited, ColVisited}
use Rattle.cells.specs.Place.{Wanted, RowPlaced, Placed}

-- 1 while open
abbrev bit : Bool → ℕ
bit b = cond b 1 0

unfoldable pub opened : List Bool → List ℕ
opened = map bit

pub length-opened : (l : List Bool) → length (opened l) ≡ length l
unfolding opened
length-opened l = length-map l bit

-- a visit closes a row or a column
pub opened-set : (l : List Bool) (i : ℕ) → opened (slice_set l i false) ≡ slice_set (opened l) i 0
unfolding opened
opened-set l i = map-set bit l i false

pub opened_on : (l : List Bool) (i : ℕ) → i < length l → slice_index_or l i false ≡ true → 0 < slice_index (opened l) i
unfolding opened
opened_on l i h e = rw (get_or-map bit l i false 0 h, e) (omega arith)

pub opened_off : (l : List Bool) (i : ℕ) → i < length l → slice_index_or l i false ≡ false → slice_index (opened l) i ≡ 0
unfolding opened
opened_off l i h e = rw (get_or-map bit l i false 0 h, e) refl

pub opened_all : (l : List Bool) (n : ℕ) → l ≡ replicate n true → (i : ℕ) → i < n → 0 < slice_index (opened l) i
opened_all l n e i h =
    opened_on l i (rw (e, length-replicate {A = Bool} n true) h) (ap (λ (l : List Bool). slice_index_or l i false) e ∙ get_or-replicate n i true false h)

-- ---- the struct at the laws
abbrev pub height : Search → ℕ
height s = length s.open_rows.now

abbrev pub width : Search → ℕ
width s = length s.open_columns.now

abbrev pub rows : Search → List ℕ
rows s = opened s.open_rows.now

abbrev pub columns : Search → List ℕ
columns s = opened s.open_columns.now

pub cells_long : (s : Search) → length s.table.marks.now ≡ height s * width s
cells_long s = rw (s.tall, s.wide) at s.table.grid

abbrev pub IsWanted : Search → Type 0
IsWanted s = Wanted (height s) (width s) s.table.marks.now s.table.lacks.now s.table.wants.now

-- a column that row i can take at once, if there is one
abbrev pub FreeIn : Search → ℕ → Option ℕ → Type 0
FreeIn s i r = Free (width s) s.table.marks.now s.table.wants.now (columns s) i r

-- what a visit keeps, whatever it finds
pub record Still (s s' : Search) : Type 0 where
  pub lacks : s'.table.lacks.now ≡ s.table.lacks.now
  pub cells : length s'.table.marks.now ≡ length s.table.marks.now
  pub wide : length s'.table.wants.now ≡ length s.table.wants.now
  pub rows : height s' ≡ height s
  pub columns : width s' ≡ width s

pub still_then : {s s' s'' : Search} → Still s s' → Still s' s'' → Still s s''
still_then a b = record {
  lacks = b.lacks ∙ a.lacks;
  cells = b.cells ∙ a.cells;
  wide = b.wide ∙ a.wide;
  rows = b.rows ∙ a.rows;
  columns = b.columns ∙ a.columns;
}

abbrev pub VisitsRow : Search → Search → ℕ → Bool → Type 0
VisitsRow s s' i r = Still s s' × RowVisited (height s) (width s) s.table.marks.now s.table.wants.now (rows s) (columns s)
    s'.table.marks.now s'.table.wants.now (rows s') (columns s') i r

abbrev pub VisitsColumn : Search → Search → ℕ → Bool → Type 0
VisitsColumn s s' j r = Still s s' × ColVisited (height s) (width s) s.table.marks.now s.table.wants.now (rows s) (columns s)
    s'.table.marks.now s'.table.wants.now (rows s') (columns s') j r

abbrev pub PlacesRow : Search → Search → ℕ → Type 0
PlacesRow s s' i = RowPlaced (height s) (width s) s.table.marks.now s.table.lacks.now s.table.wants.now
    s'.table.marks.now s'.table.lacks.now s'.table.wants.now i

abbrev pub Places : Search → Search → Type 0
Places s s' = (length s'.table.marks.now ≡ length s.table.marks.now)
    × Placed (height s) (width s) s.table.marks.now s.table.lacks.now s.table.wants.now s'.table.marks.now
