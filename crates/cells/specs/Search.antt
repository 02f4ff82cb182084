-- The search as a theorem, for tables of any size: a visit always ends, with a mark found or with its part closed. By induction on what
-- is still open, from the same steps that the code takes.
use Rattle.std.specs.Prelude.{◌≡◌, ℕ, zero, suc, ◌+◌, ◌-◌, ◌*◌, ◌<◌, ◌≤◌, Bool, true, false, Option, Some, None, List}
use Rattle.std.specs.Prelude.{length, replicate, refl}
use Rattle.std.specs.Prelude.{slice_index, slice_index_or, slice_set}
use Rattle.std.proofs.Common.{sym, ap, ap₂, ◌∙◌, arith, length-set}
use Rattle.std.proofs.Math.Decide.{ℕ_discrete, dec_lt}
use Rattle.std.proofs.lemmas.List.{length-replicate, get_or-replicate}
use Rattle.ints.specs.NatSums.{total, total_set}
use Rattle.cells.specs.Marks.{at, below}
use Rattle.cells.specs.Kept.{Feasible}
use Rattle.cells.specs.Visit.{Shape, Free, FreeInv, free_start, free_pass, free_better, free_end, RowVisited, ColVisited}
use Rattle.cells.specs.Turns.{RowInv, ColInv, row_start, row_skip, row_miss, row_wants, row_less, row_hit, row_last}
use Rattle.cells.specs.Turns.{row_now, col_start, col_skip, col_miss, col_less, col_hit, col_last}
use Rattle.cells.specs.Place.{Placed, Going, going_start, going_past, going_on, going_end, kept_more}

-- what a visit leaves
record Answer (marks wants rows columns : List ℕ) (Q : List ℕ → List ℕ → List ℕ → List ℕ → Bool → Type 0) : Type 0 where
  found : Bool
  marks' : List ℕ
  wants' : List ℕ
  rows' : List ℕ
  columns' : List ℕ
  visited : Q marks' wants' rows' columns' found
  cells : length marks' ≡ length marks
  wide : length wants' ≡ length wants
  tall : length rows' ≡ length rows
  long : length columns' ≡ length columns

abbrev RowAnswer : List ℕ → List ℕ → List ℕ → List ℕ → ℕ → Type 0
RowAnswer marks wants rows columns i = Answer marks wants rows columns (λ ys wd ro co r. RowVisited (length rows)
    (length columns) marks wants rows columns ys wd ro co i r)

abbrev ColAnswer : List ℕ → List ℕ → List ℕ → List ℕ → ℕ → Type 0
ColAnswer marks wants rows columns j = Answer marks wants rows columns (λ ys wd ro co r. ColVisited (length rows)
    (length columns) marks wants rows columns ys wd ro co j r)

-- visits with at most k open
abbrev Rows : ℕ → Type 0
Rows k = (marks wants rows columns : List ℕ) (i : ℕ) → Shape marks wants rows columns → i < length rows → 0 < slice_index rows i
    → total rows + total columns ≤ k
    → RowAnswer marks wants rows columns i

abbrev Cols : ℕ → Type 0
Cols k = (marks wants rows columns : List ℕ) (j : ℕ) → Shape marks wants rows columns → j < length columns → 0 < slice_index columns j
    → slice_index wants j ≡ 0 → total rows + total columns ≤ k → ColAnswer marks wants rows columns j

-- ---- a column that the row can take at once, or none
record FreeAt (n : ℕ) (marks wants columns : List ℕ) (i : ℕ) : Type 0 where
  place : Option ℕ
  free : Free n marks wants columns i place

free_from : (n : ℕ) (marks wants columns : List ℕ) (i d j : ℕ) (best : Option ℕ) (most : ℕ) → j + d ≡ n
    → FreeInv n marks wants columns i best most j → FreeAt n marks wants columns i
free_from n marks wants columns i zero j best most e I = record { place = best; free = free_end best I (omega arith) }
free_from n marks wants columns i (suc d) j best most e I = go (dec_lt most (slice_index wants j)) (ℕ_discrete (at n marks i j) 1)
    (dec_lt 0 (slice_index columns j))
    (λ b m J. free_from n marks wants columns i d (j + 1) b m (omega arith) J)
  where
    h : j < n
    h = omega arith

    go : Dec (most < slice_index wants j) → Dec (at n marks i j ≡ 1) → Dec (0 < slice_index columns j)
        → ((b : Option ℕ) (m : ℕ) → FreeInv n marks wants columns i b m (j + 1) → FreeAt n marks wants columns i) → FreeAt n marks wants columns i
    go (yes p) (yes q) (yes r) on = on (Some j) (slice_index wants j) (free_better I h p q r)
    go (no p) q r on = on best most (free_pass I h (λ a b. omega (arith, p)))
    go (yes p) (no q) r on = on best most (free_pass I h (λ a b. absurd (q a)))
    go (yes p) (yes q) (no r) on = on best most (free_pass I h (λ a b. absurd (r b)))

-- ---- a row, from visits of columns
module _ (k : ℕ) (cols : Cols k) (marks wants rows columns : List ℕ) (i : ℕ) (S : Shape marks wants rows columns) (hi : i < length rows)
    (o : 0 < slice_index rows i)
    (most : total rows + total columns ≤ suc k) where
  row_loop : Free (length columns) marks wants columns i None → (d j : ℕ) {ms ws ro co : List ℕ} → j + d ≡ length columns
      → RowInv (length rows) (length columns) marks wants (slice_set rows i 0) columns i ms ws ro co j → RowAnswer marks wants rows columns i
  row_loop F zero j {ms} {ws} {ro} {co} e I = record {
    found = false;
    marks' = ms;
    wants' = ws;
    rows' = ro;
    columns' = co;
    visited = row_last rows i refl hi o j I (omega arith);
    cells = ap length I.0.same;
    wide = ap length I.0.wants;
    tall = I.0.tall;
    long = I.0.long;
  }
  row_loop F (suc d) j {ms} {ws} {ro} {co} e I = go (dec_lt 0 (slice_index co j)) (ℕ_discrete (at (length columns) ms i j) 1)
      (λ ms' ws' ro' co' J. row_loop F d (j + 1) (omega arith) J)
    where
      h : j < length columns
      h = omega arith

      p : i * length columns + j < length marks
      p = omega (arith, S.cells, below hi h)

      go : Dec (0 < slice_index co j) → Dec (at (length columns) ms i j ≡ 1) → ((ms' ws' ro' co' : List ℕ)
          → RowInv (length rows) (length columns) marks wants (slice_set rows i 0) columns i ms' ws' ro' co' (j + 1) → RowAnswer marks wants rows columns i)
          → RowAnswer marks wants rows columns i
      go (no c) q on = on _ _ _ _ (row_skip i j I h (λ a. omega (arith, c)))
      go (yes c) (no q) on = on _ _ _ _ (row_skip i j I h (λ a. absurd (q a)))
      go (yes c) (yes q) on = turn (cols ms ws ro co j (record {
        cells = ap length I.0.same ∙ S.cells
            ∙ sym (ap₂ ◌*◌ I.0.tall I.0.long);
        wide = ap length I.0.wants ∙ S.wide ∙ sym I.0.long;
      }) (omega (arith, I.0.long)) c
          (row_wants i j I h F q c) (omega (arith, row_less rows i refl hi o j I)))
        where
          turn : ColAnswer ms ws ro co j → RowAnswer marks wants rows columns i
          turn a = by a.found refl
            where
              by : (r : Bool) → a.found ≡ r → RowAnswer marks wants rows columns i
              by true y = record {
                found = true;
                marks' = slice_set a.marks' (i * length columns + j) 2;
                wants' = a.wants';
                rows' = a.rows';
                columns' = a.columns';
                visited = row_hit rows i refl hi o j I a.found h (omega (arith, p, a.cells, ap length I.0.same)) q c (rw (I.0.tall, I.0.long) at a.visited) y;
                cells = length-set a.marks' (i * length columns + j) 2 ∙ a.cells ∙ ap length I.0.same;
                wide = a.wide ∙ ap length I.0.wants;
                tall = a.tall ∙ I.0.tall;
                long = a.long ∙ I.0.long;
              }
              by false y = on _ _ _ _ (row_miss i j I h a.found (rw (I.0.tall, I.0.long) at a.visited) y (a.tall ∙ I.0.tall) (a.long ∙ I.0.long))

  row_visit : RowAnswer marks wants rows columns i
  row_visit = go (free_from (length columns) marks wants columns i (length columns) 0 None 0 (omega arith)
      (free_start (length columns) marks wants columns i))
    where
      go : FreeAt (length columns) marks wants columns i → RowAnswer marks wants rows columns i
      go a = by a.place a.free
        where
          by : (r : Option ℕ) → Free (length columns) marks wants columns i r → RowAnswer marks wants rows columns i
          by (Some f) F = record {
            found = true;
            marks' = slice_set marks (i * length columns + f) 2;
            wants' = slice_set wants f (slice_index wants f - 1);
            rows' = rows;
            columns' = columns;
            visited = row_now i f S.cells S.wide hi o F rows;
            cells = length-set marks (i * length columns + f) 2;
            wide = length-set wants f (slice_index wants f - 1);
            tall = refl;
            long = refl;
          }
          by None F = row_loop F (length columns) 0 (omega arith) (row_start marks wants (slice_set rows i 0) columns i (length-set rows i 0) refl)

-- ---- a column, from visits of rows
module _ (k : ℕ) (row : Rows k) (marks wants rows columns : List ℕ) (j : ℕ) (S : Shape marks wants rows columns) (hj : j < length columns) (o : 0
    < slice_index columns j) (w : slice_index_or wants j 0 ≡ 0) (most : total rows + total columns ≤ suc k) where
  col_loop : (d i : ℕ) {ms ws ro co : List ℕ} → i + d ≡ length rows
      → ColInv (length rows) (length columns) marks wants rows (slice_set columns j 0) j ms ws ro co i
      → ColAnswer marks wants rows columns j
  col_loop zero i {ms} {ws} {ro} {co} e I = record {
    found = false;
    marks' = ms;
    wants' = ws;
    rows' = ro;
    columns' = co;
    visited = col_last columns j refl hj o i I (omega arith) w;
    cells = ap length I.0.same;
    wide = ap length I.0.wants;
    tall = I.0.tall;
    long = I.0.long;
  }
  col_loop (suc d) i {ms} {ws} {ro} {co} e I = go (dec_lt 0 (slice_index ro i)) (ℕ_discrete (at (length columns) ms i j) 2)
      (λ ms' ws' ro' co' J. col_loop d (i + 1) (omega arith) J)
    where
      h : i < length rows
      h = omega arith

      p : i * length columns + j < length marks
      p = omega (arith, S.cells, below h hj)

      go : Dec (0 < slice_index ro i) → Dec (at (length columns) ms i j ≡ 2) → ((ms' ws' ro' co' : List ℕ)
          → ColInv (length rows) (length columns) marks wants rows (slice_set columns j 0) j ms' ws' ro' co' (i + 1) → ColAnswer marks wants rows columns j)
          → ColAnswer marks wants rows columns j
      go (no c) q on = on _ _ _ _ (col_skip j i I h (λ a. omega (arith, c)))
      go (yes c) (no q) on = on _ _ _ _ (col_skip j i I h (λ a. absurd (q a)))
      go (yes c) (yes q) on = turn (row ms ws ro co i (record {
        cells = ap length I.0.same ∙ S.cells
            ∙ sym (ap₂ ◌*◌ I.0.tall I.0.long);
        wide = ap length I.0.wants ∙ S.wide ∙ sym I.0.long;
      }) (omega (arith, I.0.tall)) c
          (omega (arith, col_less columns j refl hj o i I)))
        where
          turn : RowAnswer ms ws ro co i → ColAnswer marks wants rows columns j
          turn a = by a.found refl
            where
              by : (r : Bool) → a.found ≡ r → ColAnswer marks wants rows columns j
              by true y = record {
                found = true;
                marks' = slice_set a.marks' (i * length columns + j) 1;
                wants' = a.wants';
                rows' = a.rows';
                columns' = a.columns';
                visited = col_hit columns j refl hj o i I a.found h (omega (arith, p, a.cells, ap length I.0.same)) q c
                    (rw (I.0.tall, I.0.long) at a.visited) y;
                cells = length-set a.marks' (i * length columns + j) 1 ∙ a.cells ∙ ap length I.0.same;
                wide = a.wide ∙ ap length I.0.wants;
                tall = a.tall ∙ I.0.tall;
                long = a.long ∙ I.0.long;
              }
              by false y = on _ _ _ _ (col_miss j i I h a.found (rw (I.0.tall, I.0.long) at a.visited) y (a.tall ∙ I.0.tall) (a.long ∙ I.0.long))

  col_visit : ColAnswer marks wants rows columns j
  col_visit = col_loop (length rows) 0 (omega arith) (col_start marks wants rows (slice_set columns j 0) j refl (length-set columns j 0))

-- ---- both, by induction
part_of : (l : List ℕ) (i : ℕ) → i < length l → slice_index l i ≤ total l
part_of l i h = omega (arith, total_set l i 0 h)

visits : (k : ℕ) → Rows k × Cols k
visits zero = (
  λ marks wants rows columns i S h o l. absurd (omega (arith, part_of rows i h)),
  λ marks wants rows columns j S h o w l. absurd (omega (arith, part_of columns j h)),
)
visits (suc k) = (
  λ marks wants rows columns i S h o l. row_visit k (visits k).1 marks wants rows columns i S h o l,
  λ marks wants rows columns j S h o w l. col_visit k (visits k).0 marks wants rows columns j S h o w l,
)

-- ---- all marks can be placed
pub record AllPlaced (m n : ℕ) (marks lacks wants : List ℕ) : Type 0 where
  pub marks' : List ℕ
  pub placed : Placed m n marks lacks wants marks'

abbrev ones : ℕ → List ℕ
ones k = replicate k 1

all_open : (k b : ℕ) → b < k → 0 < slice_index (ones k) b
all_open k b l = omega (arith, get_or-replicate {A = ℕ} k b 1 0 l)

module _ (m n : ℕ) (marks lacks wants : List ℕ) (F : Feasible m n marks lacks wants) (small : (p : ℕ)
    → slice_index marks p ≤ 2) (cells : length marks ≡ m * n) (tall : length lacks ≡ m) (wide : length wants ≡ n) where
  place_from : (k i : ℕ) {ms ls ws : List ℕ} → Going m n marks lacks wants ms ls ws i → m - i + total ls ≤ k → AllPlaced m n marks lacks wants
  place_from zero i {ms} g b = record { marks' = ms; placed = going_end g F (omega arith) }
  place_from (suc k) i {ms} {ls} {ws} g b =
      go (dec_lt i m) (ℕ_discrete (slice_index ls i) 0) (λ h. place_from k (i + 1) h) (λ ms' ls' ws' h. place_from k i h)
    where
      go : Dec (i < m) → Dec (slice_index ls i ≡ 0) → (Going m n marks lacks wants ms ls ws (i + 1) → m - (i + 1) + total ls ≤ k
          → AllPlaced m n marks lacks wants) → ((ms' ls' ws' : List ℕ) → Going m n marks lacks wants ms' ls' ws' i → m - i + total ls' ≤ k
          → AllPlaced m n marks lacks wants) → AllPlaced m n marks lacks wants
      go (no h) e past on = record { marks' = ms; placed = going_end g F (omega (arith, h)) }
      go (yes h) (yes e) past on = past (going_past g h e) (omega arith)
      go (yes h) (no e) past on = by ((visits (total (ones m) + total (ones n))).0 ms ws (ones m) (ones n) i shape (omega (arith, rows_long))
          (all_open m i h)
          (omega arith))
        where
          rows_long : length (ones m) ≡ m
          rows_long = length-replicate m 1

          columns_long : length (ones n) ≡ n
          columns_long = length-replicate n 1

          shape : Shape ms ws (ones m) (ones n)
          shape = record { cells = g.kept.cells ∙ cells ∙ sym (ap₂ ◌*◌ rows_long columns_long); wide = g.kept.wide ∙ wide ∙ sym columns_long }

          within : i < length ls
          within = omega (arith, g.kept.tall, tall)

          lacking : 0 < slice_index ls i
          lacking = omega (arith, e)

          by : RowAnswer ms ws (ones m) (ones n) i → AllPlaced m n marks lacks wants
          by a =
              on _ _ _
              (going_on g
              (kept_more g.kept F small h within lacking (all_open m) (all_open n) a.found (rw (rows_long, columns_long) at a.visited) a.cells a.wide))
              (omega (arith, total_set ls i (slice_index ls i - 1) within, lacking))

  pub all_placed : AllPlaced m n marks lacks wants
  all_placed = place_from (m + total lacks) 0 (going_start marks lacks wants) (omega arith)
