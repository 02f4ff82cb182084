-- Such a table always exists (paper 01, "The table of cells"): for credits of either sign and debits that are not negative, whose sums
-- are equal and above 0, whatever their number and size.
use Rattle.std.specs.Prelude.{◌≡◌, ℕ, zero, suc, ◌+◌, ◌-◌, ◌*◌, ◌/◌, ◌%◌, ◌<◌, ◌≤◌, min, List, [], ◌∷◌}
use Rattle.std.specs.Prelude.{length, get_or, ℤ, pos, ◌+ℤ◌, ◌≤ℤ◌, slice_index}
use Rattle.std.specs.Prelude.{slice_index_or, refl}
use Rattle.std.proofs.Common.{sym, ap, ◌∙◌, subst, ⊎_elim, arith, not-suc-le-zero, le_of_suc-le-suc, div-add-mod', mod-lt}
use Rattle.std.proofs.Math.ListN.{get_or-eq_default}
use Rattle.std.proofs.Math.Arith.{digits_div, digits_mod}
use Rattle.ints.specs.Bridge.{za, eq_in}
use Rattle.ints.specs.NatSums.{Σ, Σ_ext, le_or_lt}
use Rattle.ints.specs.Sums.{sum_ℤ, sum_end, Σ_list}
use Rattle.rules.specs.Table.{Table}
use Rattle.cells.specs.Marks.{at, below}
use Rattle.cells.specs.Exact.{feasible, row_line, col_line, want_is}
use Rattle.cells.specs.Naturals.{NonNegative, debit_at, debit_is, sum_is}
use Rattle.cells.specs.Floors.{Balanced, Floored, debit_of, quot_of, rest_of, exact, Spot, spot}
use Rattle.cells.specs.Finish.{table}
use Rattle.cells.specs.Search.{AllPlaced, all_placed}

-- ---- the list of f 0 .. f (n − 1)
tabulate : {A : Type 0} → ℕ → (ℕ → A) → List A
tabulate zero f = []
tabulate (suc n) f = f 0 ∷ tabulate n (λ k. f (suc k))

tabulate_long : {A : Type 0} (n : ℕ) (f : ℕ → A) → length (tabulate n f) ≡ n
unfolding tabulate
tabulate_long zero f = refl
tabulate_long (suc n) f = ap suc (tabulate_long n (λ k. f (suc k)))

tabulate_at : {A : Type 0} (n : ℕ) (f : ℕ → A) (d : A) (k : ℕ) → k < n → slice_index_or (tabulate n f) k d ≡ f k
unfolding tabulate
tabulate_at zero f d k h = absurd (not-suc-le-zero h)
tabulate_at (suc n) f d zero h = refl
tabulate_at (suc n) f d (suc k) h = tabulate_at n (λ k. f (suc k)) d k (le_of_suc-le-suc h)

-- row by row: the entry of row i and column j
grid_at : {A : Type 0} (m n : ℕ) (f : ℕ → ℕ → A) (d : A) (i j : ℕ) → i < m → j < n
    → slice_index_or (tabulate (m * n) (λ p. f (p / n) (p % n))) (i * n + j) d ≡ f i j
grid_at m n f d i j h k = tabulate_at (m * n) (λ p. f (p / n) (p % n)) d (i * n + j) (below h k) ∙ ap (λ (t : ℕ). f t ((i * n + j) % n)) (digits_div i k)
    ∙ ap (f i) (digits_mod i k)

pub record HasTable (vc vd : List ℤ) : Type 0 where
  pub cells : List ℤ
  pub holds : Table vc vd cells

-- k · w ≤ R < k · w + w for the quotient k
quotient : (R w : ℕ) → 0 < w → (R / w * w ≤ R) × (R < R / w * w + w)
quotient R w h = (omega (arith, div-add-mod' R w), omega (arith, div-add-mod' R w, mod-lt R h))

-- ---- the floors and what they leave, for naturals
module _ (vc : List ℤ) (debits : List ℕ) (w : ℕ) (B : Balanced vc debits w) where
  row_rest : ℕ → ℕ
  row_rest i = Σ (length debits) (rest_of vc debits w i)

  column_rest : ℕ → ℕ
  column_rest j = Σ (length vc) (λ i. rest_of vc debits w i j)

  floors : List ℤ
  floors = tabulate (length vc * length debits) (λ p. quot_of vc debits w (p / length debits) (p % length debits))

  marks : List ℕ
  marks = tabulate (length vc * length debits) (λ p. min 1 (rest_of vc debits w (p / length debits) (p % length debits)))

  lacks : List ℕ
  lacks = tabulate (length vc) (λ i. row_rest i / w)

  wants : List ℕ
  wants = tabulate (length debits) (λ j. column_rest j / w)

  mark_at : (i j : ℕ) → i < length vc → j < length debits → at (length debits) marks i j ≡ min 1 (rest_of vc debits w i j)
  unfolding marks
  mark_at i j h k = grid_at (length vc) (length debits) (λ i j. min 1 (rest_of vc debits w i j)) 0 i j h k

  marks_long : length marks ≡ length vc * length debits
  unfolding marks
  marks_long = tabulate_long (length vc * length debits) _

  clear : (p : ℕ) → slice_index marks p ≤ 1
  clear p = ⊎_elim (λ l. omega (arith, get_or-eq_default marks 0 (subst (λ (t : ℕ). t ≤ p) (sym marks_long) l)))
      (λ l. inside l (spot (length vc) (length debits) p l)) (le_or_lt (length vc * length debits) p)
    where
      inside : p < length vc * length debits → Spot (length vc) (length debits) p → slice_index marks p ≤ 1
      inside l s =
          let e : get_or marks p 0 ≡ min 1 (rest_of vc debits w (p / length debits) (p % length debits)) =
          ap (λ (t : ℕ). slice_index marks t) (sym s.place) ∙ mark_at (p / length debits) (p % length debits) s.row s.column in
          omega (arith, e)

  floored : Floored vc debits w floors marks lacks wants
  unfolding floors lacks wants row_rest column_rest
  floored = record {
    cell = λ i j h k. grid_at (length vc) (length debits) (quot_of vc debits w) (pos 0) i j h k;
    left = record {
      clear = clear;
      whole = λ i j h k e. omega (arith, mark_at i j h k);
      broken = λ i j h k e. omega (arith, mark_at i j h k);
      rows = λ i h.
          let q = quotient (row_rest i) w B.some in
          rw (tabulate_at (length vc) (λ i. row_rest i / w) 0 i h) (want_is (row_rest i / w) B.some (row_line (exact B) i h) q.0 q.1);
      cols = λ j h.
          let q = quotient (column_rest j) w B.some in
          rw (tabulate_at (length debits) (λ j. column_rest j / w) 0 j h) (want_is (column_rest j / w) B.some (col_line (exact B) j h) q.0 q.1);
    };
  }

  placed : AllPlaced (length vc) (length debits) marks lacks wants
  unfolding lacks wants
  placed =
      all_placed (length vc) (length debits) marks lacks wants (feasible (exact B) floored.left) (λ p. omega (arith, clear p)) marks_long
      (tabulate_long (length vc) _) (tabulate_long (length debits) _)

  cell_of : ℕ → ℕ → ℤ
  cell_of i j = quot_of vc debits w i j +ℤ pos (at (length debits) placed.marks' i j - 1)

  has_table : (vd : List ℤ) → length debits ≡ length vd → ((j : ℕ) → j < length vd → slice_index_or vd j (pos 0) ≡ pos (debit_of debits j))
      → sum_ℤ vd ≡ pos w → HasTable vc vd
  unfolding cell_of
  has_table vd long debit sum = record {
    cells = tabulate (length vc * length debits) (λ p. cell_of (p / length debits) (p % length debits));
    holds = table B long debit sum floored placed.placed (tabulate (length vc * length debits) (λ p. cell_of (p / length debits) (p % length debits)))
        (λ i j h k. grid_at (length vc) (length debits) cell_of (pos 0) i j h k) (tabulate_long (length vc * length debits) _);
  }

-- ---- the theorem
pub a_table_exists : (vc vd : List ℤ) → NonNegative vd → pos 1 ≤ℤ sum_ℤ vd → sum_ℤ vc ≡ sum_ℤ vd → HasTable vc vd
a_table_exists vc vd sign some equal = has_table vc debits w balanced vd long (λ j h. debit_is sign j h ∙ ap pos (sym (debit j h))) total
  where
    w : ℕ
    w = Σ (length vd) (debit_at vd)

    debits : List ℕ
    debits = tabulate (length vd) (debit_at vd)

    long : length debits ≡ length vd
    long = tabulate_long (length vd) (debit_at vd)

    debit : (j : ℕ) → j < length vd → debit_of debits j ≡ debit_at vd j
    debit j h = tabulate_at (length vd) (debit_at vd) 0 j h

    total : sum_ℤ vd ≡ pos w
    total = sum_is vd sign

    balanced : Balanced vc debits w
    balanced = record {
      some = omega (za, some, eq_in total);
      users = rw long (Σ_ext (length vd) (debit_of debits) (debit_at vd) debit);
      payees = Σ_list vc (length vc) (omega arith) ∙ sum_end vc (length vc) refl ∙ equal ∙ total;
    }
