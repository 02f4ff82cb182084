-- The cut: a search that has come to its end contradicts the totals. Let y be whole numbers from 0 to a cap, 0 on whole cells, whose rows
-- total cap · k and whose columns cap · c. If no step leads out of the rows R and the columns C, the columns of C have all the marks that
-- they want and the rows of R no more than theirs, then every row of R has all its marks (`cut_rows`) and every column of C no more than
-- its own (`cut_columns`). With y the remainders and cap ΣVD this is why a table of cells always exists; with y another table's marks and
-- cap 1 it compares tables.
-- A cell's state s is 0 (whole), 1 (broken) or 2 (broken and marked), so that its mark is s − 1. A set is a function that is 0 on its members.
use Rattle.std.specs.Prelude.{◌≡◌, ℕ, zero, suc, ◌+◌, ◌-◌, ◌*◌, ◌<◌, ◌≤◌, refl}
use Rattle.std.proofs.Common.{ap, ◌∙◌, arith, mul-le-mul_left, mul-zero}
use Rattle.std.proofs.Math.Nat.{le_of_mul-le-mul_left}
use Rattle.ints.specs.NatSums.{Σ, Σ_ext, Σ_mono, Σ_add, Σ_scale, Σ_scale2, Σ_swap, Σ_same}

-- y is 0 on whole cells and nowhere above cap; its rows total cap · k, its columns cap · c
pub record Witness (m n cap : ℕ) (s y : ℕ → ℕ → ℕ) (k c : ℕ → ℕ) : Type 0 where
  pub some : 0 < cap
  pub most : (i j : ℕ) → i < m → j < n → y i j ≤ cap
  pub whole : (i j : ℕ) → i < m → j < n → s i j ≡ 0 → y i j ≡ 0
  pub rows : (i : ℕ) → i < m → Σ n (λ j. y i j) ≡ cap * k i
  pub cols : (j : ℕ) → j < n → Σ m (λ i. y i j) ≡ cap * c j

-- no step of the search leads out of the rows R and the columns C
pub record Closed (m n : ℕ) (s : ℕ → ℕ → ℕ) (R C : ℕ → ℕ) : Type 0 where
  pub row : (i j : ℕ) → i < m → j < n → R i ≡ 0 → s i j ≡ 1 → C j ≡ 0
  pub col : (i j : ℕ) → i < m → j < n → C j ≡ 0 → s i j ≡ 2 → R i ≡ 0

-- 1 on the members, 0 elsewhere
abbrev in? : ℕ → ℕ
in? zero = 1
in? (suc n) = 0

-- for one cell, with r and g for its row and its column: [r ∈ R] · y + [g ∈ C] · cap · mark ≤ [g ∈ C] · y + [r ∈ R] · cap · mark
cell : (r g s y cap : ℕ) → s ≤ 2 → y ≤ cap → (s ≡ 0 → y ≡ 0) → (r ≡ 0 → s ≡ 1 → g ≡ 0) → (g ≡ 0 → s ≡ 2 → r ≡ 0)
    → in? r * y + in? g * (cap * (s - 1)) ≤ in? g * y + in? r * (cap * (s - 1))
cell zero zero s y cap a b c d e = omega arith
cell (suc r) (suc g) s y cap a b c d e = omega arith
cell zero (suc g) zero y cap a b c d e = omega (arith, c refl)
cell zero (suc g) (suc zero) y cap a b c d e = absurd (omega (arith, d refl refl))
cell zero (suc g) (suc (suc zero)) y cap a b c d e = omega arith
cell zero (suc g) (suc (suc (suc s))) y cap a b c d e = absurd (omega arith)
cell (suc r) zero zero y cap a b c d e = omega (arith, mul-zero cap)
cell (suc r) zero (suc zero) y cap a b c d e = omega (arith, mul-zero cap)
cell (suc r) zero (suc (suc zero)) y cap a b c d e = absurd (omega (arith, e refl refl))
cell (suc r) zero (suc (suc (suc s))) y cap a b c d e = absurd (omega arith)

-- a larger factor
times : (w : ℕ) {a b : ℕ} (cap : ℕ) → a ≤ b → w * (cap * a) ≤ w * (cap * b)
times w cap h = mul-le-mul_left w (mul-le-mul_left cap h)

-- a larger factor, for a member; and back
member : (v : ℕ) {a b : ℕ} (cap : ℕ) → (v ≡ 0 → a ≤ b) → in? v * (cap * a) ≤ in? v * (cap * b)
member zero cap f = times 1 cap (f refl)
member (suc v) cap f = omega arith

equal : (v : ℕ) {a b : ℕ} (cap : ℕ) → 0 < cap → v ≡ 0 → a ≤ b → in? v * (cap * a) ≡ in? v * (cap * b) → a ≡ b
equal v {a} {b} cap h e l q =
    let q' : in? 0 * (cap * a) ≡ in? 0 * (cap * b) = rw e at q in
    let l' : b ≤ a = le_of_mul-le-mul_left {k = cap} (omega arith) h in
    omega arith

module _ (m n cap : ℕ) (s y : ℕ → ℕ → ℕ) (k c R C : ℕ → ℕ) (W : Witness m n cap s y k c) (Z : Closed m n s R C)
    (small : (i j : ℕ) → i < m → j < n → s i j ≤ 2)
    (full : (j : ℕ) → j < n → C j ≡ 0 → c j ≤ Σ m (λ i. s i j - 1))
    (most : (i : ℕ) → i < m → R i ≡ 0 → Σ n (λ j. s i j - 1) ≤ k i) where
  -- by rows: what the members want, and what they have
  wanted : Σ m (λ i. Σ n (λ j. in? (R i) * y i j)) ≡ Σ m (λ i. in? (R i) * (cap * k i))
  wanted = Σ_ext m _ _ (λ i h. Σ_scale n (in? (R i)) (λ j. y i j) ∙ ap (λ (t : ℕ). in? (R i) * t) (W.rows i h))

  had : Σ m (λ i. Σ n (λ j. in? (R i) * (cap * (s i j - 1)))) ≡ Σ m (λ i. in? (R i) * (cap * Σ n (λ j. s i j - 1)))
  had = Σ_ext m _ _ (λ i h. Σ_scale2 n (in? (R i)) cap (λ j. s i j - 1))

  -- by columns: the members are full
  col_wanted : Σ m (λ i. Σ n (λ j. in? (C j) * y i j)) ≡ Σ n (λ j. in? (C j) * (cap * c j))
  col_wanted =
      Σ_swap m n (λ i j. in? (C j) * y i j)
      ∙ Σ_ext n _ _ (λ j h. Σ_scale m (in? (C j)) (λ i. y i j) ∙ ap (λ (t : ℕ). in? (C j) * t) (W.cols j h))

  col_had : Σ m (λ i. Σ n (λ j. in? (C j) * (cap * (s i j - 1)))) ≡ Σ n (λ j. in? (C j) * (cap * Σ m (λ i. s i j - 1)))
  col_had = Σ_swap m n (λ i j. in? (C j) * (cap * (s i j - 1))) ∙ Σ_ext n _ _ (λ j h. Σ_scale2 m (in? (C j)) cap (λ i. s i j - 1))

  full_in : (j : ℕ) → j < n → in? (C j) * (cap * c j) ≤ in? (C j) * (cap * Σ m (λ i. s i j - 1))
  full_in j h = member (C j) cap (full j h)

  most_in : (i : ℕ) → i < m → in? (R i) * (cap * Σ n (λ j. s i j - 1)) ≤ in? (R i) * (cap * k i)
  most_in i h = member (R i) cap (most i h)

  -- the cells, summed
  both : Σ m (λ i. Σ n (λ j. in? (R i) * y i j)) + Σ m (λ i. Σ n (λ j. in? (C j) * (cap * (s i j - 1))))
      ≤ Σ m (λ i. Σ n (λ j. in? (C j) * y i j)) + Σ m (λ i. Σ n (λ j. in? (R i) * (cap * (s i j - 1))))
  both =
      let l : Σ m (λ i. Σ n (λ j. in? (R i) * y i j + in? (C j) * (cap * (s i j - 1))))
      ≤ Σ m (λ i. Σ n (λ j. in? (C j) * y i j + in? (R i) * (cap * (s i j - 1)))) =
      Σ_mono m _ _ (λ i h. Σ_mono n _ _ (λ j h'. cell (R i) (C j) (s i j) (y i j) cap (small i j h h') (W.most i j h h') (W.whole i j h h') (Z.row i j h h')
      (Z.col i j h h'))) in
      omega (
        arith,
        l,
        split (λ i j. in? (R i) * y i j) (λ i j. in? (C j) * (cap * (s i j - 1))),
        split (λ i j. in? (C j) * y i j) (λ i j. in? (R i) * (cap * (s i j - 1))),
      )
    where
      split : (f g : ℕ → ℕ → ℕ) → Σ m (λ i. Σ n (λ j. f i j + g i j)) ≡ Σ m (λ i. Σ n (λ j. f i j)) + Σ m (λ i. Σ n (λ j. g i j))
      split f g = Σ_ext m _ _ (λ i h. Σ_add n (f i) (g i)) ∙ Σ_add m _ _

  -- each member row has all its marks
  pub cut_rows : (i : ℕ) → i < m → R i ≡ 0 → Σ n (λ j. s i j - 1) ≡ k i
  cut_rows i h e =
      equal (R i) cap W.some e (most i h e)
      (Σ_same m _ _ most_in (omega (arith, both, wanted, had, col_wanted, col_had, Σ_mono n _ _ full_in)) i h)

  -- and each member column no more than its own
  pub cut_columns : (j : ℕ) → j < n → C j ≡ 0 → c j ≡ Σ m (λ i. s i j - 1)
  cut_columns j h e =
      equal (C j) cap W.some e (full j h e)
      (Σ_same n _ _ full_in (omega (arith, both, wanted, had, col_wanted, col_had, Σ_mono m _ _ most_in)) j h)

  -- so a row of R that lacks a mark, or a column of C with one too many, is a contradiction
  pub no_row_lacks : (i : ℕ) → i < m → R i ≡ 0 → Σ n (λ j. s i j - 1) < k i → ⊥
  no_row_lacks i h e l = omega (arith, cut_rows i h e, l)

  pub no_column_over : (j : ℕ) → j < n → C j ≡ 0 → c j < Σ m (λ i. s i j - 1) → ⊥
  no_column_over j h e l = omega (arith, cut_columns j h e, l)
