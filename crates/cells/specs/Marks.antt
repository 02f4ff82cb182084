-- Marks in a table of n columns that lies row by row in one list: 0 is a whole cell, 1 a broken one, 2 a broken one with a mark.
-- The marks of a row and of a column, and what one mark more does to them.
use Rattle.std.specs.Prelude.{◌≡◌, ℕ, ◌+◌, ◌-◌, ◌*◌, ◌/◌, ◌<◌, ◌≤◌, min, Bool, true, false, List, length, ◌==◌}
use Rattle.std.specs.Prelude.{◌≢◌, slice_index, slice_set, refl}
use Rattle.std.proofs.Common.{sym, ap, ◌∙◌, arith, eq-eqb, ne_eqb, get_or-set_same, get_or-set_other}
use Rattle.std.proofs.Math.Decide.{ℕ_discrete}
use Rattle.std.proofs.Math.Arith.{digits_div, digits_lt}
use Rattle.ints.specs.NatSums.{Σ, Σ_ext, Σ_more}

abbrev pub at : ℕ → List ℕ → ℕ → ℕ → ℕ
at n xs i j = slice_index xs (i * n + j)

-- the marks of a row and of a column
unfoldable pub row : ℕ → List ℕ → ℕ → ℕ
row n xs i = Σ n (λ j. at n xs i j - 1)

unfoldable pub col : ℕ → ℕ → List ℕ → ℕ → ℕ
col m n xs j = Σ m (λ i. at n xs i j - 1)

-- 1 where two numbers are one
bit : Bool → ℕ
bit true = 1
bit false = 0

pub one : ℕ → ℕ → ℕ
one a b = bit (a == b)

pub one_same : (a b : ℕ) → a ≡ b → one a b ≡ 1
unfolding one bit
one_same a b e = ap bit (eq-eqb a b e)

pub one_other : (a b : ℕ) → (a ≢ b) → one a b ≡ 0
unfolding one bit
one_other a b e = ap bit (ne_eqb a b e)

-- ---- places
pub below : {m n i j : ℕ} → i < m → j < n → i * n + j < m * n
below h k = digits_lt h k

pub same_row : (n i j i' j' : ℕ) → j < n → j' < n → i * n + j ≡ i' * n + j' → i ≡ i'
same_row n i j i' j' h h' e = sym (digits_div i h) ∙ ap (λ (x : ℕ). x / n) e ∙ digits_div i' h'

pub same_col : (n i j i' j' : ℕ) → j < n → j' < n → i * n + j ≡ i' * n + j' → j ≡ j'
same_col n i j i' j' h h' e = omega (arith, ap (λ (x : ℕ). x * n) (same_row n i j i' j' h h' e))

-- ---- ys has one mark more than xs, in row i and column j, and is else the same
pub record More (m n : ℕ) (xs ys : List ℕ) (i j : ℕ) : Type 0 where
  pub rows : (b : ℕ) → b < m → row n ys b ≡ row n xs b + one b i
  pub cols : (x : ℕ) → x < n → col m n ys x ≡ col m n xs x + one x j
  pub other : (b x : ℕ) → x < n → (b ≡ i → x ≢ j) → at n ys b x ≡ at n xs b x

more : {m n : ℕ} (xs ys : List ℕ) (i j : ℕ) → i < m → j < n → at n ys i j - 1 ≡ at n xs i j - 1 + 1
    → ((p : ℕ) → (p ≢ i * n + j) → slice_index ys p ≡ slice_index xs p) → More m n xs ys i j
unfolding row col
more {m} {n} xs ys i j hi hj e o = record {
  rows = λ b h. in_row b h (ℕ_discrete b i);
  cols = λ x h. in_col x h (ℕ_discrete x j);
  other = λ b x h f. o (b * n + x) (λ q. f (same_row n b x i j h hj q) (same_col n b x i j h hj q));
}
  where
    in_row : (b : ℕ) → b < m → Dec (b ≡ i) → Σ n (λ j. at n ys b j - 1) ≡ Σ n (λ j. at n xs b j - 1) + one b i
    in_row b h (yes q) = rw (one_same b i q, q) (Σ_more n (λ j. at n xs i j - 1) (λ j. at n ys i j - 1) j hj e
        (λ x l f. ap (λ (v : ℕ). v - 1) (o (i * n + x) (λ p. f (same_col n i x i j l hj p)))))
    in_row b h (no f) = rw (one_other b i f) (omega (
      arith,
      Σ_ext n (λ j. at n ys b j - 1) (λ j. at n xs b j - 1)
          (λ x l. ap (λ (v : ℕ). v - 1) (o (b * n + x) (λ p. f (same_row n b x i j l hj p)))),
    ))

    in_col : (x : ℕ) → x < n → Dec (x ≡ j) → Σ m (λ i. at n ys i x - 1) ≡ Σ m (λ i. at n xs i x - 1) + one x j
    in_col x h (yes q) = rw (one_same x j q, q) (Σ_more m (λ i. at n xs i j - 1) (λ i. at n ys i j - 1) i hi e
        (λ b l f. ap (λ (v : ℕ). v - 1) (o (b * n + j) (λ p. f (same_row n b j i j hj hj p)))))
    in_col x h (no f) = rw (one_other x j f) (omega (
      arith,
      Σ_ext m (λ i. at n ys i x - 1) (λ i. at n xs i x - 1)
          (λ b l. ap (λ (v : ℕ). v - 1) (o (b * n + x) (λ p. f (same_col n b x i j h hj p)))),
    ))

-- a mark is set, or taken back
pub mark : {m n : ℕ} (xs : List ℕ) (i j : ℕ) → i < m → j < n → i * n + j < length xs → at n xs i j ≡ 1
    → More m n xs (slice_set xs (i * n + j) 2) i j
mark {m} {n} xs i j hi hj l e =
    more xs (slice_set xs (i * n + j) 2) i j hi hj (omega (arith, e, get_or-set_same xs (i * n + j) 2 0 l)) (λ p f. get_or-set_other xs (i * n + j) p 2 0 f)

pub unmark : {m n : ℕ} (xs : List ℕ) (i j : ℕ) → i < m → j < n → i * n + j < length xs → at n xs i j ≡ 2
    → More m n (slice_set xs (i * n + j) 1) xs i j
unmark {m} {n} xs i j hi hj l e =
    more (slice_set xs (i * n + j) 1) xs i j hi hj (omega (arith, e, get_or-set_same xs (i * n + j) 1 0 l))
    (λ p f. sym (get_or-set_other xs (i * n + j) p 1 0 f))

-- ---- the same cells are whole; no other states
pub record Kind (xs ys : List ℕ) : Type 0 where
  pub whole : (p : ℕ) → min 1 (slice_index ys p) ≡ min 1 (slice_index xs p)
  pub small : (p : ℕ) → slice_index xs p ≤ 2 → slice_index ys p ≤ 2

pub kind_same : (xs : List ℕ) → Kind xs xs
kind_same xs = record { whole = λ p. refl; small = λ p h. h }

pub kind_then : {xs ys zs : List ℕ} → Kind xs ys → Kind ys zs → Kind xs zs
kind_then a b = record { whole = λ p. b.whole p ∙ a.whole p; small = λ p h. b.small p (a.small p h) }

pub kind_set : (xs : List ℕ) (p v : ℕ) → p < length xs → 0 < slice_index xs p → 0 < v → v ≤ 2 → Kind xs (slice_set xs p v)
kind_set xs p v l h a b = record { whole = λ q. go q (ℕ_discrete q p); small = λ q s. go' q s (ℕ_discrete q p) }
  where
    go : (q : ℕ) → Dec (q ≡ p) → min 1 (slice_index (slice_set xs p v) q) ≡ min 1 (slice_index xs q)
    go q (yes e) = rw (e, get_or-set_same xs p v 0 l) (omega arith)
    go q (no f) = rw (get_or-set_other xs p q v 0 f) refl

    go' : (q : ℕ) → slice_index xs q ≤ 2 → Dec (q ≡ p) → slice_index (slice_set xs p v) q ≤ 2
    go' q s (yes e) = rw (e, get_or-set_same xs p v 0 l) b
    go' q s (no f) = rw (get_or-set_other xs p q v 0 f) s
