-- The search: what a visit of a row, or of a column, has done where it found a column that wants a mark, and where it found none.
-- xs holds the cells' states; ro and co hold, of each row and column, a number above 0 while it is open, and 0 once it was visited.
-- wc holds the marks that each column still wants.
use Rattle.std.specs.Prelude.{◌≡◌, ℕ, zero, suc, ◌+◌, ◌-◌, ◌*◌, ◌<◌, ◌≤◌, Bool, true, false, Option, Some, None}
use Rattle.std.specs.Prelude.{◌⊎◌, List, length, ◌≢◌, refl}
use Rattle.std.specs.Prelude.{slice_index, slice_index_or, slice_set}
use Rattle.std.proofs.Common.{sym, ap, ◌∙◌, inl, inr, ⊎_elim, arith, below_none, below_more, get_or-set_same, get_or-set_other}
use Rattle.std.proofs.Math.Decide.{ℕ_discrete}
use Rattle.ints.specs.NatSums.{total, total_set}
use Rattle.cells.specs.Marks.{at, row, col, one, one_same, one_other, mark, unmark, Kind, kind_then, kind_set}

-- ---- found: the row i (f is 1 there) has one mark more, or the column j (g is 1 there) wants one mark more; all other rows keep their marks, all other
-- columns have or want as many as before. No column wants more than before. No cell is touched whose row or column had been visited.
pub record Moved (m n : ℕ) (xs wc ro co ys wd : List ℕ) (f g : ℕ → ℕ) : Type 0 where
  pub rows : (b : ℕ) → b < m → row n ys b ≡ row n xs b + f b
  pub cols : (x : ℕ) → x < n → col m n ys x + slice_index wd x + g x ≡ col m n xs x + slice_index wc x
  pub kind : Kind xs ys
  pub fewer : (x : ℕ) → slice_index wd x ≤ slice_index wc x
  pub kept_row : (b x : ℕ) → x < n → slice_index ro b ≡ 0 → at n ys b x ≡ at n xs b x
  pub kept_col : (b x : ℕ) → x < n → slice_index co x ≡ 0 → at n ys b x ≡ at n xs b x

-- ---- none found: each row and column visited since has been searched to the end, and no such column wants a mark
pub record Shut (m n : ℕ) (xs wc ro co ro' co' : List ℕ) : Type 0 where
  pub rows : (b : ℕ) → slice_index ro b ≡ 0 → slice_index ro' b ≡ 0
  pub cols : (x : ℕ) → slice_index co x ≡ 0 → slice_index co' x ≡ 0
  pub row : (b x : ℕ) → b < m → x < n → 0 < slice_index ro b → slice_index ro' b ≡ 0 → at n xs b x ≡ 1 → slice_index co' x ≡ 0
  pub col : (b x : ℕ) → b < m → x < n → 0 < slice_index co x → slice_index co' x ≡ 0 → at n xs b x ≡ 2 → slice_index ro' b ≡ 0
  pub full : (x : ℕ) → x < n → 0 < slice_index co x → slice_index co' x ≡ 0 → slice_index wc x ≡ 0
  pub less : total ro' + total co' ≤ total ro + total co

-- what a visit answers
pub record Visited (m n : ℕ) (xs wc ro co ys wd ro' co' : List ℕ) (f g : ℕ → ℕ) (Here : Type 0) (r : Bool) : Type 0 where
  pub found : r ≡ true → Moved m n xs wc ro co ys wd f g
  pub none : r ≡ false → (ys ≡ xs) × (wd ≡ wc) × Shut m n xs wc ro co ro' co' × Here

abbrev pub RowVisited : ℕ → ℕ → List ℕ → List ℕ → List ℕ → List ℕ → List ℕ → List ℕ → List ℕ → List ℕ → ℕ → Bool
    → Type 0
RowVisited m n xs wc ro co ys wd ro' co' i r = Visited m n xs wc ro co ys wd ro' co' (λ b. one b i) (λ x. 0) (slice_index ro' i ≡ 0) r

abbrev pub ColVisited : ℕ → ℕ → List ℕ → List ℕ → List ℕ → List ℕ → List ℕ → List ℕ → List ℕ → List ℕ → ℕ → Bool
    → Type 0
ColVisited m n xs wc ro co ys wd ro' co' j r = Visited m n xs wc ro co ys wd ro' co' (λ b. 0) (λ x. one x j) (slice_index co' j ≡ 0) r

-- ---- none found
pub shut_none : (m n : ℕ) (xs wc ro co : List ℕ) → Shut m n xs wc ro co ro co
shut_none m n xs wc ro co = record {
  rows = λ b h. h;
  cols = λ x h. h;
  row = λ b x hb hx o z e. absurd (omega arith);
  col = λ b x hb hx o z e. absurd (omega arith);
  full = λ x hx o z. absurd (omega arith);
  less = omega arith;
}

zero_or : (a : ℕ) → (a ≡ 0) ⊎ (0 < a)
zero_or zero = inl refl
zero_or (suc a) = inr (omega arith)

pub shut_then : {m n : ℕ} {xs wc ro co ro' co' ro'' co'' : List ℕ} → Shut m n xs wc ro co ro' co' → Shut m n xs wc ro' co' ro'' co''
    → Shut m n xs wc ro co ro'' co''
shut_then {ro' = ro'} {co' = co'} a b = record {
  rows = λ i h. b.rows i (a.rows i h);
  cols = λ x h. b.cols x (a.cols x h);
  row = λ i x hi hx o z e. ⊎_elim (λ s. b.cols x (a.row i x hi hx o s e)) (λ s. b.row i x hi hx s z e) (zero_or (slice_index ro' i));
  col = λ i x hi hx o z e. ⊎_elim (λ s. b.rows i (a.col i x hi hx o s e)) (λ s. b.col i x hi hx s z e) (zero_or (slice_index co' x));
  full = λ x hx o z. ⊎_elim (λ s. a.full x hx o s) (λ s. b.full x hx s z) (zero_or (slice_index co' x));
  less = omega (arith, a.less, b.less);
}

-- a visited entry stays so
set_zero : (l : List ℕ) (i b : ℕ) → i < length l → slice_index l b ≡ 0 → slice_index (slice_set l i 0) b ≡ 0
set_zero l i b h e = go (ℕ_discrete b i)
  where
    go : Dec (b ≡ i) → slice_index (slice_set l i 0) b ≡ 0
    go (yes q) = rw q (get_or-set_same l i 0 0 h)
    go (no f) = rw (get_or-set_other l i b 0 0 f) e

-- the last of a row's columns, and of a column's rows, is done
pub row_end : {m n : ℕ} {xs wc ro co ro' co' : List ℕ} (i : ℕ) → i < length ro → Shut m n xs wc (slice_set ro i 0) co ro' co'
    → ((x : ℕ) → x < n → at n xs i x ≡ 1 → slice_index co' x ≡ 0) → Shut m n xs wc ro co ro' co' × (slice_index ro' i ≡ 0)
row_end {m} {n} {xs} {wc} {ro} {co} {ro'} {co'} i hi a h = (
  record {
    rows = λ b e. a.rows b (set_zero ro i b hi e);
    cols = a.cols;
    row = λ b x hb hx o z e. go b x hb hx o z e (ℕ_discrete b i);
    col = a.col;
    full = a.full;
    less = omega (arith, a.less, total_set ro i 0 hi);
  },
  a.rows i (get_or-set_same ro i 0 0 hi),
)
  where
    go : (b x : ℕ) → b < m → x < n → 0 < slice_index ro b → slice_index ro' b ≡ 0 → at n xs b x ≡ 1 → Dec (b ≡ i)
        → slice_index co' x ≡ 0
    go b x hb hx o z e (yes q) = h x hx (rw q at e)
    go b x hb hx o z e (no f) = a.row b x hb hx (rw (get_or-set_other ro i b 0 0 f) o) z e

pub col_end : {m n : ℕ} {xs wc ro co ro' co' : List ℕ} (j : ℕ) → j < length co → Shut m n xs wc ro (slice_set co j 0) ro' co'
    → ((b : ℕ) → b < m → at n xs b j ≡ 2 → slice_index ro' b ≡ 0) → slice_index wc j ≡ 0
    → Shut m n xs wc ro co ro' co' × (slice_index co' j ≡ 0)
col_end {m} {n} {xs} {wc} {ro} {co} {ro'} {co'} j hj a h w = (
  record {
    rows = a.rows;
    cols = λ x e. a.cols x (set_zero co j x hj e);
    row = a.row;
    col = λ b x hb hx o z e. go b x hb hx o z e (ℕ_discrete x j);
    full = λ x hx o z. go' x hx o z (ℕ_discrete x j);
    less = omega (arith, a.less, total_set co j 0 hj);
  },
  a.cols j (get_or-set_same co j 0 0 hj),
)
  where
    go : (b x : ℕ) → b < m → x < n → 0 < slice_index co x → slice_index co' x ≡ 0 → at n xs b x ≡ 2 → Dec (x ≡ j)
        → slice_index ro' b ≡ 0
    go b x hb hx o z e (yes q) = h b hb (rw q at e)
    go b x hb hx o z e (no f) = a.col b x hb hx (rw (get_or-set_other co j x 0 0 f) o) z e

    go' : (x : ℕ) → x < n → 0 < slice_index co x → slice_index co' x ≡ 0 → Dec (x ≡ j) → slice_index wc x ≡ 0
    go' x hx o z (yes q) = rw q w
    go' x hx o z (no f) = a.full x hx (rw (get_or-set_other co j x 0 0 f) o) z

-- ---- found
open_other : (l : List ℕ) (b i : ℕ) → 0 < slice_index l i → slice_index l b ≡ 0 → b ≢ i
open_other l b i o e q = let s : slice_index_or l i 0 ≡ 0 = rw q at e in omega arith

-- row i takes the column j, which wants a mark
pub row_take : {m n : ℕ} {xs wc ro co : List ℕ} (i j : ℕ) → i < m → j < n → i * n + j < length xs → j < length wc → at n xs i j ≡ 1
    → 0 < slice_index wc j → 0 < slice_index ro i → 0 < slice_index co j
    → Moved m n xs wc ro co (slice_set xs (i * n + j) 2) (slice_set wc j (slice_index wc j - 1))
    (λ b. one b i) (λ x. 0)
row_take {m} {n} {xs} {wc} {ro} {co} i j hi hj hp hw e w o o' =
    let s = mark {m = m} {n = n} xs i j hi hj hp e in record {
      rows = s.rows;
      cols = λ x h. go x (s.cols x h) (ℕ_discrete x j);
      kind = kind_set xs (i * n + j) 2 hp (omega arith) (omega arith) (omega arith);
      fewer = λ x. less x (ℕ_discrete x j);
      kept_row = λ b x h z. s.other b x h (λ p q. open_other ro b i o z p);
      kept_col = λ b x h z. s.other b x h (λ p q. open_other co x j o' z q);
    }
  where
    go : (x : ℕ) → col m n (slice_set xs (i * n + j) 2) x ≡ col m n xs x + one x j → Dec (x ≡ j)
        → col m n (slice_set xs (i * n + j) 2) x + slice_index (slice_set wc j (slice_index wc j - 1)) x + 0 ≡ col m n xs x + slice_index wc x
    go x t (yes q) =
        let u : slice_index_or (slice_set wc j (slice_index wc j - 1)) x 0 ≡ slice_index wc j - 1 = rw q (get_or-set_same wc j (slice_index wc j - 1) 0 hw) in
        let v : slice_index_or wc x 0 ≡ slice_index_or wc j 0 = ap (λ (k : ℕ). slice_index wc k) q in omega (arith, one_same x j q)
    go x t (no f) = rw (get_or-set_other wc j x (slice_index wc j - 1) 0 f) (omega (arith, one_other x j f))

    less : (x : ℕ) → Dec (x ≡ j) → slice_index (slice_set wc j (slice_index wc j - 1)) x ≤ slice_index wc x
    less x (yes q) = rw (q, get_or-set_same wc j (slice_index wc j - 1) 0 hw) (omega arith)
    less x (no f) = rw (get_or-set_other wc j x (slice_index wc j - 1) 0 f) (omega arith)

-- row i takes the column j, whose visit found a mark to give up
pub row_turn : {m n : ℕ} {xs wc ro co ro' co' ys wd : List ℕ} (i j : ℕ) → i < m → j < n → i * n + j < length ys → i < length ro
    → at n xs i j ≡ 1 → 0 < slice_index ro i → 0 < slice_index co' j → Shut m n xs wc (slice_set ro i 0) co ro' co'
    → Moved m n xs wc ro' co' ys wd (λ b. 0) (λ x. one x j) → Moved m n xs wc ro co (slice_set ys (i * n + j) 2) wd (λ b. one b i) (λ x. 0)
row_turn {m} {n} {xs} {wc} {ro} {co} {ro'} {co'} {ys} {wd} i j hi hj hp hr e o o' a v =
    let e' : at n ys i j ≡ 1 = v.kept_row i j hj (a.rows i (get_or-set_same ro i 0 0 hr)) ∙ e in
    let s = mark {m = m} {n = n} ys i j hi hj hp e' in record {
      rows = λ b h. omega (arith, s.rows b h, v.rows b h);
      cols = λ x h. omega (arith, s.cols x h, v.cols x h);
      kind = kind_then v.kind (kind_set ys (i * n + j) 2 hp (omega arith) (omega arith) (omega arith));
      fewer = v.fewer;
      kept_row = λ b x h z. s.other b x h (λ p q. open_other ro b i o z p) ∙ v.kept_row b x h (a.rows b (set_zero ro i b hr z));
      kept_col = λ b x h z. s.other b x h (λ p q. open_other co' x j o' (a.cols x z) q) ∙ v.kept_col b x h (a.cols x z);
    }

-- column j gives up the mark of the row b, whose visit found another
pub col_turn : {m n : ℕ} {xs wc ro co ro' co' ys wd : List ℕ} (i j : ℕ) → i < m → j < n → i * n + j < length ys → j < length co
    → at n xs i j ≡ 2 → 0 < slice_index co j → 0 < slice_index ro' i → Shut m n xs wc ro (slice_set co j 0) ro' co'
    → Moved m n xs wc ro' co' ys wd (λ b. one b i) (λ x. 0) → Moved m n xs wc ro co (slice_set ys (i * n + j) 1) wd (λ b. 0) (λ x. one x j)
col_turn {m} {n} {xs} {wc} {ro} {co} {ro'} {co'} {ys} {wd} i j hi hj hp hc e o o' a v =
    let e' : at n ys i j ≡ 2 = v.kept_col i j hj (a.cols j (get_or-set_same co j 0 0 hc)) ∙ e in
    let s = unmark {m = m} {n = n} ys i j hi hj hp e' in record {
      rows = λ b h. omega (arith, s.rows b h, v.rows b h);
      cols = λ x h. omega (arith, s.cols x h, v.cols x h);
      kind = kind_then v.kind (kind_set ys (i * n + j) 1 hp (omega arith) (omega arith) (omega arith));
      fewer = v.fewer;
      kept_row = λ b x h z. sym (s.other b x h (λ p q. open_other ro' b i o' (a.rows b z) p)) ∙ v.kept_row b x h (a.rows b z);
      kept_col = λ b x h z. sym (s.other b x h (λ p q. open_other co x j o z q)) ∙ v.kept_col b x h (a.cols x (set_zero co j x hc z));
    }

-- ---- the slices fit each other
pub record Shape (xs wc ro co : List ℕ) : Type 0 where
  pub cells : length xs ≡ length ro * length co
  pub wide : length wc ≡ length co

-- ---- a column that row i can take at once, if there is one
abbrev pub Free : ℕ → List ℕ → List ℕ → List ℕ → ℕ → Option ℕ → Type 0
Free n xs wc co i None = (x : ℕ) → x < n → at n xs i x ≡ 1 → 0 < slice_index co x → slice_index wc x ≡ 0
Free n xs wc co i (Some j) = (j < n) × (at n xs i j ≡ 1) × (0 < slice_index wc j) × (0 < slice_index co j)

-- the best so far, which wants most
abbrev pub Best : ℕ → List ℕ → List ℕ → List ℕ → ℕ → ℕ → Option ℕ → Type 0
Best n xs wc co i most None = most ≡ 0
Best n xs wc co i most (Some j) = Free n xs wc co i (Some j)

-- the columns below j have been looked at
pub record FreeInv (n : ℕ) (xs wc co : List ℕ) (i : ℕ) (best : Option ℕ) (most j : ℕ) : Type 0 where
  pub here : j ≤ n
  pub found : Best n xs wc co i most best
  pub all : (x : ℕ) → x < j → at n xs i x ≡ 1 → 0 < slice_index co x → slice_index wc x ≤ most

pub free_start : (n : ℕ) (xs wc co : List ℕ) (i : ℕ) → FreeInv n xs wc co i None 0 0
free_start n xs wc co i = record { here = omega arith; found = refl; all = below_none _ }

module _ {n : ℕ} {xs wc co : List ℕ} {i : ℕ} {best : Option ℕ} {most j : ℕ} (I : FreeInv n xs wc co i best most j) (hj : j < n) where
  pub free_pass : (at n xs i j ≡ 1 → 0 < slice_index co j → slice_index wc j ≤ most) → FreeInv n xs wc co i best most (j + 1)
  free_pass f = record { here = omega arith; found = I.found; all = below_more _ _ I.all f }

  pub free_better : most < slice_index wc j → at n xs i j ≡ 1 → 0 < slice_index co j → FreeInv n xs wc co i (Some j) (slice_index wc j) (j + 1)
  free_better l e o = record {
    here = omega arith;
    found = (hj, e, omega arith, o);
    all = below_more _ _ (λ x k a b. omega (arith, I.all x k a b)) (λ a b. omega arith);
  }

pub free_end : {n : ℕ} {xs wc co : List ℕ} {i : ℕ} (best : Option ℕ) {most j : ℕ} → FreeInv n xs wc co i best most j → n ≤ j
    → Free n xs wc co i best
free_end None I l = λ x h a b. omega (arith, I.found, I.all x (omega arith) a b)
free_end (Some b) I l = I.found
