-- Before a row is decided its marks are lifted: its columns want them instead. After it, its columns want nothing.
use Rattle.std.specs.Prelude.{◌≡◌, ℕ, zero, suc, ◌+◌, ◌-◌, ◌*◌, ◌<◌, ◌≤◌, List, length, ◌≢◌, slice_index}
use Rattle.std.specs.Prelude.{slice_index_or, slice_set, refl}
use Rattle.std.proofs.Common.{sym, ap, ◌∙◌, subst, ⊎_elim, arith, below_none, below_more, length-set, get_or-set_same, get_or-set_other}
use Rattle.std.proofs.Math.Decide.{ℕ_discrete}
use Rattle.ints.specs.NatSums.{Σ, Σ_ext, Σ_swap, Σ_same, le_or_lt}
use Rattle.cells.specs.Marks.{at, row, col, one_same, one_other, unmark, Kind, kind_same, kind_then, kind_set}
use Rattle.cells.specs.First.{First, Led}
use Rattle.cells.specs.Ranks.{Deciding}
use Rattle.cells.specs.Pass.{earlier}

-- the rows before row i are decided; in the others a marked column has at least the rank of a broken one without a mark
pub record Decided (m n i : ℕ) (xs₀ xs rk : List ℕ) : Type 0 where
  pub kind : Kind xs₀ xs
  pub small : (q : ℕ) → slice_index xs q ≤ 2
  pub rows : (b : ℕ) → b < m → row n xs b ≡ row n xs₀ b
  pub cols : (x : ℕ) → x < n → col m n xs x ≡ col m n xs₀ x
  pub ranked : (b x x' : ℕ) → i ≤ b → b < m → x < n → x' < n → at n xs b x ≡ 2 → at n xs b x' ≡ 1 → slice_index rk x' ≤ slice_index rk x
  pub first : First m n xs₀ xs (i * n)

-- at first all ranks are 0
pub decided_none : (m n : ℕ) (xs rk : List ℕ) → ((q : ℕ) → slice_index xs q ≤ 2) → ((x : ℕ) → slice_index rk x ≡ 0)
    → Decided m n 0 xs xs rk
decided_none m n xs rk small z = record {
  kind = kind_same xs;
  small = small;
  rows = λ b h. refl;
  cols = λ x h. refl;
  ranked = λ b x x' l hb h h' a c. omega (arith, z x, z x');
  first = record { first = λ y O p l a. absurd (omega arith) };
}

pub decided_all : {m n : ℕ} {xs₀ xs rk : List ℕ} → Decided m n m xs₀ xs rk → Led m n xs₀ xs
decided_all D = record { kind = D.kind; rows = D.rows; cols = D.cols; first = D.first }

first_to : {m n : ℕ} {xs₀ xs : List ℕ} (P Q : ℕ) → First m n xs₀ xs P → Q ≡ P → First m n xs₀ xs Q
first_to P Q F e = rw e F

-- ---- the end of a row: its columns want nothing more, so its own total is right too
pub row_close : {m n i j : ℕ} {xs₀ xs wc rk : List ℕ} → Deciding m n i j xs₀ xs wc rk → i < m → j ≡ n → Decided m n (i + 1) xs₀ xs rk
unfolding row col
row_close {m} {n} {i} {j} {xs₀} {xs} {wc} {rk} D hi e = record {
  kind = D.kind;
  small = D.small;
  rows = λ b h. rows b h (ℕ_discrete b i);
  cols = cols;
  ranked = λ b x x' l. D.ranked b x x' (omega arith);
  first = first_to (i * n + j) ((i + 1) * n) D.first (omega arith);
}
  where
    cols : (x : ℕ) → x < n → col m n xs x ≡ col m n xs₀ x
    cols x h = omega (arith, D.cols x h, D.past x (omega arith))

    same : Σ m (λ b. row n xs b) ≡ Σ m (λ b. row n xs₀ b)
    same = Σ_swap m n (λ b x. at n xs b x - 1) ∙ Σ_ext n _ _ cols ∙ sym (Σ_swap m n (λ b x. at n xs₀ b x - 1))

    le : (f g : ℕ → ℕ) → ((b : ℕ) → b < m → (b ≢ i) → f b ≡ g b) → f i ≤ g i → (b : ℕ) → b < m → f b ≤ g b
    le f g h l b k = go (ℕ_discrete b i)
      where
        go : Dec (b ≡ i) → f b ≤ g b
        go (yes q) = subst (λ (t : ℕ). f t ≤ g t) (sym q) l
        go (no o) = omega (arith, h b k o)

    own : row n xs i ≡ row n xs₀ i
    own = ⊎_elim
        (λ l. Σ_same m (λ b. row n xs b) (λ b. row n xs₀ b) (le (λ b. row n xs b) (λ b. row n xs₀ b) D.rows l) (omega (arith, same)) i hi)
        (λ l. sym (Σ_same m (λ b. row n xs₀ b) (λ b. row n xs b)
        (le (λ b. row n xs₀ b) (λ b. row n xs b) (λ b k o. sym (D.rows b k o)) (omega arith)) (omega (arith, same)) i hi))
        (le_or_lt (row n xs i) (row n xs₀ i))

    rows : (b : ℕ) → b < m → Dec (b ≡ i) → row n xs b ≡ row n xs₀ b
    rows b h (yes q) = rw q own
    rows b h (no o) = D.rows b h o

-- ---- row i is lifted below column j
pub record Lifted (m n i j : ℕ) (xs₁ xs wc : List ℕ) : Type 0 where
  pub here : j ≤ n
  pub kind : Kind xs₁ xs
  pub rows : (b : ℕ) → b < m → (b ≢ i) → row n xs b ≡ row n xs₁ b
  pub cols : (x : ℕ) → x < n → x < j → col m n xs x + slice_index wc x ≡ col m n xs₁ x
  pub right : (x : ℕ) → x < n → j ≤ x → col m n xs x ≡ col m n xs₁ x
  -- a column below j wants the mark that its cell had
  pub mark : (x : ℕ) → x < j → slice_index wc x ≡ at n xs₁ i x - 1
  pub cell : (x : ℕ) → x < j → at n xs i x ≡ at n xs₁ i x - slice_index wc x
  pub kept : (b x : ℕ) → x < n → (b ≡ i → x < j → ⊥) → at n xs b x ≡ at n xs₁ b x
  pub long : length xs ≡ length xs₁
  pub wide : length wc ≡ n

pub lift_none : (m n i : ℕ) (xs wc : List ℕ) → length wc ≡ n → Lifted m n i 0 xs xs wc
lift_none m n i xs wc e = record {
  here = omega arith;
  kind = kind_same xs;
  rows = λ b h o. refl;
  cols = λ x h l. absurd (omega arith);
  right = λ x h l. refl;
  mark = below_none _;
  cell = below_none _;
  kept = λ b x h o. refl;
  long = refl;
  wide = e;
}

module _ {m n i j : ℕ} {xs₁ xs wc : List ℕ} (L : Lifted m n i j xs₁ xs wc) (hi : i < m) (hj : j < n) where
  same_cell : at n xs i j ≡ at n xs₁ i j
  same_cell = L.kept i j hj (λ p l. omega arith)

  hw : j < length wc
  hw = omega (arith, L.wide)

  -- the cell has no mark
  pub lift_leave : ((q : ℕ) → slice_index xs₁ q ≤ 2) → (at n xs i j ≢ 2) → Lifted m n i (j + 1) xs₁ xs (slice_set wc j 0)
  lift_leave small f =
      let z : slice_index_or (slice_set wc j 0) j 0 ≡ 0 = get_or-set_same wc j 0 0 hw in
      let o : (x : ℕ) → x < j → slice_index (slice_set wc j 0) x ≡ slice_index_or wc x 0 =
      λ x l. get_or-set_other wc j x 0 0 (λ q. absurd (omega arith)) in
      let s : at n xs₁ i j ≤ 1 = at_most (at n xs₁ i j) (small (i * n + j)) (λ q. f (same_cell ∙ q)) in
      record {
        here = omega arith;
        kind = L.kind;
        rows = L.rows;
        cols = λ x h l. below_more (λ (x : ℕ). x < n → col m n xs x + slice_index (slice_set wc j 0) x ≡ col m n xs₁ x) j
            (λ x l h. omega (arith, o x l, L.cols x h l)) (λ h. omega (arith, z, L.right j h (omega arith))) x l h;
        right = λ x h l. L.right x h (omega arith);
        mark = below_more _ _ (λ x l. o x l ∙ L.mark x l) (omega (arith, z, s));
        cell = below_more _ _ (λ x l. omega (arith, o x l, L.cell x l)) (omega (arith, z, same_cell));
        kept = λ b x h g. L.kept b x h (λ p l. g p (omega arith));
        long = L.long;
        wide = length-set wc j 0 ∙ L.wide;
      }
    where
      at_most : (v : ℕ) → v ≤ 2 → (v ≢ 2) → v ≤ 1
      at_most zero l g = omega arith
      at_most (suc zero) l g = omega arith
      at_most (suc (suc zero)) l g = absurd (g refl)
      at_most (suc (suc (suc v))) l g = absurd (omega arith)

  -- its mark is lifted
  pub lift_off : i * n + j < length xs → at n xs i j ≡ 2 → Lifted m n i (j + 1) xs₁ (slice_set xs (i * n + j) 1) (slice_set wc j 1)
  lift_off hp e =
      let z : slice_index_or (slice_set wc j 1) j 0 ≡ 1 = get_or-set_same wc j 1 0 hw in
      let o : (x : ℕ) → x < j → slice_index (slice_set wc j 1) x ≡ slice_index_or wc x 0 =
      λ x l. get_or-set_other wc j x 1 0 (λ q. absurd (omega arith)) in
      let M = unmark {m = m} {n = n} xs i j hi hj hp e in
      let v : at n (slice_set xs (i * n + j) 1) i j ≡ 1 = get_or-set_same xs (i * n + j) 1 0 hp in
      let u : (x : ℕ) → x < j → at n (slice_set xs (i * n + j) 1) i x ≡ at n xs i x = λ x l. get_or-set_other xs (i * n + j) (i * n + x) 1 0
      (λ q. absurd (omega arith)) in
      record {
        here = omega arith;
        kind = kind_then L.kind (kind_set xs (i * n + j) 1 hp (omega arith) (omega arith) (omega arith));
        rows = λ b h f. omega (arith, M.rows b h, one_other b i f, L.rows b h f);
        cols = λ x h l. below_more (λ (x : ℕ). x < n → col m n (slice_set xs (i * n + j) 1) x + slice_index (slice_set wc j 1) x ≡ col m n xs₁ x) j
            (λ x l h. omega (arith, o x l, M.cols x h, one_other x j (λ q. absurd (omega arith)), L.cols x h l))
            (λ h. omega (arith, z, M.cols j h, one_same j j refl, L.right j h (omega arith))) x l h;
        right = λ x h l. omega (arith, M.cols x h, one_other x j (λ q. absurd (omega arith)), L.right x h (omega arith));
        mark = below_more _ _ (λ x l. o x l ∙ L.mark x l) (omega (arith, z, same_cell));
        cell = below_more _ _ (λ x l. omega (arith, o x l, u x l, L.cell x l)) (omega (arith, z, v, same_cell));
        kept = λ b x h g. sym (M.other b x h (λ p q. g p (omega arith))) ∙ L.kept b x h (λ p l. g p (omega arith));
        long = length-set xs (i * n + j) 1 ∙ L.long;
        wide = length-set wc j 1 ∙ L.wide;
      }

-- ---- a row may begin
pub row_open : {m n i j : ℕ} {xs₀ xs₁ xs wc rk : List ℕ} → Decided m n i xs₀ xs₁ rk → Lifted m n i j xs₁ xs wc → n ≤ j → i < m
    → Deciding m n i 0 xs₀ xs wc rk
row_open {m} {n} {i} {j} {xs₀} {xs₁} {xs} {wc} {rk} D L e hi = record {
  kind = kind_then D.kind L.kind;
  small = λ q. L.kind.small q (D.small q);
  rows = λ b h o. L.rows b h o ∙ D.rows b h;
  cols = λ x h. L.cols x h (omega arith) ∙ D.cols x h;
  clear = λ x l h. omega (arith, L.cell x (omega arith), L.mark x (omega arith), D.small (i * n + x));
  past = below_none _;
  lone = λ x h. omega (arith, L.mark x (omega arith), D.small (i * n + x));
  some = λ x h o. omega (arith, L.cell x (omega arith), L.mark x (omega arith));
  ranked = λ b x x' l hb h h' a c. D.ranked b x x' (omega arith) hb h h' (sym (later b x l h) ∙ a) (sym (later b x' l h') ∙ c);
  lifted = λ x x' l h l' h' o z c. D.ranked i x x' (omega arith) hi h h'
      (omega (arith, L.mark x (omega arith), D.small (i * n + x)))
      (omega (arith, L.cell x' (omega arith), z, c));
  first = first_to (i * n) (i * n + 0) keep (omega arith);
}
  where
    later : (b x : ℕ) → i < b → x < n → at n xs b x ≡ at n xs₁ b x
    later b x l h = L.kept b x h (λ p k. omega arith)

    flat : (q : ℕ) → q < i * n → slice_index xs q ≡ slice_index xs₁ q
    flat q l = go i refl
      where
        go : (k : ℕ) → i ≡ k → slice_index xs q ≡ slice_index xs₁ q
        go zero z = absurd (omega (arith, ap (λ (t : ℕ). t * n) z))
        go (suc k) z = earlier xs₁ xs n k n (λ b x h r. L.kept b x r (λ p u. omega arith)) (omega arith) q (omega (arith, ap (λ (t : ℕ). t * n) z))

    keep : First m n xs₀ xs (i * n)
    keep = record { first = λ y O p l a. rw (flat p l) (D.first.first y O p l (λ q r. a q r ∙ ap (λ (v : ℕ). v - 1) (flat q (omega arith)))) }
