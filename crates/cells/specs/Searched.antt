-- What a search from an unmarked cell (i, j) of rank p leaves. It goes through the later rows and the columns of rank p. Where it finds an
-- exchange the cell is marked, and ranks stay right since every row has swapped marks within one rank. Where it finds none the columns that it
-- reached keep their rank, and the others of that rank and above go one up: no row has a mark in what was reached and a broken unmarked cell
-- outside.
use Rattle.std.specs.Prelude.{◌≡◌, ℕ, zero, suc, ◌+◌, ◌-◌, ◌*◌, ◌<◌, ◌≤◌, ◌⊎◌, List, length, ◌≢◌}
use Rattle.std.specs.Prelude.{slice_index, slice_index_or, slice_set, refl}
use Rattle.std.proofs.Math.Path.{sym, ap}
use Rattle.std.proofs.Common.{◌∙◌, inl, inr}
use Rattle.std.proofs.Math.Logic.{⊎_elim}
use native.Mathlib.Omega.{arith}
use Rattle.std.proofs.Math.Decide.{ℕ_discrete}
use Rattle.ints.specs.NatSums.{Σ_ext, Σ_same, le_or_lt}
use Rattle.cells.specs.Marks.{at, row, col, one, one_other}
use Rattle.cells.specs.Visit.{Moved, Shut}
use Rattle.cells.specs.Ranks.{Deciding}
use Rattle.cells.specs.Pass.{stay_settled, wanted_rank, raise}

-- the rows after row i are open, and no others
pub record After (m i : ℕ) (ro : List ℕ) : Type 0 where
  pub past : (a : ℕ) → a ≤ i → slice_index ro a ≡ 0
  pub later : (a : ℕ) → i < a → a < m → 0 < slice_index ro a

-- the columns of rank p are open, and no others
pub record Class (n p : ℕ) (rk co : List ℕ) : Type 0 where
  pub ranked : (x : ℕ) → x < n → slice_index rk x ≡ p → 0 < slice_index co x
  pub others : (x : ℕ) → x < n → (slice_index rk x ≢ p) → slice_index co x ≡ 0

-- of the columns of rank p those that are still open go one up, and so do the columns of higher ranks
pub record Parted (n p : ℕ) (rk co rk' : List ℕ) : Type 0 where
  pub higher : (x : ℕ) → x < n → p < slice_index rk x → slice_index rk' x ≡ slice_index rk x + 1
  pub missed : (x : ℕ) → x < n → 0 < slice_index co x → slice_index rk' x ≡ slice_index rk x + 1
  pub kept : (x : ℕ) → x < n → slice_index rk x ≤ p → slice_index co x ≡ 0 → slice_index rk' x ≡ slice_index rk x

module _ {m n i j : ℕ} {xs₀ xs wc rk : List ℕ} (D : Deciding m n i j xs₀ xs wc rk) (hi : i < m) (hj : j < n) (e : at n xs i j ≡ 1)
    (w : slice_index_or wc j 0 ≡ 0) {ro co : List ℕ} (A : After m i ro) (K : Class n (slice_index rk j) rk co) where
  -- ---- an exchange was found
  module _ {ys wd : List ℕ} (M : Moved m n xs wc ro co ys wd (λ b. 0) (λ x. one x j)) where
    fixed : (x : ℕ) → x < n → (slice_index rk x ≢ slice_index rk j) → (b : ℕ) → at n ys b x ≡ at n xs b x
    fixed x h f b = M.kept_col b x h (K.others x h f)

    ys_small : (q : ℕ) → slice_index ys q ≤ 2
    ys_small q = M.kind.small q (D.small q)

    module _ (b : ℕ) (l : i < b) (hb : b < m) (x x' : ℕ) (h : x < n) (h' : x' < n) (a : at n ys b x ≡ 2) (c : at n ys b x' ≡ 1) where
      -- xs had no mark of rank p in this row: nor has ys
      joined : slice_index_or rk x 0 ≡ slice_index rk j → (slice_index rk x' ≢ slice_index rk j) → slice_index rk x < slice_index rk x' → ⊥
      unfolding row
      joined q f g = omega (arith, D.ranked b x x' l hb h h' (omega (arith, same, D.small (b * n + x))) plain)
        where
          plain : at n xs b x' ≡ 1
          plain = sym (fixed x' h' f b) ∙ c

          least : (z : ℕ) → z < n → at n xs b z - 1 ≤ at n ys b z - 1
          least z k = go (ℕ_discrete (slice_index rk z) (slice_index rk j)) (le_or_lt (at n xs b z) 1)
            where
              go : Dec (slice_index rk z ≡ slice_index rk j) → (at n xs b z ≤ 1) ⊎ (1 < at n xs b z) → at n xs b z - 1 ≤ at n ys b z - 1
              go (no o) s = omega (arith, fixed z k o b)
              go (yes o) (inl s) = omega arith
              go (yes o) (inr s) = absurd (omega (arith, D.ranked b z x' l hb k h' (omega (arith, D.small (b * n + z))) plain))

          same : at n xs b x - 1 ≡ at n ys b x - 1
          same = Σ_same n (λ z. at n xs b z - 1) (λ z. at n ys b z - 1) least (omega (arith, M.rows b hb)) x h

      -- xs had every broken cell of rank p marked in this row: so has ys
      left : (slice_index rk x ≢ slice_index rk j) → slice_index rk x' ≡ slice_index rk j → slice_index rk x < slice_index rk x' → ⊥
      unfolding row
      left f q g =
          omega (arith, D.ranked b x x' l hb h h' marked (omega (arith, same, M.kind.whole (b * n + x'), D.small (b * n + x'))))
        where
          marked : at n xs b x ≡ 2
          marked = sym (fixed x h f b) ∙ a

          least : (z : ℕ) → z < n → at n ys b z - 1 ≤ at n xs b z - 1
          least z k = go (ℕ_discrete (slice_index rk z) (slice_index rk j)) (ℕ_discrete (at n xs b z) 1)
            where
              go : Dec (slice_index rk z ≡ slice_index rk j) → Dec (at n xs b z ≡ 1) → at n ys b z - 1 ≤ at n xs b z - 1
              go (no o) s = omega (arith, fixed z k o b)
              go (yes o) (yes s) = absurd (omega (arith, D.ranked b x z l hb h k marked s))
              go (yes o) (no s) = other (at n xs b z) refl
                where
                  other : (v : ℕ) → at n xs b z ≡ v → at n ys b z - 1 ≤ at n xs b z - 1
                  other zero r = omega (arith, M.kind.whole (b * n + z))
                  other (suc zero) r = absurd (s r)
                  other (suc (suc v)) r = omega (arith, ys_small (b * n + z))

          same : at n ys b x' - 1 ≡ at n xs b x' - 1
          same = Σ_same n (λ z. at n ys b z - 1) (λ z. at n xs b z - 1) least (omega (arith, M.rows b hb)) x' h'

      still_ranked : slice_index_or rk x' 0 ≤ slice_index rk x
      still_ranked = go (ℕ_discrete (slice_index rk x) (slice_index rk j)) (ℕ_discrete (slice_index rk x') (slice_index rk j))
          (le_or_lt (slice_index rk x') (slice_index rk x))
        where
          go : Dec (slice_index rk x ≡ slice_index rk j) → Dec (slice_index rk x' ≡ slice_index rk j)
              → (slice_index rk x' ≤ slice_index rk x) ⊎ (slice_index rk x < slice_index rk x')
              → slice_index rk x' ≤ slice_index rk x
          go q r (inl s) = s
          go (yes q) (yes r) (inr s) = omega arith
          go (yes q) (no r) (inr s) = absurd (joined q r s)
          go (no q) (yes r) (inr s) = absurd (left q r s)
          go (no q) (no r) (inr s) = D.ranked b x x' l hb h h' (sym (fixed x h q b) ∙ a) (sym (fixed x' h' r b) ∙ c)

    -- a column that no longer wants its mark has rank p
    still_lifted : (x x' : ℕ) → j < x → x < n → j < x' → x' < n → 0 < slice_index wd x → slice_index wd x' ≡ 0 → at n xs i x' ≡ 1
        → slice_index rk x' ≤ slice_index rk x
    unfolding col
    still_lifted x x' l h l' h' o z a =
        let o' : 0 < slice_index_or wc x 0 = omega (arith, M.fewer x) in
        let r : slice_index_or rk j 0 ≤ slice_index_or rk x 0 = wanted_rank D hi hj e w x (omega arith) h o' in
        ⊎_elim (λ u. D.lifted x x' (omega arith) h (omega arith) h' o' (omega arith) a) (λ u. go u r (ℕ_discrete (slice_index rk x') (slice_index rk j)))
        (le_or_lt (slice_index wc x') 0)
      where
        go : 0 < slice_index wc x' → slice_index rk j ≤ slice_index rk x → Dec (slice_index rk x' ≡ slice_index rk j)
            → slice_index rk x' ≤ slice_index rk x
        go u r (yes q) = omega arith
        go u r (no f) =
            let s : col m n ys x' ≡ col m n xs x' = Σ_ext m _ _ (λ b k. ap (λ (v : ℕ). v - 1) (fixed x' h' f b)) in
            absurd (omega (arith, s, M.cols x' h', one_other x' j (λ t. omega arith)))

    pub exchanged : i * n + j < length ys → Deciding m n i (j + 1) xs₀ (slice_set ys (i * n + j) 2) wd rk
    exchanged hp =
        raise D hi hj e (omega (arith, M.fewer j)) (λ b h. omega (arith, M.rows b h)) M.cols M.kind M.fewer
        (λ b x l h. M.kept_row b x h (A.past b l))
        (λ b x x' l h k k' a c. still_ranked b l h x x' k k' a c)
        still_lifted hp

  -- ---- nothing was found
  module _ {ro' co' rk' : List ℕ} (S : Shut m n xs wc ro co ro' co') (here : slice_index_or co' j 0 ≡ 0) (P : Parted n (slice_index rk j) rk co' rk') where
    grown : (x : ℕ) → x < n → slice_index rk' x ≤ slice_index rk x + 1
    grown x h =
        ⊎_elim (λ l. ⊎_elim (λ z. omega (arith, P.kept x h l (omega arith))) (λ o. omega (arith, P.missed x h o)) (le_or_lt (slice_index co' x) 0))
        (λ l. omega (arith, P.higher x h l)) (le_or_lt (slice_index rk x) (slice_index rk j))

    -- ranks keep their order, if a column that was reached draws along those of its rank
    in_order : (x x' : ℕ) → x < n → x' < n → slice_index rk x' ≤ slice_index rk x
        → (slice_index rk x ≡ slice_index rk j → slice_index rk x' ≡ slice_index rk j → slice_index co' x ≡ 0 → slice_index co' x' ≡ 0)
        → slice_index rk' x' ≤ slice_index rk' x
    in_order x x' h h' o draws = go (le_or_lt (slice_index rk x) (slice_index rk j)) (le_or_lt (slice_index co' x) 0)
        (le_or_lt (slice_index rk x) (slice_index rk x'))
        (ℕ_discrete (slice_index rk x') (slice_index rk j))
      where
        go : (slice_index rk x ≤ slice_index rk j) ⊎ (slice_index rk j < slice_index rk x) → (slice_index co' x ≤ 0) ⊎ (0 < slice_index co' x)
            → (slice_index rk x ≤ slice_index rk x') ⊎ (slice_index rk x' < slice_index rk x) → Dec (slice_index rk x' ≡ slice_index rk j)
            → slice_index rk' x' ≤ slice_index rk' x
        go (inr u) z s d = omega (arith, P.higher x h u, grown x' h')
        go (inl u) (inr z) s d = omega (arith, P.missed x h z, grown x' h')
        go (inl u) (inl z) (inr s) d = omega (arith, P.kept x h u (omega arith), grown x' h')
        go (inl u) (inl z) (inl s) (yes d) =
            let c : slice_index_or co' x' 0 ≡ 0 = draws (omega arith) d (omega arith) in
            omega (arith, P.kept x h u (omega arith), P.kept x' h' (omega arith) c)
        go (inl u) (inl z) (inl s) (no d) =
            let c : slice_index_or co' x' 0 ≡ 0 = S.cols x' (K.others x' h' d) in
            omega (arith, P.kept x h u (omega arith), P.kept x' h' (omega arith) c)

    parted : Deciding m n i j xs₀ xs wc rk'
    parted = record {
      kind = D.kind;
      small = D.small;
      rows = D.rows;
      cols = D.cols;
      clear = D.clear;
      past = D.past;
      lone = D.lone;
      some = D.some;
      ranked = λ b x x' l hb h h' a c. in_order x x' h h' (D.ranked b x x' l hb h h' a c)
          (λ q q' z. S.row b x' hb h' (A.later b l hb) (S.col b x hb h (K.ranked x h q) z a) c);
      lifted = λ x x' l h l' h' o z a. in_order x x' h h' (D.lifted x x' l h l' h' o z a)
          (λ q q' z'. absurd (omega (arith, S.full x h (K.ranked x h q) z')));
      first = D.first;
    }

    -- of what was reached, or has a lower rank, nothing is wanted
    none_wanted : (x : ℕ) → j ≤ x → x < n → slice_index rk' x ≤ slice_index rk j → slice_index wc x ≡ 0
    none_wanted x l h r = ⊎_elim (λ z. omega arith) wanted (le_or_lt (slice_index wc x) 0)
      where
        wanted : 0 < slice_index wc x → slice_index wc x ≡ 0
        wanted o =
            let u : slice_index_or rk j 0 ≤ slice_index_or rk x 0 = wanted_rank D hi hj e w x l h o in
            ⊎_elim
            (λ v. ⊎_elim (λ z. S.full x h (K.ranked x h (omega arith)) (omega arith)) (λ z. absurd (omega (arith, P.missed x h z)))
            (le_or_lt (slice_index co' x) 0))
            (λ v. absurd (omega (arith, P.higher x h v)))
            (le_or_lt (slice_index rk x) (slice_index rk j))

    pub lost : Deciding m n i (j + 1) xs₀ xs wc rk'
    lost = stay_settled parted hi hj (slice_index rk j) (omega (arith, P.kept j hj (omega arith) here)) none_wanted
