-- The pass, cell by cell: what a cell that stays, a cell that is marked and a search that finds nothing do to the row at hand.
use Rattle.std.specs.Prelude.{◌≡◌, ℕ, zero, suc, ◌+◌, ◌-◌, ◌*◌, ◌/◌, ◌%◌, ◌<◌, ◌≤◌, ◌⊎◌, List, length}
use Rattle.std.specs.Prelude.{◌≢◌, slice_index, slice_index_or, slice_set, refl}
use Rattle.std.proofs.Common.{sym, ap, ◌∙◌, subst, inl, inr, ⊎_elim, arith, div-add-mod', div-lt_iff_lt-mul, mod-lt, below_more, get_or-set_same}
use Rattle.std.proofs.Common.{get_or-set_other}
use Rattle.std.proofs.Math.Decide.{ℕ_discrete}
use Rattle.ints.specs.NatSums.{le_or_lt}
use Rattle.cells.specs.Marks.{at, row, col, one, one_other, More, mark, Kind, kind_same, kind_then, kind_set}
use Rattle.cells.specs.Kept.{less_one}
use Rattle.cells.specs.First.{mk, Other, First}
use Rattle.cells.specs.Ranks.{Deciding, settled}

-- ---- first by list order one cell further: the cells before it are the same, and it cannot hold more
first_more : {m n : ℕ} {xs₀ xs zs : List ℕ} {P Q : ℕ} → First m n xs₀ xs P → Q ≡ P + 1
    → ((q : ℕ) → q < P → slice_index zs q ≡ slice_index xs q)
    → ((y : ℕ → ℕ) → Other m n xs₀ y → ((q : ℕ) → q < P → y q ≡ mk xs q) → y P ≤ mk zs P) → First m n xs₀ zs Q
first_more {m} {n} {xs₀} {xs} {zs} {P} {Q} F e same here = record { first = λ y O p l agree. go y O p l agree (le_or_lt P p) }
  where
    go : (y : ℕ → ℕ) → Other m n xs₀ y → (p : ℕ) → p < Q → ((q : ℕ) → q < p → y q ≡ mk zs q) → (P ≤ p) ⊎ (p < P)
        → y p ≤ mk zs p
    go y O p l agree (inr h) =
        omega (arith, same p h, F.first y O p h (λ q k. agree q k ∙ ap (λ (v : ℕ). v - 1) (same q (omega arith))))
    go y O p l agree (inl h) =
        let z : P ≡ p = omega arith in
        subst (λ (k : ℕ). y k ≤ mk zs k) z (here y O (λ q k. agree q (omega arith) ∙ ap (λ (v : ℕ). v - 1) (same q k)))

-- a cell before (i, j) lies in an earlier row, or in row i before j
pub earlier : (xs ys : List ℕ) (n i j : ℕ) → ((b x : ℕ) → b ≤ i → x < n → at n ys b x ≡ at n xs b x) → j ≤ n → (q : ℕ)
    → q < i * n + j → slice_index ys q ≡ slice_index xs q
earlier xs ys n i j same h q l = go n refl
  where
    go : (k : ℕ) → n ≡ k → slice_index ys q ≡ slice_index xs q
    go zero e = absurd (omega (arith, ap (λ (t : ℕ). i * t) e))
    go (suc k) e =
        let z : 0 < n = omega arith in
        let p : q / n * n + q % n ≡ q = div-add-mod' q n in
        let a : q / n < i + 1 = (div-lt_iff_lt-mul {k = n} {x = q} {y = i + 1} z).1 (omega arith) in
        ap (λ (t : ℕ). slice_index ys t) (sym p) ∙ same (q / n) (q % n) (omega arith) (mod-lt q z) ∙ ap (λ (t : ℕ). slice_index xs t) p

module _ {m n i j : ℕ} {xs₀ xs wc rk : List ℕ} (D : Deciding m n i j xs₀ xs wc rk) (hi : i < m) (hj : j < n) where
  -- ---- the cell stays
  stay : slice_index_or wc j 0 ≡ 0 → ((y : ℕ → ℕ) → Other m n xs₀ y → ((q : ℕ) → q < i * n + j → y q ≡ mk xs q) → y (i * n + j) ≡ 0)
      → Deciding m n i (j + 1) xs₀ xs wc rk
  stay w none = record {
    kind = D.kind;
    small = D.small;
    rows = D.rows;
    cols = D.cols;
    clear = λ x l h. D.clear x (omega arith) h;
    past = below_more _ _ D.past w;
    lone = D.lone;
    some = D.some;
    ranked = D.ranked;
    lifted = λ x x' l h l' h'. D.lifted x x' (omega arith) h (omega arith) h';
    first = first_more D.first (omega arith) (λ q l. refl) (λ y O agree. omega (arith, none y O agree));
  }

  -- whole
  pub stay_whole : (at n xs i j ≢ 1) → Deciding m n i (j + 1) xs₀ xs wc rk
  stay_whole f =
      let z : at n xs i j ≡ 0 = zero_of (at n xs i j) (D.clear j (omega arith) hj) f in
      stay (⊎_elim (λ l. omega arith) (λ l. absurd (omega (arith, D.some j hj l, z))) (le_or_lt (slice_index wc j) 0))
      (λ y O agree. O.whole i j hi hj (omega (arith, D.kind.whole (i * n + j), z)))
    where
      zero_of : (v : ℕ) → v ≤ 1 → (v ≢ 1) → v ≡ 0
      zero_of zero l g = refl
      zero_of (suc zero) l g = absurd (g refl)
      zero_of (suc (suc v)) l g = absurd (omega arith)

  -- no column of a rank up to p, which this cell's has, is wanted
  pub stay_settled : (p : ℕ) → slice_index rk j ≤ p → ((x : ℕ) → j ≤ x → x < n → slice_index rk x ≤ p → slice_index wc x ≡ 0)
      → Deciding m n i (j + 1) xs₀ xs wc rk
  stay_settled p l none = stay (none j (omega arith) hj l) (λ y O agree. settled D hi y O agree p none hj l)

  -- a wanted column has at least the rank of a broken one that is not
  pub wanted_rank : at n xs i j ≡ 1 → slice_index wc j ≡ 0 → (x : ℕ) → j ≤ x → x < n → 0 < slice_index wc x
      → slice_index rk j ≤ slice_index rk x
  wanted_rank e w x l h o = D.lifted x j l h (omega arith) hj o w e

  -- ---- the cell is marked: ys differs from xs in later rows alone, and with this mark every column has or wants what it had or wanted
  module _ {ys wd : List ℕ} (e : at n xs i j ≡ 1) (none : slice_index_or wd j 0 ≡ 0)
      (rows : (b : ℕ) → b < m → row n ys b ≡ row n xs b)
      (cols : (x : ℕ) → x < n → col m n ys x + slice_index wd x + one x j ≡ col m n xs x + slice_index wc x)
      (kind : Kind xs ys) (fewer : (x : ℕ) → slice_index wd x ≤ slice_index wc x)
      (upper : (b x : ℕ) → b ≤ i → x < n → at n ys b x ≡ at n xs b x)
      (ranked : (b x x' : ℕ) → i < b → b < m → x < n → x' < n → at n ys b x ≡ 2 → at n ys b x' ≡ 1 → slice_index rk x' ≤ slice_index rk x)
      (lifted : (x x' : ℕ) → j < x → x < n → j < x' → x' < n → 0 < slice_index wd x → slice_index wd x' ≡ 0 → at n xs i x' ≡ 1
      → slice_index rk x' ≤ slice_index rk x) where
    pub raise : i * n + j < length ys → Deciding m n i (j + 1) xs₀ (slice_set ys (i * n + j) 2) wd rk
    raise hp =
        let e' : at n ys i j ≡ 1 = upper i j (omega arith) hj ∙ e in
        let s = mark {m = m} {n = n} ys i j hi hj hp e' in
        let own : (x : ℕ) → j < x → x < n → at n (slice_set ys (i * n + j) 2) i x ≡ at n xs i x =
        λ x l h. s.other i x h (λ p q. omega arith) ∙ upper i x (omega arith) h in
        let kind' = kind_then kind (kind_set ys (i * n + j) 2 hp (omega arith) (omega arith) (omega arith)) in
        record {
          kind = kind_then D.kind kind';
          small = λ q. kind'.small q (D.small q);
          rows = λ b h f. omega (arith, s.rows b h, one_other b i f, rows b h, D.rows b h f);
          cols = λ x h. omega (arith, s.cols x h, cols x h, D.cols x h);
          clear = λ x l h. omega (arith, own x (omega arith) h, D.clear x (omega arith) h);
          past = below_more _ _ (λ x l. omega (arith, D.past x l, fewer x)) none;
          lone = λ x h. omega (arith, D.lone x h, fewer x);
          some = λ x h o. in_row x h o (le_or_lt x j);
          ranked = λ b x x' l h k k' a c. ranked b x x' l h k k' (sym (later s b x l k) ∙ a) (sym (later s b x' l k') ∙ c);
          lifted = λ x x' l h l' h' o w a. lifted x x' (omega arith) h (omega arith) h' o w (sym (own x' (omega arith) h') ∙ a);
          first = first_more D.first (omega arith)
              (λ q l. get_or-set_other ys (i * n + j) q 2 0 (λ p. omega arith) ∙ earlier xs ys n i j upper (omega arith) q l)
              (λ y O agree. omega (arith, O.most i j hi hj, get_or-set_same ys (i * n + j) 2 0 hp));
        }
      where
        later : More m n ys (slice_set ys (i * n + j) 2) i j → (b x : ℕ) → i < b → x < n → at n (slice_set ys (i * n + j) 2) b x ≡ at n ys b x
        later s b x l h = s.other b x h (λ p q. omega arith)

        in_row : (x : ℕ) → x < n → 0 < slice_index wd x → (x ≤ j) ⊎ (j < x) → 0 < at n (slice_set ys (i * n + j) 2) i x
        in_row x h o (inl l) = go (ℕ_discrete x j)
          where
            go : Dec (x ≡ j) → 0 < at n (slice_set ys (i * n + j) 2) i x
            go (yes q) = absurd (omega (arith, ap (λ (k : ℕ). slice_index wd k) q, none))
            go (no f) = absurd (omega (arith, D.past x (omega arith), fewer x))
        in_row x h o (inr l) =
            let s : at n (slice_set ys (i * n + j) 2) i x ≡ at n ys i x = get_or-set_other ys (i * n + j) (i * n + x) 2 0 (λ p. omega arith) in
            omega (arith, s, upper i x (omega arith) h, D.some x h (omega (arith, fewer x)))

  -- the column wants the cell's own mark back
  pub raise_own : 0 < slice_index wc j → j < length wc → i * n + j < length xs
      → Deciding m n i (j + 1) xs₀ (slice_set xs (i * n + j) 2) (slice_set wc j (slice_index wc j - 1)) rk
  raise_own w hw hp =
      let e : at n xs i j ≡ 1 = omega (arith, D.some j hj w, D.clear j (omega arith) hj) in
      let o : (x : ℕ) → j < x → slice_index (slice_set wc j (slice_index wc j - 1)) x ≡ slice_index_or wc x 0 = λ x l. get_or-set_other wc j x
      (slice_index wc j - 1) 0 (λ q. omega arith) in
      raise e (omega (arith, get_or-set_same wc j (slice_index wc j - 1) 0 hw, D.lone j hj))
      (λ b h. refl)
      (λ x h. omega (arith, less_one wc j x hw w))
      (kind_same xs) (λ x. omega (arith, less_one wc j x hw w))
      (λ b x l h. refl) D.ranked
      (λ x x' l h l' h' a b c. D.lifted x x' (omega arith) h (omega arith) h' (omega (arith, o x l)) (omega (arith, o x' l')) c)
      hp
