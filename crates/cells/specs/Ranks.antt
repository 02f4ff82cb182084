-- Ranks of columns, and why a cell cannot be raised. In a row a marked column has at least the rank of every broken column without a mark.
-- So of the row's marks the columns of rank p or less have as few as can be, whatever p (`fewest`): another choice gives them as many or more.
-- Where that holds of all rows after row i, the columns of rank p or less can give row i nothing (`settled`).
use Rattle.std.specs.Prelude.{◌≡◌, ℕ, zero, suc, ◌+◌, ◌-◌, ◌*◌, ◌<◌, ◌≤◌, Bool, true, false, ltb, ◌⊎◌, List}
use Rattle.std.specs.Prelude.{◌≢◌, nat_lt, slice_index}
use Rattle.std.proofs.Math.Path.{refl, sym, ap}
use Rattle.std.proofs.Common.{◌∙◌, inl, inr, not-suc-le-zero}
use Rattle.std.proofs.Math.Logic.{⊎_elim}
use native.Mathlib.Omega.{arith}
use Rattle.std.proofs.Math.Decide.{ℕ_discrete}
use borrow.Author.Tests.{lt-ltb, le-ltb, ltb-true}
use Rattle.ints.specs.NatSums.{Σ, Σ_ext, Σ_mono, Σ_add, Σ_zero, Σ_swap, Σ_same, le_or_lt}
use Rattle.cells.specs.Marks.{at, row, col, below, Kind}
use Rattle.cells.specs.First.{mk, Other, First}

-- ---- v where the test holds, else 0
only : Bool → ℕ → ℕ
only true v = v
only false v = 0

only_add : (t : Bool) (a b : ℕ) → only t (a + b) ≡ only t a + only t b
unfolding only
only_add true a b = refl
only_add false a b = refl

only_most : (t : Bool) {a b : ℕ} → (t ≡ true → a ≤ b) → only t a ≤ only t b
unfolding only
only_most true h = h refl
only_most false h = omega arith

only_sum : (t : Bool) (n : ℕ) (f : ℕ → ℕ) → Σ n (λ k. only t (f k)) ≡ only t (Σ n f)
unfolding only
only_sum true n f = refl
only_sum false n f = Σ_zero n

-- those above i, and those up to p
after : ℕ → ℕ → ℕ → ℕ
after i a v = only (nat_lt i a) v

up_to : ℕ → ℕ → ℕ → ℕ
up_to p r v = only (nat_lt r (suc p)) v

after_yes : (i a v : ℕ) → i < a → after i a v ≡ v
unfolding after only
after_yes i a v h = ap (λ (b : Bool). only b v) (lt-ltb i a h)

after_no : (i a v : ℕ) → a ≤ i → after i a v ≡ 0
unfolding after only
after_no i a v h = ap (λ (b : Bool). only b v) (le-ltb i a h)

up_to_yes : (p r v : ℕ) → r ≤ p → up_to p r v ≡ v
unfolding up_to only
up_to_yes p r v h = ap (λ (b : Bool). only b v) (lt-ltb r (suc p) (omega arith))

up_to_no : (p r v : ℕ) → p < r → up_to p r v ≡ 0
unfolding up_to only
up_to_no p r v h = ap (λ (b : Bool). only b v) (le-ltb r (suc p) h)

-- a sum over the rows: those before i, row i, and those after
rows_split : (m i : ℕ) (f : ℕ → ℕ) → i < m → Σ m f ≡ Σ i f + f i + Σ m (λ a. after i a (f a))
unfolding Σ
rows_split zero i f h = absurd (not-suc-le-zero h)
rows_split (suc m) i f h = go (λ l. rows_split m i f l) (ℕ_discrete i m)
  where
    go : (i < m → Σ m f ≡ Σ i f + f i + Σ m (λ a. after i a (f a))) → Dec (i ≡ m)
        → Σ m f + f m ≡ Σ i f + f i + (Σ m (λ a. after i a (f a)) + after i m (f m))
    go ih (yes e) =
        let z : Σ m (λ a. after i a (f a)) ≡ 0 = Σ_ext m (λ a. after i a (f a)) (λ a. 0) (λ a l. after_no i a (f a) (omega arith)) ∙ Σ_zero m in
        let g : after i m (f m) ≡ 0 = after_no i m (f m) (omega arith) in
        let s : Σ m f ≡ Σ i f = ap (λ (k : ℕ). Σ k f) (sym e) in
        let t : f m ≡ f i = ap f (sym e) in
        omega arith
    go ih (no o) = omega (arith, ih (omega arith), after_yes i m (f m) (omega arith))

-- a sum above 0 has a term above 0
some_term : (n : ℕ) (f : ℕ → ℕ) → 0 < Σ n f → (k : ℕ) × (k < n) × (0 < f k)
unfolding Σ
some_term zero f h = absurd (omega arith)
some_term (suc n) f h = go (le_or_lt (f n) 0) (λ l. some_term n f l)
  where
    go : (f n ≤ 0) ⊎ (0 < f n) → (0 < Σ n f → (k : ℕ) × (k < n) × (0 < f k)) → (k : ℕ) × (k < suc n) × (0 < f k)
    go (inr l) ih = (n, omega arith, l)
    go (inl l) ih = let r = ih (omega arith) in (r.0, omega (arith, r.1), r.2)

-- ---- one row, of states s; another choice y of as many marks
module _ (n : ℕ) (s y rank : ℕ → ℕ) (p : ℕ) (small : (x : ℕ) → x < n → s x ≤ 2) (most : (x : ℕ) → x < n → y x ≤ 1)
    (whole : (x : ℕ) → x < n → s x ≡ 0 → y x ≡ 0) (ranked : (x x' : ℕ) → x < n → x' < n → s x ≡ 2 → s x' ≡ 1 → rank x' ≤ rank x)
    (equal : Σ n y ≡ Σ n (λ x. s x - 1)) where
  above : ℕ → ℕ → ℕ
  above r v = after p r v

  both : (r v : ℕ) → up_to p r v + above r v ≡ v
  unfolding above
  both r v = ⊎_elim (λ l. omega (arith, up_to_yes p r v l, after_no p r v l)) (λ l. omega (arith, up_to_no p r v l, after_yes p r v l)) (le_or_lt r p)

  in_two : (f : ℕ → ℕ) → Σ n f ≡ Σ n (λ x. up_to p (rank x) (f x)) + Σ n (λ x. above (rank x) (f x))
  in_two f = Σ_ext n f (λ x. up_to p (rank x) (f x) + above (rank x) (f x)) (λ x l. sym (both (rank x) (f x))) ∙ Σ_add n _ _

  -- a mark in rank p or less: above p every broken cell is marked
  other_less : (k : ℕ) → k < n → s k ≡ 2 → rank k ≤ p → (x : ℕ) → x < n → above (rank x) (y x) ≤ above (rank x) (s x - 1)
  unfolding above
  other_less k hk e l x hx = ⊎_elim (λ q. omega (arith, after_no p (rank x) (y x) q)) (λ q. up q (s x) refl) (le_or_lt (rank x) p)
    where
      up : p < rank x → (v : ℕ) → s x ≡ v → after p (rank x) (y x) ≤ after p (rank x) (s x - 1)
      up q zero z = omega (arith, after_yes p (rank x) (y x) q, whole x hx z)
      up q (suc zero) z = absurd (omega (arith, ranked k x hk hx e z))
      up q (suc (suc v)) z = omega (arith, after_yes p (rank x) (y x) q, after_yes p (rank x) (s x - 1) q, most x hx)

  fewest : Σ n (λ x. up_to p (rank x) (s x - 1)) ≤ Σ n (λ x. up_to p (rank x) (y x))
  fewest =
      ⊎_elim (λ l. omega arith) (λ l. with_mark (some_term n (λ x. up_to p (rank x) (s x - 1)) l))
      (le_or_lt (Σ n (λ x. up_to p (rank x) (s x - 1))) 0)
    where
      with_mark : (k : ℕ) × (k < n) × (0 < up_to p (rank k) (s k - 1)) → Σ n (λ x. up_to p (rank x) (s x - 1)) ≤ Σ n (λ x. up_to p (rank x) (y x))
      with_mark k = ⊎_elim low (λ l. absurd (omega (arith, k.2, up_to_no p (rank k.0) (s k.0 - 1) l))) (le_or_lt (rank k.0) p)
        where
          low : rank k.0 ≤ p → Σ n (λ x. up_to p (rank x) (s x - 1)) ≤ Σ n (λ x. up_to p (rank x) (y x))
          low l =
              let e : s k.0 ≡ 2 = omega (arith, k.2, up_to_yes p (rank k.0) (s k.0 - 1) l, small k.0 k.1) in
              let h = Σ_mono n _ _ (other_less k.0 k.1 e l) in
              omega (arith, h, in_two y, in_two (λ x. s x - 1), equal)

-- ---- rows above i are decided, and row i below column j; the marks of row i from j on are lifted, and wc has them
pub record Deciding (m n i j : ℕ) (xs₀ xs wc rk : List ℕ) : Type 0 where
  pub kind : Kind xs₀ xs
  pub small : (q : ℕ) → slice_index xs q ≤ 2
  pub rows : (b : ℕ) → b < m → (b ≢ i) → row n xs b ≡ row n xs₀ b
  pub cols : (x : ℕ) → x < n → col m n xs x + slice_index wc x ≡ col m n xs₀ x
  pub clear : (x : ℕ) → j ≤ x → x < n → at n xs i x ≤ 1
  pub past : (x : ℕ) → x < j → slice_index wc x ≡ 0
  pub lone : (x : ℕ) → x < n → slice_index wc x ≤ 1
  pub some : (x : ℕ) → x < n → 0 < slice_index wc x → 0 < at n xs i x
  -- in every later row, and in what is left of row i, a marked column has at least the rank of a broken one without a mark
  pub ranked : (b x x' : ℕ) → i < b → b < m → x < n → x' < n → at n xs b x ≡ 2 → at n xs b x' ≡ 1 → slice_index rk x' ≤ slice_index rk x
  pub lifted : (x x' : ℕ) → j ≤ x → x < n → j ≤ x' → x' < n → 0 < slice_index wc x → slice_index wc x' ≡ 0 → at n xs i x' ≡ 1
      → slice_index rk x' ≤ slice_index rk x
  pub first : First m n xs₀ xs (i * n + j)

-- another choice that agrees with xs so far
module _ {m n i j : ℕ} {xs₀ xs wc rk : List ℕ} (D : Deciding m n i j xs₀ xs wc rk) (hi : i < m) (y : ℕ → ℕ) (O : Other m n xs₀ y)
    (agree : (q : ℕ) → q < i * n + j → y q ≡ mk xs q) where
  -- what it has, and what xs has, of a column in the rows after i
  theirs : ℕ → ℕ
  theirs x = Σ m (λ a. after i a (y (a * n + x)))

  ours : ℕ → ℕ
  ours x = Σ m (λ a. after i a (at n xs a x - 1))

  balance : (x : ℕ) → x < n → y (i * n + x) + theirs x ≡ at n xs i x - 1 + ours x + slice_index wc x
  unfolding row col theirs ours
  balance x hx =
      let a = rows_split m i (λ a. y (a * n + x)) hi in
      let b = rows_split m i (λ a. at n xs a x - 1) hi in
      let d : Σ i (λ a. y (a * n + x)) ≡ Σ i (λ a. at n xs a x - 1) = Σ_ext i _ _ (λ a l. agree (a * n + x) (omega (arith, below {m = i} l hx))) in
      omega (arith, O.cols x hx, D.cols x hx)

  module _ (p : ℕ) where
    -- the columns of rank p or less, row by row
    by_rows : (f : ℕ → ℕ → ℕ) → Σ n (λ x. up_to p (slice_index rk x) (Σ m (λ a. after i a (f a x))))
        ≡ Σ m (λ a. after i a (Σ n (λ x. up_to p (slice_index rk x) (f a x))))
    unfolding after up_to only
    by_rows f =
        Σ_ext n _ _ (λ x l. sym (only_sum (nat_lt (slice_index rk x) (suc p)) m (λ a. after i a (f a x))))
        ∙ Σ_swap n m (λ x a. up_to p (slice_index rk x) (after i a (f a x)))
        ∙ Σ_ext m _ _ (λ a l. Σ_ext n _ _ (λ x l'. turn (nat_lt (slice_index rk x) (suc p)) (nat_lt i a) (f a x))
        ∙ only_sum (nat_lt i a) n (λ x. up_to p (slice_index rk x) (f a x)))
      where
        turn : (s t : Bool) (v : ℕ) → only s (only t v) ≡ only t (only s v)
        turn true t v = refl
        turn false true v = refl
        turn false false v = refl

    one_row : (a : ℕ) → a < m → i < a
        → Σ n (λ x. up_to p (slice_index rk x) (at n xs a x - 1)) ≤ Σ n (λ x. up_to p (slice_index rk x) (y (a * n + x)))
    unfolding row
    one_row a ha l =
        fewest n (λ x. at n xs a x) (λ x. y (a * n + x)) (λ x. slice_index rk x) p (λ x h. D.small (a * n + x)) (λ x h. O.most a x ha h)
        (λ x h e. O.whole a x ha h (omega (arith, D.kind.whole (a * n + x), e)))
        (λ x x' h h' e e'. D.ranked a x x' l ha h h' e e')
        (O.rows a ha ∙ sym (D.rows a ha (λ e. omega arith)))

    later : Σ n (λ x. up_to p (slice_index rk x) (ours x)) ≤ Σ n (λ x. up_to p (slice_index rk x) (theirs x))
    unfolding ours theirs
    later =
        let h : Σ m (λ a. after i a (Σ n (λ x. up_to p (slice_index rk x) (at n xs a x - 1))))
        ≤ Σ m (λ a. after i a (Σ n (λ x. up_to p (slice_index rk x) (y (a * n + x))))) =
        Σ_mono m _ _ (λ a ha. ⊎_elim (λ l. omega (arith, after_no i a (Σ n (λ x. up_to p (slice_index rk x) (at n xs a x - 1))) l)) (λ l. omega (
          arith,
          after_yes i a (Σ n (λ x. up_to p (slice_index rk x) (at n xs a x - 1))) l,
          after_yes i a (Σ n (λ x. up_to p (slice_index rk x) (y (a * n + x)))) l,
          one_row a ha l,
        )) (le_or_lt a i)) in
        omega (arith, h, by_rows (λ a x. at n xs a x - 1), by_rows (λ a x. y (a * n + x)))

    -- no column of rank p or less from j on is wanted
    module _ (none : (x : ℕ) → j ≤ x → x < n → slice_index rk x ≤ p → slice_index wc x ≡ 0) where
      mine : ℕ → ℕ
      mine x = up_to p (slice_index rk x) (at n xs i x - 1 + slice_index wc x)

      other : ℕ → ℕ
      other x = up_to p (slice_index rk x) (y (i * n + x))

      no_less : (x : ℕ) → x < n → mine x ≤ other x
      unfolding mine other up_to
      no_less x hx = only_most (nat_lt (slice_index rk x) (suc p)) (λ t. ⊎_elim
          (λ l. omega (arith, D.clear x l hx, none x l hx (le_of t)))
          (λ l. omega (arith, agree (i * n + x) (omega arith), D.past x l)) (le_or_lt j x))
        where
          le_of : ltb (slice_index rk x) (suc p) ≡ true → slice_index rk x ≤ p
          le_of t = omega (arith, ltb-true (slice_index rk x) (suc p) t)

      no_more : Σ n other ≤ Σ n mine
      unfolding mine other up_to
      no_more =
          let a : Σ n (λ x. up_to p (slice_index rk x) (y (i * n + x) + theirs x))
          ≡ Σ n (λ x. up_to p (slice_index rk x) (at n xs i x - 1 + slice_index wc x + ours x)) =
          Σ_ext n _ _ (λ x h. ap (up_to p (slice_index rk x)) (omega (arith, balance x h))) in
          omega (
            arith,
            a,
            later,
            parts (λ x. y (i * n + x)) theirs,
            parts (λ x. at n xs i x - 1 + slice_index wc x) ours,
          )
        where
          parts : (f g : ℕ → ℕ) → Σ n (λ x. up_to p (slice_index rk x) (f x + g x))
              ≡ Σ n (λ x. up_to p (slice_index rk x) (f x)) + Σ n (λ x. up_to p (slice_index rk x) (g x))
          parts f g = Σ_ext n _ _ (λ x h. only_add (nat_lt (slice_index rk x) (suc p)) (f x) (g x)) ∙ Σ_add n _ _

      pub settled : j < n → slice_index rk j ≤ p → y (i * n + j) ≡ 0
      unfolding mine other
      settled hj l =
          let e : mine j ≡ other j = Σ_same n mine other no_less no_more j hj in
          omega (
            arith,
            e,
            up_to_yes p (slice_index rk j) (at n xs i j - 1 + slice_index wc j) l,
            up_to_yes p (slice_index rk j) (y (i * n + j)) l,
            D.clear j (omega arith) hj,
            none j (omega arith) hj l,
          )
