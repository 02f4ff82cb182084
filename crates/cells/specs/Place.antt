-- xs holds the cells' states, wr what each row lacks, wc what each column wants, ro and co what is open.
-- The driver: every row gets the marks that it wants, and so does every column, wherever some table of numbers (Feasible) says that this can be.
use Rattle.std.specs.Prelude.{◌≡◌, ℕ, ◌+◌, ◌-◌, ◌*◌, ◌<◌, ◌≤◌, ◌≢◌, Bool, true, false, List, length, slice_index}
use Rattle.std.specs.Prelude.{slice_index_or, slice_set, refl}
use Rattle.std.proofs.Common.{sym, ap, ◌∙◌, arith, below_none, below_more, length-set, get_or-set_same, get_or-set_other}
use Rattle.std.proofs.lemmas.List.{set-set}
use Rattle.std.proofs.Math.Nat.{le_of_mul-le-mul_left}
use Rattle.ints.specs.NatSums.{Σ, Σ_ext, Σ_scale, Σ_swap, Σ_same}
use Rattle.cells.specs.Cut.{cut_rows}
use Rattle.cells.specs.Marks.{at, row, col, one, Kind}
use Rattle.cells.specs.Kept.{Feasible, still, Kept, kept_none, kept_then, less_one}
use Rattle.cells.specs.Visit.{Shut, Moved, RowVisited}

-- what the driver is given, and what it leaves
pub record Wanted (m n : ℕ) (xs wr wc : List ℕ) : Type 0 where
  pub cells : length xs ≡ m * n
  pub tall : length wr ≡ m
  pub wide : length wc ≡ n
  pub small : (p : ℕ) → slice_index xs p ≤ 2
  pub feasible : Feasible m n xs wr wc

pub record Placed (m n : ℕ) (xs wr wc ys : List ℕ) : Type 0 where
  pub rows : (i : ℕ) → i < m → row n ys i ≡ row n xs i + slice_index wr i
  pub cols : (j : ℕ) → j < n → col m n ys j ≡ col m n xs j + slice_index wc j
  pub kind : Kind xs ys

-- ---- a row that wants a mark finds one
pub never : {m n : ℕ} {xs wr wc ro co ro' co' : List ℕ} → Feasible m n xs wr wc → ((p : ℕ) → slice_index xs p ≤ 2)
    → ((b : ℕ) → b < m → 0 < slice_index ro b) → ((x : ℕ) → x < n → 0 < slice_index co x) → Shut m n xs wc ro co ro' co' → (i : ℕ)
    → i < m → slice_index ro' i ≡ 0 → 0 < slice_index wr i → ⊥
unfolding row col
never {m} {n} {xs} {wr} {wc} {ro} {co} {ro'} {co'} F small o o' S i hi z w =
    let e : row n xs i ≡ row n xs i + slice_index_or wr i 0 =
    cut_rows m n F.cap (λ i j. at n xs i j) F.y (λ i. row n xs i + slice_index wr i) (λ j. col m n xs j + slice_index wc j) (λ i. slice_index ro' i)
    (λ j. slice_index co' j)
    F.witness
    (record { row = λ i j h k. S.row i j h k (o i h); col = λ i j h k. S.col i j h k (o' j k) })
    (λ i j h k. small (i * n + j))
    (λ j h e. omega (arith, S.full j h (o' j h) e))
    (λ i h. omega arith)
    i hi z in
    omega arith

-- ---- where the rows want nothing more, the columns do not
pub rest : {m n : ℕ} {xs wr wc : List ℕ} → Feasible m n xs wr wc → ((b : ℕ) → b < m → slice_index wr b ≡ 0) → (x : ℕ) → x < n
    → slice_index wc x ≡ 0
unfolding row col
rest {m} {n} {xs} {wr} {wc} F z x hx =
    let W = F.witness in
    let a : F.cap * Σ m (λ i. row n xs i) ≡ F.cap * Σ n (λ j. col m n xs j + slice_index wc j) =
    sym (Σ_scale m F.cap (λ i. row n xs i))
    ∙ Σ_ext m _ _ (λ i h. ap (λ (t : ℕ). F.cap * t) (omega (arith, z i h)) ∙ sym (W.rows i h))
    ∙ Σ_swap m n F.y
    ∙ Σ_ext n _ _ (λ j h. W.cols j h)
    ∙ Σ_scale n F.cap (λ j. col m n xs j + slice_index wc j) in
    let b : Σ n (λ j. col m n xs j + slice_index wc j) ≤ Σ m (λ i. row n xs i) = le_of_mul-le-mul_left {k = F.cap} (omega arith) W.some in
    let s : Σ m (λ i. row n xs i) ≡ Σ n (λ j. col m n xs j) = Σ_swap m n (λ i j. at n xs i j - 1) in
    let e : col m n xs x ≡ col m n xs x + slice_index_or wc x 0 = Σ_same n (λ j. col m n xs j) (λ j. col m n xs j + slice_index wc j) (λ j h. omega arith)
    (omega arith) x hx in
    omega arith

-- ---- one mark more: the visit of row i, which lacks one, from open rows and columns
module _ {m n : ℕ} {xs wr wc xs' wr' wc' : List ℕ} (K : Kept m n xs wr wc xs' wr' wc') (F : Feasible m n xs wr wc) (small : (p : ℕ)
    → slice_index xs p ≤ 2) {i : ℕ} (hi : i < m) (hw : i < length wr') (w : 0 < slice_index wr' i) where
  pub kept_more : {ro co : List ℕ} → ((b : ℕ) → b < m → 0 < slice_index ro b) → ((x : ℕ) → x < n → 0 < slice_index co x)
      → {ys wd ro'' co'' : List ℕ}
      (r : Bool) → RowVisited m n xs' wc' ro co ys wd ro'' co'' i r → length ys ≡ length xs' → length wd ≡ length wc'
      → Kept m n xs wr wc ys (slice_set wr' i (slice_index wr' i - 1)) wd
  kept_more {ro} {co} open_row open_col {ys} {wd} {ro''} {co''} r v ly lw = with_found (found r v)
    where
      found : (r : Bool) → RowVisited m n xs' wc' ro co ys wd ro'' co'' i r → Moved m n xs' wc' ro co ys wd (λ b. one b i) (λ x. 0)
      found true v = v.found refl
      found false v =
          let o = v.none refl in
          absurd (never (still K F) (λ p. K.kind.small p (small p)) open_row open_col o.2 i hi o.3 w)

      with_found : Moved m n xs' wc' ro co ys wd (λ b. one b i) (λ x. 0) → Kept m n xs wr wc ys (slice_set wr' i (slice_index wr' i - 1)) wd
      with_found v = kept_then K (record {
        rows = λ b h. omega (arith, v.rows b h, less_one wr' i b hw w);
        cols = λ x h. omega (arith, v.cols x h);
        kind = v.kind;
        cells = ly;
        tall = length-set wr' i (slice_index wr' i - 1);
        wide = lw;
      })

-- ---- one row
-- what rows lack once row i has k marks more
abbrev pub lacking : List ℕ → ℕ → ℕ → List ℕ
lacking wr i k = slice_set wr i (slice_index wr i - k)

-- what it keeps while row i is given its marks, of which it has k: they are taken off what it lacks at the end
pub record Placing (m n : ℕ) (xs wr wc xs' wr' wc' : List ℕ) (i k : ℕ) : Type 0 where
  pub same : wr' ≡ wr
  pub kept : Kept m n xs wr wc xs' (lacking wr i k) wc'

-- and what it leaves
pub record RowPlaced (m n : ℕ) (xs wr wc xs' wr' wc' : List ℕ) (i : ℕ) : Type 0 where
  pub kept : Kept m n xs wr wc xs' wr' wc'
  pub other : (b : ℕ) → (b ≢ i) → slice_index wr' b ≡ slice_index wr b
  pub none : slice_index wr' i ≡ 0

module _ {m n : ℕ} {xs wr wc xs' wr' wc' : List ℕ} (i : ℕ) (hi : i < length wr) {k : ℕ} (P : Placing m n xs wr wc xs' wr' wc' i k) where
  pub still_lacks : k < slice_index wr i → 0 < slice_index (lacking wr i k) i
  still_lacks l = rw (get_or-set_same wr i (slice_index wr i - k) 0 hi) (omega arith)

  pub placing_on : {ys wr'' wd : List ℕ} → wr'' ≡ wr' → Kept m n xs wr wc ys (lacking (lacking wr i k) i 1) wd
      → Placing m n xs wr wc ys wr'' wd i (k + 1)
  placing_on e K =
      let o : slice_index wr i - k - 1 ≡ slice_index wr i - (k + 1) = omega arith in
      record { same = e ∙ P.same; kept = rw (set-set, get_or-set_same wr i (slice_index wr i - k) 0 hi, o) at K }

-- ---- the rows below i have their marks
pub record Going (m n : ℕ) (xs wr wc xs' wr' wc' : List ℕ) (i : ℕ) : Type 0 where
  pub here : i ≤ m
  pub kept : Kept m n xs wr wc xs' wr' wc'
  pub done : (b : ℕ) → b < i → slice_index wr' b ≡ 0

pub going_start : {m n : ℕ} (xs wr wc : List ℕ) → Going m n xs wr wc xs wr wc 0
going_start xs wr wc = record { here = omega arith; kept = kept_none xs wr wc; done = below_none _ }

module _ {m n : ℕ} {xs wr wc xs' wr' wc' : List ℕ} {i : ℕ} (g : Going m n xs wr wc xs' wr' wc' i) where
  pub going_past : i < m → slice_index wr' i ≡ 0 → Going m n xs wr wc xs' wr' wc' (i + 1)
  going_past h e = record { here = omega arith; kept = g.kept; done = below_more _ _ g.done e }

  -- row i has one mark more
  pub going_on : {ys wd : List ℕ} → Kept m n xs wr wc ys (slice_set wr' i (slice_index wr' i - 1)) wd
      → Going m n xs wr wc ys (slice_set wr' i (slice_index wr' i - 1)) wd i
  going_on k = record {
    here = g.here;
    kept = k;
    done = λ b h. rw (get_or-set_other wr' i b (slice_index wr' i - 1) 0 (λ q. absurd (omega arith))) (g.done b h);
  }

  pub going_end : Feasible m n xs wr wc → m ≤ i → Placed m n xs wr wc xs'
  going_end F h =
      let z = rest (still g.kept F) (λ b l. g.done b (omega arith)) in
      record {
        rows = λ b l. omega (arith, g.kept.rows b l, g.done b (omega arith));
        cols = λ x l. omega (arith, g.kept.cols x l, z x l);
        kind = g.kept.kind;
      }
