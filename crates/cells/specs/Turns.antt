-- The loops of the two visits. A visit of row i begins with ro at i set to 0, and goes through the columns; a visit of column j goes through the rows.
-- Unprimed lists are those at the visit's entry, primed ones those at the loop's head.
use Rattle.std.specs.Prelude.{◌≡◌, ℕ, zero, suc, ◌+◌, ◌-◌, ◌*◌, ◌<◌, ◌≤◌, Bool, true, false, Some, None, List, length}
use Rattle.std.specs.Prelude.{slice_index, slice_set, refl}
use Rattle.std.proofs.Common.{sym, ◌∙◌, arith, below_none, below_more}
use Rattle.ints.specs.NatSums.{total, total_set}
use Rattle.cells.specs.Marks.{at, below}
use Rattle.cells.specs.Visit.{Shut, shut_none, shut_then, row_end, col_end, row_take, row_turn, col_turn, RowVisited, ColVisited, Free}

-- ---- nothing has changed but that more is visited, and that is shut; Done says what has been gone through
pub record Turn (m n : ℕ) (xs wc ro co xs' wc' ro' co' : List ℕ) : Type 0 where
  pub same : xs' ≡ xs
  pub wants : wc' ≡ wc
  pub shut : Shut m n xs wc ro co ro' co'
  pub tall : length ro' ≡ m
  pub long : length co' ≡ n

pub turn_start : {m n : ℕ} (xs wc ro co : List ℕ) → length ro ≡ m → length co ≡ n → Turn m n xs wc ro co xs wc ro co
turn_start {m} {n} xs wc ro co a b = record { same = refl; wants = refl; shut = shut_none m n xs wc ro co; tall = a; long = b }

-- a visit that found nothing
pub turn_next : {m n : ℕ} {xs wc ro co xs' wc' ro' co' xs'' wc'' ro'' co'' : List ℕ} → Turn m n xs wc ro co xs' wc' ro' co' → xs'' ≡ xs'
    → wc'' ≡ wc' → Shut m n xs' wc' ro' co' ro'' co'' → length ro'' ≡ m → length co'' ≡ n → Turn m n xs wc ro co xs'' wc'' ro'' co''
turn_next t a b s p q = record {
  same = a ∙ t.same;
  wants = b ∙ t.wants;
  shut = shut_then t.shut (rw (t.same, t.wants) at s);
  tall = p;
  long = q;
}

pub true_false : {A : Type 0} (r : Bool) → r ≡ true → r ≡ false → A
true_false r a b = let z : ◌≡◌ {A = Bool} true false = sym a ∙ b in let y : ◌≡◌ {A = ℕ} 0 1 = cc in absurd (omega arith)

-- ---- a visit of row i: the columns below j are done. ro is as the loop finds it, with row i visited
abbrev pub RowInv : ℕ → ℕ → List ℕ → List ℕ → List ℕ → List ℕ → ℕ → List ℕ → List ℕ → List ℕ → List ℕ → ℕ
    → Type 0
RowInv m n xs wc ro co i xs' wc' ro' co' j = Turn m n xs wc ro co xs' wc' ro' co' × (j ≤ n)
    × ((x : ℕ) → x < j → at n xs i x ≡ 1 → slice_index co' x ≡ 0)

pub row_start : {m n : ℕ} (xs wc ro co : List ℕ) (i : ℕ) → length ro ≡ m → length co ≡ n → RowInv m n xs wc ro co i xs wc ro co 0
row_start xs wc ro co i a b = (turn_start xs wc ro co a b, omega arith, below_none _)

module _ {m n : ℕ} {xs wc ro co : List ℕ} (i : ℕ) {xs' wc' ro' co' : List ℕ} (j : ℕ) (I : RowInv m n xs wc ro co i xs' wc' ro' co' j)
    (hj : j < n) where
  pub row_skip : (at n xs' i j ≡ 1 → slice_index co' j ≡ 0) → RowInv m n xs wc ro co i xs' wc' ro' co' (j + 1)
  row_skip f = (I.0, omega arith, below_more _ _ I.2 (rw I.0.same at f))

  pub row_miss : {xs'' wc'' ro'' co'' : List ℕ} (r : Bool) → ColVisited m n xs' wc' ro' co' xs'' wc'' ro'' co'' j r → r ≡ false
      → length ro'' ≡ m → length co'' ≡ n → RowInv m n xs wc ro co i xs'' wc'' ro'' co'' (j + 1)
  row_miss r v e p q =
      let o = v.none e in
      (turn_next I.0 o.0 o.1 o.2 p q, omega arith, below_more _ _ (λ x l h. o.2.cols x (I.2 x l h)) (λ h. o.3))

  -- the column wants no mark
  pub row_wants : Free n xs wc co i None → at n xs' i j ≡ 1 → 0 < slice_index co' j → slice_index wc' j ≡ 0
  row_wants F e o = rw I.0.wants (F j hj (rw I.0.same at e) (still (slice_index co j) (I.0.shut.cols j)))
    where
      still : (a : ℕ) → (a ≡ 0 → slice_index co' j ≡ 0) → 0 < a
      still zero h = absurd (omega (arith, h refl))
      still (suc a) h = omega arith

module _ {m n : ℕ} {xs wc : List ℕ} (ro : List ℕ) {co : List ℕ} (i : ℕ) (tall : length ro ≡ m) (hi : i < m) (o : 0 < slice_index ro i)
    {xs' wc' ro' co' : List ℕ} (j : ℕ) (I : RowInv m n xs wc (slice_set ro i 0) co i xs' wc' ro' co' j) where
  row_within : i < length ro
  row_within = rw tall hi

  pub row_less : total ro' + total co' < total ro + total co
  row_less = omega (arith, I.0.shut.less, total_set ro i 0 row_within)

  pub row_hit : {xs'' wc'' ro'' co'' : List ℕ} (r : Bool) → j < n → i * n + j < length xs'' → at n xs' i j ≡ 1 → 0 < slice_index co' j
      → ColVisited m n xs' wc' ro' co' xs'' wc'' ro'' co'' j r → r ≡ true
      → RowVisited m n xs wc ro co (slice_set xs'' (i * n + j) 2) wc'' ro'' co'' i true
  row_hit r hj hp e o' v y = record {
    found = λ _. row_turn i j hi hj hp row_within (rw I.0.same at e) o o' I.0.shut (rw (I.0.same, I.0.wants) at (v.found y));
    none = true_false true refl;
  }

  pub row_last : n ≤ j → RowVisited m n xs wc ro co xs' wc' ro' co' i false
  row_last l =
      let s = row_end i row_within I.0.shut (λ x h. I.2 x (omega arith)) in
      record { found = λ e. true_false false e refl; none = λ _. (I.0.same, I.0.wants, s.0, s.1) }

-- ---- a visit of column j: the rows below i are done
abbrev pub ColInv : ℕ → ℕ → List ℕ → List ℕ → List ℕ → List ℕ → ℕ → List ℕ → List ℕ → List ℕ → List ℕ → ℕ
    → Type 0
ColInv m n xs wc ro co j xs' wc' ro' co' i = Turn m n xs wc ro co xs' wc' ro' co' × (i ≤ m)
    × ((b : ℕ) → b < i → at n xs b j ≡ 2 → slice_index ro' b ≡ 0)

pub col_start : {m n : ℕ} (xs wc ro co : List ℕ) (j : ℕ) → length ro ≡ m → length co ≡ n → ColInv m n xs wc ro co j xs wc ro co 0
col_start xs wc ro co i a b = (turn_start xs wc ro co a b, omega arith, below_none _)

module _ {m n : ℕ} {xs wc ro co : List ℕ} (j : ℕ) {xs' wc' ro' co' : List ℕ} (i : ℕ) (I : ColInv m n xs wc ro co j xs' wc' ro' co' i)
    (hi : i < m) where
  pub col_skip : (at n xs' i j ≡ 2 → slice_index ro' i ≡ 0) → ColInv m n xs wc ro co j xs' wc' ro' co' (i + 1)
  col_skip f = (I.0, omega arith, below_more _ _ I.2 (rw I.0.same at f))

  pub col_miss : {xs'' wc'' ro'' co'' : List ℕ} (r : Bool) → RowVisited m n xs' wc' ro' co' xs'' wc'' ro'' co'' i r → r ≡ false
      → length ro'' ≡ m → length co'' ≡ n → ColInv m n xs wc ro co j xs'' wc'' ro'' co'' (i + 1)
  col_miss r v e p q =
      let o = v.none e in
      (turn_next I.0 o.0 o.1 o.2 p q, omega arith, below_more _ _ (λ x l h. o.2.rows x (I.2 x l h)) (λ h. o.3))

module _ {m n : ℕ} {xs wc ro : List ℕ} (co : List ℕ) (j : ℕ) (long : length co ≡ n) (hj : j < n) (o : 0 < slice_index co j)
    {xs' wc' ro' co' : List ℕ} (i : ℕ) (I : ColInv m n xs wc ro (slice_set co j 0) j xs' wc' ro' co' i) where
  col_within : j < length co
  col_within = rw long hj

  pub col_less : total ro' + total co' < total ro + total co
  col_less = omega (arith, I.0.shut.less, total_set co j 0 col_within)

  pub col_hit : {xs'' wc'' ro'' co'' : List ℕ} (r : Bool) → i < m → i * n + j < length xs'' → at n xs' i j ≡ 2 → 0 < slice_index ro' i
      → RowVisited m n xs' wc' ro' co' xs'' wc'' ro'' co'' i r → r ≡ true
      → ColVisited m n xs wc ro co (slice_set xs'' (i * n + j) 1) wc'' ro'' co'' j true
  col_hit r hi hp e o' v y = record {
    found = λ _. col_turn i j hi hj hp col_within (rw I.0.same at e) o o' I.0.shut (rw (I.0.same, I.0.wants) at (v.found y));
    none = true_false true refl;
  }

  pub col_last : m ≤ i → slice_index wc j ≡ 0 → ColVisited m n xs wc ro co xs' wc' ro' co' j false
  col_last l w =
      let s = col_end j col_within I.0.shut (λ x h. I.2 x (omega arith)) w in
      record { found = λ e. true_false false e refl; none = λ _. (I.0.same, I.0.wants, s.0, s.1) }

-- ---- row i takes a column at once
pub row_now : {m n : ℕ} {xs wc ro co : List ℕ} (i f : ℕ) → length xs ≡ m * n → length wc ≡ n → i < m → 0 < slice_index ro i
    → Free n xs wc co i (Some f) → (ro' : List ℕ)
    → RowVisited m n xs wc ro co (slice_set xs (i * n + f) 2) (slice_set wc f (slice_index wc f - 1)) ro' co i true
row_now {m} {n} {xs} {wc} {ro} {co} i f cells wide hi o F ro' =
    let p : i * n + f < length xs = rw cells (below hi F.0) in record {
      found = λ _. row_take i f hi F.0 p (rw wide F.0) F.1 F.2 o F.3;
      none = true_false true refl;
    }
