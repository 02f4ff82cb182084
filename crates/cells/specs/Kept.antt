-- Marks placed while every total is kept: what a row has and lacks, and what a column has and wants, stay the same together.
use Rattle.std.specs.Prelude.{◌≡◌, ℕ, ◌+◌, ◌-◌, ◌*◌, ◌<◌, List, length, slice_index, slice_index_or, slice_set, refl}
use Rattle.std.proofs.Common.{sym, ap, ◌∙◌, arith, length-set, get_or-set_same, get_or-set_other}
use Rattle.std.proofs.Math.Decide.{ℕ_discrete}
use Rattle.cells.specs.Cut.{Witness}
use Rattle.cells.specs.Marks.{at, row, col, one, one_same, one_other, mark, Kind, kind_same, kind_then, kind_set}

pub record Kept (m n : ℕ) (marks lacks wants marks' lacks' wants' : List ℕ) : Type 0 where
  pub rows : (b : ℕ) → b < m → row n marks' b + slice_index lacks' b ≡ row n marks b + slice_index lacks b
  pub cols : (x : ℕ) → x < n → col m n marks' x + slice_index wants' x ≡ col m n marks x + slice_index wants x
  pub kind : Kind marks marks'
  pub cells : length marks' ≡ length marks
  pub tall : length lacks' ≡ length lacks
  pub wide : length wants' ≡ length wants

pub kept_none : {m n : ℕ} (marks lacks wants : List ℕ) → Kept m n marks lacks wants marks lacks wants
kept_none marks lacks wants = record { rows = λ b h. refl; cols = λ x h. refl; kind = kind_same marks; cells = refl; tall = refl; wide = refl }

pub kept_then : {m n : ℕ} {marks lacks wants marks' lacks' wants' marks'' lacks'' wants'' : List ℕ} → Kept m n marks lacks wants marks' lacks' wants'
    → Kept m n marks' lacks' wants' marks'' lacks'' wants'' → Kept m n marks lacks wants marks'' lacks'' wants''
kept_then a b = record {
  rows = λ i h. b.rows i h ∙ a.rows i h;
  cols = λ j h. b.cols j h ∙ a.cols j h;
  kind = kind_then a.kind b.kind;
  cells = b.cells ∙ a.cells;
  tall = b.tall ∙ a.tall;
  wide = b.wide ∙ a.wide;
}

-- one less at i, as a sum
pub less_one : (l : List ℕ) (i b : ℕ) → i < length l → 0 < slice_index l i
    → slice_index (slice_set l i (slice_index l i - 1)) b + one b i ≡ slice_index l b
less_one l i b h o = go (ℕ_discrete b i)
  where
    go : Dec (b ≡ i) → slice_index (slice_set l i (slice_index l i - 1)) b + one b i ≡ slice_index l b
    go (yes q) =
        let u : slice_index_or (slice_set l i (slice_index l i - 1)) b 0 ≡ slice_index l i - 1 = rw q (get_or-set_same l i (slice_index l i - 1) 0 h) in
        let v : slice_index_or l b 0 ≡ slice_index_or l i 0 = ap (λ (k : ℕ). slice_index l k) q in
        omega (arith, one_same b i q)
    go (no f) = rw (get_or-set_other l i b (slice_index l i - 1) 0 f) (omega (arith, one_other b i f))

-- a mark at (i, j), where the row lacks one and the column wants one
pub kept_mark : {m n : ℕ} (marks lacks wants : List ℕ) (i j : ℕ) → i < m → j < n → i * n + j < length marks → i < length lacks
    → j < length wants → at n marks i j ≡ 1 → 0 < slice_index lacks i → 0 < slice_index wants j
    → Kept m n marks lacks wants (slice_set marks (i * n + j) 2)
    (slice_set lacks i (slice_index lacks i - 1))
    (slice_set wants j (slice_index wants j - 1))
kept_mark {m} {n} marks lacks wants i j hi hj hp hl hw e l w =
    let s = mark {m = m} {n = n} marks i j hi hj hp e in record {
      rows = λ b h. omega (arith, s.rows b h, less_one lacks i b hl l);
      cols = λ x h. omega (arith, s.cols x h, less_one wants j x hw w);
      kind = kind_set marks (i * n + j) 2 hp (omega arith) (omega arith) (omega arith);
      cells = length-set marks (i * n + j) 2;
      tall = length-set lacks i (slice_index lacks i - 1);
      wide = length-set wants j (slice_index wants j - 1);
    }

-- ---- some y between 0 and cap, 0 on whole cells, whose rows total cap times the marks that the row has and lacks, and so the columns
pub record Feasible (m n : ℕ) (marks lacks wants : List ℕ) : Type 0 where
  pub cap : ℕ
  pub y : ℕ → ℕ → ℕ
  pub witness : Witness m n cap (λ i j. at n marks i j) y (λ i. row n marks i + slice_index lacks i) (λ j. col m n marks j + slice_index wants j)

pub still : {m n : ℕ} {marks lacks wants marks' lacks' wants' : List ℕ} → Kept m n marks lacks wants marks' lacks' wants'
    → Feasible m n marks lacks wants → Feasible m n marks' lacks' wants'
still {m} {n} k F = record {
  cap = F.cap;
  y = F.y;
  witness = record {
    some = F.witness.some;
    most = F.witness.most;
    whole = λ i j h l e. F.witness.whole i j h l (omega (arith, k.kind.whole (i * n + j)));
    rows = λ i h. F.witness.rows i h ∙ ap (λ (t : ℕ). F.cap * t) (sym (k.rows i h));
    cols = λ j h. F.witness.cols j h ∙ ap (λ (t : ℕ). F.cap * t) (sym (k.cols j h));
  };
}
