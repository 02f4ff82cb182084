-- What `fill` asks, and how marks added to floors make the table of paper 01.
use Rattle.std.specs.Prelude.{◌≡◌, ℕ, zero, suc, ◌+◌, ◌-◌, ◌*◌, ◌<◌, ◌≤◌, min, List, length, get_or, take, replicate}
use Rattle.std.specs.Prelude.{ℤ, pos, ◌+ℤ◌, ◌*ℤ◌, ◌≤ℤ◌, FitsSigned}
use Rattle.std.specs.Prelude.{slice_index, slice_index_or, refl}
use Rattle.std.proofs.Math.Path.{sym, ap, subst}
use Rattle.std.proofs.Common.{◌∙◌, arith, zero-add, length-take}
use Rattle.std.proofs.lemmas.List.{length-replicate}
use Rattle.std.specs.Int.{w64}
use Rattle.ints.specs.Bridge.{abs, za, add#, eq_in}
use Rattle.ints.specs.Floor.{floor, floor_is, share_small}
use Rattle.ints.specs.NatSums.{Σ, Σ_ext}
use Rattle.ints.specs.Rest.{Split}
use Rattle.ints.specs.Sums as ℤs
use Rattle.ints.specs.Sums.{sum_ℤ, Σ<, Small, sum_end, Σ_list, Σ_add, Σ_pos}
use Rattle.rules.specs.Table.{Cell, rounded_down, rounded_up, cell_at, Table}
use Rattle.cells.specs.Marks.{at, row, col, below, kind_then}
use Rattle.cells.specs.Kept.{Kept, still}
use Rattle.cells.specs.Place.{Wanted, Placed}
use Rattle.cells.specs.Exact.{feasible, row_none, col_none}
use Rattle.cells.specs.Fill.{Filled}
use Rattle.cells.specs.Naturals.{NonNegative, debit_at, debit_is, sum_is, Unsigned, Naturals}
use Rattle.cells.specs.Floors.{Balanced, Given, Floored, credit_of, debit_of, quot_of, rest_of, exact, parts, everywhere}

-- ---- the premises: what a closing can show of its credits and debits
pub record Fillable (vc vd : List ℤ) : Type 0 where
  pub payees : length vc ≤ 257
  pub users : length vd ≤ 512
  -- no credit beyond 10^17 in size, no debit below 0
  pub credits : Small 100000000000000000 vc
  pub debits : NonNegative vd
  -- the debits' sum is 1 to 10^17, and the credits' is the same
  pub some : pos 1 ≤ℤ sum_ℤ vd
  pub most : sum_ℤ vd ≤ℤ pos 100000000000000000
  pub equal : sum_ℤ vc ≡ sum_ℤ vd

pub unsigned : {vc vd : List ℤ} → Fillable vc vd → (debits : List ℕ) → length debits ≡ length vd → Unsigned vd debits
unsigned {vc} {vd} F debits e = record { long = e; sign = F.debits; most = omega (za, F.most, eq_in (sum_is vd F.debits)) }

-- ---- what was written as naturals are the debits, and their sum is w
module _ {vc vd : List ℤ} {debits debits' : List ℕ} {w : ℕ} (F : Fillable vc vd) (e : length debits ≡ length vd) (N
    : Naturals vd debits debits' (length vd) w) where
  pub written_long : length debits' ≡ length vd
  written_long = N.wrote.long ∙ e

  written : (j : ℕ) → j < length vd → debit_of debits' j ≡ debit_at vd j
  written j h = rw zero-add at (N.wrote.done j h)

  pub written_debit : (j : ℕ) → j < length vd → slice_index_or vd j (pos 0) ≡ pos (debit_of debits' j)
  written_debit j h = debit_is F.debits j h ∙ ap pos (sym (written j h))

  pub written_sum : sum_ℤ vd ≡ pos w
  written_sum = sum_is vd F.debits ∙ ap pos (sym N.total)

pub given : {vc vd : List ℤ} {debits debits' : List ℕ} {w : ℕ} → Fillable vc vd → length debits ≡ length vd
    → Naturals vd debits debits' (length vd) w → Given vc debits' w
given {vc} {vd} {debits} {debits'} {w} F e N =
    let s = written_sum F e N in
    record {
      balanced = record {
        some = omega (za, F.some, eq_in s);
        users = rw (written_long F e N) (Σ_ext (length vd) (debit_of debits') (debit_at vd) (written F e N) ∙ sym N.total);
        payees = Σ_list vc (length vc) (omega arith) ∙ sum_end vc (length vc) refl ∙ F.equal ∙ s;
      };
      most = omega (za, F.most, eq_in s);
      values = F.credits;
      tall = F.payees;
    }

-- ---- marks are added to floors
abbrev pub Posted : List ℤ → List ℕ → List ℤ → ℕ → Type 0
Posted cells marks out n = Filled (pos 0) 0 (λ k. slice_index_or cells k (pos 0) +ℤ pos (slice_index marks k - 1)) cells out n

pub record PostAsks (cells : List ℤ) (marks : List ℕ) : Type 0 where
  pub long : length marks ≡ length cells
  pub marked : (p : ℕ) → slice_index marks p ≤ 2
  pub small : Small 100000000000000000 cells

pub post_fits : {cells out : List ℤ} {marks : List ℕ} {i : ℕ} → PostAsks cells marks → Posted cells marks out i → i < length cells
    → FitsSigned w64 (slice_index_or out i (pos 0) +ℤ pos (slice_index marks i - 1)) × FitsSigned w64 (slice_index_or out i (pos 0))
post_fits {cells} {out} {marks} {i} A F h =
    let e : get_or out i (pos 0) ≡ get_or cells i (pos 0) = F.after i (omega arith) in
    rw e (omega (za, A.small.small i h, A.marked i, add# (slice_index_or cells i (pos 0)) (pos (slice_index marks i - 1))))

-- a floor is no larger than its row's credit
pub cells_small : {vc : List ℤ} {debits : List ℕ} {w : ℕ} {cells : List ℤ} {marks lacks wants : List ℕ} → Given vc debits w
    → Floored vc debits w cells marks lacks wants → length cells ≡ length vc * length debits → Small 100000000000000000 cells
cells_small {vc} {debits} {w} {cells} G F e = record {
  small = λ p h. everywhere (length vc) (length debits) (λ p. abs (slice_index_or cells p (pos 0)) ≤ 100000000000000000) inside p
      (subst (λ (t : ℕ). p < t) e h);
}
  where
    inside : (i j : ℕ) → i < length vc → j < length debits → abs (cell_at (length debits) cells i j) ≤ 100000000000000000
    inside i j h k = rw (F.cell i j h k) (omega (
      arith,
      G.values.small i h,
      share_small (credit_of vc i) (debit_of debits j) w (parts G.balanced j) G.balanced.some
          (floor_is (credit_of vc i *ℤ pos (debit_of debits j)) w G.balanced.some),
    ))

-- ---- what the search asks
pub wanted : {vc : List ℤ} {debits : List ℕ} {w : ℕ} {cells : List ℤ} {marks lacks wants : List ℕ} → Given vc debits w
    → Floored vc debits w cells marks lacks wants → {marks' lacks' wants' : List ℕ}
    → Kept (length vc) (length debits) marks lacks wants marks' lacks' wants' → length marks ≡ length vc * length debits → length lacks ≡ length vc
    → length wants ≡ length debits → Wanted (length vc) (length debits) marks' lacks' wants'
wanted G F K a b c = record {
  cells = K.cells ∙ a;
  tall = K.tall ∙ b;
  wide = K.wide ∙ c;
  small = λ p. K.kind.small p (omega (arith, F.left.clear p));
  feasible = still K (feasible (exact G.balanced) F.left);
}

-- what was dealt counts with what was placed
pub placed_after : {m n : ℕ} {marks lacks wants marks' lacks' wants' ys : List ℕ} → Kept m n marks lacks wants marks' lacks' wants'
    → Placed m n marks' lacks' wants' ys → Placed m n marks lacks wants ys
placed_after K P = record { rows = λ i h. P.rows i h ∙ K.rows i h; cols = λ j h. P.cols j h ∙ K.cols j h; kind = kind_then K.kind P.kind }

-- ---- a cell, a row, a column
cell_by : (x : ℤ) (w r a b : ℕ) (v : ℤ) → Split x w (floor x (pos w)) r → (a ≡ 1 → 0 < r) → a ≤ 1 → b ≤ 2 → min 1 b ≡ min 1 a
    → v ≡ floor x (pos w) +ℤ pos (b - 1) → Cell x (pos w) v
cell_by x w r a zero v s k l m z e = rounded_down (omega (za, eq_in e, add# (floor x (pos w)) (pos 0)))
cell_by x w r a (suc zero) v s k l m z e = rounded_down (omega (za, eq_in e, add# (floor x (pos w)) (pos 0)))
cell_by x w r a (suc (suc zero)) v s k l m z e =
    let o : 0 < r = k (omega arith) in
    rounded_up e (λ same. absurd (omega (za, eq_in s.sum, eq_in same, add# (floor x (pos w) *ℤ pos w) (pos r))))
cell_by x w r a (suc (suc (suc b))) v s k l m z e = absurd (omega arith)

-- a line of which each entry is q and its mark b
pub line_sum : (n : ℕ) (t q : ℕ → ℤ) (b : ℕ → ℕ) → ((j : ℕ) → j < n → t j ≡ q j +ℤ pos (b j))
    → Σ< n t ≡ Σ< n q +ℤ pos (Σ n b)
line_sum n t q b h = ℤs.Σ_ext n t (λ j. q j +ℤ pos (b j)) h ∙ Σ_add n q (λ j. pos (b j)) ∙ ap (λ (z : ℤ). Σ< n q +ℤ z) (Σ_pos n b)

line_by : (n : ℕ) (t q : ℕ → ℤ) (b : ℕ → ℕ) (v : ℤ) (k : ℕ) → ((j : ℕ) → j < n → t j ≡ q j +ℤ pos (b j)) → Σ n b ≡ k
    → v ≡ Σ< n q +ℤ pos k → Σ< n t ≡ v
line_by n t q b v k h e f = line_sum n t q b h ∙ ap (λ (x : ℕ). Σ< n q +ℤ pos x) e ∙ sym f

-- ---- the floors hold no marks: the marks are those that were wanted
module _ {vc : List ℤ} {debits : List ℕ} {w : ℕ} {cells : List ℤ} {marks lacks wants : List ℕ} (F : Floored vc debits w cells marks lacks wants)
    {ys : List ℕ} (P : Placed (length vc) (length debits) marks lacks wants ys) where
  pub row_marks : (i : ℕ) → i < length vc → row (length debits) ys i ≡ slice_index lacks i
  row_marks i h = P.rows i h ∙ omega (arith, row_none (length debits) marks i F.left.clear)

  pub col_marks : (j : ℕ) → j < length debits → col (length vc) (length debits) ys j ≡ slice_index wants j
  col_marks j h = P.cols j h ∙ omega (arith, col_none (length vc) (length debits) marks j F.left.clear)

-- ---- the table
-- out holds in each cell its floor and its mark
abbrev pub Marked : List ℤ → List ℕ → ℕ → List ℕ → List ℤ → Type 0
Marked vc debits w ys out = (i j : ℕ) → i < length vc → j < length debits → cell_at (length debits) out i j ≡ quot_of vc debits w i j
    +ℤ pos (at (length debits) ys i j - 1)

module _ {vc vd : List ℤ} {debits : List ℕ} {w : ℕ} (B : Balanced vc debits w) (long : length debits ≡ length vd) (debit : (j : ℕ) → j < length vd
    → slice_index_or vd j (pos 0) ≡ pos (debit_of debits j)) (sum : sum_ℤ vd ≡ pos w)
    {cells : List ℤ} {marks lacks wants : List ℕ} (F : Floored vc debits w cells marks lacks wants) {ys : List ℕ} (P
    : Placed (length vc) (length debits) marks lacks wants ys) (out : List ℤ) (put : Marked vc debits w ys out) where
  pub table : length out ≡ length vc * length debits → Table vc vd out
  unfolding row col
  table l = record {
    size = l ∙ ap (λ (t : ℕ). length vc * t) long;
    cell = λ i j h k.
        let k' : j < length debits = subst (λ (t : ℕ). j < t) (sym long) k in
        rw (debit j k, sum, sym long)
        (cell_by (credit_of vc i *ℤ pos (debit_of debits j)) w (rest_of vc debits w i j) (at (length debits) marks i j) (at (length debits) ys i j)
        (cell_at (length debits) out i j) ((exact B).split i j h k') (F.left.broken i j h k') (F.left.clear (i * length debits + j))
        (P.kind.small (i * length debits + j) (omega (arith, F.left.clear (i * length debits + j)))) (P.kind.whole (i * length debits + j))
        (put i j h k'));
    row = λ i h.
        rw (sym long)
        (line_by (length debits) (λ j. cell_at (length debits) out i j) (λ j. quot_of vc debits w i j) (λ j. at (length debits) ys i j - 1) (credit_of vc i)
        (slice_index lacks i) (λ j k. put i j h k) (row_marks F P i h) (F.left.rows i h));
    column = λ j k.
        let k' : j < length debits = subst (λ (t : ℕ). j < t) (sym long) k in
        rw (debit j k, sym long)
        (line_by (length vc) (λ i. cell_at (length debits) out i j) (λ i. quot_of vc debits w i j) (λ i. at (length debits) ys i j - 1)
        (pos (debit_of debits j))
        (slice_index wants j) (λ i h. put i j h k') (col_marks F P j k')
        (F.left.cols j k'));
  }

-- all of `fill`
pub laid : {vc vd : List ℤ} {debits debits' : List ℕ} {w : ℕ} → Fillable vc vd → length debits ≡ length vd
    → Naturals vd debits debits' (length vd) w → {cells : List ℤ} {marks lacks wants marks' lacks' wants' ys : List ℕ}
    → Floored vc debits' w cells marks lacks wants → length cells ≡ length vc * length vd → {m n : ℕ} → m ≡ length vc → n ≡ length vd
    → Kept m n marks lacks wants marks' lacks' wants' → {m' n' : ℕ} → m' ≡ length vc → n' ≡ length vd → Placed m' n' marks' lacks' wants' ys
    → (out : List ℤ) → Posted cells ys out (length cells) → Table vc vd out
laid {vc} {vd} {debits} {debits'} {w} F e N {cells} {ys = ys} L l a b K c d P out Q =
    let long : length debits' ≡ length vd = N.wrote.long ∙ e in
    let K' : Kept (length vc) (length debits') _ _ _ _ _ _ = rw (a, b ∙ sym long) at K in
    let P' : Placed (length vc) (length debits') _ _ _ ys = rw (c, d ∙ sym long) at P in
    let full : length cells ≡ length vc * length debits' = l ∙ ap (λ (t : ℕ). length vc * t) (sym long) in
    let marked : Marked vc debits' w ys out =
    λ i j h k. (rw zero-add at (Q.done (i * length debits' + j) (subst (λ (t : ℕ). i * length debits' + j < t) (sym full) (below h k))))
    ∙ ap (λ (t : ℤ). t +ℤ pos (at (length debits') ys i j - 1)) (L.cell i j h k) in
    table (given F e N).balanced long
    (λ j h. debit_is F.debits j h ∙ ap pos (sym (rw zero-add at (N.wrote.done j h))))
    (sum_is vd F.debits ∙ ap pos (sym N.total))
    L (placed_after K' P') out marked (Q.long ∙ full)

-- ---- a part of a fresh array
pub part_long : {A : Type 0} (a : A) (k n : ℕ) → n ≤ k → length (take n (replicate k a)) ≡ n
part_long a k n h = simp (length-take, length-replicate) (omega arith)

pub part_clear : (k n j : ℕ) → slice_index (take n (replicate {A = ℕ} k 0)) j ≡ 0
part_clear zero zero j = refl
part_clear zero (suc n) j = refl
part_clear (suc k) zero j = refl
part_clear (suc k) (suc n) zero = refl
part_clear (suc k) (suc n) (suc j) = part_clear k n j
