-- From exact values to marks. The value of cell (i, j) is vc i · vd j / w, where w is the sum of vd and of vc; q is its floor and r what
-- is left over. What the floors leave of a row's or a column's total is a natural number of marks, and r is the table of whole numbers
-- below w which shows that so many can be placed.
use Rattle.std.specs.Prelude.{◌≡◌, ℕ, ◌+◌, ◌-◌, ◌*◌, ◌<◌, ◌≤◌, List, ℤ, pos, ◌+ℤ◌, ◌*ℤ◌, slice_index}
use Rattle.std.proofs.Common.{sym, ap, ap₂, ◌∙◌, arith, ⊎_elim, le_of_mul-le-mul_right, mul-le-mul_right}
use Rattle.ints.specs.Bridge.{up, dn, za, add#, mul#, eq_in}
use Rattle.ints.specs.Ring.{all2, diff}
use Rattle.ints.specs.Rest.{Split}
use Rattle.ints.specs.Sums.{Σ<, Σ_ext, Σ_add, Σ_scale, Σ_pos}
use Rattle.ints.specs.NatSums as ℕs
use Rattle.ints.specs.NatSums.{Σ, le_or_lt}
use Rattle.cells.specs.Marks.{at, row, col}
use Rattle.cells.specs.Kept.{Feasible}

-- ---- a row or a column: its floors come to Q, and what is left over to R
pub record Line (v Q : ℤ) (w R : ℕ) : Type 0 where
  pub want : ℕ
  pub value : v ≡ Q +ℤ pos want
  pub exact : R ≡ w * want

pub line : (n w : ℕ) (x q : ℕ → ℤ) (r : ℕ → ℕ) (v : ℤ) → 0 < w → ((k : ℕ) → k < n → Split (x k) w (q k) (r k))
    → Σ< n x ≡ v *ℤ pos w → Line v (Σ< n q) w (Σ n r)
line n w x q r v h s e =
    let t : v *ℤ pos w ≡ Σ< n q *ℤ pos w +ℤ pos (Σ n r) =
    sym e
    ∙ Σ_ext n x (λ k. q k *ℤ pos w +ℤ pos (r k)) (λ k l. (s k l).sum)
    ∙ Σ_add n (λ k. q k *ℤ pos w) (λ k. pos (r k))
    ∙ ap₂ ◌+ℤ◌ (Σ_scale n q (pos w)) (Σ_pos n r) in
    got (Σ< n q) (Σ n r) t
  where
    got : (Q : ℤ) (R : ℕ) → v *ℤ pos w ≡ Q *ℤ pos w +ℤ pos R → Line v Q w R
    got Q R t =
        let a : up v * w + dn Q * w ≡ up Q * w + dn v * w + R = omega (za, eq_in t, mul# v (pos w), mul# Q (pos w), add# (Q *ℤ pos w) (pos R)) in
        let b : up Q + dn v ≤ up v + dn Q = le_of_mul-le-mul_right {k = w} (omega arith) h in
        let c : up v + dn Q - (up Q + dn v) + (up Q + dn v) ≡ up v + dn Q = omega arith in
        let d : (up v + dn Q - (up Q + dn v) + (up Q + dn v)) * w ≡ (up v + dn Q) * w = ap (λ (k : ℕ). k * w) c in
        record {
          want = up v + dn Q - (up Q + dn v);
          value = omega (za, add# Q (pos (up v + dn Q - (up Q + dn v))));
          exact = omega arith;
        }

-- a sum of remainders that has w in it k times leaves nothing over
pub want_is : {v Q : ℤ} {w R : ℕ} (k : ℕ) → 0 < w → Line v Q w R → k * w ≤ R → R < k * w + w → v ≡ Q +ℤ pos k
want_is {v} {Q} {w} {R} k h l a b =
    let e : R ≡ w * l.want = l.exact in
    let s : k ≤ l.want = le_of_mul-le-mul_right {k = w} (omega arith) h in
    let t : l.want ≤ k = ⊎_elim (λ p. p) (λ p. absurd (omega (arith, mul-le-mul_right w p))) (le_or_lt l.want k) in
    l.value ∙ ap (λ (n : ℕ). Q +ℤ pos n) (omega arith)

-- ---- the table of exact values
pub record Exact (m n w : ℕ) (vc : ℕ → ℤ) (vd : ℕ → ℕ) (q : ℕ → ℕ → ℤ) (r : ℕ → ℕ → ℕ) : Type 0 where
  pub some : 0 < w
  pub users : Σ n vd ≡ w
  pub payees : Σ< m vc ≡ pos w
  pub split : (i j : ℕ) → i < m → j < n → Split (vc i *ℤ pos (vd j)) w (q i j) (r i j)

flip : (x y : ℤ) → x *ℤ y ≡ y *ℤ x
flip = all2 _ (λ a b c d. simp diff (omega arith))

module _ {m n w : ℕ} {vc : ℕ → ℤ} {vd : ℕ → ℕ} {q : ℕ → ℕ → ℤ} {r : ℕ → ℕ → ℕ} (E : Exact m n w vc vd q r) where
  -- what a row lacks, and a column wants: naturals, w times which the left-overs come to
  pub row_line : (i : ℕ) → i < m → Line (vc i) (Σ< n (λ j. q i j)) w (Σ n (λ j. r i j))
  row_line i h =
      line n w (λ j. vc i *ℤ pos (vd j)) (λ j. q i j) (λ j. r i j) (vc i) E.some (λ j l. E.split i j h l)
      (Σ_ext n (λ j. vc i *ℤ pos (vd j)) (λ j. pos (vd j) *ℤ vc i) (λ j l. flip (vc i) (pos (vd j)))
      ∙ Σ_scale n (λ j. pos (vd j)) (vc i)
      ∙ ap (λ (t : ℤ). t *ℤ vc i) (Σ_pos n vd ∙ ap pos E.users)
      ∙ flip (pos w) (vc i))

  pub col_line : (j : ℕ) → j < n → Line (pos (vd j)) (Σ< m (λ i. q i j)) w (Σ m (λ i. r i j))
  col_line j h =
      line m w (λ i. vc i *ℤ pos (vd j)) (λ i. q i j) (λ i. r i j) (pos (vd j)) E.some (λ i l. E.split i j l h)
      (Σ_scale m vc (pos (vd j)) ∙ ap (λ (t : ℤ). t *ℤ pos (vd j)) E.payees ∙ flip (pos w) (pos (vd j)))

same_want : {v Q : ℤ} {w R : ℕ} → Line v Q w R → (k : ℕ) → v ≡ Q +ℤ pos k → R ≡ w * k
same_want {v} {Q} {w} l k e =
    let s : l.want ≡ k = omega (za, eq_in l.value, eq_in e, add# Q (pos k), add# Q (pos l.want)) in
    l.exact ∙ ap (λ (t : ℕ). w * t) s

-- no cell is marked yet
pub row_none : (n : ℕ) (marks : List ℕ) (i : ℕ) → ((p : ℕ) → slice_index marks p ≤ 1) → row n marks i ≡ 0
unfolding row
row_none n marks i h = ℕs.Σ_ext n (λ j. at n marks i j - 1) (λ j. 0) (λ j l. omega (arith, h (i * n + j))) ∙ ℕs.Σ_zero n

pub col_none : (m n : ℕ) (marks : List ℕ) (j : ℕ) → ((p : ℕ) → slice_index marks p ≤ 1) → col m n marks j ≡ 0
unfolding col
col_none m n marks j h = ℕs.Σ_ext m (λ i. at n marks i j - 1) (λ i. 0) (λ i l. omega (arith, h (i * n + j))) ∙ ℕs.Σ_zero m

-- what is wanted: each row's and each column's total less its floors; a cell is 0 just where nothing is left over
pub record Left (m n : ℕ) (vc : ℕ → ℤ) (vd : ℕ → ℕ) (q : ℕ → ℕ → ℤ) (r : ℕ → ℕ → ℕ) (marks lacks wants : List ℕ)
    : Type 0 where
  pub clear : (p : ℕ) → slice_index marks p ≤ 1
  pub whole : (i j : ℕ) → i < m → j < n → at n marks i j ≡ 0 → r i j ≡ 0
  pub broken : (i j : ℕ) → i < m → j < n → at n marks i j ≡ 1 → 0 < r i j
  pub rows : (i : ℕ) → i < m → vc i ≡ Σ< n (λ j. q i j) +ℤ pos (slice_index lacks i)
  pub cols : (j : ℕ) → j < n → pos (vd j) ≡ Σ< m (λ i. q i j) +ℤ pos (slice_index wants j)

-- the remainders are the witness
pub feasible : {m n w : ℕ} {vc : ℕ → ℤ} {vd : ℕ → ℕ} {q : ℕ → ℕ → ℤ} {r : ℕ → ℕ → ℕ} {marks lacks wants : List ℕ}
    → Exact m n w vc vd q r → Left m n vc vd q r marks lacks wants → Feasible m n marks lacks wants
feasible {m} {n} {w} {r = r} {marks = marks} {lacks = lacks} {wants = wants} E L = record {
  cap = w;
  y = r;
  witness = record {
    some = E.some;
    most = λ i j h k. omega (arith, (E.split i j h k).less);
    whole = L.whole;
    rows = λ i h. same_want (row_line E i h) (slice_index lacks i) (L.rows i h) ∙ ap (λ (t : ℕ). w * t) (omega (arith, row_none n marks i L.clear));
    cols = λ j h. same_want (col_line E j h) (slice_index wants j) (L.cols j h) ∙ ap (λ (t : ℕ). w * t) (omega (arith, col_none m n marks j L.clear));
  };
}
