-- The floors of the whole table, row by row, and what is left for each row and each column.
use Rattle.std.specs.Prelude.{◌≡◌, ℕ, zero, suc, ◌+◌, ◌*◌, ◌/◌, ◌%◌, ◌<◌, ◌≤◌, min, List, length, get_or, ℤ, pos}
use Rattle.std.specs.Prelude.{◌*ℤ◌, slice_index, slice_index_or, slice_set}
use Rattle.std.proofs.Common.{sym, ap, ◌∙◌, subst, ⊎_elim, arith, mul-le-mul_right, div-add-mod', mod-lt, div-lt_iff_lt-mul, add-one}
use Rattle.std.proofs.Math.Decide.{ℕ_discrete}
use borrow.Author.Count.{below_more}
use Rattle.std.proofs.Math.ListN.{length-set, get_or-eq_default}
use Rattle.std.proofs.Math.Seq.{get_or-set_same, get_or-set_other}
use Rattle.ints.specs.NatSums.{Σ, Σ_part, le_or_lt}
use Rattle.ints.specs.Rest.{rest_split}
use Rattle.ints.specs.Sums.{Σ<, Small}
use Rattle.cells.specs.Marks.{at, below}
use Rattle.cells.specs.Exact.{Exact, Left, row_line, col_line, want_is}
use Rattle.cells.specs.Rows.{quot_at, rest_at, RowAsks, RowFloors}

abbrev pub credit_of : List ℤ → ℕ → ℤ
credit_of vc i = slice_index_or vc i (pos 0)

abbrev pub debit_of : List ℕ → ℕ → ℕ
debit_of debits j = slice_index debits j

abbrev pub quot_of : List ℤ → List ℕ → ℕ → ℕ → ℕ → ℤ
quot_of vc debits w i j = quot_at (credit_of vc i) debits w j

abbrev pub rest_of : List ℤ → List ℕ → ℕ → ℕ → ℕ → ℕ
rest_of vc debits w i j = rest_at (credit_of vc i) debits w j

-- the credits and the debits, whose sums are one number w above 0
pub record Balanced (vc : List ℤ) (debits : List ℕ) (w : ℕ) : Type 0 where
  pub some : 0 < w
  pub users : Σ (length debits) (debit_of debits) ≡ w
  pub payees : Σ< (length vc) (credit_of vc) ≡ pos w

-- and within the limits of the code
pub record Given (vc : List ℤ) (debits : List ℕ) (w : ℕ) : Type 0 where
  pub balanced : Balanced vc debits w
  pub most : w ≤ 100000000000000000
  pub values : Small 100000000000000000 vc
  pub tall : length vc ≤ 257

pub exact : {vc : List ℤ} {debits : List ℕ} {w : ℕ} → Balanced vc debits w → Exact (length vc) (length debits) w (credit_of vc) (debit_of debits)
    (quot_of vc debits w) (rest_of vc debits w)
exact {vc} {debits} {w} G = record {
  some = G.some;
  users = G.users;
  payees = G.payees;
  split = λ i j h k. rest_split (credit_of vc i *ℤ pos (debit_of debits j)) w G.some;
}

-- no debit is above the sum
pub parts : {vc : List ℤ} {debits : List ℕ} {w : ℕ} → Balanced vc debits w → (k : ℕ) → slice_index debits k ≤ w
parts {vc} {debits} {w} B k =
    ⊎_elim (λ h. omega (arith, get_or-eq_default debits 0 h)) (λ h. omega (arith, Σ_part (length debits) (debit_of debits) k h, B.users))
    (le_or_lt (length debits) k)

-- the slices that are written
pub record Slices (vc : List ℤ) (debits : List ℕ) (cells : List ℤ) (marks lacks wants lefts : List ℕ) : Type 0 where
  pub cells_long : length cells ≡ length vc * length debits
  pub marks_long : length marks ≡ length vc * length debits
  pub lacks_long : length lacks ≡ length vc
  pub wants_long : length wants ≡ length debits
  pub lefts_long : length lefts ≡ length debits
  pub no_wants : (j : ℕ) → slice_index wants j ≡ 0
  pub no_lefts : (j : ℕ) → slice_index lefts j ≡ 0

-- ---- the loop: the rows below i are done
pub record Rowed (vc : List ℤ) (debits : List ℕ) (w : ℕ) (cells : List ℤ) (marks lacks wants lefts : List ℕ) (i : ℕ) : Type 0 where
  pub here : i ≤ length vc
  pub cell : (b j : ℕ) → b < i → j < length debits → slice_index_or cells (b * length debits + j) (pos 0) ≡ quot_of vc debits w b j
  pub mark : (b j : ℕ) → b < i → j < length debits → at (length debits) marks b j ≡ min 1 (rest_of vc debits w b j)
  pub low : (b : ℕ) → b < i → slice_index lacks b * w ≤ Σ (length debits) (rest_of vc debits w b)
  pub high : (b : ℕ) → b < i → Σ (length debits) (rest_of vc debits w b) < slice_index lacks b * w + w
  pub sum : (j : ℕ) → j < length debits → slice_index wants j * w + slice_index lefts j ≡ Σ i (λ b. rest_of vc debits w b j)
  pub less : (j : ℕ) → j < length debits → slice_index lefts j < w
  pub few : (j : ℕ) → j < length debits → slice_index wants j ≤ i
  pub cells_long : length cells ≡ length vc * length debits
  pub marks_long : length marks ≡ length vc * length debits
  pub lacks_long : length lacks ≡ length vc
  pub wants_long : length wants ≡ length debits
  pub lefts_long : length lefts ≡ length debits

pub rowed_none : {vc : List ℤ} {debits : List ℕ} {w : ℕ} {cells : List ℤ} {marks lacks wants lefts : List ℕ} → Given vc debits w
    → Slices vc debits cells marks lacks wants lefts → Rowed vc debits w cells marks lacks wants lefts 0
unfolding Σ
rowed_none {w = w} G o = record {
  here = omega arith;
  cell = λ b j h k. absurd (omega arith);
  mark = λ b j h k. absurd (omega arith);
  low = λ b h. absurd (omega arith);
  high = λ b h. absurd (omega arith);
  sum = λ j h. omega (arith, ap (λ (t : ℕ). t * w) (o.no_wants j), o.no_lefts j);
  less = λ j h. omega (arith, o.no_lefts j, G.balanced.some);
  few = λ j h. omega (arith, o.no_wants j);
  cells_long = o.cells_long;
  marks_long = o.marks_long;
  lacks_long = o.lacks_long;
  wants_long = o.wants_long;
  lefts_long = o.lefts_long;
}

module _ {vc : List ℤ} {debits : List ℕ} {w : ℕ} (G : Given vc debits w) {cells : List ℤ} {marks lacks wants lefts : List ℕ} {i : ℕ} (R
    : Rowed vc debits w cells marks lacks wants lefts i) (h : i < length vc) where
  room : i * length debits + length debits ≤ length vc * length debits
  room = omega (arith, mul-le-mul_right (length debits) h)

  pub row_asks : RowAsks (credit_of vc i) debits w cells marks wants lefts (i * length debits)
  row_asks = record {
    value = G.values.small i h;
    some = G.balanced.some;
    most = G.most;
    parts = parts G.balanced;
    room = omega (arith, room, R.cells_long);
    room' = omega (arith, room, R.marks_long);
    wants_long = R.wants_long;
    lefts_long = R.lefts_long;
    few = λ k. ⊎_elim (λ l. omega (arith, get_or-eq_default wants 0 (subst (λ (t : ℕ). t ≤ k) (sym R.wants_long) l)))
        (λ l. omega (arith, R.few k l, G.tall)) (le_or_lt (length debits) k);
    less = λ k. ⊎_elim (λ l. omega (arith, G.balanced.some, get_or-eq_default lefts 0 (subst (λ (t : ℕ). t ≤ k) (sym R.lefts_long) l)))
        (λ l. R.less k l) (le_or_lt (length debits) k);
  }

  pub rowed_more : {cells' : List ℤ} {marks' wants' lefts' : List ℕ} {k : ℕ} → RowFloors (credit_of vc i) debits w cells marks wants lefts
      (i * length debits) cells' marks' wants' lefts' (length debits) k → Rowed vc debits w cells' marks' (slice_set lacks i k) wants' lefts' (i + 1)
  unfolding Σ
  rowed_more {cells'} {marks'} {wants'} {lefts'} {k} F =
      let same : get_or (slice_set lacks i k) i 0 ≡ k = get_or-set_same lacks i k 0 (omega (arith, R.lacks_long)) in record {
        here = omega arith;
        cell = λ b j l p. go b j l p (ℕ_discrete b i);
        mark = λ b j l p. go' b j l p (ℕ_discrete b i);
        low = below_more _ _ (λ b l. rw (other b l) (R.low b l)) (rw same F.low);
        high = below_more _ _ (λ b l. rw (other b l) (R.high b l)) (rw same F.high);
        sum = λ j l. rw (add-one i) (omega (arith, F.sum.done j l, R.sum j l));
        less = λ j l. F.sum.less j l;
        few = λ j l. omega (arith, F.sum.grown j l, R.few j l);
        cells_long = F.cell.long ∙ R.cells_long;
        marks_long = F.mark.long ∙ R.marks_long;
        lacks_long = length-set lacks i k ∙ R.lacks_long;
        wants_long = F.sum.wants_long ∙ R.wants_long;
        lefts_long = F.sum.lefts_long ∙ R.lefts_long;
      }
    where
      other : (b : ℕ) → b < i → slice_index (slice_set lacks i k) b ≡ slice_index lacks b
      other b l = get_or-set_other lacks i b k 0 (λ q. absurd (omega arith))

      go : (b j : ℕ) → b < i + 1 → j < length debits → Dec (b ≡ i)
          → slice_index_or cells' (b * length debits + j) (pos 0) ≡ quot_of vc debits w b j
      go b j l p (yes e) = rw e (F.cell.done j p)
      go b j l p (no f) = let l' : b < i = omega arith in F.cell.before (b * length debits + j) (below l' p) ∙ R.cell b j l' p

      go' : (b j : ℕ) → b < i + 1 → j < length debits → Dec (b ≡ i) → at (length debits) marks' b j ≡ min 1 (rest_of vc debits w b j)
      go' b j l p (yes e) = rw e (F.mark.done j p)
      go' b j l p (no f) = let l' : b < i = omega arith in F.mark.before (b * length debits + j) (below l' p) ∙ R.mark b j l' p

-- ---- a place of the table by its row and its column
pub record Spot (m n p : ℕ) : Type 0 where
  pub row : p / n < m
  pub column : p % n < n
  pub place : p / n * n + p % n ≡ p

pub spot : (m n p : ℕ) → p < m * n → Spot m n p
spot m zero p l = absurd (omega arith)
spot m (suc n) p l = let z : 0 < suc n = omega arith in record { row = (div-lt_iff_lt-mul z).1 l; column = mod-lt p z; place = div-add-mod' p (suc n) }

-- what holds in every row and column holds at every place
pub everywhere : (m n : ℕ) (C : ℕ → Type 0) → ((i j : ℕ) → i < m → j < n → C (i * n + j)) → (p : ℕ) → p < m * n → C p
everywhere m n C f p l = let s = spot m n p l in subst C s.place (f (p / n) (p % n) s.row s.column)

-- ---- the end
pub record Floored (vc : List ℤ) (debits : List ℕ) (w : ℕ) (cells : List ℤ) (marks lacks wants : List ℕ) : Type 0 where
  pub cell : (i j : ℕ) → i < length vc → j < length debits → slice_index_or cells (i * length debits + j) (pos 0) ≡ quot_of vc debits w i j
  pub left : Left (length vc) (length debits) (credit_of vc) (debit_of debits) (quot_of vc debits w) (rest_of vc debits w) marks lacks wants

pub floored : {vc : List ℤ} {debits : List ℕ} {w : ℕ} → Given vc debits w → {cells : List ℤ} {marks lacks wants lefts : List ℕ} (i : ℕ)
    → Rowed vc debits w cells marks lacks wants lefts i → length vc ≤ i → Floored vc debits w cells marks lacks wants
floored {vc} {debits} {w} G {cells} {marks} {lacks} {wants} {lefts} i R h = record {
  cell = λ b j l k. R.cell b j (omega arith) k;
  left = record {
    clear = λ p. ⊎_elim (λ l. omega (arith, get_or-eq_default marks 0 (subst (λ (t : ℕ). t ≤ p) (sym R.marks_long) l))) (λ l. inside p l)
        (le_or_lt (length vc * length debits) p);
    whole = λ b j l k e. omega (arith, R.mark b j (omega arith) k);
    broken = λ b j l k e. omega (arith, R.mark b j (omega arith) k);
    rows = λ b l. want_is (slice_index lacks b) G.balanced.some (row_line (exact G.balanced) b l) (R.low b (omega arith)) (R.high b (omega arith));
    cols = λ j l.
        let s = column j l in
        want_is (slice_index wants j) G.balanced.some (col_line (exact G.balanced) j l) (omega (arith, s)) (omega (arith, s, R.less j l));
  };
}
  where
    all : i ≡ length vc
    all = omega (arith, R.here)

    column : (j : ℕ) → j < length debits → slice_index wants j * w + slice_index lefts j ≡ Σ (length vc) (λ b. rest_of vc debits w b j)
    column j l = R.sum j l ∙ ap (λ (t : ℕ). Σ t (λ b. rest_of vc debits w b j)) all

    inside : (p : ℕ) → p < length vc * length debits → slice_index marks p ≤ 1
    inside = everywhere (length vc) (length debits) (λ p. slice_index marks p ≤ 1) (λ b j l k. omega (arith, R.mark b j (omega arith) k))
