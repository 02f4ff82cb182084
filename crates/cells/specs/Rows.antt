-- One row's floors: its cells, which of them are broken, the remainders added to the columns' sums, and the row's own sum.
-- A sum of remainders is kept as a number of whole multiples of w and what is left, which is below w.
use Rattle.std.specs.Prelude.{◌≡◌, ℕ, ◌+◌, ◌-◌, ◌*◌, ◌<◌, ◌≤◌, min, List, length, ℤ, pos, ◌*ℤ◌, slice_index}
use Rattle.std.specs.Prelude.{slice_index_or, slice_set}
use Rattle.std.proofs.Math.Path.{refl, ap}
use Rattle.std.proofs.Common.{◌∙◌, arith, add-one, below_none, below_more, length-set, get_or-set_same, get_or-set_other}
use Rattle.ints.specs.Bridge.{abs}
use Rattle.ints.specs.Floor.{floor}
use Rattle.ints.specs.NatSums.{Σ}
use Rattle.ints.specs.Rest.{rest, rest_split}
use Rattle.cells.specs.Fill.{Filled, filled_none, filled_more}

abbrev pub quot_at : ℤ → List ℕ → ℕ → ℕ → ℤ
quot_at v debits w k = floor (v *ℤ pos (slice_index debits k)) (pos w)

abbrev pub rest_at : ℤ → List ℕ → ℕ → ℕ → ℕ
rest_at v debits w k = rest (v *ℤ pos (slice_index debits k)) w

-- r is how often s has w in it
pub record Carried (s w r : ℕ) : Type 0 where
  pub low : r * w ≤ s
  pub high : s < r * w + w
  pub once : r ≤ 1

-- ---- sums of the columns below j: one term more each
pub record Summed (w : ℕ) (f : ℕ → ℕ) (wants lefts wants' lefts' : List ℕ) (j : ℕ) : Type 0 where
  pub done : (k : ℕ) → k < j → slice_index wants' k * w + slice_index lefts' k ≡ slice_index wants k * w + slice_index lefts k + f k
  pub less : (k : ℕ) → k < j → slice_index lefts' k < w
  pub grown : (k : ℕ) → k < j → slice_index wants' k ≤ slice_index wants k + 1
  pub later : (k : ℕ) → j ≤ k → (slice_index wants' k ≡ slice_index wants k) × (slice_index lefts' k ≡ slice_index lefts k)
  pub wants_long : length wants' ≡ length wants
  pub lefts_long : length lefts' ≡ length lefts

pub summed_none : (w : ℕ) (f : ℕ → ℕ) (wants lefts : List ℕ) → Summed w f wants lefts wants lefts 0
summed_none w f wants lefts = record {
  done = below_none _;
  less = below_none _;
  grown = below_none _;
  later = λ k h. (refl, refl);
  wants_long = refl;
  lefts_long = refl;
}

-- the sum s of what was left and the new term, less the c multiples of w that go over
carried : (w c s a b a' b' r : ℕ) → s ≡ b + r → Carried s w c → a' ≡ a + c → b' ≡ s - c * w
    → (a' * w + b' ≡ a * w + b + r) × (b' < w) × (a' ≤ a + 1)
carried w c s a b a' b' r e C g h =
    let p : a' * w ≡ (a + c) * w = ap (λ (t : ℕ). t * w) g in
    (omega (arith, C.low), omega (arith, C.low, C.high), omega (arith, C.once))

pub summed_more : {w : ℕ} {f : ℕ → ℕ} {wants lefts wants' lefts' : List ℕ} {j : ℕ} → Summed w f wants lefts wants' lefts' j → j < length wants'
    → j < length lefts' → (r s c : ℕ) → r ≡ f j → s ≡ slice_index lefts' j + r → Carried s w c
    → Summed w f wants lefts (slice_set wants' j (slice_index wants' j + c)) (slice_set lefts' j (s - c * w)) (j + 1)
summed_more {w} {f} {wants} {lefts} {wants'} {lefts'} {j} S hw hl r s c er es C =
    let now = S.later j (omega arith) in
    let new = carried w c s (slice_index wants' j) (slice_index lefts' j) (slice_index (slice_set wants' j (slice_index wants' j + c)) j)
    (slice_index (slice_set lefts' j (s - c * w)) j) r es C
    (get_or-set_same wants' j (slice_index wants' j + c) 0 hw) (get_or-set_same lefts' j (s - c * w) 0 hl) in
    let e : slice_index_or wants' j 0 * w ≡ slice_index wants j * w = ap (λ (t : ℕ). t * w) now.0 in record {
      done = below_more _ _ (λ k l. rw (other k l, other' k l) (S.done k l)) (omega (arith, new.0, now.1));
      less = below_more _ _ (λ k l. rw (other' k l) (S.less k l)) new.1;
      grown = below_more _ _ (λ k l. rw (other k l) (S.grown k l)) (omega (arith, new.2, now.0));
      later = λ k l. (
        get_or-set_other wants' j k (slice_index wants' j + c) 0 (λ q. absurd (omega arith)) ∙ (S.later k (omega arith)).0,
        get_or-set_other lefts' j k (s - c * w) 0 (λ q. absurd (omega arith)) ∙ (S.later k (omega arith)).1,
      );
      wants_long = length-set wants' j (slice_index wants' j + c) ∙ S.wants_long;
      lefts_long = length-set lefts' j (s - c * w) ∙ S.lefts_long;
    }
  where
    other : (k : ℕ) → k < j → slice_index (slice_set wants' j (slice_index wants' j + c)) k ≡ slice_index wants' k
    other k l = get_or-set_other wants' j k (slice_index wants' j + c) 0 (λ q. absurd (omega arith))

    other' : (k : ℕ) → k < j → slice_index (slice_set lefts' j (s - c * w)) k ≡ slice_index lefts' k
    other' k l = get_or-set_other lefts' j k (s - c * w) 0 (λ q. absurd (omega arith))

-- ---- what the row is given, and what it leaves
pub record RowAsks (v : ℤ) (debits : List ℕ) (w : ℕ) (cells : List ℤ) (marks wants lefts : List ℕ) (base : ℕ) : Type 0 where
  pub value : abs v ≤ 100000000000000000
  pub some : 0 < w
  pub most : w ≤ 100000000000000000
  pub parts : (k : ℕ) → slice_index debits k ≤ w
  pub room : base + length debits ≤ length cells
  pub room' : base + length debits ≤ length marks
  pub wants_long : length wants ≡ length debits
  pub lefts_long : length lefts ≡ length debits
  pub few : (k : ℕ) → slice_index wants k ≤ 257
  pub less : (k : ℕ) → slice_index lefts k < w

pub record RowFloors (v : ℤ) (debits : List ℕ) (w : ℕ) (cells : List ℤ) (marks wants lefts : List ℕ) (base : ℕ) (cells' : List ℤ)
    (marks' wants' lefts' : List ℕ) (j lacks : ℕ) : Type 0 where
  pub here : j ≤ length debits
  pub cell : Filled (pos 0) base (quot_at v debits w) cells cells' j
  pub mark : Filled 0 base (λ k. min 1 (rest_at v debits w k)) marks marks' j
  pub sum : Summed w (rest_at v debits w) wants lefts wants' lefts' j
  pub low : lacks * w ≤ Σ j (rest_at v debits w)
  pub high : Σ j (rest_at v debits w) < lacks * w + w

-- the loop holds what is left of the row's sum too
pub record RowGoing (v : ℤ) (debits : List ℕ) (w : ℕ) (cells : List ℤ) (marks wants lefts : List ℕ) (base : ℕ) (cells' : List ℤ)
    (marks' wants' lefts' : List ℕ) (j lacks left : ℕ) : Type 0 where
  pub row : RowFloors v debits w cells marks wants lefts base cells' marks' wants' lefts' j lacks
  pub total : lacks * w + left ≡ Σ j (rest_at v debits w)
  pub less : left < w
  pub few : lacks ≤ j

pub row_start : {v : ℤ} {debits : List ℕ} {w : ℕ} {cells : List ℤ} {marks wants lefts : List ℕ} {base : ℕ}
    → RowAsks v debits w cells marks wants lefts base → RowGoing v debits w cells marks wants lefts base cells marks wants lefts 0 0 0
unfolding Σ
row_start {v} {debits} {w} {cells} {marks} {wants} {lefts} {base} A = record {
  row = record {
    here = omega arith;
    cell = filled_none (pos 0) base (quot_at v debits w) cells;
    mark = filled_none 0 base (λ k. min 1 (rest_at v debits w k)) marks;
    sum = summed_none w (rest_at v debits w) wants lefts;
    low = omega arith;
    high = omega (arith, A.some);
  };
  total = omega arith;
  less = A.some;
  few = omega arith;
}

module _ {v : ℤ} {debits : List ℕ} {w : ℕ} {cells : List ℤ} {marks wants lefts : List ℕ} {base : ℕ}
    (A : RowAsks v debits w cells marks wants lefts base) {cells' : List ℤ} {marks' wants' lefts' : List ℕ} {j lacks left : ℕ}
    (R : RowGoing v debits w cells marks wants lefts base cells' marks' wants' lefts' j lacks left) (h : j < length debits) where
  rest_less : rest_at v debits w j < w
  rest_less = (rest_split (v *ℤ pos (slice_index debits j)) w A.some).less

  -- what the machine adds stays small
  pub column_sum : slice_index_or lefts' j 0 + rest_at v debits w j < w + w
  column_sum = omega (arith, rest_less, A.less j, (R.row.sum.later j (omega arith)).1)

  pub row_sum : left + rest_at v debits w j < w + w
  row_sum = omega (arith, rest_less, R.less)

  pub column_few : slice_index_or wants' j 0 ≤ 257
  column_few = omega (arith, A.few j, (R.row.sum.later j (omega arith)).0)

  pub row_more : (q : ℤ) (r : ℕ) → q ≡ quot_at v debits w j → r ≡ rest_at v debits w j → (b : ℕ) → b ≡ min 1 r → (c : ℕ)
      → Carried (slice_index lefts' j + r) w c → (d : ℕ) → Carried (left + r) w d
      → RowGoing v debits w cells marks wants lefts base (slice_set cells' (base + j) q) (slice_set marks' (base + j) b)
      (slice_set wants' j (slice_index wants' j + c)) (slice_set lefts' j (slice_index lefts' j + r - c * w)) (j + 1) (lacks + d) (left + r - d * w)
  unfolding Σ
  row_more q r eq er b eb c C d D =
      let t = carried w d (left + r) lacks left (lacks + d) (left + r - d * w) r refl D refl refl in
      let s : (lacks + d) * w + (left + r - d * w) ≡ Σ j (rest_at v debits w) + rest_at v debits w j = omega (arith, t.0, R.total, er) in record {
        row = record {
          here = omega arith;
          cell = filled_more R.row.cell (omega (arith, A.room, R.row.cell.long)) q eq;
          mark = filled_more R.row.mark (omega (arith, A.room', R.row.mark.long)) b (eb ∙ ap (min 1) er);
          sum = summed_more R.row.sum (omega (arith, A.wants_long, R.row.sum.wants_long)) (omega (arith, A.lefts_long, R.row.sum.lefts_long)) r
              (slice_index lefts' j + r) c er refl C;
          low = rw (add-one j) (omega (arith, s));
          high = rw (add-one j) (omega (arith, s, t.1));
        };
        total = rw (add-one j) s;
        less = t.1;
        few = omega (arith, t.2, R.few);
      }
