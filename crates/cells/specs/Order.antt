-- From marks that are first by list order to the largest table.
use Rattle.std.specs.Prelude.{◌≡◌, ℕ, ◌+◌, ◌-◌, ◌*◌, ◌<◌, ◌≤◌, List, length, ℤ, pos, ◌+ℤ◌, ◌-ℤ◌}
use Rattle.std.specs.Prelude.{◌*ℤ◌, ◌≤ℤ◌, slice_index, slice_index_or, refl}
use Rattle.std.proofs.Common.{sym, ap, ◌∙◌, subst, ⊎_elim, arith, zero-add}
use Rattle.std.proofs.Math.ListN.{get_or-eq_default}
use Rattle.ints.specs.Bridge.{up, za, add#, sub#, eq_in}
use Rattle.ints.specs.Floor.{floor}
use Rattle.ints.specs.Order.{≤_refl}
use Rattle.ints.specs.NatSums.{Σ, le_or_lt}
use Rattle.ints.specs.Rest.{Split}
use Rattle.ints.specs.Sums.{sum_ℤ, Σ<}
use Rattle.rules.specs.Table.{Cell, rounded_down, rounded_up, cell_at, Table, Largest}
use Rattle.cells.specs.Marks.{at, below, kind_then}
use Rattle.cells.specs.Kept.{Kept}
use Rattle.cells.specs.Place.{Placed}
use Rattle.cells.specs.First.{mk, Other, First, Led}
use Rattle.cells.specs.Naturals.{Naturals}
use Rattle.cells.specs.Floors.{Balanced, Floored, credit_of, debit_of, quot_of, rest_of, exact, everywhere}
use Rattle.cells.specs.Finish.{Fillable, written_long, written_debit, written_sum, given, Posted}
use Rattle.cells.specs.Finish.{placed_after, Marked, line_sum, row_marks, col_marks, table}

-- what a list holds above the floors
abbrev pub above : List ℤ → List ℤ → ℕ → ℕ
above cells other p = up (slice_index_or other p (pos 0) -ℤ slice_index_or cells p (pos 0))

up_is : (v q : ℤ) (k : ℕ) → v ≡ q +ℤ pos k → up (v -ℤ q) ≡ k
up_is v q k e = let d : v -ℤ q ≡ pos k = omega (za, eq_in e, add# q (pos k), sub# v q) in ap up d

-- ---- a cell v of floor q, where r is left over: what it holds above the floor
record Extra (q : ℤ) (r : ℕ) (v : ℤ) : Type 0 where
  most : up (v -ℤ q) ≤ 1
  value : v ≡ q +ℤ pos (up (v -ℤ q))
  whole : r ≡ 0 → up (v -ℤ q) ≡ 0

extra_is : (q v : ℤ) (r k : ℕ) → v ≡ q +ℤ pos k → k ≤ 1 → (r ≡ 0 → k ≡ 0) → Extra q r v
extra_is q v r k e l z =
    let u = up_is v q k e in
    record { most = omega (arith, u); value = e ∙ ap (λ (t : ℕ). q +ℤ pos t) (sym u); whole = λ n. u ∙ z n }

extra : {x : ℤ} {w r : ℕ} (q v : ℤ) → Split x w (floor x (pos w)) r → q ≡ floor x (pos w) → Cell x (pos w) v → Extra q r v
extra {x} {w} {r} q v s f (rounded_down e) = extra_is q v r 0 (omega (za, eq_in e, eq_in f, add# q (pos 0))) (omega arith) (λ z. refl)
extra {x} {w} {r} q v s f (rounded_up e broken) =
    extra_is q v r 1 (omega (za, eq_in e, eq_in f, add# q (pos 1), add# (floor x (pos w)) (pos 1))) (omega arith)
    (λ z. absurd (broken (omega (za, eq_in s.sum, z, add# (floor x (pos w) *ℤ pos w) (pos r)))))

-- the marks of a line are what its floors leave of its total
line_left : (n : ℕ) (t q : ℕ → ℤ) (b : ℕ → ℕ) (v : ℤ) (k : ℕ) → ((j : ℕ) → j < n → t j ≡ q j +ℤ pos (b j)) → Σ< n t ≡ v
    → v ≡ Σ< n q +ℤ pos k → Σ n b ≡ k
line_left n t q b v k h e f =
    let g : Σ< n q +ℤ pos (Σ n b) ≡ Σ< n q +ℤ pos k = sym (line_sum n t q b h) ∙ e ∙ f in
    omega (za, eq_in g, add# (Σ< n q) (pos (Σ n b)), add# (Σ< n q) (pos k))

module _ {vc vd : List ℤ} {debits : List ℕ} {w : ℕ} (B : Balanced vc debits w) (long : length debits ≡ length vd) (debit : (j : ℕ) → j < length vd
    → slice_index_or vd j (pos 0) ≡ pos (debit_of debits j)) (sum : sum_ℤ vd ≡ pos w)
    {cells : List ℤ} {marks lacks wants : List ℕ} (F : Floored vc debits w cells marks lacks wants) {ys : List ℕ} (P
    : Placed (length vc) (length debits) marks lacks wants ys) where
  -- ---- another table's marks
  module _ (other : List ℤ) (T : Table vc vd other) where
    holds : (i j : ℕ) → i < length vc → j < length debits → Extra (cell_at (length debits) cells i j) (rest_of vc debits w i j)
        (cell_at (length debits) other i j)
    holds i j h k =
        let k' : j < length vd = subst (λ (t : ℕ). j < t) long k in
        let c : Cell (credit_of vc i *ℤ pos (debit_of debits j)) (pos w) (cell_at (length debits) other i j) =
        rw (debit j k', sum, sym long) at (T.cell i j h k') in
        extra (cell_at (length debits) cells i j) (cell_at (length debits) other i j) ((exact B).split i j h k) (F.cell i j h k) c

    value : (i j : ℕ) → i < length vc → j < length debits
        → cell_at (length debits) other i j ≡ quot_of vc debits w i j +ℤ pos (above cells other (i * length debits + j))
    value i j h k = (holds i j h k).value ∙ ap (λ (q : ℤ). q +ℤ pos (above cells other (i * length debits + j))) (F.cell i j h k)

    pub other_marks : Other (length vc) (length debits) ys (above cells other)
    other_marks = record {
      most = λ i j h k. (holds i j h k).most;
      whole = λ i j h k z. (holds i j h k).whole (F.left.whole i j h k (omega (arith, P.kind.whole (i * length debits + j))));
      rows = λ i h.
          line_left (length debits) (λ j. cell_at (length debits) other i j) (λ j. quot_of vc debits w i j) (λ j. above cells other (i * length debits + j))
          (credit_of vc i) (slice_index lacks i) (λ j k. value i j h k) (rw long (T.row i h)) (F.left.rows i h) ∙ sym (row_marks F P i h);
      cols = λ j k.
          let k' : j < length vd = subst (λ (t : ℕ). j < t) long k in
          line_left (length vc) (λ i. cell_at (length debits) other i j) (λ i. quot_of vc debits w i j) (λ i. above cells other (i * length debits + j))
          (pos (debit_of debits j)) (slice_index wants j) (λ i h. value i j h k) (rw long (T.column j k' ∙ debit j k')) (F.left.cols j k)
          ∙ sym (col_marks F P j k);
    }

    at_place : (p : ℕ) → p < length vc * length debits → slice_index_or other p (pos 0) ≡ slice_index_or cells p (pos 0) +ℤ pos (above cells other p)
    at_place = everywhere (length vc) (length debits) (λ p. slice_index_or other p (pos 0) ≡ slice_index_or cells p (pos 0) +ℤ pos (above cells other p))
        (λ i j h k. (holds i j h k).value)

    -- past its end a list holds 0
    beyond : (p : ℕ) → length vc * length debits ≤ p → slice_index_or other p (pos 0) ≡ pos 0
    beyond p h = get_or-eq_default other (pos 0) (omega (arith, T.size, ap (λ (t : ℕ). length vc * t) long))

  -- ---- the largest table
  pub largest : {zs : List ℕ} → First (length vc) (length debits) ys zs (length vc * length debits)
      → Placed (length vc) (length debits) marks lacks wants zs → (out : List ℤ) → Marked vc debits w zs out
      → length out ≡ length vc * length debits → Largest (Table vc vd) out
  largest {zs} L P' out put l = record {
    table = T';
    first = λ other T p same. ⊎_elim (λ h. rw (beyond other T p h, beyond out T' p h) (≤_refl (pos 0)))
        (λ h. inside other T p same h) (le_or_lt (length vc * length debits) p);
  }
    where
      T' : Table vc vd out
      T' = table B long debit sum F P' out put l

      ours : (p : ℕ) → p < length vc * length debits → slice_index_or out p (pos 0) ≡ slice_index_or cells p (pos 0) +ℤ pos (mk zs p)
      ours = everywhere (length vc) (length debits) (λ p. slice_index_or out p (pos 0) ≡ slice_index_or cells p (pos 0) +ℤ pos (mk zs p))
          (λ i j h k. put i j h k ∙ ap (λ (q : ℤ). q +ℤ pos (mk zs (i * length debits + j))) (sym (F.cell i j h k)))

      inside : (other : List ℤ) → Table vc vd other → (p : ℕ)
          → ((q : ℕ) → q < p → slice_index_or other q (pos 0) ≡ slice_index_or out q (pos 0)) → p < length vc * length debits
          → slice_index_or other p (pos 0) ≤ℤ slice_index_or out p (pos 0)
      inside other T p same h =
          let le : above cells other p ≤ mk zs p = L.first (above cells other) (other_marks other T) p h
          (λ q k. up_is (slice_index_or other q (pos 0)) (slice_index_or cells q (pos 0)) (mk zs q) (same q k ∙ ours q (omega arith))) in
          omega (
            za,
            eq_in (at_place other T p h),
            eq_in (ours p h),
            add# (slice_index_or cells p (pos 0)) (pos (above cells other p)),
            add# (slice_index_or cells p (pos 0)) (pos (mk zs p)),
          )

-- the pass keeps what was placed
placed_led : {m n : ℕ} {xs wr wc ys zs : List ℕ} → Placed m n xs wr wc ys → Led m n ys zs → Placed m n xs wr wc zs
placed_led P D = record { rows = λ i h. D.rows i h ∙ P.rows i h; cols = λ j h. D.cols j h ∙ P.cols j h; kind = kind_then P.kind D.kind }

-- ---- all of `fill`, of the largest table
module _ {vc vd : List ℤ} {debits debits' : List ℕ} {w : ℕ} (A : Fillable vc vd) (e : length debits ≡ length vd) (N
    : Naturals vd debits debits' (length vd) w) {cells : List ℤ} {marks lacks wants marks' lacks' wants' ys : List ℕ} (F
    : Floored vc debits' w cells marks lacks wants) (l : length cells ≡ length vc * length vd) {m n : ℕ} (a : m ≡ length vc) (b : n ≡ length vd) (K
    : Kept m n marks lacks wants marks' lacks' wants') {m' n' : ℕ} (a' : m' ≡ length vc) (b' : n' ≡ length vd) (P
    : Placed m' n' marks' lacks' wants' ys) where
  long : length debits' ≡ length vd
  long = written_long A e N

  size : length cells ≡ length vc * length debits'
  size = l ∙ ap (λ (t : ℕ). length vc * t) (sym long)

  placed : Placed (length vc) (length debits') marks lacks wants ys
  placed = placed_after (rw (a, b ∙ sym long) at K) (rw (a', b' ∙ sym long) at P)

  put : (zs : List ℕ) (out : List ℤ) → Posted cells zs out (length cells) → Marked vc debits' w zs out
  put zs out Q i j h k =
      (rw zero-add at (Q.done (i * length debits' + j) (subst (λ (t : ℕ). i * length debits' + j < t) (sym size) (below h k))))
      ∙ ap (λ (t : ℤ). t +ℤ pos (at (length debits') zs i j - 1)) (F.cell i j h k)

  pub laid_largest : {zs : List ℕ} {m'' n'' : ℕ} → m'' ≡ length vc → n'' ≡ length vd → Led m'' n'' ys zs → (out : List ℤ)
      → Posted cells zs out (length cells) → Largest (Table vc vd) out
  laid_largest {zs} a'' b'' D out Q =
      let D' : Led (length vc) (length debits') ys zs = rw (a'', b'' ∙ sym long) at D in
      largest (given A e N).balanced long (written_debit A e N) (written_sum A e N) F placed D'.first (placed_led placed D') out
      (put zs out Q) (Q.long ∙ size)
