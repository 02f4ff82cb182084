use Rattle.std.proofs.Common.{◌≡◌, ℕ, ◌+◌, ◌<◌, ◌≤◌, T, List, length, get_or, take, set, ℤ, pos, ◌+ℤ◌, ◌-ℤ◌}
use Rattle.std.proofs.Common.{◌*ℤ◌, nat_abs, ◌≤ℤ◌, ◌<ℤ◌, sym, ap, ◌∙◌, ap₂, arith, to_z-of_z, w64, Fits, SFits, rules}
use Rattle.std.specs.Int.Signed.{non_neg}
use Rattle.ints.specs.Bridge.{abs, abs_is, za}
use Rattle.ints.specs.Fill.{filling_none, filling_more, filling_all}
use Rattle.ints.specs.Floor.{floor}
use Rattle.ints.specs.Sums.{sum_ℤ, sum_start, sum_more, sum_take_nonneg, sum_take_rises, sum_take_le, entry_le_sum}
use Rattle.ints.specs.Words.{back}
use Rattle.share.specs.Running.{part, running_share}
use Rattle.share.specs.Filling.{Fillable}
use Rattle.share.specs.OnePart.{floor_none, part_small}
use Rattle.share.proofs.Laws.{length_share, part_at}
use Rattle.share.proofs.fill.Invariants.{Turn}
use Rattle.share.proofs.fill.Goals as goal
use Rattle.share.proofs.fill.Goals.{After-floor_of-upper}

module _ {P W : ℤ} {ws old : List ℤ} (f : Fillable P W ws old) where
  above_zero : pos 0 <ℤ W
  above_zero = omega (za, f.some)

  through_low : (i : ℕ) → pos 0 ≤ℤ sum_ℤ (take i ws)
  through_low i = sum_take_nonneg ws i f.weights

  through_high : (i : ℕ) → sum_ℤ (take i ws) ≤ℤ W
  through_high i = rw f.sum at (sum_take_le ws i f.weights)

  same : length (running_share P ws) ≡ length old
  same = length_share P ws ∙ sym f.long

  start : Turn P W (pos 0) (pos 0) ws old old 0
  start = record {
    sum = sym (sum_start ws);
    floor_is = sym (ap (λ (t : ℤ). floor (P *ℤ t) W) (sum_start ws) ∙ floor_none P W above_zero);
    done = filling_none _ _;
  }

  module _ {through lower : ℤ} {parts : List ℤ} {i : ℕ} (t : Turn P W through lower ws old parts i) (l : i < length ws) where
    next : through +ℤ get_or ws i (pos 0) ≡ sum_ℤ (take (i + 1) ws)
    next = ap (λ (x : ℤ). x +ℤ get_or ws i (pos 0)) t.sum ∙ sym (sum_more ws i (pos 0) l)

    weight_fits : SFits w64 (get_or ws i (pos 0))
    weight_fits = omega (za, f.weights.at i l, entry_le_sum ws i f.weights l, f.sum, f.most)

    next_fits : SFits w64 (through +ℤ get_or ws i (pos 0))
    next_fits = rw next (omega (za, through_low (i + 1), through_high (i + 1), f.most))

    next_cast : T (non_neg (through +ℤ get_or ws i (pos 0))) × Fits w64 (nat_abs (through +ℤ get_or ws i (pos 0)))
    next_cast = rw next (omega (za, through_low (i + 1), through_high (i + 1), f.most))

    asked : (abs P ≤ 100000000000000000) × (nat_abs (through +ℤ get_or ws i (pos 0)) ≤ nat_abs W) × (0 < nat_abs W)
    asked = rw next (
      f.amount,
      omega (za, abs_is (sum_ℤ (take (i + 1) ws)), abs_is W, through_low (i + 1), through_high (i + 1)),
      omega (za, abs_is W, above_zero),
    )

    -- what `floor_of` answers
    upper_is : {q : ℤ} → q ≡ floor (P *ℤ pos (nat_abs (through +ℤ get_or ws i (pos 0)))) (pos (nat_abs W))
        → q ≡ floor (P *ℤ sum_ℤ (take (i + 1) ws)) W
    upper_is e =
        e
        ∙ ap₂ (λ (x y : ℤ). floor (P *ℤ x) y) (ap (λ (x : ℤ). pos (nat_abs x)) next ∙ size (through_low (i + 1))) (size (omega (za, above_zero)))
      where
        size : {x : ℤ} → pos 0 ≤ℤ x → pos (nat_abs x) ≡ x
        size {x} h = omega (za, abs_is x)

    module _ {q : ℤ} (e : q ≡ floor (P *ℤ sum_ℤ (take (i + 1) ws)) W) where
      value : q -ℤ lower ≡ get_or (running_share P ws) i (pos 0)
      unfolding part
      value = ap₂ ◌-ℤ◌ e t.floor_is ∙ sym (rw f.sum at (part_at P ws i))

      value_fits : SFits w64 (q -ℤ lower)
      value_fits = rw (value, part_at P ws i, f.sum) (omega (za, small, f.amount))
        where
          small : abs (part P (sum_ℤ (take i ws)) (sum_ℤ (take (i + 1) ws)) W) ≤ abs P
          small = part_small P (through_low i) (sum_take_rises ws i f.weights l) (through_high (i + 1)) above_zero

      turn : Turn P W (through +ℤ get_or ws i (pos 0)) q ws old (set parts i (q -ℤ lower)) (i + 1)
      turn = record { sum = next; floor_is = e; done = filling_more same t.done (pos 0) (omega (arith, f.long)) value }

-- the machine's reading of two words
asks : {P W : ℤ} {ws old : List ℤ} → SFits w64 P → SFits w64 W → Fillable P W ws old → Fillable (back P) (back W) ws old
asks g h f = rw (to_z-of_z g, to_z-of_z h) f

pub loop-i-init : goal.loop-i-init
loop-i-init c = start (asks c.ranges.p c.ranges.total c.requires)

pub overflow_add-through : goal.overflow_add-through
overflow_add-through c =
    let f = asks c.ranges.p c.ranges.total c.requires in
    let t = c.loop-i.invariant in
    let l = c.loop-i-test.true in
    simp (to_z-of_z, weight_fits f t l) (next_fits f t l)

pub overflow_cast-through : goal.overflow_cast-through
overflow_cast-through c =
    let f = asks c.ranges.p c.ranges.total c.requires in
    let t = c.loop-i.invariant in
    let l = c.loop-i-test.true in
    simp (to_z-of_z, weight_fits f t l, next_fits f t l) (next_cast f t l)

pub floor_of-upper-requires : goal.floor_of-upper-requires
floor_of-upper-requires c =
    let f = asks c.ranges.p c.ranges.total c.requires in
    let t = c.loop-i.invariant in
    let l = c.loop-i-test.true in
    rw (to_z-of_z (weight_fits f t l), to_z-of_z (next_fits f t l)) (asked f t l)

result_is : (c : After-floor_of-upper) → let a = c.args in
    c.floor_of-upper.result ≡ floor (back a.p *ℤ sum_ℤ (take (c.loop-i.i + 1) a.weights.now)) (back a.total)
result_is c =
    let f = asks c.ranges.p c.ranges.total c.requires in
    let t = c.loop-i.invariant in
    let l = c.loop-i-test.true in
    upper_is f t l (rw (to_z-of_z (weight_fits f t l), to_z-of_z (next_fits f t l)) at c.floor_of-upper.ensures)

result_fits : (c : After-floor_of-upper) → SFits w64 c.floor_of-upper.result
result_fits c = search rules

pub overflow_sub-parts : goal.overflow_sub-parts
overflow_sub-parts c =
    let f = asks c.ranges.p c.ranges.total c.requires in
    rw (to_z-of_z (result_fits c)) (value_fits f c.loop-i.invariant c.loop-i-test.true (result_is c))

pub loop-i-preserved : goal.loop-i-preserved
loop-i-preserved c =
    let f = asks c.ranges.p c.ranges.total c.requires in
    let t = c.loop-i.invariant in
    let l = c.loop-i-test.true in
    let e = result_is c in
    rw (to_z-of_z (weight_fits f t l), to_z-of_z (next_fits f t l), to_z-of_z (result_fits c), to_z-of_z (value_fits f t l e)) (turn f t l e)

pub returns : goal.returns
returns c =
    let f = asks c.ranges.p c.ranges.total c.requires in
    rw (to_z-of_z c.ranges.p) at (filling_all (same f) c.loop-i.invariant.done (omega (arith, c.requires.long)))
