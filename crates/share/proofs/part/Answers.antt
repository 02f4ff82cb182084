-- The refusals in their order; past them both floors are no larger than the amount, so their difference is a word.
use Rattle.std.proofs.Common.{◌≡◌, ◌<◌, ◌≤◌, true, false, ℤ, pos, ◌-ℤ◌, ◌*ℤ◌}
use Rattle.std.proofs.Common.{nat_abs, ◌≤ℤ◌, sym, ◌∙◌, le_trans, to_z-of_z, w64, SFits}
use Rattle.ints.specs.Bridge.{abs, abs_is, za, sub#, above#}
use Rattle.ints.specs.Order.{abs_le, ≤_trans}
use Rattle.ints.specs.Range.{outside_false}
use Rattle.ints.specs.Floor.{floor, floor_is, share_small}
use Rattle.share.specs.Running.{part}
use Rattle.share.specs.Answer.{bad_amount, bad_total, bad_sums, answers, refuses, sharing}
use Rattle.share.specs.Limits.{TotalWithin, SumsWithin}
use Rattle.share.proofs.Limits.{sums_within}
use Rattle.share.proofs.part.Goals as goal
use Rattle.share.proofs.part.Goals.{After-floor_of-lower, After-floor_of-upper, Else-bad_sums, Else-outside, Else-outside-2}

module _ (P b t W : ℤ) where
  amount_refused : bad_amount P ≡ true → sharing P b t W ≡ refuses 5 1
  unfolding sharing
  amount_refused e = rw e

  total_refused : bad_amount P ≡ false → bad_total W ≡ true → sharing P b t W ≡ refuses 5 2
  unfolding sharing
  total_refused e f = rw (e, f)

  sums_refused : bad_amount P ≡ false → bad_total W ≡ false → bad_sums b t W ≡ true → sharing P b t W ≡ refuses 5 3
  unfolding sharing
  sums_refused e f g = rw (e, f, g)

  not_refused : bad_amount P ≡ false → bad_total W ≡ false → bad_sums b t W ≡ false → sharing P b t W ≡ answers (part P b t W)
  unfolding sharing
  not_refused e f g = rw (e, f, g)

  -- what the tests leave
  record Limits : Type 0 where
    amount : abs P ≤ 100000000000000000
    total : TotalWithin W
    sums : SumsWithin b t W

  limits : bad_amount P ≡ false → bad_total W ≡ false → bad_sums b t W ≡ false → Limits
  limits e f g =
      let p = outside_false _ _ P e in
      record { amount = abs_le P 100000000000000000 p.below p.above; total = outside_false _ _ W f; sums = sums_within g }

size : (x : ℤ) → pos 0 ≤ℤ x → pos (nat_abs x) ≡ x
size x h = omega (za, abs_is x)

-- ---- a weight sum t within its limits: what `floor_of` asks of it, and the floor is a word
module _ (P : ℤ) {t W : ℤ} (h : abs P ≤ 100000000000000000) (k : pos 0 ≤ℤ t) (j : t ≤ℤ W) (z : pos 1 ≤ℤ W) where
  asked : (abs P ≤ 100000000000000000) × (nat_abs t ≤ nat_abs W) × (0 < nat_abs W)
  asked = (h, omega (za, abs_is t, abs_is W), omega (za, abs_is W))

  floor_small : abs (floor (P *ℤ t) W) ≤ 100000000000000000
  floor_small =
      rw (← size t k, ← size W (omega (za, above# z)))
      (le_trans (share_small P (nat_abs t) (nat_abs W) asked.1 asked.2 (floor_is (P *ℤ pos (nat_abs t)) (nat_abs W) asked.2)) h)

  floor_fits : SFits w64 (floor (P *ℤ t) W)
  floor_fits = omega (za, floor_small)

sub_fits : (x y : ℤ) → abs x ≤ 100000000000000000 → abs y ≤ 100000000000000000 → SFits w64 (x -ℤ y)
sub_fits x y h k = omega (za, sub# x y)

-- ---- at the places of the code
amount_fine : (c : Else-outside) → bad_amount c.args.p ≡ false
amount_fine c = simp (to_z-of_z, c.ranges.p) at (sym c.outside.ensures ∙ c.if-outside.false)

total_fine : (c : Else-outside-2) → bad_total c.args.w ≡ false
total_fine c = simp (to_z-of_z, c.ranges.w) at (sym c.outside-2.ensures ∙ c.if-outside-2.false)

sums_fine : (c : Else-bad_sums) → bad_sums c.args.before c.args.through c.args.w ≡ false
sums_fine c = simp (to_z-of_z, c.ranges.before, c.ranges.through, c.ranges.w) at (sym c.bad_sums.ensures ∙ c.if-bad_sums.false)

fine : (c : Else-bad_sums) → Limits c.args.p c.args.before c.args.through c.args.w
fine c = limits _ _ _ _ (amount_fine c.before.before.before.before) (total_fine c.before.before) (sums_fine c)

pub returns-then-outside : goal.returns-then-outside
returns-then-outside c = sym (amount_refused _ _ _ _ (simp (to_z-of_z, c.ranges.p) at (sym c.outside.ensures ∙ c.if-outside.true)))

pub returns-then-outside-2 : goal.returns-then-outside-2
returns-then-outside-2 c =
    sym (total_refused _ _ _ _ (amount_fine c.before.before) (simp (to_z-of_z, c.ranges.w) at (sym c.outside-2.ensures ∙ c.if-outside-2.true)))

pub returns-then-bad_sums : goal.returns-then-bad_sums
returns-then-bad_sums c =
    sym (sums_refused _ _ _ _ (amount_fine c.before.before.before.before) (total_fine c.before.before)
    (simp (to_z-of_z, c.ranges.before, c.ranges.through, c.ranges.w) at (sym c.bad_sums.ensures ∙ c.if-bad_sums.true)))

pub floor_of-upper-requires : goal.floor_of-upper-requires
floor_of-upper-requires c =
    let f = c.ranges in
    let l = fine c in
    simp (to_z-of_z, f.p, f.through, f.w) (asked c.args.p l.amount (≤_trans l.sums.low l.sums.between) l.sums.high l.total.above)

pub floor_of-lower-requires : goal.floor_of-lower-requires
floor_of-lower-requires c =
    let f = c.ranges in
    let l = fine c.before in
    simp (to_z-of_z, f.p, f.before, f.w) (asked c.args.p l.amount l.sums.low (≤_trans l.sums.between l.sums.high) l.total.above)

-- what the two calls answered
upper_is : (c : After-floor_of-upper) → c.floor_of-upper.result ≡ floor (c.args.p *ℤ c.args.through) c.args.w
upper_is c =
    let l = fine c.before in
    let t = ≤_trans l.sums.low l.sums.between in
    simp (to_z-of_z, c.ranges.p, c.ranges.through, c.ranges.w, size _ t, size _ (≤_trans t l.sums.high)) at c.floor_of-upper.ensures

lower_is : (c : After-floor_of-lower) → c.floor_of-lower.result ≡ floor (c.args.p *ℤ c.args.before) c.args.w
lower_is c =
    let l = fine c.before.before in
    let t = ≤_trans l.sums.low l.sums.between in
    simp (to_z-of_z, c.ranges.p, c.ranges.before, c.ranges.w, size _ l.sums.low, size _ (≤_trans t l.sums.high)) at c.floor_of-lower.ensures

module _ (c : After-floor_of-lower) where
  l : Limits c.args.p c.args.before c.args.through c.args.w
  l = fine c.before.before

  upper_fits : SFits w64 (floor (c.args.p *ℤ c.args.through) c.args.w)
  upper_fits = floor_fits c.args.p l.amount (≤_trans l.sums.low l.sums.between) l.sums.high l.total.above

  lower_fits : SFits w64 (floor (c.args.p *ℤ c.args.before) c.args.w)
  lower_fits = floor_fits c.args.p l.amount l.sums.low (≤_trans l.sums.between l.sums.high) l.total.above

  difference : SFits w64 (floor (c.args.p *ℤ c.args.through) c.args.w -ℤ floor (c.args.p *ℤ c.args.before) c.args.w)
  difference =
      sub_fits (floor (c.args.p *ℤ c.args.through) c.args.w) (floor (c.args.p *ℤ c.args.before) c.args.w)
      (floor_small c.args.p l.amount (≤_trans l.sums.low l.sums.between) l.sums.high l.total.above)
      (floor_small c.args.p l.amount l.sums.low (≤_trans l.sums.between l.sums.high) l.total.above)

pub overflow_sub-result : goal.overflow_sub-result
overflow_sub-result c = simp (upper_is c.before, lower_is c, to_z-of_z, upper_fits c, lower_fits c) (difference c)

pub returns : goal.returns
unfolding part
returns c =
    let b = c.before.before in
    simp (upper_is c.before, lower_is c, to_z-of_z, upper_fits c, lower_fits c, difference c)
    (sym (not_refused _ _ _ _ (amount_fine b.before.before.before.before) (total_fine b.before.before) (sums_fine b)))
