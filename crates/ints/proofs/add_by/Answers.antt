-- The entry that a line's amount is added to is still as it was; the amount is what the closure gives of the line.
use Rattle.std.proofs.Common.{◌≡◌, refl, sym, ap, ap₂, ◌∙◌, ℕ, ◌+◌, ◌<◌, List, length, get_or, set, ℤ, pos, ◌+ℤ◌}
use Rattle.std.proofs.Common.{arith, rules, w64, SFits}
use Rattle.std.proofs.lemmas.Int.{to_z-of_z}
use Rattle.ints.specs.Adding.{sums, Addable, length_sums, sum_at}
use Rattle.ints.specs.Fill.{Filling, filling_next, filling_more, filling_all}
use Rattle.ints.proofs.add_by.Given.{Over}
use Rattle.ints.proofs.add_by.Goals as goal
use Rattle.ints.proofs.add_by.Goals.{After-out-1}

module _ {T : Type 0} {of : T → ℤ} {entries now : List ℤ} {lines : List T} {i : ℕ} {x : T} {y : ℤ} (a : Addable of entries lines)
    (f : Filling (sums of entries lines) entries now i) (h : i < length lines) (e : x ≡ get_or lines i x) (t : y ≡ of x) where
  inside : i < length entries
  inside = omega (arith, a.as_many)

  same : length (sums of entries lines) ≡ length entries
  same = length_sums of entries lines a.as_many

  sum_is : get_or now i (pos 0) +ℤ y ≡ get_or (sums of entries lines) i (pos 0)
  sum_is = ap₂ ◌+ℤ◌ (filling_next same f (pos 0) inside) (t ∙ ap of e) ∙ sym (sum_at of entries lines a.as_many i x inside)

  fits : SFits w64 (get_or now i (pos 0) +ℤ y)
  fits = rw sum_is (a.fits i inside)

  more : Filling (sums of entries lines) entries (set now i (get_or now i (pos 0) +ℤ y)) (i + 1)
  more = filling_more same f (pos 0) inside sum_is

module _ (g : Over) (c : After-out-1 g) where
  amount_is : c.amount.result ≡ g.of c.index-lines-i.result
  amount_is = c.requires.1.1.1.0 _ _ (record { shown = _; shows = refl; says = record { met = c.amount.ensures } })

  amount_fits : SFits w64 c.amount.result
  amount_fits = record { sfits = c.amount.type_inv }

  entry_fits : SFits w64 (get_or c.loop-i.out c.loop-i.i (pos 0))
  entry_fits = search rules

  sum_fits : SFits w64 (get_or c.loop-i.out c.loop-i.i (pos 0) +ℤ c.amount.result)
  sum_fits = fits c.requires.1.1.1.1 c.loop-i.invariant c.loop-i-test.true c.index-lines-i.is amount_is

pub overflow_add-out : goal.overflow_add-out
overflow_add-out g c = rw (to_z-of_z w64 _ (entry_fits g c), to_z-of_z w64 _ (amount_fits g c)) (sum_fits g c)

pub loop-i-preserved : goal.loop-i-preserved
loop-i-preserved g c =
    rw (to_z-of_z w64 _ (entry_fits g c), to_z-of_z w64 _ (amount_fits g c), to_z-of_z w64 _ (sum_fits g c))
    (more c.requires.1.1.1.1 c.loop-i.invariant c.loop-i-test.true c.index-lines-i.is (amount_is g c))

pub returns : goal.returns
returns g c =
    let many = c.requires.1.1.1.1.as_many in
    filling_all (length_sums g.of c.args.out.now c.args.lines.now many) c.loop-i.invariant (omega (arith, many))
