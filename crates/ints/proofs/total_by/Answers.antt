-- What the closure gives of a line is that line's entry of the mapped list.
use Rattle.std.proofs.Common.{◌≡◌, ◌<◌, sym, ap, ◌∙◌, refl, map, length, get_or, pos, ◌+ℤ◌, to_z, w64, SFits}
use Rattle.std.proofs.lemmas.Int.{to_z-of_z}
use Rattle.std.proofs.lemmas.List.{get_or-map, length-map}
use Rattle.ints.specs.Adding.{added_none, added_more, added_fits, added_all}
use Rattle.ints.proofs.total_by.Given.{Over}
use Rattle.ints.proofs.total_by.Goals as goal
use Rattle.ints.proofs.total_by.Goals.{After-amount-sum}

module _ (g : Over) (c : After-amount-sum g) where
  within : c.loop-x.x-index < length (map g.of c.args.lines.now)
  within = rw length-map c.loop-x-test.true

  amount_is : c.amount-sum.result ≡ get_or (map g.of c.args.lines.now) c.loop-x.x-index (pos 0)
  amount_is = c.requires.1.1.1.0 _ _ (record { shown = _; shows = refl; says = record { met = c.amount-sum.ensures } })
      ∙ ap g.of c.x-item.is ∙ sym (get_or-map g.of c.args.lines.now c.loop-x.x-index c.x-item.result (pos 0) c.loop-x-test.true)

  amount_fits : SFits w64 c.amount-sum.result
  amount_fits = record { sfits = c.amount-sum.type_inv }

  sum_fits : SFits w64 (to_z w64 c.loop-x.sum-bits +ℤ c.amount-sum.result)
  sum_fits = added_fits c.loop-x.invariant c.requires.1.1.1.1 within amount_is

pub loop-x-init : goal.loop-x-init
loop-x-init g c = added_none _

pub overflow_add-sum : goal.overflow_add-sum
overflow_add-sum g c = rw (to_z-of_z w64 _ (amount_fits g c)) (sum_fits g c)

pub loop-x-preserved : goal.loop-x-preserved
loop-x-preserved g c = rw (to_z-of_z w64 _ (amount_fits g c), to_z-of_z w64 _ (sum_fits g c)) (added_more c.loop-x.invariant (within g c) (amount_is g c))

pub returns : goal.returns
returns g c = added_all c.loop-x.invariant (rw length-map c.loop-x-test.false)
