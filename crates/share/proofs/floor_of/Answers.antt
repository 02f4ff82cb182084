-- A size goes through the natural quotient q and remainder m; below 0 the floor is −q, or one less where m is not 0.
use Rattle.std.proofs.Common.{◌≡◌, refl, ℕ, zero, suc, ◌+◌, ◌≤◌, ltb, ℤ, pos, ◌-ℤ◌, ◌*ℤ◌, ◌∙◌, arith, to_z-of_z}
use Rattle.std.proofs.lemmas.Grind.{common_steps}
use mir.Val.{bool_byte}
use Rattle.ints.specs.Bridge.{up, dn, abs, za, sub#, one#}
use Rattle.ints.specs.Floor.{floor}
use Rattle.ints.specs.Rest.{quot_is}
use Rattle.ints.specs.Words.{back#}
use Rattle.wide.specs.declared.Divided.{Divided}
use Rattle.share.proofs.Signs.{Parts, parts_of, above, whole, broken, word, minus}
use Rattle.share.proofs.floor_of.Goals as goal
use Rattle.share.proofs.floor_of.Goals.{After-from}

-- k is 1 where a remainder m is left over, else 0
below : (p : ℤ) (t w m k : ℕ) (d : Divided ℕ) → Parts (abs p) t w d → up p ≡ 0 → d.rem ≡ m → k ≡ bool_byte (ltb 0 m)
    → (pos 0 -ℤ pos (d.quot + k)) ≡ floor (p *ℤ pos t) (pos w)
below p t w zero k d g z e f = let h : d.quot + k ≡ d.quot = grind (arith, common_steps) in rw h (quot_is (whole p t w g z e))
below p t w (suc m) k d g z e f = one_down ∙ quot_is (broken p t w g z (omega arith))
  where
    one : k ≡ 1
    one = grind (arith, common_steps)

    one_down : (pos 0 -ℤ pos (d.quot + k)) ≡ (pos 0 -ℤ pos d.quot -ℤ pos 1)
    one_down = omega (za, one, sub# (pos 0) (pos (d.quot + k)), sub# (pos 0) (pos d.quot), sub# (pos 0 -ℤ pos d.quot) (pos 1))

known : (c : After-from) → Parts (abs c.args.p) c.args.t c.args.w c.scaled-d.result
known c = parts_of c.ranges.p c.unsigned_abs.ensures.value c.requires.1 c.requires.2 c.scaled-d.ensures

up_small : (c : After-from) → c.scaled-d.result.quot + c.from.result ≤ 100000000000000001
up_small c = let k = (known c).quot_le in grind (arith, common_steps)

pub overflow_sub-result : goal.overflow_sub-result
overflow_sub-result c = let l = up_small c.before.before in simp (word _ l) (minus _ l)

pub returns-then-p-lt0 : goal.returns-then-p-lt0
returns-then-p-lt0 c =
    let b = c.before.before in
    let l = up_small b in
    let z : up c.args.p ≡ 0 = omega (za, back# c.ranges.p, one# c.args.p) in
    simp (word _ l, to_z-of_z, minus _ l) (below c.args.p c.args.t c.args.w _ _ c.scaled-d.result (known b) z refl c.from.ensures)

pub returns-else-p-lt0 : goal.returns-else-p-lt0
returns-else-p-lt0 c =
    let k = known c.before.before.before in
    let l : c.scaled-d.result.quot ≤ 100000000000000001 = omega (arith, k.quot_le) in
    let z : dn c.args.p ≡ 0 = omega (za, back# c.ranges.p) in
    simp (word _ l) (quot_is (above c.args.p c.args.t c.args.w k z))
