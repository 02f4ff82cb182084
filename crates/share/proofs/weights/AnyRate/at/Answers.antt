-- The three answers, of the size's quotient and remainder.
use Rattle.std.proofs.Common.{◌≡◌, ℕ, ◌*◌, ◌≤◌, pos, ◌-ℤ◌, le_trans, pos_of_ne-zero, arith, to_z, to_z-of_z, w64, SFits, rules}
use Rattle.ints.specs.Bridge.{up, abs, za, one#}
use Rattle.ints.specs.Words.{back#}
use Rattle.wide.specs.declared.Divided.{Divided}
use Rattle.wide.specs.Exact.{divided}
use Rattle.share.specs.declared.weights.AnyRate.{AnyRate}
use Rattle.share.specs.Rate.{Weight}
use Rattle.share.proofs.Signs.{Parts, parts, above, whole, broken, word, minus, minus_one}
use Rattle.share.proofs.weights.AnyRate.at.Goals as goal

module _ (k : AnyRate) {t : ℕ} {d : Divided ℕ} (h : Weight t k.w) (e : d ≡ divided (abs k.amount * t) k.w) where
  known : Parts (abs k.amount) t k.w d
  known = parts (abs k.amount) t k.w d h.0 (omega (arith, k.rated.less)) e

  small : d.quot ≤ 100000000000000000
  small = le_trans known.quot_le k.rated.most

  word_is : to_z w64 d.quot ≡ pos d.quot
  word_is = word d.quot (omega (arith, small))

  minus_fits : SFits w64 (pos 0 -ℤ pos d.quot)
  minus_fits = minus d.quot (omega (arith, small))

pub overflow_cast-q : goal.overflow_cast-q
overflow_cast-q c = omega (za, small c.args.self c.requires c.size_at-d.ensures)

pub overflow_sub-result : goal.overflow_sub-result
overflow_sub-result c = simp (word_is c.args.self c.requires c.size_at-d.ensures) (minus_fits c.args.self c.requires c.size_at-d.ensures)

pub overflow_sub-result-else-d-eq0 : goal.overflow_sub-result-else-d-eq0
overflow_sub-result-else-d-eq0 c = simp (word_is c.args.self c.requires c.size_at-d.ensures) (minus_fits c.args.self c.requires c.size_at-d.ensures)

pub overflow_sub-result-else-d-eq0-2 : goal.overflow_sub-result-else-d-eq0-2
overflow_sub-result-else-d-eq0-2 c =
    let k = c.args.self in
    simp (word_is k c.requires c.size_at-d.ensures, to_z-of_z, minus_fits k c.requires c.size_at-d.ensures)
    (minus_one c.size_at-d.result.quot (small k c.requires c.size_at-d.ensures))

pub returns-then-self-ge0 : goal.returns-then-self-ge0
returns-then-self-ge0 c =
    let k = c.args.self in
    let f : SFits w64 k.amount = search rules in
    simp (word_is k c.requires c.size_at-d.ensures)
    (above k.amount c.args.t k.w (known k c.requires c.size_at-d.ensures) (omega (za, back# f)))

pub returns-then-d-eq0 : goal.returns-then-d-eq0
returns-then-d-eq0 c =
    let k = c.args.self in
    let f : SFits w64 k.amount = search rules in
    let z : up k.amount ≡ 0 = omega (za, back# f, one# k.amount) in
    simp (word_is k c.requires c.size_at-d.ensures, to_z-of_z, minus_fits k c.requires c.size_at-d.ensures)
    (whole k.amount c.args.t k.w (known k c.requires c.size_at-d.ensures) z c.if-d-eq0.true)

pub returns-else-d-eq0 : goal.returns-else-d-eq0
returns-else-d-eq0 c =
    let k = c.args.self in
    let f : SFits w64 k.amount = search rules in
    let z : up k.amount ≡ 0 = omega (za, back# f, one# k.amount) in
    simp (
      word_is k c.requires c.size_at-d.ensures,
      to_z-of_z,
      minus_fits k c.requires c.size_at-d.ensures,
      minus_one c.size_at-d.result.quot (small k c.requires c.size_at-d.ensures),
    )
    (broken k.amount c.args.t k.w (known k c.requires c.size_at-d.ensures) z (pos_of_ne-zero c.if-d-eq0.false))
