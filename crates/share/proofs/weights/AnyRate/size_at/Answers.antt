-- A product of one word as it stands; else the whole's share and the part's.
use Rattle.std.proofs.Common.{◌≡◌, ℕ, ◌+◌, ◌*◌, ◌<◌, ◌≤◌, refl, ap, mod-lt, div-add-mod', arith}
use Rattle.ints.specs.Bridge.{abs}
use Rattle.wide.specs.declared.Divided.{Divided}
use Rattle.wide.specs.Exact.{divided}
use Rattle.share.specs.declared.weights.AnyRate.{AnyRate}
use Rattle.share.specs.Rate.{Weight, share_le, divided_is}
use Rattle.share.proofs.weights.AnyRate.size_at.Goals as goal

module _ (k : AnyRate) {t : ℕ} {d : Divided ℕ} (h : Weight t k.w) (e : d ≡ divided (k.part * t) k.w) where
  sum : d.quot * k.w + d.rem ≡ k.part * t
  sum = rw e (div-add-mod' (k.part * t) k.w)

  positive : 0 < k.w
  positive = omega (arith, k.rated.less)

  small : d.rem < k.w
  small = rw e (mod-lt (k.part * t) positive)

  quot_le : k.whole * t + d.quot ≤ abs k.amount
  quot_le = share_le (abs k.amount) k.whole k.part k.w t d.quot positive h.0 k.rated.sum (omega (arith, sum))

pub overflow_add-result : goal.overflow_add-result
overflow_add-result c = let k = c.args.self in omega (arith, quot_le k c.requires c.part_at-d.ensures, k.rated.most)

pub returns : goal.returns
returns c =
    let k = c.args.self in
    let s = sum k c.requires c.part_at-d.ensures in
    divided_is _ _ _ _ _ refl refl (omega (arith, s, ap (λ (n : ℕ). n * c.args.t) k.rated.sum)) (small k c.requires c.part_at-d.ensures)
