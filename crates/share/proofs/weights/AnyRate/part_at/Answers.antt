-- The three products; the low words' difference is what the estimate leaves.
use Rattle.std.proofs.Common.{◌≡◌, ℕ, ◌+◌, ◌-◌, ◌*◌, ◌%◌, ◌^◌, le_trans, refl, ap, arith}
use Rattle.wide.specs.declared.Words.{Words}
use Rattle.wide.specs.Exact.{words}
use Rattle.share.specs.declared.weights.AnyRate.{AnyRate}
use Rattle.share.specs.Rate.{Weight, Near, near, wrapped, divided_is}
use Rattle.share.proofs.weights.AnyRate.part_at.Goals as goal

module _ (k : AnyRate) {t : ℕ} {q n y : Words} (h : Weight t k.w)
    (q_is : q ≡ words (k.fraction * (2 * t))) (n_is : n ≡ words (k.part * t)) (y_is : y ≡ words (q.high * k.w)) where
  close_by : Near (k.part * t) k.w q.high
  close_by = rw q_is (near k.part k.fraction t k.w (omega (arith, k.rated.less)) (le_trans h.0 h.1) k.rated.rounded)

  left : (n.low + (2 ^ 64 - y.low)) % 2 ^ 64 + q.high * k.w ≡ k.part * t
  left =
      let r = (n.low + (2 ^ 64 - y.low)) % 2 ^ 64 in
      let a : n.low ≡ k.part * t % 2 ^ 64 = ap (λ (x : Words). x.low) n_is in
      let b : y.low ≡ q.high * k.w % 2 ^ 64 = ap (λ (x : Words). x.low) y_is in
      wrapped (k.part * t) (q.high * k.w) r close_by.low (omega (arith, close_by.high, h.1)) (omega arith) (omega arith)

pub returns-then-r-self : goal.returns-then-r-self
returns-then-r-self c =
    let k = c.args.self in
    let l = left k c.requires c.multiply-q.ensures c.multiply-n.ensures c.multiply-y.ensures in
    divided_is (k.part * c.args.t) k.w c.multiply-q.result.high _ _ refl refl (omega (arith, l)) c.if-r-self.true

pub returns-else-r-self : goal.returns-else-r-self
returns-else-r-self c =
    let k = c.args.self in
    let l = left k c.requires c.multiply-q.ensures c.multiply-n.ensures c.multiply-y.ensures in
    let N = close_by k c.requires c.multiply-q.ensures c.multiply-n.ensures c.multiply-y.ensures in
    divided_is (k.part * c.args.t) k.w (c.multiply-q.result.high + 1) _ _ refl refl (omega (arith, l, c.if-r-self.false))
    (omega (arith, l, N.high, c.if-r-self.false))
