-- t is at most w, so the quotient of a × t by w is at most a and fits a word.
use Rattle.std.proofs.Common.{◌≡◌, ℕ, ◌*◌, ◌/◌, ◌^◌, ◌<◌, ◌≤◌}
use Rattle.std.proofs.Common.{lt_of_le_of_lt, div-lt_iff_lt-mul, mul-le-mul_left, mul-lt-mul_of_pos_right, ◌∙◌, Ok}
use Rattle.wide.specs.Exact.{divided}
use Rattle.wide.proofs.Laws.{ratio_exact}
use Rattle.share.proofs.scaled.Goals as goal
use Rattle.share.proofs.scaled.Goals.{After-of_product}

quot_lt : (a t w : ℕ) → a < 2 ^ 64 → t ≤ w → 0 < w → a * t / w < 2 ^ 64
quot_lt a t w h k z = (div-lt_iff_lt-mul z).1 (lt_of_le_of_lt (mul-le-mul_left a k) (mul-lt-mul_of_pos_right h z))

exact : (c : After-of_product) → c.of_product.result ≡ Ok (divided (c.args.a * c.args.t) c.args.w)
exact c =
    let a = c.args in
    c.of_product.ensures ∙ ratio_exact a.a a.t a.w c.requires.1
    (quot_lt a.a a.t a.w c.ranges.a.fits c.requires.0 c.requires.1)

pub unwrap-requires : goal.unwrap-requires
unwrap-requires c = rw (exact c)

pub returns : goal.returns
returns c = let e = exact c.before in let u = c.unwrap.ensures in cc
