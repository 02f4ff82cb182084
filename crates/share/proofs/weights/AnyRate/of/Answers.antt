-- Quotient, remainder, and the remainder's fraction. The search proves it too, but where a number is wrong it only gives up.
use Rattle.std.proofs.Common.{◌≡◌, ◌+◌, ◌*◌, ◌%◌, ◌<◌, nat_abs, sym, ap, ◌∙◌, mod-lt, div-add-mod', arith, to_z-of_z}
use Rattle.ints.specs.Bridge.{abs, abs_is}
use Rattle.share.proofs.weights.AnyRate.of.Goals as goal

pub invariant_of-result : goal.invariant_of-result
invariant_of-result c =
    let a = c.args in
    let size = c.unsigned_abs-size.result in
    let e = c.scaled-d.ensures in
    let same : size ≡ abs a.amount = c.unsigned_abs-size.ensures.value ∙ ap nat_abs (to_z-of_z c.ranges.amount) ∙ sym (abs_is a.amount) in
    let q : c.scaled-d.result.quot * a.w + c.scaled-d.result.rem ≡ 9223372036854775808 * (size % a.w) = rw e
    (div-add-mod' (9223372036854775808 * (size % a.w)) a.w) in
    let l : c.scaled-d.result.rem < a.w = rw e (mod-lt (9223372036854775808 * (size % a.w)) c.requires.w) in
    record {
      rated = rw (to_z-of_z c.ranges.amount) (record {
        most = c.requires.amount;
        sum = sym same ∙ sym (div-add-mod' size a.w);
        less = mod-lt size c.requires.w;
        rounded = record { low = omega (arith, q); high = omega (arith, q, l) };
      });
    }
