-- The quotient fits a word exactly where the product's high word is below the divisor.
use Rattle.std.proofs.Common.{◌≡◌, ℕ, ◌+◌, ◌*◌, ◌/◌, ◌^◌, ◌<◌, ◌≤◌, sym, ap, ◌∙◌, subst}
use Rattle.std.proofs.Common.{lt_of_le_of_lt, div-lt_iff_lt-mul, pos_of_ne-zero, div-add-mod', le-div_iff_mul-le, div-le_self, arith, w64, Fits, rules, Ok}
use Rattle.wide.specs.declared.Words.{Words}
use Rattle.wide.specs.Exact.{divided, ratio, words}
use Rattle.wide.proofs.Laws.{ratio_by_zero, ratio_exact, ratio_over}
use Rattle.wide.proofs.quotient.of_product.Goals as goal

-- a number by its two words
number : (n : ℕ) (w : Words) → w ≡ words n → w.high * 2 ^ 64 + w.low ≡ n
number n w e = rw e (div-add-mod' n (2 ^ 64))

one_word : (n : ℕ) (w : Words) → w ≡ words n → w.high ≡ 0 → w.low ≡ n
one_word n w e z = let k = number n w e in omega (arith, ap (λ (h : ℕ). h * 2 ^ 64) z)

fits : (n c : ℕ) (w : Words) → w ≡ words n → w.high < c → n / c < 2 ^ 64
fits n c w e h =
    let z : 0 < c = omega arith in
    let k : n / 2 ^ 64 < c = rw e at h in
    (div-lt_iff_lt-mul z).1 (omega arith)

over : (n c : ℕ) (w : Words) → w ≡ words n → 0 < c → c ≤ w.high → 2 ^ 64 ≤ n / c
over n c w e z h =
    let k : c ≤ n / 2 ^ 64 = rw e at h in
    (le-div_iff_mul-le z).1 (omega arith)

pub returns-then-c-eq0 : goal.returns-then-c-eq0
returns-then-c-eq0 c = sym (ap (λ (n : ℕ). ratio c.args.a c.args.b n) c.if-c-eq0.true ∙ ratio_by_zero c.args.a c.args.b)

pub returns-then-n-eq0 : goal.returns-then-n-eq0
returns-then-n-eq0 c =
    let a = c.args in
    let low = c.multiply-n.result.low in
    let e : low ≡ a.a * a.b = one_word (a.a * a.b) c.multiply-n.result c.multiply-n.ensures c.if-n-eq0.true in
    let f : Fits w64 low = search rules in
    let k : a.a * a.b / a.c < 2 ^ 64 = subst (λ (n : ℕ). n / a.c < 2 ^ 64) e (lt_of_le_of_lt (div-le_self low a.c) f.fits) in
    sym (ratio_exact a.a a.b a.c (pos_of_ne-zero c.if-c-eq0.false) k ∙ ap (λ (n : ℕ). Ok (divided n a.c)) (sym e))

pub returns-then-n-c : goal.returns-then-n-c
returns-then-n-c c =
    let a = c.args in
    let e = number (a.a * a.b) c.multiply-n.result c.multiply-n.ensures in
    sym
    (ratio_exact a.a a.b a.c (pos_of_ne-zero c.if-c-eq0.false) (fits (a.a * a.b) a.c c.multiply-n.result c.multiply-n.ensures c.if-n-c.true)
    ∙ ap Ok (sym (c.divide.ensures ∙ ap (λ (n : ℕ). divided n a.c) e)))

pub returns-else-n-c : goal.returns-else-n-c
returns-else-n-c c =
    let a = c.args in
    let z = pos_of_ne-zero c.if-c-eq0.false in
    sym (ratio_over a.a a.b a.c z (over (a.a * a.b) a.c c.multiply-n.result c.multiply-n.ensures z c.if-n-c.false))
