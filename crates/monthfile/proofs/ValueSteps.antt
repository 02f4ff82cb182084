-- Reading's verdict (format's `scan`) over the bytes of a value. Assumes nothing.
use Rattle.std.proofs.Common.{ℕ, zero, suc, ◌+◌, ◌≡◌, refl, ap, sym, ◌∙◌, Bool, true, false, cond, List, [], ◌∷◌, drop, arith, add-zero, Err}
use Rattle.std.proofs.Math.Numerals.{one-add}
use Rattle.std.proofs.lemmas.Bool.{false≢true}
use Rattle.std.proofs.lemmas.Bool.Decides.{nat_tests}
use borrow.Author.Tests.{eqb-true, ne_eqb, lt-ltb}
use Rattle.format.specs.Bytes.{lf, cr, comma, minus, is_digit, is_lead, is_digit_lem}
use Rattle.format.specs.Machine.{Item, Part, fresh, signed, nought, digits, stuck, value, ends, in_value, step}
use Rattle.format.specs.Reading.{scan}
use Rattle.format.specs.declared.Fault.TheVariants.{Faulty}
use Rattle.monthfile.specs.Cursor.{byte_here, lead_here, digits_here}

-- two parts that take the byte alike
like : (p q : Part) (k i b : ℕ) (f : List Item) (u : List ℕ) → in_value p k f b ≡ in_value q k f b
    → scan (value p k f) i (b ∷ u) ≡ scan (value q k f) i (b ∷ u)
unfolding scan step
like p q k i b f u e = rw e

-- a digit ends no value
digit_ends : (k : ℕ) (f : List Item) (b : ℕ) → is_digit b ≡ true → ends k f b ≡ stuck
digit_ends zero f b e =
    let d = (is_digit_lem b).0 e in
    let n = ne_eqb b lf (λ x. omega (arith, d.low)) in
    let c = ne_eqb b cr (λ x. omega (arith, d.low)) in
    rw (n, c)
digit_ends (suc k) f b e = let d = (is_digit_lem b).0 e in let n = ne_eqb b comma (λ x. omega (arith, d.low)) in rw n

full : (k : ℕ) (f : List Item) (b : ℕ) (q : Bool) → is_digit b ≡ q → in_value (digits 18) k f b ≡ in_value nought k f b
unfolding in_value
full k f b true e = rw e (sym (digit_ends k f b e))
full k f b false e = rw e

-- after n digits m more at most: where they end the value is as after a lone 0
digits_on : (k : ℕ) (f : List Item) (m n i : ℕ) (u : List ℕ) → n + m ≡ 18
    → scan (value (digits n) k f) i u ≡ scan (value nought k f) (i + digits_here m u) (drop (digits_here m u) u)
unfolding scan step in_value
digits_on k f zero n i [] e = rw add-zero
digits_on k f zero n i (b ∷ u) e =
    let h : n ≡ 18 = omega arith in
    rw (h, add-zero) (like (digits 18) nought k i b f u (full k f b (is_digit b) refl))
digits_on k f (suc m) n i [] e = rw add-zero
digits_on k f (suc m) n i (b ∷ u) e = by (is_digit b) refl (λ h. digits_on k f m (n + 1) (i + 1) u h)
  where
    j : ℕ
    j = digits_here m u

    by : (q : Bool) → is_digit b ≡ q
        → (n + 1 + m ≡ 18 → scan (value (digits (n + 1)) k f) (i + 1) u ≡ scan (value nought k f) (i + 1 + j) (drop j u))
        → scan (value (digits n) k f) i (b ∷ u) ≡ scan (value nought k f) (i + cond q (1 + j) 0) (drop (cond q (1 + j) 0) (b ∷ u))
    by true q g =
        let l = lt-ltb n 18 (omega arith) in
        let c : i + 1 + j ≡ i + (1 + j) = omega arith in
        let d : drop j u ≡ drop (1 + j) (b ∷ u) = rw one-add refl in
        rw (q, l) (g (omega arith) ∙ ap (λ (x : ℕ). scan (value nought k f) x (drop j u)) c ∙ ap (scan (value nought k f) (i + (1 + j))) d)
    by false q g = rw (q, add-zero)

lead_digit : (b : ℕ) → is_lead b ≡ true → is_digit b ≡ true
lead_digit b e = grind (arith, nat_tests)

module _ (k i : ℕ) (f : List Item) where
  -- the first byte of a value: a 0 by itself, a sign, or none
  pub nought_on : (u : List ℕ) → byte_here 48 u ≡ true → scan (value fresh k f) i u ≡ scan (value nought k f) (i + 1) (drop 1 u)
  unfolding scan step in_value
  nought_on [] e = absurd (false≢true e)
  nought_on (b ∷ u) e = rw (eqb-true b 48 e)

  pub sign_on : (u : List ℕ) (q : Bool) → q ≡ byte_here minus u → byte_here 48 u ≡ false
      → scan (value fresh k f) i u ≡ scan (value signed k f) (i + cond q 1 0) (drop (cond q 1 0) u)
  unfolding scan step in_value
  sign_on [] q h e = rw (h, add-zero)
  sign_on (b ∷ u) true h e = rw (sym h)
  sign_on (b ∷ u) false h e = rw (sym h, e, add-zero)

  -- the digits, of which the first is not 0
  pub lead_on : (u : List ℕ) → lead_here u ≡ true → scan (value signed k f) i u ≡ scan (value nought k f) (i + digits_here 18 u) (drop (digits_here 18 u) u)
  unfolding scan step in_value
  lead_on [] e = absurd (false≢true e)
  lead_on (b ∷ u) e =
      let j = digits_here 17 u in
      let c : i + 1 + j ≡ i + (1 + j) = omega arith in
      let d : drop j u ≡ drop (1 + j) (b ∷ u) = rw one-add refl in
      let g = digits_on k f 17 1 (i + 1) u (omega arith) in
      rw (e, lead_digit b e) (g ∙ ap (λ (x : ℕ). scan (value nought k f) x (drop j u)) c ∙ ap (scan (value nought k f) (i + (1 + j))) d)

  pub no_lead : (u : List ℕ) → lead_here u ≡ false → scan (value signed k f) i u ≡ Err (Faulty i)
  unfolding scan step in_value
  no_lead [] e = refl
  no_lead (b ∷ u) e = rw e
