-- Digits, signs and the ends of lines read at a cursor (format's `read_digits`, `read_value`, `past_end`). Assumes nothing.
use Rattle.std.proofs.Common.{ℕ, zero, suc, ◌+◌, ◌-◌, ◌*◌, ◌^◌, ◌≤◌, ◌<◌, ◌≡◌, refl, ap, sym, ◌∙◌, subst, Bool, true, false, cond, List, [], ◌∷◌}
use Rattle.std.proofs.Common.{length, get_or, take, min, drop, ℤ, pos, neg_ℤ, ◌-ℤ◌, eqb, arith}
use lib.ListN.{length-drop}
use Rattle.std.proofs.lemmas.List.{length-take, get_or-take}
use lib.Seq.{drop-cons}
use mathlib.Core.Bool.{false≢true}
use lib.IntN.{+ℤ_idl}
use Rattle.std.proofs.Math.Numerals.{add-one}
use native.Mathlib.Nat.{pow-suc, pow-le-pow_right}
use mir.Syntax.{w64}
use mir.Val.{to_z, of_z, SFits}
use mir.Facts.{to_z-of_z}
use borrow.Author.Tests.{lt-ltb}
use Rattle.format.specs.Bytes.{cr, minus, is_digit, is_digit_lem, Digit}
use Rattle.format.specs.Values.{Got, read_digits, read_value, with_sign, past_end}
use Rattle.monthfile.specs.declared.cursor.Cursor.{Cursor}
use Rattle.monthfile.specs.Cursor.{rest, byte_here, Passed}
use Rattle.monthfile.specs.At.{GotAt}
use Rattle.monthfile.proofs.Joining.{moved}

-- one digit more keeps below the next power of ten, and 18 digits below 10^18
pub more_below : (k n d : ℕ) → n < 10 ^ k → d < 10 → n * 10 + d < 10 ^ (k + 1)
more_below k n d h e = rw (add-one k, pow-suc 10 k) (omega arith)

pub below_all : (k n : ℕ) → k ≤ 18 → n < 10 ^ k → n < 1_000_000_000_000_000_000
below_all k n h b =
    let z : 0 < 10 = omega arith in
    let p : 10 ^ k ≤ 10 ^ 18 = pow-le-pow_right z h in
    omega arith

-- read on from n: no more, another byte first, or a digit
module _ (n : ℕ) where
  ended : (k : ℕ) (u : List ℕ) → min k (length u) ≡ 0 → read_digits k n u ≡ record { got = n; left = u }
  unfolding read_digits
  ended zero u e = refl
  ended (suc k) [] e = refl
  ended (suc k) (b ∷ u) e = absurd (omega arith)

  other : (k b : ℕ) (u : List ℕ) → is_digit b ≡ false → read_digits k n (b ∷ u) ≡ record { got = n; left = b ∷ u }
  unfolding read_digits
  other zero b u e = refl
  other (suc k) b u e = rw e

  one : (k b : ℕ) (u : List ℕ) → is_digit b ≡ true → read_digits (suc k) n (b ∷ u) ≡ read_digits k (n * 10 + (b - 48)) u
  unfolding read_digits
  one k b u e = rw e

-- the i-th of the bytes from here, of which at most m are looked at
pub record Looked (m i b : ℕ) (u : List ℕ) : Type 0 where
  pub early : i < m
  pub inside : i < length u
  pub is : b ≡ get_or u i 0

pub looked_at : (l m i : ℕ) (u : List ℕ) → i < length (take m (take l u)) → Looked m i (get_or (take m (take l u)) i 0) u
looked_at l m i u h =
    let a = length-take m (take l u) in
    let b = length-take l u in
    let e : i < m = omega arith in
    let f : i < l = omega arith in
    record { early = e; inside = omega arith; is = get_or-take m (take l u) i 0 e ∙ get_or-take l u i 0 f }

-- DIGITS read at c: k of them, n so far, and the cursor is now d
pub record SoFar (c d : Cursor) (k n : ℕ) : Type 0 where
  pub is : read_digits 18 0 (rest c) ≡ read_digits (18 - k) n (rest d)
  pub below : n < 10 ^ k
  pub passed : Passed c d k

module _ {c d : Cursor} {k n : ℕ} (s : SoFar c d k n) where
  -- the digits are over
  over : read_digits (18 - k) n (rest d) ≡ record { got = n; left = rest d } → GotAt (read_digits 18 0 (rest c)) n d
  over e =
      let a = s.is ∙ e in
      record { got = sym (ap (λ (g : Got ℕ). g.got) a); left = sym (ap (λ (g : Got ℕ). g.left) a) }

  pub all_read : (m : ℕ) → m ≡ min (length (take (length c.text.now - c.at) (rest c))) 18
      → length (take m (take (length c.text.now - c.at) (rest c))) ≤ k → GotAt (read_digits 18 0 (rest c)) n d
  all_read m e f =
      let l : ℕ = length c.text.now - c.at in
      let g = ap length (moved s.passed) in
      let r = length-drop c.at c.text.now in
      over (ended n (18 - k) (rest d) (omega (arith, length-drop k (rest c), length-take l (rest c), length-take m (take l (rest c)))))

  pub small : (m : ℕ) (u : List ℕ) → k ≤ length (take m u) → m ≤ 18 → n < 1_000_000_000_000_000_000
  small m u e f = below_all k n (omega (arith, length-take m u)) s.below

  module _ {m b : ℕ} (h : Looked m k b (rest c)) where
    here : rest d ≡ b ∷ drop (k + 1) (rest c)
    here = moved s.passed ∙ rw (add-one, h.is) (drop-cons (rest c) k 0 h.inside)

    pub no_digit : is_digit b ≡ false → GotAt (read_digits 18 0 (rest c)) n d
    no_digit e =
        over
        (subst (λ (u : List ℕ). read_digits (18 - k) n u ≡ record { got = n; left = u }) (sym here) (other n (18 - k) b (drop (k + 1) (rest c)) e))

    pub a_digit : (e : Cursor) → k < 18 → Digit b → Passed d e 1 → SoFar c e (k + 1) (n * 10 + (b - 48))
    a_digit e l t p =
        let m : ℕ = 18 - (k + 1) in
        let q : 18 - k ≡ suc m = omega arith in
        let f : Passed c e (k + 1) = record { at = omega (arith, s.passed.at, p.at); text = p.text ∙ s.passed.text } in
        record {
          is = s.is
              ∙ ap (λ (i : ℕ). read_digits i n (rest d)) q
              ∙ ap (read_digits (suc m) n) here
              ∙ one n m b (drop (k + 1) (rest c)) ((is_digit_lem b).1 t)
              ∙ ap (read_digits m (n * 10 + (b - 48))) (sym (moved f));
          below = more_below k n (b - 48) s.below (omega (arith, t.low, t.high));
          passed = f;
        }

-- a value: its sign, and its digits
sign_read : (u : List ℕ) (q : Bool) → q ≡ byte_here minus u → read_value u ≡ with_sign q (read_digits 18 0 (drop (cond q 1 0) u))
unfolding read_value read_digits
sign_read [] true h = absurd (false≢true (sym h))
sign_read [] false h = refl
sign_read (b ∷ u) true h = rw (sym h)
sign_read (b ∷ u) false h = rw (sym h)

module _ (c e d : Cursor) (q : Bool) (n : ℕ) (h : q ≡ byte_here minus (rest c)) (p : Passed c e (cond q 1 0))
    (g : GotAt (read_digits 18 0 (rest e)) n d) (s : n < 1_000_000_000_000_000_000) where
  value : read_value (rest c) ≡ with_sign q (read_digits 18 0 (rest e))
  value = sign_read (rest c) q h ∙ ap (λ (u : List ℕ). with_sign q (read_digits 18 0 u)) (sym (moved p))

  plus : to_z w64 n ≡ pos n
  plus = rw (lt-ltb n 9_223_372_036_854_775_808 (omega arith))

  pub plain_value : q ≡ false → GotAt (read_value (rest c)) (to_z w64 n) d
  plain_value f =
      let v = value ∙ ap (λ (x : Bool). with_sign x (read_digits 18 0 (rest e))) f in
      record { got = plus ∙ ap pos g.got ∙ sym (ap (λ (x : Got ℤ). x.got) v); left = g.left ∙ sym (ap (λ (x : Got ℤ). x.left) v) }

  negated : pos 0 -ℤ to_z w64 n ≡ neg_ℤ (pos n)
  negated = ap (λ (z : ℤ). pos 0 -ℤ z) plus ∙ +ℤ_idl (neg_ℤ (pos n))

  fits : (k : ℕ) → k < 1_000_000_000_000_000_000 → SFits w64 (neg_ℤ (pos k))
  fits zero l = record { sfits = omega arith }
  fits (suc k) l = record { sfits = omega arith }

  pub minus_value : q ≡ true → GotAt (read_value (rest c)) (to_z w64 (of_z w64 (pos 0 -ℤ to_z w64 n))) d
  minus_value f =
      let v = value ∙ ap (λ (x : Bool). with_sign x (read_digits 18 0 (rest e))) f in
      let z : SFits w64 (pos 0 -ℤ to_z w64 n) = subst (SFits w64) (sym negated) (fits n s) in
      record {
        got = to_z-of_z z ∙ negated ∙ ap (λ (k : ℕ). neg_ℤ (pos k)) g.got ∙ sym (ap (λ (x : Got ℤ). x.got) v);
        left = g.left ∙ sym (ap (λ (x : Got ℤ). x.left) v);
      }

-- past the end of a line
pub end_passed : (c d e : Cursor) (q : Bool) → q ≡ byte_here cr (rest c) → Passed c d (cond q 1 0) → rest e ≡ drop 1 (rest d) → rest e ≡ past_end (rest c)
end_passed c d e q h p s = s ∙ ap (drop 1) (moved p ∙ ap (λ (x : Bool). drop (cond x 1 0) (rest c)) h) ∙ by (rest c)
  where
    by : (u : List ℕ) → drop 1 (drop (cond (byte_here cr u) 1 0) u) ≡ past_end u
    by [] = refl
    by (b ∷ u) = at (eqb b cr)
      where
        at : (q : Bool) → drop 1 (drop (cond q 1 0) (b ∷ u)) ≡ cond q (drop 1 u) u
        at true = refl
        at false = refl
