-- A VALUE'S TEXT: the text of a number of at most 18 digits is what paper 01 calls a value, and every such value is the text of one
-- number. Assumes nothing.
use Prim.Native.Nat.{ℕ, zero, suc, ◌+◌, ◌-◌, ◌*◌, ◌/◌, ◌%◌, ◌^◌, ◌≤◌, ◌<◌, zero-le}
use mathlib.Core.Path.{◌≡◌, refl, ap, sym, ◌∙◌}
use mathlib.Core.Logic.{◌↔◌}
use mathlib.Core.List.{List, [], ◌∷◌, ◌++◌, append_assoc, append-nil}
use native.Mathlib.Omega.{arith}
use native.Mathlib.Decide.{dec_le}
use native.Mathlib.Nat.{mul-add-div_right, mul-add-mod_self_right, div-eq_of_lt, mod-eq_of_lt, mod-lt, div-lt_iff_lt-mul, div-add-mod', pow-suc}
use native.Mathlib.Nat.{pow-zero, suc-add, mul-le-mul_right, pow-le-pow_right}
use lib.ListN.{length, length-append}
use lib.IntN.{ℤ, pos, negsuc}
use Rattle.format.specs.Bytes.{minus, Digit}
use Rattle.format.specs.Decimal.{shown, shown_one, shown_more, text, Small, All, Numeral, Value, nought, plain, below}

-- the number that digits say, read on from a
unfoldable pub said : ℕ → List ℕ → ℕ
said a [] = a
said a (d ∷ ds) = said (a * 10 + (d - 48)) ds

-- one more element at the end
all_snoc : {A : Type 0} (P : A → Type 0) (xs : List A) (x : A) → All P xs → P x → All P (xs ++ (x ∷ []))
all_snoc P [] x a p = (p, tt)
all_snoc P (y ∷ xs) x a p = (a.0, all_snoc P xs x a.1 p)

-- a digit more
grow : (k a d : ℕ) → 1 ≤ a → Digit d → shown (suc k) (a * 10 + (d - 48)) ≡ shown k a ++ (d ∷ [])
grow k a d h t =
    let q : (a * 10 + (d - 48)) / 10 ≡ a + (d - 48) / 10 = mul-add-div_right (omega arith) a (d - 48) in
    let q' : (d - 48) / 10 ≡ 0 = div-eq_of_lt (omega arith) in
    let r : (a * 10 + (d - 48)) % 10 ≡ (d - 48) % 10 = mul-add-mod_self_right a 10 (d - 48) in
    let r' : (d - 48) % 10 ≡ d - 48 = mod-eq_of_lt (omega arith) in
    let e : (a * 10 + (d - 48)) / 10 ≡ a = omega arith in
    let f : 48 + (a * 10 + (d - 48)) % 10 ≡ d = omega arith in
    shown_more k (a * 10 + (d - 48)) (omega arith)
    ∙ ap (λ (x : ℕ). shown k x ++ ((48 + (a * 10 + (d - 48)) % 10) ∷ [])) e
    ∙ ap (λ (x : ℕ). shown k a ++ (x ∷ [])) f

grown : (ds : List ℕ) (k a : ℕ) → 1 ≤ a → All Digit ds → shown (length ds + k) (said a ds) ≡ shown k a ++ ds
unfolding said
grown [] k a h t =
    let z : 0 + k ≡ k = omega arith in
    ap (λ (x : ℕ). shown x a) z ∙ sym (append-nil (shown k a))
grown (d ∷ ds) k a h t =
    let z : suc (length ds) + k ≡ length ds + suc k = omega arith in
    ap (λ (x : ℕ). shown x (said (a * 10 + (d - 48)) ds)) z
    ∙ grown ds (suc k) (a * 10 + (d - 48)) (omega arith) t.1
    ∙ ap (λ (l : List ℕ). l ++ ds) (grow k a d h t.0)
    ∙ append_assoc (shown k a) (d ∷ []) ds

-- the rest of a number of more than one digit
lower : (k n : ℕ) → n < 10 ^ suc k → n / 10 < 10 ^ k
lower k n h =
    let z : 0 < 10 = omega arith in
    let b : n < 10 ^ k * 10 = omega (arith, pow-suc 10 k) in
    (div-lt_iff_lt-mul z).1 b

upper : (n : ℕ) → 10 ≤ n → 1 ≤ n / 10
upper n h = let z : 0 < 10 = omega arith in omega (arith, div-add-mod' n 10, mod-lt n z)

-- digits to spare change nothing
spare : (k j n : ℕ) → n < 10 ^ suc k → shown (suc k + j) n ≡ shown (suc k) n
spare zero j n h =
    let s : n < 10 = omega (arith, pow-suc 10 0, pow-zero 10) in
    ap (λ (x : ℕ). shown x n) (suc-add 0 j) ∙ shown_one (0 + j) n s ∙ sym (shown_one 0 n s)
spare (suc k) j n h = ap (λ (x : ℕ). shown x n) (suc-add (suc k) j) ∙ by (spare k j (n / 10) (lower (suc k) n h)) (dec_le 10 n)
  where
    by : shown (suc k + j) (n / 10) ≡ shown (suc k) (n / 10) → Dec (10 ≤ n) → shown (suc (suc k + j)) n ≡ shown (suc (suc k)) n
    by r (no s) = shown_one (suc k + j) n (omega (arith, s)) ∙ sym (shown_one (suc k) n (omega (arith, s)))
    by r (yes s) = shown_more (suc k + j) n s ∙ ap (λ (l : List ℕ). l ++ ((48 + n % 10) ∷ [])) r ∙ sym (shown_more (suc k) n s)

-- how large
ten_times : (s a x p : ℕ) → s < (x + 1) * p → x < a * 10 + 10 → s < (a + 1) * (p * 10)
ten_times s a x p h k =
    let b : (x + 1) * p ≤ (a * 10 + 10) * p = mul-le-mul_right p (omega arith) in
    omega arith

said_below : (ds : List ℕ) (a : ℕ) → All Digit ds → said a ds < (a + 1) * 10 ^ length ds
unfolding said
said_below [] a t = omega (arith, pow-zero 10)
said_below (d ∷ ds) a t =
    rw (pow-suc 10 (length ds))
    (ten_times (said (a * 10 + (d - 48)) ds) a (a * 10 + (d - 48)) (10 ^ length ds)
    (said_below ds (a * 10 + (d - 48)) t.1)
    (omega arith))

said_above : (ds : List ℕ) (a : ℕ) → 1 ≤ a → 1 ≤ said a ds
unfolding said
said_above [] a h = h
said_above (d ∷ ds) a h = said_above ds (a * 10 + (d - 48)) (omega arith)

-- EVERY NUMERAL IS SHOWN
record Printed (t : List ℕ) : Type 0 where
  number : ℕ
  some : 1 ≤ number
  few : number < 1_000_000_000_000_000_000
  print : t ≡ shown 18 number

printed : (t : List ℕ) → Numeral t → Printed t
printed t c =
    let a : ℕ = c.first - 48 in
    let one : 1 ≤ a = omega (arith, c.low) in
    let ten : a < 10 = omega (arith, c.high) in
    let n : ℕ = said a c.rest in
    let l : ℕ = length c.rest in
    let b : n < (a + 1) * 10 ^ l = said_below c.rest a c.digits in
    let b' : (a + 1) * 10 ^ l ≤ 10 * 10 ^ l = mul-le-mul_right (10 ^ l) (omega arith) in
    let p : 10 ^ suc l ≡ 10 ^ l * 10 = pow-suc 10 l in
    let small : n < 10 ^ suc l = omega arith in
    let ten' : 0 < 10 = omega arith in
    let v : suc l ≤ 18 = omega (arith, c.short) in
    let w : 10 ^ suc l ≤ 10 ^ 18 = pow-le-pow_right ten' v in
    let g : shown (l + 1) n ≡ shown 1 a ++ c.rest = grown c.rest 1 a one c.digits in
    let o : shown 1 a ≡ (48 + a) ∷ [] = shown_one 0 a ten in
    let f : 48 + a ≡ c.first = omega (arith, c.low) in
    let s : shown (suc l + (17 - l)) n ≡ shown (suc l) n = spare l (17 - l) n small in
    let x : suc l + (17 - l) ≡ 18 = omega (arith, c.short) in
    let y : l + 1 ≡ suc l = omega arith in
    record {
      number = n;
      some = said_above c.rest a one;
      few = omega arith;
      print =
          c.is
          ∙ ap (λ (d : ℕ). d ∷ c.rest) (sym f)
          ∙ ap (λ (q : List ℕ). q ++ c.rest) (sym o)
          ∙ sym g
          ∙ ap (λ (q : ℕ). shown q n) y
          ∙ sym s
          ∙ ap (λ (q : ℕ). shown q n) x;
    }

-- WHAT IS SHOWN IS A NUMERAL
record Long (k : ℕ) (t : List ℕ) : Type 0 where
  first : ℕ
  rest : List ℕ
  is : t ≡ first ∷ rest
  low : 49 ≤ first
  high : first < 58
  digits : All Digit rest
  short : length rest ≤ k

digit_alone : (k n : ℕ) → n < 10 → 1 ≤ n → Long k (shown (suc k) n)
digit_alone k n h o =
    record { first = 48 + n; rest = []; is = shown_one k n h; low = omega arith; high = omega arith; digits = tt; short = zero-le }

longer : (k : ℕ) (t : List ℕ) (d : ℕ) → d < 10 → Long k t → Long (suc k) (t ++ ((48 + d) ∷ []))
longer k t d h l =
    record {
      first = l.first;
      rest = l.rest ++ ((48 + d) ∷ []);
      is = ap (λ (q : List ℕ). q ++ ((48 + d) ∷ [])) l.is;
      low = l.low;
      high = l.high;
      digits = all_snoc Digit l.rest (48 + d) l.digits (record { low = omega arith; high = omega arith });
      short = omega (arith, length-append l.rest ((48 + d) ∷ []), l.short);
    }

prints : (k n : ℕ) → n < 10 ^ suc k → 1 ≤ n → k ≤ 17 → Long k (shown (suc k) n)
prints zero n h o u = digit_alone 0 n (omega (arith, pow-suc 10 0, pow-zero 10)) o
prints (suc k) n h o u = by (λ s. prints k (n / 10) (lower (suc k) n h) (upper n s) (omega arith)) (dec_le 10 n)
  where
    by : (10 ≤ n → Long k (shown (suc k) (n / 10))) → Dec (10 ≤ n) → Long (suc k) (shown (suc (suc k)) n)
    by r (no s) = digit_alone (suc k) n (omega (arith, s)) o
    by r (yes s) = rw (shown_more (suc k) n s) (longer k _ (n % 10) (mod-lt n (omega arith)) (r s))

pub numeral : (n : ℕ) → 1 ≤ n → n < 1_000_000_000_000_000_000 → Numeral (shown 18 n)
numeral n o h =
    let l = prints 17 n h o (omega arith) in
    record {
      first = l.first;
      rest = l.rest;
      is = l.is;
      low = l.low;
      high = l.high;
      digits = l.digits;
      short = l.short;
    }

-- THE TWO SAY THE SAME
pub record TextOf (t : List ℕ) : Type 0 where
  pub number : ℤ
  pub small : Small number
  pub is : t ≡ text number

pub text_of : (t : List ℕ) → Value t → TextOf t
unfolding shown
text_of t (nought e) = record { number = pos 0; small = omega arith; is = e }
text_of t (plain c) = let p = printed t c in record { number = pos p.number; small = p.few; is = p.print }
text_of t (below u e c) = let p = printed u c in negative p.number p.some p.few p.print
  where
    negative : (n : ℕ) → 1 ≤ n → n < 1_000_000_000_000_000_000 → u ≡ shown 18 n → TextOf t
    negative zero o f q = absurd (omega arith)
    negative (suc n) o f q = record { number = negsuc n; small = f; is = e ∙ ap (λ (x : List ℕ). minus ∷ x) q }

pub value_of : (z : ℤ) → Small z → Value (text z)
unfolding shown
value_of (pos zero) h = nought refl
value_of (pos (suc n)) h = plain (numeral (suc n) (omega arith) h)
value_of (negsuc n) h = below (shown 18 (suc n)) refl (numeral (suc n) (omega arith) h)

-- a text is a value in paper 01's words exactly where it is the text of a number of at most 18 digits
pub values : (t : List ℕ) → Value t ↔ TextOf t
values t = (text_of t, λ o. rw o.is (value_of o.number o.small))

-- READING BACK WHAT IS SHOWN
said_snoc : (ds : List ℕ) (a d : ℕ) → said a (ds ++ (d ∷ [])) ≡ said a ds * 10 + (d - 48)
unfolding said
said_snoc [] a d = refl
said_snoc (c ∷ ds) a d = said_snoc ds (a * 10 + (c - 48)) d

said_shown : (k n : ℕ) → n < 10 ^ suc k → said 0 (shown (suc k) n) ≡ n
unfolding said
said_shown zero n h =
    let s : n < 10 = omega (arith, pow-suc 10 0, pow-zero 10) in
    ap (λ (q : List ℕ). said 0 q) (shown_one 0 n s) ∙ omega arith
said_shown (suc k) n h = by (said_shown k (n / 10) (lower (suc k) n h)) (dec_le 10 n)
  where
    by : said 0 (shown (suc k) (n / 10)) ≡ n / 10 → Dec (10 ≤ n) → said 0 (shown (suc (suc k)) n) ≡ n
    by r (no s) = ap (λ (q : List ℕ). said 0 q) (shown_one (suc k) n (omega (arith, s))) ∙ omega arith
    by r (yes s) =
        ap (λ (q : List ℕ). said 0 q) (shown_more (suc k) n s)
        ∙ said_snoc (shown (suc k) (n / 10)) 0 (48 + n % 10)
        ∙ omega (arith, r, div-add-mod' n 10)

pub read_back : (n : ℕ) → n < 1_000_000_000_000_000_000 → said 0 (shown 18 n) ≡ n
read_back n h = said_shown 17 n h
