-- WITHIN A LINE STANDS NO LF AND NO CR: the names have none, by one computed test of the table, nor has a value's text. Assumes nothing.
use Prim.Native.Nat.{ℕ, ◌≤◌, ◌<◌}
use mathlib.Core.Path.{◌≡◌, refl, sym, subst}
use mathlib.Core.Bool.{Bool, true, false, ◌&&◌, not}
use mathlib.Core.List.{List, [], ◌∷◌, map}
use native.Mathlib.Omega.{arith}
use lib.Dec.{eqb}
use lib.IntN.{ℤ}
use borrow.Author.Tests.{not-true, ne_eqb}
use Rattle.format.specs.Bytes.{bytes, lf, cr, Digit}
use Rattle.format.specs.Blocks.{Block, Slices, blocks}
use Rattle.format.specs.Decimal.{text, Small, All, Numeral, Value, nought, plain, below}
use Rattle.format.specs.Grammar.{more, entries, names_of}
use Rattle.format.proofs.Live.{both}
use Rattle.format.proofs.Table.{of_blocks}
use Rattle.format.proofs.Decimals.{value_of}

-- neither LF nor CR
abbrev pub Plain : ℕ → Type 0
Plain b = (eqb lf b ≡ false) × (eqb cr b ≡ false)

-- the same of names, as a test
abbrev is_plain : List ℕ → Bool
is_plain [] = true
is_plain (b ∷ t) = (not (eqb lf b) && not (eqb cr b)) && is_plain t

is_plain_lem : (t : List ℕ) → is_plain t ≡ true → All Plain t
is_plain_lem [] e = tt
is_plain_lem (b ∷ t) e =
    let c = both (not (eqb lf b) && not (eqb cr b)) (is_plain t) e in
    let d = both (not (eqb lf b)) (not (eqb cr b)) c.0 in
    ((not-true (eqb lf b) d.0, not-true (eqb cr b) d.1), is_plain_lem t c.1)

abbrev pub PlainNames : Block → Type 0
PlainNames b = All Plain (names_of b)

-- THE NAMES
pub plain_names : (r : Slices) → All PlainNames (blocks r)
unfolding more
plain_names r = of_blocks is_plain PlainNames (λ k n e. is_plain_lem (entries (map bytes k)) e) r refl refl

-- A VALUE'S TEXT: digits, and a minus sign
digit_plain : (b : ℕ) → 48 ≤ b → b < 58 → Plain b
digit_plain b l h = (ne_eqb lf b (λ e. omega arith), ne_eqb cr b (λ e. omega arith))

digits_plain : (t : List ℕ) → All Digit t → All Plain t
digits_plain [] d = tt
digits_plain (b ∷ t) d = (digit_plain b d.0.low d.0.high, digits_plain t d.1)

numeral_plain : (t : List ℕ) → Numeral t → All Plain t
numeral_plain t n =
    subst (All Plain) (sym n.is) (digit_plain n.first (omega (arith, n.low)) n.high, digits_plain n.rest n.digits)

value_plain : (t : List ℕ) → Value t → All Plain t
value_plain t (nought e) = subst (All Plain) (sym e) ((refl, refl), tt)
value_plain t (plain n) = numeral_plain t n
value_plain t (below u e n) = subst (All Plain) (sym e) ((refl, refl), numeral_plain u n)

pub plain_text : (z : ℤ) → Small z → All Plain (text z)
plain_text z h = value_plain (text z) (value_of z h)
