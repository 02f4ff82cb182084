-- THE TABLE'S RULE, by one computed test: every block has a column, and its names begin no line of values. So the items of a file are
-- sound: after lines of values comes a byte that begins none. What such a test shows of the blocks is said for any test. Assumes nothing.
use Prim.Native.Nat.{ℕ, suc, ◌-◌}
use Prim.Native.String.{String}
use mathlib.Core.Path.{◌≡◌, refl}
use mathlib.Core.Bool.{Bool, true, false, false≢true, ◌&&◌, not}
use mathlib.Core.List.{List, [], ◌∷◌, ◌++◌, map}
use native.Mathlib.Omega.{arith}
use borrow.Author.Tests.{not-true}
use Rattle.format.specs.Bytes.{bytes, starts_line}
use Rattle.format.specs.Blocks.{Count, one, Block, columns, month, kinds, Slices, taken, others, blocks_of, blocks}
use Rattle.format.specs.Decimal.{All}
use Rattle.format.specs.Grammar.{entries, names_of}
use Rattle.format.specs.Machine.{Item, byte, end, lines, laid_out, format}
use Rattle.format.proofs.Live.{both, Quiet, Sound}

-- some byte, and one that begins no line of values
abbrev pub Named : List ℕ → Type 0
Named [] = ⊥
Named (c ∷ t) = starts_line c ≡ false

pub record Headed (b : Block) : Type 0 where
  pub column : suc (columns b - 1) ≡ columns b
  pub names : Named (names_of b)

-- the same as a test
abbrev is_named : List ℕ → Bool
is_named [] = false
is_named (c ∷ t) = not (starts_line c)

-- a test of every kind's names, and what it shows of the blocks
abbrev pub each : (List ℕ → Bool) → List (List String) → Bool
each q [] = true
each q (k ∷ ks) = q (entries (map bytes k)) && each q ks

module _ (q : List ℕ → Bool) (P : Block → Type 0)
    (so : (k : List String) (n : Count) → q (entries (map bytes k)) ≡ true → P (record { names = k; count = n })) where
  of_kinds : (ks : List (List String)) (r : Slices) → each q ks ≡ true → All P (blocks_of ks r)
  of_kinds [] r e = tt
  of_kinds (k ∷ ks) r e =
      let c = both (q (entries (map bytes k))) (each q ks) e in
      (so k (taken r) c.0, of_kinds ks (others r) c.1)

  pub of_blocks : (r : Slices) → q (entries (map bytes month)) ≡ true → each q kinds ≡ true → All P (blocks r)
  of_blocks r e f = (so month one e, of_kinds kinds r f)

named : (t : List ℕ) → is_named t ≡ true → Named t
named [] e = false≢true e
named (c ∷ t) e = not-true (starts_line c) e

headed : (k : List String) (n : Count) → is_named (entries (map bytes k)) ≡ true → Headed (record { names = k; count = n })
headed [] n e = absurd (false≢true e)
headed (s ∷ ss) n e = record { column = omega arith; names = named (entries (map bytes (s ∷ ss))) e }

pub all_headed : (r : Slices) → All Headed (blocks r)
all_headed r = of_blocks is_named Headed headed r refl refl

-- the items of blocks are sound
sound_names : (ns : List ℕ) (f : List Item) → Sound f → Sound (map byte ns ++ f)
sound_names [] f s = s
sound_names (c ∷ ns) f s = sound_names ns f s

quiet_names : (ns : List ℕ) (f : List Item) → Named ns → Quiet (map byte ns ++ f)
quiet_names [] f n = absurd n
quiet_names (c ∷ ns) f n = n

quiet_blocks : (bs : List Block) → All Headed bs → Quiet (laid_out bs)
quiet_blocks [] h = tt
quiet_blocks (b ∷ bs) h = quiet_names (names_of b) (end ∷ lines b.count (columns b - 1) ∷ laid_out bs) h.0.names

sound_blocks : (bs : List Block) → All Headed bs → Sound (laid_out bs)
sound_blocks [] h = tt
sound_blocks (b ∷ bs) h =
    sound_names (names_of b) (end ∷ lines b.count (columns b - 1) ∷ laid_out bs) (quiet_blocks bs h.1, sound_blocks bs h.1)

pub sound_format : (r : Slices) → Sound (format r)
unfolding format
sound_format r = sound_blocks (blocks r) (all_headed r)
