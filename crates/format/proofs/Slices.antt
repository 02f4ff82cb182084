-- What it is not to fit slices of such lengths, and when they take any file. Assumes nothing.
use Prim.Native.Nat.{ℕ, ◌≤◌}
use mathlib.Core.Logic.{inl, inr}
use mathlib.Core.List.{List, [], ◌∷◌}
use native.Mathlib.Omega.{arith}
use native.Mathlib.Decide.{dec_le}
use lib.ListN.{length}
use lib.IntN.{ℤ}
use Rattle.format.specs.Blocks.{Slices, free}
use Rattle.format.specs.Decimal.{All}
use Rattle.format.specs.Grammar.{File, kinds_of, Fits, Few, fits_slices}
use Rattle.format.specs.Reading.{Over, AtLeast}

-- a file that the slices do not take has more lines of a kind than its slice takes, and only such a file
over : (r : Slices) (w : List (List (List ℤ))) → (Few r w → ⊥) → Over r w
over [] w n = absurd (n tt)
over (k ∷ r) [] n = absurd (n tt)
over (k ∷ r) (ls ∷ w) n = by (dec_le (length ls) k) (over r w)
  where
    by : Dec (length ls ≤ k) → ((Few r w → ⊥) → Over r w) → Over (k ∷ r) (ls ∷ w)
    by (no h) o = inl (omega (arith, h))
    by (yes h) o = inr (o (λ f. n (h, f)))

not_few : (r : Slices) (w : List (List (List ℤ))) → Over r w → Few r w → ⊥
not_few [] w o f = o
not_few (k ∷ r) [] o f = o
not_few (k ∷ r) (ls ∷ w) (inl h) f = omega (arith, f.0)
not_few (k ∷ r) (ls ∷ w) (inr o) f = not_few r w o f.1

pub too_many_lem : (r : Slices) (f : File) → Fits free f → (Fits r f → ⊥) → Over r (kinds_of f)
too_many_lem r f x n = over r (kinds_of f) (λ few. n ((fits_slices r f).1 (x, few)))

pub not_over : (r : Slices) (f : File) → Fits r f → Over r (kinds_of f) → ⊥
not_over r f x o = not_few r (kinds_of f) o ((fits_slices r f).0 x).1

-- long slices take few lines
pub few_all : (n : ℕ) (r : Slices) (w : List (List (List ℤ))) → AtLeast n r → All (λ (ls : List (List ℤ)). length ls ≤ n) w → Few r w
few_all n [] w h a = tt
few_all n (k ∷ r) [] h a = tt
few_all n (k ∷ r) (ls ∷ w) h a = (omega (arith, h.0, a.0), few_all n r w h.1 a.1)
