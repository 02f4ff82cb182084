-- What a loop that adds up a list has after i entries: their sum. x is the entry as the loop comes by it. And what a loop that adds an
-- amount of each line to its entry comes to.
use Rattle.std.specs.Prelude.{◌≡◌, List, ℕ, ◌+◌, ◌*◌, ◌^◌, ◌≤◌, ◌<◌, map, length, take, get_or, ℤ, pos, ◌+ℤ◌}
use Rattle.std.specs.List.{zip}
use Rattle.std.proofs.Common.{sym, ap, ap₂, ◌∙◌, arith, SFits}
use Rattle.std.proofs.lemmas.List.{get_or-map, length-map}
use Rattle.std.proofs.lemmas.Slice.Zip.{length-zip, get_or-zip}
use Rattle.std.specs.Int.{w64}
use Rattle.ints.specs.Sums.{sum_ℤ, sum_start, sum_more, sum_end, Small, turn_fits}

-- no part's sum leaves 64 bits: each entry is at most so large
pub record Summable (xs : List ℤ) : Type 0 where
  pub largest : ℕ
  pub small : Small largest xs
  pub room : largest * length xs < 2 ^ 63

pub record Added (xs : List ℤ) (sum : ℤ) (i : ℕ) : Type 0 where
  pub here : i ≤ length xs
  pub so_far : sum ≡ sum_ℤ (take i xs)

pub added_none : (xs : List ℤ) → Added xs (pos 0) 0
added_none xs = record { here = omega arith; so_far = sym (sum_start xs) }

module _ {xs : List ℤ} {sum : ℤ} {i : ℕ} (a : Added xs sum i) where
  pub added_more : {x : ℤ} → i < length xs → x ≡ get_or xs i (pos 0) → Added xs (sum +ℤ x) (i + 1)
  added_more h e = record { here = omega arith; so_far = ap₂ ◌+ℤ◌ a.so_far e ∙ sym (sum_more xs i (pos 0) h) }

  pub added_fits : {x : ℤ} → Summable xs → i < length xs → x ≡ get_or xs i (pos 0) → SFits w64 (sum +ℤ x)
  added_fits s h e = rw (a.so_far, e) (turn_fits s.largest xs i s.room h s.small)

  pub added_all : length xs ≤ i → sum ≡ sum_ℤ xs
  added_all h = a.so_far ∙ sum_end xs i (omega (arith, a.here))

-- ---- an amount of each line, added to its entry
abbrev pub sums : {T : Type 0} → (T → ℤ) → List ℤ → List T → List ℤ
sums {T} of entries lines = map (λ (p : ℤ × T). p.0 +ℤ of p.1) (zip entries lines)

-- an entry for each line, and each sum is a word
pub record Addable {T : Type 0} (of : T → ℤ) (entries : List ℤ) (lines : List T) : Type 0 where
  pub as_many : length lines ≡ length entries
  pub fits : (i : ℕ) → i < length entries → SFits w64 (get_or (sums of entries lines) i (pos 0))

module _ {T : Type 0} (of : T → ℤ) (entries : List ℤ) (lines : List T) (e : length lines ≡ length entries) where
  pub length_sums : length (sums of entries lines) ≡ length entries
  length_sums = length-map (zip entries lines) (λ (p : ℤ × T). p.0 +ℤ of p.1) ∙ length-zip entries lines ∙ omega (arith, e)

  pub sum_at : (i : ℕ) (d : T) → i < length entries → get_or (sums of entries lines) i (pos 0) ≡ get_or entries i (pos 0) +ℤ of (get_or lines i d)
  sum_at i d h =
      let f = λ (p : ℤ × T). p.0 +ℤ of p.1 in
      let both : ℤ × T = (pos 0, d) in
      get_or-map f (zip entries lines) i both (pos 0) (omega (arith, length-zip entries lines, e))
      ∙ ap f (get_or-zip entries lines i both h (omega (arith, e)))
