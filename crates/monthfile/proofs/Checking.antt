-- The file check's answer from reading's verdicts, with slices as long as the text. Assumes nothing.
use Rattle.std.proofs.Common.{ℕ, ◌≤◌, ◌<◌, min, ◌≡◌, ap, sym, ◌∙◌, List, length, drop, pos, negsuc, arith, Ok, Err}
use native.Mathlib.Decide.{dec_le}
use Rattle.format.specs.Blocks.{Slices, slices, free}
use Rattle.format.specs.Machine.{start, judge, number, check_of}
use Rattle.format.specs.Reading.{scan_at, AtLeast}
use Rattle.format.specs.declared.Fault.{Fault}
use Rattle.format.specs.declared.Fault.TheVariants.{Faulty, Full}
use Rattle.format.proofs.FileCheck.{check_within, file_check}
use Rattle.format.proofs.CheckPlace.{never_too_many, check_fault, check_forward, check_on, check_last}
use Rattle.monthfile.specs.declared.check.NotFiles.{NotFiles}
use Rattle.monthfile.specs.Checked.{seen, place}

module _ (t : List ℕ) where
  -- from this position on the check is that of the whole text
  abbrev pub Same : ℕ → Type 0
  Same i = judge (start free) 0 t ≡ judge (start free) (min i (length t)) (drop i t)

  -- slices as long as the text
  abbrev pub long : Slices
  long = slices (length t) (length t) (length t)

  takes : AtLeast (length t) long
  takes = (omega arith, (omega arith, (omega arith, tt)))

  module _ (i : ℕ) (s : Same i) where
    pub goes_on_lem : (next : ℕ) → scan_at long t i ≡ Ok next → next < length t → Same next
    goes_on_lem next e h = s ∙ check_on long t takes i next e h

    pub forward : (next : ℕ) → scan_at long t i ≡ Ok next → (i < next) × (next ≤ length t)
    forward next e = check_forward long t takes i next e

    module _ (w : length t ≤ 1_000_000_000_000_000) where
      pub all_read : scan_at long t i ≡ Ok (length t) → seen (Ok tt) ≡ check_of t
      all_read e = sym (check_within t w ∙ ap number (s ∙ check_last long t takes i (length t) e (omega arith)))

      pub comes_back : (x : Fault) (e : NotFiles) → scan_at long t i ≡ Err x → seen (Err e) ≡ pos (place x) → seen (Err e) ≡ check_of t
      comes_back (Faulty p) e v h = h ∙ sym (check_within t w ∙ ap number (s ∙ check_fault long t takes i p v))
      comes_back (Full p) e v h = absurd (never_too_many long t takes i p v)

-- a place that the check gives is within its limit
pub place_small : (t : List ℕ) (p : ℕ) → pos p ≡ check_of t → p ≤ 1_000_000_000_000_000
place_small t p e = by (dec_le (length t) 1_000_000_000_000_000)
  where
    by : Dec (length t ≤ 1_000_000_000_000_000) → p ≤ 1_000_000_000_000_000
    by (yes h) = let x = (((file_check t).place h p).0 (sym e)).within in omega arith
    by (no h) = let z : pos p ≡ negsuc 1 = e ∙ (file_check t).over (omega (arith, h)) in absurd (cc)
