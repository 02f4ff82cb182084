-- A possible month is above 0 and small: its quotient and remainder by 100 are its year and its month of the year, which is one of the twelve.
use Rattle.std.proofs.Common.{◌≡◌, false, ℕ, ◌≤◌, ℤ, pos, negsuc, sym, ap, ◌∙◌, to_z, of_z, to_z-of_z, ◌≤ℤ◌, w64, SFits}
use Rattle.std.specs.Int.Signed.{quot_z, rem_z}
use Rattle.ints.specs.Bridge.{za, above#}
use Rattle.ints.specs.Floor.{floor}
use Rattle.ints.specs.Range.{Within}
use Rattle.ints.specs.Words.{quot_small, quot_floor, rem_small, rem_floor}
use Rattle.rules.specs.Calendar.{impossible_month, month_of_year, in_cycle, cycle_month}
use Rattle.rules.proofs.Fits.{Possible, possible}

module _ {m : ℤ} (p : Possible m) where
  above : pos 0 ≤ℤ m
  above = omega (za, above# p.year.above)

  pub quot_fits : SFits w64 (quot_z m (pos 100))
  quot_fits = let y = p.year in omega (za, quot_small m (pos 100))

  pub rem_fits : SFits w64 (rem_z m (pos 100))
  rem_fits = let y = p.year in omega (za, rem_small m (pos 100))

  pub year : quot_z m (pos 100) ≡ floor m (pos 100)
  year = quot_floor m 100 above

  pub mm : rem_z m (pos 100) ≡ month_of_year m
  unfolding month_of_year
  mm = rem_floor m 100 above

-- the cycle month by what the code finds the month of the year to be
pub cycle_month_at : {m : ℤ} (k : ℕ) → SFits w64 m → impossible_month m ≡ false → of_z w64 (rem_z (to_z w64 (of_z w64 m)) (pos 100)) ≡ k
    → cycle_month m ≡ in_cycle (to_z w64 k)
unfolding cycle_month
cycle_month_at {m} k f h e =
    let p = possible m h in
    let is : to_z w64 (of_z w64 (rem_z (to_z w64 (of_z w64 m)) (pos 100))) ≡ month_of_year m = simp (to_z-of_z, f, rem_fits p) (mm p) in
    ap in_cycle (sym is ∙ ap (to_z w64) e)

-- it is one of the twelve
pub twelve : {m : ℤ} → SFits w64 m → impossible_month m ≡ false
    → (1 ≤ of_z w64 (rem_z (to_z w64 (of_z w64 m)) (pos 100))) × (of_z w64 (rem_z (to_z w64 (of_z w64 m)) (pos 100)) ≤ 12)
twelve {m} f h = let p = possible m h in rw (to_z-of_z f, mm p) (go (month_of_year m) p.mm)
  where
    go : (x : ℤ) → Within (pos 1) (pos 12) x → (1 ≤ of_z w64 x) × (of_z w64 x ≤ 12)
    go (pos n) w = (omega (za, w.above), omega (za, w.below))
    go (negsuc n) w = absurd (omega (za, w.above))
