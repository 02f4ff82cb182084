-- Months that there are: a year and a month of it, its cycle, the test for none, and the month before.
use mathlib.Core.Path.{◌≡◌, refl, sym, ap, ◌∙◌}
use mathlib.Core.Logic.{◌≢◌, ◌↔◌}
use mathlib.Core.Bool.{Bool, true, false, cond}
use native.Mathlib.Omega.{arith}
use lib.IntN.{ℤ, pos, ◌-ℤ◌, ◌*ℤ◌}
use lib.Signed.{lt_z, ◌<ℤ◌}
use Rattle.ints.specs.Bridge.{za, add#, sub#, mul#, one#, ne_in}
use Rattle.ints.specs.Floor.{floor, Floor#, floor_is, floor_in, floor_out, floor_eq}
use Rattle.ints.specs.Range.{Within, eq_z, eq_z_true, eq_z_false}
use Rattle.rules.specs.Calendar.{month_of_year, impossible_month, month_before, cycle_of}
use Rattle.rules.specs.Limits.{Month}
use Rattle.rules.specs.TariffYear.{LastBefore}
use Rattle.rules.proofs.Fits.{possible, not_impossible}

pub year_is : {m : ℤ} (t : Month m) → floor m (pos 100) ≡ t.yyyy
year_is {m} t =
    let y = t.yyyy in
    let r = add# (y *ℤ pos 100) t.mm in
    let p = mul# y (pos 100) in
    let a = t.is in
    let c = t.month in
    sym (floor_eq (omega arith) (floor_out (record { low = omega za; high = omega za })))

pub mm_is : {m : ℤ} (t : Month m) → month_of_year m ≡ t.mm
unfolding month_of_year
mm_is {m} t =
    let y = t.yyyy in
    let r = add# (y *ℤ pos 100) t.mm in
    let a = t.is in
    ap (λ (x : ℤ). m -ℤ x *ℤ pos 100) (year_is t) ∙ (let d = sub# m (y *ℤ pos 100) in omega za)

-- its cycle begins in July, that of a month before July in the year before
pub cycle_is : {m : ℤ} (t : Month m) (second : Bool) → lt_z t.mm (pos 7) ≡ second → cycle_of m ≡ cond second (t.yyyy -ℤ pos 1) t.yyyy
unfolding cycle_of
cycle_is t second e = rw (mm_is t, year_is t, e)

-- there are exactly those that the test lets pass
pub month_possible : (m : ℤ) → Month m ↔ (impossible_month m ≡ false)
unfolding month_of_year
month_possible m = (there, back)
  where
    there : Month m → impossible_month m ≡ false
    there t =
        let r = add# (t.yyyy *ℤ pos 100) t.mm in
        let p = mul# t.yyyy (pos 100) in
        let a = t.is in
        let b = t.year in
        let c = t.month in
        let o = one# t.yyyy in
        not_impossible (record { year = record { above = omega za; below = omega za }; mm = rw (mm_is t) c })

    back : impossible_month m ≡ false → Month m
    back e = go (floor m (pos 100)) (floor_in (floor_is m 100 (omega arith))) (possible m e).year (possible m e).mm
      where
        go : (q : ℤ) → Floor# m 100 q → Within (pos 200001) (pos 209912) m → Within (pos 1) (pos 12) (m -ℤ q *ℤ pos 100) → Month m
        go q f a c =
            let p = mul# q (pos 100) in
            let r = sub# m (q *ℤ pos 100) in
            record {
              yyyy = q;
              mm = m -ℤ q *ℤ pos 100;
              is = let s = add# (q *ℤ pos 100) (m -ℤ q *ℤ pos 100) in omega za;
              year = record { above = omega (za, one# q); below = omega (za, one# q) };
              month = c;
            }

-- ---- the month before
module _ {m : ℤ} (t : Month m) where
  -- in January, and in any other month
  before : (january : Bool) → eq_z t.mm (pos 1) ≡ january → month_before m ≡ cond january (m -ℤ pos 89) (m -ℤ pos 1)
  unfolding month_before
  before january e = rw (mm_is t, e)

  -- of any month but January it is in the same year
  abbrev earlier : t.mm ≢ pos 1 → Month (m -ℤ pos 1)
  earlier h =
      let a = t.is in
      let b = t.month in
      let s = add# (t.yyyy *ℤ pos 100) t.mm in
      let r = add# (t.yyyy *ℤ pos 100) (t.mm -ℤ pos 1) in
      let d = sub# t.mm (pos 1) in
      record {
        yyyy = t.yyyy;
        mm = t.mm -ℤ pos 1;
        is = let c = sub# m (pos 1) in omega za;
        year = t.year;
        month = record { above = omega (za, ne_in h); below = omega za };
      }

  pub before_in_year : t.mm ≢ pos 1 → month_before m ≡ m -ℤ pos 1
  before_in_year h = go (eq_z t.mm (pos 1)) refl
    where
      go : (january : Bool) → eq_z t.mm (pos 1) ≡ january → month_before m ≡ m -ℤ pos 1
      go true e = absurd (h (eq_z_true t.mm (pos 1) e))
      go false e = before false e

  pub mm_before : t.mm ≢ pos 1 → month_of_year (month_before m) ≡ t.mm -ℤ pos 1
  mm_before h = ap month_of_year (before_in_year h) ∙ mm_is (earlier h)

  pub month_before_lem : pos 200001 <ℤ m → LastBefore m (month_before m)
  month_before_lem h = go (eq_z t.mm (pos 1)) refl
    where
      go : (january : Bool) → eq_z t.mm (pos 1) ≡ january → LastBefore m (month_before m)
      go true e =
          let y = t.yyyy -ℤ pos 1 in
          let o : t.mm ≡ pos 1 = eq_z_true t.mm (pos 1) e in
          let a = t.is in
          let b = t.year in
          let s = add# (t.yyyy *ℤ pos 100) t.mm in
          let p = mul# t.yyyy (pos 100) in
          let k = sub# t.yyyy (pos 1) in
          let d = sub# m (pos 89) in
          rw (before true e) (record {
            exists = record {
              yyyy = y;
              mm = pos 12;
              is = omega (za, mul# y (pos 100), add# (y *ℤ pos 100) (pos 12));
              year = record { above = omega za; below = omega za };
              month = record { above = omega za; below = omega za };
            };
            earlier = omega za;
            last = λ n u l.
                let i = u.is in
                let c = u.month in
                let r = add# (u.yyyy *ℤ pos 100) u.mm in
                let q = mul# u.yyyy (pos 100) in
                omega za;
          })
      go false e =
          let d = sub# m (pos 1) in
          rw (before false e) (record { exists = earlier (eq_z_false t.mm (pos 1) e); earlier = omega za; last = λ n u l. omega za })
