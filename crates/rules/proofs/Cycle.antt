-- Guards of the cycle month and of the cycle: both read against the calendar; and what code relies on, that twelfths fall due in order.
use Prim.Native.Nat.{ℕ, zero, suc, ◌+◌, ◌*◌, ◌-◌, ◌≤◌, ◌<◌}
use native.Mathlib.Omega.{arith}
use mathlib.Core.Path.{◌≡◌, refl, sym, ap, ap₂, ◌∙◌}
use mathlib.Core.Logic.{◌≢◌, ◌↔◌, ◌⊎◌, inl, inr}
use mathlib.Core.Bool.{Bool, true, false, cond, not, ◌||◌}
use borrow.Author.Tests.{ne_eqb, not-true}
use lib.Dec.{T, eqb}
use lib.Ieee.Bits.{is_true}
use lib.IntN.{ℤ, pos, negsuc, ◌+ℤ◌, ◌-ℤ◌, ◌*ℤ◌}
use lib.Signed.{lt_z, ◌≤ℤ◌, ◌<ℤ◌}
use Rattle.ints.specs.Bridge.{za, add#, sub#, mul#, one#, ne_in}
use Rattle.ints.specs.Computed.{below, below_at}
use Rattle.ints.specs.Range.{Within, outside, outside_false, eq_z, eq_z_true, eq_z_false, eq_z_refl, eq_z_same, eq_z_not}
use Rattle.rules.specs.Calendar.{month_of_year, in_cycle, cycle_month, cycle_of, same_cycle, settled_to}
use Rattle.rules.specs.Ranges.{MonthAfter, Twelfths}
use Rattle.rules.specs.Limits.{Month}
use Rattle.rules.specs.TariffYear.{TariffYear, JulyBetween}
use Rattle.rules.proofs.Fits.{Possible, possible}
use Rattle.rules.proofs.Months.{mm_is, cycle_is, month_possible, before_in_year, mm_before}

told : {a b : ℤ} → T (eq_z a b) → a ≡ b
told {a} {b} t = eq_z_true a b (is_true (eq_z a b) t)

one_less : (n : ℕ) → pos (suc n) -ℤ pos 1 ≡ pos n
one_less n = omega (za, sub# (pos (suc n)) (pos 1))

past : (k n : ℕ) (b : Bool) → k ≢ n → T (eqb k n || b) → T b
past k n b h t = rw (ne_eqb k n h) at t

-- ---- the tariff year: each of the twelve cases beside the one before it, by one computed test
one_more : ℕ → Bool
one_more k = eqb k 0 || (eqb k 6 || eq_z (in_cycle (pos (suc k))) (in_cycle (pos k) +ℤ pos 1))

computed : T (below one_more 12)
unfolding one_more
computed = tt

one_more_lem : (mm : ℤ) → Within (pos 1) (pos 12) mm → mm ≢ pos 1 → mm ≢ pos 7 → in_cycle mm ≡ in_cycle (mm -ℤ pos 1) +ℤ pos 1
unfolding one_more
one_more_lem (negsuc n) w h s = absurd (omega (za, w.above))
one_more_lem (pos zero) w h s = absurd (omega (za, w.above))
one_more_lem (pos (suc k)) w h s =
    let z : k ≢ 0 = λ e. h (ap (λ n. pos (suc n)) e) in
    let x : k ≢ 6 = λ e. s (ap (λ n. pos (suc n)) e) in
    let l : k < 12 = omega (za, w.below) in
    rw (one_less k) (told (past k 6 _ x (past k 0 _ z (below_at one_more 12 computed k l))))

pub tariff_year : {m : ℤ} (t : Month m) → TariffYear t
unfolding cycle_month
tariff_year t = record {
  january = λ e. rw (mm_is t, e);
  july = λ e. rw (mm_is t, e);
  other = λ h s. rw (mm_is t, mm_before t h) (one_more_lem t.mm t.month h s);
}

-- ---- a cycle month lies within 1 to 12
within : ℕ → Bool
within k = not (outside (pos 1) (pos 12) (in_cycle (pos (suc k))))

twelve : T (below within 12)
unfolding within outside
twelve = tt

pub cycle_within : (m : ℤ) → Possible m → Within (pos 1) (pos 12) (cycle_month m)
unfolding cycle_month within
cycle_within m p = go (month_of_year m) p.mm
  where
    go : (mm : ℤ) → Within (pos 1) (pos 12) mm → Within (pos 1) (pos 12) (in_cycle mm)
    go (negsuc n) w = absurd (omega (za, w.above))
    go (pos zero) w = absurd (omega (za, w.above))
    go (pos (suc k)) w = outside_false _ _ _ (not-true _ (is_true _ (below_at within 12 twelve k (omega (za, w.below)))))

-- ---- from July to June
-- yyyymm of a year and a month
abbrev pub yyyymm : ℕ → ℕ → ℤ
yyyymm y m = pos (100 * y + m)

module _ (y : ℕ) (low : 2000 ≤ y) (high : y < 2100) where
  abbrev month : (m : ℕ) → 1 ≤ m → m ≤ 12 → Month (yyyymm y m)
  month m a b = record {
    yyyy = pos y;
    mm = pos m;
    is = omega (za, mul# (pos y) (pos 100), add# (pos y *ℤ pos 100) (pos m));
    year = record { above = omega za; below = omega za };
    month = record { above = omega za; below = omega za };
  }

  -- after the month m comes n in the same year, which is not July
  next :
      {m c : ℕ} (n d : ℕ) → n ≡ suc m → d ≡ suc c → 1 ≤ m → m < 12 → m ≢ 6
      → cycle_month (yyyymm y m) ≡ pos c → cycle_month (yyyymm y n) ≡ pos d
  next {m} {c} n d a o first last h e =
      let t = month n (omega arith) (omega arith) in
      let j : pos n ≢ pos 1 = λ e. omega za in
      let s : pos n ≢ pos 7 = λ e. h (omega za) in
      let before : yyyymm y n -ℤ pos 1 ≡ yyyymm y m = omega (za, sub# (yyyymm y n) (pos 1)) in
      let count : pos c +ℤ pos 1 ≡ pos d = omega (za, add# (pos c) (pos 1)) in
      (tariff_year t).other j s ∙ ap (λ (x : ℤ). cycle_month x +ℤ pos 1) (before_in_year t j ∙ before) ∙ ap (λ (x : ℤ). x +ℤ pos 1) e ∙ count

  -- July to December are 1 to 6, January to June 7 to 12
  july_on : (k : ℕ) → k < 6 → cycle_month (yyyymm y (7 + k)) ≡ pos (1 + k)
  july_on zero l = (tariff_year (month 7 (omega arith) (omega arith))).july refl
  july_on (suc k) l = next _ _ (omega arith) (omega arith) (omega arith) (omega arith) (λ e. omega arith) (july_on k (omega arith))

  january_on : (k : ℕ) → k < 6 → cycle_month (yyyymm y (1 + k)) ≡ pos (7 + k)
  january_on zero l = (tariff_year (month 1 (omega arith) (omega arith))).january refl
  january_on (suc k) l = next _ _ (omega arith) (omega arith) (omega arith) (omega arith) (λ e. omega arith) (january_on k (omega arith))

-- ---- the month's place in its cycle
place :
    (m y mm : ℤ) → m ≡ y *ℤ pos 100 +ℤ mm → Within (pos 2000) (pos 2099) y → Within (pos 1) (pos 12) mm
    → (second : Bool) → lt_z mm (pos 7) ≡ second → cycle_month m ≡ cond second (mm +ℤ pos 6) (mm -ℤ pos 6)
place m (negsuc y) mm e w v second h = absurd (omega (za, w.above))
place m (pos y) (negsuc k) e w v second h = absurd (omega (za, v.above))
place m (pos y) (pos k) e w v true h =
    let is : m ≡ yyyymm y (1 + (k - 1)) = omega (za, mul# (pos y) (pos 100), add# (pos y *ℤ pos 100) (pos k)) in
    ap cycle_month is ∙ january_on y (omega za) (omega za) (k - 1) (omega za) ∙ omega (za, add# (pos k) (pos 6))
place m (pos y) (pos k) e w v false h =
    let is : m ≡ yyyymm y (7 + (k - 7)) = omega (za, mul# (pos y) (pos 100), add# (pos y *ℤ pos 100) (pos k)) in
    ap cycle_month is ∙ july_on y (omega za) (omega za) (k - 7) (omega za) ∙ omega (za, sub# (pos k) (pos 6))

cycle_place : {m : ℤ} (t : Month m) (second : Bool) → lt_z t.mm (pos 7) ≡ second → cycle_month m ≡ cond second (t.mm +ℤ pos 6) (t.mm -ℤ pos 6)
cycle_place {m} t second e = place m t.yyyy t.mm t.is t.year t.month second e

-- a half of a cycle, with cycle months from low to high: yyyymm is the cycle's year, the gap and the cycle month
pub record Half (gap low high : ℕ) (m : ℤ) : Type 0 where
  pub is : m ≡ cycle_of m *ℤ pos 100 +ℤ (pos gap +ℤ cycle_month m)
  pub range : Within (pos low) (pos high) (cycle_month m)

-- July to December, and January to June
pub halves : {m : ℤ} → Month m → Half 6 1 6 m ⊎ Half 94 7 12 m
halves {m} t = go (lt_z t.mm (pos 7)) refl
  where
    by :
        (gap low high : ℕ) (y c : ℤ)
        → cycle_of m ≡ y
        → cycle_month m ≡ c
        → y *ℤ pos 100 +ℤ (pos gap +ℤ c) ≡ t.yyyy *ℤ pos 100 +ℤ t.mm
        → Within (pos low) (pos high) c
        → Half gap low high m
    by gap low high y c e f i w =
        record { is = t.is ∙ sym i ∙ ap₂ (λ (y c : ℤ). y *ℤ pos 100 +ℤ (pos gap +ℤ c)) (sym e) (sym f); range = rw f w }

    go : (second : Bool) → lt_z t.mm (pos 7) ≡ second → Half 6 1 6 m ⊎ Half 94 7 12 m
    go false e =
        let y = t.yyyy in
        let c = t.mm -ℤ pos 6 in
        let w = t.month in
        let d = sub# t.mm (pos 6) in
        inl (by 6 1 6 y c (cycle_is t false e) (cycle_place t false e)
        (omega (za, add# (pos 6) c, add# (y *ℤ pos 100) (pos 6 +ℤ c), add# (y *ℤ pos 100) t.mm)) (record { above = omega za; below = omega za }))
    go true e =
        let y = t.yyyy -ℤ pos 1 in
        let c = t.mm +ℤ pos 6 in
        let w = t.month in
        let d = add# t.mm (pos 6) in
        let b = sub# t.yyyy (pos 1) in
        let p = mul# y (pos 100) in
        let q = mul# t.yyyy (pos 100) in
        inr (by 94 7 12 y c (cycle_is t true e) (cycle_place t true e)
        (omega (za, add# (pos 94) c, add# (y *ℤ pos 100) (pos 94 +ℤ c), add# (t.yyyy *ℤ pos 100) t.mm)) (record { above = omega za; below = omega za }))

-- m lies in the cycle y: not before its July, and not after the June that follows
pub record InCycle (y m : ℤ) : Type 0 where
  pub july : (y *ℤ pos 100 +ℤ pos 7) ≤ℤ m
  pub june : m ≤ℤ (y *ℤ pos 100 +ℤ pos 106)

pub in_cycle_lem : {m : ℤ} → Month m → InCycle (cycle_of m) m
in_cycle_lem {m} t = go (halves t)
  where
    within : {gap low high : ℕ} → Half gap low high m → 7 ≤ gap + low → gap + high ≤ 106 → InCycle (cycle_of m) m
    within {gap} h a b =
        let i = h.is in
        let r = h.range in
        let x = mul# (cycle_of m) (pos 100) in
        let u = add# (pos gap) (cycle_month m) in
        let v = add# (cycle_of m *ℤ pos 100) (pos gap +ℤ cycle_month m) in
        record { july = omega (za, add# (cycle_of m *ℤ pos 100) (pos 7)); june = omega (za, add# (cycle_of m *ℤ pos 100) (pos 106)) }

    go : Half 6 1 6 m ⊎ Half 94 7 12 m → InCycle (cycle_of m) m
    go (inl h) = within h (omega arith) (omega arith)
    go (inr h) = within h (omega arith) (omega arith)

-- and in no other
pub cycle_only : {y m : ℤ} → Month m → InCycle y m → cycle_of m ≡ y
cycle_only {y} {m} t h =
    let c = cycle_of m in
    let b = in_cycle_lem t in
    omega (
      za,
      mul# y (pos 100),
      mul# c (pos 100),
      add# (y *ℤ pos 100) (pos 7),
      add# (y *ℤ pos 100) (pos 106),
      add# (c *ℤ pos 100) (pos 7),
      add# (c *ℤ pos 100) (pos 106),
    )

-- in one cycle a later month has a later cycle month
pub in_order_lem : {a m : ℤ} → Month a → Month m → cycle_of a ≡ cycle_of m → a <ℤ m → cycle_month a <ℤ cycle_month m
in_order_lem {a} {m} s t same l = go (halves s) (halves t)
  where
    by : {g p q h u v : ℕ} → Half g p q a → Half h u v m → (q < u) ⊎ (h ≤ g) → cycle_month a <ℤ cycle_month m
    by x y (inl o) = let p = x.range in let q = y.range in omega (za, one# (cycle_month a), one# (cycle_month m))
    by {g = g} {h = h} x y (inr o) =
        let i = x.is in
        let j = y.is in
        let c = cycle_of a in
        let d = cycle_of m in
        omega (
          za,
          mul# c (pos 100),
          mul# d (pos 100),
          add# (pos g) (cycle_month a),
          add# (pos h) (cycle_month m),
          add# (c *ℤ pos 100) (pos g +ℤ cycle_month a),
          add# (d *ℤ pos 100) (pos h +ℤ cycle_month m),
        )

    go : Half 6 1 6 a ⊎ Half 94 7 12 a → Half 6 1 6 m ⊎ Half 94 7 12 m → cycle_month a <ℤ cycle_month m
    go (inl x) (inl y) = by x y (inr (omega arith))
    go (inl x) (inr y) = by x y (inl (omega arith))
    go (inr x) (inl y) = by x y (inr (omega arith))
    go (inr x) (inr y) = by x y (inr (omega arith))

-- ---- THE CYCLE read against the calendar: two months lie in the same one exactly if no July lies after the one and up to the other
pub same_cycle_lem : {a m : ℤ} → Month a → Month m → a ≤ℤ m → (same_cycle a m ≡ true) ↔ (JulyBetween a m → ⊥)
same_cycle_lem {a} {m} s t h = (there, back)
  where
    there : same_cycle a m ≡ true → JulyBetween a m → ⊥
    there e j =
        let same : cycle_of a ≡ cycle_of m = eq_z_true (cycle_of a) (cycle_of m) e in
        let f : InCycle (cycle_of m) a = rw same at (in_cycle_lem s) in
        let b = in_cycle_lem t in
        let is = j.exists.is in
        let mm = j.mm in
        let low = j.after in
        let high = j.upto in
        omega (
          za,
          mul# j.exists.yyyy (pos 100),
          add# (j.exists.yyyy *ℤ pos 100) j.exists.mm,
          mul# (cycle_of m) (pos 100),
          add# (cycle_of m *ℤ pos 100) (pos 7),
          add# (cycle_of m *ℤ pos 100) (pos 106),
        )

    back : (JulyBetween a m → ⊥) → same_cycle a m ≡ true
    back f = go (same_cycle a m) refl
      where
        go : (same : Bool) → same_cycle a m ≡ same → same_cycle a m ≡ true
        go true e = e
        go false e =
            let b = cycle_of a in
            let c = cycle_of m in
            let n = ne_in (eq_z_false b c e) in
            let first = in_cycle_lem s in
            let last = in_cycle_lem t in
            let i = s.is in
            let j = t.is in
            let x = s.year in
            let y = t.year in
            let z = s.month in
            let w = t.month in
            let p = mul# b (pos 100) in
            let q = mul# c (pos 100) in
            let u = add# (b *ℤ pos 100) (pos 7) in
            let v = add# (b *ℤ pos 100) (pos 106) in
            let k = add# (c *ℤ pos 100) (pos 7) in
            let l = add# (c *ℤ pos 100) (pos 106) in
            let d = mul# s.yyyy (pos 100) in
            let g = mul# t.yyyy (pos 100) in
            let o = add# (s.yyyy *ℤ pos 100) s.mm in
            let r = add# (t.yyyy *ℤ pos 100) t.mm in
            absurd (f (record {
              july = c *ℤ pos 100 +ℤ pos 7;
              exists = record {
                yyyy = c;
                mm = pos 7;
                is = refl;
                year = record { above = omega (za, one# b, one# c); below = omega (za, one# c) };
                month = record { above = omega za; below = omega za };
              };
              mm = refl;
              after = omega (za, one# b, one# c);
              upto = last.july;
            }))

-- whichever of the two is named first
pub same_either : (a m : ℤ) → same_cycle a m ≡ same_cycle m a
same_either a m = eq_z_same (cycle_of a) (cycle_of m) (cycle_of m) (cycle_of a) (sym, sym)

-- ---- b of VMPA
pub settled_none : {last : ℤ} (m : ℤ) → last ≡ pos 0 → settled_to last m ≡ cycle_month m -ℤ pos 1
unfolding settled_to
settled_none m e = rw e

module _ {last : ℤ} (m : ℤ) (some : last ≢ pos 0) where
  pub settled_same : cycle_of last ≡ cycle_of m → settled_to last m ≡ cycle_month last
  unfolding settled_to
  settled_same e = rw (eq_z_not last (pos 0) some, e, eq_z_refl (cycle_of m))

  pub settled_earlier : cycle_of last ≢ cycle_of m → settled_to last m ≡ pos 0
  unfolding settled_to
  settled_earlier n = rw (eq_z_not last (pos 0) some, eq_z_not (cycle_of last) (cycle_of m) n)

-- twelfths fall due in order
pub twelfths : {last m : ℤ} → MonthAfter last m → Twelfths (settled_to last m) (cycle_month m)
twelfths {last} {m} h = go (eq_z last (pos 0)) refl
  where
    w : Within (pos 1) (pos 12) (cycle_month m)
    w = cycle_within m (possible m h.there)

    go : (none : Bool) → eq_z last (pos 0) ≡ none → Twelfths (settled_to last m) (cycle_month m)
    go true e =
        let v = w in
        let d = sub# (cycle_month m) (pos 1) in
        rw (settled_none m (eq_z_true last (pos 0) e)) (record { from = omega (za, one# (cycle_month m)); order = omega za; upto = w.below })
    go false e = within (same_cycle last m) refl
      where
        some : last ≢ pos 0
        some = eq_z_false last (pos 0) e

        within : (same : Bool) → same_cycle last m ≡ same → Twelfths (settled_to last m) (cycle_month m)
        within true f =
            let p = h.last_there some in
            let same = eq_z_true (cycle_of last) (cycle_of m) f in
            let v = cycle_within last (possible last p) in
            let o = in_order_lem ((month_possible last).1 p) ((month_possible m).1 h.there) same h.later in
            rw (settled_same m some same) (record { from = omega (za, one# (cycle_month last)); order = omega za; upto = w.below })
        within false f =
            rw (settled_earlier m some (eq_z_false (cycle_of last) (cycle_of m) f))
            (let v = w in record { from = omega za; order = omega (za, one# (cycle_month m)); upto = w.below })
