-- Months (paper 01, "A month's lines" and "Credits of a payee"; paper 02, Q-7 and Q-8).
use Rattle.std.specs.Prelude.{ℕ, Bool, cond, ◌||◌, ℤ, pos, ◌-ℤ◌, ◌*ℤ◌}
use Rattle.std.specs.Int.Signed.{lt_z}
use Rattle.ints.specs.Floor.{floor}
use Rattle.ints.specs.Range.{outside, eq_z}

-- mm of yyyymm
unfoldable pub month_of_year : ℤ → ℤ
month_of_year m = m -ℤ floor m (pos 100) *ℤ pos 100

-- no month: outside 200001 to 209912, or mm outside 01 to 12
unfoldable pub impossible_month : ℤ → Bool
impossible_month m = outside (pos 200001) (pos 209912) m || outside (pos 1) (pos 12) (month_of_year m)

-- the month before it in the calendar; that of a January is December of the year before: 202312 before 202401
unfoldable pub month_before : ℤ → ℤ
month_before m = cond (eq_z (month_of_year m) (pos 1)) (m -ℤ pos 89) (m -ℤ pos 1)

-- one case of the number x: at k it is v, at any other what the cases after it say
infixr 5 case◌is◌then◌else◌
abbrev pub case◌is◌then◌else◌ : ℤ → ℕ → ℕ → ℤ → ℤ
case x is k then v else rest = cond (eq_z x (pos k)) (pos v) rest

-- cycle month of the month mm of a year, July 1 to June 12; any other number is no month of a year, and has 0
abbrev pub in_cycle : ℤ → ℤ
in_cycle mm =
    case mm is 1 then 7 else
    case mm is 2 then 8 else
    case mm is 3 then 9 else
    case mm is 4 then 10 else
    case mm is 5 then 11 else
    case mm is 6 then 12 else
    case mm is 7 then 1 else
    case mm is 8 then 2 else
    case mm is 9 then 3 else
    case mm is 10 then 4 else
    case mm is 11 then 5 else
    case mm is 12 then 6 else
    pos 0

-- cycle month of yyyymm
unfoldable pub cycle_month : ℤ → ℤ
cycle_month m = in_cycle (month_of_year m)

-- its cycle, July to June: the year of the July that begins it
unfoldable pub cycle_of : ℤ → ℤ
cycle_of m = cond (lt_z (month_of_year m) (pos 7)) (floor m (pos 100) -ℤ pos 1) (floor m (pos 100))

abbrev pub same_cycle : ℤ → ℤ → Bool
same_cycle a m = eq_z (cycle_of a) (cycle_of m)

-- the cycle month that yearly adjustments are settled to when the month m closes, last being the last closed month (0 for none): that of
-- the last closed month where it lies in the same cycle, 0 where it lies in an earlier one; c − 1 where none is closed
unfoldable pub settled_to : ℤ → ℤ → ℤ
settled_to last m =
    cond (eq_z last (pos 0)) (cycle_month m -ℤ pos 1)
    (cond (same_cycle last m) (cycle_month last) (pos 0))
