-- The tariff year read against the calendar (paper 02, Q-7 and Q-8).
use Rattle.std.specs.Prelude.{◌≡◌, ◌≢◌, ℤ, pos, ◌+ℤ◌, ◌≤ℤ◌, ◌<ℤ◌}
use Rattle.rules.specs.Calendar.{month_before, cycle_month}
use Rattle.rules.specs.Limits.{Month}

-- of a month from 200001 to 209912 that exists: January is 7, July is 1, any other month one more than the month before it
pub record TariffYear {m : ℤ} (t : Month m) : Type 0 where
  pub january : t.mm ≡ pos 1 → cycle_month m ≡ pos 7
  pub july : t.mm ≡ pos 7 → cycle_month m ≡ pos 1
  pub other : t.mm ≢ pos 1 → t.mm ≢ pos 7 → cycle_month m ≡ cycle_month (month_before m) +ℤ pos 1

-- what the month before is: it exists, it is earlier, and no month that exists lies between
pub record LastBefore (m b : ℤ) : Type 0 where
  pub exists : Month b
  pub earlier : b <ℤ m
  pub last : (n : ℤ) → Month n → n <ℤ m → n ≤ℤ b

-- a July lies after the month a and up to m
pub record JulyBetween (a m : ℤ) : Type 0 where
  pub july : ℤ
  pub exists : Month july
  pub mm : exists.mm ≡ pos 7
  pub after : a <ℤ july
  pub upto : july ≤ℤ m
