-- The limits of the exported share said positively (paper 01, "The month file", last paragraph), and what an answer says of them.
use Rattle.std.specs.Prelude.{◌≡◌, ◌↔◌, ℤ, pos, negsuc, ◌-ℤ◌, ◌*ℤ◌, ◌≤ℤ◌}
use Rattle.ints.specs.Floor.{floor}
use Rattle.ints.specs.Range.{Within}
use Rattle.share.specs.Answer.{ShareAnswer, answers, refuses}

-- P is −10^17 to 10^17
abbrev pub AmountWithin : ℤ → Type 0
AmountWithin P = Within (negsuc 99999999999999999) (pos 100000000000000000) P

-- W is 1 to 10^17
abbrev pub TotalWithin : ℤ → Type 0
TotalWithin W = Within (pos 1) (pos 100000000000000000) W

-- 0 ≤ before ≤ through ≤ W
pub record SumsWithin (before through W : ℤ) : Type 0 where
  pub low : pos 0 ≤ℤ before
  pub between : before ≤ℤ through
  pub high : through ≤ℤ W

-- the part exactly where all three are within; 5 with a place exactly where that is the first that is not
pub record ShareLimits (P before through W : ℤ) (a : ShareAnswer) : Type 0 where
  pub part : (x : ℤ) → (a ≡ answers x)
      ↔ (AmountWithin P × TotalWithin W × SumsWithin before through W × (x ≡ floor (P *ℤ through) W -ℤ floor (P *ℤ before) W))
  pub amount : (a ≡ refuses 5 1) ↔ (AmountWithin P → ⊥)
  pub total : (a ≡ refuses 5 2) ↔ (AmountWithin P × (TotalWithin W → ⊥))
  pub sums : (a ≡ refuses 5 3) ↔ (AmountWithin P × TotalWithin W × (SumsWithin before through W → ⊥))
