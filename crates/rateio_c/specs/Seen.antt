-- What C sees of the share, in paper 01's words ("The month file", last paragraph).
use Rattle.std.specs.Prelude.{◌≡◌, ℤ, negsuc, ◌-ℤ◌, ◌*ℤ◌, pos}
use Rattle.ints.specs.Floor.{floor}
use Rattle.share.specs.Limits.{AmountWithin, TotalWithin, SumsWithin}

-- −10^18 less a place
abbrev less_place : ℤ → ℤ
less_place k = negsuc 999999999999999999 -ℤ k

-- the part where P, W and the sums are within their limits; else −10^18 less the place of the first that is not
pub record SeenShare (P before through W seen : ℤ) : Type 0 where
  pub part : AmountWithin P → TotalWithin W → SumsWithin before through W → seen ≡ floor (P *ℤ through) W -ℤ floor (P *ℤ before) W
  pub amount : (AmountWithin P → ⊥) → seen ≡ less_place (pos 1)
  pub total : AmountWithin P → (TotalWithin W → ⊥) → seen ≡ less_place (pos 2)
  pub sums : AmountWithin P → TotalWithin W → (SumsWithin before through W → ⊥) → seen ≡ less_place (pos 3)
