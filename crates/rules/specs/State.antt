-- What a ledger and its held credits stand for; the tally of demand 3 holds the same (paper 01, "The ledger").
use Rattle.std.specs.Prelude.{ℕ, List, ℤ}

-- the counts, the last closed month (0 for none), one credit per user
pub record State : Type 0 where
  pub users : ℕ
  pub agents : ℕ
  pub month : ℤ
  pub credits : List ℤ
