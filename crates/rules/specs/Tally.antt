-- The tally of demand 3 (paper 01, "The tally of demand 3"). It is fed each closing's lines and the lengths of its slices, and nothing
-- from the program's ledger, held slice or cells.
use Rattle.std.specs.Prelude.{ℕ, List, [], ◌∷◌, ℤ, pos, ◌+ℤ◌, ◌-ℤ◌, get_or, replicate}
use Rattle.rules.specs.Verdict.{Verdict, accepted, refused}
use Rattle.rules.specs.Lines.{Lines}
use Rattle.rules.specs.Charges.{VMEs, CPVs, new_credits}
use Rattle.rules.specs.Direct.{ongs, month_credits}
use Rattle.rules.specs.State.{State}
use Rattle.rules.specs.declared.Lengths.{Lengths}
use Rattle.rules.specs.Refusals.{short_slices, refusal}

-- a closing as the tally is fed it
pub record Fed : Type 0 where
  pub lines : Lines
  pub lengths : Lengths

-- the two counts of an accepted opening, month and credits 0
abbrev pub opened : ℕ → ℕ → State
opened users agents = record { users = users; agents = agents; month = pos 0; credits = replicate users (pos 0) }

-- closing's refusals in their order, with the tally's own counts, month and credits
abbrev pub judged : State → Fed → Verdict
judged s f = refusal s (short_slices s f.lengths) f.lines

-- refused, it stays as it is; accepted, each user's credit becomes VD − n and its month the closed one
abbrev pub moved : Verdict → State → Fed → State
moved accepted s f = record { users = s.users; agents = s.agents; month = f.lines.line.month; credits = new_credits s f.lines }
moved (refused n p) s f = s

abbrev pub next : State → Fed → State
next s f = moved (judged s f) s f

-- the tally after a list of closings, and its verdict on each
unfoldable pub after : State → List Fed → State
after s [] = s
after s (f ∷ fs) = after (next s f) fs

unfoldable pub verdicts : State → List Fed → List Verdict
verdicts s [] = []
verdicts s (f ∷ fs) = judged s f ∷ verdicts (next s f) fs

-- an amount of each closing, added over the accepted ones
abbrev pub counted : Verdict → ℤ → ℤ
counted accepted x = x
counted (refused n p) x = pos 0

unfoldable pub added : (State → Lines → ℤ) → State → List Fed → ℤ
added amount s [] = pos 0
added amount s (f ∷ fs) = counted (judged s f) (amount s f.lines) +ℤ added amount (next s f) fs

-- charges less compensation of the user j, its direct charge among them, and the credit of the payee i, counted from 0
abbrev pub charges_less_compensation : ℕ → State → Lines → ℤ
charges_less_compensation j s l = get_or (VMEs l) j (pos 0) +ℤ get_or (ongs l.users) j (pos 0) -ℤ get_or (CPVs l) j (pos 0)

abbrev pub payee_credit : ℕ → State → Lines → ℤ
payee_credit i s l = get_or (month_credits s l) i (pos 0)
