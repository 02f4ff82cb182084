-- Months without direct charges (paper 02, Q-1): what demand 3 says of a list of them is what it said before there were any.
use Rattle.std.specs.Prelude.{ℕ, suc, ◌<◌, ◌≡◌, List, [], ◌∷◌, map, ℤ, pos, ◌+ℤ◌, ◌-ℤ◌, ◌*ℤ◌, length, get_or, replicate, ◌<ℤ◌}
use Rattle.ints.specs.Bridge.{abs}
use Rattle.ints.specs.Sums.{sum_ℤ}
use Rattle.rules.specs.Verdict.{ByVerdict}
use Rattle.rules.specs.Lines.{Lines}
use Rattle.rules.specs.State.{State}
use Rattle.rules.specs.Charges.{VMEs, CPVs, VDs}
use Rattle.rules.specs.Credits.{VCs}
use Rattle.rules.specs.Table.{cell_at}
use Rattle.rules.specs.Direct.{ongs}
use Rattle.rules.specs.Tally.{opened, judged, next, after, added}
use Rattle.rules.specs.Demand.{Call, fed, billed_to_user, billed_by_payee}

-- every ong is 0, in a month and in every month of a list
abbrev pub NoDirect : Lines → Type 0
NoDirect l = ongs l.users ≡ replicate (length l.users) (pos 0)

unfoldable pub NoneDirect : List Call → Type 0
NoneDirect [] = Unit {0}
NoneDirect (c ∷ cs) = NoDirect c.lines × NoneDirect cs

-- charges less compensation, the credit of a payee, and the distance of a cell: as paper 01 has them
abbrev pub shared_charges : ℕ → State → Lines → ℤ
shared_charges j s l = get_or (VMEs l) j (pos 0) -ℤ get_or (CPVs l) j (pos 0)

abbrev pub shared_credit : ℕ → State → Lines → ℤ
shared_credit i s l = get_or (VCs s l) i (pos 0)

pub record NearShared (s : State) (l : Lines) (cells : List ℤ) : Type 0 where
  pub near :
      (i j : ℕ)
      → i < suc s.agents
      → j < s.users
      → pos (abs (cell_at s.users cells i j *ℤ sum_ℤ (VDs s l) -ℤ get_or (VCs s l) i (pos 0) *ℤ get_or (VDs s l) j (pos 0))) <ℤ sum_ℤ (VDs s l)

unfoldable pub AllNearShared : State → List Call → Type 0
AllNearShared s [] = Unit {0}
AllNearShared s (c ∷ cs) =
    ByVerdict (judged s (fed c)) (NearShared s c.lines c.cells_left) (λ n p. Unit {0}) × AllNearShared (next s (fed c)) cs

-- the totals and the distance of demand 3, of the closings cs after an opening with these counts
pub record AsBefore (users agents : ℕ) (cs : List Call) : Type 0 where
  pub user_total :
      (j : ℕ)
      → j < users
      → billed_to_user users agents j cs
      ≡ added (shared_charges j) (opened users agents) (map fed cs) +ℤ get_or (after (opened users agents) (map fed cs)).credits j (pos 0)
  pub payee_total : (i : ℕ) → i < suc agents → billed_by_payee users i cs ≡ added (shared_credit i) (opened users agents) (map fed cs)
  pub one_cent : AllNearShared (opened users agents) cs
