-- Demand 3 in words: a list of closings on a newly opened ledger, and the one claim about the whole list (paper 01, "The tally of
-- demand 3").
use Rattle.std.specs.Prelude.{ℕ, suc, ◌<◌, ◌≡◌, List, [], ◌∷◌, ◌++◌, map, ℤ, pos, ◌+ℤ◌, ◌-ℤ◌, ◌*ℤ◌, length, take, drop, get_or, ◌<ℤ◌}
use Rattle.ints.specs.Bridge.{abs}
use Rattle.ints.specs.Sums.{sum_ℤ, Σ<}
use Rattle.rules.specs.declared.Ledger.{Ledger}
use Rattle.rules.specs.declared.outcomes.Outcome.{Outcome}
use Rattle.rules.specs.Verdict.{ByVerdict}
use Rattle.rules.specs.Lines.{Lines}
use Rattle.rules.specs.Charges.{VDs}
use Rattle.rules.specs.Credits.{VCs}
use Rattle.rules.specs.Table.{cell_at}
use Rattle.rules.specs.Direct.{direct}
use Rattle.rules.specs.State.{State}
use Rattle.rules.specs.Answers.{verdict_of}
use Rattle.rules.specs.Calls.{state_of, lengths_of, Closes}
use Rattle.rules.specs.Tally.{Fed, opened, judged, next, after, verdicts, counted, added, charges_less_compensation, payee_credit}

-- one closing: what was handed in, what was answered, and the slices as it left them
pub record Call : Type 0 where
  pub ledger : Ledger
  pub held : List ℤ
  pub lines : Lines
  pub cells : List ℤ
  pub work : List ℕ
  pub outcome : Outcome
  pub held_left : List ℤ
  pub cells_left : List ℤ
  pub work_left : List ℕ

-- the promise of closing, of this call
abbrev pub Promised : Call → Type 0
Promised c = Closes c.ledger c.held c.lines c.cells c.work c.outcome c.held_left c.cells_left c.work_left

-- the credits lent in a slice: the two agree as far as both reach. The slice may go on beyond the credits with anything, or end before them
abbrev pub Lent : List ℤ → List ℤ → Type 0
Lent credits held = take (length held) credits ≡ take (length credits) held

-- the credits after a call that left the slice so: as far as it reaches what it holds, past its end as they were
abbrev pub left_in : List ℤ → List ℤ → List ℤ
left_in credits held' = take (length credits) held' ++ drop (length held') credits

-- each closing is handed the ledger that the one before it answered and is lent the credits that it left; the first, those of the opening
unfoldable pub Chain : Ledger → List ℤ → List Call → Type 0
Chain g credits [] = Unit {0}
Chain g credits (c ∷ cs) = (c.ledger ≡ g) × Lent credits c.held × Chain c.outcome.ledger (left_in credits c.held_left) cs

-- every call of a list kept its promise
unfoldable pub AllPromised : List Call → Type 0
AllPromised [] = Unit {0}
AllPromised (c ∷ cs) = Promised c × AllPromised cs

-- what the tally is fed of a call
abbrev pub fed : Call → Fed
fed c = record { lines = c.lines; lengths = lengths_of c.held c.cells c.work }

-- the ledger and the held credits after the list
unfoldable pub last_ledger : Ledger → List Call → Ledger
last_ledger g [] = g
last_ledger g (c ∷ cs) = last_ledger c.outcome.ledger cs

unfoldable pub last_credits : List ℤ → List Call → List ℤ
last_credits credits [] = credits
last_credits credits (c ∷ cs) = last_credits (left_in credits c.held_left) cs

-- every call left its held slice as long as it was, and entries beyond the users as they were
unfoldable pub AllBeyond : ℕ → List Call → Type 0
AllBeyond users [] = Unit {0}
AllBeyond users (c ∷ cs) = (drop users c.held_left ≡ drop users c.held) × (length c.held_left ≡ length c.held) × AllBeyond users cs

-- an entry of the cells slice as each accepted closing left it, added over the accepted closings
unfoldable pub billed : (List ℤ → ℤ) → List Call → ℤ
billed total [] = pos 0
billed total (c ∷ cs) = counted (verdict_of c.outcome.answer) (total c.cells_left) +ℤ billed total cs

-- billed cells: for a user those of its column, for a payee those of its row
abbrev pub billed_to_user : ℕ → ℕ → ℕ → List Call → ℤ
billed_to_user users agents j cs = billed (λ cells. Σ< (suc agents) (λ i. cell_at users cells i j)) cs

abbrev pub billed_by_payee : ℕ → ℕ → List Call → ℤ
billed_by_payee users i cs = billed (λ cells. Σ< users (λ j. cell_at users cells i j)) cs

-- in an accepted month every cell, its direct charge taken off, lies less than one cent from VC × VD / ΣVD, where ONS's VC is its shared
-- part: |(cell − direct) × ΣVD − VC × VD| < ΣVD
pub record NearCells (s : State) (l : Lines) (cells : List ℤ) : Type 0 where
  pub near :
      (i j : ℕ)
      → i < suc s.agents
      → j < s.users
      → pos (abs ((cell_at s.users cells i j -ℤ direct s l i j) *ℤ sum_ℤ (VDs s l) -ℤ get_or (VCs s l) i (pos 0) *ℤ get_or (VDs s l) j (pos 0)))
      <ℤ sum_ℤ (VDs s l)

unfoldable pub AllNear : State → List Call → Type 0
AllNear s [] = Unit {0}
AllNear s (c ∷ cs) =
    ByVerdict (judged s (fed c)) (NearCells s c.lines c.cells_left) (λ n p. Unit {0}) × AllNear (next s (fed c)) cs

-- Demand 3, of the closings cs after an opening with these counts that was handed the slice held_at_opening and left g and held
pub record Demand3 (users agents : ℕ) (held_at_opening : List ℤ) (g : Ledger) (held : List ℤ) (cs : List Call) : Type 0 where
  -- each closing was accepted or refused, with number and place, as the tally says
  pub answers : map (λ (c : Call). verdict_of c.outcome.answer) cs ≡ verdicts (opened users agents) (map fed cs)
  -- the last ledger and held credits stand for the tally
  pub state : state_of (last_ledger g cs) (last_credits (take users held) cs) ≡ after (opened users agents) (map fed cs)
  -- opening and every closing left entries beyond the users as they were
  pub beyond_opening : drop users held ≡ drop users held_at_opening
  pub beyond : AllBeyond users cs
  -- a user's billed cells are its charges, direct ones too, less compensation of the accepted months plus the credit that it still holds
  pub user_total :
      (j : ℕ)
      → j < users
      → billed_to_user users agents j cs
      ≡ added (charges_less_compensation j) (opened users agents) (map fed cs) +ℤ get_or (after (opened users agents) (map fed cs)).credits j (pos 0)
  -- a payee's billed cells are its credits of the accepted months
  pub payee_total : (i : ℕ) → i < suc agents → billed_by_payee users i cs ≡ added (payee_credit i) (opened users agents) (map fed cs)
  -- every cell of an accepted month, less its direct charge, lies less than one cent from its exact value
  pub one_cent : AllNear (opened users agents) cs

-- ---- the very same slice throughout
-- each closing is handed the ledger that the one before it answered and the slice that it left, tail and length included
unfoldable pub SameSlice : Ledger → List ℤ → List Call → Type 0
SameSlice g held [] = Unit {0}
SameSlice g held (c ∷ cs) = (c.ledger ≡ g) × (c.held ≡ held) × SameSlice c.outcome.ledger c.held_left cs

-- that slice after the list
unfoldable pub last_held : List ℤ → List Call → List ℤ
last_held held [] = held
last_held held (c ∷ cs) = last_held c.held_left cs

-- what it holds then: the tally's credits, and beyond the users what it held before the opening
pub record SliceLeft (users agents : ℕ) (held_at_opening : List ℤ) (g : Ledger) (held : List ℤ) (cs : List Call) : Type 0 where
  pub state : state_of (last_ledger g cs) (last_held held cs) ≡ after (opened users agents) (map fed cs)
  pub beyond : drop users (last_held held cs) ≡ drop users held_at_opening
