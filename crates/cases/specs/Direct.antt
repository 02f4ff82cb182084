-- Paper 02, Q-1: two months worked by hand with charges that go straight to ONS (examples/direct.csv), and one that comes back since nobody
-- has a debit. A distributor with 7500, a consumer without and a generator with 41; two agents.
use Rattle.std.specs.Prelude.{ℕ, ◌≡◌, List, [], ◌∷◌, map, ℤ, pos}
use Rattle.rules.specs.Verdict.{accepted, refused}
use Rattle.rules.specs.Lines.{Lines, month_lines, point_of}
use Rattle.rules.specs.State.{State}
use Rattle.rules.specs.Charges.{VMEs, VDs, new_credits}
use Rattle.rules.specs.Credits.{SMSE, VMANTs, VCs}
use Rattle.rules.specs.Direct.{month_credits, direct}
use Rattle.rules.specs.Tally.{Fed, opened, after, verdicts}
use Rattle.cases.specs.Inputs.{these, minus, enough}

-- ons 100; agents with pb 1000 and 2000; the generator with this correction
abbrev month : ℕ → ℤ → List (List ℕ) → Fed
month m ret points =
    record {
      lines = month_lines (record { month = pos m; ons = pos 100 })
          (map these ((1 ∷ 1000 ∷ 0 ∷ 0 ∷ 0 ∷ 0 ∷ 0 ∷ []) ∷ (2 ∷ 2000 ∷ 0 ∷ 0 ∷ 0 ∷ 0 ∷ 0 ∷ []) ∷ []))
          (these (1 ∷ 1 ∷ 0 ∷ 7500 ∷ []) ∷ these (2 ∷ 2 ∷ 0 ∷ 0 ∷ []) ∷ (pos 3 ∷ pos 3 ∷ ret ∷ pos 41 ∷ []) ∷ [])
          (map (λ (row : List ℕ). point_of (these row)) points);
      lengths = enough 3 2;
    }

-- at,tp,tf,dp,df,mp,mf,vp,vf. Use of 500 + 200, 200 + 100 and 200 cents; a correction of −300 leaves the generator a credit of 100
abbrev pub july : Fed
july = month 202407 (minus 300) (
    (1 ∷ 1000 ∷ 500 ∷ 0 ∷ 0 ∷ 5 ∷ 4 ∷ 5 ∷ 4 ∷ [])
    ∷ (2 ∷ 1000 ∷ 500 ∷ 0 ∷ 0 ∷ 2 ∷ 2 ∷ 2 ∷ 2 ∷ [])
    ∷ (3 ∷ 2000 ∷ 0 ∷ 50 ∷ 0 ∷ 2 ∷ 0 ∷ 2 ∷ 0 ∷ [])
    ∷ []
    )

-- use of 400 + 200, 300 and 200, of which that credit pays 100
abbrev pub august : Fed
august = month 202408 (pos 0) (
    (1 ∷ 1000 ∷ 500 ∷ 0 ∷ 0 ∷ 4 ∷ 4 ∷ 4 ∷ 4 ∷ [])
    ∷ (2 ∷ 1000 ∷ 500 ∷ 0 ∷ 0 ∷ 2 ∷ 2 ∷ 2 ∷ 2 ∷ [])
    ∷ (3 ∷ 2000 ∷ 0 ∷ 50 ∷ 0 ∷ 2 ∷ 0 ∷ 2 ∷ 0 ∷ [])
    ∷ []
    )

-- no points: nobody has a debit, whatever goes straight to ONS
abbrev pub none : Fed
none = month 202409 (pos 0) []

-- VME, VD and new held credit by user; SMSE; VMANT by agent; VC by payee, ONS's shared part last; what each receives
abbrev pub amounts : State → Lines → List (List ℤ)
amounts s l = VMEs l ∷ VDs s l ∷ new_credits s l ∷ (SMSE s l ∷ []) ∷ VMANTs s l ∷ VCs s l ∷ month_credits s l ∷ []

-- the direct charge in each user's cell of the payee i, counted from 0
abbrev pub in_row : State → Lines → ℕ → List ℤ
in_row s l i = direct s l i 0 ∷ direct s l i 1 ∷ direct s l i 2 ∷ []

-- the tally after these months
abbrev pub before : List Fed → State
before = after (opened 3 2)

pub record Straight : Type 0 where
  pub answers : verdicts (opened 3 2) (july ∷ august ∷ none ∷ []) ≡ accepted ∷ accepted ∷ refused 10 0 ∷ []
  pub first :
      amounts (before []) july.lines
      ≡ (pos 700 ∷ pos 300 ∷ minus 100 ∷ [])
      ∷ these (700 ∷ 300 ∷ 0 ∷ [])
      ∷ these (0 ∷ 0 ∷ 100 ∷ [])
      ∷ (minus 2100 ∷ [])
      ∷ (minus 700 ∷ minus 1400 ∷ [])
      ∷ these (300 ∷ 600 ∷ 100 ∷ [])
      ∷ these (300 ∷ 600 ∷ 7641 ∷ [])
      ∷ []
  pub second :
      amounts (before (july ∷ [])) august.lines
      ≡ these (600 ∷ 300 ∷ 200 ∷ [])
      ∷ these (600 ∷ 300 ∷ 100 ∷ [])
      ∷ these (0 ∷ 0 ∷ 0 ∷ [])
      ∷ (minus 2100 ∷ [])
      ∷ (minus 700 ∷ minus 1400 ∷ [])
      ∷ these (300 ∷ 600 ∷ 100 ∷ [])
      ∷ these (300 ∷ 600 ∷ 7641 ∷ [])
      ∷ []
  -- in ONS's row alone, the generator's too, which holds a credit
  pub rows :
      map (in_row (before []) july.lines) (0 ∷ 1 ∷ 2 ∷ []) ≡ these (0 ∷ 0 ∷ 0 ∷ []) ∷ these (0 ∷ 0 ∷ 0 ∷ []) ∷ these (7500 ∷ 0 ∷ 41 ∷ []) ∷ []
