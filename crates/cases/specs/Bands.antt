-- Paper 02, Q-4: three months worked by hand in which the bands, rounded each for itself, come to other amounts than rounded together, and
-- one that comes back since nothing is left of it. A distributor, a consumer and a generator; two agents.
use Rattle.std.specs.Prelude.{ℕ, ◌≡◌, List, [], ◌∷◌, map, ℤ, pos}
use Rattle.rules.specs.Verdict.{accepted, refused}
use Rattle.rules.specs.declared.Point.{Point}
use Rattle.rules.specs.Lists.{each_from}
use Rattle.rules.specs.declared.User.{User}
use Rattle.rules.specs.Lines.{Lines, month_lines, point_of}
use Rattle.rules.specs.State.{State}
use Rattle.rules.specs.Charges.{of_user, EUSTs, overrun_sums, CPVs, VDs}
use Rattle.rules.specs.Bands.{use_once, overrun_once}
use Rattle.rules.specs.Credits.{SMSE, VMANTs, VCs}
use Rattle.rules.specs.Tally.{Fed, opened, after, verdicts}
use Rattle.cases.specs.Inputs.{these, minus, enough}

-- ons 100; agents with pb 1000 and 2000, the first with this pv
abbrev month : ℕ → ℕ → List (List ℕ) → Fed
month m pv points =
    record {
      lines = month_lines (record { month = pos m; ons = pos 100 })
          (map these ((1 ∷ 1000 ∷ pv ∷ 0 ∷ 0 ∷ 0 ∷ 0 ∷ []) ∷ (2 ∷ 2000 ∷ 0 ∷ 0 ∷ 0 ∷ 0 ∷ 0 ∷ []) ∷ []))
          (map these ((1 ∷ 1 ∷ 0 ∷ 0 ∷ []) ∷ (2 ∷ 2 ∷ 0 ∷ 0 ∷ []) ∷ (3 ∷ 3 ∷ 0 ∷ 0 ∷ []) ∷ []))
          (map (λ (row : List ℕ). point_of (these row)) points);
      lengths = enough 3 2;
    }

-- at,tp,tf,dp,df,mp,mf,vp,vf. Use of 301.5 and 100.5 cents, twice: 302 + 101, and 402 together; of 480.6
abbrev pub more : Fed
more = month 202407 3 (
    (1 ∷ 1005 ∷ 335 ∷ 0 ∷ 0 ∷ 3 ∷ 3 ∷ 3 ∷ 3 ∷ [])
    ∷ (2 ∷ 2010 ∷ 335 ∷ 50 ∷ 0 ∷ 3 ∷ 3 ∷ 3 ∷ 3 ∷ [])
    ∷ (3 ∷ 1335 ∷ 0 ∷ 10 ∷ 0 ∷ 4 ∷ 0 ∷ 4 ∷ 0 ∷ [])
    ∷ []
    )

-- use of 100.4 and 30.4 cents: 100 + 30, and 131 together; of 50.4 and 30.3: 50 + 30, and 81 together
abbrev pub less : Fed
less = month 202408 3 (
    (1 ∷ 1004 ∷ 304 ∷ 0 ∷ 0 ∷ 1 ∷ 1 ∷ 1 ∷ 1 ∷ [])
    ∷ (2 ∷ 1008 ∷ 404 ∷ 50 ∷ 25 ∷ 1 ∷ 1 ∷ 1 ∷ 1 ∷ [])
    ∷ (3 ∷ 1335 ∷ 0 ∷ 10 ∷ 0 ∷ 4 ∷ 0 ∷ 4 ∷ 0 ∷ [])
    ∷ []
    )

-- overruns, each band 1 kW beyond 110 and 105 percent: 302.4 and 92.4 cents, 302 + 92, and 395 together; 301.5 and 100.5
abbrev pub over : Fed
over = month 202409 3 (
    (1 ∷ 1008 ∷ 308 ∷ 0 ∷ 0 ∷ 10 ∷ 10 ∷ 12 ∷ 12 ∷ [])
    ∷ (2 ∷ 1005 ∷ 335 ∷ 0 ∷ 0 ∷ 20 ∷ 20 ∷ 22 ∷ 22 ∷ [])
    ∷ (3 ∷ 1335 ∷ 0 ∷ 10 ∷ 0 ∷ 4 ∷ 0 ∷ 5 ∷ 0 ∷ [])
    ∷ []
    )

-- use of 0.4 and 0.4 cents: nobody owes anything; together it is a cent
abbrev pub none : Fed
none = month 202410 0 ((1 ∷ 4 ∷ 4 ∷ 0 ∷ 0 ∷ 1 ∷ 1 ∷ 1 ∷ 1 ∷ []) ∷ [])

-- EUST, overruns, CPV and VD by user; SMSE; VMANT by agent; VC by payee
abbrev pub amounts : State → Lines → List (List ℤ)
amounts s l = EUSTs l ∷ overrun_sums l ∷ CPVs l ∷ VDs s l ∷ (SMSE s l ∷ []) ∷ VMANTs s l ∷ VCs s l ∷ []

-- the tally after these months
abbrev pub before : List Fed → State
before = after (opened 3 2)

-- an amount of each point, added over each user's
abbrev pub once : (User → Point → ℤ) → Fed → List ℤ
once f m = each_from 1 (λ k u. of_user (f u) k m.lines.points) m.lines.users

pub record ByBand : Type 0 where
  pub answers : verdicts (opened 3 2) (more ∷ less ∷ over ∷ none ∷ []) ≡ accepted ∷ accepted ∷ accepted ∷ refused 10 0 ∷ []
  pub first :
      amounts (before []) more.lines
      ≡ these (403 ∷ 403 ∷ 481 ∷ [])
      ∷ these (0 ∷ 0 ∷ 0 ∷ [])
      ∷ these (0 ∷ 1 ∷ 2 ∷ [])
      ∷ these (403 ∷ 402 ∷ 479 ∷ [])
      ∷ (minus 1813 ∷ [])
      ∷ (minus 605 ∷ minus 1208 ∷ [])
      ∷ these (392 ∷ 792 ∷ 100 ∷ [])
      ∷ []
  pub second :
      amounts (before (more ∷ [])) less.lines
      ≡ these (130 ∷ 80 ∷ 481 ∷ [])
      ∷ these (0 ∷ 0 ∷ 0 ∷ [])
      ∷ these (0 ∷ 0 ∷ 3 ∷ [])
      ∷ these (130 ∷ 80 ∷ 478 ∷ [])
      ∷ (minus 2409 ∷ [])
      ∷ (minus 803 ∷ minus 1606 ∷ [])
      ∷ these (194 ∷ 394 ∷ 100 ∷ [])
      ∷ []
  pub third :
      amounts (before (more ∷ less ∷ [])) over.lines
      ≡ these (1316 ∷ 2680 ∷ 481 ∷ [])
      ∷ these (394 ∷ 403 ∷ 384 ∷ [])
      ∷ these (0 ∷ 2 ∷ 1 ∷ [])
      ∷ these (1710 ∷ 3081 ∷ 864 ∷ [])
      ∷ these (2558 ∷ [])
      ∷ these (852 ∷ 1706 ∷ [])
      ∷ these (1849 ∷ 3706 ∷ 100 ∷ [])
      ∷ []
  -- rounded together they were
  pub once_more : once (λ u. use_once) more ≡ these (402 ∷ 402 ∷ 481 ∷ [])
  pub once_less : once (λ u. use_once) less ≡ these (131 ∷ 81 ∷ 481 ∷ [])
  pub once_over : once (λ u. overrun_once u.kind) over ≡ these (395 ∷ 402 ∷ 384 ∷ [])
  pub once_none : once (λ u. use_once) none ≡ these (1 ∷ 0 ∷ 0 ∷ [])
