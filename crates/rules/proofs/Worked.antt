-- Demand 3 at work, with nothing assumed, each closing lent the held credits in a slice of its own: the month of paper 01's example file is
-- closed on a new ledger; in the next a credit is left; the third is refused for a slice too short, and the credits stay; the first is
-- handed in again and refused.
use Prim.Native.Nat.{ℕ, zero, suc, ◌<◌}
use mathlib.Core.Path.{◌≡◌, refl, subst, subst₂}
use mathlib.Core.List.{List, [], ◌∷◌, ◌++◌}
use native.Mathlib.Omega.{arith}
use lib.IntN.{ℤ, pos, negsuc, ◌*ℤ◌}
use lib.ListN.{length, get_or, replicate}
use Rattle.ints.specs.Floor.{floor}
use Rattle.ints.specs.Range.{outside}
use Rattle.ints.specs.Sums.{sum_ℤ, Σ<}
use Rattle.share.specs.Running.{part, parts_from, running_share}
use Rattle.rules.specs.declared.Ledger.{Ledger}
use Rattle.std.specs.Prelude.{Ok, Err}
use Rattle.rules.specs.declared.outcomes.Refusal.{Refusal}
use Rattle.rules.specs.declared.outcomes.Lent.TheVariants.{Held}
use Rattle.rules.specs.declared.outcomes.Refusal.TheVariants.{ShortSlice, BadMonth}
use Rattle.rules.specs.Verdict.{accepted, refused, each_line}
use Rattle.rules.specs.Lists.{each_from, side_by_side}
use Rattle.rules.specs.Calendar.{month_of_year, impossible_month, cycle_month, cycle_of, settled_to}
use Rattle.rules.specs.Lines.{Lines, month_lines, kind_of, bad_agent, bad_user, bad_point, unfit_point}
use Rattle.rules.specs.July.{july_line, july_agents, july_points, lines, points, july}
use Rattle.rules.specs.Charges.{half_up, or_zero, use_charge, allowance, excess, overrun, of_user, EUSTs}
use Rattle.rules.specs.Charges.{overrun_sums, VMEs, pv_total, CPVs, ns, VDs, new_credits}
use Rattle.rules.specs.Credits.{VMPA, VMST, own_credit, own_credits_from, SMSEFrom, VMANTsFrom, agent_VCs_from, VCsFrom, VCs}
use Rattle.rules.specs.Table.{rounded_down, cell_at, Table}
use Rattle.rules.specs.Direct.{MonthTable}
use Rattle.rules.specs.Refusals.{bad_counts, short_slices, bad_month, count_tests, state_tests, lines_before_points}
use Rattle.rules.specs.Refusals.{line_tests, sum_tests, refusal, opening_refusal}
use Rattle.rules.specs.Calls.{Opens, state_of, closing_refusal}
use Rattle.rules.specs.Demand.{Call, Promised, left_in, Chain, AllPromised, last_credits, Demand3}
use Rattle.rules.proofs.Direct.{month_table}
use Rattle.rules.proofs.Promise.{opens_accepted, closes_accepted, closes_refused}
use Rattle.rules.proofs.Demand.{demand_3}

-- the example file's lines, in this month, with this correction of the first user and these direct charges; in August the first user is
-- owed more than it is charged, and both have direct charges
abbrev in_month : ℤ → ℤ → ℤ → ℤ → Lines
in_month month ret ong₁ ong₂ =
    month_lines (record { month = month; ons = july_line.ons }) (lines july_agents)
    ((pos 1 ∷ pos 2 ∷ ret ∷ ong₁ ∷ []) ∷ (pos 2 ∷ pos 3 ∷ pos 0 ∷ ong₂ ∷ []) ∷ [])
    (points july_points)

abbrev august : Lines
august = in_month (pos 202408) (negsuc 449) (pos 7) (pos 30)

abbrev september : Lines
september = in_month (pos 202409) (pos 0) (pos 0) (pos 0)

-- a slice of three entries, for two users: what it held before the opening, and after it
abbrev before : List ℤ
before = pos 5 ∷ pos 6 ∷ pos 77 ∷ []

abbrev after_opening : List ℤ
after_opening = pos 0 ∷ pos 0 ∷ pos 77 ∷ []

-- the slices that lend the credits: that of July, and of August, before it and after it; one entry for two users; the credits alone
abbrev held₁ : List ℤ
held₁ = pos 0 ∷ pos 0 ∷ pos 88 ∷ []

abbrev held₂ : List ℤ
held₂ = pos 0 ∷ pos 0 ∷ pos 8 ∷ pos 9 ∷ []

abbrev left₂ : List ℤ
left₂ = pos 56 ∷ pos 0 ∷ pos 8 ∷ pos 9 ∷ []

abbrev too_short : List ℤ
too_short = pos 56 ∷ []

abbrev credits : List ℤ
credits = pos 56 ∷ pos 0 ∷ []

-- the ledger of the two counts, with this last closed month
abbrev ledger : ℤ → Ledger
ledger month = record { users = 2; agents = 2; month = month }

abbrev new : Ledger
new = ledger (pos 0)

-- a cells slice of seven entries, before and after each accepted month
abbrev cells : List ℤ
cells = replicate 7 (pos 9)

abbrev table₁ : List ℤ
table₁ = pos 127 ∷ pos 508 ∷ pos 247 ∷ pos 988 ∷ pos 20 ∷ pos 80 ∷ []

abbrev table₂ : List ℤ
table₂ = pos 0 ∷ pos 504 ∷ pos 0 ∷ pos 972 ∷ pos 0 ∷ pos 100 ∷ []

abbrev cells₁ : List ℤ
cells₁ = table₁ ++ pos 9 ∷ []

-- August's with the direct charges added to its last row; the credit that the first user still holds pays none of them
abbrev billed₂ : List ℤ
billed₂ = pos 0 ∷ pos 504 ∷ pos 0 ∷ pos 972 ∷ pos 7 ∷ pos 130 ∷ []

abbrev cells₂ : List ℤ
cells₂ = billed₂ ++ pos 9 ∷ []

abbrev work : List ℕ
work = replicate 32 0

-- ---- the verdict on each closing
in_july : closing_refusal new held₁ cells work july ≡ accepted
unfolding refusal bad_counts short_slices bad_month count_tests state_tests lines_before_points line_tests sum_tests each_line bad_agent bad_user
    bad_point unfit_point outside impossible_month month_of_year floor each_from side_by_side sum_ℤ half_up or_zero use_charge allowance excess
    overrun of_user EUSTs overrun_sums VMEs pv_total CPVs ns VDs part parts_from running_share kind_of
in_july = refl

in_august : closing_refusal (ledger (pos 202407)) held₂ cells₁ work august ≡ accepted
unfolding refusal bad_counts short_slices bad_month count_tests state_tests lines_before_points line_tests sum_tests each_line bad_agent bad_user
    bad_point unfit_point outside impossible_month month_of_year floor each_from side_by_side sum_ℤ half_up or_zero use_charge allowance excess
    overrun of_user EUSTs overrun_sums VMEs pv_total CPVs ns VDs part parts_from running_share kind_of
in_august = refl

in_september : closing_refusal (ledger (pos 202408)) too_short cells₂ work september ≡ refused 2 1
unfolding refusal count_tests bad_counts short_slices impossible_month month_of_year floor outside
in_september = refl

again : closing_refusal (ledger (pos 202408)) credits cells₂ work july ≡ refused 3 0
unfolding refusal count_tests state_tests bad_counts short_slices bad_month impossible_month month_of_year floor outside
again = refl

-- ---- credits and debits of the accepted ones, and a table of them: here every exact value is whole
VCs₁ : pos 635 ∷ pos 1235 ∷ pos 100 ∷ [] ≡ VCs (state_of new held₁) july
unfolding VCsFrom agent_VCs_from VMANTsFrom SMSEFrom own_credits_from own_credit VMST VMPA settled_to cycle_of cycle_month month_of_year floor
    each_from side_by_side sum_ℤ half_up or_zero use_charge allowance excess overrun of_user EUSTs overrun_sums VMEs pv_total CPVs ns VDs part
    parts_from running_share
VCs₁ = refl

VDs₁ : pos 394 ∷ pos 1576 ∷ [] ≡ VDs (state_of new held₁) july
unfolding floor each_from side_by_side sum_ℤ half_up or_zero use_charge allowance excess overrun of_user EUSTs overrun_sums VMEs pv_total CPVs ns VDs
    part parts_from running_share
VDs₁ = refl

new₁ : new_credits (state_of new held₁) july ≡ pos 0 ∷ pos 0 ∷ []
unfolding floor each_from side_by_side sum_ℤ half_up or_zero use_charge allowance excess overrun of_user EUSTs overrun_sums VMEs pv_total CPVs ns
    new_credits part parts_from running_share
new₁ = refl

VCs₂ : pos 504 ∷ pos 972 ∷ pos 100 ∷ [] ≡ VCs (state_of (ledger (pos 202407)) held₂) august
unfolding VCsFrom agent_VCs_from VMANTsFrom SMSEFrom own_credits_from own_credit VMST VMPA settled_to cycle_of cycle_month month_of_year floor
    each_from side_by_side sum_ℤ half_up or_zero use_charge allowance excess overrun of_user EUSTs overrun_sums VMEs pv_total CPVs ns VDs part
    parts_from running_share
VCs₂ = refl

VDs₂ : pos 0 ∷ pos 1576 ∷ [] ≡ VDs (state_of (ledger (pos 202407)) held₂) august
unfolding floor each_from side_by_side sum_ℤ half_up or_zero use_charge allowance excess overrun of_user EUSTs overrun_sums VMEs pv_total CPVs ns VDs
    part parts_from running_share
VDs₂ = refl

new₂ : new_credits (state_of (ledger (pos 202407)) held₂) august ≡ credits
unfolding floor each_from side_by_side sum_ℤ half_up or_zero use_charge allowance excess overrun of_user EUSTs overrun_sums VMEs pv_total CPVs ns
    new_credits part parts_from running_share
new₂ = refl

-- three rows and two columns, one by one
each_row : (P : ℕ → Type 0) → P 0 → P 1 → P 2 → (i : ℕ) → i < 3 → P i
each_row P a b c zero h = a
each_row P a b c (suc zero) h = b
each_row P a b c (suc (suc zero)) h = c
each_row P a b c (suc (suc (suc i))) h = absurd (omega arith)

each_column : (P : ℕ → Type 0) → P 0 → P 1 → (j : ℕ) → j < 2 → P j
each_column P a b zero h = a
each_column P a b (suc zero) h = b
each_column P a b (suc (suc j)) h = absurd (omega arith)

-- a table of three payees and two users, each exact value being whole
module _ (a b c d e : ℤ) (t : List ℤ) where
  abbrev vc : List ℤ
  vc = a ∷ b ∷ c ∷ []

  abbrev vd : List ℤ
  vd = d ∷ e ∷ []

  abbrev Whole : ℕ → ℕ → Type 0
  Whole i j = cell_at 2 t i j ≡ floor (get_or vc i (pos 0) *ℤ get_or vd j (pos 0)) (sum_ℤ vd)

  abbrev Row : ℕ → Type 0
  Row i = Σ< 2 (λ j. cell_at 2 t i j) ≡ get_or vc i (pos 0)

  abbrev Column : ℕ → Type 0
  Column j = Σ< 3 (λ i. cell_at 2 t i j) ≡ get_or vd j (pos 0)

  whole_table :
      length t ≡ 6
      → Whole 0 0 → Whole 0 1 → Whole 1 0 → Whole 1 1 → Whole 2 0 → Whole 2 1
      → Row 0 → Row 1 → Row 2
      → Column 0 → Column 1
      → Table vc vd t
  whole_table n w₀₀ w₀₁ w₁₀ w₁₁ w₂₀ w₂₁ r₀ r₁ r₂ c₀ c₁ =
      record {
        size = n;
        cell = λ i j p q.
            rounded_down
            (each_row (λ x. Whole x j) (each_column (Whole 0) w₀₀ w₀₁ j q) (each_column (Whole 1) w₁₀ w₁₁ j q) (each_column (Whole 2) w₂₀ w₂₁ j q) i p);
        row = each_row Row r₀ r₁ r₂;
        column = each_column Column c₀ c₁;
      }

shared₁ : Table (VCs (state_of new held₁) july) (VDs (state_of new held₁) july) table₁
unfolding floor sum_ℤ Σ<
shared₁ =
    subst₂ (λ (x y : List ℤ). Table x y table₁) VCs₁ VDs₁
    (whole_table (pos 635) (pos 1235) (pos 100) (pos 394) (pos 1576) table₁ refl refl refl refl refl refl refl refl refl refl refl refl)

shared₂ : Table (VCs (state_of (ledger (pos 202407)) held₂) august) (VDs (state_of (ledger (pos 202407)) held₂) august) table₂
unfolding floor sum_ℤ Σ<
shared₂ =
    subst₂ (λ (x y : List ℤ). Table x y table₂) VCs₂ VDs₂
    (whole_table (pos 504) (pos 972) (pos 100) (pos 0) (pos 1576) table₂ refl refl refl refl refl refl refl refl refl refl refl refl)

billed₁_is : MonthTable (state_of new held₁) july table₁
unfolding side_by_side
billed₁_is = month_table (state_of new held₁) july refl table₁ refl shared₁

billed₂_is : MonthTable (state_of (ledger (pos 202407)) held₂) august billed₂
unfolding side_by_side
billed₂_is = month_table (state_of (ledger (pos 202407)) held₂) august refl table₂ refl shared₂

-- ---- the opening and the four closings
opening : Opens 2 2 before (record { answer = Ok tt; ledger = new }) after_opening
unfolding opening_refusal
opening = opens_accepted 2 2 before refl

-- a closing that was accepted in this month, and one that was refused and so changed nothing
abbrev closed : Ledger → List ℤ → Lines → List ℤ → List ℤ → List ℤ → Call
closed g held l cells held' cells' =
    record {
      ledger = g;
      held = held;
      lines = l;
      cells = cells;
      work = work;
      outcome = record { answer = Ok tt; ledger = ledger l.line.month };
      held_left = held';
      cells_left = cells';
      work_left = work;
    }

abbrev not_closed : Ledger → List ℤ → Lines → List ℤ → Refusal → Call
not_closed g held l cells e =
    record {
      ledger = g;
      held = held;
      lines = l;
      cells = cells;
      work = work;
      outcome = record { answer = Err e; ledger = g };
      held_left = held;
      cells_left = cells;
      work_left = work;
    }

abbrev calls : List Call
calls =
    closed new held₁ july cells held₁ cells₁
    ∷ closed (ledger (pos 202407)) held₂ august cells₁ left₂ cells₂
    ∷ not_closed (ledger (pos 202408)) too_short september cells₂ (ShortSlice Held)
    ∷ not_closed (ledger (pos 202408)) credits july cells₂ BadMonth
    ∷ []

first : Promised (closed new held₁ july cells held₁ cells₁)
first =
    subst (λ (x : List ℤ). Promised (closed new held₁ july cells (x ++ pos 88 ∷ []) cells₁)) new₁
    (closes_accepted new held₁ july cells work table₁ work in_july billed₁_is refl refl)

second : Promised (closed (ledger (pos 202407)) held₂ august cells₁ left₂ cells₂)
second =
    subst (λ (x : List ℤ). Promised (closed (ledger (pos 202407)) held₂ august cells₁ (x ++ pos 8 ∷ pos 9 ∷ []) cells₂)) new₂
    (closes_accepted (ledger (pos 202407)) held₂ august cells₁ work billed₂ work in_august billed₂_is refl refl)

promised : AllPromised calls
unfolding AllPromised
promised = (
  first,
  (
    second,
    (
      closes_refused (ledger (pos 202408)) too_short september cells₂ work (ShortSlice Held) in_september,
      (closes_refused (ledger (pos 202408)) credits july cells₂ work BadMonth again, tt),
    ),
  ),
)

-- the slice too short leaves the credits as they were, the second user's too
kept : left_in credits too_short ≡ credits
kept = refl

chain : Chain new (pos 0 ∷ pos 0 ∷ []) calls
unfolding Chain
chain = (refl, refl, (refl, refl, (refl, refl, (refl, refl, tt))))

pub worked : Demand3 2 2 before new after_opening calls
worked = demand_3 2 2 before _ after_opening opening refl calls chain promised

-- so at the end they stand where August left them
last : last_credits (pos 0 ∷ pos 0 ∷ []) calls ≡ credits
unfolding last_credits
last = refl
