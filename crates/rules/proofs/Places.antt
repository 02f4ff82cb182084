-- Paper 01's refusals 4 to 7 on a month of three agents, three users and three points, worked out from the definitions: at each place of
-- each block, and in every column one below and one above its range.
use Prim.Native.Nat.{ℕ, suc}
use mathlib.Core.Path.{◌≡◌, refl}
use mathlib.Core.List.{List, [], ◌∷◌, ◌++◌, map}
use lib.IntN.{ℤ, pos, neg_ℤ, ◌+ℤ◌, ◌-ℤ◌}
use lib.ListN.{get_or, set, replicate}
use Rattle.ints.specs.Floor.{floor}
use Rattle.ints.specs.Range.{outside}
use Rattle.ints.specs.Sums.{sum_ℤ}
use Rattle.share.specs.Running.{part, parts_from, running_share}
use Rattle.rules.specs.Verdict.{Verdict, accepted, refused, each_line}
use Rattle.rules.specs.Lists.{each_from, side_by_side}
use Rattle.rules.specs.Calendar.{month_of_year, impossible_month}
use Rattle.rules.specs.Most.{most_amount, most_held}
use Rattle.rules.specs.Lines.{distributor, consumer, generator, agent_of, user_of, point_of, kind_of, bad_agent, bad_user, bad_point, unfit_point}
use Rattle.rules.specs.Charges.{half_up, or_zero, use_charge, allowance, excess, overrun, of_user, EUSTs, overrun_sums, VMEs, pv_total, CPVs, ns, VDs}
use Rattle.rules.specs.State.{State}
use Rattle.rules.specs.declared.Lengths.{Lengths}
use Rattle.rules.specs.Refusals.{bad_counts, short_slices, bad_month, count_tests, state_tests, lines_before_points, line_tests, sum_tests, refusal}

-- ---- the month: a distributor, a consumer and a generator, with a point each; user 1's correction is above any compensation
abbrev Row : Type 0
Row = List ℤ

abbrev agents : List Row
agents = map (λ (k : ℕ). pos k ∷ pos 1000 ∷ pos 0 ∷ pos 0 ∷ pos 0 ∷ pos 0 ∷ pos 0 ∷ []) (1 ∷ 2 ∷ 3 ∷ [])

abbrev users : List Row
users = (pos 1 ∷ distributor ∷ pos most_amount ∷ []) ∷ (pos 2 ∷ consumer ∷ pos 0 ∷ []) ∷ (pos 3 ∷ generator ∷ pos 0 ∷ []) ∷ []

abbrev points : List Row
points = map (λ (k : ℕ). pos k ∷ pos 1000 ∷ pos 0 ∷ pos 0 ∷ pos 0 ∷ pos 3 ∷ pos 0 ∷ pos 3 ∷ pos 0 ∷ []) (1 ∷ 2 ∷ 3 ∷ [])

abbrev state : List ℤ → State
state credits = record { users = 3; agents = 3; month = pos 202406; credits = credits }

-- slices just long enough
abbrev room : Lengths
room = record { held = 3; cells = 12; work = 52 }

abbrev closing : List ℤ → List Row → List Row → List Row → Verdict
closing credits a u p =
    refusal (state credits) (short_slices (state credits) room)
    (record {
      line = record { month = pos 202407; ons = pos 100 };
      agents = map agent_of a;
      users = map user_of u;
      points = map point_of p;
    })

-- rows with one value changed: in the row i and the column c, both counted from 0
abbrev changed : ℕ → ℕ → ℤ → List Row → List Row
changed i c v rows = set rows i (set (get_or rows i []) c v)

abbrev none : List ℤ
none = pos 0 ∷ pos 0 ∷ pos 0 ∷ []

-- the month with one such change, or with one held credit changed
abbrev credit : ℕ → ℤ → Verdict
credit i v = closing (set none i v) agents users points

abbrev agent : ℕ → ℕ → ℤ → Verdict
agent i c v = closing none (changed i c v agents) users points

abbrev user : ℕ → ℕ → ℤ → Verdict
user i c v = closing none agents (changed i c v users) points

abbrev point : ℕ → ℕ → ℤ → Verdict
point i c v = closing none agents users (changed i c v points)

-- ---- at each place of each block
unfoldable pub places : List (Verdict × Verdict)
places =
    (closing none agents users points, accepted)
    -- 4: a held credit of −1
    ∷ (credit 0 (neg_ℤ (pos 1)), refused 4 1)
    ∷ (credit 1 (neg_ℤ (pos 1)), refused 4 2)
    ∷ (credit 2 (neg_ℤ (pos 1)), refused 4 3)
    ∷ (credit 2 (pos most_held), accepted)
    ∷ (credit 2 (pos (suc most_held)), refused 4 3)
    -- 5: pb −1; kind 4; tp −1
    ∷ (agent 0 1 (neg_ℤ (pos 1)), refused 5 1)
    ∷ (agent 1 1 (neg_ℤ (pos 1)), refused 5 2)
    ∷ (agent 2 1 (neg_ℤ (pos 1)), refused 5 3)
    ∷ (user 0 1 (pos 4), refused 5 1)
    ∷ (user 1 1 (pos 4), refused 5 2)
    ∷ (user 2 1 (pos 4), refused 5 3)
    ∷ (point 0 1 (neg_ℤ (pos 1)), refused 5 1)
    ∷ (point 1 1 (neg_ℤ (pos 1)), refused 5 2)
    ∷ (point 2 1 (neg_ℤ (pos 1)), refused 5 3)
    -- 6: user 4 of 3, and user 0
    ∷ (point 0 0 (pos 4), refused 6 1)
    ∷ (point 1 0 (pos 0), refused 6 2)
    ∷ (point 2 0 (pos 4), refused 6 3)
    -- two lines of a block: the first
    ∷ (closing none (changed 2 1 (neg_ℤ (pos 1)) (changed 1 1 (neg_ℤ (pos 1)) agents)) users points, refused 5 2)
    ∷ (closing none agents (changed 2 1 (pos 4) (changed 1 1 (pos 4) users)) points, refused 5 2)
    ∷ (closing none agents users (changed 2 1 (neg_ℤ (pos 1)) (changed 1 0 (pos 4) points)), refused 6 2)
    ∷ []

pub places_right : map (λ (c : Verdict × Verdict). c.0) places ≡ map (λ (c : Verdict × Verdict). c.1) places
unfolding places refusal bad_counts short_slices bad_month count_tests state_tests lines_before_points line_tests sum_tests each_line impossible_month
    month_of_year outside bad_agent bad_user bad_point unfit_point kind_of pv_total EUSTs overrun_sums VMEs CPVs ns VDs each_from side_by_side of_user
    use_charge overrun excess allowance or_zero half_up floor sum_ℤ running_share parts_from part
places_right = refl

-- ---- 5 in every column: its number, and its lowest and highest value
pub record Column : Type 0 where
  pub at : ℕ
  pub low : ℤ
  pub high : ℤ

abbrev column : ℕ → ℤ → ℤ → Column
column at low high = record { at = at; low = low; high = high }

-- a verdict on each end of each range, and on one beyond it
unfoldable pub ends : (ℕ → ℤ → Verdict) → List Column → List Verdict
ends f [] = []
ends f (c ∷ cs) = f c.at c.low ∷ f c.at c.high ∷ ends f cs

unfoldable pub beyond : (ℕ → ℤ → Verdict) → List Column → List Verdict
beyond f [] = []
beyond f (c ∷ cs) = f c.at (c.low -ℤ pos 1) ∷ f c.at (c.high +ℤ pos 1) ∷ beyond f cs

-- of line 2: number, and then as paper 01 has them
abbrev agent_columns : List Column
agent_columns =
    column 0 (pos 2) (pos 2) ∷ map (λ (c : ℕ). column c (pos 0) (pos most_amount)) (1 ∷ 2 ∷ 3 ∷ 4 ∷ [])
    ++ map (λ (c : ℕ). column c (neg_ℤ (pos most_amount)) (pos most_amount)) (5 ∷ 6 ∷ [])

abbrev user_columns : List Column
user_columns = column 0 (pos 2) (pos 2) ∷ column 1 (pos 1) (pos 3) ∷ column 2 (neg_ℤ (pos most_amount)) (pos most_amount) ∷ []

-- tp, tf; dp, df; mp, mf, vp, vf. Line 2 is a consumer's, whose columns are all free
abbrev point_columns : List Column
point_columns =
    map (λ (c : ℕ). column c (pos 0) (pos 100000)) (1 ∷ 2 ∷ [])
    ++ map (λ (c : ℕ). column c (pos 0) (pos 100)) (3 ∷ 4 ∷ [])
    ++ map (λ (c : ℕ). column c (pos 0) (pos 20000000)) (5 ∷ 6 ∷ 7 ∷ 8 ∷ [])

pub ends_right : ends (agent 1) agent_columns ++ ends (user 1) user_columns ++ ends (point 1) point_columns ≡ replicate 36 accepted
unfolding ends refusal bad_counts short_slices bad_month count_tests state_tests lines_before_points line_tests sum_tests each_line impossible_month
    month_of_year outside bad_agent bad_user bad_point unfit_point kind_of pv_total EUSTs overrun_sums VMEs CPVs ns VDs each_from side_by_side of_user
    use_charge overrun excess allowance or_zero half_up floor sum_ℤ running_share parts_from part
ends_right = refl

pub beyond_right : beyond (agent 1) agent_columns ++ beyond (user 1) user_columns ++ beyond (point 1) point_columns ≡ replicate 36 (refused 5 2)
unfolding beyond refusal bad_counts short_slices bad_month count_tests state_tests lines_before_points line_tests each_line
    impossible_month month_of_year outside bad_agent bad_user bad_point unfit_point kind_of floor
beyond_right = refl

-- ---- 7, a 1 in every column in turn: tf, df, mf, vf of a generator, whose dp is free; dp, df of a distributor, whose bands are free
pub kinds_right :
    map (λ (c : ℕ). point 2 c (pos 1)) (2 ∷ 4 ∷ 6 ∷ 8 ∷ 3 ∷ []) ++ map (λ (c : ℕ). point 0 c (pos 1)) (3 ∷ 4 ∷ 2 ∷ 6 ∷ 8 ∷ [])
    ≡ replicate 4 (refused 7 3) ++ accepted ∷ refused 7 1 ∷ refused 7 1 ∷ replicate 3 accepted
unfolding refusal bad_counts short_slices bad_month count_tests state_tests lines_before_points line_tests sum_tests each_line impossible_month
    month_of_year outside bad_agent bad_user bad_point unfit_point kind_of pv_total EUSTs overrun_sums VMEs CPVs ns VDs each_from side_by_side of_user
    use_charge overrun excess allowance or_zero half_up floor sum_ℤ running_share parts_from part
kinds_right = refl
