-- One small month for each refusal of paper 01's table ("Why a month comes back", "Small example"), and months with two faults, which
-- come back with the first in the paper's order: number and place, worked out from the definitions.
use Prim.Native.Nat.{ℕ, ◌+◌, ◌^◌}
use mathlib.Core.Path.{◌≡◌, refl}
use mathlib.Core.List.{List, [], ◌∷◌, ◌++◌, map}
use lib.IntN.{ℤ, pos, neg_ℤ}
use lib.ListN.{get_or, replicate}
use Rattle.ints.specs.Floor.{floor}
use Rattle.ints.specs.Range.{outside}
use Rattle.ints.specs.Sums.{sum_ℤ}
use Rattle.share.specs.Running.{part, parts_from, running_share}
use Rattle.rules.specs.Verdict.{Verdict, accepted, refused, each_line}
use Rattle.rules.specs.Lists.{each_from, side_by_side}
use Rattle.rules.specs.Calendar.{month_of_year, impossible_month}
use Rattle.rules.specs.declared.Point.{Point}
use Rattle.rules.specs.Lines.{distributor, consumer, generator, Lines, agent_of, user_of, point_of, kind_of, bad_agent, bad_user, bad_point, unfit_point}
use Rattle.rules.specs.Charges.{half_up, or_zero, use_charge, allowance, excess, overrun, of_user, EUSTs, overrun_sums, VMEs, pv_total, CPVs, ns, VDs}
use Rattle.rules.specs.Credits.{VMST}
use Rattle.rules.specs.State.{State}
use Rattle.rules.specs.declared.Lengths.{Lengths}
use Rattle.rules.specs.Refusals.{bad_counts, short_slices, bad_month, count_tests, state_tests}
use Rattle.rules.specs.Refusals.{lines_before_points, line_tests, sum_tests, refusal, opening_refusal}

-- ---- small months
abbrev Row : Type 0
Row = List ℤ

abbrev month : ℤ → ℤ → List Row → List Row → List Row → Lines
month yyyymm ons agents users points =
    record { line = record { month = yyyymm; ons = ons }; agents = map agent_of agents; users = map user_of users; points = map point_of points }

abbrev lines : List Row → List Row → List Row → Lines
lines agents users points = month (pos 202407) (pos 100) agents users points

-- an agent by its number, pb and pv; a user by its number and kind; a point by its user, dp and mf
abbrev agent : ℤ → ℤ → ℤ → Row
agent number pb pv = number ∷ pb ∷ pv ∷ pos 0 ∷ pos 0 ∷ pos 0 ∷ pos 0 ∷ []

abbrev user : ℤ → ℤ → Row
user number kind = number ∷ kind ∷ pos 0 ∷ pos 0 ∷ []

abbrev point : ℤ → ℤ → ℤ → Row
point number dp mf = number ∷ pos 1000 ∷ pos 0 ∷ dp ∷ pos 0 ∷ pos 3 ∷ mf ∷ pos 3 ∷ pos 0 ∷ []

-- good lines: an agent, a consumer, a point of it
abbrev a1 : Row
a1 = agent (pos 1) (pos 1000) (pos 0)

abbrev u1 : Row
u1 = user (pos 1) (pos 2)

abbrev u2 : Row
u2 = user (pos 2) (pos 2)

abbrev p1 : Row
p1 = point (pos 1) (pos 0) (pos 0)

-- the consumer with a correction
abbrev corrected : ℤ → Row
corrected ret = pos 1 ∷ pos 2 ∷ ret ∷ pos 0 ∷ []

-- the consumer with a direct charge
abbrev charged : ℤ → Row
charged ong = pos 1 ∷ pos 2 ∷ pos 0 ∷ ong ∷ []

-- its point of one cent: a thousandth of a real for each of 10 kW
abbrev cent : Row
cent = pos 1 ∷ pos 1 ∷ pos 0 ∷ pos 0 ∷ pos 0 ∷ pos 10 ∷ pos 0 ∷ pos 10 ∷ pos 0 ∷ []

abbrev closing_of : State → Lengths → Lines → Verdict
closing_of s n l = refusal s (short_slices s n) l

-- closing on a ledger of one user and one agent, or of two users and one agent, whose last month was 202406
abbrev closing : ℤ → Lengths → Lines → Verdict
closing credit lengths l = closing_of (record { users = 1; agents = 1; month = pos 202406; credits = credit ∷ [] }) lengths l

abbrev closing2 : ℕ → Lines → Verdict
closing2 held l =
    closing_of (record { users = 2; agents = 1; month = pos 202406; credits = pos 0 ∷ pos 0 ∷ [] }) (record { held = held; cells = 4; work = 24 }) l

-- slices just long enough for one user and one agent
abbrev room : Lengths
room = record { held = 1; cells = 2; work = 16 }

abbrev close : Lines → Verdict
close l = closing (pos 0) room l

abbrev pub Case : Type 0
Case = Verdict × Verdict

-- ---- paper 01's table, refusal by refusal: what is answered, and what is expected
unfoldable pub by_self : List Case
by_self =
    -- nothing wrong
    (close (lines (a1 ∷ []) (u1 ∷ []) (p1 ∷ [])), accepted)
    -- 1: no user lines; a count unlike the ledger's; 1,025 points, not 1,024; a last closed month that is not possible; an opening for
    -- none, for too many
    ∷ (close (lines (a1 ∷ []) [] []), refused 1 0)
    ∷ (close (lines (a1 ∷ []) (u1 ∷ u2 ∷ []) (p1 ∷ [])), refused 1 0)
    ∷ (close (lines (a1 ∷ []) (u1 ∷ []) (replicate 1025 p1)), refused 1 0)
    ∷ (close (lines (a1 ∷ []) (u1 ∷ []) (replicate 1024 p1)), accepted)
    ∷ (closing_of (record { users = 1; agents = 1; month = pos 202400; credits = pos 0 ∷ [] }) room (lines (a1 ∷ []) (u1 ∷ []) (p1 ∷ [])), refused 1 0)
    ∷ (opening_refusal 0 1 5, refused 1 0)
    ∷ (opening_refusal 513 1 513, refused 1 0)
    ∷ (opening_refusal 512 257 512, refused 1 0)
    ∷ (opening_refusal 512 256 512, accepted)
    -- 2: held of 1 for 2 users; cells too short; work too short
    ∷ (opening_refusal 2 1 1, refused 2 1)
    ∷ (closing2 1 (lines (a1 ∷ []) (u1 ∷ u2 ∷ []) (p1 ∷ [])), refused 2 1)
    ∷ (closing (pos 0) (record { held = 1; cells = 1; work = 16 }) (lines (a1 ∷ []) (u1 ∷ []) (p1 ∷ [])), refused 2 2)
    ∷ (closing (pos 0) (record { held = 1; cells = 2; work = 15 }) (lines (a1 ∷ []) (u1 ∷ []) (p1 ∷ [])), refused 2 3)
    -- 3: 202413; the last closed month again
    ∷ (close (month (pos 202413) (pos 100) (a1 ∷ []) (u1 ∷ []) (p1 ∷ [])), refused 3 0)
    ∷ (close (month (pos 202406) (pos 100) (a1 ∷ []) (u1 ∷ []) (p1 ∷ [])), refused 3 0)
    -- 4: held −1; held 10^17 + 1
    ∷ (closing (neg_ℤ (pos 1)) room (lines (a1 ∷ []) (u1 ∷ []) (p1 ∷ [])), refused 4 1)
    ∷ (closing (pos (10 ^ 17 + 1)) room (lines (a1 ∷ []) (u1 ∷ []) (p1 ∷ [])), refused 4 1)
    -- 5: dp 101; ons −1; an agent's wrong position; kind 4
    ∷ (close (lines (a1 ∷ []) (u1 ∷ []) (point (pos 1) (pos 101) (pos 0) ∷ [])), refused 5 1)
    ∷ (close (month (pos 202407) (neg_ℤ (pos 1)) (a1 ∷ []) (u1 ∷ []) (p1 ∷ [])), refused 5 0)
    ∷ (close (lines (agent (pos 2) (pos 1000) (pos 0) ∷ []) (u1 ∷ []) (p1 ∷ [])), refused 5 1)
    ∷ (close (lines (a1 ∷ []) (user (pos 1) (pos 4) ∷ []) (p1 ∷ [])), refused 5 1)
    -- and a direct charge, which is 0 to 10^11 (paper 02, Q-1)
    ∷ (close (lines (a1 ∷ []) (charged (neg_ℤ (pos 1)) ∷ []) (p1 ∷ [])), refused 5 1)
    ∷ (close (lines (a1 ∷ []) (charged (pos (10 ^ 11 + 1)) ∷ []) (p1 ∷ [])), refused 5 1)
    ∷ (close (lines (a1 ∷ []) (charged (pos (10 ^ 11)) ∷ []) (p1 ∷ [])), accepted)
    -- 6: user 3 of 2; user 0
    ∷ (closing2 2 (lines (a1 ∷ []) (u1 ∷ u2 ∷ []) (p1 ∷ point (pos 3) (pos 0) (pos 0) ∷ [])), refused 6 2)
    ∷ (close (lines (a1 ∷ []) (u1 ∷ []) (point (pos 0) (pos 0) (pos 0) ∷ [])), refused 6 1)
    -- 7: kind 3, mf 1; kind 1, dp 1; a generator's dp is free
    ∷ (close (lines (a1 ∷ []) (user (pos 1) (pos 3) ∷ []) (point (pos 1) (pos 0) (pos 1) ∷ [])), refused 7 1)
    ∷ (close (lines (a1 ∷ []) (user (pos 1) (pos 1) ∷ []) (point (pos 1) (pos 1) (pos 0) ∷ [])), refused 7 1)
    ∷ (close (lines (a1 ∷ []) (user (pos 1) (pos 3) ∷ []) (point (pos 1) (pos 50) (pos 0) ∷ [])), accepted)
    -- 8: one agent, pb 0. 9: pv 5, no points. 10: no points, all ret 0, pv 0
    ∷ (close (lines (agent (pos 1) (pos 0) (pos 0) ∷ []) (u1 ∷ []) (p1 ∷ [])), refused 8 0)
    ∷ (close (lines (agent (pos 1) (pos 1000) (pos 5) ∷ []) (u1 ∷ []) []), refused 9 0)
    ∷ (close (lines (a1 ∷ []) (u1 ∷ []) []), refused 10 0)
    -- 10 looks at debits alone: a direct charge is none
    ∷ (close (lines (a1 ∷ []) (charged (pos 5) ∷ []) []), refused 10 0)
    -- and a sum of one cent is taken: of pb; of EUST, with pv 5; of VD
    ∷ (close (lines (agent (pos 1) (pos 1) (pos 0) ∷ []) (u1 ∷ []) (p1 ∷ [])), accepted)
    ∷ (close (lines (agent (pos 1) (pos 1000) (pos 5) ∷ []) (corrected (pos 5) ∷ []) (cent ∷ [])), accepted)
    ∷ (close (lines (a1 ∷ []) (corrected (pos 1) ∷ []) []), accepted)
    ∷ []

-- ---- two faults or more: the first in the paper's order
unfoldable pub in_order : List Case
in_order =
    -- 1, 2, 3, 4, the lines; of the slices the lowest
    (opening_refusal 513 1 0, refused 1 0)
    ∷ (closing (pos 0) (record { held = 0; cells = 2; work = 16 }) (lines (a1 ∷ []) [] []), refused 1 0)
    ∷ (closing (pos 0) (record { held = 0; cells = 0; work = 0 }) (month (pos 202413) (pos 100) (a1 ∷ []) (u1 ∷ []) (p1 ∷ [])), refused 2 1)
    ∷ (closing (pos 0) (record { held = 1; cells = 0; work = 0 }) (lines (a1 ∷ []) (u1 ∷ []) (p1 ∷ [])), refused 2 2)
    ∷ (closing (neg_ℤ (pos 1)) room (month (pos 202413) (pos 100) (a1 ∷ []) (u1 ∷ []) (p1 ∷ [])), refused 3 0)
    ∷ (closing (neg_ℤ (pos 1)) room (month (pos 202407) (neg_ℤ (pos 1)) (a1 ∷ []) (u1 ∷ []) (p1 ∷ [])), refused 4 1)
    -- ons, agents, users, points
    ∷ (close (month (pos 202407) (neg_ℤ (pos 1)) (agent (pos 2) (pos 1000) (pos 0) ∷ []) (u1 ∷ []) (p1 ∷ [])), refused 5 0)
    ∷ (closing2 2 (lines (agent (pos 2) (pos 1000) (pos 0) ∷ []) (u1 ∷ user (pos 2) (pos 4) ∷ []) (p1 ∷ [])), refused 5 1)
    ∷ (closing2 2 (lines (a1 ∷ []) (u1 ∷ user (pos 2) (pos 4) ∷ []) (point (pos 1) (pos 101) (pos 0) ∷ [])), refused 5 2)
    -- a line for 5, 6, 7 before the next line: a 7, or a 6, on point 1 beats a 5 on point 2
    ∷ (close (lines (a1 ∷ []) (user (pos 1) (pos 3) ∷ []) (point (pos 1) (pos 0) (pos 1) ∷ point (pos 1) (pos 101) (pos 0) ∷ [])), refused 7 1)
    ∷ (close (lines (a1 ∷ []) (u1 ∷ []) (point (pos 2) (pos 0) (pos 0) ∷ point (pos 1) (pos 101) (pos 0) ∷ [])), refused 6 1)
    -- on one line 5 beats 6, and 5 beats 7 (a point that is a 6 has no user, so no 7)
    ∷ (close (lines (a1 ∷ []) (u1 ∷ []) (point (pos 2) (pos 101) (pos 0) ∷ [])), refused 5 1)
    ∷ (close (lines (a1 ∷ []) (user (pos 1) (pos 3) ∷ []) (point (pos 1) (pos 101) (pos 1) ∷ [])), refused 5 1)
    -- the lines before 8, 8 before 9 and 10, 9 before 10 (with no points there are no debits)
    ∷ (close (lines (agent (pos 1) (pos 0) (pos 5) ∷ []) (user (pos 1) (pos 3) ∷ []) (point (pos 1) (pos 0) (pos 1) ∷ [])), refused 7 1)
    ∷ (close (lines (agent (pos 1) (pos 0) (pos 5) ∷ []) (u1 ∷ []) []), refused 8 0)
    ∷ (close (lines (agent (pos 1) (pos 1000) (pos 5) ∷ []) (u1 ∷ []) []), refused 9 0)
    ∷ []

pub refusals : map (λ (c : Case). c.0) (by_self ++ in_order) ≡ map (λ (c : Case). c.1) (by_self ++ in_order)
unfolding by_self in_order refusal opening_refusal bad_counts short_slices bad_month count_tests state_tests lines_before_points line_tests sum_tests
    each_line impossible_month month_of_year outside bad_agent bad_user bad_point unfit_point kind_of pv_total EUSTs overrun_sums VMEs CPVs ns VDs
    each_from side_by_side of_user use_charge overrun excess allowance or_zero half_up floor sum_ℤ running_share parts_from part
refusals = refl

-- ---- amounts that the cases by hand leave out
-- a point of 100 kW that verified vp, at a tariff of 1 real: overrun begins above 110, 105 and 101 percent
abbrev measured_row : ℤ → Row
measured_row vp = pos 1 ∷ pos 1000 ∷ pos 0 ∷ pos 0 ∷ pos 0 ∷ pos 100 ∷ pos 0 ∷ vp ∷ pos 0 ∷ []

abbrev measured : ℤ → Point
measured vp = point_of (measured_row vp)

unfoldable pub amounts : List (ℤ × ℤ)
amounts =
    (overrun distributor (measured (pos 110)), pos 0)
    ∷ (overrun distributor (measured (pos 111)), pos 300)
    ∷ (overrun consumer (measured (pos 105)), pos 0)
    ∷ (overrun consumer (measured (pos 106)), pos 300)
    ∷ (overrun generator (measured (pos 101)), pos 0)
    ∷ (overrun generator (measured (pos 102)), pos 300)
    -- VME adds the correction and no direct charge: use 10,000, overrun 300, ret −7, ong 9
    ∷ (get_or (VMEs (lines [] ((pos 1 ∷ consumer ∷ neg_ℤ (pos 7) ∷ pos 9 ∷ []) ∷ []) (measured_row (pos 106) ∷ []))) 0 (pos 0), pos 10293)
    -- VMST adds afs and takes pv and rfs: 1000 − 30 + 7 − 5
    ∷ (VMST (agent_of (pos 1 ∷ pos 1000 ∷ pos 30 ∷ pos 7 ∷ pos 5 ∷ pos 0 ∷ pos 0 ∷ [])), pos 972)
    ∷ []

pub amounts_right : map (λ (c : ℤ × ℤ). c.0) amounts ≡ map (λ (c : ℤ × ℤ). c.1) amounts
unfolding amounts VMEs EUSTs overrun_sums each_from side_by_side VMST of_user use_charge overrun excess allowance or_zero half_up floor
amounts_right = refl
