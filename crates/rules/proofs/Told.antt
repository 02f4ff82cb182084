-- Every verdict on an opening or a closing is that of an answer: the refusals of `rules` are the numbers and places of paper 01's table.
use Prim.Native.Nat.{ℕ}
use mathlib.Core.List.{List}
use lib.IntN.{ℤ}
use Rattle.rules.specs.declared.Ledger.{Ledger}
use Rattle.rules.specs.declared.MonthLine.{MonthLine}
use Rattle.rules.specs.declared.Point.{Point}
use Rattle.rules.specs.declared.outcomes.Lent.TheVariants.{Held, Cells, Work}
use Rattle.rules.specs.declared.outcomes.Refusal.TheVariants.{BadCounts, ShortSlice, BadMonth, BadCredit, BadValue, NoSuchUser, UnfitPoint, NoPayments, NoUse}
use Rattle.rules.specs.declared.outcomes.Refusal.TheVariants.{NoDebit}
use Rattle.rules.specs.Verdict.{Verdict}
use Rattle.rules.specs.declared.Agent.{Agent}
use Rattle.rules.specs.declared.User.{User}
use Rattle.rules.specs.Lines.{Lines}
use Rattle.rules.specs.State.{State}
use Rattle.rules.specs.declared.Lengths.{Lengths}
use Rattle.rules.specs.Refusals.{short_slices, credit_test, agent_test, user_test, point_test, count_tests, state_tests, lines_before_points, line_tests}
use Rattle.rules.specs.Refusals.{sum_tests, refusal, opening_refusal}
use Rattle.rules.specs.Calls.{state_of, lengths_of, closing_refusal}
use Rattle.rules.proofs.Answers.{Told, told_when, told_then, told_each}

pub told_opening : (users agents n : ℕ) → Told (opening_refusal users agents n)
unfolding opening_refusal
told_opening users agents n = told_then (told_when _ BadCounts) (told_when _ (ShortSlice Held))

told_slices : (s : State) (n : Lengths) → Told (short_slices s n)
unfolding short_slices
told_slices s n = told_then (told_when _ (ShortSlice Held)) (told_then (told_when _ (ShortSlice Cells)) (told_when _ (ShortSlice Work)))

told_point : (users : List User) (k : ℕ) (p : Point) → Told (point_test users k p)
told_point users k p = told_then (told_when _ (BadValue k)) (told_then (told_when _ (NoSuchUser k)) (told_when _ (UnfitPoint k)))

told_before : (line : MonthLine) (agents : List Agent) (users : List User) → Told (lines_before_points line agents users)
unfolding lines_before_points
told_before line agents users =
    told_then (told_when _ (BadValue 0))
    (told_then (told_each agent_test (λ k a. told_when _ (BadValue k)) 1 agents) (told_each user_test (λ k u. told_when _ (BadValue k)) 1 users))

told_lines : (l : Lines) → Told (line_tests l)
unfolding line_tests
told_lines l = told_then (told_before l.line l.agents l.users) (told_each (point_test l.users) (told_point l.users) 1 l.points)

told_state : (s : State) (line : MonthLine) → Told (state_tests s line)
unfolding state_tests
told_state s line = told_then (told_when _ BadMonth) (told_each credit_test (λ k c. told_when _ (BadCredit k)) 1 s.credits)

told_sums : (s : State) (l : Lines) → Told (sum_tests s l)
unfolding sum_tests
told_sums s l = told_then (told_then (told_when _ NoPayments) (told_when _ NoUse)) (told_when _ NoDebit)

-- 1 to 10, with a verdict of 2 that an answer tells
pub told_refusal : (s : State) {short : Verdict} → Told short → (l : Lines) → Told (refusal s short l)
unfolding refusal count_tests
told_refusal s t l =
    told_then (told_then (told_when _ BadCounts) t) (told_then (told_state s l.line) (told_then (told_lines l) (told_sums s l)))

pub told_closing : (g : Ledger) (held cells : List ℤ) (work : List ℕ) (l : Lines) → Told (closing_refusal g held cells work l)
told_closing g held cells work l = told_refusal (state_of g held) (told_slices (state_of g held) (lengths_of held cells work)) l
