-- What is found of a closing on which 1 and 2 are tested: refusals 1 to 10 in the order of `rules`, and the amounts.
use Rattle.std.specs.Prelude.{◌≤◌, ◌≡◌, Result, IfOk, List, ℤ, length}
use Rattle.rules.specs.declared.Ledger.{Ledger}
use Rattle.rules.specs.declared.outcomes.Refusal.{Refusal}
use Rattle.rules.specs.Verdict.{Verdict, accepted}
use Rattle.rules.specs.Answers.{verdict_of}
use Rattle.rules.specs.Lines.{Lines}
use Rattle.rules.specs.State.{State}
use Rattle.rules.specs.Refusals.{count_tests, line_tests, sum_tests, refusal}
use Rattle.rules.specs.Tested.{Tested}
use Rattle.rules.specs.Calls.{state_of}
use Rattle.charges.specs.declared.month.Bills.{Bills}
use Rattle.charges.specs.declared.scan.Sums.{Sums}
use Rattle.charges.specs.Scan.{SumsOf}
use Rattle.charges.specs.Month.{Billed}
use Rattle.closing.specs.declared.judge.Judged.{Judged}

-- ---- what a call hands in, of the lines l
-- `first` is the verdict of 1 and 2; where that of 2 on the slices that the call was lent, `short`, is fine, the held slice has an
-- entry for each user
pub record Begun (g : Ledger) (held : List ℤ) (l : Lines) (first : Result (Unit {0}) Refusal) (short : Verdict) : Type 0 where
  pub verdict : verdict_of first ≡ count_tests (state_of g held) short (length l.users) (length l.agents) (length l.points)
  pub long_held : short ≡ accepted → g.users ≤ length held

-- ---- 8, 9 and 10: the lines l have passed the tests before, held are the state's credits, and s is what a scan of the points has found
pub record Weighable (held : List ℤ) (l : Lines) (s : Sums) (st : State) : Type 0 where
  pub tests : Tested st l
  pub held_are : held ≡ st.credits
  pub sums : SumsOf l s

-- ---- what is answered: a verdict, and what is found where it is accepted
pub record JudgesBy {T : Type 0} (v : Verdict) (Found : T → Type 0) (r : Result T Refusal) : Type 0 where
  pub verdict : verdict_of r ≡ v
  pub found : IfOk r Found

-- 5 to 7
abbrev pub Scans : Lines → Result Sums Refusal → Type 0
Scans l r = JudgesBy (line_tests l) (SumsOf l) r

-- 8 to 10
abbrev pub Weighs : State → Lines → Result Bills Refusal → Type 0
Weighs st l r = JudgesBy (sum_tests st l) (Billed (length l.users) st l) r

-- 1 to 10
pub record Finds (st : State) (l : Lines) (j : Judged) : Type 0 where
  pub sums : SumsOf l j.sums
  pub bills : Billed (length l.users) st l j.bills

abbrev pub Judges : Ledger → List ℤ → Verdict → Lines → Result Judged Refusal → Type 0
Judges g held short l r = JudgesBy (refusal (state_of g held) short l) (Finds (state_of g held) l) r
