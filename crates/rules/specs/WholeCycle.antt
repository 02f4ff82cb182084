-- A cycle of the yearly adjustments over a list of closings, whichever of its months never closed (paper 02, Q-8).
use Rattle.std.specs.Prelude.{ℕ, ◌≡◌, ◌⊎◌, cond, List, [], ◌∷◌, ℤ, pos, ◌+ℤ◌, ◌*ℤ◌, get_or, ◌≤ℤ◌}
use Rattle.ints.specs.Range.{eq_z}
use Rattle.rules.specs.Verdict.{Verdict, accepted, refused}
use Rattle.rules.specs.Calendar.{cycle_of, cycle_month, settled_to}
use Rattle.rules.specs.Lines.{Lines, agent_of}
use Rattle.rules.specs.State.{State}
use Rattle.rules.specs.Credits.{VMPA}
use Rattle.rules.specs.Tally.{Fed, judged, next}

-- the month that a list of closings closes first, 0 where it closes none
abbrev pub closed_or : Verdict → ℤ → ℤ → ℤ
closed_or accepted m later = m
closed_or (refused n p) m later = later

unfoldable pub first_closed : State → List Fed → ℤ
first_closed s [] = pos 0
first_closed s (f ∷ fs) = closed_or (judged s f) f.lines.line.month (first_closed (next s f) fs)

-- the month m is among those that it closes
unfoldable pub Closed : ℤ → State → List Fed → Type 0
Closed m s [] = ⊥
Closed m s (f ∷ fs) = ((judged s f ≡ accepted) × (f.lines.line.month ≡ m)) ⊎ Closed m (next s f) fs

-- it closes the cycle that begins in July of y whole: its first month is that July or lies before it, and the June after it is closed
pub record WholeCycle (y : ℤ) (s : State) (fs : List Fed) : Type 0 where
  pub from : first_closed s fs ≤ℤ (y *ℤ pos 100 +ℤ pos 7)
  pub to : Closed ((y +ℤ pos 1) *ℤ pos 100 +ℤ pos 6) s fs

-- in each month of the cycle that it closes the agent i, counted from 0, has this yearly adjustment
unfoldable pub SameEachMonth : ℤ → ℕ → ℤ → State → List Fed → Type 0
SameEachMonth y i pa s [] = Unit {0}
SameEachMonth y i pa s (f ∷ fs) =
    (judged s f ≡ accepted → cycle_of f.lines.line.month ≡ y → (get_or f.lines.agents i (agent_of [])).pa ≡ pa)
    × SameEachMonth y i pa (next s f) fs

-- VMPA of the agent i in a month of the cycle, 0 in any other
abbrev pub VMPAofCycle : ℤ → ℕ → State → Lines → ℤ
VMPAofCycle y i s l =
    cond (eq_z (cycle_of l.line.month) y)
    (VMPA (settled_to s.month l.line.month) (cycle_month l.line.month) (get_or l.agents i (agent_of [])))
    (pos 0)
