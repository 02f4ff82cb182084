-- The month of paper 01's example file ("The month file"), on which its case a and ours are worked out: the values of its lines as the
-- paper prints them, each user's with a direct charge of 0 (paper 02, Q-1), and the month.
use Rattle.std.specs.Prelude.{ℕ, List, [], ◌∷◌, map, ℤ, pos}
use Rattle.rules.specs.declared.MonthLine.{MonthLine}
use Rattle.rules.specs.declared.Point.{Point}
use Rattle.rules.specs.Lines.{Lines, month_lines, point_of}

abbrev pub july_line : MonthLine
july_line = record { month = pos 202407; ons = pos 100 }

abbrev pub july_agents : List (List ℕ)
july_agents = (1 ∷ 1000 ∷ 0 ∷ 0 ∷ 0 ∷ 0 ∷ 4 ∷ []) ∷ (2 ∷ 2000 ∷ 30 ∷ 0 ∷ 0 ∷ 25 ∷ 0 ∷ []) ∷ []

abbrev pub july_users : List (List ℕ)
july_users = (1 ∷ 2 ∷ 0 ∷ 0 ∷ []) ∷ (2 ∷ 3 ∷ 0 ∷ 0 ∷ []) ∷ []

abbrev pub july_points : List (List ℕ)
july_points = (1 ∷ 1000 ∷ 500 ∷ 0 ∷ 0 ∷ 3 ∷ 2 ∷ 3 ∷ 2 ∷ []) ∷ (2 ∷ 2000 ∷ 0 ∷ 50 ∷ 0 ∷ 16 ∷ 0 ∷ 16 ∷ 0 ∷ []) ∷ []

-- lines of these values, and the points of some
abbrev pub lines : List (List ℕ) → List (List ℤ)
lines = map (map pos)

abbrev pub points : List (List ℕ) → List Point
points rows = map point_of (lines rows)

abbrev pub july : Lines
july = month_lines july_line (lines july_agents) (lines july_users) (points july_points)
