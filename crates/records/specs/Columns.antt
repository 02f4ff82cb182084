-- The month line's values in the order of its columns; those of agent, user and point lines are `rules`' `agent_of`, `user_of` and `point_of`.
use Rattle.std.specs.Prelude.{List, ℤ, pos, get_or}
use Rattle.rules.specs.declared.MonthLine.{MonthLine}

abbrev pub month_line_of : List ℤ → MonthLine
month_line_of l = record { month = get_or l 0 (pos 0); ons = get_or l 1 (pos 0) }
