-- What paper 01's examples are worked out on ("The month file", "Checked by hand").
use Rattle.std.specs.Prelude.{ℕ, List, [], ◌∷◌, map, ℤ, pos, neg_ℤ}
use Rattle.format.specs.Grammar.{File}
use Rattle.rules.specs.declared.Point.{Point}
use Rattle.rules.specs.Calendar.{cycle_month, settled_to}
use Rattle.rules.specs.Credits.{VMPA}
use Rattle.rules.specs.Lines.{Lines, month_lines, agent_of, user_of, point_of}
use Rattle.rules.specs.Table.{cell_at}
use Rattle.rules.specs.declared.Lengths.{Lengths}
use Rattle.rules.specs.Refusals.{cells_needed, work_needed}
use Rattle.rules.specs.Tally.{Fed}

-- amounts as the paper writes them
abbrev pub these : List ℕ → List ℤ
these = map pos

abbrev pub minus : ℕ → ℤ
minus n = neg_ℤ (pos n)

-- the lines of a file's values
abbrev pub lines_of : File → Lines
lines_of f = month_lines (record { month = f.month; ons = f.ons }) f.agents f.users (map point_of f.points)

-- slices just long enough for so many users and agents
abbrev pub enough : ℕ → ℕ → Lengths
enough users agents = record { held = users; cells = cells_needed users agents; work = work_needed users agents }

-- d) the column of the user j in a table of 3 payees and 2 users
abbrev pub column : ℕ → List ℤ → List ℤ
column j cells = cell_at 2 cells 0 j ∷ cell_at 2 cells 1 j ∷ cell_at 2 cells 2 j ∷ []

-- e, f, g) a point of peak tariff, contracted and verified power, all else 0
abbrev pub peak : ℕ → ℕ → ℕ → Point
peak tp mp vp = point_of (these (1 ∷ tp ∷ 0 ∷ 0 ∷ 0 ∷ mp ∷ 0 ∷ vp ∷ 0 ∷ []))

-- h, i) VMPA of an agent with this yearly adjustment, in this month, with none closed before
abbrev pub VMPAin : ℤ → ℕ → ℤ
VMPAin pa m = VMPA (settled_to (pos 0) (pos m)) (cycle_month (pos m)) (agent_of (pos 1 ∷ pos 0 ∷ pos 0 ∷ pos 0 ∷ pos 0 ∷ pa ∷ pos 0 ∷ []))

-- j) two months of two consumers and one agent. User 1 has a correction of −50 and no charges in the first, charges of 80 in the second;
-- user 2 owes 100 in both, so that neither month comes back with 10
abbrev pub month : ℕ → ℤ → List Point → Fed
month m ret points =
    record {
      lines = record {
        line = record { month = pos m; ons = pos 0 };
        agents = agent_of (these (1 ∷ 1000 ∷ 0 ∷ 0 ∷ 0 ∷ 0 ∷ 0 ∷ [])) ∷ [];
        users = user_of (pos 1 ∷ pos 2 ∷ ret ∷ pos 0 ∷ []) ∷ user_of (these (2 ∷ 2 ∷ 100 ∷ 0 ∷ [])) ∷ [];
        points = points;
      };
      lengths = enough 2 1;
    }

abbrev pub j1 : Fed
j1 = month 202407 (minus 50) []

abbrev pub j2 : Fed
j2 = month 202408 (pos 0) (peak 800 1 1 ∷ [])
