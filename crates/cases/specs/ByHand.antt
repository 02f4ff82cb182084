-- Paper 01, "Checked by hand": the cases a to j, each a statement about the definitions, and the list of them. That all of them hold is
-- one fact, `checked_by_hand` of proofs/Checked.antt.
use Rattle.std.specs.Prelude.{◌≡◌, ◌⊎◌, List, [], ◌∷◌, map, ℤ, pos}
use Rattle.share.specs.Running.{running_share}
use Rattle.format.specs.Bytes.{bytes}
use Rattle.format.specs.Blocks.{slices}
use Rattle.format.specs.Reading.{reading, accepted as read}
use Rattle.format.specs.Example.{input, values}
use Rattle.rules.specs.Verdict.{accepted}
use Rattle.rules.specs.Calendar.{cycle_month, settled_to}
use Rattle.rules.specs.Lines.{consumer}
use Rattle.rules.specs.State.{State}
use Rattle.rules.specs.July.{july}
use Rattle.rules.specs.Charges.{EUSTs, VMEs, CPVs, ns, VDs, new_credits, use_charge, overrun}
use Rattle.rules.specs.Credits.{VMPA, VMST, SMSE, VMANTs, VCs}
use Rattle.rules.specs.Table.{Table}
use Rattle.rules.specs.Tally.{opened, judged, after, verdicts}
use Rattle.cases.specs.Inputs.{these, minus, lines_of, enough, column, peak, VMPAin, j1, j2}

-- every statement of a list
abbrev pub All : List (Type 0) → Type 0
All [] = Unit {0}
All (s ∷ ss) = s × All ss

-- two users with these credits; the amounts of a month look at nothing else of a state
abbrev holding : List ℤ → State
holding credits = record { users = 2; agents = 2; month = pos 0; credits = credits }

-- no credit held
abbrev none : State
none = holding (these (0 ∷ 0 ∷ []))

-- a) the file above, and the cells printed for it
abbrev pub printed : List ℤ
printed = these (127 ∷ 508 ∷ 247 ∷ 988 ∷ 20 ∷ 80 ∷ [])

pub record A : Type 0 where
  -- read whole, and closed on a new ledger
  pub read_whole : reading (slices 2 2 2) (bytes input) 0 ≡ read values 192
  pub lines : lines_of values ≡ july
  pub closed : judged (opened 2 2) (record { lines = july; lengths = enough 2 2 }) ≡ accepted
  -- charges
  pub EUST : EUSTs july ≡ these (400 ∷ 1600 ∷ [])
  pub VME : VMEs july ≡ these (400 ∷ 1600 ∷ [])
  pub CPV : CPVs july ≡ these (6 ∷ 24 ∷ [])
  pub VD : VDs none july ≡ these (394 ∷ 1576 ∷ [])
  pub held : new_credits none july ≡ these (0 ∷ 0 ∷ [])
  -- credits
  pub VMSTs : map VMST july.agents ≡ these (1000 ∷ 1970 ∷ [])
  pub VMPAs : map (VMPA (settled_to (pos 0) july.line.month) (cycle_month july.line.month)) july.agents ≡ these (0 ∷ 2 ∷ [])
  pub balance : SMSE none july ≡ minus 1106
  pub VMANT : VMANTs none july ≡ minus 369 ∷ minus 737 ∷ []
  pub VC : VCs none july ≡ these (635 ∷ 1235 ∷ 100 ∷ [])
  -- the printed cells, agent 1, agent 2, ons, are a table of these credits and debits, and there is no other: every exact value is whole
  pub cells : Table (VCs none july) (VDs none july) printed
  pub only : (cells : List ℤ) → Table (VCs none july) (VDs none july) cells → cells ≡ printed

-- b) −1106 over 1000, 2000: −369, −737
abbrev pub B : Type 0
B = running_share (minus 1106) (these (1000 ∷ 2000 ∷ [])) ≡ minus 369 ∷ minus 737 ∷ []

-- c) 30 over 300, 1700: 4, 26
abbrev pub C : Type 0
C = running_share (pos 30) (these (300 ∷ 1700 ∷ [])) ≡ these (4 ∷ 26 ∷ [])

-- d) credits 632, 1238, 100 and debits 296, 1674
abbrev pub DTable : List ℤ → Type 0
DTable = Table (these (632 ∷ 1238 ∷ 100 ∷ [])) (these (296 ∷ 1674 ∷ []))

abbrev pub d_tables : List (List ℤ)
d_tables =
    these (95 ∷ 537 ∷ 186 ∷ 1052 ∷ 15 ∷ 85 ∷ [])
    ∷ these (94 ∷ 538 ∷ 187 ∷ 1051 ∷ 15 ∷ 85 ∷ [])
    ∷ these (94 ∷ 538 ∷ 186 ∷ 1052 ∷ 16 ∷ 84 ∷ [])
    ∷ []

pub record D : Type 0 where
  -- in any table user 1 has 95, 186, 15 or 94, 187, 15 or 94, 186, 16
  pub one_of_three :
      (cells : List ℤ)
      → DTable cells
      → (column 0 cells ≡ these (95 ∷ 186 ∷ 15 ∷ []))
      ⊎ ((column 0 cells ≡ these (94 ∷ 187 ∷ 15 ∷ [])) ⊎ (column 0 cells ≡ these (94 ∷ 186 ∷ 16 ∷ [])))
  -- and each of the three stands in a table
  pub tables : All (map DTable d_tables)
  pub columns : map (column 0) d_tables ≡ these (95 ∷ 186 ∷ 15 ∷ []) ∷ these (94 ∷ 187 ∷ 15 ∷ []) ∷ these (94 ∷ 186 ∷ 16 ∷ []) ∷ []

-- e) tp 5, mp 1: 1 cent; tp 4: 0
abbrev pub E : Type 0
E = map use_charge (peak 5 1 0 ∷ peak 4 1 0 ∷ []) ≡ these (1 ∷ 0 ∷ [])

-- f) consumer, tp 5432, mp 1000, vp 1050: no overrun
abbrev pub F : Type 0
F = overrun consumer (peak 5432 1000 1050) ≡ pos 0

-- g) vp 1051: 1630
abbrev pub G : Type 0
G = overrun consumer (peak 5432 1000 1051) ≡ pos 1630

-- h) pa 25: 2 in July, 3 in June
abbrev pub H : Type 0
H = map (VMPAin (pos 25)) (202407 ∷ 202506 ∷ []) ≡ these (2 ∷ 3 ∷ [])

-- i) pa −1: −1 in July, 0 in August
abbrev pub I : Type 0
I = map (VMPAin (minus 1)) (202407 ∷ 202408 ∷ []) ≡ minus 1 ∷ pos 0 ∷ []

-- j) n of −50, then charges of 80: debit 0 with 50 held, then 30 with 0. Of user 1; user 2 owes 100 each month
pub record J : Type 0 where
  pub closed : verdicts (opened 2 1) (j1 ∷ j2 ∷ []) ≡ accepted ∷ accepted ∷ []
  pub n : ns none j1.lines ≡ minus 50 ∷ pos 100 ∷ []
  pub debit : VDs none j1.lines ≡ these (0 ∷ 100 ∷ [])
  pub held : (after (opened 2 1) (j1 ∷ [])).credits ≡ these (50 ∷ 0 ∷ [])
  pub charges : VMEs j2.lines ≡ these (80 ∷ 100 ∷ [])
  pub debit_then : VDs (holding (these (50 ∷ 0 ∷ []))) j2.lines ≡ these (30 ∷ 100 ∷ [])
  pub held_then : (after (opened 2 1) (j1 ∷ j2 ∷ [])).credits ≡ these (0 ∷ 0 ∷ [])

-- THE CASES
abbrev pub by_hand : List (Type 0)
by_hand = A ∷ B ∷ C ∷ D ∷ E ∷ F ∷ G ∷ H ∷ I ∷ J ∷ []
