-- Agent lines in their ranges, and columns of such lines as lists of values.
use Rattle.std.specs.Prelude.{ℕ, ◌≤◌, ◌<◌, ◌≡◌, List, [], map, ℤ, pos, length, get_or}
use Rattle.std.proofs.Common.{sym}
use Rattle.std.proofs.lemmas.Simd.{map-map}
use Rattle.std.proofs.lemmas.List.{length-map}
use Rattle.rules.specs.declared.Agent.{Agent}
use Rattle.rules.specs.Lists.{get_d_map}
use Rattle.rules.specs.Lines.{agent_of}
use Rattle.rules.specs.Charges.{pvs}
use Rattle.rules.specs.Credits.{pbs}
use Rattle.rules.specs.Ranges.{AmountsFit}

-- at most 256 agents, with every amount in its range
pub record AgentLines (agents : List Agent) : Type 0 where
  pub few : length agents ≤ 256
  pub line : (i : ℕ) → i < length agents → AmountsFit (get_or agents i (agent_of []))

-- the line i of lists of values
pub line_at : (lines : List (List ℤ)) → AgentLines (map agent_of lines) → (i : ℕ) → i < length lines → AmountsFit (agent_of (get_or lines i []))
line_at lines a i h = rw (get_d_map agent_of lines i [] (agent_of []) h) at (a.line i (rw length-map h))

-- the column k of lists of values
abbrev pub column : ℕ → List (List ℤ) → List ℤ
column k lines = map (λ (l : List ℤ). get_or l k (pos 0)) lines

pub pb_column : (lines : List (List ℤ)) → column 1 lines ≡ pbs (map agent_of lines)
pb_column lines = sym (map-map (λ (a : Agent). a.pb) agent_of lines)

pub pv_column : (lines : List (List ℤ)) → column 2 lines ≡ pvs (map agent_of lines)
pv_column lines = sym (map-map (λ (a : Agent). a.pv) agent_of lines)
