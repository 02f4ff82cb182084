-- The blocks of a month file, as data (paper 01, "The month file"): "A line of names, then lines of values in that order; four such
-- blocks: month, agents, users, points." The language, the machine and reading all go by this one table: a name more in it is a column
-- more everywhere. Assumes nothing.
use Rattle.std.specs.Prelude.{ℕ, List, [], ◌∷◌, length}
use Prim.Native.String.{String}

-- how many lines of values a block has: exactly one; any count; at most so many, as many as a lent slice takes
pub data Count : Type 0 where
  one : Count
  any : Count
  up_to : ℕ → Count

-- a block: the names of its columns, and how many lines of values it has
pub record Block : Type 0 where
  pub names : List String
  pub count : Count

-- a line of values has one for each name
abbrev pub columns : Block → ℕ
columns b = length b.names

-- THE TABLE: the names of the month line's block, and of each kind of line of which there may be any count, as in paper 01's example;
-- `ong` is paper 02's (Q-1)
abbrev pub month : List String
month = "month" ∷ "ons" ∷ []

abbrev pub agents : List String
agents = "agent" ∷ "pb" ∷ "pv" ∷ "afs" ∷ "rfs" ∷ "pa" ∷ "ret" ∷ []

abbrev pub users : List String
users = "user" ∷ "kind" ∷ "ret" ∷ "ong" ∷ []

abbrev pub points : List String
points = "at" ∷ "tp" ∷ "tf" ∷ "dp" ∷ "df" ∷ "mp" ∷ "mf" ∷ "vp" ∷ "vf" ∷ []

abbrev pub kinds : List (List String)
kinds = agents ∷ users ∷ points ∷ []

-- how many lines the slices lent for them take, kind by kind in the table's order (refusal 12); a kind past the end has any count
abbrev pub Slices : Type 0
Slices = List ℕ

-- "One month line; of the others any count"
abbrev pub free : Slices
free = []

-- slices for so many agents, users and points
abbrev pub slices : ℕ → ℕ → ℕ → Slices
slices a u p = a ∷ u ∷ p ∷ []

-- the count of the first kind, and the slices of those after it
abbrev pub taken : Slices → Count
taken [] = any
taken (n ∷ r) = up_to n

abbrev pub others : Slices → Slices
others [] = []
others (n ∷ r) = r

-- the blocks of some kinds, and of a file
abbrev pub blocks_of : List (List String) → Slices → List Block
blocks_of [] r = []
blocks_of (k ∷ ks) r = record { names = k; count = taken r } ∷ blocks_of ks (others r)

abbrev pub blocks : Slices → List Block
blocks r = record { names = month; count = one } ∷ blocks_of kinds r
