-- The same language as a machine over bytes, whose state is what is still to come of the file (paper 01, "The month file", refusal 11),
-- and the file check that goes by it. proofs/Accepts.antt proves that the machine takes exactly the files of Grammar.antt.
-- Assumes nothing.
use Rattle.std.specs.Prelude.{ℕ, zero, suc, ◌+◌, ◌-◌, ◌≡◌, Bool, true, false, cond, ◌&&◌, List, [], ◌∷◌, ◌++◌, map, ltb, eqb, length, ℤ, pos, negsuc}
use Rattle.format.specs.Bytes.{lf, cr, comma, minus, m, is_digit, is_lead, starts_line}
use Rattle.format.specs.Blocks.{Count, one, any, up_to, Block, columns, Slices, free, blocks}
use Rattle.format.specs.Grammar.{names_of}

-- what stands in a file, in order: this very byte; the end of a line of names; or lines of values, so many, each with so many commas
pub data Item : Type 0 where
  byte : ℕ → Item
  end : Item
  lines : Count → ℕ → Item

-- a block laid out before what follows it: its names, the end of their line, its lines of values
abbrev pub laid : List ℕ → Count → ℕ → List Item → List Item
laid names n k f = map byte names ++ (end ∷ lines n k ∷ f)

abbrev pub laid_out : List Block → List Item
laid_out [] = []
laid_out (b ∷ bs) = laid (names_of b) b.count (columns b - 1) (laid_out bs)

-- a whole file laid out, for so many lines
unfoldable pub format : Slices → List Item
format r = laid_out (blocks r)

-- how far a value has come: nothing yet; its minus sign; a lone 0; so many digits, the first of them not 0
pub data Part : Type 0 where
  fresh : Part
  signed : Part
  nought : Part
  digits : ℕ → Part

-- where a text stands: no file goes on so; between lines, in a line of names or after the CR of a line's end, with the items still to
-- come; in a value, with so many values after it on its line, and the items that come after the line
pub data State : Type 0 where
  stuck : State
  at : List Item → State
  value : Part → ℕ → List Item → State

-- no file goes on so
abbrev pub is_stuck : State → Bool
is_stuck stuck = true
is_stuck (at f) = false
is_stuck (value p k f) = false

-- a first digit that is not 0
abbrev pub lead : ℕ → List Item → ℕ → State
lead k f b = cond (is_lead b) (value (digits 1) k f) stuck

-- the end of a line, of names or of values: LF, or a CR, after which this very byte LF is still to come
abbrev pub line_ends : List Item → ℕ → State
line_ends f b = cond (eqb b lf) (at f) (cond (eqb b cr) (at (byte lf ∷ f)) stuck)

-- after a whole value: a comma where its line has more values, else the line's end
abbrev pub ends : ℕ → List Item → ℕ → State
ends zero f b = line_ends f b
ends (suc k) f b = cond (eqb b comma) (value fresh k f) stuck

-- in a value: 1 to 18 digits, no leading zero but in 0 itself, after one minus sign if negative; -0 is wrong
unfoldable pub in_value : Part → ℕ → List Item → ℕ → State
in_value fresh k f b = cond (eqb b minus) (value signed k f) (cond (eqb b 48) (value nought k f) (lead k f b))
in_value signed k f b = lead k f b
in_value nought k f b = ends k f b
in_value (digits n) k f b = cond (is_digit b) (cond (ltb n 18) (value (digits (n + 1)) k f) stuck) (ends k f b)

-- outside values: where lines may follow, a digit or minus sign begins one, and any other byte the names after them
unfoldable pub enter : List Item → ℕ → State
enter [] b = stuck
enter (byte c ∷ f) b = cond (eqb b c) (at f) stuck
enter (end ∷ f) b = line_ends f b
enter (lines one k ∷ f) b = in_value fresh k f b
enter (lines any k ∷ f) b = cond (starts_line b) (in_value fresh k (lines any k ∷ f) b) (enter f b)
enter (lines (up_to zero) k ∷ f) b = cond (starts_line b) stuck (enter f b)
enter (lines (up_to (suc n)) k ∷ f) b = cond (starts_line b) (in_value fresh k (lines (up_to n) k ∷ f) b) (enter f b)

-- one byte of a file
unfoldable pub step : State → ℕ → State
step stuck b = stuck
step (at f) b = enter f b
step (value p k f) b = in_value p k f b

-- nothing is still to come but lines that may be missing
abbrev pub ended : List Item → Bool
ended [] = true
ended (byte c ∷ f) = false
ended (end ∷ f) = false
ended (lines one k ∷ f) = false
ended (lines any k ∷ f) = ended f
ended (lines (up_to n) k ∷ f) = ended f

-- "After the point names, or any point line, a file ends with the text or before a byte `m`"
abbrev pub final : State → Bool
final stuck = false
final (at f) = ended f
final (value p k f) = false

-- a file ends before this byte
abbrev pub ends_before : State → ℕ → Bool
ends_before s b = final s && eqb b m

-- before the first byte of a file
abbrev pub start : Slices → State
start r = at (format r)

-- one byte of a text of files on end: where a file ends before an `m`, a further file begins with it
unfoldable pub onward : State → ℕ → State
onward s b = cond (ends_before s b) (step (start free) b) (step s b)

-- the state after a text, byte by byte
unfoldable pub run : (State → ℕ → State) → State → List ℕ → State
run go s [] = s
run go s (b ∷ t) = run go (go s b) t

-- from state s the text is the rest of one file
abbrev pub From : State → List ℕ → Type 0
From s t = final (run step s t) ≡ true

-- the machine accepts the text as files on end
abbrev pub Accepted : List ℕ → Type 0
Accepted t = final (run onward (start free) t) ≡ true

-- a text's verdict: it passes, or it fails at a place
pub data TextVerdict : Type 0 where
  passes : TextVerdict
  fails : ℕ → TextVerdict

-- from state s, at the place k: the first byte with which the machine is stuck, or the end where the text may not end
unfoldable pub judge : State → ℕ → List ℕ → TextVerdict
judge s k [] = cond (final s) passes (fails k)
judge s k (b ∷ t) = cond (is_stuck (onward s b)) (fails k) (judge (onward s b) (k + 1) t)

-- a verdict as the file check's number: -1, else the place
abbrev pub number : TextVerdict → ℤ
number passes = negsuc 0
number (fails k) = pos k

-- "The file check answers -1 for a text of one or more files on end, else the place of its 11; a text over 10^15 bytes answers -2"
unfoldable pub check_of : List ℕ → ℤ
check_of t = cond (ltb 1_000_000_000_000_000 (length t)) (negsuc 1) (number (judge (start free) 0 t))
