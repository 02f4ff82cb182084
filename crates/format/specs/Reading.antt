-- Reading one file at a position of a text (paper 01, "The month file" and "Why a month comes back", 11 and 12): the verdict by the
-- machine, with the values; and below it what paper 01 says of the answer, with no machine. proofs/Answers.antt proves that the answer is
-- so, and that nothing else is. Assumes nothing.
use Rattle.std.specs.Prelude.{ℕ, suc, ◌+◌, ◌≤◌, ◌<◌, min, ◌≡◌, ◌⊎◌, Bool, true, false, cond, ◌&&◌, List, [], ◌∷◌, ◌++◌, eqb, length, take, drop, get_or, ℤ}
use Rattle.std.specs.Prelude.{Result, Ok, Err}
use Rattle.std.proofs.Common.{arith, drop_of_length-le}
use Rattle.std.proofs.Math.Seq.{drop-length}
use Rattle.format.specs.Bytes.{starts_line}
use Rattle.format.specs.Blocks.{one, any, up_to, Slices, free, blocks}
use Rattle.format.specs.Decimal.{All}
use Rattle.format.specs.Grammar.{Ends, File, kinds_of, file_text, Fits}
use Rattle.format.specs.Machine.{Item, byte, end, lines, State, stuck, at, value, is_stuck, step, final, ends_before, start}
use Rattle.format.specs.Language.{Begins, Place, Follows, Stands}
use Rattle.format.specs.Values.{read_blocks, file_of}
use Rattle.format.specs.declared.Fault.{Fault}
use Rattle.format.specs.declared.Fault.TheVariants.{Faulty, Full}

-- the block whose lines come next has no room for one more
abbrev pub no_room : List Item → Bool
no_room [] = false
no_room (byte c ∷ f) = false
no_room (end ∷ f) = false
no_room (lines one k ∷ f) = false
no_room (lines any k ∷ f) = false
no_room (lines (up_to n) k ∷ f) = eqb n 0

-- a line begins that is one more than its slice takes
abbrev pub too_many : State → ℕ → Bool
too_many stuck b = false
too_many (at f) b = no_room f && starts_line b
too_many (value p k f) b = false

-- from state s, at the place k: 11 or 12, whichever byte comes first, or where the file ends
unfoldable pub scan : State → ℕ → List ℕ → Result ℕ Fault
scan s k [] = cond (final s) (Ok k) (Err (Faulty k))
scan s k (b ∷ t) =
    cond (ends_before s b) (Ok k)
    (cond (too_many s b) (Err (Full k))
    (cond (is_stuck (step s b)) (Err (Faulty k))
    (scan (step s b) (k + 1) t)))

-- one file from a position; "a position past the end counts as the end"
unfoldable pub scan_at : Slices → List ℕ → ℕ → Result ℕ Fault
scan_at r t from = scan (start r) (min from (length t)) (drop from t)

-- reading's answer: the file's values and the position after it, or paper 01's number and place
pub data ReadingAnswer : Type 0 where
  accepted : File → ℕ → ReadingAnswer
  refused : ℕ → ℕ → ReadingAnswer

-- a verdict as an answer, with paper 01's number
abbrev pub answer : File → Result ℕ Fault → ReadingAnswer
answer f (Ok n) = accepted f n
answer f (Err (Faulty p)) = refused 11 p
answer f (Err (Full p)) = refused 12 p

-- READING: the verdict on the file at the position, and where it is whole the file's values
unfoldable pub reading : Slices → List ℕ → ℕ → ReadingAnswer
reading r t from = answer (file_of (read_blocks (blocks r) (drop from t)).got) (scan_at r t from)

pub past_the_end : (r : Slices) (t : List ℕ) (from : ℕ) → length t ≤ from → reading r t from ≡ reading r t (length t)
unfolding reading scan_at
past_the_end r t from h =
    let e : min from (length t) ≡ min (length t) (length t) = omega arith in
    rw (drop_of_length-le t h, drop-length, e)

-- WHAT PAPER 01 SAYS OF THE ANSWER, where s is the text from the position on

-- "more lines of a kind than its slice takes"
abbrev pub Over : Slices → List (List (List ℤ)) → Type 0
Over [] w = ⊥
Over (n ∷ r) [] = ⊥
Over (n ∷ r) (ls ∷ w) = (n < length ls) ⊎ Over r w

-- at the start of the text stands a file with more lines of a kind than its slice takes
pub record Exceeds (r : Slices) (s : List ℕ) : Type 0 where
  pub stands : Stands free s
  pub over : Over r (kinds_of stands.file)

-- accepted: exactly this file stands at the position and the slices take it; the next position is the first byte after it
pub record Read (r : Slices) (t : List ℕ) (from : ℕ) (f : File) (next : ℕ) : Type 0 where
  pub fits : Fits r f
  pub ends : Ends
  pub rest : List ℕ
  pub follows : Follows rest
  pub is : drop from t ≡ file_text ends f ++ rest
  pub next_is : next ≡ min from (length t) + length (file_text ends f)

-- why a file comes back at its byte q: 11, no file of any size could have this byte there (or go no further than the text's end);
-- 12, a line of values begins there, and with it the file has more lines of a kind than its slice takes
pub data Why (r : Slices) (s : List ℕ) (q number : ℕ) : Type 0 where
  faulty : number ≡ 11 → Place (Stands free) s q → Why r s q number
  too_long : number ≡ 12 → q < length s → starts_line (get_or s q 0) ≡ true → Begins (Exceeds r) (take (suc q) s) → Why r s q number

-- refused: at the first byte that no file that the slices take could have there, "whichever byte comes first"
pub record Back (r : Slices) (t : List ℕ) (from number place : ℕ) : Type 0 where
  pub past : ℕ
  pub place_is : place ≡ min from (length t) + past
  pub first : Place (Stands r) (drop from t) past
  pub why : Why r (drop from t) past number

-- what an answer says
abbrev pub Says : (r : Slices) (t : List ℕ) (from : ℕ) → ReadingAnswer → Type 0
Says r t from (accepted f next) = Read r t from f next
Says r t from (refused number place) = Back r t from number place

-- every slice takes at least so many lines
abbrev pub AtLeast : ℕ → Slices → Type 0
AtLeast n r = All (λ (k : ℕ). n ≤ k) r

-- file after file is read to the text's end
pub data ReadsOn (r : Slices) (t : List ℕ) : ℕ → Type 0 where
  last : (from : ℕ) (f : File) → reading r t from ≡ accepted f (length t) → ReadsOn r t from
  then : (from : ℕ) (f : File) (next : ℕ) → reading r t from ≡ accepted f next → ReadsOn r t next → ReadsOn r t from

-- file after file is read, and before the text's end one comes back with this number and place
pub data ComesBack (r : Slices) (t : List ℕ) : ℕ → ℕ → ℕ → Type 0 where
  here : (from number place : ℕ) → reading r t from ≡ refused number place → ComesBack r t from number place
  further : (from : ℕ) (f : File) (next number place : ℕ)
      → reading r t from ≡ accepted f next
      → next < length t
      → ComesBack r t next number place
      → ComesBack r t from number place
