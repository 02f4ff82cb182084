-- What passing over a part of the text does to reading's verdict (format's `scan`): the machine comes to the state after that part, or the
-- refusal is found in it. Assumes nothing.
use Rattle.std.specs.Prelude.{ℕ, ◌≡◌, true, false, List, ◌∷◌, ◌++◌, map, Result, Ok, Err}
use Rattle.format.specs.Bytes.{lf}
use Rattle.format.specs.Blocks.{Count, up_to}
use Rattle.format.specs.Machine.{Item, byte, end, lines, laid, State, at}
use Rattle.format.specs.Reading.{scan}
use Rattle.format.specs.declared.Fault.{Fault}
use Rattle.format.specs.declared.Fault.TheVariants.{Faulty}
use Rattle.monthfile.specs.declared.cursor.Cursor.{Cursor}
use Rattle.monthfile.specs.Cursor.{rest, byte_here, Passed}

-- the verdict on the text from the cursor on, in state s
abbrev pub verdict : Cursor → State → Result ℕ Fault
verdict c s = scan s c.at (rest c)

-- what leads from a state to another, whatever items follow
abbrev pub Before : Type 0
Before = List Item → State

-- the part of the text from c to d leads from state s to state s'
pub record Leads (c : Cursor) (s : Before) (d : Cursor) (s' : Before) : Type 0 where
  pub goes : (f : List Item) → verdict c (s f) ≡ verdict d (s' f)

-- on the way a refusal is found
pub record Refuses (c : Cursor) (s : Before) (e : Fault) : Type 0 where
  pub found : (f : List Item) → verdict c (s f) ≡ Err e

-- a part that leads from state s to state s' is passed over, from c to d, or a refusal is found in it
abbrev pub Passes : Cursor → Before → Cursor → Before → Result Unit Fault → Type 0
Passes c s d s' (Ok u) = Leads c s d s'
Passes c s d s' (Err e) = Refuses c s e

-- before the end of a line
abbrev pub at_end : Before
at_end f = at (end ∷ f)

-- after the CR of a line's end, before its LF
abbrev pub after_cr : Before
after_cr f = at (byte lf ∷ f)

-- before a line of these names
abbrev pub at_names : List ℕ → Before
at_names names f = at (map byte names ++ (end ∷ f))

-- before a block of these names, of so many lines, each with so many commas
abbrev pub at_block : List ℕ → Count → ℕ → Before
at_block names n commas f = at (laid names n commas f)

-- before lines of a block with so much room
abbrev pub several : ℕ → ℕ → Before
several room commas f = at (lines (up_to room) commas ∷ f)

-- this byte was here and is passed
pub record Taken (b : ℕ) (c d : Cursor) : Type 0 where
  pub here : byte_here b (rest c) ≡ true
  pub passed : Passed c d 1

-- it is not here, and a file must have it here
pub record Missing (b : ℕ) (c : Cursor) (e : Fault) : Type 0 where
  pub elsewhere : byte_here b (rest c) ≡ false
  pub fault : e ≡ Faulty c.at

abbrev pub Takes : ℕ → Cursor → Cursor → Result Unit Fault → Type 0
Takes b c d (Ok u) = Taken b c d
Takes b c d (Err e) = Missing b c e
