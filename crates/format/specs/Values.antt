-- The values of a file, read from a text that is known to be right (paper 01, "The month file"). The verdict on a text is
-- Reading.antt's. Assumes nothing.
use Rattle.std.specs.Prelude.{ℕ, zero, suc, ◌+◌, ◌-◌, ◌*◌, ◌≡◌, refl, Bool, true, false, cond, List, [], ◌∷◌, eqb, length, drop, get_or, ℤ, pos, neg_ℤ}
use Rattle.format.specs.Bytes.{cr, minus, is_digit, starts_line}
use Rattle.format.specs.Blocks.{Count, one, any, up_to, Block, columns}
use Rattle.format.specs.Grammar.{names_of, File, rows}

-- what was read, and what is left of the text
pub record Got (A : Type 0) : Type 0 where
  pub got : A
  pub left : List ℕ

-- digits, as many as there are but at most k, read on from a
unfoldable pub read_digits : ℕ → ℕ → List ℕ → Got ℕ
read_digits zero a t = record { got = a; left = t }
read_digits (suc k) a [] = record { got = a; left = [] }
read_digits (suc k) a (b ∷ t) = cond (is_digit b) (read_digits k (a * 10 + (b - 48)) t) (record { got = a; left = b ∷ t })

-- a minus sign before it, or none
abbrev pub with_sign : Bool → Got ℕ → Got ℤ
with_sign true g = record { got = neg_ℤ (pos g.got); left = g.left }
with_sign false g = record { got = pos g.got; left = g.left }

-- a value
unfoldable pub read_value : List ℕ → Got ℤ
read_value [] = record { got = pos 0; left = [] }
read_value (b ∷ t) = cond (eqb b minus) (with_sign true (read_digits 18 0 t)) (with_sign false (read_digits 18 0 (b ∷ t)))

-- past the end of a line, LF or CR LF; past what follows a value: a comma where more values follow on its line, else the line's end
abbrev pub past_end : List ℕ → List ℕ
past_end [] = []
past_end (b ∷ t) = cond (eqb b cr) (drop 1 t) t

abbrev pub past : ℕ → List ℕ → List ℕ
past zero t = past_end t
past (suc c) t = drop 1 t

-- so many values, each with the comma or the line's end after it
unfoldable pub read_line : ℕ → List ℕ → Got (List ℤ)
read_line zero t = record { got = []; left = t }
read_line (suc c) t =
    let v = read_value t in
    let r = read_line c (past c v.left) in
    record { got = v.got ∷ r.got; left = r.left }

-- "a line of values begins at a digit or minus sign"
abbrev pub line_here : List ℕ → Bool
line_here [] = false
line_here (b ∷ t) = starts_line b

-- lines of c values while one begins, at most k
unfoldable pub read_lines : ℕ → ℕ → List ℕ → Got (List (List ℤ))
read_lines zero c t = record { got = []; left = t }
read_lines (suc k) c t =
    let l = read_line c t in
    let r = read_lines k c l.left in
    cond (line_here t) (record { got = l.got ∷ r.got; left = r.left }) (record { got = []; left = t })

-- how many lines to read at most: as many as there is room for; where there is room for any count, as many as there are bytes
abbrev pub most : Count → List ℕ → ℕ
most one t = 1
most any t = length t
most (up_to n) t = n

-- each block: its names passed over, then its lines
unfoldable pub read_blocks : List Block → List ℕ → Got (List (List (List ℤ)))
read_blocks [] t = record { got = []; left = t }
read_blocks (b ∷ bs) t =
    let u = past_end (drop (length (names_of b)) t) in
    let ls = read_lines (most b.count u) (columns b) u in
    let r = read_blocks bs ls.left in
    record { got = ls.got ∷ r.got; left = r.left }

-- the values under their names
abbrev pub file_of : List (List (List ℤ)) → File
file_of w =
    let l = get_or (get_or w 0 []) 0 [] in
    record { month = get_or l 0 (pos 0); ons = get_or l 1 (pos 0); agents = get_or w 1 []; users = get_or w 2 []; points = get_or w 3 [] }

pub file_of_rows : (f : File) → file_of (rows f) ≡ f
file_of_rows f = refl
