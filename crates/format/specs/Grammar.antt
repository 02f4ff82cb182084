-- The month file as it is written, with no machine (paper 01, "The month file"): values parted by commas, lines and their end, blocks, a
-- file, files on end. A line ends in LF or in CR LF, each for itself (paper 02, Q-3), so a file has many texts: one for each choice of its
-- lines' ends. Assumes nothing.
use Rattle.std.specs.Prelude.{ℕ, ◌≤◌, ◌≡◌, refl, ◌↔◌, List, [], ◌∷◌, ◌++◌, map, length, drop, get_or, ℤ}
use Prim.Native.String.{String}
use Rattle.std.proofs.Common.{ap, append_assoc, append-nil}
use Rattle.format.specs.Bytes.{bytes, comma, LineEnd, LF, line_end}
use Rattle.format.specs.Blocks.{Count, one, any, up_to, Block, columns, kinds, Slices, free, blocks_of, blocks}
use Rattle.format.specs.Decimal.{text, Small, All}

-- what follows the first entry of a line but its end: each further one after a comma
unfoldable pub more : List (List ℕ) → List ℕ
more [] = []
more (v ∷ vs) = comma ∷ (v ++ more vs)

-- entries parted by commas
abbrev pub entries : List (List ℕ) → List ℕ
entries [] = []
entries (v ∷ vs) = v ++ more vs

-- a line: its entries, and its end
unfoldable pub line : LineEnd → List (List ℕ) → List ℕ
line e vs = entries vs ++ line_end e

pub line_last : (e : LineEnd) (v : List ℕ) → line e (v ∷ []) ≡ v ++ line_end e
unfolding line more
line_last e v = ap (λ (x : List ℕ). x ++ line_end e) (append-nil v)

pub line_more : (e : LineEnd) (v w : List ℕ) (vs : List (List ℕ)) → line e (v ∷ w ∷ vs) ≡ v ++ (comma ∷ line e (w ∷ vs))
unfolding line more
line_more e v w vs = append_assoc v (comma ∷ (w ++ more vs)) (line_end e)

-- the ends of lines in their order; a line past the end of the list ends in LF, so the empty list is LF throughout
abbrev pub Ends : Type 0
Ends = List LineEnd

abbrev pub all_LF : Ends
all_LF = []

-- the end of the first line
abbrev pub first_end : Ends → LineEnd
first_end es = get_or es 0 LF

-- a block's names, and the line of them
abbrev pub names_of : Block → List ℕ
names_of b = entries (map bytes b.names)

abbrev pub names_text : LineEnd → Block → List ℕ
names_text e b = line e (map bytes b.names)

pub the_names :
    (r : Slices)
    → map (names_text LF) (blocks r)
    ≡ map bytes ("month,ons\n" ∷ "agent,pb,pv,afs,rfs,pa,ret\n" ∷ "user,kind,ret,ong\n" ∷ "at,tp,tf,dp,df,mp,mf,vp,vf\n" ∷ [])
unfolding line more
the_names r = refl

-- a line of values, and lines of values
abbrev pub line_text : LineEnd → List ℤ → List ℕ
line_text e zs = line e (map text zs)

unfoldable pub lines_text : Ends → List (List ℤ) → List ℕ
lines_text es [] = []
lines_text es (l ∷ ls) = line_text (first_end es) l ++ lines_text (drop 1 es) ls

-- blocks: for each its line of names, then its lines of values
unfoldable pub blocks_text : Ends → List Block → List (List (List ℤ)) → List ℕ
blocks_text es [] w = []
blocks_text es (b ∷ bs) [] = []
blocks_text es (b ∷ bs) (ls ∷ w) =
    names_text (first_end es) b ++ (lines_text (drop 1 es) ls ++ blocks_text (drop (length ls) (drop 1 es)) bs w)

-- a line of so many values, each of at most 18 digits
pub record LineFits (c : ℕ) (l : List ℤ) : Type 0 where
  pub count : length l ≡ c
  pub small : All Small l

-- so many lines
abbrev pub Counted : Count → ℕ → Type 0
Counted one n = n ≡ 1
Counted any n = Unit {0}
Counted (up_to k) n = n ≤ k

-- lines for each block, of its columns and its count
abbrev pub BlocksFit : List Block → List (List (List ℤ)) → Type 0
BlocksFit [] [] = Unit {0}
BlocksFit [] (ls ∷ w) = ⊥
BlocksFit (b ∷ bs) [] = ⊥
BlocksFit (b ∷ bs) (ls ∷ w) = All (LineFits (columns b)) ls × Counted b.count (length ls) × BlocksFit bs w

-- a file's values
pub record File : Type 0 where
  pub month : ℤ
  pub ons : ℤ
  pub agents : List (List ℤ)
  pub users : List (List ℤ)
  pub points : List (List ℤ)

-- its lines but the month line, kind by kind, and all of them, block by block
abbrev pub kinds_of : File → List (List (List ℤ))
kinds_of f = f.agents ∷ f.users ∷ f.points ∷ []

abbrev pub rows : File → List (List (List ℤ))
rows f = ((f.month ∷ f.ons ∷ []) ∷ []) ∷ kinds_of f

-- its text with these ends of its lines
abbrev pub file_text : Ends → File → List ℕ
file_text es f = blocks_text es (blocks free) (rows f)

-- it has lines of the table's columns, values of at most 18 digits, and no more lines than the slices take
abbrev pub Fits : Slices → File → Type 0
Fits r f = BlocksFit (blocks r) (rows f)

-- no kind has more lines than its slice takes
abbrev pub Few : Slices → List (List (List ℤ)) → Type 0
Few [] w = Unit {0}
Few (n ∷ r) [] = Unit {0}
Few (n ∷ r) (ls ∷ w) = (length ls ≤ n) × Few r w

-- to fit slices is to fit any count, and to have no more lines of a kind than its slice takes
blocks_few :
    (ks : List (List String)) (r : Slices) (w : List (List (List ℤ)))
    → BlocksFit (blocks_of ks r) w
    → BlocksFit (blocks_of ks free) w × Few r w
blocks_few [] [] [] x = (tt, tt)
blocks_few [] (n ∷ r) [] x = (tt, tt)
blocks_few [] r (ls ∷ w) x = absurd x
blocks_few (k ∷ ks) r [] x = absurd x
blocks_few (k ∷ ks) [] (ls ∷ w) x = (x, tt)
blocks_few (k ∷ ks) (n ∷ r) (ls ∷ w) x = let c = blocks_few ks r w x.2 in ((x.0, tt, c.0), (x.1, c.1))

few_blocks :
    (ks : List (List String)) (r : Slices) (w : List (List (List ℤ)))
    → BlocksFit (blocks_of ks free) w
    → Few r w
    → BlocksFit (blocks_of ks r) w
few_blocks [] r [] x h = tt
few_blocks [] r (ls ∷ w) x h = absurd x
few_blocks (k ∷ ks) r [] x h = absurd x
few_blocks (k ∷ ks) [] (ls ∷ w) x h = x
few_blocks (k ∷ ks) (n ∷ r) (ls ∷ w) x h = (x.0, h.0, few_blocks ks r w x.2 h.1)

pub fits_slices : (r : Slices) (f : File) → Fits r f ↔ (Fits free f × Few r (kinds_of f))
fits_slices r f = (
  λ x. let c = blocks_few kinds r (kinds_of f) x.2 in ((x.0, x.1, c.0), c.1),
  λ x. (x.0.0, x.0.1, few_blocks kinds r (kinds_of f) x.0.2 x.1),
)

-- "a text of one or more files on end"
pub data Files : List ℕ → Type 0 where
  last : (es : Ends) (f : File) → Fits free f → Files (file_text es f)
  then : (es : Ends) (f : File) → Fits free f → (t : List ℕ) → Files t → Files (file_text es f ++ t)
