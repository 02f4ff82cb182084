-- Paper 01's file, and the refusals 11 and 12, by computation. Assumes nothing.
use Prim.Native.Nat.{ℕ}
use Prim.Native.String.{String, ◌++◌}
use mathlib.Core.Path.{◌≡◌, refl}
use mathlib.Core.List.{[], ◌∷◌, map}
use lib.IntN.{ℤ, pos, negsuc}
use Rattle.format.specs.Bytes.{bytes, LF, CRLF}
use Rattle.format.specs.Blocks.{slices}
use Rattle.format.specs.Decimal.{shown}
use Rattle.format.specs.Grammar.{more, line, all_LF, lines_text, blocks_text, file_text}
use Rattle.format.specs.Example.{input, values}
use Rattle.format.specs.Machine.{format, in_value, enter, step, onward, judge, check_of}
use Rattle.format.specs.Values.{read_digits, read_value, read_line, read_lines, read_blocks}
use Rattle.format.specs.Reading.{scan, scan_at, ReadingAnswer, accepted, refused, reading}

-- written, it is that text; read, it gives those values, and the next position is its end
pub writes_a : file_text all_LF values ≡ bytes input
unfolding more line lines_text blocks_text shown
writes_a = refl

pub reads_a : reading (slices 2 2 2) (bytes input) 0 ≡ accepted values 192
unfolding reading scan_at scan read_blocks read_lines read_line read_value read_digits format more line in_value enter step
reads_a = refl

-- THE FILE CHECK, of a text
abbrev check : String → ℤ
check s = check_of (bytes s)

-- accepted: one file, two on end, and a file of one month line and no others
accepts :
    map check
    (input ∷ (input ++ input) ∷ "month,ons\n-1,0\nagent,pb,pv,afs,rfs,pa,ret\nuser,kind,ret,ong\nat,tp,tf,dp,df,mp,mf,vp,vf\n" ∷ [])
    ≡ negsuc 0 ∷ negsuc 0 ∷ negsuc 0 ∷ []
unfolding check_of judge onward format more line in_value enter step
accepts = refl

-- values: -0 at the 0; 01 at the 1; a 19th digit at that digit; two minus signs at the second; a plus sign; no value
wrong_values :
    map check
    ("month,ons\n-0" ∷ "month,ons\n01" ∷ "month,ons\n1234567890123456789" ∷ "month,ons\n--1" ∷ "month,ons\n+1" ∷ "month,ons\n," ∷ [])
    ≡ pos 11 ∷ pos 11 ∷ pos 28 ∷ pos 11 ∷ pos 10 ∷ pos 10 ∷ []
unfolding check_of judge onward format more line in_value enter step
wrong_values = refl

-- lines: a second month line at its first byte; no month line at the next names; a value too many; one too few; an empty line
wrong_lines :
    map check ("month,ons\n1,1\n2,2\n" ∷ "month,ons\nagent," ∷ "month,ons\n1,1,1\n" ∷ "month,ons\n1\n" ∷ "month,ons\n\n" ∷ [])
    ≡ pos 14 ∷ pos 10 ∷ pos 13 ∷ pos 11 ∷ pos 10 ∷ []
unfolding check_of judge onward format more line in_value enter step
wrong_lines = refl

-- LINE ENDS (paper 02, Q-3): the same file with CR LF after every line, and after some of them
abbrev office : String
office =
    "month,ons\r\n202407,100\r\n"
    ++ "agent,pb,pv,afs,rfs,pa,ret\r\n1,1000,0,0,0,0,4\r\n2,2000,30,0,0,25,0\r\n"
    ++ "user,kind,ret,ong\r\n1,2,0,0\r\n2,3,0,0\r\n"
    ++ "at,tp,tf,dp,df,mp,mf,vp,vf\r\n1,1000,500,0,0,3,2,3,2\r\n2,2000,0,50,0,16,0,16,0\r\n"

abbrev mixed : String
mixed =
    "month,ons\r\n202407,100\n"
    ++ "agent,pb,pv,afs,rfs,pa,ret\n1,1000,0,0,0,0,4\r\n2,2000,30,0,0,25,0\n"
    ++ "user,kind,ret,ong\n1,2,0,0\n2,3,0,0\n"
    ++ "at,tp,tf,dp,df,mp,mf,vp,vf\n1,1000,500,0,0,3,2,3,2\n2,2000,0,50,0,16,0,16,0\n"

writes_mixed : file_text (CRLF ∷ LF ∷ LF ∷ CRLF ∷ []) values ≡ bytes mixed
unfolding more line lines_text blocks_text shown
writes_mixed = refl

reads_office :
    reading (slices 2 2 2) (bytes (office ++ mixed)) 0 ∷ reading (slices 2 2 2) (bytes (office ++ mixed)) 203 ∷ []
    ≡ accepted values 203 ∷ accepted values 397 ∷ []
unfolding reading scan_at scan read_blocks read_lines read_line read_value read_digits format more line in_value enter step
reads_office = refl

-- where a line may end a CR is in order: a lone one is refused at the byte after it that is no LF, or at the text's length
lone_crs :
    map check ("month,ons\r" ∷ "month,ons\r1" ∷ "month,ons\r\r\n" ∷ "month,ons\n1,1\r2,2" ∷ "month,ons\n1,1\ragent" ∷ [])
    ≡ pos 10 ∷ pos 10 ∷ pos 10 ∷ pos 14 ∷ pos 14 ∷ []
unfolding check_of judge onward format more line in_value enter step
lone_crs = refl

-- at any other place the CR is refused: in a name; before a line's last value is complete; at a line's start; after a file
stray_crs :
    map check
    ("mon\rth"
    ∷ "month,ons\n1\r\n"
    ∷ "month,ons\n1,\r\n"
    ∷ "month,ons\n1,-\r\n"
    ∷ "month,ons\n\r\n"
    ∷ (input ++ "\r\n")
    ∷ (input ++ "\rmonth")
    ∷ [])
    ≡ pos 3 ∷ pos 11 ∷ pos 12 ∷ pos 13 ∷ pos 10 ∷ pos 192 ∷ pos 192 ∷ []
unfolding check_of judge onward format more line in_value enter step
stray_crs = refl

-- a CR is no line end before the `m` of a further file, nor at the text's end
abbrev bare : String
bare = "month,ons\n1,1\nagent,pb,pv,afs,rfs,pa,ret\nuser,kind,ret,ong\nat,tp,tf,dp,df,mp,mf,vp,vf"

no_line_end : map check ((bare ++ "\rmonth") ∷ (bare ++ "\r") ∷ (bare ++ "\r\n") ∷ (bare ++ "\r\nmonth") ∷ [])
    ≡ pos 86 ∷ pos 86 ∷ negsuc 0 ∷ pos 92 ∷ []
unfolding check_of judge onward format more line in_value enter step
no_line_end = refl

-- where the text ends too soon, its length: nothing at all, no LF after the last line, no point names; and what is no `m` after a file
wrong_ends :
    map check
    (""
    ∷ "month,ons\n1,1\nagent,pb,pv,afs,rfs,pa,ret\nuser,kind,ret,ong\nat,tp,tf,dp,df,mp,mf,vp,vf"
    ∷ (input ++ "1")
    ∷ (input ++ "\n")
    ∷ (input ++ "month")
    ∷ [])
    ≡ pos 0 ∷ pos 85 ∷ pos 193 ∷ pos 192 ∷ pos 197 ∷ []
unfolding check_of judge onward format more line in_value enter step
wrong_ends = refl

-- READING, with slices for so many agents, users and points, at a position
abbrev at : ℕ → ℕ → ℕ → ℕ → ReadingAnswer
at a u p from = reading (slices a u p) (bytes (input ++ input)) from

-- one file after the other; at and past the end 11 at the text's length; in the middle of a file 11 there
on_end : at 2 2 2 0 ∷ at 2 2 2 192 ∷ at 2 2 2 384 ∷ at 2 2 2 1000 ∷ at 2 2 2 1 ∷ []
    ≡ accepted values 192 ∷ accepted values 384 ∷ refused 11 384 ∷ refused 11 384 ∷ refused 11 1 ∷ []
unfolding reading scan_at scan read_blocks read_lines read_line read_value read_digits format more line in_value enter step
on_end = refl

-- 12 at the first byte of the line that is one more than its slice takes; places count from the text's start
too_many_lem : at 1 2 2 0 ∷ at 2 1 2 0 ∷ at 2 2 1 0 ∷ at 0 2 2 0 ∷ at 2 1 2 192 ∷ []
    ≡ refused 12 65 ∷ refused 12 110 ∷ refused 12 168 ∷ refused 12 48 ∷ refused 12 302 ∷ []
unfolding reading scan_at scan read_blocks read_lines read_line read_value read_digits format more line in_value enter step
too_many_lem = refl

-- 12 also where that line is faulty; at any other byte 11; and a fault before it comes first
abbrev none : String → ReadingAnswer
none s = reading (slices 0 0 0) (bytes ("month,ons\n1,1\nagent,pb,pv,afs,rfs,pa,ret\n" ++ s)) 0

whichever_first : none "-0" ∷ none "01" ∷ none "x" ∷ none "usex\n1" ∷ []
    ≡ refused 12 41 ∷ refused 12 41 ∷ refused 11 41 ∷ refused 11 44 ∷ []
unfolding reading scan_at scan read_blocks read_lines read_line read_value read_digits format more line in_value enter step
whichever_first = refl
