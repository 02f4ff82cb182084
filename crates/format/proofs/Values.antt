-- READING GIVES BACK WHAT WAS WRITTEN: the values read from a file's text are the file's. Assumes nothing.
use Prim.Native.Nat.{ℕ, zero, suc, ◌+◌, ◌-◌, ◌*◌, ◌≤◌, ◌<◌}
use mathlib.Core.Path.{◌≡◌, refl, ap, sym, ◌∙◌, subst}
use mathlib.Core.Bool.{Bool, true, false, cond}
use mathlib.Core.List.{List, [], ◌∷◌, ◌++◌, map, append_assoc}
use native.Mathlib.Omega.{arith}
use lib.ListN.{length, drop, length-append}
use lib.Seq.{drop-append_seam}
use lib.IntN.{ℤ, pos, negsuc}
use mir.Val.{SFits}
use mir.Syntax.{w64}
use borrow.Author.Tests.{ne_eqb}
use Rattle.format.specs.Bytes.{lf, cr, comma, LineEnd, LF, CRLF, line_end, minus, is_digit, is_digit_lem, starts_line, Digit}
use Rattle.format.specs.Blocks.{Count, one, any, up_to, Block, columns, Slices, blocks}
use Rattle.format.specs.Decimal.{shown, text, Small, All}
use Rattle.format.specs.Grammar.{more, entries, line, Ends, first_end, names_of, names_text, line_text, lines_text, blocks_text, LineFits, Counted}
use Rattle.format.specs.Grammar.{BlocksFit, File, rows, file_text, Fits}
use Rattle.format.specs.Language.{Follows}
use Rattle.format.specs.Values.{Got, past_end, read_digits, with_sign, read_value, read_line, line_here, read_lines, most, read_blocks, file_of}
use Rattle.format.proofs.Decimals.{said, numeral, read_back}
use Rattle.format.proofs.Table.{Named, Headed, all_headed}
use Rattle.format.proofs.Laid.{line_then}
use Rattle.format.proofs.Takes.{line_begun}

digits_read :
    (k : ℕ) (ds : List ℕ) (a b : ℕ) (x : List ℕ)
    → length ds ≤ k
    → All Digit ds
    → is_digit b ≡ false
    → read_digits k a (ds ++ (b ∷ x)) ≡ record { got = said a ds; left = b ∷ x }
unfolding read_digits said
digits_read zero [] a b x h t e = refl
digits_read zero (d ∷ ds) a b x h t e = absurd (omega arith)
digits_read (suc k) [] a b x h t e = rw e
digits_read (suc k) (d ∷ ds) a b x h t e =
    ap (λ (q : Bool). cond q (read_digits k (a * 10 + (d - 48)) (ds ++ (b ∷ x))) (record { got = a; left = d ∷ (ds ++ (b ∷ x)) }))
    ((is_digit_lem d).1 t.0)
    ∙ digits_read k ds (a * 10 + (d - 48)) b x (omega arith) t.1 e

-- a number's digits, and no minus sign first
record Print (n : ℕ) : Type 0 where
  first : ℕ
  rest : List ℕ
  is : shown 18 n ≡ first ∷ rest
  no_minus : first ≡ minus → ⊥
  digits : All Digit (first ∷ rest)
  short : length rest ≤ 17

print : (n : ℕ) → n < 1_000_000_000_000_000_000 → Print n
unfolding shown
print zero h =
    record {
      first = 48;
      rest = [];
      is = refl;
      no_minus = λ e. omega arith;
      digits = (record { low = omega arith; high = omega arith }, tt);
      short = omega arith;
    }
print (suc n) h =
    let c = numeral (suc n) (omega arith) h in
    record {
      first = c.first;
      rest = c.rest;
      is = c.is;
      no_minus = λ e. omega (arith, c.low);
      digits = (record { low = omega (arith, c.low); high = c.high }, c.digits);
      short = c.short;
    }

module _ (b : ℕ) (x : List ℕ) (e : is_digit b ≡ false) where
  shown_read : (n : ℕ) → n < 1_000_000_000_000_000_000 → read_digits 18 0 (shown 18 n ++ (b ∷ x)) ≡ record { got = n; left = b ∷ x }
  shown_read n h =
      let p = print n h in
      let r : said 0 (p.first ∷ p.rest) ≡ n = ap (λ (l : List ℕ). said 0 l) (sym p.is) ∙ read_back n h in
      ap (λ (l : List ℕ). read_digits 18 0 (l ++ (b ∷ x))) p.is
      ∙ digits_read 18 (p.first ∷ p.rest) 0 b x (omega (arith, p.short)) p.digits e
      ∙ ap (λ (k : ℕ). record { got = k; left = b ∷ x }) r

  -- a value, up to the byte after it
  pub value_read : (z : ℤ) → Small z → read_value (text z ++ (b ∷ x)) ≡ record { got = z; left = b ∷ x }
  unfolding read_value
  value_read (pos n) h =
      let p = print n h in
      ap (λ (l : List ℕ). read_value (l ++ (b ∷ x))) p.is
      ∙ plain p.first (p.rest ++ (b ∷ x)) p.no_minus
      ∙ ap (λ (l : List ℕ). with_sign false (read_digits 18 0 (l ++ (b ∷ x)))) (sym p.is)
      ∙ ap (with_sign false) (shown_read n h)
    where
      plain : (c : ℕ) (t : List ℕ) → (c ≡ minus → ⊥) → read_value (c ∷ t) ≡ with_sign false (read_digits 18 0 (c ∷ t))
      plain c t n =
          ap (λ (q : Bool). cond q (with_sign true (read_digits 18 0 t)) (with_sign false (read_digits 18 0 (c ∷ t)))) (ne_eqb c minus n)
  value_read (negsuc n) h = ap (with_sign true) (shown_read (suc n) h)

-- the end of a line
past_end_lem : (e : LineEnd) (x : List ℕ) → past_end (line_end e ++ x) ≡ x
past_end_lem LF x = refl
past_end_lem CRLF x = refl

last_read : (e : LineEnd) (z : ℤ) (x : List ℕ) → Small z → read_value (text z ++ (line_end e ++ x)) ≡ record { got = z; left = line_end e ++ x }
last_read LF z x h = value_read lf x refl z h
last_read CRLF z x h = value_read cr (lf ∷ x) refl z h

-- a line
abbrev joined : Got ℤ → Got (List ℤ) → Got (List ℤ)
joined v r = record { got = v.got ∷ r.got; left = r.left }

module _ (e : LineEnd) where
  line_then_more : (y : ℤ) (ys : List ℤ) (x : List ℕ) → line_text e (y ∷ ys) ++ x ≡ (text y ++ more (map text ys)) ++ (line_end e ++ x)
  unfolding line
  line_then_more y ys x = append_assoc (text y ++ more (map text ys)) (line_end e) x

  values_read :
      (z : ℤ) (zs : List ℤ) (x : List ℕ)
      → All Small (z ∷ zs)
      → read_line (suc (length zs)) (line_text e (z ∷ zs) ++ x) ≡ record { got = z ∷ zs; left = x }
  unfolding more read_line
  values_read z [] x a =
      ap (λ (v : Got ℤ). joined v (read_line 0 (past_end v.left)))
      (ap read_value (line_then e (text z) [] x) ∙ last_read e z x a.0)
      ∙ ap (λ (t : List ℕ). joined (record { got = z; left = line_end e ++ x }) (read_line 0 t)) (past_end_lem e x)
  values_read z (y ∷ ys) x a =
      ap (λ (v : Got ℤ). joined v (read_line (suc (length ys)) (drop 1 v.left)))
      (ap read_value (line_then e (text z) (map text (y ∷ ys)) x)
      ∙ value_read comma ((text y ++ more (map text ys)) ++ (line_end e ++ x)) refl z a.0)
      ∙ ap (λ (t : List ℕ). joined (record { got = z; left = comma ∷ t }) (read_line (suc (length ys)) t)) (sym (line_then_more y ys x))
      ∙ ap (joined (record { got = z; left = comma ∷ (line_text e (y ∷ ys) ++ x) })) (values_read y ys x a.1)

  pub line_read : (k : ℕ) (l : List ℤ) (x : List ℕ) → LineFits (suc k) l → read_line (suc k) (line_text e l ++ x) ≡ record { got = l; left = x }
  line_read k [] x f = absurd (omega (arith, f.count))
  line_read k (z ∷ zs) x f =
      subst (λ (c : ℕ). read_line c (line_text e (z ∷ zs) ++ x) ≡ record { got = z ∷ zs; left = x }) f.count (values_read z zs x f.small)

  line_here_lem : (k : ℕ) (l : List ℤ) (x : List ℕ) → LineFits (suc k) l → line_here (line_text e l ++ x) ≡ true
  line_here_lem k l x f = let b = line_begun e k l x f in ap line_here b.is ∙ b.starts

-- lines
abbrev rowed : Got (List ℤ) → Got (List (List ℤ)) → Got (List (List ℤ))
rowed l r = record { got = l.got ∷ r.got; left = r.left }

module _ (c : ℕ) where
  begun :
      (k : ℕ) (t : List ℕ)
      → line_here t ≡ true
      → read_lines (suc k) (suc c) t ≡ rowed (read_line (suc c) t) (read_lines k (suc c) (read_line (suc c) t).left)
  unfolding read_lines
  begun k t e = rw e

  pub lines_read : (k : ℕ) (es : Ends) (ls : List (List ℤ)) (x : List ℕ) → All (LineFits (suc c)) ls → length ls ≤ k → line_here x ≡ false
      → read_lines k (suc c) (lines_text es ls ++ x) ≡ record { got = ls; left = x }
  unfolding read_lines lines_text
  lines_read zero es [] x a h e = refl
  lines_read zero es (l ∷ ls) x a h e = absurd (omega arith)
  lines_read (suc k) es [] x a h e = rw e
  lines_read (suc k) es (l ∷ ls) x a h e =
      let eol = first_end es in
      let y : List ℕ = lines_text (drop 1 es) ls ++ x in
      ap (read_lines (suc k) (suc c)) (append_assoc (line_text eol l) (lines_text (drop 1 es) ls) x)
      ∙ begun k (line_text eol l ++ y) (line_here_lem eol c l y a.0)
      ∙ ap (λ (g : Got (List ℤ)). rowed g (read_lines k (suc c) g.left)) (line_read eol c l y a.0)
      ∙ ap (rowed (record { got = l; left = y })) (lines_read k (drop 1 es) ls x a.1 (omega arith) e)

-- no more lines than bytes
some_end : (e : LineEnd) → 1 ≤ length (line_end e)
some_end LF = omega arith
some_end CRLF = omega arith

some_byte : (e : LineEnd) (l : List ℤ) → 1 ≤ length (line_text e l)
unfolding line
some_byte e l = omega (arith, length-append (entries (map text l)) (line_end e), some_end e)

pub few_lines : (es : Ends) (ls : List (List ℤ)) → length ls ≤ length (lines_text es ls)
unfolding lines_text
few_lines es [] = omega arith
few_lines es (l ∷ ls) =
    let e = first_end es in
    omega (arith, few_lines (drop 1 es) ls, some_byte e l, length-append (line_text e l) (lines_text (drop 1 es) ls))

enough : (n : Count) (es : Ends) (ls : List (List ℤ)) (x : List ℕ) → Counted n (length ls) → length ls ≤ most n (lines_text es ls ++ x)
enough one es ls x c = omega arith
enough any es ls x c = omega (arith, few_lines es ls, length-append (lines_text es ls) x)
enough (up_to n) es ls x c = c

no_line : (ns y : List ℕ) → Named ns → line_here (ns ++ y) ≡ false
no_line [] y n = absurd n
no_line (c ∷ ns) y n = n

-- a block's text, its names first
names_then : (e : LineEnd) (b : Block) (x u : List ℕ) → (names_text e b ++ x) ++ u ≡ names_of b ++ (line_end e ++ (x ++ u))
unfolding line
names_then e b x u = append_assoc (names_text e b) x u ∙ append_assoc (names_of b) (line_end e) (x ++ u)

-- the ends of the lines after a block's
abbrev after : {A : Type 0} → Ends → List A → Ends
after es ls = drop (length ls) (drop 1 es)

quiet_next :
    (es : Ends) (bs : List Block) (w : List (List (List ℤ))) (u : List ℕ)
    → All Headed bs
    → BlocksFit bs w
    → line_here u ≡ false
    → line_here (blocks_text es bs w ++ u) ≡ false
unfolding blocks_text
quiet_next es [] w u h a e = e
quiet_next es (b ∷ bs) [] u h a e = absurd a
quiet_next es (b ∷ bs) (ls ∷ w) u h a e =
    ap line_here (names_then (first_end es) b (lines_text (drop 1 es) ls ++ blocks_text (after es ls) bs w) u)
    ∙ no_line (names_of b) _ h.0.names

abbrev blocked : Got (List (List ℤ)) → Got (List (List (List ℤ))) → Got (List (List (List ℤ)))
blocked ls r = record { got = ls.got ∷ r.got; left = r.left }

blocks_read : (es : Ends) (bs : List Block) (w : List (List (List ℤ))) (u : List ℕ) → All Headed bs → BlocksFit bs w → line_here u ≡ false
    → read_blocks bs (blocks_text es bs w ++ u) ≡ record { got = w; left = u }
unfolding blocks_text read_blocks
blocks_read es [] [] u h a e = refl
blocks_read es [] (ls ∷ w) u h a e = absurd a
blocks_read es (b ∷ bs) [] u h a e = absurd a
blocks_read es (b ∷ bs) (ls ∷ w) u h a e =
    let own : List ℕ = lines_text (drop 1 es) ls in
    let others : List ℕ = blocks_text (after es ls) bs w in
    let x : List ℕ = others ++ u in
    let k : ℕ = most b.count (own ++ x) in
    let l : read_lines k (columns b) (own ++ x) ≡ record { got = ls; left = x } =
    subst (λ (c : ℕ). All (LineFits c) ls → read_lines k c (own ++ x) ≡ record { got = ls; left = x }) h.0.column
    (λ fit. lines_read (columns b - 1) k (drop 1 es) ls x fit (enough b.count (drop 1 es) ls x a.1) (quiet_next (after es ls) bs w u h.1 a.2 e))
    a.0 in
    ap (λ (t : List ℕ). block (read_lines (most b.count t) (columns b) t))
    (ap (λ (t : List ℕ). past_end (drop (length (names_of b)) t)) (names_then (first_end es) b (own ++ others) u)
    ∙ ap past_end (drop-append_seam (names_of b) (line_end (first_end es) ++ ((own ++ others) ++ u)))
    ∙ past_end_lem (first_end es) ((own ++ others) ++ u)
    ∙ append_assoc own others u)
    ∙ ap block l
    ∙ ap (blocked (record { got = ls; left = x })) (blocks_read (after es ls) bs w u h.1 a.2 e)
  where
    block : Got (List (List ℤ)) → Got (List (List (List ℤ)))
    block g = blocked g (read_blocks bs g.left)

pub no_line_after : (u : List ℕ) → Follows u → line_here u ≡ false
no_line_after [] f = refl
no_line_after (b ∷ u) f = ap starts_line f

-- THE ROUND TRIP: a file's text, whatever its lines end in, with what may follow it, gives its values back, and what follows it is left
module _ (r : Slices) (es : Ends) (f : File) (u : List ℕ) (a : Fits r f) (e : Follows u) where
  file_read : read_blocks (blocks r) (file_text es f ++ u) ≡ record { got = rows f; left = u }
  unfolding blocks_text
  file_read = blocks_read es (blocks r) (rows f) u (all_headed r) a (no_line_after u e)

  pub values_back : file_of (read_blocks (blocks r) (file_text es f ++ u)).got ≡ f
  values_back = ap (λ (g : Got (List (List (List ℤ)))). file_of g.got) file_read

  pub left_back : (read_blocks (blocks r) (file_text es f ++ u)).left ≡ u
  left_back = ap (λ (g : Got (List (List (List ℤ)))). g.left) file_read

-- so a text is read in one way only
pub one_reading :
    (r : Slices) (es₁ es₂ : Ends) (f g : File) (u v : List ℕ)
    → Fits r f
    → Fits r g
    → Follows u
    → Follows v
    → file_text es₁ f ++ u ≡ file_text es₂ g ++ v
    → (f ≡ g) × (u ≡ v)
one_reading r es₁ es₂ f g u v x y d e q = (
  sym (values_back r es₁ f u x d) ∙ ap (λ (t : List ℕ). file_of (read_blocks (blocks r) t).got) q ∙ values_back r es₂ g v y e,
  sym (left_back r es₁ f u x d) ∙ ap (λ (t : List ℕ). (read_blocks (blocks r) t).left) q ∙ left_back r es₂ g v y e,
)

-- a value fits a signed word of 64 bits
pub small_fits : (z : ℤ) → Small z → SFits w64 z
small_fits (pos n) h = record { sfits = omega arith }
small_fits (negsuc n) h = record { sfits = omega arith }
