-- COMPLETENESS: every file's text leads the machine from the start to the end of a file. Assumes nothing.
use Prim.Native.Nat.{ℕ, zero, suc, ◌+◌, ◌≤◌, ◌<◌}
use mathlib.Core.Path.{◌≡◌, refl, ap, sym, ◌∙◌, subst}
use mathlib.Core.Bool.{true, false}
use mathlib.Core.List.{List, [], ◌∷◌, ◌++◌, map, append_assoc}
use native.Mathlib.Omega.{arith}
use lib.ListN.{length, drop}
use lib.IntN.{ℤ}
use borrow.Author.Tests.{lt-ltb, le-leb, ne_eqb}
use Rattle.format.specs.Bytes.{lf, cr, comma, LineEnd, LF, CRLF, line_end, minus, is_digit, is_digit_lem, starts_line, Digit}
use Rattle.format.specs.Blocks.{one, any, up_to, Slices}
use Rattle.format.specs.Decimal as D
use Rattle.format.specs.Decimal.{text, Small, All, Value}
use Rattle.format.specs.Grammar.{more, Ends, first_end, line_text, lines_text, LineFits, File, rows, file_text, Fits}
use Rattle.format.specs.Machine.{Item, byte, end, lines, format, fresh, signed, nought, digits, State, at, value, ends, in_value, enter, step}
use Rattle.format.specs.Machine.{final, start, run, From}
use Rattle.format.proofs.Decimals.{value_of}
use Rattle.format.proofs.Live.{Quiet, Sound, hit, end_hit, cr_hit, skip_any, skip_up_to, go}
use Rattle.format.proofs.Table.{sound_format}
use Rattle.format.proofs.Laid.{line_then, spell, Spells, file_text_lem, file_spells}

-- one byte on
on : (b : ℕ) (s s' : State) (x : List ℕ) → step s b ≡ s' → run step s (b ∷ x) ≡ run step s' x
unfolding run
on b s s' x e = ap (λ (q : State). run step q x) e

module _ (k : ℕ) (g : List Item) where
  digit_step : (n c : ℕ) → Digit c → n < 18 → step (value (digits n) k g) c ≡ value (digits (n + 1)) k g
  unfolding step in_value
  digit_step n c d h = rw ((is_digit_lem c).1 d, lt-ltb n 18 h)

  signed_step : (c : ℕ) → 49 ≤ c → c < 58 → step (value signed k g) c ≡ value (digits 1) k g
  unfolding step in_value
  signed_step c h l = rw (le-leb 49 c h, lt-ltb c 58 l)

  fresh_step : (c : ℕ) → 49 ≤ c → c < 58 → step (value fresh k g) c ≡ value (digits 1) k g
  unfolding step in_value
  fresh_step c h l = rw (ne_eqb c minus (λ e. omega arith), ne_eqb c 48 (λ e. omega arith), le-leb 49 c h, lt-ltb c 58 l)

  minus_step : step (value fresh k g) minus ≡ value signed k g
  unfolding step in_value
  minus_step = refl

  nought_step : step (value fresh k g) 48 ≡ value nought k g
  unfolding step in_value
  nought_step = refl

  module _ (b : ℕ) (x : List ℕ) (e : is_digit b ≡ false) where
    after_nought : run step (value nought k g) (b ∷ x) ≡ run step (ends k g b) x
    unfolding run step in_value
    after_nought = refl

    after_digits : (n : ℕ) → run step (value (digits n) k g) (b ∷ x) ≡ run step (ends k g b) x
    unfolding run step in_value
    after_digits n = rw e

    digits_go :
        (n : ℕ) (ds : List ℕ)
        → All Digit ds
        → n + length ds ≤ 18
        → run step (value (digits n) k g) (ds ++ (b ∷ x)) ≡ run step (ends k g b) x
    digits_go n [] d h = after_digits n
    digits_go n (c ∷ ds) d h =
        on c (value (digits n) k g) (value (digits (n + 1)) k g) (ds ++ (b ∷ x)) (digit_step n c d.0 (omega arith))
        ∙ digits_go (n + 1) ds d.1 (omega arith)

    -- a value, and the byte that ends it
    value_goes : (t : List ℕ) → Value t → run step (value fresh k g) (t ++ (b ∷ x)) ≡ run step (ends k g b) x
    value_goes t (D.nought q) = rw q (on 48 (value fresh k g) (value nought k g) (b ∷ x) nought_step ∙ after_nought)
    value_goes t (D.plain c) =
        rw c.is
        (on c.first (value fresh k g) (value (digits 1) k g) (c.rest ++ (b ∷ x)) (fresh_step c.first c.low c.high)
        ∙ digits_go 1 c.rest c.digits (omega (arith, c.short)))
    value_goes t (D.below u q c) =
        rw (q, c.is)
        (on minus (value fresh k g) (value signed k g) (c.first ∷ (c.rest ++ (b ∷ x))) minus_step
        ∙ on c.first (value signed k g) (value (digits 1) k g) (c.rest ++ (b ∷ x)) (signed_step c.first c.low c.high)
        ∙ digits_go 1 c.rest c.digits (omega (arith, c.short)))

module _ (g : List Item) where
  -- the LF after a CR
  fed : (x : List ℕ) → run step (at (byte lf ∷ g)) (lf ∷ x) ≡ run step (at g) x
  fed x = on lf (at (byte lf ∷ g)) (at g) x (hit lf g)

  -- the end of a line of names, and the last value of a line with its end
  end_goes : (e : LineEnd) (x : List ℕ) → run step (at (end ∷ g)) (line_end e ++ x) ≡ run step (at g) x
  end_goes LF x = on lf (at (end ∷ g)) (at g) x (end_hit g)
  end_goes CRLF x = on cr (at (end ∷ g)) (at (byte lf ∷ g)) (lf ∷ x) (cr_hit g) ∙ fed x

  last_goes : (e : LineEnd) (t x : List ℕ) → Value t → run step (value fresh 0 g) (t ++ (line_end e ++ x)) ≡ run step (at g) x
  last_goes LF t x v = value_goes 0 g lf x refl t v
  last_goes CRLF t x v = value_goes 0 g cr (lf ∷ x) refl t v ∙ fed x

  module _ (e : LineEnd) where
    values_go :
        (z : ℤ) (zs : List ℤ) (x : List ℕ)
        → Small z
        → All Small zs
        → run step (value fresh (length zs) g) (text z ++ (more (map text zs) ++ (line_end e ++ x))) ≡ run step (at g) x
    unfolding more
    values_go z [] x s a = last_goes e (text z) x (value_of z s)
    values_go z (y ∷ ys) x s a =
        value_goes (suc (length ys)) g comma ((text y ++ more (map text ys)) ++ (line_end e ++ x)) refl (text z) (value_of z s)
        ∙ ap (λ (u : List ℕ). run step (value fresh (length ys) g) u) (append_assoc (text y) (more (map text ys)) (line_end e ++ x))
        ∙ values_go y ys x a.0 a.1

    -- a line
    line_goes : (k : ℕ) (l : List ℤ) (x : List ℕ) → LineFits (suc k) l → run step (value fresh k g) (line_text e l ++ x) ≡ run step (at g) x
    line_goes k [] x f = absurd (omega (arith, f.count))
    line_goes k (z ∷ zs) x f =
        let n : length zs ≡ k = omega (arith, f.count) in
        ap (λ (u : List ℕ). run step (value fresh k g) u) (line_then e (text z) (map text zs) x)
        ∙ subst (λ (n : ℕ). run step (value fresh n g) (text z ++ (more (map text zs) ++ (line_end e ++ x))) ≡ run step (at g) x) n
        (values_go z zs x f.small.0 f.small.1)

-- a value, and so a line of values, begins at a digit or minus sign
pub record Begun (t : List ℕ) : Type 0 where
  pub first : ℕ
  pub rest : List ℕ
  pub is : t ≡ first ∷ rest
  pub starts : starts_line first ≡ true

pub value_begun : (t x : List ℕ) → Value t → Begun (t ++ x)
value_begun t x (D.nought q) = record { first = 48; rest = x; is = ap (λ (l : List ℕ). l ++ x) q; starts = refl }
value_begun t x (D.plain c) =
    record {
      first = c.first;
      rest = c.rest ++ x;
      is = ap (λ (l : List ℕ). l ++ x) c.is;
      starts = rw (ne_eqb c.first minus (λ e. omega (arith, c.low)), le-leb 48 c.first (omega (arith, c.low)), lt-ltb c.first 58 c.high);
    }
value_begun t x (D.below u q c) = record { first = minus; rest = u ++ x; is = ap (λ (l : List ℕ). l ++ x) q; starts = refl }

pub line_begun : (e : LineEnd) (k : ℕ) (l : List ℤ) (x : List ℕ) → LineFits (suc k) l → Begun (line_text e l ++ x)
line_begun e k [] x f = absurd (omega (arith, f.count))
line_begun e k (z ∷ zs) x f =
    subst Begun (sym (line_then e (text z) (map text zs) x))
    (value_begun (text z) (more (map text zs) ++ (line_end e ++ x)) (value_of z f.small.0))

-- lines where they may follow
module _ (k : ℕ) (g : List Item) where
  any_begins : (b : ℕ) → starts_line b ≡ true → step (at (lines any k ∷ g)) b ≡ step (value fresh k (lines any k ∷ g)) b
  unfolding step enter
  any_begins b s = rw s

  up_to_begins : (n b : ℕ) → starts_line b ≡ true → step (at (lines (up_to (suc n)) k ∷ g)) b ≡ step (value fresh k (lines (up_to n) k ∷ g)) b
  unfolding step enter
  up_to_begins n b s = rw s

  one_begins : (b : ℕ) → step (at (lines one k ∷ g)) b ≡ step (value fresh k g) b
  unfolding step enter
  one_begins b = refl

  -- a line of values from a state that begins one
  from_line : (s : State) (g' : List Item) → ((b : ℕ) → starts_line b ≡ true → step s b ≡ step (value fresh k g') b)
      → (eol : LineEnd) (l : List ℤ) (x : List ℕ) → LineFits (suc k) l → run step s (line_text eol l ++ x) ≡ run step (at g') x
  unfolding run
  from_line s g' e eol l x f =
      let b = line_begun eol k l x f in
      ap (λ (u : List ℕ). run step s u) b.is
      ∙ ap (λ (q : State). run step q b.rest) (e b.first b.starts)
      ∙ ap (λ (u : List ℕ). run step (value fresh k g') u) (sym b.is)
      ∙ line_goes g' eol k l x f

  any_lines :
      (es : Ends) (ls : List (List ℤ)) (x : List ℕ)
      → All (LineFits (suc k)) ls
      → run step (at (lines any k ∷ g)) (lines_text es ls ++ x) ≡ run step (at (lines any k ∷ g)) x
  unfolding lines_text
  any_lines es [] x a = refl
  any_lines es (l ∷ ls) x a =
      let e = first_end es in
      let more = lines_text (drop 1 es) ls in
      ap (λ (u : List ℕ). run step (at (lines any k ∷ g)) u) (append_assoc (line_text e l) more x)
      ∙ from_line (at (lines any k ∷ g)) (lines any k ∷ g) any_begins e l (more ++ x) a.0
      ∙ any_lines (drop 1 es) ls x a.1

  up_to_lines : (n : ℕ) (es : Ends) (ls : List (List ℤ)) (x : List ℕ) → All (LineFits (suc k)) ls → length ls ≤ n
      → (j : ℕ) × (run step (at (lines (up_to n) k ∷ g)) (lines_text es ls ++ x) ≡ run step (at (lines (up_to j) k ∷ g)) x)
  unfolding lines_text
  up_to_lines zero es [] x a h = (zero, refl)
  up_to_lines zero es (l ∷ ls) x a h = absurd (omega arith)
  up_to_lines (suc n) es [] x a h = (suc n, refl)
  up_to_lines (suc n) es (l ∷ ls) x a h =
      let e = first_end es in
      let more = lines_text (drop 1 es) ls in
      let r = up_to_lines n (drop 1 es) ls x a.1 (omega arith) in (
        r.0,
        ap (λ (u : List ℕ). run step (at (lines (up_to (suc n)) k ∷ g)) u) (append_assoc (line_text e l) more x)
            ∙ from_line (at (lines (up_to (suc n)) k ∷ g)) (lines (up_to n) k ∷ g) (up_to_begins n) e l (more ++ x) a.0
            ∙ r.1,
      )

-- the names after lines that may be missing, or the end
module _ (k : ℕ) (es : Ends) where
  past_any : (f : List Item) (w : List (List (List ℤ))) → Quiet f → From (at f) (spell f es w) → From (at (lines any k ∷ f)) (spell f es w)
  unfolding run
  past_any [] w q h = refl
  past_any (byte c ∷ f) w q h = subst (λ (s : State). From s (spell f es w)) (hit c f ∙ sym (skip_any c f q k)) h
  past_any (end ∷ f) w q h = absurd q
  past_any (lines n j ∷ f) w q h = absurd q

  past_up_to :
      (n : ℕ) (f : List Item) (w : List (List (List ℤ)))
      → Quiet f
      → From (at f) (spell f es w)
      → From (at (lines (up_to n) k ∷ f)) (spell f es w)
  unfolding run
  past_up_to n [] w q h = refl
  past_up_to n (byte c ∷ f) w q h = subst (λ (s : State). From s (spell f es w)) (hit c f ∙ sym (skip_up_to c f q n k)) h
  past_up_to n (end ∷ f) w q h = absurd q
  past_up_to n (lines o j ∷ f) w q h = absurd q

goes : (f : List Item) (es : Ends) (w : List (List (List ℤ))) → Sound f → Spells f w → From (at f) (spell f es w)
unfolding run lines_text
goes [] es [] s a = refl
goes [] es (ls ∷ w) s a = absurd a
goes (byte c ∷ f) es w s a = go c (at (byte c ∷ f)) (at f) (spell f es w) (hit c f) (goes f es w s a)
goes (end ∷ f) es w s a = ap final (end_goes f (first_end es) (spell f (drop 1 es) w)) ∙ goes f (drop 1 es) w s a
goes (lines n k ∷ f) es [] s a = absurd a
goes (lines one k ∷ f) es ([] ∷ w) s a = absurd (omega (arith, a.1))
goes (lines one k ∷ f) es ((l ∷ []) ∷ w) s a =
    let e = first_end es in
    let rest = spell f (drop 1 es) w in
    ap (λ (u : List ℕ). final (run step (at (lines one k ∷ f)) u)) (append_assoc (line_text e l) [] rest)
    ∙ ap final (from_line k f (at (lines one k ∷ f)) f (λ b e. one_begins k f b) e l rest a.0.0)
    ∙ goes f (drop 1 es) w s.1 a.2
goes (lines one k ∷ f) es ((l ∷ (l' ∷ ls)) ∷ w) s a = absurd (omega (arith, a.1))
goes (lines any k ∷ f) es (ls ∷ w) s a =
    let after : Ends = drop (length ls) es in
    ap final (any_lines k f es ls (spell f after w) a.0) ∙ past_any k after f w s.0 (goes f after w s.1 a.2)
goes (lines (up_to n) k ∷ f) es (ls ∷ w) s a =
    let after : Ends = drop (length ls) es in
    let r = up_to_lines k f n es ls (spell f after w) a.0 a.1 in
    ap final r.1 ∙ past_up_to k after r.0 f w s.0 (goes f after w s.1 a.2)

-- THE MACHINE TAKES EVERY FILE, whatever its lines end in
pub takes : (r : Slices) (es : Ends) (f : File) → Fits r f → From (start r) (file_text es f)
takes r es f a =
    subst (λ (t : List ℕ). From (start r) t) (file_text_lem r es f a) (goes (format r) es (rows f) (sound_format r) (file_spells r f a))
