-- SOUNDNESS: a text that leads the machine from the start to the end of a file is a file's text. Assumes nothing.
use Prim.Native.Nat.{ℕ, zero, suc, ◌+◌, ◌-◌, ◌≤◌, ◌<◌, zero-le, suc-le-suc}
use mathlib.Core.Path.{◌≡◌, refl, ap, sym, ◌∙◌}
use mathlib.Core.Bool.{Bool, true, false, cond}
use mathlib.Core.List.{List, [], ◌∷◌, ◌++◌, map, append_assoc}
use native.Mathlib.Omega.{arith}
use lib.Dec.{leb, ltb, eqb}
use lib.ListN.{length, drop}
use lib.IntN.{ℤ}
use borrow.Author.Tests.{leb-true, ltb-true, eqb-true}
use Rattle.format.specs.Bytes.{lf, cr, comma, LineEnd, LF, CRLF, line_end, is_digit, is_digit_lem, is_lead, starts_line, Digit}
use Rattle.format.specs.Bytes as B
use Rattle.format.specs.Blocks.{Count, one, any, up_to, Slices}
use Rattle.format.specs.Decimal as D
use Rattle.format.specs.Decimal.{text, Small, All, Numeral, Value}
use Rattle.format.specs.Grammar.{more, Ends, line_text, lines_text, LineFits, Counted, File, file_text, Fits}
use Rattle.format.specs.Machine.{Item, byte, end, lines, format, Part, fresh, signed, nought, digits, State, stuck, at, value, lead, ends}
use Rattle.format.specs.Machine.{line_ends, in_value, enter, step, ended, final, start, run, From}
use Rattle.format.proofs.Decimals.{text_of}
use Rattle.format.proofs.Live.{not_both, both}
use Rattle.format.proofs.Laid.{line_then, spell, Spells, file_text_lem, spelt}

-- the items still to come, written out
record After (g : List Item) (t : List ℕ) : Type 0 where
  eols : Ends
  said : List (List (List ℤ))
  spells : Spells g said
  is : t ≡ spell g eols said

-- the end of a line, and the items after it
record Over (g : List Item) (t : List ℕ) : Type 0 where
  eol : LineEnd
  next : List ℕ
  after : After g next
  is : t ≡ line_end eol ++ next

-- the rest of a value
abbrev Left : Part → List ℕ → Type 0
Left fresh v = Value v
Left signed v = Numeral v
Left nought v = v ≡ []
Left (digits n) v = All Digit v × (length v ≤ 18 - n)

-- the rest of a value, of its line and of the file
record InLine (p : Part) (k : ℕ) (g : List Item) (t : List ℕ) : Type 0 where
  rest : List ℕ
  values : List ℤ
  eol : LineEnd
  next : List ℕ
  left : Left p rest
  count : length values ≡ k
  small : All Small values
  after : After g next
  is : t ≡ rest ++ (more (map text values) ++ (line_end eol ++ next))

-- what a text is that leads from a state to the end of a file
abbrev Tail : State → List ℕ → Type 0
Tail stuck t = ⊥
Tail (at f) t = After f t
Tail (value p k g) t = InLine p k g t

-- a move by a test that leads anywhere passed the test
passed : (q : Bool) (s : State) (t : List ℕ) → Tail (cond q s stuck) t → (q ≡ true) × Tail s t
passed true s t h = (refl, h)
passed false s t h = absurd h

lead_in : (b : ℕ) → is_lead b ≡ true → (49 ≤ b) × (b < 58)
lead_in b e = let c = both (leb 49 b) (ltb b 58) e in (leb-true 49 b c.0, ltb-true b 58 c.1)

module _ (b : ℕ) (t : List ℕ) where
  -- the byte that ends a line, or the CR before it, after which an LF is still to come
  line_over : (g : List Item) → Tail (line_ends g b) t → Over g (b ∷ t)
  line_over g h = by _ (λ i. i) (eqb b lf) refl h
    where
      by :
          (s : State) → (Tail s t → After (byte lf ∷ g) t)
          → (q : Bool) → eqb b lf ≡ q → Tail (cond q (at g) (cond (eqb b cr) s stuck)) t → Over g (b ∷ t)
      by s f true e a = record { eol = LF; next = t; after = a; is = ap (λ (x : ℕ). x ∷ t) (eqb-true b lf e) }
      by s f false e a =
          let c = passed (eqb b cr) s t a in
          let i = f c.1 in
          record {
            eol = CRLF;
            next = spell g i.eols i.said;
            after = record { eols = i.eols; said = i.said; spells = i.spells; is = refl };
            is = ap (λ (x : ℕ). x ∷ t) (eqb-true b cr c.0) ∙ ap (λ (x : List ℕ). cr ∷ x) i.is;
          }

  -- the byte after a whole value
  back_ends : (p : Part) → Left p [] → (k : ℕ) (g : List Item) → Tail (ends k g b) t → InLine p k g (b ∷ t)
  unfolding more
  back_ends p l zero g h =
      let o = line_over g h in
      record { rest = []; values = []; eol = o.eol; next = o.next; left = l; count = refl; small = tt; after = o.after; is = o.is }
  back_ends p l (suc k) g h =
      let c = passed (eqb b comma) (value fresh k g) t h in
      let i = c.1 in
      let o = text_of i.rest i.left in
      record {
        rest = [];
        values = o.number ∷ i.values;
        eol = i.eol;
        next = i.next;
        left = l;
        count = ap suc i.count;
        small = (o.small, i.small);
        after = i.after;
        is =
            ap (λ (x : ℕ). x ∷ t) (eqb-true b comma c.0)
            ∙ ap (λ (x : List ℕ). comma ∷ x)
            (i.is
            ∙ ap (λ (x : List ℕ). x ++ (more (map text i.values) ++ (line_end i.eol ++ i.next))) o.is
            ∙ sym (append_assoc (text o.number) (more (map text i.values)) (line_end i.eol ++ i.next)));
      }

  -- a byte more of the value, whatever it is
  longer : (p q : Part) (k : ℕ) (g : List Item) (i : InLine p k g t) → Left q (b ∷ i.rest) → InLine q k g (b ∷ t)
  longer p q k g i l =
      record {
        rest = b ∷ i.rest;
        values = i.values;
        eol = i.eol;
        next = i.next;
        left = l;
        count = i.count;
        small = i.small;
        after = i.after;
        is = ap (λ (x : List ℕ). b ∷ x) i.is;
      }

  -- a first digit that is not 0
  leading : (q : Part) (k : ℕ) (g : List Item) → ((u : List ℕ) → Numeral u → Left q u) → Tail (lead k g b) t → InLine q k g (b ∷ t)
  leading q k g l h =
      let c = passed (is_lead b) (value (digits 1) k g) t h in
      let d = lead_in b c.0 in
      let i = c.1 in
      longer (digits 1) q k g i
      (l (b ∷ i.rest)
      (record {
        first = b;
        rest = i.rest;
        is = refl;
        low = d.0;
        high = d.1;
        digits = i.left.0;
        short = omega (arith, i.left.1);
      }))

  back_fresh : (k : ℕ) (g : List Item) → Tail (in_value fresh k g b) t → InLine fresh k g (b ∷ t)
  unfolding in_value
  back_fresh k g h = by (eqb b B.minus) (eqb b 48) refl refl h
    where
      by :
          (q r : Bool)
          → eqb b B.minus ≡ q
          → eqb b 48 ≡ r
          → Tail (cond q (value signed k g) (cond r (value nought k g) (lead k g b))) t
          → InLine fresh k g (b ∷ t)
      by true r e f i = longer signed fresh k g i (D.below i.rest (ap (λ (x : ℕ). x ∷ i.rest) (eqb-true b B.minus e)) i.left)
      by false true e f i =
          longer nought fresh k g i
          (D.nought (ap (λ (x : ℕ). x ∷ i.rest) (eqb-true b 48 f) ∙ ap (λ (x : List ℕ). 48 ∷ x) i.left))
      by false false e f i = leading fresh k g (λ u n. D.plain n) i

  back_digits : (n k : ℕ) (g : List Item) → Tail (in_value (digits n) k g b) t → InLine (digits n) k g (b ∷ t)
  unfolding in_value
  back_digits n k g h = by (is_digit b) refl h
    where
      by :
          (q : Bool)
          → is_digit b ≡ q
          → Tail (cond q (cond (ltb n 18) (value (digits (n + 1)) k g) stuck) (ends k g b)) t
          → InLine (digits n) k g (b ∷ t)
      by true e i =
          let c = passed (ltb n 18) (value (digits (n + 1)) k g) t i in
          let l = ltb-true n 18 c.0 in
          longer (digits (n + 1)) (digits n) k g c.1 (((is_digit_lem b).0 e, c.1.left.0), omega (arith, c.1.left.1))
      by false e i = back_ends (digits n) (tt, zero-le) k g i

  back_value : (p : Part) (k : ℕ) (g : List Item) → Tail (in_value p k g b) t → InLine p k g (b ∷ t)
  unfolding in_value
  back_value fresh k g h = back_fresh k g h
  back_value signed k g h = leading signed k g (λ u n. n) h
  back_value nought k g h = back_ends nought refl k g h
  back_value (digits n) k g h = back_digits n k g h

-- a line's text
module _ (k : ℕ) (t : List ℕ) (g : List Item) (i : InLine fresh k g t) where
  whole_line : List ℤ
  whole_line = (text_of i.rest i.left).number ∷ i.values

  line_fits : LineFits (suc k) whole_line
  unfolding whole_line
  line_fits = record { count = ap suc i.count; small = ((text_of i.rest i.left).small, i.small) }

  line_is : t ≡ line_text i.eol whole_line ++ i.next
  unfolding whole_line
  line_is =
      i.is
      ∙ ap (λ (x : List ℕ). x ++ (more (map text i.values) ++ (line_end i.eol ++ i.next))) (text_of i.rest i.left).is
      ∙ sym (line_then i.eol (text (text_of i.rest i.left).number) (map text i.values) i.next)

only_line : (k : ℕ) (t : List ℕ) (f : List Item) → InLine fresh k f t → After (lines one k ∷ f) t
unfolding lines_text
only_line k t f i =
    let l = whole_line k t f i in
    let a = i.after in
    record {
      eols = i.eol ∷ a.eols;
      said = (l ∷ []) ∷ a.said;
      spells = ((line_fits k t f i, tt), refl, a.spells);
      is =
          line_is k t f i
          ∙ ap (λ (x : List ℕ). line_text i.eol l ++ x) a.is
          ∙ sym (append_assoc (line_text i.eol l) [] (spell f a.eols a.said));
    }

-- one line more, where the room that it leaves is what was left
module _ (n n' : Count) (room : (j : ℕ) → Counted n' j → Counted n (suc j)) where
  one_more_line : (k : ℕ) (t : List ℕ) (f : List Item) → InLine fresh k (lines n' k ∷ f) t → After (lines n k ∷ f) t
  unfolding lines_text
  one_more_line k t f i = by i.after.said i.after.spells i.after.is
    where
      es : Ends
      es = i.after.eols

      by : (w : List (List (List ℤ))) → Spells (lines n' k ∷ f) w → i.next ≡ spell (lines n' k ∷ f) es w → After (lines n k ∷ f) t
      by [] s e = absurd s
      by (ls ∷ w) s e =
          let l = whole_line k t (lines n' k ∷ f) i in
          record {
            eols = i.eol ∷ es;
            said = (l ∷ ls) ∷ w;
            spells = ((line_fits k t (lines n' k ∷ f) i, s.0), room (length ls) s.1, s.2);
            is =
                line_is k t (lines n' k ∷ f) i
                ∙ ap (λ (x : List ℕ). line_text i.eol l ++ x) e
                ∙ sym (append_assoc (line_text i.eol l) (lines_text es ls) (spell f (drop (length ls) es) w));
          }

no_more_lines : (n : Count) → Counted n 0 → (k : ℕ) (t : List ℕ) (f : List Item) → After f t → After (lines n k ∷ f) t
unfolding lines_text
no_more_lines n c k t f a = record { eols = a.eols; said = [] ∷ a.said; spells = (tt, c, a.spells); is = a.is }

module _ (b : ℕ) (t : List ℕ) where
  -- a line begins, or it does not
  begun :
      (q : Bool) (x y : State) (g : List Item)
      → (Tail x t → After g (b ∷ t))
      → (Tail y t → After g (b ∷ t))
      → Tail (cond q x y) t
      → After g (b ∷ t)
  begun true x y g f h a = f a
  begun false x y g f h a = h a

  back_enter : (f : List Item) → Tail (enter f b) t → After f (b ∷ t)
  unfolding enter
  back_enter [] h = absurd h
  back_enter (byte c ∷ f) h =
      let p = passed (eqb b c) (at f) t h in
      record {
        eols = p.1.eols;
        said = p.1.said;
        spells = p.1.spells;
        is = ap (λ (x : ℕ). x ∷ t) (eqb-true b c p.0) ∙ ap (λ (x : List ℕ). c ∷ x) p.1.is;
      }
  back_enter (end ∷ f) h =
      let o = line_over b t f h in
      record {
        eols = o.eol ∷ o.after.eols;
        said = o.after.said;
        spells = o.after.spells;
        is = o.is ∙ ap (λ (x : List ℕ). line_end o.eol ++ x) o.after.is;
      }
  back_enter (lines one k ∷ f) h = only_line k (b ∷ t) f (back_fresh b t k f h)
  back_enter (lines any k ∷ f) h =
      begun (starts_line b) (in_value fresh k (lines any k ∷ f) b) (enter f b) (lines any k ∷ f)
      (λ i. one_more_line any any (λ j c. c) k (b ∷ t) f (back_fresh b t k (lines any k ∷ f) i))
      (λ a. no_more_lines any tt k (b ∷ t) f (back_enter f a))
      h
  back_enter (lines (up_to zero) k ∷ f) h =
      begun (starts_line b) stuck (enter f b) (lines (up_to zero) k ∷ f)
      (λ i. absurd i)
      (λ a. no_more_lines (up_to zero) zero-le k (b ∷ t) f (back_enter f a))
      h
  back_enter (lines (up_to (suc n)) k ∷ f) h =
      begun (starts_line b) (in_value fresh k (lines (up_to n) k ∷ f) b) (enter f b) (lines (up_to (suc n)) k ∷ f)
      (λ i. one_more_line (up_to (suc n)) (up_to n) (λ j c. suc-le-suc c) k (b ∷ t) f (back_fresh b t k (lines (up_to n) k ∷ f) i))
      (λ a. no_more_lines (up_to (suc n)) zero-le k (b ∷ t) f (back_enter f a))
      h

  back : (s : State) → Tail (step s b) t → Tail s (b ∷ t)
  unfolding step
  back stuck h = h
  back (at f) h = back_enter f h
  back (value p k g) h = back_value b t p k g h

at_end_lem : (f : List Item) → ended f ≡ true → After f []
at_end_lem [] e = record { eols = []; said = []; spells = tt; is = refl }
at_end_lem (byte c ∷ f) e = not_both false refl e
at_end_lem (end ∷ f) e = not_both false refl e
at_end_lem (lines one k ∷ f) e = not_both false refl e
at_end_lem (lines any k ∷ f) e = no_more_lines any tt k [] f (at_end_lem f e)
at_end_lem (lines (up_to n) k ∷ f) e = no_more_lines (up_to n) zero-le k [] f (at_end_lem f e)

final_tail : (s : State) → final s ≡ true → Tail s []
final_tail stuck e = not_both false refl e
final_tail (at f) e = at_end_lem f e
final_tail (value p k g) e = not_both false refl e

tail : (t : List ℕ) (s : State) → From s t → Tail s t
unfolding run
tail [] s e = final_tail s e
tail (b ∷ t) s e = back b t s (tail t (step s b) e)

-- one file
pub record OneFile (r : Slices) (t : List ℕ) : Type 0 where
  pub file : File
  pub ends : Ends
  pub fits : Fits r file
  pub is : t ≡ file_text ends file

-- THE MACHINE TAKES NOTHING BUT A FILE
pub sound : (r : Slices) (t : List ℕ) → From (start r) t → OneFile r t
sound r t e =
    let a = tail t (at (format r)) e in
    let f = spelt r a.said a.spells in
    record {
      file = f.file;
      ends = a.eols;
      fits = f.fits;
      is =
          a.is
          ∙ ap (λ (w : List (List (List ℤ))). spell (format r) a.eols w) (sym f.is)
          ∙ file_text_lem r a.eols f.file f.fits;
    }
