-- Reading's verdict (format's `scan`) between values and where lines begin. Assumes nothing.
use Rattle.std.proofs.Common.{ℕ, zero, suc, ◌+◌, ◌-◌, ◌<◌, ◌≡◌, refl, ap, sym, ◌∙◌, subst, ◌≤◌, Bool, true, false, cond, List, [], ◌∷◌, drop, eqb, arith}
use Rattle.std.proofs.Common.{Result, Err}
use mathlib.Core.Bool.{false≢true, and-false}
use borrow.Author.Tests.{eqb-true, ne_eqb}
use Rattle.format.specs.Bytes.{lf, cr, comma, m, starts_line}
use Rattle.format.specs.Blocks.{up_to}
use Rattle.format.specs.Values.{line_here}
use Rattle.format.specs.Machine.{Item, byte, lines, fresh, nought, at, value, in_value, enter, step, ended}
use Rattle.format.specs.Reading.{no_room, scan}
use Rattle.format.specs.declared.Fault.{Fault}
use Rattle.format.specs.declared.Fault.TheVariants.{Faulty, Full}
use Rattle.monthfile.specs.declared.cursor.Cursor.{Cursor}
use Rattle.monthfile.specs.Cursor.{rest, byte_here, Passed}
use Rattle.monthfile.specs.Passing.{Leads, Refuses, Passes, Taken, Missing, Takes, at_end, after_cr, several}
use Rattle.monthfile.proofs.Joining.{leads, stays, still, taken, missing, takes, further, later, then, alike}

module _ (i : ℕ) (f : List Item) where
  -- the comma after a value, where more values follow on its line
  pub comma_on : (k : ℕ) (u : List ℕ) → byte_here comma u ≡ true → scan (value nought (suc k) f) i u ≡ scan (value fresh k f) (i + 1) (drop 1 u)
  unfolding scan step in_value
  comma_on k [] e = absurd (false≢true e)
  comma_on k (b ∷ u) e = rw e

  pub no_comma : (k : ℕ) (u : List ℕ) → byte_here comma u ≡ false → scan (value nought (suc k) f) i u ≡ Err (Faulty i)
  unfolding scan step in_value
  no_comma k [] e = refl
  no_comma k (b ∷ u) e = rw e

  -- a byte that stands in every file, as those of names and the LF after a CR
  pub byte_on : (c : ℕ) (u : List ℕ) → byte_here c u ≡ true → scan (at (byte c ∷ f)) i u ≡ scan (at f) (i + 1) (drop 1 u)
  unfolding scan step enter
  byte_on c [] e = absurd (false≢true e)
  byte_on c (b ∷ u) e = rw e

  pub no_byte : (c : ℕ) (u : List ℕ) → byte_here c u ≡ false → scan (at (byte c ∷ f)) i u ≡ Err (Faulty i)
  unfolding scan step enter
  no_byte c [] e = refl
  no_byte c (b ∷ u) e = rw e

  -- the end of a line: CR and LF, or LF
  cr_on : (u : List ℕ) → byte_here cr u ≡ true → scan (at_end f) i u ≡ scan (after_cr f) (i + 1) (drop 1 u)
  unfolding scan step enter
  cr_on [] e = absurd (false≢true e)
  cr_on (b ∷ u) e = rw (eqb-true b cr e)

  lf_on : (u : List ℕ) → byte_here lf u ≡ true → scan (at_end f) i u ≡ scan (at f) (i + 1) (drop 1 u)
  unfolding scan step enter
  lf_on [] e = absurd (false≢true e)
  lf_on (b ∷ u) e = rw e

  no_end : (u : List ℕ) → byte_here cr u ≡ false → byte_here lf u ≡ false → scan (at_end f) i u ≡ Err (Faulty i)
  unfolding scan step enter
  no_end [] c e = refl
  no_end (b ∷ u) c e = rw (e, c)

  -- after the last value comes the line's end
  pub last_value : (u : List ℕ) → scan (value nought 0 f) i u ≡ scan (at_end f) i u
  unfolding scan step enter in_value
  last_value [] = refl
  last_value (b ∷ u) = refl

-- a CR, if one is here, and then an LF
pub line_end : {c d : Cursor} (e : Cursor) (q : Bool) (r : Result Unit Fault)
    → q ≡ byte_here cr (rest c) → Passed c d (cond q 1 0) → Takes lf d e r → Passes c at_end e at r
line_end {c} {d} e true r h p g =
    then e at r (leads {s' = after_cr} p (λ f. cr_on c.at f (rest c) (sym h)))
    (takes lf d after_cr at e r (λ f. byte_on d.at f lf (rest d)) (λ f. no_byte d.at f lf (rest d)) g)
line_end {c} {d} e false r h p g =
    let n = ap (byte_here cr) (still p) ∙ sym h in
    then e at r (stays p) (takes lf d at_end at e r (λ f. lf_on d.at f (rest d)) (λ f. no_end d.at f (rest d) n) g)

-- VALUES OF A LINE, of so many commas in all; n of them are passed
module _ {c d : Cursor} {commas : ℕ} (n : ℕ) (l : Leads c (value fresh commas) d (value fresh (commas - n))) where
  left : (k : ℕ) → commas - n ≡ k → Leads c (value fresh commas) d (value fresh k)
  left k e = subst (λ (k : ℕ). Leads c (value fresh commas) d (value fresh k)) e l

  -- one more, or the last
  pub one_more : n < commas → Leads c (value fresh commas) d (value fresh (suc (commas - (n + 1))))
  one_more h = left (suc (commas - (n + 1))) (omega arith)

  pub the_last : commas ≤ n → Leads c (value fresh commas) d (value fresh 0)
  the_last h = left 0 (omega arith)

-- after a value its comma, or the line's end
pub comma_taken : {c d : Cursor} (k : ℕ) → Taken comma c d → Leads c (value nought (suc k)) d (value fresh k)
comma_taken {c} k h = taken comma c (value nought (suc k)) (value fresh k) (λ f. comma_on c.at f k (rest c)) h

pub comma_missing : {c : Cursor} {e : Fault} (k : ℕ) → Missing comma c e → Refuses c (value nought (suc k)) e
comma_missing {c} k h = missing comma c (value nought (suc k)) (value fresh k) (λ f. no_comma c.at f k (rest c)) h

pub end_next : (c d : Cursor) (r : Result Unit Fault) → Passes c at_end d at r → Passes c (value nought 0) d at r
end_next c d r p = then d at r (alike c (λ f. last_value c.at f (rest c))) p

-- a line begins at no `m`
no_m : (b : ℕ) → starts_line b ≡ true → eqb b m ≡ false
no_m b e = ne_eqb b m (λ x. false≢true (ap starts_line (sym x) ∙ e))

-- a line of a block begins, for which there is room or none; or none begins
module _ (k i : ℕ) (f : List Item) where
  line_on : (n : ℕ) (u : List ℕ) → line_here u ≡ true → scan (several (suc n) k f) i u ≡ scan (value fresh k (lines (up_to n) k ∷ f)) i u
  unfolding scan step enter
  line_on n [] e = absurd (false≢true e)
  line_on n (b ∷ u) e = let z = ne_eqb (suc n) 0 (λ x. omega arith) in rw (no_m b e, and-false (ended f), e, z)

  line_full : (u : List ℕ) → line_here u ≡ true → scan (several 0 k f) i u ≡ Err (Full i)
  unfolding scan step enter
  line_full [] e = absurd (false≢true e)
  line_full (b ∷ u) e = rw (no_m b e, and-false (ended f), e)

  line_none : (n : ℕ) (u : List ℕ) → line_here u ≡ false → scan (several n k f) i u ≡ scan (at f) i u
  unfolding scan step enter
  line_none n [] e = refl
  line_none zero (b ∷ u) e = rw (e, and-false (no_room f))
  line_none (suc n) (b ∷ u) e = let z = ne_eqb (suc n) 0 (λ x. omega arith) in rw (e, and-false (no_room f), z)

-- LINES OF A BLOCK that has room for so many in all; n of them are passed
module _ {c d : Cursor} {room k : ℕ} (n : ℕ) (l : Leads c (several room k) d (several (room - n) k)) where
  space : (r : ℕ) → room - n ≡ r → Leads c (several room k) d (several r k)
  space r e = subst (λ (x : ℕ). Leads c (several room k) d (several x k)) e l

  -- one more
  pub line_more : n < room → line_here (rest d) ≡ true → Leads c (several room k) d (λ f. value fresh k (lines (up_to (room - (n + 1))) k ∷ f))
  line_more h e =
      let r : ℕ = room - (n + 1) in
      further (space (suc r) (omega arith)) (alike d (λ f. line_on k d.at f r (rest d) e))

  -- one too many, or none
  pub line_too_many : room ≤ n → line_here (rest d) ≡ true → Refuses c (several room k) (Full d.at)
  line_too_many h e = later (space 0 (omega arith)) (record { found = λ f. line_full k d.at f (rest d) e })

  pub lines_over : line_here (rest d) ≡ false → Leads c (several room k) d at
  lines_over e = further l (alike d (λ f. line_none k d.at f (room - n) (rest d) e))
