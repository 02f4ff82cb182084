-- EVERY STATE of the machine but the stuck one CAN BE FINISHED: some text leads from it to the end of a file. Assumes nothing.
use Prim.Native.Nat.{ℕ, zero, suc, ◌+◌}
use mathlib.Core.Path.{◌≡◌, refl, ap, sym, ◌∙◌, subst}
use mathlib.Core.Bool.{Bool, true, false, cond, ◌&&◌}
use mathlib.Core.List.{List, [], ◌∷◌, ◌++◌}
use native.Mathlib.Omega.{arith}
use lib.Dec.{ltb, eqb}
use borrow.Author.Tests.{eq-eqb}
use Rattle.format.specs.Bytes.{lf, cr, LF, line_end, comma, minus, is_digit, is_lead, starts_line}
use Rattle.format.specs.Blocks.{one, any, up_to}
use Rattle.format.specs.Machine.{Item, byte, end, lines, Part, fresh, signed, nought, digits, State, stuck, at, value, is_stuck, lead, ends}
use Rattle.format.specs.Machine.{in_value, enter, step, final, run, From}

-- true is not false
pub not_both : {X : Type 0} (t : Bool) → t ≡ false → t ≡ true → X
not_both t p q = let z : ◌≡◌ {A = ℕ} 0 1 = cc in absurd (omega arith)

pub both : (p q : Bool) → (p && q) ≡ true → (p ≡ true) × (q ≡ true)
both true q e = (refl, e)
both false q e = not_both false refl e

-- after lines of values comes the end, or a byte that begins no line of values
abbrev pub Quiet : List Item → Type 0
Quiet [] = Unit {0}
Quiet (byte c ∷ f) = starts_line c ≡ false
Quiet (end ∷ f) = ⊥
Quiet (lines n k ∷ f) = ⊥

abbrev pub Sound : List Item → Type 0
Sound [] = Unit {0}
Sound (byte c ∷ f) = Sound f
Sound (end ∷ f) = Sound f
Sound (lines n k ∷ f) = Quiet f × Sound f

-- what holds of the items still to come
abbrev pub Holds : (List Item → Type 0) → State → Type 0
Holds P stuck = Unit {0}
Holds P (at f) = P f
Holds P (value p k f) = P f

pub holds_cond : (P : List Item → Type 0) (t : Bool) (x y : State) → Holds P x → Holds P y → Holds P (cond t x y)
holds_cond P true x y a b = a
holds_cond P false x y a b = b

-- what a step by b makes of a property of items that their tails have too: what follows from it, also where a line has taken its room, and
-- where b is a CR and its LF is still to come
pub record Kept (P Q : List Item → Type 0) (b : ℕ) : Type 0 where
  pub tail : (i : Item) (f : List Item) → P (i ∷ f) → P f
  pub so : (f : List Item) → P f → Q f
  pub less : (n k : ℕ) (f : List Item) → P (lines (up_to (suc n)) k ∷ f) → Q (lines (up_to n) k ∷ f)
  pub fed : eqb b cr ≡ true → (f : List Item) → Q f → Q (byte lf ∷ f)

module _ (P Q : List Item → Type 0) (b : ℕ) (c : Kept P Q b) where
  keep_lead : (k : ℕ) (f : List Item) → Q f → Holds Q (lead k f b)
  keep_lead k f t = holds_cond Q (is_lead b) (value (digits 1) k f) stuck t tt

  keep_ends : (k : ℕ) (f : List Item) → Q f → Holds Q (ends k f b)
  keep_ends zero f t = holds_cond Q (eqb b lf) (at f) _ t (by (eqb b cr) refl)
    where
      by : (q : Bool) → eqb b cr ≡ q → Holds Q (cond q (at (byte lf ∷ f)) stuck)
      by true e = c.fed e f t
      by false e = tt
  keep_ends (suc k) f t = holds_cond Q (eqb b comma) (value fresh k f) stuck t tt

  keep_value : (p : Part) (k : ℕ) (f : List Item) → Q f → Holds Q (in_value p k f b)
  unfolding in_value
  keep_value fresh k f t =
      holds_cond Q (eqb b minus) (value signed k f) _ t (holds_cond Q (eqb b 48) (value nought k f) (lead k f b) t (keep_lead k f t))
  keep_value signed k f t = keep_lead k f t
  keep_value nought k f t = keep_ends k f t
  keep_value (digits n) k f t =
      holds_cond Q (is_digit b) _ (ends k f b) (holds_cond Q (ltb n 18) (value (digits (n + 1)) k f) stuck t tt) (keep_ends k f t)

  keep_enter : (f : List Item) → P f → Holds Q (enter f b)
  unfolding enter
  keep_enter [] t = tt
  keep_enter (byte n ∷ f) t = holds_cond Q (eqb b n) (at f) stuck (c.so f (c.tail (byte n) f t)) tt
  keep_enter (end ∷ f) t = keep_ends zero f (c.so f (c.tail end f t))
  keep_enter (lines one k ∷ f) t = keep_value fresh k f (c.so f (c.tail (lines one k) f t))
  keep_enter (lines any k ∷ f) t =
      holds_cond Q (starts_line b) _ (enter f b) (keep_value fresh k (lines any k ∷ f) (c.so (lines any k ∷ f) t))
      (keep_enter f (c.tail (lines any k) f t))
  keep_enter (lines (up_to zero) k ∷ f) t =
      holds_cond Q (starts_line b) stuck (enter f b) tt (keep_enter f (c.tail (lines (up_to zero) k) f t))
  keep_enter (lines (up_to (suc n)) k ∷ f) t =
      holds_cond Q (starts_line b) _ (enter f b) (keep_value fresh k (lines (up_to n) k ∷ f) (c.less n k f t))
      (keep_enter f (c.tail (lines (up_to (suc n)) k) f t))

  pub keep_step : (s : State) → Holds P s → Holds Q (step s b)
  unfolding step
  keep_step stuck g = tt
  keep_step (at f) g = keep_enter f g
  keep_step (value p k f) g = keep_value p k f (c.so f g)

-- what holds of every state that a text leads to
abbrev pub Good : State → Type 0
Good s = Holds Sound s

sound_kept : (b : ℕ) → Kept Sound Sound b
sound_kept b = record { tail = tail; so = λ f s. s; less = λ n k f s. s; fed = λ e f s. s }
  where
    tail : (i : Item) (f : List Item) → Sound (i ∷ f) → Sound f
    tail (byte c) f s = s
    tail end f s = s
    tail (lines n k) f s = s.1

pub good_step : (b : ℕ) (s : State) → Good s → Good (step s b)
good_step b s g = keep_step Sound Sound b (sound_kept b) s g

-- THE SHORTEST WAY TO AN END: zeros to the end of a line, one line where there must be one, and the names
zeros : ℕ → List ℕ
zeros zero = line_end LF
zeros (suc k) = comma ∷ (48 ∷ zeros k)

finish : List Item → List ℕ
finish [] = []
finish (byte c ∷ f) = c ∷ finish f
finish (end ∷ f) = line_end LF ++ finish f
finish (lines one k ∷ f) = 48 ∷ (zeros k ++ finish f)
finish (lines any k ∷ f) = finish f
finish (lines (up_to n) k ∷ f) = finish f

pub complete : State → List ℕ
complete stuck = []
complete (at f) = finish f
complete (value fresh k f) = 48 ∷ (zeros k ++ finish f)
complete (value signed k f) = 49 ∷ (zeros k ++ finish f)
complete (value nought k f) = zeros k ++ finish f
complete (value (digits n) k f) = zeros k ++ finish f

module _ (f : List Item) (t : List ℕ) where
  nought_ends : (k : ℕ) → run step (value nought k f) (zeros k ++ t) ≡ run step (at f) t
  unfolding run step in_value zeros
  nought_ends zero = refl
  nought_ends (suc k) = nought_ends k

  digits_ends : (n k : ℕ) → run step (value (digits n) k f) (zeros k ++ t) ≡ run step (at f) t
  unfolding run step in_value zeros
  digits_ends n zero = refl
  digits_ends n (suc k) = nought_ends k

-- a byte of names, also after lines that may be missing
module _ (c : ℕ) (f : List Item) where
  pub hit : step (at (byte c ∷ f)) c ≡ at f
  unfolding step enter
  hit = rw (eq-eqb c c refl)

  module _ (q : starts_line c ≡ false) where
    pub skip_any : (k : ℕ) → step (at (lines any k ∷ (byte c ∷ f))) c ≡ at f
    unfolding step enter
    skip_any k = rw (q, eq-eqb c c refl)

    pub skip_up_to : (n k : ℕ) → step (at (lines (up_to n) k ∷ (byte c ∷ f))) c ≡ at f
    unfolding step enter
    skip_up_to zero k = rw (q, eq-eqb c c refl)
    skip_up_to (suc n) k = rw (q, eq-eqb c c refl)

pub end_hit : (f : List Item) → step (at (end ∷ f)) lf ≡ at f
unfolding step enter
end_hit f = refl

pub cr_hit : (f : List Item) → step (at (end ∷ f)) cr ≡ at (byte lf ∷ f)
unfolding step enter
cr_hit f = refl

-- one byte back
pub go : (b : ℕ) (s s' : State) (t : List ℕ) → step s b ≡ s' → From s' t → From s (b ∷ t)
unfolding run
go b s s' t e h = subst (λ (x : State). From x t) (sym e) h

line_zero : (k : ℕ) (f : List Item) → step (at (lines one k ∷ f)) 48 ≡ value nought k f
unfolding step enter in_value
line_zero k f = refl

finishes : (f : List Item) → Sound f → From (at f) (finish f)
unfolding run finish
finishes [] t = refl
finishes (byte c ∷ f) t = go c _ (at f) (finish f) (hit c f) (finishes f t)
finishes (end ∷ f) t = go lf _ (at f) (finish f) (end_hit f) (finishes f t)
finishes (lines one k ∷ f) t =
    go 48 _ (value nought k f) (zeros k ++ finish f) (line_zero k f) (ap final (nought_ends f (finish f) k) ∙ finishes f t.1)
finishes (lines any k ∷ []) t = refl
finishes (lines any k ∷ (byte c ∷ f)) t = go c _ (at f) (finish f) (skip_any c f t.0 k) (finishes f t.1)
finishes (lines any k ∷ (end ∷ f)) t = absurd t.0
finishes (lines any k ∷ (lines n j ∷ f)) t = absurd t.0
finishes (lines (up_to n) k ∷ []) t = refl
finishes (lines (up_to n) k ∷ (byte c ∷ f)) t = go c _ (at f) (finish f) (skip_up_to c f t.0 n k) (finishes f t.1)
finishes (lines (up_to n) k ∷ (end ∷ f)) t = absurd t.0
finishes (lines (up_to n) k ∷ (lines o j ∷ f)) t = absurd t.0

-- LIVENESS: a state that is not stuck can be finished
pub live : (s : State) → Good s → is_stuck s ≡ false → From s (complete s)
unfolding run step in_value complete
live stuck g e = not_both true e refl
live (at f) g e = finishes f g
live (value fresh k f) g e = ap final (nought_ends f (finish f) k) ∙ finishes f g
live (value signed k f) g e = ap final (digits_ends f (finish f) 1 k) ∙ finishes f g
live (value nought k f) g e = ap final (nought_ends f (finish f) k) ∙ finishes f g
live (value (digits n) k f) g e = ap final (digits_ends f (finish f) n k) ∙ finishes f g

-- nothing finishes the stuck state
pub dead : (t : List ℕ) → From stuck t → ⊥
unfolding run step
dead [] e = not_both false refl e
dead (b ∷ t) e = dead t e

pub is_stuck_lem : (s : State) → is_stuck s ≡ true → s ≡ stuck
is_stuck_lem stuck e = refl
is_stuck_lem (at f) e = not_both false refl e
is_stuck_lem (value p k f) e = not_both false refl e
