-- MACHINE AND LANGUAGE ARE THE SAME: the machine accepts a text exactly where it is one or more files on end. Assumes nothing.
use Prim.Native.Nat.{ℕ, zero, suc}
use mathlib.Core.Path.{◌≡◌, refl, ap, sym, ◌∙◌, subst}
use mathlib.Core.Logic.{◌↔◌, ◌⊎◌, inl, inr}
use mathlib.Core.Bool.{Bool, true, false, ◌&&◌}
use mathlib.Core.List.{List, [], ◌∷◌, ◌++◌, append-nil}
use lib.Dec.{eqb}
use borrow.Author.Tests.{eqb-true}
use Rattle.format.specs.Bytes.{m}
use Rattle.format.specs.Blocks.{one, any, up_to, free}
use Rattle.format.specs.Grammar.{more, line, Ends, blocks_text, File, file_text, Files, last, then}
use Rattle.format.specs.Machine.{Item, byte, end, lines, format, State, stuck, at, value, enter, step, ended, final, ends_before, start, onward}
use Rattle.format.specs.Machine.{run, From, Accepted}
use Rattle.format.proofs.Live.{not_both, dead}
use Rattle.format.proofs.Sound.{OneFile, sound}
use Rattle.format.proofs.Takes.{takes}

-- from state s the text is the rest of a file, and files on end after it
abbrev pub On : State → List ℕ → Type 0
On s t = final (run onward s t) ≡ true

-- where a file may end, no line and no name begins with `m`
no_m : (f : List Item) → ended f ≡ true → enter f m ≡ stuck
unfolding enter
no_m [] e = refl
no_m (byte c ∷ f) e = not_both false refl e
no_m (end ∷ f) e = not_both false refl e
no_m (lines one k ∷ f) e = not_both false refl e
no_m (lines any k ∷ f) e = no_m f e
no_m (lines (up_to zero) k ∷ f) e = no_m f e
no_m (lines (up_to (suc n)) k ∷ f) e = no_m f e

over : (s : State) → final s ≡ true → step s m ≡ stuck
unfolding step
over stuck e = refl
over (at f) e = no_m f e
over (value p k f) e = not_both false refl e

-- the two parts of the test for a file's end
pub ends_final : (s : State) (b : ℕ) → ends_before s b ≡ true → final s ≡ true
ends_final s b e = by (final s) refl e
  where
    by : (q : Bool) → final s ≡ q → (q && eqb b m) ≡ true → q ≡ true
    by true f h = refl
    by false f h = h

pub ends_m : (s : State) (b : ℕ) → ends_before s b ≡ true → b ≡ m
ends_m s b e = eqb-true b m (by (final s) e)
  where
    by : (q : Bool) → (q && eqb b m) ≡ true → eqb b m ≡ true
    by true h = h
    by false h = not_both false refl h

-- within a file the two steps are the same, and a file's end is no part of it
module _ (s : State) (b : ℕ) where
  pub within : ends_before s b ≡ false → onward s b ≡ step s b
  unfolding onward
  within e = rw e

  pub beyond : ends_before s b ≡ true → onward s b ≡ step (start free) b
  unfolding onward
  beyond e = rw e

  pub stops : ends_before s b ≡ true → step s b ≡ stuck
  stops e = ap (λ (x : ℕ). step s x) (ends_m s b e) ∙ over s (ends_final s b e)

-- what may follow a file
abbrev Rest : List ℕ → Type 0
Rest u = (s : State) → final s ≡ true → On s u

-- the rest of a file, and what may follow it
pub joined : (v u : List ℕ) (s : State) → From s v → Rest u → On s (v ++ u)
unfolding run
joined [] u s h r = r s h
joined (b ∷ v) u s h r = by (ends_before s b) refl (joined v u (step s b) h r)
  where
    by : (q : Bool) → ends_before s b ≡ q → On (step s b) (v ++ u) → On (onward s b) (v ++ u)
    by true e j = absurd (dead v (subst (λ (x : State). From x v) (stops s b e) h))
    by false e j = subst (λ (x : State). On x (v ++ u)) (sym (within s b e)) j

pub nothing : Rest []
unfolding run
nothing s h = h

-- a further file begins as a first one does
pub begins_m : (es : Ends) (f : File) (t : List ℕ) → (u : List ℕ) × (file_text es f ++ t ≡ m ∷ u)
unfolding more line blocks_text
begins_m es f t = (_, refl)

started : onward (start free) m ≡ step (start free) m
unfolding onward format step line
started = refl

further : (u : List ℕ) → Accepted (m ∷ u) → Rest (m ∷ u)
unfolding run
further u h s e = subst (λ (x : State). On x u) (started ∙ sym (again s e)) h
  where
    again : (s : State) → final s ≡ true → onward s m ≡ step (start free) m
    again s e = beyond s m (rw e)

rest_of : (es : Ends) (f : File) (t : List ℕ) → Accepted (file_text es f ++ t) → Rest (file_text es f ++ t)
rest_of es f t h =
    let b = begins_m es f t in
    subst Rest (sym b.1) (further b.0 (subst Accepted b.1 h))

after : (t : List ℕ) → Files t → Accepted t × Rest t
after t (last es f a) =
    let v : List ℕ = file_text es f in
    let h : Accepted (v ++ []) = joined v [] (start free) (takes free es f a) nothing in
    (subst Accepted (append-nil v) h, subst Rest (append-nil v) (rest_of es f [] h))
after t (then es f a u fs) =
    let h : Accepted (file_text es f ++ u) = joined (file_text es f) u (start free) (takes free es f a) (after u fs).1 in
    (h, rest_of es f u h)

-- a file's text and what follows it
abbrev More : List ℕ → Type 0
More u = (u ≡ []) ⊎ Files u

files : (v u : List ℕ) → OneFile free v → More u → Files (v ++ u)
files v u o (inl e) =
    subst Files (sym o.is ∙ sym (append-nil v) ∙ ap (λ (x : List ℕ). v ++ x) (sym e)) (last o.ends o.file o.fits)
files v u o (inr fs) = subst Files (ap (λ (x : List ℕ). x ++ u) (sym o.is)) (then o.ends o.file o.fits u fs)

-- the rest of a file, and files after it
record Split (s : State) (t : List ℕ) : Type 0 where
  first : List ℕ
  rest : List ℕ
  is : t ≡ first ++ rest
  whole : From s first
  more : More rest

split : (t : List ℕ) (s : State) → On s t → Split s t
unfolding run
split [] s h = record { first = []; rest = []; is = refl; whole = h; more = inl refl }
split (b ∷ t) s h = by (ends_before s b) refl (λ s' e. split t s' (subst (λ (x : State). On x t) e h))
  where
    by : (q : Bool) → ends_before s b ≡ q → ((s' : State) → onward s b ≡ s' → Split s' t) → Split s (b ∷ t)
    by true e r =
        let c = r (step (start free) b) (beyond s b e) in
        let fs = files (b ∷ c.first) c.rest (sound free (b ∷ c.first) c.whole) c.more in
        record {
          first = [];
          rest = b ∷ t;
          is = refl;
          whole = ends_final s b e;
          more = inr (subst Files (ap (λ (x : List ℕ). b ∷ x) (sym c.is)) fs);
        }
    by false e r =
        let c = r (step s b) (within s b e) in
        record {
          first = b ∷ c.first;
          rest = c.rest;
          is = ap (λ (x : List ℕ). b ∷ x) c.is;
          whole = c.whole;
          more = c.more;
        }

-- MACHINE AND LANGUAGE
pub accepts : (t : List ℕ) → Accepted t ↔ Files t
accepts t = (
  λ h. let c = split t (start free) h in subst Files (sym c.is) (files c.first c.rest (sound free c.first c.whole) c.more),
  λ fs. (after t fs).0,
)
