-- A state with its items changed, but for an LF after a CR: what a byte of a value does, and what the tests see, does not depend on the
-- items. Assumes nothing.
use Prim.Native.Nat.{ℕ, zero, suc, ◌+◌}
use mathlib.Core.Path.{◌≡◌, refl, ap, sym}
use mathlib.Core.Bool.{Bool, true, false, cond}
use mathlib.Core.List.{List, ◌∷◌}
use lib.Dec.{ltb, eqb}
use Rattle.format.specs.Bytes.{lf, cr, comma, minus, is_digit, is_lead}
use Rattle.format.specs.Machine.{Item, byte, Part, fresh, signed, nought, digits, State, stuck, at, value, is_stuck, lead, ends, in_value, ended, final}

abbrev pub with : (List Item → List Item) → State → State
with g stuck = stuck
with g (at f) = at (g f)
with g (value p k f) = value p k (g f)

module _ (g : List Item → List Item) where
  pub with_final : ((f : List Item) → ended (g f) ≡ ended f) → (s : State) → final (with g s) ≡ final s
  with_final e stuck = refl
  with_final e (at f) = e f
  with_final e (value p k f) = refl

  pub with_stuck : (s : State) → is_stuck (with g s) ≡ is_stuck s
  with_stuck stuck = refl
  with_stuck (at f) = refl
  with_stuck (value p k f) = refl

  pub with_cond : (q : Bool) (x y x' y' : State) → x' ≡ with g x → y' ≡ with g y → cond q x' y' ≡ with g (cond q x y)
  with_cond true x y x' y' d e = d
  with_cond false x y x' y' d e = e

  -- a byte of a value leaves the items as they are, but for the LF after a CR
  module _ (fed : (f : List Item) → g (byte lf ∷ f) ≡ byte lf ∷ g f) (b : ℕ) where
    with_lead : (k : ℕ) (f : List Item) → lead k (g f) b ≡ with g (lead k f b)
    with_lead k f = with_cond (is_lead b) (value (digits 1) k f) stuck _ _ refl refl

    pub with_ends : (k : ℕ) (f : List Item) → ends k (g f) b ≡ with g (ends k f b)
    with_ends zero f =
        with_cond (eqb b lf) (at f) (cond (eqb b cr) (at (byte lf ∷ f)) stuck) _ _ refl
        (with_cond (eqb b cr) (at (byte lf ∷ f)) stuck _ _ (ap at (sym (fed f))) refl)
    with_ends (suc k) f = with_cond (eqb b comma) (value fresh k f) stuck _ _ refl refl

    pub with_value : (p : Part) (k : ℕ) (f : List Item) → in_value p k (g f) b ≡ with g (in_value p k f b)
    unfolding in_value
    with_value fresh k f =
        with_cond (eqb b minus) (value signed k f) (cond (eqb b 48) (value nought k f) (lead k f b)) _ _ refl
        (with_cond (eqb b 48) (value nought k f) (lead k f b) _ _ refl (with_lead k f))
    with_value signed k f = with_lead k f
    with_value nought k f = with_ends k f
    with_value (digits n) k f =
        with_cond (is_digit b) (cond (ltb n 18) (value (digits (n + 1)) k f) stuck) (ends k f b) _ _
        (with_cond (ltb n 18) (value (digits (n + 1)) k f) stuck _ _ refl refl)
        (with_ends k f)
