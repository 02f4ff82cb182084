-- Paper 01's words for a place, of any language: how a place is found byte by byte, and that a text has one at most. Assumes nothing.
use Prim.Native.Nat.{ℕ, suc, ◌+◌, ◌-◌, ◌≤◌, ◌<◌, zero-le, suc-le-suc}
use mathlib.Core.Path.{◌≡◌, ap, sym, ◌∙◌, subst}
use mathlib.Core.Logic.{◌↔◌}
use mathlib.Core.List.{List, [], ◌∷◌, ◌++◌, append_assoc}
use native.Mathlib.Omega.{arith}
use native.Mathlib.Nat.{le_of_suc-le-suc}
use native.Mathlib.Decide.{dec_le}
use lib.ListN.{length, take, drop, take-append-drop}
use lib.Seq.{take-add}
use Rattle.format.specs.Language.{Begins, Place}

-- what may follow the byte b in L
abbrev pub Past : (List ℕ → Type 0) → ℕ → List ℕ → Type 0
Past L b t = L (b ∷ t)

-- a place, counted from k
pub record Later (L : List ℕ → Type 0) (t : List ℕ) (k p : ℕ) : Type 0 where
  pub past : ℕ
  pub here : p ≡ k + past
  pub place : Place L t past

module _ (L : List ℕ → Type 0) where
  -- the place is here: at the text's end, or at a byte
  pub here_end : Begins L [] → (L [] → ⊥) → Place L [] 0
  here_end w n = record { within = zero-le; before = w; through = λ h b. absurd (omega arith); unfinished = λ e a. n a }

  pub here_byte : (b : ℕ) (t : List ℕ) → Begins L [] → (Begins (Past L b) [] → ⊥) → Place L (b ∷ t) 0
  here_byte b t w n =
      record {
        within = zero-le;
        before = w;
        through = λ h v. n (record { rest = v.rest; whole = v.whole });
        unfinished = λ e. absurd (omega arith);
      }

  -- or later
  pub later : (b : ℕ) (t : List ℕ) (p : ℕ) → Place (Past L b) t p → Place L (b ∷ t) (suc p)
  later b t p a =
      record {
        within = suc-le-suc a.within;
        before = record { rest = a.before.rest; whole = a.before.whole };
        through = λ h v. a.through (le_of_suc-le-suc h) (record { rest = v.rest; whole = v.whole });
        unfinished = λ e w. a.unfinished (omega arith) w;
      }

  module _ (t : List ℕ) where
    -- what begins a text of L, cut short, begins it too
    shorter : (p q : ℕ) → p < q → Begins L (take q t) → Begins L (take (suc p) t)
    shorter p q h w =
        record {
          rest = take (q - suc p) (drop (suc p) t) ++ w.rest;
          whole = subst L (e ∙ append_assoc (take (suc p) t) (take (q - suc p) (drop (suc p) t)) w.rest) w.whole;
        }
      where
        e : take q t ++ w.rest ≡ (take (suc p) t ++ take (q - suc p) (drop (suc p) t)) ++ w.rest
        e = let d : q ≡ suc p + (q - suc p) = omega arith in
            ap (λ (x : List ℕ). x ++ w.rest) (ap (λ (n : ℕ). take n t) d ∙ take-add (suc p) (q - suc p) t)

    not_before : (p q : ℕ) → Place L t p → Place L t q → p < q → ⊥
    not_before p q a b h = a.through (omega (arith, b.within)) (shorter p q h b.before)

    -- THE WORDS LEAVE ONE PLACE
    pub one_place : (p q : ℕ) → Place L t p → Place L t q → p ≡ q
    one_place p q a b = let x = not_before p q a b in let y = not_before q p b a in omega (arith, x, y)

    -- and none for a text of the language
    pub no_place : (p : ℕ) → Place L t p → L t → ⊥
    no_place p a w = by (dec_le (length t) p)
      where
        by : Dec (length t ≤ p) → ⊥
        by (yes h) = let e : p ≡ length t = omega (arith, a.within) in a.unfinished e w
        by (no h) =
            a.through (omega (arith, h))
            (record { rest = drop (suc p) t; whole = subst L (sym (take-append-drop (suc p) t)) w })

-- two names of one language have the same places
module _ (L M : List ℕ → Type 0) (e : (t : List ℕ) → L t ↔ M t) where
  pub same_begins : (t : List ℕ) → Begins L t → Begins M t
  same_begins t b = record { rest = b.rest; whole = (e (t ++ b.rest)).0 b.whole }

  pub same_place : (t : List ℕ) (p : ℕ) → Place L t p → Place M t p
  same_place t p a =
      record {
        within = a.within;
        before = same_begins (take p t) a.before;
        through = λ h b. a.through h (record { rest = b.rest; whole = (e (take (suc p) t ++ b.rest)).1 b.whole });
        unfinished = λ q w. a.unfinished q ((e t).1 w);
      }
