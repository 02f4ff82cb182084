-- What a loop that writes a slice from its start has written: the first i entries are those of `new`, the others those of `old`.
use Rattle.std.specs.Prelude.{◌≡◌, refl, List, [], ◌∷◌, ◌++◌, ℕ, suc, ◌+◌, ◌≤◌, ◌<◌, length, take, drop, get_or, set}
use Rattle.std.proofs.Common.{sym, ap, ap₂, ◌∙◌, append-nil, arith, add-one}
use Rattle.std.proofs.Common.{length-append, length-drop, drop_of_length-le, take-suc, drop-cons, length-take-le, take_all}
use Rattle.std.proofs.lemmas.List.{set_at, get_or_at}
use Rattle.std.proofs.Math.Seq.{append_snoc}

abbrev pub filled : {A : Type 0} → List A → List A → ℕ → List A
filled new old i = take i new ++ drop i old

module _ {A : Type 0} (new old : List A) (same : length new ≡ length old) where
  pub filled_none : filled new old 0 ≡ old
  filled_none = refl

  pub length_filled : (i : ℕ) → i ≤ length old → length (filled new old i) ≡ length old
  length_filled i h = simp (length-append, length-drop) (omega (arith, length-take-le i new (omega arith)))

  -- the entry at i is still the old one
  pub filled_next : (i : ℕ) (d : A) → i < length old → get_or (filled new old i) i d ≡ get_or old i d
  filled_next i d h =
      ap (λ (l : List A). get_or (take i new ++ l) i d) (drop-cons old i d h)
      ∙ get_or_at (take i new) (get_or old i d) (drop (suc i) old) d i (length-take-le i new (omega arith))

  -- one more entry, at i
  pub filled_more : {xs : List A} (i : ℕ) (d v : A) → xs ≡ filled new old i → i < length old → v ≡ get_or new i d
      → set xs i v ≡ filled new old (i + 1)
  filled_more i d v f h e =
      ap (λ (l : List A). set l i v) (f ∙ ap (λ (l : List A). take i new ++ l) (drop-cons old i d h))
      ∙ set_at (take i new) (get_or old i d) (drop (suc i) old) v i (length-take-le i new (omega arith))
      ∙ ap (λ (x : A). take i new ++ x ∷ drop (suc i) old) e
      ∙ sym (rw (add-one, take-suc new i d (omega arith)) (append_snoc (take i new) (get_or new i d) (drop (suc i) old)))

  pub filled_all : (i : ℕ) → i ≡ length old → filled new old i ≡ new
  filled_all i e = ap₂ ◌++◌ (take_all i new (omega arith)) (drop_of_length-le old {i = i} (omega arith)) ∙ append-nil new

-- the state of such a loop after i entries
pub record Filling {A : Type 0} (new old now : List A) (i : ℕ) : Type 0 where
  pub here : i ≤ length old
  pub so_far : now ≡ filled new old i

pub filling_none : {A : Type 0} (new old : List A) → Filling new old old 0
filling_none new old = record { here = omega arith; so_far = refl }

module _ {A : Type 0} {new old now : List A} {i : ℕ} (same : length new ≡ length old) (f : Filling new old now i) where
  pub filling_long : length now ≡ length old
  filling_long = ap length f.so_far ∙ length_filled new old same i f.here

  pub filling_more : {v : A} (d : A) → i < length old → v ≡ get_or new i d → Filling new old (set now i v) (i + 1)
  filling_more {v} d h e = record { here = omega arith; so_far = filled_more new old same i d v f.so_far h e }

  -- what the loop finds at i is still the old entry
  pub filling_next : (d : A) → i < length old → get_or now i d ≡ get_or old i d
  filling_next d h = ap (λ (l : List A). get_or l i d) f.so_far ∙ filled_next new old same i d h

  pub filling_all : length old ≤ i → now ≡ new
  filling_all h = f.so_far ∙ filled_all new old same i (omega (arith, f.here))

-- the last entry, after a part of all before it was lent and filled
pub set_last : {A : Type 0} (new old : List A) (n : ℕ) (v : A) → length old ≡ n + 1 → length new ≡ n
    → set (new ++ drop n old) n v ≡ new ++ v ∷ []
set_last {A} new old n v h k =
    ap (λ (l : List A). set (new ++ l) n v) (drop-cons old n v (omega arith))
    ∙ set_at new (get_or old n v) (drop (suc n) old) v n k
    ∙ ap (λ (l : List A). new ++ v ∷ l) (drop_of_length-le old {i = suc n} (omega arith))
