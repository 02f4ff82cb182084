-- The largest of the lists that are P, where P can be decided and leaves each entry two values: found entry by entry from the first, the
-- higher value wherever some list goes on with it.
use Rattle.std.specs.Prelude.{◌≡◌, ℕ, zero, suc, ◌<◌, ◌⊎◌, List, [], ◌∷◌, length, ℤ, pos, ◌+ℤ◌, ◌≤ℤ◌, slice_index_or}
use Rattle.std.proofs.Common.{subst, inl, inr, ⊎_elim, zero-le, suc-le-suc, arith}
use Rattle.std.proofs.Math.Nat.{suc_inj}
use Rattle.ints.specs.Bridge.{za, add#}
use Rattle.ints.specs.Order.{≤_refl, ≡→≤}
use Rattle.rules.specs.Table.{Largest}

-- k entries, each low or low + 1 at its place
pub record Narrow (k : ℕ) (low : ℕ → ℤ) (xs : List ℤ) : Type 0 where
  pub long : length xs ≡ k
  pub near : (p : ℕ) → p < k → (slice_index_or xs p (pos 0) ≡ low p) ⊎ (slice_index_or xs p (pos 0) ≡ low p +ℤ pos 1)

pub record LargestOf (P : List ℤ → Type 0) : Type 0 where
  pub list : List ℤ
  pub largest : Largest P list

-- no list is P
abbrev None : (List ℤ → Type 0) → Type 0
None P = (xs : List ℤ) → P xs → ⊥

-- what may follow a
abbrev After : (List ℤ → Type 0) → ℤ → List ℤ → Type 0
After P a xs = P (a ∷ xs)

narrow_rest : {k : ℕ} {low : ℕ → ℤ} {x : ℤ} {xs : List ℤ} → Narrow (suc k) low (x ∷ xs) → Narrow k (λ p. low (suc p)) xs
narrow_rest n = record { long = suc_inj n.long; near = λ p h. n.near (suc p) (suc-le-suc h) }

-- ---- no entry
module _ {P : List ℤ → Type 0} (long : (xs : List ℤ) → P xs → length xs ≡ 0) where
  largest_empty : P [] → Largest P []
  largest_empty h = record { table = h; first = λ other t p same. go other (long other t) p }
    where
      go : (other : List ℤ) → length other ≡ 0 → (p : ℕ) → slice_index_or other p (pos 0) ≤ℤ pos 0
      go [] e p = ≤_refl (pos 0)
      go (x ∷ xs) e p = absurd (omega arith)

  none_empty : (P [] → ⊥) → None P
  none_empty f [] t = f t
  none_empty f (x ∷ xs) t = absurd (omega (arith, long (x ∷ xs) t))

  choose_empty : Dec (P []) → LargestOf P ⊎ None P
  choose_empty (yes h) = inl (record { list = []; largest = largest_empty h })
  choose_empty (no f) = inr (none_empty f)

-- ---- one entry more
at_most : (low : ℤ) {x : ℤ} → (x ≡ low) ⊎ (x ≡ low +ℤ pos 1) → x ≤ℤ (low +ℤ pos 1)
at_most low (inl e) = omega (za, add# low (pos 1), e)
at_most low (inr e) = ≡→≤ e

-- the largest that goes on after a, where no list begins with more than a
largest_more : {P : List ℤ → Type 0} (a : ℤ) (ys : List ℤ) → (P [] → ⊥) → ((x : ℤ) (xs : List ℤ) → P (x ∷ xs) → x ≤ℤ a)
    → Largest (After P a) ys → Largest P (a ∷ ys)
largest_more {P} a ys some most L = record { table = L.table; first = go }
  where
    go : (other : List ℤ) → P other → (p : ℕ) → ((q : ℕ) → q < p → slice_index_or other q (pos 0) ≡ slice_index_or (a ∷ ys) q (pos 0))
        → slice_index_or other p (pos 0) ≤ℤ slice_index_or (a ∷ ys) p (pos 0)
    go [] t p same = absurd (some t)
    go (x ∷ xs) t zero same = most x xs t
    go (x ∷ xs) t (suc p) same =
        L.first xs (subst (λ (z : ℤ). P (z ∷ xs)) (same 0 (suc-le-suc zero-le)) t) p (λ q h. same (suc q) (suc-le-suc h))

module _ (P : List ℤ → Type 0) (low : ℤ) (some : P [] → ⊥)
    (begins : (x : ℤ) (xs : List ℤ) → P (x ∷ xs) → (x ≡ low) ⊎ (x ≡ low +ℤ pos 1)) where
  -- where no list begins with low + 1
  is_low : None (After P (low +ℤ pos 1)) → {x : ℤ} {xs : List ℤ} → P (x ∷ xs) → (x ≡ low) ⊎ (x ≡ low +ℤ pos 1) → x ≡ low
  is_low f t (inl e) = e
  is_low f {xs = xs} t (inr e) = absurd (f xs (subst (λ (z : ℤ). P (z ∷ xs)) e t))

  none_more : None (After P (low +ℤ pos 1)) → None (After P low) → None P
  none_more f g [] t = some t
  none_more f g (x ∷ xs) t = g xs (subst (λ (z : ℤ). P (z ∷ xs)) (is_low f t (begins x xs t)) t)

  choose_more : LargestOf (After P (low +ℤ pos 1)) ⊎ None (After P (low +ℤ pos 1)) → LargestOf (After P low) ⊎ None (After P low)
      → LargestOf P ⊎ None P
  choose_more (inl l) d = inl (record {
    list = (low +ℤ pos 1) ∷ l.list;
    largest = largest_more (low +ℤ pos 1) l.list some (λ x xs t. at_most low (begins x xs t)) l.largest;
  })
  choose_more (inr f) (inl l) = inl (record {
    list = low ∷ l.list;
    largest = largest_more low l.list some (λ x xs t. ≡→≤ (is_low f t (begins x xs t))) l.largest;
  })
  choose_more (inr f) (inr g) = inr (none_more f g)

-- ---- the largest, or that no list is P
choose : (k : ℕ) (low : ℕ → ℤ) (P : List ℤ → Type 0) → ((xs : List ℤ) → Dec (P xs)) → ((xs : List ℤ) → P xs → Narrow k low xs)
    → LargestOf P ⊎ None P
choose zero low P dec narrow = choose_empty (λ xs t. (narrow xs t).long) (dec [])
choose (suc k) low P dec narrow =
    choose_more P (low 0) (λ t. absurd (omega (arith, (narrow [] t).long))) (λ x xs t. (narrow (x ∷ xs) t).near 0 (suc-le-suc zero-le))
    (choose k (λ p. low (suc p)) (After P (low 0 +ℤ pos 1)) (λ xs. dec ((low 0 +ℤ pos 1) ∷ xs))
    (λ xs t. narrow_rest (narrow ((low 0 +ℤ pos 1) ∷ xs) t)))
    (choose k (λ p. low (suc p)) (After P (low 0)) (λ xs. dec (low 0 ∷ xs)) (λ xs t. narrow_rest (narrow (low 0 ∷ xs) t)))

-- where some list is P, one is the largest
pub largest_of : (k : ℕ) (low : ℕ → ℤ) (P : List ℤ → Type 0) → ((xs : List ℤ) → Dec (P xs))
    → ((xs : List ℤ) → P xs → Narrow k low xs) → (xs : List ℤ) → P xs → LargestOf P
largest_of k low P dec narrow xs t = ⊎_elim (λ l. l) (λ f. absurd (f xs t)) (choose k low P dec narrow)
