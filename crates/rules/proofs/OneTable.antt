-- Where every exact value is whole there is one table: the odd cents are its only freedom.
use Prim.Native.Nat.{ℕ, zero, suc, ◌*◌, ◌/◌, ◌%◌, ◌<◌}
use native.Mathlib.Omega.{arith}
use native.Mathlib.Nat.{div-add-mod', div-lt_iff_lt-mul, mod-lt}
use mathlib.Core.Path.{◌≡◌, sym, ◌∙◌, subst}
use mathlib.Core.List.{List}
use lib.IntN.{ℤ, pos, ◌*ℤ◌}
use lib.ListN.{length, get_or}
use lib.Seq.{ext_get_or}
use Rattle.ints.specs.Floor.{floor}
use Rattle.ints.specs.Sums.{sum_ℤ}
use Rattle.rules.specs.Table.{Cell, rounded_down, rounded_up, cell_at, Table}

-- every VC × VD is a multiple of the sum of VD
pub record AllWhole (vc vd : List ℤ) : Type 0 where
  pub at : (i j : ℕ) → i < length vc → j < length vd
      → let x = get_or vc i (pos 0) *ℤ get_or vd j (pos 0) in floor x (sum_ℤ vd) *ℤ sum_ℤ vd ≡ x

whole_cell : (x S : ℤ) {a : ℤ} → floor x S *ℤ S ≡ x → Cell x S a → a ≡ floor x S
whole_cell x S w (rounded_down e) = e
whole_cell x S w (rounded_up e n) = absurd (n w)

-- a position in the list is a payee and a user
some_user : (m n k : ℕ) → k < m * n → 0 < n
some_user m zero k h = absurd (omega arith)
some_user m (suc n) k h = omega arith

-- two lists of m rows of n entries are the same where every cell is
pub same_cells :
    (m n : ℕ) (xs ys : List ℤ)
    → length xs ≡ m * n
    → length ys ≡ m * n
    → ((i j : ℕ) → i < m → j < n → cell_at n xs i j ≡ cell_at n ys i j)
    → xs ≡ ys
same_cells m n xs ys e f h = ext_get_or (pos 0) xs ys (e ∙ sym f) at
  where
    at : (k : ℕ) → k < length xs → get_or xs k (pos 0) ≡ get_or ys k (pos 0)
    at k l =
        let q : k < m * n = subst (λ (z : ℕ). k < z) e l in
        let p = some_user m n k q in
        subst (λ (z : ℕ). get_or xs z (pos 0) ≡ get_or ys z (pos 0)) (div-add-mod' k n) (h (k / n) (k % n) ((div-lt_iff_lt-mul p).1 q) (mod-lt k p))

pub one_table : {vc vd xs ys : List ℤ} → AllWhole vc vd → Table vc vd xs → Table vc vd ys → xs ≡ ys
one_table {vc} {vd} {xs} {ys} w s t =
    same_cells (length vc) (length vd) xs ys s.size t.size
    (λ i j p q. whole_cell _ _ (w.at i j p q) (s.cell i j p q) ∙ sym (whole_cell _ _ (w.at i j p q) (t.cell i j p q)))
