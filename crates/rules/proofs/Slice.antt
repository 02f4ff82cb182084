-- A month's table that stands at the front of a cells slice, read in the slice itself: its rows, its columns and its cells.
use Prim.Native.Nat.{ℕ, suc, ◌+◌, ◌*◌, ◌<◌}
use mathlib.Core.Path.{◌≡◌, sym, ap, ap₂, ◌∙◌, subst}
use mathlib.Core.List.{List}
use native.Mathlib.Omega.{arith}
use native.Mathlib.Nat.{mul-le-mul_right, le_of_suc-le-suc}
use lib.IntN.{ℤ, pos, ◌+ℤ◌, ◌-ℤ◌, ◌*ℤ◌}
use lib.ListN.{length, take, get_or}
use lib.Seq.{get_or-take}
use lib.Signed.{◌<ℤ◌}
use Rattle.ints.specs.Bridge.{abs, za, add#, sub#}
use Rattle.ints.specs.Sums.{sum_ℤ, Σ<, Σ_ext, Σ_add}
use Rattle.rules.specs.Lines.{Lines}
use Rattle.rules.specs.State.{State}
use Rattle.rules.specs.Charges.{VDs}
use Rattle.rules.specs.Credits.{VCs}
use Rattle.rules.specs.Table.{cell_at, Table}
use Rattle.rules.specs.Direct.{ongs, month_credits, direct, MonthTable}
use Rattle.rules.specs.Refusals.{cells_needed}
use Rattle.rules.proofs.Near.{one_cent}
use Rattle.rules.proofs.Direct.{direct_column, credit_at}

-- a payee's row is what it receives, a user's column its debit and its direct charge
pub record Stands (users agents : ℕ) (s : State) (l : Lines) (cells : List ℤ) : Type 0 where
  pub row : (i : ℕ) → i < suc agents → Σ< users (λ j. cell_at users cells i j) ≡ get_or (month_credits s l) i (pos 0)
  pub column : (j : ℕ) → j < users → Σ< (suc agents) (λ i. cell_at users cells i j) ≡ get_or (VDs s l) j (pos 0) +ℤ get_or (ongs l.users) j (pos 0)
  pub near :
      (i j : ℕ)
      → i < suc agents
      → j < users
      → pos (abs ((cell_at users cells i j -ℤ direct s l i j) *ℤ sum_ℤ (VDs s l) -ℤ get_or (VCs s l) i (pos 0) *ℤ get_or (VDs s l) j (pos 0)))
      <ℤ sum_ℤ (VDs s l)

-- a cell of the table lies among the entries that it needs
pub cell_in : (users agents i j : ℕ) → i < suc agents → j < users → i * users + j < cells_needed users agents
cell_in users agents i j p q = omega (arith, mul-le-mul_right users (le_of_suc-le-suc p))

-- a shared table whose counts are these
pub record Shares (users agents : ℕ) (vc vd cells : List ℤ) : Type 0 where
  pub row : (i : ℕ) → i < suc agents → Σ< users (λ j. cell_at users cells i j) ≡ get_or vc i (pos 0)
  pub column : (j : ℕ) → j < users → Σ< (suc agents) (λ i. cell_at users cells i j) ≡ get_or vd j (pos 0)
  pub near :
      (i j : ℕ)
      → i < suc agents
      → j < users
      → pos (abs (cell_at users cells i j *ℤ sum_ℤ vd -ℤ get_or vc i (pos 0) *ℤ get_or vd j (pos 0))) <ℤ sum_ℤ vd

pub shares :
    (users agents : ℕ) (vc vd cells : List ℤ)
    → length vc ≡ suc agents
    → length vd ≡ users
    → Table vc vd cells
    → pos 0 <ℤ sum_ℤ vd
    → Shares users agents vc vd cells
shares users agents vc vd cells e f t h =
    record {
      row = λ i p. subst (λ (n : ℕ). Σ< n (λ j. cell_at n cells i j) ≡ get_or vc i (pos 0)) f (t.row i (omega arith));
      column = λ j q.
          subst (λ (m : ℕ). Σ< m (λ i. cell_at users cells i j) ≡ get_or vd j (pos 0)) e
          (subst (λ (n : ℕ). Σ< (length vc) (λ i. cell_at n cells i j) ≡ get_or vd j (pos 0)) f (t.column j (omega arith)));
      near = λ i j p q.
          subst (λ (n : ℕ). pos (abs (cell_at n cells i j *ℤ sum_ℤ vd -ℤ get_or vc i (pos 0) *ℤ get_or vd j (pos 0))) <ℤ sum_ℤ vd) f
          (one_cent vc vd cells t h i j (omega arith) (omega arith));
    }

module _ (s : State) (l : Lines) (cells : List ℤ) (agents_are : length l.agents ≡ s.agents) (users_are : length l.users ≡ s.users)
    (t : MonthTable s l (take (cells_needed s.users s.agents) cells)) where
  -- a cell in the slice is that of the shared table and its direct charge
  cell_is : (i j : ℕ) → i < suc s.agents → j < s.users → cell_at s.users cells i j ≡ cell_at s.users t.shared i j +ℤ direct s l i j
  cell_is i j p q =
      sym (get_or-take (cells_needed s.users s.agents) cells (i * s.users + j) (pos 0) (cell_in s.users s.agents i j p q)) ∙ t.cell i j p q

  off : (i j : ℕ) → i < suc s.agents → j < s.users → cell_at s.users cells i j -ℤ direct s l i j ≡ cell_at s.users t.shared i j
  off i j p q = ap (λ (x : ℤ). x -ℤ direct s l i j) (cell_is i j p q) ∙ less (cell_at s.users t.shared i j) (direct s l i j)
    where
      less : (x d : ℤ) → x +ℤ d -ℤ d ≡ x
      less x d = omega (za, add# x d, sub# (x +ℤ d) d)

  pub stands : length (VCs s l) ≡ suc s.agents → length (VDs s l) ≡ s.users → pos 0 <ℤ sum_ℤ (VDs s l) → Stands s.users s.agents s l cells
  stands e f h =
      let n = s.users in
      let m = suc s.agents in
      let k = shares n s.agents (VCs s l) (VDs s l) t.shared e f t.table h in
      record {
        row = λ i p.
            Σ_ext n _ _ (λ j q. cell_is i j p q)
            ∙ Σ_add n (λ j. cell_at n t.shared i j) (λ j. direct s l i j)
            ∙ ap (λ (x : ℤ). x +ℤ Σ< n (λ j. direct s l i j)) (k.row i p)
            ∙ sym (credit_at s l agents_are users_are i p);
        column = λ j q.
            Σ_ext m _ _ (λ i p. cell_is i j p q)
            ∙ Σ_add m (λ i. cell_at n t.shared i j) (λ i. direct s l i j)
            ∙ ap₂ ◌+ℤ◌ (k.column j q) (direct_column s l j);
        near = λ i j p q.
            subst (λ (x : ℤ). pos (abs (x *ℤ sum_ℤ (VDs s l) -ℤ get_or (VCs s l) i (pos 0) *ℤ get_or (VDs s l) j (pos 0))) <ℤ sum_ℤ (VDs s l))
            (sym (off i j p q))
            (k.near i j p q);
      }
