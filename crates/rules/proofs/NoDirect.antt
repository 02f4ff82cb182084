-- With every ong 0 all is as before: credits, table, and what demand 3 says of a list of closings.
use Prim.Native.Nat.{ℕ, zero, suc, ◌*◌, ◌<◌}
use mathlib.Core.Path.{◌≡◌, refl, sym, ap, ap₂, ◌∙◌, subst}
use mathlib.Core.Bool.{Bool, true, false, cond}
use mathlib.Core.List.{List, [], ◌∷◌, ◌++◌, map}
use lib.Dec.{eqb}
use lib.IntN.{ℤ, pos, ◌+ℤ◌, ◌-ℤ◌, ◌*ℤ◌, +ℤ_idr}
use lib.ListN.{length, get_or, replicate}
use lib.Signed.{◌<ℤ◌}
use Rattle.ints.specs.Bridge.{abs, za, sub#}
use Rattle.ints.specs.Sums.{sum_ℤ}
use Rattle.rules.specs.declared.Ledger.{Ledger}
use Rattle.rules.specs.Lines.{Lines}
use Rattle.rules.specs.State.{State}
use Rattle.rules.specs.Charges.{VMEs, CPVs, VDs}
use Rattle.rules.specs.Credits.{agent_VCs, VCsFrom, VCs}
use Rattle.rules.specs.Table.{cell_at, Table}
use Rattle.rules.specs.Direct.{ongs, month_credits, direct, MonthTable}
use Rattle.rules.specs.Tally.{opened, judged, next, after, counted, added, charges_less_compensation, payee_credit}
use Rattle.rules.specs.Demand.{Call, fed, NearCells, AllNear, Demand3}
use Rattle.rules.specs.NoDirect.{NoDirect, NoneDirect, shared_charges, shared_credit, NearShared, AllNearShared, AsBefore}
use Rattle.rules.proofs.OneTable.{same_cells}
use Rattle.rules.proofs.Sides.{sum_zeros}

zero_at : (n j : ℕ) → get_or (replicate n (pos 0)) j (pos 0) ≡ pos 0
zero_at zero j = refl
zero_at (suc n) zero = refl
zero_at (suc n) (suc j) = zero_at n j

module _ (s : State) (l : Lines) (z : NoDirect l) where
  ong_none : (j : ℕ) → get_or (ongs l.users) j (pos 0) ≡ pos 0
  ong_none j = ap (λ (x : List ℤ). get_or x j (pos 0)) z ∙ zero_at (length l.users) j

  direct_none : (i j : ℕ) → direct s l i j ≡ pos 0
  unfolding direct
  direct_none i j = go (eqb i s.agents)
    where
      go : (t : Bool) → cond t (get_or (ongs l.users) j (pos 0)) (pos 0) ≡ pos 0
      go true = ong_none j
      go false = refl

  -- ONS receives ons alone
  pub credits_as_before : month_credits s l ≡ VCs s l
  unfolding month_credits VCsFrom
  credits_as_before =
      let none = ap sum_ℤ z ∙ sum_zeros (length l.users) in
      ap (λ (x : ℤ). agent_VCs s l ++ x ∷ []) (ap (λ (x : ℤ). l.line.ons +ℤ x) none ∙ +ℤ_idr l.line.ons)

  -- the cells are those of the shared table
  pub table_as_before :
      {cells : List ℤ} → length (VCs s l) ≡ suc s.agents → length (VDs s l) ≡ s.users → MonthTable s l cells → Table (VCs s l) (VDs s l) cells
  table_as_before {cells} e f t =
      let size : length (VCs s l) * length (VDs s l) ≡ suc s.agents * s.users = ap₂ ◌*◌ e f in
      let cell : (i j : ℕ) → i < suc s.agents → j < s.users → cell_at s.users t.shared i j ≡ cell_at s.users cells i j =
      λ i j p q. sym (t.cell i j p q ∙ ap (λ (x : ℤ). cell_at s.users t.shared i j +ℤ x) (direct_none i j) ∙ +ℤ_idr _) in
      subst (Table (VCs s l) (VDs s l))
      (same_cells (suc s.agents) s.users t.shared cells (t.table.size ∙ size) (t.size ∙ size) cell)
      t.table

  charges_as_before : (j : ℕ) → charges_less_compensation j s l ≡ shared_charges j s l
  charges_as_before j =
      ap (λ (x : ℤ). x -ℤ get_or (CPVs l) j (pos 0)) (ap (λ (x : ℤ). get_or (VMEs l) j (pos 0) +ℤ x) (ong_none j) ∙ +ℤ_idr (get_or (VMEs l) j (pos 0)))

  near_as_before : {cells : List ℤ} → NearCells s l cells → NearShared s l cells
  near_as_before {cells} n = record {
    near = λ i j p q.
        subst (λ (x : ℤ). pos (abs (x *ℤ sum_ℤ (VDs s l) -ℤ get_or (VCs s l) i (pos 0) *ℤ get_or (VDs s l) j (pos 0))) <ℤ sum_ℤ (VDs s l))
        (ap (λ (x : ℤ). cell_at s.users cells i j -ℤ x) (direct_none i j) ∙ less (cell_at s.users cells i j))
        (n.near i j p q);
  }
    where
      less : (x : ℤ) → x -ℤ pos 0 ≡ x
      less x = omega (za, sub# x (pos 0))

-- amounts that are the same of every month without direct charges add up to the same
added_same :
    (f g : State → Lines → ℤ) → ((s : State) (l : Lines) → NoDirect l → f s l ≡ g s l)
    → (s : State) (cs : List Call) → NoneDirect cs → added f s (map fed cs) ≡ added g s (map fed cs)
unfolding added NoneDirect
added_same f g h s [] z = refl
added_same f g h s (c ∷ cs) z =
    ap₂ ◌+ℤ◌ (ap (counted (judged s (fed c))) (h s c.lines z.0)) (added_same f g h (next s (fed c)) cs z.1)

all_near : (s : State) (cs : List Call) → NoneDirect cs → AllNear s cs → AllNearShared s cs
unfolding AllNear AllNearShared NoneDirect
all_near s [] z n = tt
all_near s (c ∷ cs) z n = (
  record { where_accepted = λ e. near_as_before s c.lines z.0 (n.0.where_accepted e); where_refused = λ m p e. tt },
  all_near (next s (fed c)) cs z.1 n.1,
)

-- DEMAND 3 of months without direct charges is paper 01's
pub as_before :
    (users agents : ℕ) (held_at_opening : List ℤ) (g : Ledger) (held : List ℤ) (cs : List Call)
    → NoneDirect cs
    → Demand3 users agents held_at_opening g held cs
    → AsBefore users agents cs
as_before users agents held_at_opening g held cs z d =
    record {
      user_total = λ j h.
          d.user_total j h
          ∙ ap (λ (x : ℤ). x +ℤ get_or (after (opened users agents) (map fed cs)).credits j (pos 0))
          (added_same (charges_less_compensation j) (shared_charges j) (λ s l n. charges_as_before s l n j) _ cs z);
      payee_total = λ i h.
          d.payee_total i h
          ∙ added_same (payee_credit i) (shared_credit i) (λ s l n. ap (λ (x : List ℤ). get_or x i (pos 0)) (credits_as_before s l n)) _ cs z;
      one_cent = all_near _ cs z d.one_cent;
    }
