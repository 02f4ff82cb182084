-- Direct charges in the rows and columns of a month's table, and the cells that a month bills from those of its shared table.
use Prim.Native.Nat.{ℕ, suc, ◌+◌, ◌*◌, ◌<◌}
use native.Mathlib.Omega.{arith}
use native.Mathlib.Nat.{mul-le-mul_right}
use mathlib.Core.Path.{◌≡◌, refl, sym, ap, ap₂, ◌∙◌, subst}
use mathlib.Core.Bool.{Bool, true, false}
use mathlib.Core.List.{List, [], ◌++◌}
use lib.Dec.{ltb}
use lib.IntN.{ℤ, pos, ◌+ℤ◌, +ℤ_idr, +ℤ_comm}
use lib.ListN.{length, get_or, take, drop, length-append, length-drop, length-map, get_or-append}
use lib.Seq.{length-take-le, take_all, get_or_at, get_or-take, get_or-drop, get_or-append-add}
use borrow.Author.Tests.{ltb-true, ltb-false, eq-eqb, ne_eqb}
use Rattle.ints.specs.Sums.{sum_ℤ, Σ<, Σ_zero, Σ_ext, Σ_list}
use Rattle.rules.specs.Lists.{side_by_side, length_side_by_side, get_or_side_by_side}
use Rattle.rules.specs.declared.User.{User}
use Rattle.rules.specs.Lines.{Lines}
use Rattle.rules.specs.State.{State}
use Rattle.rules.specs.Charges.{VDs}
use Rattle.rules.specs.Credits.{agent_VCs, VCsFrom, VCs}
use Rattle.rules.specs.Table.{cell_at, Table}
use Rattle.rules.specs.Direct.{ongs, month_credits, direct, MonthTable}
use Rattle.rules.specs.Refusals.{cells_needed}
use Rattle.rules.proofs.Sizes.{length_agent_VCs}

pub length_ongs : (l : Lines) → length (ongs l.users) ≡ length l.users
length_ongs l = length-map l.users (λ (u : User). u.ong)

-- a payee is an agent, or ONS
agent_or_ons : (P : ℕ → Type 0) (n : ℕ) → ((i : ℕ) → i < n → P i) → P n → (i : ℕ) → i < suc n → P i
agent_or_ons P n agent ons i h = go (ltb i n) refl
  where
    go : (t : Bool) → ltb i n ≡ t → P i
    go true e = agent i (ltb-true i n e)
    go false e = let same : n ≡ i = omega (arith, ltb-false i n e) in subst P same ons

module _ (s : State) (l : Lines) where
  -- ---- none is an agent's, and ONS has every user's
  pub direct_agent : (i j : ℕ) → i < s.agents → direct s l i j ≡ pos 0
  unfolding direct
  direct_agent i j h = rw (ne_eqb i s.agents (λ e. omega arith))

  pub direct_ons : (j : ℕ) → direct s l s.agents j ≡ get_or (ongs l.users) j (pos 0)
  unfolding direct
  direct_ons j = rw (eq-eqb s.agents s.agents refl)

  -- a user's column has its ong
  pub direct_column : (j : ℕ) → Σ< (suc s.agents) (λ i. direct s l i j) ≡ get_or (ongs l.users) j (pos 0)
  unfolding Σ<
  direct_column j =
      ap₂ ◌+ℤ◌ (Σ_ext s.agents _ (λ i. pos 0) (λ i h. direct_agent i j h) ∙ Σ_zero s.agents) (direct_ons j)
      ∙ +ℤ_comm (pos 0) (get_or (ongs l.users) j (pos 0))
      ∙ +ℤ_idr (get_or (ongs l.users) j (pos 0))

  module _ (agents_are : length l.agents ≡ s.agents) (users_are : length l.users ≡ s.users) where
    agents_long : length (agent_VCs s l) ≡ s.agents
    agents_long = length_agent_VCs s l ∙ agents_are

    of_agent : (i : ℕ) → i < s.agents → get_or (month_credits s l) i (pos 0) ≡ get_or (VCs s l) i (pos 0) +ℤ Σ< s.users (λ j. direct s l i j)
    unfolding month_credits VCsFrom
    of_agent i h =
        let none = Σ_ext s.users (λ j. direct s l i j) (λ j. pos 0) (λ j k. direct_agent i j h) ∙ Σ_zero s.users in
        get_or-append (agent_VCs s l) _ (pos 0) i (omega (arith, agents_long))
        ∙ sym (get_or-append (agent_VCs s l) _ (pos 0) i (omega (arith, agents_long)))
        ∙ sym (ap (λ (x : ℤ). get_or (VCs s l) i (pos 0) +ℤ x) none ∙ +ℤ_idr _)

    of_ons : get_or (month_credits s l) s.agents (pos 0) ≡ get_or (VCs s l) s.agents (pos 0) +ℤ Σ< s.users (λ j. direct s l s.agents j)
    unfolding month_credits VCsFrom
    of_ons =
        let n = length_ongs l ∙ users_are in
        get_or_at (agent_VCs s l) _ [] (pos 0) s.agents agents_long
        ∙ ap₂ ◌+ℤ◌
        (sym (get_or_at (agent_VCs s l) l.line.ons [] (pos 0) s.agents agents_long))
        (sym
        (Σ_ext s.users _ _ (λ j h. direct_ons j)
        ∙ Σ_list (ongs l.users) s.users (omega (arith, n))
        ∙ ap sum_ℤ (take_all s.users (ongs l.users) (omega (arith, n)))))

    -- what a payee receives is its shared credit and the direct charges of its row
    pub credit_at :
        (i : ℕ)
        → i < suc s.agents
        → get_or (month_credits s l) i (pos 0) ≡ get_or (VCs s l) i (pos 0) +ℤ Σ< s.users (λ j. direct s l i j)
    credit_at i h =
        agent_or_ons (λ (k : ℕ). get_or (month_credits s l) k (pos 0) ≡ get_or (VCs s l) k (pos 0) +ℤ Σ< s.users (λ j. direct s l k j))
        s.agents of_agent of_ons i h

  -- ---- the agents' rows of the shared table as they are, and the direct charges added to the last
  abbrev pub billed_from : List ℤ → List ℤ
  billed_from shared = take (s.agents * s.users) shared ++ side_by_side ◌+ℤ◌ (drop (s.agents * s.users) shared) (ongs l.users)

  module _ (users_are : length l.users ≡ s.users) (shared : List ℤ) (long : length shared ≡ cells_needed s.users s.agents) where
    abbrev k : ℕ
    k = s.agents * s.users

    front_long : length (take k shared) ≡ k
    front_long = length-take-le k shared (omega (arith, long))

    last_row : length (drop k shared) ≡ length (ongs l.users)
    last_row = length-drop k shared ∙ omega (arith, long, length_ongs l, users_are)

    same_size : length (billed_from shared) ≡ length shared
    same_size =
        length-append (take k shared) _
        ∙ ap₂ ◌+◌ front_long (length_side_by_side ◌+ℤ◌ (drop k shared) (ongs l.users) last_row ∙ length-drop k shared)
        ∙ omega (arith, long)

    agent_cell : (i j : ℕ) → i < s.agents → j < s.users → cell_at s.users (billed_from shared) i j ≡ cell_at s.users shared i j +ℤ direct s l i j
    agent_cell i j p q =
        let n : i * s.users + j < k = omega (arith, mul-le-mul_right s.users p) in
        get_or-append (take k shared) _ (pos 0) (i * s.users + j) (subst (λ (m : ℕ). i * s.users + j < m) (sym front_long) n)
        ∙ get_or-take k shared (i * s.users + j) (pos 0) n
        ∙ sym (ap (λ (x : ℤ). cell_at s.users shared i j +ℤ x) (direct_agent i j p) ∙ +ℤ_idr _)

    ons_cell : (j : ℕ) → j < s.users → cell_at s.users (billed_from shared) s.agents j ≡ cell_at s.users shared s.agents j +ℤ direct s l s.agents j
    ons_cell j q =
        let row = side_by_side ◌+ℤ◌ (drop k shared) (ongs l.users) in
        subst (λ (m : ℕ). get_or (take k shared ++ row) (m + j) (pos 0) ≡ get_or row j (pos 0)) front_long (get_or-append-add (take k shared) row j (pos 0))
        ∙ get_or_side_by_side ◌+ℤ◌ (drop k shared) (ongs l.users) j (pos 0) (pos 0) (pos 0) last_row (omega (arith, last_row, length_ongs l, users_are))
        ∙ ap₂ ◌+ℤ◌ (get_or-drop k shared j (pos 0)) (sym (direct_ons j))

    pub month_table : Table (VCs s l) (VDs s l) shared → MonthTable s l (billed_from shared)
    month_table t = record {
      shared = shared;
      table = t;
      size = same_size ∙ t.size;
      cell = λ i j p q.
          agent_or_ons (λ (m : ℕ). cell_at s.users (billed_from shared) m j ≡ cell_at s.users shared m j +ℤ direct s l m j)
          s.agents (λ i p. agent_cell i j p q) (ons_cell j q) i p;
    }
