-- Writing a month: the first entries of the bills are the amounts of `rules`, and what each step asks is there.
use Prim.Native.Nat.{ℕ, ◌+◌, ◌-◌, ◌*◌, ◌≤◌, ◌<◌}
use native.Mathlib.Omega.{arith}
use mathlib.Core.Path.{◌≡◌, sym, ap, ap₂, ◌∙◌}
use mathlib.Core.List.{List, ◌++◌}
use lib.IntN.{ℤ, pos, ◌+ℤ◌}
use lib.ListN.{length, take, get_or, length-append, length-drop}
use lib.Seq.{take_at, get_or-drop}
use Rattle.ints.specs.Bridge.{abs, za}
use Rattle.ints.specs.Bounds.{word_abs, word_wide, word_nonneg, words_small}
use Rattle.ints.specs.Sums.{Small}
use Rattle.rules.specs.declared.Ledger.{Ledger}
use Rattle.rules.specs.Verdict.{Verdict}
use Rattle.rules.specs.Lists.{side_by_side}
use Rattle.rules.specs.Most.{most_amount}
use Rattle.rules.specs.Lines.{Lines}
use Rattle.rules.specs.State.{State}
use Rattle.rules.specs.Charges.{VDs, new_credits}
use Rattle.rules.specs.Credits.{VCsFrom, VCs}
use Rattle.rules.specs.Table.{cell_at, Table}
use Rattle.rules.specs.Direct.{ongs}
use Rattle.rules.proofs.Sizes.{length_VDs, length_new_credits, length_VCs}
use Rattle.rules.proofs.Passed.{Passed, passed}
use Rattle.rules.proofs.BoundsDirect.{bounds_direct}
use Rattle.rules.proofs.Bounds.{bounds}
use Rattle.rules.proofs.Direct.{month_table}
use Rattle.rules.proofs.MonthTotals.{balanced}
use Rattle.charges.specs.declared.month.Bills.{Bills}
use Rattle.charges.specs.Rows.{rows_before, last_row}
use Rattle.credits.specs.Payable.{Payable}
use Rattle.credits.proofs.Tested.{payable_passed}
use Rattle.cells.specs.Finish.{Fillable}
use Rattle.closing.specs.Written.{Writable, Written}

-- the table of a month that breaks no limit can be filled
fillable_passed : (s : State) (l : Lines) → length s.credits ≡ s.users → Passed s l → Fillable (VCs s l) (VDs s l)
fillable_passed s l w p =
    let b = bounds s l w p in
    let t = balanced s l w p in
    let payees = length_VCs s l in
    let users = length_VDs s l (w ∙ sym p.users) in
    record {
      payees = omega (arith, payees, p.agents, p.few_agents);
      users = omega (arith, users, p.users, p.few_users);
      credits = words_small (record { at = λ i h. word_wide 100000000000000000 100000000000000000 (b.payees.VC i (omega (arith, payees))) tt tt });
      debits = record { above = λ j h. word_nonneg (b.charges.VD j (omega (arith, users))) };
      some = let d = t.some_debit in omega za;
      most = let d = b.charges.VD_total in omega za;
      equal = t.credits_are_debits;
    }

module _ {bills : Bills} {ledger : Ledger} {l : Lines} {held cells : List ℤ} {work : List ℕ} {st : State} {short : Verdict} (w
    : Writable bills ledger l held cells work st short) where
  p : Passed st l
  p = passed st short l w.accepts

  credit_count : length st.credits ≡ length l.users
  credit_count = w.one_each ∙ sym p.users

  fillable : Fillable (VCs st l) (VDs st l)
  fillable = fillable_passed st l w.one_each p

  pub few_users : length l.users ≤ 512
  few_users = omega (arith, p.users, p.few_users)

  pub few_agents : length l.agents ≤ 256
  few_agents = omega (arith, p.agents, p.few_agents)

  -- ---- the direct charges of the users
  ong_small : Small most_amount (ongs l.users)
  ong_small = (bounds_direct p).small

  -- ---- the credits of the payees
  pub payable : Payable bills.total ledger.month l.line l.agents
  payable = rw (w.last_is, w.bills_are.total) (payable_passed st l w.one_each p)

  pub credits_are : {total last : ℤ} {vc : List ℤ} → total ≡ bills.total → last ≡ ledger.month → vc ≡ VCsFrom total last l.line l.agents → vc ≡ VCs st l
  credits_are t m e = e ∙ rw (t, m, w.last_is, w.bills_are.total)

  pub payee_count : length (VCs st l) ≡ length l.agents + 1
  payee_count = omega (arith, length_VCs st l)

  -- ---- the debits and the new held credits of the users
  debit_count : length (VDs st l) ≡ length l.users
  debit_count = length_VDs st l credit_count

  new_count : length (new_credits st l) ≡ length l.users
  new_count = length_new_credits st l credit_count

  pub first_debits : take (length l.users) bills.debits ≡ VDs st l
  first_debits = rw w.bills_are.debits (take_at (VDs st l) _ (length l.users) debit_count)

  pub first_credits : take (length l.users) bills.credits ≡ new_credits st l
  first_credits = rw w.bills_are.credits (take_at (new_credits st l) _ (length l.users) new_count)

  -- ---- the table
  module _ {vc : List ℤ} (e : vc ≡ VCs st l) where
    -- the credits stand first in their array
    pub first_payees : (rest : List ℤ) → take (length l.agents + 1) (vc ++ rest) ≡ vc
    first_payees rest = take_at vc rest (length l.agents + 1) (ap length e ∙ payee_count)

    pub payees_reach : (rest : List ℤ) → length l.agents + 1 ≤ length (vc ++ rest)
    payees_reach rest = simp length-append (omega (arith, ap length e, payee_count))

    module _ {vd : List ℤ} (f : vd ≡ VDs st l) where
      size : length vc * length vd ≡ (length l.agents + 1) * length l.users
      size = ap₂ ◌*◌ (ap length e ∙ payee_count) (ap length f ∙ debit_count)

      pub asked : Fillable vc vd × (length cells ≡ length vc * length vd) × (length vc * length vd ≤ length work)
      asked = (rw (e, f) fillable, w.cells_count ∙ sym size, rw size w.work_count)

      -- ---- the shared table is laid; the direct charges come on top of its last row
      module _ {laid : List ℤ} (t : Table vc vd laid) where
        shared : Table (VCs st l) (VDs st l) laid
        shared = rw (sym e, sym f) t

        long : length laid ≡ (length l.agents + 1) * length l.users
        long = t.size ∙ size

        -- where the last row begins
        before : length laid - length l.users ≡ st.agents * st.users
        before = ap₂ ◌-◌ (long ∙ ap₂ (λ (m n : ℕ). (m + 1) * n) p.agents p.users) p.users ∙ omega arith

        last_long : length (last_row (length l.users) laid) ≡ length l.users
        last_long = length-drop (length laid - length l.users) laid ∙ omega (arith, long)

        -- its entries are cells, and so small
        entry : (j : ℕ) → j < length (last_row (length l.users) laid) → abs (get_or (last_row (length l.users) laid) j (pos 0)) ≤ 100000000000000000
        entry j h =
            let q : j < length l.users = omega (arith, last_long) in
            let c = shared.cell st.agents j (omega (arith, payee_count, p.agents)) (omega (arith, debit_count)) in
            let b = (bounds st l w.one_each p).cells.cell_at_lem st.agents j (omega (arith, p.agents)) q c in
            let small : abs (cell_at st.users laid st.agents j) ≤ 100000000000000000 =
            rw (debit_count ∙ p.users) at (word_abs (word_wide 100000000000000000 100000000000000000 b tt tt)) in
            rw (get_or-drop (length laid - length l.users) laid j (pos 0), before) small

        pub may_add : (length l.users ≤ length laid) × Small most_amount (ongs l.users) × Small 100000000000000000 (last_row (length l.users) laid)
        may_add = (omega (arith, long), ong_small, record { small = entry })

        pub written :
            {held' cells' : List ℤ} {work' : List ℕ}
            → cells' ≡ rows_before (length l.users) laid ++ side_by_side ◌+ℤ◌ (last_row (length l.users) laid) (ongs l.users)
            → held' ≡ new_credits st l
            → length work' ≡ length work
            → Written st l work held' cells' work'
        written r h s =
            let needed : length laid ≡ (st.agents + 1) * st.users = long ∙ ap₂ (λ (m n : ℕ). (m + 1) * n) p.agents p.users in
            record { credits = h; table = rw (r, before) (month_table st l p.users laid needed shared); scratch = s }
