-- DEMAND 2 of the statement (paper 01, "Charges of a user" and "Credits of a payee"), over what a caller learns from the checked contract
-- of `state`: of an accepted month every amount is the definition's. Nothing else is assumed.
use Prim.Native.Nat.{ℕ, ◌+◌}
use mathlib.Core.Path.{◌≡◌, ap, ◌∙◌}
use mathlib.Core.List.{List, ◌++◌, map}
use lib.IntN.{ℤ}
use lib.ListN.{length, take, drop}
use lib.Seq.{take_at}
use Rattle.rules.specs.Verdict.{accepted}
use Rattle.rules.specs.Answers.{verdict_of}
use Rattle.rules.specs.State.{State}
use Rattle.rules.specs.Calls.{state_of}
use Rattle.statement.specs.declared.PointRow.{PointRow}
use Rattle.statement.specs.declared.UserRow.{UserRow}
use Rattle.statement.specs.declared.PayeeRow.{PayeeRow}
use Rattle.statement.specs.Statement.{point_rows, user_rows, payee_rows}
use Rattle.statement.specs.Demand1.{StateCall}
use Rattle.statement.specs.Demand2.{Demand2Stating}
use Rattle.statement.proofs.ByColumn as col
use Rattle.statement.proofs.Promised.{Promised, point_count, user_count, payee_count, accepted_so, one_each}
use Rattle.statement.proofs.Demand1.{Called, plain}

module _ (c : StateCall) (o : Promised c) (a : verdict_of c.answer ≡ accepted) where
  abbrev s : State
  s = state_of c.ledger c.held

  -- the rows in front of a slice
  front : {A : Type 0} (n : ℕ) (rows lent left : List A) → length rows ≡ n → left ≡ rows ++ drop n lent → take n left ≡ rows
  front n rows lent left e w = ap (take n) w ∙ take_at rows (drop n lent) n e

  of_points : (field : PointRow → ℤ) {xs : List ℤ} → map field (point_rows c.lines) ≡ xs
      → map field (take (length c.lines.points) c.points_left) ≡ xs
  of_points field x = ap (map field) (front _ (point_rows c.lines) c.points c.points_left (point_count c) (accepted_so c o a).rows_of_points) ∙ x

  of_users : (field : UserRow → ℤ) {xs : List ℤ} → map field (user_rows s c.lines) ≡ xs
      → map field (take (length c.lines.users) c.users_left) ≡ xs
  of_users field x = ap (map field) (front _ (user_rows s c.lines) c.users c.users_left (user_count c) (accepted_so c o a).rows_of_users) ∙ x

  of_payees : (field : PayeeRow → ℤ) {xs : List ℤ} → map field (payee_rows s c.lines) ≡ xs
      → map field (take (length c.lines.agents + 1) c.payees_left) ≡ xs
  of_payees field x = ap (map field) (front _ (payee_rows s c.lines) c.payees c.payees_left (payee_count c) (accepted_so c o a).rows_of_payees) ∙ x

  pub demand_2 : Demand2Stating c s
  demand_2 =
      let w : length s.credits ≡ length c.lines.users = one_each c o a in
      let l = c.lines in
      record {
        balance = (accepted_so c o a).stated;
        use_charges = of_points (λ r. r.use_charge) (col.use_column s l);
        overrun_is = of_points (λ r. r.overrun) (col.overrun_column s l);
        EUST = of_users (λ r. r.eust) (col.EUST_column s l w);
        overruns = of_users (λ r. r.overruns) (col.overruns_column s l w);
        user_ret = of_users (λ r. r.ret) (col.user_ret_column s l w);
        VME = of_users (λ r. r.vme) (col.VME_column s l w);
        CPV = of_users (λ r. r.cpv) (col.CPV_column s l w);
        held_before = of_users (λ r. r.held_before) (col.held_before_column s l w);
        n = of_users (λ r. r.n) (col.n_column s l w);
        VD = of_users (λ r. r.vd) (col.VD_column s l w);
        held_after = of_users (λ r. r.held_after) (col.held_after_column s l w);
        direct_charge = of_users (λ r. r.ong) (col.ong_column s l w);
        VMST_is = of_payees (λ r. r.vmst) (col.VMST_column s l);
        VMPA_is = of_payees (λ r. r.vmpa) (col.VMPA_column s l);
        VMANT = of_payees (λ r. r.vmant) (col.VMANT_column s l);
        payee_ret = of_payees (λ r. r.ret) (col.payee_ret_column s l);
        VC = of_payees (λ r. r.vc) (col.VC_column s l);
        shared = of_payees (λ r. r.shared) (col.shared_column s l);
      }

pub Demand_2_stating : (c : Called) → verdict_of c.result ≡ accepted → Demand2Stating (plain c) (state_of (plain c).ledger (plain c).held)
Demand_2_stating c = demand_2 (plain c) c.learnt
