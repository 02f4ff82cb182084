-- The users of a month whose tests are passed, their charges and their compensation being worked out: what writing their rows asks, and that
-- these are the rows of the statement.
use Rattle.std.proofs.Common.{◌≡◌, List, length, take, ℤ, sym, ap, ◌∙◌, to_z-of_z, w64, SFits}
use Rattle.ints.specs.Words.{back}
use Rattle.rules.specs.declared.User.{User}
use Rattle.rules.specs.Lines.{Lines}
use Rattle.rules.specs.State.{State}
use Rattle.rules.specs.Charges.{rets, VMEs, VMEsFrom, CPVs, CPVsFrom, ns_from, ns}
use Rattle.rules.proofs.Sizes.{length_VMEs, length_VDs, length_new_credits}
use Rattle.charges.specs.declared.month.Bills.{Bills}
use Rattle.charges.specs.declared.scan.Sums.{Sums}
use Rattle.charges.specs.Month.{Settleable, Month, Billed, first_uses, first_overruns}
use Rattle.charges.proofs.Amounts.{user_count, settleable, charges_are, compensation_is, first_debits, first_credits}
use Rattle.statement.specs.Statement.{user_rows_of, user_rows}

module _ {users : List User} {s : Sums} {pv : ℤ} {held : List ℤ} {st : State} {l : Lines} (m : Month users s pv held st l) where
  -- ---- the bills, the first entry for each user
  module _ {bills : Bills} (b : Billed (length users) st l bills) where
    pub debit_count : length (take (length users) bills.debits) ≡ length users
    debit_count = ap length (first_debits m b) ∙ length_VDs st l m.tested.held ∙ sym (user_count m)

    pub credit_count : length (take (length users) bills.credits) ≡ length users
    credit_count = ap length (first_credits m b) ∙ length_new_credits st l m.tested.held ∙ sym (user_count m)

  -- ---- VME and CPV, from pv as the machine has it
  module _ (f : SFits w64 pv) {vme cpv : List ℤ} (charged : vme ≡ VMEsFrom (first_uses users s) (first_overruns users s) (rets users))
      (compensated : cpv ≡ CPVsFrom (back pv) (first_uses users s)) where
    vme_is : vme ≡ VMEs l
    vme_is = charged ∙ charges_are m

    cpv_is : cpv ≡ CPVs l
    cpv_is = (rw (to_z-of_z f) at compensated) ∙ compensation_is m

    pub vme_count : length vme ≡ length users
    vme_count = ap length vme_is ∙ length_VMEs l ∙ sym (user_count m)

    pub amounts : Settleable vme cpv held
    amounts = rw (vme_is, cpv_is) (settleable m)

    pub user_rows_are :
        {bills : Bills}
        → Billed (length users) st l bills
        → user_rows_of (first_uses users s) (first_overruns users s) vme cpv held (ns_from vme cpv held)
        (take (length users) bills.debits) (take (length users) bills.credits) users
        ≡ user_rows st l
    unfolding user_rows ns
    user_rows_are b = rw (vme_is, cpv_is, first_debits m b, first_credits m b, m.uses_are, m.overruns_are, m.held_are, m.users_are)
