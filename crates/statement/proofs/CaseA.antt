-- The rows of the month that paper 01 checks by hand as case a, by computation: a row in which two columns change places is not these.
use mathlib.Core.Path.{◌≡◌, refl}
use mathlib.Core.List.{[], ◌∷◌}
use lib.IntN.{ℤ, pos, negsuc}
use Rattle.ints.specs.Floor.{floor}
use Rattle.ints.specs.Sums.{sum_ℤ}
use Rattle.share.specs.Running.{part, parts_from, running_share}
use Rattle.rules.specs.Lists.{each_from, side_by_side}
use Rattle.rules.specs.Calendar.{month_of_year, cycle_month, settled_to}
use Rattle.rules.specs.Lines.{kind_of}
use Rattle.rules.specs.State.{State}
use Rattle.rules.specs.July.{july}
use Rattle.rules.specs.Charges.{half_up, or_zero, use_charge, allowance, excess, overrun, of_user, EUSTs, overrun_sums, VMEs}
use Rattle.rules.specs.Charges.{pv_total, CPVs, ns, VDs, new_credits}
use Rattle.rules.specs.Credits.{VMPA, VMST, own_credit, own_credits_from, SMSEFrom, VMANTsFrom, agent_VCs_from}
use Rattle.statement.specs.declared.PointRow.{PointRow}
use Rattle.statement.specs.declared.UserRow.{UserRow}
use Rattle.statement.specs.declared.PayeeRow.{PayeeRow}
use Rattle.statement.specs.Statement.{point_rows, user_rows_of, user_rows, agent_rows_of, payee_rows_from, payee_rows}

-- a ledger of its counts on which no month is closed, with the credits that its two users hold
abbrev holding : ℤ → ℤ → State
holding a b = record { users = 2; agents = 2; month = pos 0; credits = a ∷ b ∷ [] }

-- rows by their amounts, in order
abbrev point : ℤ → ℤ → PointRow
point u o = record { use_charge = u; overrun = o }

abbrev user : (eust overruns ret vme cpv before n vd after ong : ℤ) → UserRow
user eust overruns ret vme cpv before n vd after ong =
    record {
      eust = eust;
      overruns = overruns;
      ret = ret;
      vme = vme;
      cpv = cpv;
      held_before = before;
      n = n;
      vd = vd;
      held_after = after;
      ong = ong;
    }

abbrev payee : (vmst vmpa vmant ret vc shared : ℤ) → PayeeRow
payee vmst vmpa vmant ret vc shared = record { vmst = vmst; vmpa = vmpa; vmant = vmant; ret = ret; vc = vc; shared = shared }

pub points_of_a : point_rows july ≡ (point (pos 400) (pos 0)) ∷ (point (pos 1600) (pos 0)) ∷ []
unfolding point_rows floor half_up or_zero use_charge allowance excess overrun kind_of
points_of_a = refl

pub users_of_a :
    user_rows (holding (pos 0) (pos 0)) july
    ≡ (user (pos 400) (pos 0) (pos 0) (pos 400) (pos 6) (pos 0) (pos 394) (pos 394) (pos 0) (pos 0))
    ∷ (user (pos 1600) (pos 0) (pos 0) (pos 1600) (pos 24) (pos 0) (pos 1576) (pos 1576) (pos 0) (pos 0))
    ∷ []
unfolding user_rows user_rows_of floor sum_ℤ each_from side_by_side half_up or_zero use_charge allowance excess overrun of_user EUSTs overrun_sums VMEs
    pv_total CPVs ns VDs new_credits running_share parts_from part
users_of_a = refl

-- user 2 holds 2,000: what is left of it stays held
pub users_of_a_held :
    user_rows (holding (pos 0) (pos 2000)) july
    ≡ (user (pos 400) (pos 0) (pos 0) (pos 400) (pos 6) (pos 0) (pos 394) (pos 394) (pos 0) (pos 0))
    ∷ (user (pos 1600) (pos 0) (pos 0) (pos 1600) (pos 24) (pos 2000) (negsuc 423) (pos 0) (pos 424) (pos 0))
    ∷ []
unfolding user_rows user_rows_of floor sum_ℤ each_from side_by_side half_up or_zero use_charge allowance excess overrun of_user EUSTs overrun_sums VMEs
    pv_total CPVs ns VDs new_credits running_share parts_from part
users_of_a_held = refl

pub payees_of_a :
    payee_rows (holding (pos 0) (pos 0)) july
    ≡ (payee (pos 1000) (pos 0) (negsuc 368) (pos 4) (pos 635) (pos 635))
    ∷ (payee (pos 1970) (pos 2) (negsuc 736) (pos 0) (pos 1235) (pos 1235))
    ∷ (payee (pos 0) (pos 0) (pos 0) (pos 0) (pos 100) (pos 100))
    ∷ []
unfolding payee_rows_from agent_rows_of floor sum_ℤ each_from side_by_side half_up or_zero use_charge allowance excess overrun of_user EUSTs overrun_sums VMEs
    pv_total CPVs ns VDs new_credits running_share parts_from part month_of_year cycle_month settled_to
    VMPA VMST own_credit own_credits_from SMSEFrom VMANTsFrom agent_VCs_from
payees_of_a = refl
