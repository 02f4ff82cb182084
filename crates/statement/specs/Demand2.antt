-- DEMAND 2 of one statement, in words: of an accepted month every amount is the definition's, column by column of the rows that stand in
-- front of each slice.
use Rattle.std.specs.Prelude.{◌+◌, ◌≡◌, Ok, List, [], ◌∷◌, ◌++◌, map, ℤ, pos, length, take}
use Rattle.rules.specs.declared.Agent.{Agent}
use Rattle.rules.specs.declared.Point.{Point}
use Rattle.rules.specs.Calendar.{cycle_month, settled_to}
use Rattle.rules.specs.Lines.{kind_of}
use Rattle.rules.specs.State.{State}
use Rattle.rules.specs.Charges.{use_charge, overrun, EUSTs, overrun_sums, rets, VMEs, CPVs, ns, VDs, new_credits}
use Rattle.rules.specs.Credits.{VMST, VMPA, SMSE, VMANTs, VCs}
use Rattle.rules.specs.Direct.{ongs, month_credits}
use Rattle.statement.specs.declared.PointRow.{PointRow}
use Rattle.statement.specs.declared.UserRow.{UserRow}
use Rattle.statement.specs.declared.PayeeRow.{PayeeRow}
use Rattle.statement.specs.Demand1.{StateCall}

-- an amount of each agent, and ONS has none of its own
abbrev pub of_agents : (Agent → ℤ) → List Agent → List ℤ
of_agents f agents = map f agents ++ pos 0 ∷ []

pub record Demand2Stating (c : StateCall) (s : State) : Type 0 where
  pub balance : c.answer ≡ Ok (SMSE s c.lines)
  -- by point
  pub use_charges : map (λ (r : PointRow). r.use_charge) (take (length c.lines.points) c.points_left) ≡ map use_charge c.lines.points
  pub overrun_is : map (λ (r : PointRow). r.overrun) (take (length c.lines.points) c.points_left)
      ≡ map (λ (p : Point). overrun (kind_of c.lines.users p.user) p) c.lines.points
  -- by user
  pub EUST : map (λ (r : UserRow). r.eust) (take (length c.lines.users) c.users_left) ≡ EUSTs c.lines
  pub overruns : map (λ (r : UserRow). r.overruns) (take (length c.lines.users) c.users_left) ≡ overrun_sums c.lines
  pub user_ret : map (λ (r : UserRow). r.ret) (take (length c.lines.users) c.users_left) ≡ rets c.lines.users
  pub VME : map (λ (r : UserRow). r.vme) (take (length c.lines.users) c.users_left) ≡ VMEs c.lines
  pub CPV : map (λ (r : UserRow). r.cpv) (take (length c.lines.users) c.users_left) ≡ CPVs c.lines
  pub held_before : map (λ (r : UserRow). r.held_before) (take (length c.lines.users) c.users_left) ≡ s.credits
  pub n : map (λ (r : UserRow). r.n) (take (length c.lines.users) c.users_left) ≡ ns s c.lines
  pub VD : map (λ (r : UserRow). r.vd) (take (length c.lines.users) c.users_left) ≡ VDs s c.lines
  pub held_after : map (λ (r : UserRow). r.held_after) (take (length c.lines.users) c.users_left) ≡ new_credits s c.lines
  pub direct_charge : map (λ (r : UserRow). r.ong) (take (length c.lines.users) c.users_left) ≡ ongs c.lines.users
  -- by payee, ONS last
  pub VMST_is : map (λ (r : PayeeRow). r.vmst) (take (length c.lines.agents + 1) c.payees_left) ≡ of_agents VMST c.lines.agents
  pub VMPA_is :
      let month = c.lines.line.month in
      map (λ (r : PayeeRow). r.vmpa) (take (length c.lines.agents + 1) c.payees_left)
      ≡ of_agents (VMPA (settled_to s.month month) (cycle_month month)) c.lines.agents
  pub VMANT : map (λ (r : PayeeRow). r.vmant) (take (length c.lines.agents + 1) c.payees_left) ≡ VMANTs s c.lines ++ pos 0 ∷ []
  pub payee_ret : map (λ (r : PayeeRow). r.ret) (take (length c.lines.agents + 1) c.payees_left) ≡ of_agents (λ a. a.ret) c.lines.agents
  pub VC : map (λ (r : PayeeRow). r.vc) (take (length c.lines.agents + 1) c.payees_left) ≡ month_credits s c.lines
  pub shared : map (λ (r : PayeeRow). r.shared) (take (length c.lines.agents + 1) c.payees_left) ≡ VCs s c.lines
