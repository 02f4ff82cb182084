-- What stands at each row of users and agents, from their lines and columns; and how many rows there are.
use Prim.Native.Nat.{ℕ, ◌<◌}
use native.Mathlib.Omega.{arith}
use mathlib.Core.Path.{◌≡◌, sym, ap, ◌∙◌}
use mathlib.Core.List.{List, []}
use lib.IntN.{ℤ, pos, ◌-ℤ◌}
use lib.ListN.{length, get_or}
use Rattle.rules.specs.declared.Agent.{Agent}
use Rattle.rules.specs.declared.User.{User}
use Rattle.rules.specs.Calendar.{cycle_month, settled_to}
use Rattle.rules.specs.Lists.{each_from, side_by_side, length_each_from, get_or_each_from, length_side_by_side, get_or_side_by_side}
use Rattle.rules.specs.Lines.{agent_of, user_of}
use Rattle.rules.specs.Charges.{ns_from}
use Rattle.rules.specs.Credits.{VMST, VMPA}
use Rattle.statement.specs.declared.UserRow.{UserRow}
use Rattle.statement.specs.declared.PayeeRow.{PayeeRow}
use Rattle.statement.specs.declared.users.Columns.{Columns}
use Rattle.statement.specs.Statement.{at, user_rows_of, agent_rows_of}
use Rattle.statement.specs.Columns.{ColumnsFit, user_rows_by}

-- counted from 0
pub each_at : {A B : Type 0} (f : ℕ → A → B) (xs : List A) (i : ℕ) (a : A) (b : B) → i < length xs
    → get_or (each_from 0 f xs) i b ≡ f i (get_or xs i a)
each_at f xs i a b h = get_or_each_from 0 f xs i a b h ∙ ap (λ (k : ℕ). f k (get_or xs i a)) (omega arith)

-- ---- of the users
pub length_user_rows : (users : List User) (c : Columns) → length (user_rows_by users c) ≡ length users
unfolding user_rows_of
length_user_rows users c = length_each_from 0 _ users

-- the row of a user at i, as the loop writes it
abbrev pub user_row : User → Columns → ℕ → UserRow
user_row u c i =
    record {
      eust = at c.uses.now i;
      overruns = at c.overruns.now i;
      ret = u.ret;
      vme = at c.vme.now i;
      cpv = at c.cpv.now i;
      held_before = at c.held.now i;
      n = at c.vme.now i -ℤ at c.cpv.now i -ℤ at c.held.now i;
      vd = at c.debits.now i;
      held_after = at c.credits.now i;
      ong = u.ong;
    }

module _ {users : List User} {c : Columns} {out : List UserRow} (r : ColumnsFit users c out) (i : ℕ) (h : i < length users) where
  net_at : at (ns_from c.vme.now c.cpv.now c.held.now) i ≡ at c.vme.now i -ℤ at c.cpv.now i -ℤ at c.held.now i
  net_at =
      let same = sym r.amounts.cpv_count in
      let both = length_side_by_side ◌-ℤ◌ c.vme.now c.cpv.now same in
      get_or_side_by_side ◌-ℤ◌ (side_by_side ◌-ℤ◌ c.vme.now c.cpv.now) c.held.now i (pos 0) (pos 0) (pos 0) (both ∙ sym r.amounts.held_count)
      (omega (arith, both, r.vme_count))
      ∙ ap (λ (x : ℤ). x -ℤ at c.held.now i)
      (get_or_side_by_side ◌-ℤ◌ c.vme.now c.cpv.now i (pos 0) (pos 0) (pos 0) same (omega (arith, r.vme_count)))

  pub user_row_at : (d : UserRow) → get_or (user_rows_by users c) i d ≡ user_row (get_or users i (user_of [])) c i
  unfolding user_rows_of
  user_row_at d = each_at _ users i (user_of []) d h ∙ rw net_at

-- ---- of the agents
pub length_agent_rows : (last month : ℤ) (vmant vc : List ℤ) (agents : List Agent) → length (agent_rows_of last month vmant vc agents) ≡ length agents
unfolding agent_rows_of
length_agent_rows last month vmant vc agents = length_each_from 0 _ agents

abbrev pub agent_row : ℤ → ℤ → (vmant vc : List ℤ) → Agent → ℕ → PayeeRow
agent_row last month vmant vc a i =
    record {
      vmst = VMST a;
      vmpa = VMPA (settled_to last month) (cycle_month month) a;
      vmant = at vmant i;
      ret = a.ret;
      vc = at vc i;
      shared = at vc i;
    }

pub agent_row_at : (last month : ℤ) (vmant vc : List ℤ) (agents : List Agent) (i : ℕ) (d : PayeeRow) → i < length agents
    → get_or (agent_rows_of last month vmant vc agents) i d ≡ agent_row last month vmant vc (get_or agents i (agent_of [])) i
unfolding agent_rows_of
agent_row_at last month vmant vc agents i d h = each_at _ agents i (agent_of []) d h
