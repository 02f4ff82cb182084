-- The columns of the statement's rows are the lists of `rules`: of each point, each user and each payee, ONS last.
use Prim.Native.Nat.{ℕ, suc, ◌<◌}
use mathlib.Core.Path.{◌≡◌, refl, sym, ap, ap₂, ◌∙◌}
use mathlib.Core.List.{List, [], ◌∷◌, ◌++◌, map, map-append, map-map}
use lib.IntN.{ℤ, pos}
use lib.ListN.{length, get_or, length-map}
use lib.Seq.{ext_get_or}
use Rattle.ints.specs.Sums.{sum_ℤ}
use Rattle.rules.specs.Lists.{each_from, length_each_from, get_d_map}
use Rattle.rules.specs.declared.Point.{Point}
use Rattle.rules.specs.Calendar.{cycle_month, settled_to}
use Rattle.rules.specs.declared.Agent.{Agent}
use Rattle.rules.specs.declared.User.{User}
use Rattle.rules.specs.Lines.{Lines, agent_of, user_of, kind_of}
use Rattle.rules.specs.State.{State}
use Rattle.rules.specs.Charges.{use_charge, overrun, EUSTs, overrun_sums, rets, VMEs, CPVs, ns, VDs, new_credits}
use Rattle.rules.specs.Credits.{VMST, VMPA, VMANTs, agent_VCs, VCsFrom, VCs}
use Rattle.rules.specs.Direct.{ongs, month_credits}
use Rattle.rules.proofs.Sizes.{length_EUSTs, length_overrun_sums, length_VMEs, length_CPVs, length_ns, length_VDs, length_new_credits}
use Rattle.rules.proofs.Sizes.{length_VMANTs, length_agent_VCs}
use Rattle.statement.specs.declared.PointRow.{PointRow}
use Rattle.statement.specs.declared.UserRow.{UserRow}
use Rattle.statement.specs.declared.PayeeRow.{PayeeRow}
use Rattle.statement.specs.Statement.{at, point_row, point_rows, user_rows_of, user_rows, agent_rows_of, ons_row, payee_rows_from, payee_rows}
use Rattle.statement.specs.Demand2.{of_agents}
use Rattle.statement.proofs.Entries.{each_at, agent_row}

-- of rows that stand line by line, each with the entry of a list: the list
by_entry : {A B : Type 0} (f : ℕ → A → B) (field : B → ℤ) (xs : List A) (a : A) (col : List ℤ)
    → length col ≡ length xs → ((i : ℕ) (x : A) → field (f i x) ≡ at col i) → map field (each_from 0 f xs) ≡ col
by_entry f field xs a col e h =
    let rows = length_each_from 0 f xs in
    let long = length-map (each_from 0 f xs) field in
    ext_get_or (pos 0) _ col (long ∙ rows ∙ sym e)
    (λ i l.
    let m : i < length (each_from 0 f xs) = rw long at l in
    get_d_map field (each_from 0 f xs) i (f 0 a) (pos 0) m
    ∙ ap field (each_at f xs i a (f 0 a) (rw rows at m))
    ∙ h i (get_or xs i a))

-- or each with an amount of its line
by_line : {A B : Type 0} (f : ℕ → A → B) (field : B → ℤ) (g : A → ℤ) (m : ℕ) (xs : List A)
    → ((i : ℕ) (x : A) → field (f i x) ≡ g x) → map field (each_from m f xs) ≡ map g xs
unfolding each_from
by_line f field g m [] h = refl
by_line f field g m (x ∷ xs) h = ap₂ (λ (y : ℤ) (ys : List ℤ). y ∷ ys) (h m x) (by_line f field g (suc m) xs h)

module _ (s : State) (l : Lines) where
  -- ---- by point
  pub use_column : map (λ (r : PointRow). r.use_charge) (point_rows l) ≡ map use_charge l.points
  unfolding point_rows
  use_column = map-map (λ (r : PointRow). r.use_charge) (point_row l.users) l.points

  pub overrun_column : map (λ (r : PointRow). r.overrun) (point_rows l) ≡ map (λ (p : Point). overrun (kind_of l.users p.user) p) l.points
  unfolding point_rows
  overrun_column = map-map (λ (r : PointRow). r.overrun) (point_row l.users) l.points

  -- ---- by user, one credit being held for each, as in every accepted month
  module _ (w : length s.credits ≡ length l.users) where
    user_column : (field : UserRow → ℤ) (col : List ℤ) → length col ≡ length l.users
        → ((i : ℕ) (u : User)
        → field
        (record {
          eust = at (EUSTs l) i;
          overruns = at (overrun_sums l) i;
          ret = u.ret;
          vme = at (VMEs l) i;
          cpv = at (CPVs l) i;
          held_before = at s.credits i;
          n = at (ns s l) i;
          vd = at (VDs s l) i;
          held_after = at (new_credits s l) i;
          ong = u.ong;
        })
        ≡ at col i)
        → map field (user_rows s l) ≡ col
    unfolding user_rows user_rows_of
    user_column field col e h = by_entry _ field l.users (user_of []) col e h

    pub EUST_column : map (λ (r : UserRow). r.eust) (user_rows s l) ≡ EUSTs l
    EUST_column = user_column (λ r. r.eust) (EUSTs l) (length_EUSTs l) (λ i u. refl)

    pub overruns_column : map (λ (r : UserRow). r.overruns) (user_rows s l) ≡ overrun_sums l
    overruns_column = user_column (λ r. r.overruns) (overrun_sums l) (length_overrun_sums l) (λ i u. refl)

    pub user_ret_column : map (λ (r : UserRow). r.ret) (user_rows s l) ≡ rets l.users
    unfolding user_rows user_rows_of
    user_ret_column = by_line _ (λ (r : UserRow). r.ret) (λ (u : User). u.ret) 0 l.users (λ i u. refl)

    pub VME_column : map (λ (r : UserRow). r.vme) (user_rows s l) ≡ VMEs l
    VME_column = user_column (λ r. r.vme) (VMEs l) (length_VMEs l) (λ i u. refl)

    pub CPV_column : map (λ (r : UserRow). r.cpv) (user_rows s l) ≡ CPVs l
    CPV_column = user_column (λ r. r.cpv) (CPVs l) (length_CPVs l) (λ i u. refl)

    pub held_before_column : map (λ (r : UserRow). r.held_before) (user_rows s l) ≡ s.credits
    held_before_column = user_column (λ r. r.held_before) s.credits w (λ i u. refl)

    pub n_column : map (λ (r : UserRow). r.n) (user_rows s l) ≡ ns s l
    n_column = user_column (λ r. r.n) (ns s l) (length_ns s l w) (λ i u. refl)

    pub VD_column : map (λ (r : UserRow). r.vd) (user_rows s l) ≡ VDs s l
    VD_column = user_column (λ r. r.vd) (VDs s l) (length_VDs s l w) (λ i u. refl)

    pub held_after_column : map (λ (r : UserRow). r.held_after) (user_rows s l) ≡ new_credits s l
    held_after_column = user_column (λ r. r.held_after) (new_credits s l) (length_new_credits s l w) (λ i u. refl)

    pub ong_column : map (λ (r : UserRow). r.ong) (user_rows s l) ≡ ongs l.users
    unfolding user_rows user_rows_of
    ong_column = by_line _ (λ (r : UserRow). r.ong) (λ (u : User). u.ong) 0 l.users (λ i u. refl)

  -- ---- by payee
  abbrev agent_rows : List PayeeRow
  agent_rows = agent_rows_of s.month l.line.month (VMANTs s l) (agent_VCs s l) l.agents

  -- that of the agents, and ONS's entry
  abbrev ons : PayeeRow
  ons = ons_row l.line.ons (sum_ℤ (ongs l.users))

  payee_column : (field : PayeeRow → ℤ) (col : List ℤ) → map field agent_rows ≡ col → map field (payee_rows s l) ≡ col ++ field ons ∷ []
  unfolding payee_rows_from
  payee_column field col e = map-append field agent_rows (ons ∷ []) ∙ ap (λ (xs : List ℤ). xs ++ field ons ∷ []) e

  -- the row of an agent at i
  abbrev row : ℕ → Agent → PayeeRow
  row i a = agent_row s.month l.line.month (VMANTs s l) (agent_VCs s l) a i

  from_list : (field : PayeeRow → ℤ) (col : List ℤ) → length col ≡ length l.agents
      → ((i : ℕ) (a : Agent) → field (row i a) ≡ at col i) → map field (payee_rows s l) ≡ col ++ field ons ∷ []
  unfolding agent_rows_of
  from_list field col e h = payee_column field col (by_entry row field l.agents (agent_of []) col e h)

  from_lines : (field : PayeeRow → ℤ) (g : Agent → ℤ)
      → ((i : ℕ) (a : Agent) → field (row i a) ≡ g a) → map field (payee_rows s l) ≡ map g l.agents ++ field ons ∷ []
  unfolding agent_rows_of
  from_lines field g h = payee_column field (map g l.agents) (by_line row field g 0 l.agents h)

  pub VMST_column : map (λ (r : PayeeRow). r.vmst) (payee_rows s l) ≡ of_agents VMST l.agents
  VMST_column = from_lines (λ r. r.vmst) VMST (λ i a. refl)

  pub VMPA_column : map (λ (r : PayeeRow). r.vmpa) (payee_rows s l) ≡ of_agents (VMPA (settled_to s.month l.line.month) (cycle_month l.line.month)) l.agents
  VMPA_column = from_lines (λ r. r.vmpa) _ (λ i a. refl)

  pub VMANT_column : map (λ (r : PayeeRow). r.vmant) (payee_rows s l) ≡ VMANTs s l ++ pos 0 ∷ []
  VMANT_column = from_list (λ r. r.vmant) (VMANTs s l) (length_VMANTs s l) (λ i a. refl)

  pub payee_ret_column : map (λ (r : PayeeRow). r.ret) (payee_rows s l) ≡ of_agents (λ a. a.ret) l.agents
  payee_ret_column = from_lines (λ r. r.ret) _ (λ i a. refl)

  pub VC_column : map (λ (r : PayeeRow). r.vc) (payee_rows s l) ≡ month_credits s l
  unfolding month_credits
  VC_column = from_list (λ r. r.vc) (agent_VCs s l) (length_agent_VCs s l) (λ i a. refl)

  pub shared_column : map (λ (r : PayeeRow). r.shared) (payee_rows s l) ≡ VCs s l
  unfolding VCsFrom
  shared_column = from_list (λ r. r.shared) (agent_VCs s l) (length_agent_VCs s l) (λ i a. refl)
