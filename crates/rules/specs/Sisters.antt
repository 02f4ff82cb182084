-- Sister lines of a month (paper 02, Q-13): two neighbouring agents, or users, k and k + 1 counted from 0, that a second month m lists as
-- one. A line's own number is not looked at, so the lines after the pair may move up by one.
use Rattle.std.specs.Prelude.{ℕ, suc, ◌<◌, ◌≡◌, cond, map, ℤ, pos, ◌-ℤ◌, length}
use Rattle.std.specs.Int.Signed.{lt_z}
use Rattle.share.specs.Joined.{joined}
use Rattle.rules.specs.declared.Point.{Point}
use Rattle.rules.specs.Lines.{Lines}
use Rattle.rules.specs.State.{State}
use Rattle.rules.specs.Charges.{EUSTs, pvs, pv_total, CPVs, VDs, new_credits}
use Rattle.rules.specs.Credits.{own_credits, pbs, SMSE, VMANTs, VCs}

-- ---- agents: pb and pv are added, and so is what they receive before the balance is shared; every other agent's, and month line, users and
-- points, are the same
pub record AgentsAsOne (k : ℕ) (s : State) (l : Lines) (t : State) (m : Lines) : Type 0 where
  pub pair : suc k < length l.agents
  pub pb : pbs m.agents ≡ joined k (pbs l.agents)
  pub pv : pvs m.agents ≡ joined k (pvs l.agents)
  pub own : own_credits t m ≡ joined k (own_credits s l)
  pub line : m.line ≡ l.line
  pub users : m.users ≡ l.users
  pub points : m.points ≡ l.points

-- then, with the same held credits: users owe and hold the same; the joined agent receives what the two received, and every other payee the same
pub record AgentsReceive (k : ℕ) (s : State) (l : Lines) (t : State) (m : Lines) : Type 0 where
  pub debits : VDs t m ≡ VDs s l
  pub held : new_credits t m ≡ new_credits s l
  pub balance : SMSE t m ≡ SMSE s l
  pub shared : VMANTs t m ≡ joined k (VMANTs s l)
  pub credits : VCs t m ≡ joined k (VCs s l)

-- ---- users: there is one user line fewer, the points of both stand under the first one's number, k + 1, those of the users after them
-- under one less, and the sum of all pv is the same
abbrev pub moved_up : ℕ → ℤ → ℤ
moved_up k n = cond (lt_z (pos (suc k)) n) (n -ℤ pos 1) n

abbrev pub under_one : ℕ → Point → Point
under_one k p =
    record { user = moved_up k p.user; tp = p.tp; tf = p.tf; dp = p.dp; df = p.df; mp = p.mp; mf = p.mf; vp = p.vp; vf = p.vf }

pub record UsersAsOne (k : ℕ) (l m : Lines) : Type 0 where
  pub pair : suc k < length l.users
  pub users : length l.users ≡ suc (length m.users)
  pub points : m.points ≡ map (under_one k) l.points
  pub pv : pv_total m ≡ pv_total l

-- then the joined user has the EUST and gets the CPV of both, and every other user the same
pub record UsersGet (k : ℕ) (l m : Lines) : Type 0 where
  pub charges : EUSTs m ≡ joined k (EUSTs l)
  pub compensation : CPVs m ≡ joined k (CPVs l)
