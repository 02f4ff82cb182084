-- THE LIMITS of opening and closing, said positively (paper 01, "The ledger", "A month's lines" and "Why a month comes back"): what it is to
-- keep each, and their order. Nothing of Refusals' tests stands here; that these limits and those tests agree is proofs/LimitsMonth.
use Rattle.std.specs.Prelude.{ℕ, suc, ◌+◌, ◌≤◌, ◌≡◌, ◌⊎◌, List, [], ◌∷◌, ◌++◌, ℤ, pos, ◌+ℤ◌, ◌*ℤ◌, length, ◌<ℤ◌}
use Rattle.ints.specs.Range.{Within}
use Rattle.ints.specs.Sums.{sum_ℤ}
use Rattle.rules.specs.declared.Point.{Point}
use Rattle.rules.specs.Most.{most_held}
use Rattle.rules.specs.declared.Agent.{Agent}
use Rattle.rules.specs.declared.User.{User}
use Rattle.rules.specs.Lines.{Lines, kind_of, distributor, generator}
use Rattle.rules.specs.Ranges.{Amount, Correction, Tariff, Discount, Power, AmountsFit}
use Rattle.rules.specs.State.{State}
use Rattle.rules.specs.Charges.{pv_total, EUSTs, VDs}
use Rattle.rules.specs.Credits.{pbs}
use Rattle.rules.specs.declared.Lengths.{Lengths}
use Rattle.rules.specs.Refusals.{cells_needed, work_needed}

-- ---- a limit, and limits in order
-- what it is to keep it; and to break it, so that the call comes back with this number and place
pub record Limit : Type 1 where
  pub keeps : Type 0
  pub breaks : ℕ → ℕ → Type 0

-- where P does not hold, the call comes back with this number and place
abbrev pub limit : Type 0 → ℕ → ℕ → Limit
limit P number place = record { keeps = P; breaks = λ n p. (P → ⊥) × (n ≡ number) × (p ≡ place) }

-- one before the other: both are kept; the first is broken, or the first is kept and the second broken
infixr 5 ◌before◌
abbrev pub ◌before◌ : Limit → Limit → Limit
a before b = record { keeps = a.keeps × b.keeps; breaks = λ n p. a.breaks n p ⊎ (a.keeps × b.breaks n p) }

-- of every line, whose position is counted from k
unfoldable pub Each : {A : Type 0} → (ℕ → A → Type 0) → ℕ → List A → Type 0
Each P k [] = Unit {0}
Each P k (x ∷ xs) = P k x × Each P (suc k) xs

-- the first line that breaks its limit: those before it keep theirs
pub record First {A : Type 0} (limits : ℕ → A → Limit) (k : ℕ) (xs : List A) (n p : ℕ) : Type 0 where
  pub earlier : List A
  pub line : A
  pub later : List A
  pub is : xs ≡ earlier ++ line ∷ later
  pub kept : Each (λ k x. (limits k x).keeps) k earlier
  pub broken : (limits (k + length earlier) line).breaks n p

-- line by line
abbrev pub lines_from : {A : Type 0} → (ℕ → A → Limit) → ℕ → List A → Limit
lines_from limits k xs = record { keeps = Each (λ k x. (limits k x).keeps) k xs; breaks = First limits k xs }

-- positions from 1
abbrev pub line_by_line : {A : Type 0} → (ℕ → A → Limit) → List A → Limit
line_by_line limits xs = lines_from limits 1 xs

-- ---- months and lines
-- yyyymm: a year from 2000 to 2099 and a month of it
pub record Month (m : ℤ) : Type 0 where
  pub yyyy : ℤ
  pub mm : ℤ
  pub is : m ≡ yyyy *ℤ pos 100 +ℤ mm
  pub year : Within (pos 2000) (pos 2099) yyyy
  pub month : Within (pos 1) (pos 12) mm

-- the agent line at the position k, from 1
pub record AgentFits (k : ℕ) (a : Agent) : Type 0 where
  pub number : a.number ≡ pos k
  pub amounts : AmountsFit a

-- the user line at the position k, from 1
pub record UserFits (k : ℕ) (u : User) : Type 0 where
  pub number : u.number ≡ pos k
  pub kind : Within (pos 1) (pos 3) u.kind
  pub ret : Correction u.ret
  pub ong : Amount u.ong

-- a point's own values
pub record PointFits (p : Point) : Type 0 where
  pub tp : Tariff p.tp
  pub tf : Tariff p.tf
  pub dp : Discount p.dp
  pub df : Discount p.df
  pub mp : Power p.mp
  pub mf : Power p.mf
  pub vp : Power p.vp
  pub vf : Power p.vf

-- the zeros that a kind asks for: "A generator has no bands: its f columns are 0. A distributor's discounts are 0"
pub record KindFits (kind : ℤ) (p : Point) : Type 0 where
  pub bands : kind ≡ generator → (p.tf ≡ pos 0) × (p.df ≡ pos 0) × (p.mf ≡ pos 0) × (p.vf ≡ pos 0)
  pub discounts : kind ≡ distributor → (p.dp ≡ pos 0) × (p.df ≡ pos 0)

-- ---- opening
pub record CountsFit (users agents : ℕ) : Type 0 where
  pub some_users : 1 ≤ users
  pub few_users : users ≤ 512
  pub some_agents : 1 ≤ agents
  pub few_agents : agents ≤ 256

-- with these counts and a held slice of this length
abbrev pub opening_limits : ℕ → ℕ → ℕ → Limit
opening_limits users agents held =
    limit (CountsFit users agents) 1 0
    before limit (users ≤ held) 2 1

-- ---- closing
-- 1: counts within their limits and the ledger's; no month closed yet, or a month that there is
pub record CountsAgree (s : State) (l : Lines) : Type 0 where
  pub fit : CountsFit (length l.users) (length l.agents)
  pub few_points : length l.points ≤ 1024
  pub users : length l.users ≡ s.users
  pub agents : length l.agents ≡ s.agents
  pub last : (s.month ≡ pos 0) ⊎ Month s.month

-- 2: the slices that a closing is lent take what it writes
abbrev pub closing_rooms : State → Lengths → Limit
closing_rooms s n =
    limit (s.users ≤ n.held) 2 1
    before limit (cells_needed s.users s.agents ≤ n.cells) 2 2
    before limit (work_needed s.users s.agents ≤ n.work) 2 3

-- 3: a month that there is, later than the last closed
pub record Later (last month : ℤ) : Type 0 where
  pub month_is : Month month
  pub later : last <ℤ month

-- 4 and 5, line by line
abbrev pub credit_limit : ℕ → ℤ → Limit
credit_limit k credit = limit (Within (pos 0) (pos most_held) credit) 4 k

abbrev pub agent_limit : ℕ → Agent → Limit
agent_limit k a = limit (AgentFits k a) 5 k

abbrev pub user_limit : ℕ → User → Limit
user_limit k u = limit (UserFits k u) 5 k

-- a point's 5, 6, 7: its values; its user is one of these users; what that user's kind asks
abbrev pub point_limits : List User → ℕ → Point → Limit
point_limits users k p =
    limit (PointFits p) 5 k
    before limit (Within (pos 1) (pos (length users)) p.user) 6 k
    before limit (KindFits (kind_of users p.user) p) 7 k

-- THE ORDER, for the month l on the state s; `rooms` is 2, of the slices that the call is lent
abbrev pub month_limits : State → Limit → Lines → Limit
month_limits s rooms l =
    limit (CountsAgree s l) 1 0
    before rooms
    before limit (Later s.month l.line.month) 3 0
    before line_by_line credit_limit s.credits
    before limit (Amount l.line.ons) 5 0
    before line_by_line agent_limit l.agents
    before line_by_line user_limit l.users
    before line_by_line (point_limits l.users) l.points
    -- the sums that are divided by
    before limit (pos 0 <ℤ sum_ℤ (pbs l.agents)) 8 0
    before limit (pos 0 <ℤ pv_total l → pos 0 <ℤ sum_ℤ (EUSTs l)) 9 0
    before limit (pos 0 <ℤ sum_ℤ (VDs s l)) 10 0

abbrev pub closing_limits : State → Lengths → Lines → Limit
closing_limits s n l = month_limits s (closing_rooms s n) l
