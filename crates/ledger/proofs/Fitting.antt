-- What a closing is handed, and when it fits its types: every number fits its 64 bits, and there is room for so many elements. Then each
-- has machine values (`Lies` of proofs/Placing, and the kit's own relation `Is`). Assumes nothing.
use Prim.Native.Nat.{ℕ}
use mathlib.Core.Path.{refl}
use mathlib.Core.List.{List, [], ◌∷◌, map}
use lib.IntN.{ℤ}
use lib.ListN.{length}
use mir.Syntax.{w64}
use mir.Val.{Val, vint, of_z, Fits, SFits}
use contract.Lifetimes.{Lfts}
use denote.RattleType.{RattleType}
use denote.Shadow.{shadow}
use denote.Laws.{Is}
use denote.Array.{each}
use denote.Builtin.{u64, i64}
use denote.Slice.{Room}
use denote.Struct.Laws as LL
use denote.Triple.Entry.{Args}
use Rattle.rules.specs.declared.Agent.{Agent}
use Rattle.rules.specs.declared.Ledger.{Ledger}
use Rattle.rules.specs.declared.MonthLine.{MonthLine}
use Rattle.rules.specs.declared.Point.{Point}
use Rattle.rules.specs.declared.User.{User}
use Rattle.rules.specs.contracts.Agent as A
use Rattle.rules.proofs.Agent.TheLaws as A'
use Rattle.rules.specs.contracts.User as U
use Rattle.rules.proofs.User.TheLaws as U'
use Rattle.rules.specs.contracts.Ledger as G
use Rattle.rules.proofs.Ledger.TheLaws as G'
use Rattle.rules.specs.contracts.MonthLine as L
use Rattle.rules.proofs.MonthLine.TheLaws as L'
use Rattle.rules.specs.contracts.Point as P
use Rattle.rules.proofs.Point.TheLaws as P'
use Rattle.ledger.specs.contracts.close as close
use Rattle.ledger.proofs.Placing.{Lies}

-- ---- in words
-- something of every element
abbrev pub Every : {A : Type 0} → (A → Type 0) → List A → Type 0
Every P [] = Unit {0}
Every P (x ∷ xs) = P x × Every P xs

abbrev pub Word : ℤ → Type 0
Word z = SFits w64 z

pub record LedgerFits (g : Ledger) : Type 0 where
  pub users : Fits w64 g.users
  pub agents : Fits w64 g.agents
  pub month : Word g.month

pub record MonthLineFits (l : MonthLine) : Type 0 where
  pub month : Word l.month
  pub ons : Word l.ons

pub record AgentFits (a : Agent) : Type 0 where
  pub number : Word a.number
  pub pb : Word a.pb
  pub pv : Word a.pv
  pub afs : Word a.afs
  pub rfs : Word a.rfs
  pub pa : Word a.pa
  pub ret : Word a.ret

pub record UserFits (u : User) : Type 0 where
  pub number : Word u.number
  pub kind : Word u.kind
  pub ret : Word u.ret
  pub ong : Word u.ong

pub record PointFits (p : Point) : Type 0 where
  pub user : Word p.user
  pub tp : Word p.tp
  pub tf : Word p.tf
  pub dp : Word p.dp
  pub df : Word p.df
  pub mp : Word p.mp
  pub mf : Word p.mf
  pub vp : Word p.vp
  pub vf : Word p.vf

-- a slice: each of its elements fits, and there is room for so many
pub record Slice (R : RattleType) (P : R.Denot → Type 0) (ys : List R.Denot) : Type 0 where
  pub each_fits : Every P ys
  pub room : Room R (length ys)

-- what a closing is handed
pub record Closing : Type 0 where
  pub ledger : Ledger
  pub held : List ℤ
  pub line : MonthLine
  pub agents : List Agent
  pub users : List User
  pub points : List Point
  pub cells : List ℤ
  pub work : List ℕ

abbrev pub handed : (κs : Lfts 4) → Args close.signature κs → Closing
handed κs a =
    record {
      ledger = a.0;
      held = a.1.0.now;
      line = a.1.1.0.line;
      agents = a.1.1.0.agents.now;
      users = a.1.1.0.users.now;
      points = a.1.1.0.points.now;
      cells = a.1.1.1.0.now;
      work = a.1.1.1.1.0.now;
    }

pub record ClosingFits (c : Closing) : Type 0 where
  pub ledger : LedgerFits c.ledger
  pub held : Slice i64 Word c.held
  pub line : MonthLineFits c.line
  pub agents : Slice A.the_row AgentFits c.agents
  pub users : Slice U.the_row UserFits c.users
  pub points : Slice P.the_row PointFits c.points
  pub cells : Slice i64 Word c.cells
  pub work : Slice u64 (Fits w64) c.work

-- ---- so each has machine values
pub slice : (R : RattleType) (P : R.Denot → Type 0) (val : R.Denot → Val) → ((y : R.Denot) → P y → Is R y (val y ∷ [])) → (ys : List R.Denot)
    → Slice R P ys
    → Lies R ys
slice R P val h ys s = record { values = map val ys; are = all ys s.each_fits; room = s.room }
  where
    all : (xs : List R.Denot) → Every P xs → shadow (each R.Denot R.own_val xs (map val xs))
    all [] t = tt
    all (x ∷ xs) t = (h x t.0, all xs t.1)

abbrev signed : ℤ → Val
signed z = vint w64 (of_z w64 z)

signed_is : (z : ℤ) → Word z → Is i64 z (signed z ∷ [])
signed_is z w = (refl, w.sfits)

pub words : (zs : List ℤ) → Slice i64 Word zs → Lies i64 zs
words = slice i64 Word signed signed_is

pub counts : (ns : List ℕ) → Slice u64 (Fits w64) ns → Lies u64 ns
counts = slice u64 (Fits w64) (λ n. vint w64 n) (λ n f. (refl, f.fits))

agent_is : (a : Agent) → AgentFits a → Is A.the_row a (LL.vals A.the_type A'.the_laws a)
agent_is a f =
    LL.owes A.the_type A'.the_laws a (
      signed_is a.number f.number,
      (
        signed_is a.pb f.pb,
        (
          signed_is a.pv f.pv,
          (signed_is a.afs f.afs, (signed_is a.rfs f.rfs, (signed_is a.pa f.pa, (signed_is a.ret f.ret, tt)))),
        ),
      ),
    )

pub agents : (xs : List Agent) → Slice A.the_row AgentFits xs → Lies A.the_row xs
agents = slice A.the_row AgentFits (LL.val A.the_type A'.the_laws) agent_is

user_is : (u : User) → UserFits u → Is U.the_row u (LL.vals U.the_type U'.the_laws u)
user_is u f =
    LL.owes U.the_type U'.the_laws u (
      signed_is u.number f.number,
      (signed_is u.kind f.kind, (signed_is u.ret f.ret, (signed_is u.ong f.ong, tt))),
    )

pub users : (xs : List User) → Slice U.the_row UserFits xs → Lies U.the_row xs
users = slice U.the_row UserFits (LL.val U.the_type U'.the_laws) user_is

point_is : (p : Point) → PointFits p → Is P.the_row p (LL.vals P.the_type P'.the_laws p)
point_is p f =
    LL.owes P.the_type P'.the_laws p (
      signed_is p.user f.user,
      (
        signed_is p.tp f.tp,
        (
          signed_is p.tf f.tf,
          (
            signed_is p.dp f.dp,
            (
              signed_is p.df f.df,
              (signed_is p.mp f.mp, (signed_is p.mf f.mf, (signed_is p.vp f.vp, (signed_is p.vf f.vf, tt)))),
            ),
          ),
        ),
      ),
    )

pub points : (ps : List Point) → Slice P.the_row PointFits ps → Lies P.the_row ps
points = slice P.the_row PointFits (LL.val P.the_type P'.the_laws) point_is

pub ledger_is : (g : Ledger) → LedgerFits g → Is G.the_row g (LL.vals G.the_type G'.the_laws g)
ledger_is g f = LL.owes G.the_type G'.the_laws g ((refl, f.users.fits), ((refl, f.agents.fits), (signed_is g.month f.month, tt)))

pub month_line_is : (l : MonthLine) → MonthLineFits l → Is L.the_row l (LL.vals L.the_type L'.the_laws l)
month_line_is l f = LL.owes L.the_type L'.the_laws l (signed_is l.month f.month, (signed_is l.ons f.ons, tt))
