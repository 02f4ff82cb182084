-- What an amount does not look at: the overrun not at the discounts, compensation not at the verified powers, and nothing that is shared
-- at the direct charges, so that no discounted overrun, no weight with overruns in it and no debit with a direct charge in it would pass.
use Prim.Native.Nat.{ℕ, suc}
use mathlib.Core.Path.{◌≡◌, refl, ap, ap₂}
use mathlib.Core.Bool.{cond}
use mathlib.Core.List.{List, [], ◌∷◌, map, map-map}
use lib.IntN.{ℤ, pos, ◌+ℤ◌}
use Rattle.ints.specs.Range.{eq_z}
use Rattle.rules.specs.declared.Point.{Point}
use Rattle.rules.specs.Lists.{each_from}
use Rattle.rules.specs.declared.User.{User}
use Rattle.rules.specs.Lines.{Lines}
use Rattle.rules.specs.State.{State}
use Rattle.rules.specs.Charges.{use_charge, overrun, of_user, EUST, EUSTs, overrun_sums, VMEs, pv_total, CPVs, ns, VDs, new_credits}
use Rattle.rules.specs.Credits.{SMSE, VCs}
use Rattle.rules.specs.Refusals.{sum_tests}
use Rattle.rules.proofs.Sides.{same_each}

-- a point with other discounts, and one with other verified powers
abbrev pub discounted_as : ℤ → ℤ → Point → Point
discounted_as dp df p =
    record { user = p.user; tp = p.tp; tf = p.tf; dp = dp; df = df; mp = p.mp; mf = p.mf; vp = p.vp; vf = p.vf }

abbrev pub verified_as : ℤ → ℤ → Point → Point
verified_as vp vf p =
    record { user = p.user; tp = p.tp; tf = p.tf; dp = p.dp; df = p.df; mp = p.mp; mf = p.mf; vp = vp; vf = vf }

pub overrun_full_tariff : (kind dp df : ℤ) (p : Point) → overrun kind (discounted_as dp df p) ≡ overrun kind p
unfolding overrun
overrun_full_tariff kind dp df p = refl

pub use_as_contracted : (vp vf : ℤ) (p : Point) → use_charge (verified_as vp vf p) ≡ use_charge p
unfolding use_charge
use_as_contracted vp vf p = refl

-- the month with other verified powers at each point
abbrev pub measured_as : (Point → ℤ) → (Point → ℤ) → Lines → Lines
measured_as vp vf l =
    record { line = l.line; agents = l.agents; users = l.users; points = map (λ (p : Point). verified_as (vp p) (vf p) p) l.points }

pub EUST_as_contracted : (vp vf : Point → ℤ) (ps : List Point) (k : ℕ) → EUST (map (λ (p : Point). verified_as (vp p) (vf p) p) ps) k ≡ EUST ps k
unfolding of_user
EUST_as_contracted vp vf [] k = refl
EUST_as_contracted vp vf (p ∷ ps) k =
    ap₂ (λ (x y : ℤ). cond (eq_z p.user (pos k)) x (pos 0) +ℤ y) (use_as_contracted (vp p) (vf p) p) (EUST_as_contracted vp vf ps k)

pub EUSTs_as_contracted : (vp vf : Point → ℤ) (l : Lines) → EUSTs (measured_as vp vf l) ≡ EUSTs l
unfolding EUSTs
EUSTs_as_contracted vp vf l = same_each 1 _ _ l.users (λ k u. EUST_as_contracted vp vf l.points k)

pub CPV_as_contracted : (vp vf : Point → ℤ) (l : Lines) → CPVs (measured_as vp vf l) ≡ CPVs l
unfolding CPVs pv_total
CPV_as_contracted vp vf l = rw (EUSTs_as_contracted vp vf l)

-- ---- the month with other direct charges (paper 02, Q-1: ong "stands outside VME, VD and the shares")
abbrev pub direct_as : (User → ℤ) → Lines → Lines
direct_as ong l =
    record {
      line = l.line;
      agents = l.agents;
      users = map (λ (u : User). record { number = u.number; kind = u.kind; ret = u.ret; ong = ong u }) l.users;
      points = l.points;
    }

-- amounts of users, balance and shared credits are the same, and so are 8, 9 and 10
pub record SharedSame (s : State) (l m : Lines) : Type 0 where
  pub charges : VMEs m ≡ VMEs l
  pub compensation : CPVs m ≡ CPVs l
  pub debits : VDs s m ≡ VDs s l
  pub held : new_credits s m ≡ new_credits s l
  pub balance : SMSE s m ≡ SMSE s l
  pub credits : VCs s m ≡ VCs s l
  pub sums : sum_tests s m ≡ sum_tests s l

each_of : {A B C : Type 0} (k : ℕ) (f : ℕ → B → C) (g : A → B) (xs : List A) → each_from k f (map g xs) ≡ each_from k (λ (i : ℕ) (x : A). f i (g x)) xs
unfolding each_from
each_of k f g [] = refl
each_of {C = C} k f g (x ∷ xs) = ap (λ (t : List C). f k (g x) ∷ t) (each_of (suc k) f g xs)

module _ (ong : User → ℤ) (l : Lines) where
  EUSTs_direct : EUSTs (direct_as ong l) ≡ EUSTs l
  unfolding EUSTs
  EUSTs_direct = each_of 1 _ _ l.users

  overruns_direct : overrun_sums (direct_as ong l) ≡ overrun_sums l
  unfolding overrun_sums
  overruns_direct = each_of 1 _ _ l.users

  VMEs_direct : VMEs (direct_as ong l) ≡ VMEs l
  unfolding VMEs
  VMEs_direct = rw (EUSTs_direct, overruns_direct, map-map (λ (u : User). u.ret) _ l.users)

  CPVs_direct : CPVs (direct_as ong l) ≡ CPVs l
  unfolding CPVs pv_total
  CPVs_direct = rw EUSTs_direct

  module _ (s : State) where
    ns_direct : ns s (direct_as ong l) ≡ ns s l
    unfolding ns
    ns_direct = rw (VMEs_direct, CPVs_direct)

    VDs_direct : VDs s (direct_as ong l) ≡ VDs s l
    unfolding VDs
    VDs_direct = rw ns_direct

    pub direct_apart : SharedSame s l (direct_as ong l)
    unfolding new_credits sum_tests pv_total
    direct_apart =
        record {
          charges = VMEs_direct;
          compensation = CPVs_direct;
          debits = VDs_direct;
          held = rw ns_direct;
          balance = rw VDs_direct;
          credits = rw VDs_direct;
          sums = rw (EUSTs_direct, VDs_direct);
        }
