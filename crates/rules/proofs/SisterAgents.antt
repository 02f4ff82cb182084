-- SISTER AGENTS (paper 02, Q-13): what two neighbouring agents receive once they are listed as one, and what an agent without pb receives.
use Prim.Native.Nat.{ℕ, zero, suc, ◌<◌}
use native.Mathlib.Omega.{arith}
use mathlib.Core.Path.{◌≡◌, refl, sym, ap, ◌∙◌}
use mathlib.Core.List.{List, [], ◌∷◌, ◌++◌}
use lib.IntN.{ℤ, pos, ◌+ℤ◌, ◌-ℤ◌}
use lib.ListN.{length, get_or, length-map}
use Rattle.ints.specs.Ring.{all4, diff, add_swap}
use Rattle.ints.specs.Sums.{sum_ℤ}
use Rattle.share.specs.Joined.{joined, left_out}
use Rattle.share.proofs.Joined.{sum_joined, share_joined, share_left_out}
use Rattle.rules.specs.Lists.{side_by_side, length_side_by_side}
use Rattle.rules.specs.declared.Agent.{Agent}
use Rattle.rules.specs.Lines.{Lines}
use Rattle.rules.specs.State.{State}
use Rattle.rules.specs.Charges.{EUSTs, overrun_sums, VMEs, pv_total, pvs, CPVs, ns, VDs, new_credits}
use Rattle.rules.specs.Credits.{VMPA, VMST, own_credit, pbs, own_credits, SMSEFrom, SMSE, VMANTsFrom, VMANTs, agent_VCs_from, VCsFrom, VCs}
use Rattle.rules.specs.Sisters.{AgentsAsOne, AgentsReceive}
use Rattle.rules.proofs.Sizes.{length_own_credits, length_pbs, length_VMANTs}

-- ---- VMANT: an agent without pb receives none; with it left out, or with two neighbours on one line, pb added, every other agent
-- receives the same, and the one line what the two received, the balance being the same
module _ (s : State) (l : Lines) (k : ℕ) where
  pub VMANT_nothing : k < length l.agents → get_or (pbs l.agents) k (pos 0) ≡ pos 0 → get_or (VMANTs s l) k (pos 0) ≡ pos 0
  unfolding VMANTsFrom
  VMANT_nothing h z = (share_left_out (SMSE s l) k (pbs l.agents) (omega (arith, length_pbs l)) z).0

  module _ (t : State) (m : Lines) (b : SMSE t m ≡ SMSE s l) where
    pub VMANT_left_out :
        k < length l.agents
        → get_or (pbs l.agents) k (pos 0) ≡ pos 0
        → pbs m.agents ≡ left_out k (pbs l.agents)
        → VMANTs t m ≡ left_out k (VMANTs s l)
    unfolding VMANTsFrom
    VMANT_left_out h z e = rw (b, e) (share_left_out (SMSE s l) k (pbs l.agents) (omega (arith, length_pbs l)) z).1

    pub VMANT_joined : suc k < length l.agents → pbs m.agents ≡ joined k (pbs l.agents) → VMANTs t m ≡ joined k (VMANTs s l)
    unfolding VMANTsFrom
    VMANT_joined h e = rw (b, e) (share_joined (SMSE s l) k (pbs l.agents) (omega (arith, length_pbs l)))

-- ---- what one line receives before the balance is shared is what two receive, where its columns are theirs added and so is its VMPA
-- (that the adjustments are added is not enough: each is rounded by itself)
sub_swap : (a b c d : ℤ) → a +ℤ b -ℤ (c +ℤ d) ≡ a -ℤ c +ℤ (b -ℤ d)
sub_swap = all4 _ (λ a b c d e f g h. simp diff (omega arith))

module _ (from to : ℤ) (a b c : Agent) where
  pub own_added :
      c.pb ≡ a.pb +ℤ b.pb
      → c.pv ≡ a.pv +ℤ b.pv
      → c.afs ≡ a.afs +ℤ b.afs
      → c.rfs ≡ a.rfs +ℤ b.rfs
      → c.ret ≡ a.ret +ℤ b.ret
      → VMPA from to c ≡ VMPA from to a +ℤ VMPA from to b
      → own_credit from to c ≡ own_credit from to a +ℤ own_credit from to b
  unfolding own_credit VMST
  own_added pb pv afs rfs ret adjusted =
      let twelfth : Agent → ℤ = VMPA from to in
      rw (
        adjusted,
        pb,
        pv,
        afs,
        rfs,
        ret,
        sub_swap a.pb b.pb a.pv b.pv,
        add_swap (a.pb -ℤ a.pv) (b.pb -ℤ b.pv) a.afs b.afs,
        sub_swap (a.pb -ℤ a.pv +ℤ a.afs) (b.pb -ℤ b.pv +ℤ b.afs) a.rfs b.rfs,
        add_swap (VMST a) (VMST b) (twelfth a) (twelfth b),
        add_swap (VMST a +ℤ twelfth a) (VMST b +ℤ twelfth b) a.ret b.ret,
      )

-- ---- THE MONTH with agents k and k + 1 listed as one
joined_sides : (k : ℕ) (xs ys : List ℤ) → length xs ≡ length ys → suc k < length xs
    → joined k (side_by_side ◌+ℤ◌ xs ys) ≡ side_by_side ◌+ℤ◌ (joined k xs) (joined k ys)
unfolding joined side_by_side
joined_sides k [] ys e h = absurd (omega arith)
joined_sides k (x ∷ xs) [] e h = absurd (omega arith)
joined_sides zero (x ∷ []) (y ∷ ys) e h = absurd (omega arith)
joined_sides zero (x ∷ v ∷ xs) (y ∷ []) e h = absurd (omega arith)
joined_sides zero (x ∷ v ∷ xs) (y ∷ w ∷ ys) e h = ap (λ (t : ℤ). t ∷ side_by_side ◌+ℤ◌ xs ys) (add_swap x y v w)
joined_sides (suc k) (x ∷ xs) (y ∷ ys) e h = ap (λ (l : List ℤ). (x +ℤ y) ∷ l) (joined_sides k xs ys (omega arith) (omega arith))

joined_append : (k : ℕ) (xs ys : List ℤ) → suc k < length xs → joined k (xs ++ ys) ≡ joined k xs ++ ys
unfolding joined
joined_append k [] ys h = absurd (omega arith)
joined_append zero (x ∷ []) ys h = absurd (omega arith)
joined_append zero (x ∷ v ∷ xs) ys h = refl
joined_append (suc k) (x ∷ xs) ys h = ap (λ (l : List ℤ). x ∷ l) (joined_append k xs ys (omega arith))

module _ (k : ℕ) (s : State) (l : Lines) (t : State) (m : Lines) (h : AgentsAsOne k s l t m) (c : t.credits ≡ s.credits) where
  same_pv : pv_total m ≡ pv_total l
  unfolding pv_total
  same_pv = ap sum_ℤ h.pv ∙ sum_joined k (pvs l.agents) (omega (arith, length-map l.agents (λ (a : Agent). a.pv), h.pair))

  same_EUST : EUSTs m ≡ EUSTs l
  unfolding EUSTs
  same_EUST = rw (h.users, h.points)

  same_n : ns t m ≡ ns s l
  unfolding ns VMEs overrun_sums CPVs
  same_n = rw (c, same_pv, same_EUST, h.users, h.points)

  same_VD : VDs t m ≡ VDs s l
  unfolding VDs
  same_VD = rw same_n

  same_SMSE : SMSE t m ≡ SMSE s l
  unfolding SMSEFrom
  same_SMSE = rw (same_VD, h.own, sum_joined k (own_credits s l) (omega (arith, length_own_credits s l, h.pair)), h.line)

  VMANT_as_one : VMANTs t m ≡ joined k (VMANTs s l)
  VMANT_as_one = VMANT_joined s l k t m same_SMSE h.pair h.pb

  VC_as_one : VCs t m ≡ joined k (VCs s l)
  unfolding VCsFrom agent_VCs_from
  VC_as_one =
      let own = own_credits s l in
      let e = length_own_credits s l ∙ sym (length_VMANTs s l) in
      let n = length_side_by_side ◌+ℤ◌ own (VMANTs s l) e in
      let here : suc k < length own = omega (arith, length_own_credits s l, h.pair) in
      rw (
        h.own,
        VMANT_as_one,
        h.line,
        joined_append k (side_by_side ◌+ℤ◌ own (VMANTs s l)) (l.line.ons ∷ []) (omega arith),
        joined_sides k own (VMANTs s l) e here,
      )

  pub agents_as_one : AgentsReceive k s l t m
  unfolding new_credits
  agents_as_one = record { debits = same_VD; held = rw same_n; balance = same_SMSE; shared = VMANT_as_one; credits = VC_as_one }
