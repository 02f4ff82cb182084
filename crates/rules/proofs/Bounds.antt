-- The bounds of every amount that closing works out in a month that breaks no limit, and of every number on the way: each fits 64 bits.
-- Only the products of the running share and of the cells need two words.
use Prim.Native.Nat.{ℕ, suc, ◌+◌, ◌^◌, ◌<◌}
use native.Mathlib.Omega.{arith}
use mathlib.Core.Path.{◌≡◌, refl}
use mathlib.Core.Logic.{◌≢◌}
use mathlib.Core.List.{List, [], ◌∷◌, map}
use lib.Dec.{T, ltb}
use lib.IntN.{ℤ, pos, ◌*ℤ◌}
use lib.ListN.{length, get_or}
use lib.Seq.{length-take-le}
use lib.Signed.{◌<ℤ◌}
use Rattle.ints.specs.Bridge.{za, add#}
use Rattle.ints.specs.Bounds.{Word, word, word_nonneg, word_within}
use Rattle.ints.specs.Floor.{floor, floor_share}
use Rattle.ints.specs.Sums.{sum_ℤ, entry_le_sum}
use Rattle.rules.specs.declared.Ledger.{Ledger}
use Rattle.rules.specs.declared.Point.{Point}
use Rattle.rules.specs.Verdict.{Verdict, accepted}
use Rattle.rules.specs.Most.{most_credit}
use Rattle.rules.specs.Lines.{Lines, point_of}
use Rattle.rules.specs.Charges.{half_up, or_zero, use_charge, allowance, excess, overrun, VDs}
use Rattle.rules.specs.Credits.{VCs}
use Rattle.rules.specs.Table.{Cell, rounded_down, rounded_up}
use Rattle.rules.specs.State.{State}
use Rattle.rules.specs.Refusals.{short_slices, refusal}
use Rattle.rules.specs.Calls.{state_of, lengths_of, closing_refusal}
use Rattle.rules.proofs.Sizes.{length_VDs}
use Rattle.rules.proofs.Passed.{Passed, slices, slices_accepted, passed}
use Rattle.rules.proofs.Ranged.{ranged_passed}
use Rattle.rules.proofs.BoundsSums.{SumBounds, sum_bounds}
use Rattle.rules.proofs.BoundsCharges.{ChargeBounds, charge_bounds, above}
use Rattle.rules.proofs.BoundsCredits.{CreditBounds, credit_bounds}

-- the cell of the payee i and the user j, counted from 0: its floor, and the cell itself
pub record CellBounds (s : State) (l : Lines) : Type 0 where
  pub floor_at_lem :
      (i j : ℕ)
      → i < suc (length l.agents)
      → j < length l.users
      → Word most_credit most_credit (floor (get_or (VCs s l) i (pos 0) *ℤ get_or (VDs s l) j (pos 0)) (sum_ℤ (VDs s l)))
  pub cell_at_lem :
      (i j : ℕ) {c : ℤ}
      → i < suc (length l.agents)
      → j < length l.users
      → Cell (get_or (VCs s l) i (pos 0) *ℤ get_or (VDs s l) j (pos 0)) (sum_ℤ (VDs s l)) c
      → Word most_credit 1792400000000001 c

pub record Bounds (s : State) (l : Lines) : Type 0 where
  pub sums : SumBounds s l
  pub charges : ChargeBounds s l
  pub payees : CreditBounds s l
  pub cells : CellBounds s l

either : {K : ℕ} {x S c : ℤ} → Word K K (floor x S) → Cell x S c → T (ltb (K + (K + 1)) (2 ^ 63)) → Word K (K + 1) c
either {x = x} {S} w (rounded_down e) t = rw e (word w.low (omega arith) t)
either {x = x} {S} w (rounded_up e z) t = rw e (word (omega (arith, add# (floor x S) (pos 1))) (omega (arith, add# (floor x S) (pos 1))) t)

-- once test 10 is passed too
pub cell_bounds :
    {s : State} {l : Lines}
    → length s.credits ≡ length l.users
    → ChargeBounds s l
    → CreditBounds s l
    → sum_ℤ (VDs s l) ≢ pos 0
    → CellBounds s l
cell_bounds {s} {l} w b c z = record { floor_at_lem = at; cell_at_lem = λ i j h k. λ v. either (at i j h k) v tt }
  where
    at :
        (i j : ℕ)
        → i < suc (length l.agents)
        → j < length l.users
        → Word most_credit most_credit (floor (get_or (VCs s l) i (pos 0) *ℤ get_or (VDs s l) j (pos 0)) (sum_ℤ (VDs s l)))
    at i j h k =
        word_within most_credit _
        (floor_share (get_or (VCs s l) i (pos 0)) (get_or (VDs s l) j (pos 0)) (sum_ℤ (VDs s l))
        (word_nonneg (b.VD j k))
        (entry_le_sum (VDs s l) j b.VDs_nonneg (omega (arith, length_VDs s l w)))
        (above (word_nonneg b.VD_total) z))
        (c.VC i h) tt tt tt

-- with one held credit per user, as the ledger's held slice has
pub bounds : (s : State) (l : Lines) → length s.credits ≡ s.users → Passed s l → Bounds s l
bounds s l w p =
    let r = ranged_passed s l w p in
    let b = charge_bounds r p.EUST_total in
    let c = credit_bounds r p.EUST_total p.pb_total in
    record { sums = sum_bounds r; charges = b; payees = c; cells = cell_bounds r.count b c p.VD_total }

pub bounds_accepted : (s : State) (short : Verdict) (l : Lines) → length s.credits ≡ s.users → refusal s short l ≡ accepted → Bounds s l
bounds_accepted s short l w e = bounds s l w (passed s short l e)

-- an accepted closing on this ledger and these slices
pub bounds_closing :
    (g : Ledger) (held cells : List ℤ) (work : List ℕ) (l : Lines)
    → closing_refusal g held cells work l ≡ accepted
    → Bounds (state_of g held) l
bounds_closing g held cells work l e =
    let s = state_of g held in
    let short = short_slices s (lengths_of held cells work) in
    let room = slices s (lengths_of held cells work) (slices_accepted s short l e) in
    bounds s l (length-take-le g.users held room.held) (passed s short l e)

-- all debits of a month are less than 2 × 10^15
pub debits_small : (s : State) (l : Lines) → length s.credits ≡ s.users → Passed s l → sum_ℤ (VDs s l) <ℤ pos 2000000000000000
debits_small s l w p = let b = (bounds s l w p).charges.VD_total in omega za

-- a point that reaches the bound of its use charge, and one that reaches that of its overrun
unfoldable pub dearest : List Point
dearest =
    point_of (pos 1 ∷ pos 100000 ∷ pos 100000 ∷ pos 0 ∷ pos 0 ∷ pos 20000000 ∷ pos 20000000 ∷ pos 0 ∷ pos 0 ∷ [])
    ∷ point_of (pos 1 ∷ pos 100000 ∷ pos 100000 ∷ pos 0 ∷ pos 0 ∷ pos 0 ∷ pos 0 ∷ pos 20000000 ∷ pos 20000000 ∷ [])
    ∷ []

pub reached : map (λ (p : Point). use_charge p ∷ overrun (pos 2) p ∷ []) dearest ≡ (pos 400000000000 ∷ pos 0 ∷ []) ∷ (pos 0 ∷ pos 1200000000000 ∷ []) ∷ []
unfolding dearest use_charge overrun excess allowance or_zero half_up floor
reached = refl
