-- The held credits in the slice that lends them, whatever its length: what a slice says of the credits before a call, and after it.
use Prim.Native.Nat.{ℕ, ◌≤◌}
use mathlib.Core.Path.{◌≡◌, refl, sym, ap, ◌∙◌}
use mathlib.Core.Bool.{Bool, true, false, true≢false}
use mathlib.Core.List.{List, ◌++◌, append-nil}
use native.Mathlib.Omega.{arith}
use lib.Dec.{ltb}
use lib.IntN.{ℤ}
use lib.ListN.{length, take, drop, length-append, take-append-drop, drop_of_length-le}
use lib.Seq.{take_all, take_at, drop_at, length-take-le, length_front}
use Rattle.rules.specs.declared.Ledger.{Ledger}
use Rattle.rules.specs.Verdict.{Verdict, accepted, refused, when, ◌then◌}
use Rattle.rules.specs.Charges.{new_credits}
use Rattle.rules.specs.State.{State}
use Rattle.rules.specs.Refusals.{cells_needed, work_needed, bad_counts, short_slices, count_tests, state_tests, line_tests, sum_tests, refusal}
use Rattle.rules.specs.Calls.{state_of, lengths_of, closing_refusal}
use Rattle.rules.specs.Tally.{Fed, judged}
use Rattle.rules.specs.Demand.{Call, Promised, Lent, left_in}
use Rattle.rules.proofs.Passed.{Passed, slices, slices_accepted, passed}
use Rattle.rules.proofs.Sizes.{length_new_credits}

-- ---- credits and slices
-- a slice that is long enough begins with the credits
pub begins : (credits held : List ℤ) → Lent credits held → length credits ≤ length held → take (length credits) held ≡ credits
begins credits held e h = sym e ∙ take_all (length held) credits h

-- left as it was, it leaves the credits as they were
pub untouched : (credits held : List ℤ) → Lent credits held → left_in credits held ≡ credits
untouched credits held e = ap (λ (x : List ℤ). x ++ drop (length held) credits) (sym e) ∙ take-append-drop (length held) credits

-- left long enough, its front are the credits
pub front : (credits held : List ℤ) → length credits ≤ length held → left_in credits held ≡ take (length credits) held
front credits held h = ap (λ (x : List ℤ). take (length credits) held ++ x) (drop_of_length-le credits h) ∙ append-nil _

pub written : (credits new rest : List ℤ) → length new ≡ length credits → left_in credits (new ++ rest) ≡ new
written credits new rest e = front credits (new ++ rest) (omega (arith, length-append new rest)) ∙ take_at new rest (length credits) e

-- ---- a promised call
module _ (c : Call) (p : Promised c) where
  -- its held slice is as long as it was, and entries beyond the users are as they were
  abbrev pub Kept : Type 0
  Kept = (drop c.ledger.users c.held_left ≡ drop c.ledger.users c.held) × (length c.held_left ≡ length c.held)

  kept_by : (v : Verdict) → closing_refusal c.ledger c.held c.cells c.work c.lines ≡ v → Kept
  kept_by (refused n q) e = let k = p.where_refused n q e in (ap (drop c.ledger.users) k.credits, ap length k.credits)
  kept_by accepted e =
      let u = c.ledger.users in
      let s = state_of c.ledger c.held in
      let n = lengths_of c.held c.cells c.work in
      let new = new_credits s c.lines in
      let q : Passed s c.lines = passed s (short_slices s n) c.lines e in
      let k = p.where_accepted e in
      let w : length (take u c.held) ≡ u = length-take-le u c.held (slices s n (slices_accepted s (short_slices s n) c.lines e)).held in
      let m : length new ≡ u = length_new_credits s c.lines (w ∙ sym q.users) ∙ q.users in
      (ap (drop u) k.credits ∙ drop_at new (drop u c.held) u m, ap length k.credits ∙ length_front c.held new u (m ∙ sym w))

  pub kept : Kept
  kept = kept_by (closing_refusal c.ledger c.held c.cells c.work c.lines) refl

-- ---- a slice too short
-- a test that holds ends the tests
stops : (first : Verdict) (t : Bool) (n p : ℕ) (v w : Verdict) → t ≡ true → ((first then when t n p then v) then w) ≡ (first then refused n p)
stops accepted true n p v w e = refl
stops accepted false n p v w e = absurd (true≢false (sym e))
stops (refused m q) t n p v w e = refl

-- the call is refused: with 1 where that applies, else with 2 and the place 1
pub shortly : (s : State) (f : Fed)
    → ltb f.lengths.held s.users ≡ true
    → judged s f ≡ (when (bad_counts s (length f.lines.users) (length f.lines.agents) (length f.lines.points)) 1 0 then refused 2 1)
unfolding refusal count_tests short_slices
shortly s f h =
    let l = f.lines in
    stops (when (bad_counts s (length l.users) (length l.agents) (length l.points)) 1 0) (ltb f.lengths.held s.users) 2 1
    (when (ltb f.lengths.cells (cells_needed s.users s.agents)) 2 2 then when (ltb f.lengths.work (work_needed s.users s.agents)) 2 3)
    (state_tests s l.line then line_tests l then sum_tests s l)
    h

-- whatever the credits
pub too_short :
    (g : Ledger) (held held' : List ℤ) (f : Fed) → ltb f.lengths.held g.users ≡ true → judged (state_of g held) f ≡ judged (state_of g held') f
unfolding bad_counts
too_short g held held' f h = shortly (state_of g held) f h ∙ sym (shortly (state_of g held') f h)
