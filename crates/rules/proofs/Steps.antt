-- One closing beside one step of the tally: they answer alike and stay alike, and the billed cells are the tally's amounts.
use Prim.Native.Nat.{ℕ, suc, ◌≤◌, ◌<◌}
use mathlib.Core.Path.{◌≡◌, refl, sym, ap, ◌∙◌, subst}
use mathlib.Core.Bool.{Bool, true, false}
use mathlib.Core.List.{List, ◌++◌}
use native.Mathlib.Omega.{arith}
use lib.Dec.{ltb}
use lib.IntN.{ℤ, pos, ◌+ℤ◌, ◌-ℤ◌}
use lib.ListN.{length, take, drop, get_or}
use lib.Seq.{take_all}
use borrow.Author.Tests.{ltb-false}
use Rattle.ints.specs.Bridge.{za, add#, sub#}
use Rattle.ints.specs.Sums.{Σ<}
use Rattle.rules.specs.declared.Ledger.{Ledger}
use Rattle.rules.specs.declared.outcomes.Outcome.{Outcome}
use Rattle.rules.specs.Verdict.{Verdict, accepted, refused, ByVerdict}
use Rattle.rules.specs.Charges.{VMEs, CPVs, VDs, new_credits}
use Rattle.rules.specs.Table.{cell_at}
use Rattle.rules.specs.Direct.{ongs, MonthTable}
use Rattle.rules.specs.State.{State}
use Rattle.rules.specs.Refusals.{cells_needed, short_slices}
use Rattle.rules.specs.Answers.{verdict_of}
use Rattle.rules.specs.Calls.{state_of, closing_refusal, Closed, NotClosed}
use Rattle.rules.specs.Tally.{judged, moved, counted, charges_less_compensation, payee_credit}
use Rattle.rules.specs.Demand.{Call, Promised, Lent, left_in, fed, NearCells}
use Rattle.rules.proofs.Passed.{Passed, slices, slices_accepted, passed}
use Rattle.rules.proofs.Promise.{by_accepted, by_refused}
use Rattle.rules.proofs.Lending.{begins, untouched, written, too_short}
use Rattle.rules.proofs.Sizes.{length_VDs, length_new_credits, length_VCs}
use Rattle.rules.proofs.Entries.{VD_total_above, debit_balance}
use Rattle.rules.proofs.Slice.{Stands, stands}

-- a ledger and held credits stand for the tally's state
pub record Agree (users agents : ℕ) (s : State) (g : Ledger) (credits : List ℤ) : Type 0 where
  pub tally_users : s.users ≡ users
  pub tally_agents : s.agents ≡ agents
  pub state : state_of g credits ≡ s
  pub width : length credits ≡ s.users

-- what a closing did that was lent these credits, under the tally's verdict v on it
pub record Step (v : Verdict) (users agents : ℕ) (s : State) (c : Call) (credits : List ℤ) : Type 0 where
  pub answer : verdict_of c.outcome.answer ≡ v
  pub agree : Agree users agents (moved v s (fed c)) c.outcome.ledger (left_in credits c.held_left)
  pub user :
      (j : ℕ)
      → j < users
      → counted v (Σ< (suc agents) (λ i. cell_at users c.cells_left i j)) +ℤ get_or s.credits j (pos 0)
      ≡ counted v (charges_less_compensation j s c.lines) +ℤ get_or (moved v s (fed c)).credits j (pos 0)
  pub payee :
      (i : ℕ) → i < suc agents → counted v (Σ< users (λ j. cell_at users c.cells_left i j)) ≡ counted v (payee_credit i s c.lines)
  pub near : ByVerdict v (NearCells s c.lines c.cells_left) (λ n p. Unit {0})

-- d − n = v − p − k, with each taken to the side where it is added, and g on both
turned : (d n v p k g : ℤ) → d -ℤ n ≡ v -ℤ p -ℤ k → d +ℤ g +ℤ k ≡ v +ℤ g -ℤ p +ℤ n
turned d n v p k g e =
    omega (
      za,
      sub# d n,
      sub# v p,
      sub# (v -ℤ p) k,
      add# d g,
      add# (d +ℤ g) k,
      add# v g,
      sub# (v +ℤ g) p,
      add# (v +ℤ g -ℤ p) n,
    )

module _ (users agents : ℕ) (s : State) (c : Call) (credits : List ℤ) (a : Agree users agents s c.ledger credits) (lent : Lent credits c.held) where
  users_are : c.ledger.users ≡ s.users
  users_are = ap (λ (x : State). x.users) a.state

  -- a slice that is long enough stands for the tally's state
  stands_for : s.users ≤ length c.held → state_of c.ledger c.held ≡ s
  stands_for h =
      let n : c.ledger.users ≡ length credits = users_are ∙ sym a.width in
      let e : take c.ledger.users c.held ≡ take c.ledger.users credits =
      ap (λ (k : ℕ). take k c.held) n
      ∙ begins credits c.held lent (omega (arith, a.width))
      ∙ sym (take_all c.ledger.users credits (omega arith)) in
      (λ i. record { users = c.ledger.users; agents = c.ledger.agents; month = c.ledger.month; credits = e i }) ∙ a.state

  -- closing's verdict is the tally's
  same_verdict : closing_refusal c.ledger c.held c.cells c.work c.lines ≡ judged s (fed c)
  same_verdict = go (ltb (length c.held) s.users) refl
    where
      go : (t : Bool) → ltb (length c.held) s.users ≡ t → closing_refusal c.ledger c.held c.cells c.work c.lines ≡ judged s (fed c)
      go false e = ap (λ (x : State). judged x (fed c)) (stands_for (ltb-false _ _ e))
      go true e =
          too_short c.ledger c.held credits (fed c) (ap (ltb (length c.held)) users_are ∙ e)
          ∙ ap (λ (x : State). judged x (fed c)) a.state

  -- a refused closing changes nothing
  step_refused :
      (n p : ℕ)
      → NotClosed c.ledger c.held c.cells c.work c.outcome c.held_left c.cells_left c.work_left n p
      → Step (refused n p) users agents s c credits
  step_refused n p k =
      record {
        answer = k.answer;
        agree = rw (k.ledger, k.credits, untouched credits c.held lent) a;
        user = λ j h. refl;
        payee = λ i h. refl;
        near = by_refused refl tt;
      }

  module _ (e : judged s (fed c) ≡ accepted) (k : Closed c.ledger c.held c.lines c.cells c.work c.outcome c.held_left c.cells_left
      c.work_left) where
    p : Passed s c.lines
    p = passed s (short_slices s (fed c).lengths) c.lines e

    lent_so : state_of c.ledger c.held ≡ s
    lent_so = stands_for (slices s (fed c).lengths (slices_accepted s (short_slices s (fed c).lengths) c.lines e)).held

    w : length s.credits ≡ length c.lines.users
    w =
        ap length (sym (ap (λ (x : State). x.credits) a.state))
        ∙ ap length (take_all c.ledger.users credits (omega (arith, a.width, users_are)))
        ∙ a.width
        ∙ sym p.users

    new_width : length (new_credits s c.lines) ≡ s.users
    new_width = length_new_credits s c.lines w ∙ p.users

    -- the ledger and the held credits as they are left
    credits_are : left_in credits c.held_left ≡ new_credits s c.lines
    credits_are =
        ap (left_in credits) (k.credits ∙ ap (λ (x : State). new_credits x c.lines ++ drop c.ledger.users c.held) lent_so)
        ∙ written credits (new_credits s c.lines) _ (new_width ∙ sym a.width)

    state_is : state_of c.outcome.ledger (left_in credits c.held_left) ≡ moved accepted s (fed c)
    state_is =
        let e : take c.ledger.users (left_in credits c.held_left) ≡ new_credits s c.lines =
        ap (take c.ledger.users) credits_are ∙ take_all c.ledger.users (new_credits s c.lines) (omega (arith, new_width, users_are)) in
        ap (λ (x : Outcome). state_of x.ledger (left_in credits c.held_left)) k.outcome
        ∙ (λ i. record { users = (a.state i).users; agents = (a.state i).agents; month = c.lines.line.month; credits = e i })

    agreed : Agree users agents (moved accepted s (fed c)) c.outcome.ledger (left_in credits c.held_left)
    agreed = record {
      tally_users = a.tally_users;
      tally_agents = a.tally_agents;
      state = state_is;
      width = ap length credits_are ∙ new_width;
    }

    step_accepted : Step accepted users agents s c credits
    step_accepted =
        let l = c.lines in
        let t : Stands s.users s.agents s l c.cells_left =
        stands s l c.cells_left p.agents p.users
        (subst (λ (x : State). MonthTable x l (take (cells_needed x.users x.agents) c.cells_left)) lent_so k.table)
        (length_VCs s l ∙ ap suc p.agents)
        (length_VDs s l w ∙ p.users)
        (VD_total_above s l p.VD_total) in
        let u : Stands users agents s l c.cells_left =
        subst (λ (m : ℕ). Stands users m s l c.cells_left) a.tally_agents
        (subst (λ (n : ℕ). Stands n s.agents s l c.cells_left) a.tally_users t) in
        record {
          answer = ap (λ (x : Outcome). verdict_of x.answer) k.outcome;
          agree = agreed;
          user = λ j h.
              ap (λ (x : ℤ). x +ℤ get_or s.credits j (pos 0)) (u.column j h)
              ∙ turned (get_or (VDs s l) j (pos 0)) (get_or (new_credits s l) j (pos 0)) (get_or (VMEs l) j (pos 0)) (get_or (CPVs l) j (pos 0))
              (get_or s.credits j (pos 0))
              (get_or (ongs l.users) j (pos 0))
              (debit_balance s l w j (omega (arith, p.users, a.tally_users)));
          payee = λ i h. u.row i h;
          near = by_accepted refl (record { near = t.near });
        }

pub step :
    (users agents : ℕ) (s : State) (c : Call) (credits : List ℤ)
    → Agree users agents s c.ledger credits
    → Lent credits c.held
    → Promised c
    → Step (judged s (fed c)) users agents s c credits
step users agents s c credits a lent q = go (judged s (fed c)) refl
  where
    go : (v : Verdict) → judged s (fed c) ≡ v → Step v users agents s c credits
    go accepted e = step_accepted users agents s c credits a lent e (q.where_accepted (same_verdict users agents s c credits a lent ∙ e))
    go (refused n p) e = step_refused users agents s c credits a lent n p (q.where_refused n p (same_verdict users agents s c credits a lent ∙ e))
