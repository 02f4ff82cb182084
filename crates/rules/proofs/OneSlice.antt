-- Demand 3 where every closing is handed the very slice that the call before it left, tail and length included: the list is one of
-- credits lent on, and the slice itself holds the tally's credits in the end, and beyond them what it held before the opening.
use Prim.Native.Nat.{ℕ, ◌≤◌}
use mathlib.Core.Path.{◌≡◌, refl, sym, ap, ◌∙◌, subst}
use mathlib.Core.List.{List, [], ◌∷◌}
use native.Mathlib.Omega.{arith}
use lib.IntN.{ℤ}
use lib.ListN.{length, take, drop, length-take}
use lib.Seq.{take_all, length-take-le}
use Rattle.rules.specs.declared.Ledger.{Ledger}
use Rattle.rules.specs.declared.outcomes.Outcome.{Outcome}
use Rattle.rules.specs.State.{State}
use Rattle.rules.specs.Verdict.{accepted}
use Rattle.rules.specs.Answers.{verdict_of}
use Rattle.rules.specs.Calls.{Opens}
use Rattle.rules.specs.Tally.{opened}
use Rattle.rules.specs.Demand.{Call, Chain, AllPromised, left_in, last_ledger, last_credits, AllBeyond, Demand3}
use Rattle.rules.specs.Demand.{SameSlice, last_held, SliceLeft}
use Rattle.rules.proofs.Lending.{front, kept}
use Rattle.rules.proofs.Follow.{follows}
use Rattle.rules.proofs.Demand.{opened_so, demand_3}

-- the credits that a slice holds are lent in it
own : (users : ℕ) (held : List ℤ) → users ≤ length held → take (length held) (take users held) ≡ take (length (take users held)) held
own users held h =
    let n = length-take-le users held h in
    take_all (length held) (take users held) (omega (arith, n)) ∙ ap (λ (k : ℕ). take k held) (sym n)

-- and they are those that it holds after a call that left it as long
own_left : (users : ℕ) (held held' : List ℤ) → users ≤ length held → length held' ≡ length held → left_in (take users held) held' ≡ take users held'
own_left users held held' h e =
    let n = length-take-le users held h in
    front (take users held) held' (omega (arith, n)) ∙ ap (λ (k : ℕ). take k held') n

-- one slice throughout is a case of credits lent on
pub same_slice :
    (users : ℕ) (g : Ledger) (held : List ℤ) (cs : List Call)
    → users ≤ length held
    → AllPromised cs
    → SameSlice g held cs
    → Chain g (take users held) cs × (last_credits (take users held) cs ≡ take users (last_held held cs))
unfolding Chain AllPromised SameSlice last_credits last_held
same_slice users g held [] h p s = (tt, refl)
same_slice users g held (c ∷ cs) h p s =
    let n : length c.held_left ≡ length held = (kept c p.0).1 ∙ ap length s.1 in
    let r = same_slice users c.outcome.ledger c.held_left cs (omega (arith, n)) p.1 s.2 in
    let e = own_left users held c.held_left h n in (
      (
        s.0,
        subst (λ (x : List ℤ). take (length x) (take users held) ≡ take (length (take users held)) x) (sym s.1) (own users held h),
        subst (λ (x : List ℤ). Chain c.outcome.ledger x cs) (sym e) r.0,
      ),
      ap (λ (x : List ℤ). last_credits x cs) e ∙ r.1,
    )

-- entries beyond the users stay through the list
beyond_last :
    (users : ℕ) (g : Ledger) (held : List ℤ) (cs : List Call) → SameSlice g held cs → AllBeyond users cs → drop users (last_held held cs) ≡ drop users held
unfolding SameSlice last_held AllBeyond
beyond_last users g held [] s b = refl
beyond_last users g held (c ∷ cs) s b = beyond_last users c.outcome.ledger c.held_left cs s.2 b.2 ∙ b.0 ∙ ap (drop users) s.1

pub demand_3_same_slice :
    (users agents : ℕ) (held : List ℤ) (r : Outcome) (held' : List ℤ)
    → Opens users agents held r held'
    → verdict_of r.answer ≡ accepted
    → (cs : List Call)
    → SameSlice r.ledger held' cs
    → AllPromised cs
    → Demand3 users agents held r.ledger held' cs × SliceLeft users agents held r.ledger held' cs
demand_3_same_slice users agents held r held' o e cs s p =
    let b = opened_so users agents held r held' o e in
    let long : users ≤ length held' = omega (arith, b.0.width, length-take users held') in
    let c = same_slice users r.ledger held' cs long p s in
    let f = follows users agents (opened users agents) r.ledger (take users held') cs b.0 c.0 p in
    let n : (last_ledger r.ledger cs).users ≡ users = ap (λ (x : State). x.users) f.last.state ∙ f.last.tally_users in
    let l = last_ledger r.ledger cs in
    let long' : length (last_credits (take users held') cs) ≤ l.users = omega (arith, n, f.last.width, f.last.tally_users) in
    let same : take l.users (last_held held' cs) ≡ take l.users (last_credits (take users held') cs) =
    ap (λ (k : ℕ). take k (last_held held' cs)) n ∙ sym c.1 ∙ sym (take_all l.users (last_credits (take users held') cs) long') in (
      demand_3 users agents held r held' o e cs c.0 p,
      record {
        state = (λ i. record { users = l.users; agents = l.agents; month = l.month; credits = same i }) ∙ f.last.state;
        beyond = beyond_last users r.ledger held' cs s f.beyond ∙ b.1;
      },
    )
