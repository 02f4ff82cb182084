-- DEMAND 3 (paper 01, "The tally of demand 3"). Whatever an accepted opening, and whatever the list of closings after it, each handed
-- the ledger and lent the held credits of the one before, in a slice of any length: if opening and every closing kept their promises
-- `Opens` and `Closes`, the whole list meets `Demand3`. Assumes nothing else.
use Prim.Native.Nat.{ℕ}
use mathlib.Core.Path.{◌≡◌, refl, sym, ap, ◌∙◌}
use mathlib.Core.List.{List}
use native.Mathlib.Omega.{arith}
use lib.IntN.{ℤ, pos, ◌+ℤ◌, +ℤ_idr}
use lib.ListN.{take, drop, replicate, length-replicate, get_or-replicate}
use lib.Seq.{take_all, take_at, drop_at}
use Rattle.rules.specs.declared.outcomes.Outcome.{Outcome}
use Rattle.rules.specs.Verdict.{accepted}
use Rattle.rules.specs.Answers.{verdict_of}
use Rattle.rules.specs.Calls.{Opens}
use Rattle.rules.specs.Tally.{opened}
use Rattle.rules.specs.Demand.{Call, Chain, AllPromised, billed_to_user, Demand3}
use Rattle.rules.proofs.Promise.{opens_verdict}
use Rattle.rules.proofs.Steps.{Agree}
use Rattle.rules.proofs.Follow.{Follows, follows}

-- an accepted opening leaves what the tally starts from, and entries beyond the users as they were
pub opened_so :
    (users agents : ℕ) (held : List ℤ) (r : Outcome) (held' : List ℤ)
    → Opens users agents held r held'
    → verdict_of r.answer ≡ accepted
    → Agree users agents (opened users agents) r.ledger (take users held') × (drop users held' ≡ drop users held)
opened_so users agents held r held' o e =
    let d = o.where_accepted (sym (opens_verdict users agents held o) ∙ e) in
    let long = length-replicate users (pos 0) in
    let zeros : take users held' ≡ replicate users (pos 0) = ap (take users) d.credits ∙ take_at (replicate users (pos 0)) (drop users held) users long in (
      rw (d.outcome, zeros)
          (record {
            tally_users = refl;
            tally_agents = refl;
            state = ap (λ (x : List ℤ). record { users = users; agents = agents; month = pos 0; credits = x })
                (take_all users (replicate users (pos 0)) (omega (arith, long)));
            width = long;
          }),
      ap (drop users) d.credits ∙ drop_at (replicate users (pos 0)) (drop users held) users long,
    )

pub demand_3 :
    (users agents : ℕ) (held : List ℤ) (r : Outcome) (held' : List ℤ)
    → Opens users agents held r held'
    → verdict_of r.answer ≡ accepted
    → (cs : List Call)
    → Chain r.ledger (take users held') cs
    → AllPromised cs
    → Demand3 users agents held r.ledger held' cs
demand_3 users agents held r held' o e cs h p =
    let b = opened_so users agents held r held' o e in
    let f : Follows users agents (opened users agents) r.ledger (take users held') cs =
    follows users agents (opened users agents) r.ledger (take users held') cs b.0 h p in
    record {
      answers = f.answers;
      state = f.last.state;
      beyond_opening = b.1;
      beyond = f.beyond;
      user_total = λ j l.
          sym (+ℤ_idr (billed_to_user users agents j cs))
          ∙ ap (λ (x : ℤ). billed_to_user users agents j cs +ℤ x) (sym (get_or-replicate users j (pos 0) (pos 0) l))
          ∙ f.user j l;
      payee_total = f.payee;
      one_cent = f.near;
    }
