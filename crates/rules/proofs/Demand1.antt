-- DEMAND 1 (paper 01, "Why a month comes back" and "The ledger"), of one call that kept its promise `Opens` or `Closes`: the limits of
-- specs/Limits decide its answer, a refused call changes nothing, an accepted one leaves every entry beyond its work. Assumes nothing else.
use Prim.Native.Nat.{ℕ, suc, ◌*◌, ◌≤◌}
use mathlib.Core.Path.{◌≡◌, sym, ap, ap₂, ◌∙◌}
use mathlib.Core.List.{List, ◌++◌}
use native.Mathlib.Omega.{arith}
use lib.IntN.{ℤ, pos}
use lib.ListN.{length, take, drop, replicate, length-replicate, length-append, length-drop, take-append-drop}
use lib.Seq.{take_at, drop_at, length-take-le}
use Rattle.std.specs.Prelude.{Result}
use Rattle.rules.specs.declared.outcomes.Outcome.{Outcome}
use Rattle.rules.specs.declared.outcomes.Refusal.{Refusal}
use Rattle.rules.specs.Verdict.{Verdict, accepted, refused}
use Rattle.rules.specs.Charges.{VDs, new_credits}
use Rattle.rules.specs.Credits.{VCs}
use Rattle.rules.specs.declared.Lengths.{Lengths}
use Rattle.rules.specs.Refusals.{cells_needed, short_slices, refusal, opening_refusal}
use Rattle.rules.specs.State.{State}
use Rattle.rules.specs.Limits.{Limit}
use Rattle.rules.specs.Answers.{verdict_of}
use Rattle.rules.specs.Calls.{Opened, NotOpened, Opens, state_of, lengths_of}
use Rattle.rules.specs.Demand.{Call, Promised}
use Rattle.rules.specs.Demand1.{AnsweredBy, Demand1Opening, Advanced, Demand1Closing}
use Rattle.rules.proofs.Passed.{slices, slices_accepted, passed}
use Rattle.rules.proofs.Sizes.{length_VDs, length_VCs, length_new_credits}
use Rattle.rules.proofs.Promise.{answers, opens_verdict}
use Rattle.rules.proofs.Limits.{Agrees}
use Rattle.rules.proofs.LimitsMonth.{opening_agrees, closing_agrees}

-- ---- the answer
pub answered : {t : Limit} {v : Verdict} {T : Type 0} {a : Result T Refusal} → Agrees t v → verdict_of a ≡ v → AnsweredBy t a
answered g e = record {
  done = (λ k. e ∙ g.accepted.0 k, λ x. g.accepted.1 (sym e ∙ x));
  back = λ n p. (λ b. e ∙ (g.refused n p).0 b, λ x. (g.refused n p).1 (sym e ∙ x));
}

-- ---- opening
pub demand_1_opening :
    (users agents : ℕ) (held : List ℤ) (r : Outcome) (held' : List ℤ) → Opens users agents held r held' → Demand1Opening users agents held r held'
demand_1_opening users agents held r held' o =
    record {
      answer = answered (opening_agrees users agents (length held)) e;
      no_ledger = λ n p a. (back n p a).ledger;
      unchanged = λ n p a. (back n p a).credits;
      ledger = λ a. ap (λ (x : Outcome). x.ledger) (done a).outcome;
      credits = λ a. rw (done a).credits (take_at (replicate users (pos 0)) (drop users held) users long);
      beyond = λ a. rw (done a).credits (drop_at (replicate users (pos 0)) (drop users held) users long);
    }
  where
    e : verdict_of r.answer ≡ opening_refusal users agents (length held)
    e = opens_verdict users agents held o

    done : verdict_of r.answer ≡ accepted → Opened users agents held r held'
    done a = o.where_accepted (sym e ∙ a)

    back : (n p : ℕ) → verdict_of r.answer ≡ refused n p → NotOpened held r held' n p
    back n p a = o.where_refused n p (sym e ∙ a)

    long : length (replicate users (pos 0)) ≡ users
    long = length-replicate users (pos 0)

-- ---- closing
-- as many entries as were there, where as many as were written take the place of the first
pub same_length : {A : Type 0} (n : ℕ) (xs ys : List A) → length xs ≡ n → n ≤ length ys → length (xs ++ drop n ys) ≡ length ys
same_length n xs ys e h = omega (arith, length-append xs (drop n ys), length-drop n ys)

pub demand_1_closing : (c : Call) → Promised c → Demand1Closing c
demand_1_closing c o = record {
  answer = answered (closing_agrees s n c.lines) e;
  unchanged = λ n p a.
      let b = o.where_refused n p (sym e ∙ a) in
      record { ledger = b.ledger; held = b.credits; cells = b.table; work = b.scratch };
  advanced = λ a. advanced (sym e ∙ a);
}
  where
    s : State
    s = state_of c.ledger c.held

    n : Lengths
    n = lengths_of c.held c.cells c.work

    e : verdict_of c.outcome.answer ≡ refusal s (short_slices s n) c.lines
    e = answers c.outcome.answer (λ d. ap (λ (x : Outcome). verdict_of x.answer) d.outcome) (λ n p b. b.answer) o

    advanced : refusal s (short_slices s n) c.lines ≡ accepted → Advanced c
    advanced a =
        let d = o.where_accepted a in
        let q = passed s (short_slices s n) c.lines a in
        let rooms = slices s n (slices_accepted s (short_slices s n) c.lines a) in
        let g = c.ledger in
        let need = cells_needed g.users g.agents in
        let w : length (take g.users c.held) ≡ g.users = length-take-le g.users c.held rooms.held in
        let per_user = w ∙ sym q.users in
        let credits : length (new_credits s c.lines) ≡ g.users = length_new_credits s c.lines per_user ∙ q.users in
        let rows : length (VCs s c.lines) ≡ suc g.agents = length_VCs s c.lines ∙ ap suc q.agents in
        let columns : length (VDs s c.lines) ≡ g.users = length_VDs s c.lines per_user ∙ q.users in
        let table : length (take need c.cells_left) ≡ need = d.table.size ∙ ap₂ ◌*◌ rows columns ∙ omega arith in
        record {
          ledger = ap (λ (x : Outcome). x.ledger) d.outcome;
          held = rw d.credits (drop_at (new_credits s c.lines) (drop g.users c.held) g.users credits);
          held_length = rw d.credits (same_length g.users (new_credits s c.lines) c.held credits rooms.held);
          cells = d.beyond;
          cells_length =
              ap length (sym (take-append-drop need c.cells_left))
              ∙ ap (λ (x : List ℤ). length (take need c.cells_left ++ x)) d.beyond
              ∙ same_length need (take need c.cells_left) c.cells table rooms.cells;
          work_length = d.scratch;
        }
