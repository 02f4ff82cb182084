-- A promise that goes by the verdict on a call, once that verdict is known; and the promises of opening and closing so.
use Prim.Native.Nat.{ℕ}
use mathlib.Core.Path.{◌≡◌, refl, sym, ap, ◌∙◌, subst, subst₂}
use mathlib.Core.List.{List, ◌++◌}
use lib.IntN.{ℤ, pos}
use lib.ListN.{length, drop, replicate}
use lib.Seq.{take_at, drop_at}
use Rattle.std.specs.Prelude.{Result, Ok, Err}
use Rattle.rules.specs.declared.Ledger.{Ledger}
use Rattle.rules.specs.declared.outcomes.Outcome.{Outcome}
use Rattle.rules.specs.declared.outcomes.Refusal.{Refusal}
use Rattle.rules.specs.Verdict.{Verdict, accepted, refused, ByVerdict}
use Rattle.rules.specs.Lines.{Lines}
use Rattle.rules.specs.Charges.{new_credits}
use Rattle.rules.specs.Direct.{MonthTable}
use Rattle.rules.specs.Refusals.{cells_needed, opening_refusal}
use Rattle.rules.specs.Answers.{refused_by}
use Rattle.rules.specs.Answers.{verdict_of}
use Rattle.rules.specs.Calls.{empty_ledger, Opens, state_of, closing_refusal, Closes}
use Rattle.rules.proofs.Tests.{refused_not_accepted}

module _ {v : Verdict} {done : Type 0} {back : ℕ → ℕ → Type 0} where
  pub by_accepted : v ≡ accepted → done → ByVerdict v done back
  by_accepted e d = record { where_accepted = λ _. d; where_refused = λ n p r. absurd (refused_not_accepted (sym r ∙ e)) }

  -- the answer tells the verdict
  pub answers :
      {T : Type 0} (a : Result T Refusal)
      → (done → verdict_of a ≡ accepted)
      → ((n p : ℕ) → back n p → verdict_of a ≡ refused n p)
      → ByVerdict v done back
      → verdict_of a ≡ v
  answers a d b c = go v refl
    where
      go : (w : Verdict) → v ≡ w → verdict_of a ≡ v
      go accepted e = d (c.where_accepted e) ∙ sym e
      go (refused n p) e = b n p (c.where_refused n p e) ∙ sym e

pub by_refused : {v : Verdict} {done : Type 0} {back : ℕ → ℕ → Type 0} {n p : ℕ} → v ≡ refused n p → back n p → ByVerdict v done back
by_refused {v} {done} {back} {n} {p} e b = record {
  where_accepted = λ a. absurd (refused_not_accepted (sym e ∙ a));
  where_refused = λ m q r. subst₂ back (number r) (place r) b;
}
  where
    number : {m q : ℕ} → v ≡ refused m q → n ≡ m
    number r = cc

    place : {m q : ℕ} → v ≡ refused m q → p ≡ q
    place r = cc

-- ---- opening
module _ (users agents : ℕ) (held : List ℤ) where
  pub opens_refused :
      (e : Refusal)
      → opening_refusal users agents (length held) ≡ refused_by e
      → Opens users agents held (record { answer = Err e; ledger = empty_ledger }) held
  opens_refused e v = by_refused v (record { answer = refl; ledger = refl; credits = refl })

  pub opens_accepted :
      opening_refusal users agents (length held) ≡ accepted
      → Opens users agents held (record { answer = Ok tt; ledger = record { users = users; agents = agents; month = pos 0 } }) (replicate users (pos 0)
      ++ drop users held)
  opens_accepted e = by_accepted e (record { outcome = refl; credits = refl })

  pub opens_verdict : {r : Outcome} {held' : List ℤ} → Opens users agents held r held' → verdict_of r.answer ≡ opening_refusal users agents (length held)
  opens_verdict {r = r} o = answers r.answer (λ d. ap (λ (x : Outcome). verdict_of x.answer) d.outcome) (λ n p b. b.answer) o

-- ---- closing
module _ (g : Ledger) (held : List ℤ) (l : Lines) (cells : List ℤ) (work : List ℕ) where
  pub closes_refused :
      (e : Refusal) → closing_refusal g held cells work l ≡ refused_by e → Closes g held l cells work (record { answer = Err e; ledger = g }) held cells work
  closes_refused e v = by_refused v (record { answer = refl; ledger = refl; credits = refl; table = refl; scratch = refl })

  -- the table of the month, written over the front of the cells slice
  pub closes_accepted :
      (table : List ℤ) (work' : List ℕ)
      → closing_refusal g held cells work l ≡ accepted
      → MonthTable (state_of g held) l table
      → length table ≡ cells_needed g.users g.agents
      → length work' ≡ length work
      → Closes g held l cells work (record { answer = Ok tt; ledger = record { users = g.users; agents = g.agents; month = l.line.month } })
      (new_credits (state_of g held) l ++ drop g.users held)
      (table ++ drop (cells_needed g.users g.agents) cells)
      work'
  closes_accepted table work' e t n w =
      let need = cells_needed g.users g.agents in
      by_accepted e
      (record {
        outcome = refl;
        credits = refl;
        table = subst (λ (x : List ℤ). MonthTable (state_of g held) l x) (sym (take_at table (drop need cells) need n)) t;
        beyond = drop_at table (drop need cells) need n;
        scratch = w;
      })
