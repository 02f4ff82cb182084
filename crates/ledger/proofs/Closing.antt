-- A closing that was judged: refused, it changes nothing; accepted, it may write, and what it writes is what closing promises.
use Prim.Native.Nat.{ℕ, ◌+◌, ◌*◌}
use mathlib.Core.Path.{◌≡◌, sym, ◌∙◌}
use mathlib.Core.List.{List, ◌++◌}
use lib.IntN.{ℤ}
use lib.ListN.{length, take, drop}
use lib.Seq.{length-take-le}
use Rattle.std.specs.Prelude.{Result, Ok, Err}
use Rattle.rules.specs.declared.Ledger.{Ledger}
use Rattle.rules.specs.declared.outcomes.Refusal.{Refusal}
use Rattle.rules.specs.Verdict.{Verdict, accepted}
use Rattle.rules.specs.Answers.{refused_by, verdict_of}
use Rattle.rules.specs.Lines.{Lines}
use Rattle.rules.specs.Refusals.{short_slices, count_tests}
use Rattle.rules.specs.Calls.{state_of, lengths_of, closing_refusal, Closes}
use Rattle.rules.proofs.Passed.{slices}
use Rattle.rules.proofs.Promise.{closes_refused, closes_accepted}
use Rattle.closing.specs.declared.judge.Judged.{Judged}
use Rattle.closing.specs.Judged.{Begun, Finds, Judges}
use Rattle.closing.specs.Written.{Written}
use Rattle.closing.proofs.Ready.{user_count, cell_count, cells_reach}

module _ (g : Ledger) (held cells : List ℤ) (work : List ℕ) (l : Lines) where
  -- 2, of the slices that a closing is lent
  abbrev pub short : Verdict
  short = short_slices (state_of g held) (lengths_of held cells work)

  -- with 1 and 2 tested, the closing may be judged
  pub begun :
      {first : Result (Unit {0}) Refusal}
      → verdict_of first ≡ count_tests (state_of g held) short (length l.users) (length l.agents) (length l.points)
      → Begun g held l first short
  begun told = record { verdict = told; long_held = λ e. (slices (state_of g held) (lengths_of held cells work) e).held }

  -- judged so, it was accepted, and what was found of it are its amounts
  module _ {first : Result (Unit {0}) Refusal} {j : Judged}
      (told : verdict_of first ≡ count_tests (state_of g held) short (length l.users) (length l.agents) (length l.points))
      (judged : (s : Verdict) → Begun g held l first s → Judges g held s l (Ok j)) where
    pub passed_so : closing_refusal g held cells work l ≡ accepted
    passed_so = sym (judged short (begun told)).verdict

    pub found_so : Finds (state_of g held) l j
    found_so = (judged short (begun told)).found

  pub refused_closes :
      {e : Refusal}
      → refused_by e ≡ closing_refusal g held cells work l
      → Closes g held l cells work (record { answer = Err e; ledger = g }) held cells work
  refused_closes {e = e} v = closes_refused g held l cells work e (sym v)

  pub accepted_closes :
      (passed : closing_refusal g held cells work l ≡ accepted)
      {held' cells' : List ℤ} {work' : List ℕ}
      → Written (state_of g held) l work held' cells' work'
      → length cells' ≡ length (take ((length l.agents + 1) * length l.users) cells)
      → Closes g held l cells work (record { answer = Ok tt; ledger = record { users = g.users; agents = g.agents; month = l.line.month } })
      (held' ++ drop (length l.users) held)
      (cells' ++ drop ((length l.agents + 1) * length l.users) cells)
      work'
  accepted_closes passed {cells' = cells'} {work' = work'} w long =
      let n = long ∙ length-take-le _ cells (cells_reach g held cells work l passed) ∙ cell_count g held cells work l passed in
      rw (w.credits, cell_count g held cells work l passed, user_count g held cells work l passed)
      (closes_accepted g held l cells work cells' work' passed w.table n w.scratch)
