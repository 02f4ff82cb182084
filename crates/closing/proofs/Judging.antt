-- What a call that has begun a closing knows, group after group of the refusals, and how the groups make up `refusal`.
use Rattle.std.proofs.Common.{◌≡◌, ◌≤◌, ℤ, List, length, take, refl, sym, ap, ◌∙◌, false}
use lib.Seq.{length-take-le}
use Rattle.std.specs.Prelude.{Result, Ok, IsErrAnd}
use Rattle.std.proofs.lemmas.Result.{err_from_is_err_and}
use Rattle.rules.specs.declared.Ledger.{Ledger}
use Rattle.rules.specs.declared.outcomes.Refusal.{Refusal}
use Rattle.rules.specs.Answers.{refused_by, verdict_of}
use Rattle.rules.specs.Verdict.{Verdict, accepted, ◌then◌}
use Rattle.rules.specs.Lines.{Lines}
use Rattle.rules.specs.State.{State}
use Rattle.rules.specs.Tested.{Tested}
use Rattle.rules.specs.Refusals.{bad_counts, count_tests, state_tests, line_tests, sum_tests, refusal}
use Rattle.rules.specs.Calls.{state_of}
use Rattle.rules.proofs.Tests.{when_then}
use Rattle.rules.proofs.Passed.{Counts, counts}
use Rattle.charges.specs.declared.month.Bills.{Bills}
use Rattle.charges.specs.declared.scan.Sums.{Sums}
use Rattle.charges.specs.Scan.{SumsOf}
use Rattle.closing.specs.Judged.{Begun, JudgesBy, Weighable, Weighs, Judges}

-- refused, with nothing found: what `?` hands on
pub stops :
    {T : Type 0} {Found : T → Type 0} {v : Verdict} (e : Refusal) (r : Result T Refusal)
    → IsErrAnd r (λ (d : Refusal). d ≡ e)
    → refused_by e ≡ v
    → JudgesBy v Found r
stops e r h k = let p = err_from_is_err_and r h in rw p.1 (record { verdict = ap refused_by p.2 ∙ k; found = tt })

module _ {g : Ledger} {held : List ℤ} {l : Lines} {first : Result (Unit {0}) Refusal} {short : Verdict} (b : Begun g held l first short) where
  abbrev st : State
  st = state_of g held

  -- group after group
  pub order : (verdict_of first then state_tests st l.line then line_tests l then sum_tests st l) ≡ refusal st short l
  unfolding refusal
  order = rw b.verdict refl

  -- ---- 1 and 2 are passed
  module _ (one : verdict_of first ≡ accepted) where
    counts_passed : (bad_counts st (length l.users) (length l.agents) (length l.points) ≡ false) × (short ≡ accepted)
    unfolding count_tests
    counts_passed = when_then (bad_counts st (length l.users) (length l.agents) (length l.points)) 1 0 _ (sym b.verdict ∙ one)

    known : Counts st (length l.users) (length l.agents) (length l.points)
    known = counts st _ _ _ counts_passed.0

    pub held_reach : g.users ≤ length held
    held_reach = b.long_held counts_passed.1

    -- ---- and 3 to 7
    module _ (three : state_tests st l.line ≡ accepted) (five : line_tests l ≡ accepted) where
      lines_tested : Tested st l
      lines_tested = record {
        counts = counts_passed.0;
        state = three;
        lines = five;
        held = length-take-le g.users held held_reach ∙ sym known.same_users;
      }

      -- what is left is 8 to 10
      pub sums_left : sum_tests st l ≡ refusal st short l
      sums_left = rw (one, three, five) at order

      module _ {s : Sums} (f : SumsOf l s) where
        pub weighable : Weighable (take g.users held) l s st
        weighable = record { tests = lines_tested; held_are = refl; sums = f }

        pub finds : {n : Bills} → Weighs st l (Ok n) → Judges g held short l (Ok (record { sums = s; bills = n }))
        finds w = record { verdict = w.verdict ∙ sums_left; found = record { sums = f; bills = w.found } }
