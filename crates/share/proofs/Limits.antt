-- The share answers by its limits (`share_limits`), and no two cases of the code's answer stand for the same (`one_answer`).
use Rattle.std.proofs.Common.{◌≡◌, ℕ, Bool, true, false, cond, ◌||◌, eqb, Result, Ok, Err, ℤ, pos, sym, refl, ap, ◌∙◌, true≢false, arith}
use lib.Signed.{lt_z}
use Rattle.ints.specs.Bridge.{za}
use Rattle.ints.specs.Range.{outside_false, within_false, or_false, not_below}
use Rattle.share.specs.Running.{part}
use Rattle.share.specs.Answer.{bad_amount, bad_total, bad_sums, ShareAnswer, answers, refuses, sharing, answer_of}
use Rattle.share.specs.Limits.{AmountWithin, TotalWithin, SumsWithin, ShareLimits}
use Rattle.share.specs.declared.BadShare.{BadShare}
use Rattle.share.specs.declared.BadShare.TheVariants.{Amount, Total, Sums}

-- ---- the tests and the limits
module _ {before through W : ℤ} where
  pub sums_within : bad_sums before through W ≡ false → SumsWithin before through W
  sums_within e =
      let s = or_false (lt_z before (pos 0)) (lt_z through before || lt_z W through) e in
      let r = or_false (lt_z through before) (lt_z W through) s.1 in
      record { low = omega za; between = omega za; high = omega za }

  within_sums : SumsWithin before through W → bad_sums before through W ≡ false
  within_sums s = rw (not_below before (pos 0) s.low, not_below through before s.between, not_below W through s.high)

-- ---- the answers apart
no_part : {n k : ℕ} {x : ℤ} → refuses n k ≡ answers x → ⊥
no_part e = let z : ◌≡◌ {A = ℕ} 0 1 = cc in absurd (omega arith)

no_refusal : {n k : ℕ} {x : ℤ} → answers x ≡ refuses n k → ⊥
no_refusal e = no_part (sym e)

abbrev refused_at : ShareAnswer → ℕ
refused_at (answers x) = 0
refused_at (refuses n k) = k

abbrev part_of : ShareAnswer → ℤ
part_of (answers x) = x
part_of (refuses n k) = pos 0

module _ (P b t W : ℤ) where
  by : (x y z : Bool) → bad_amount P ≡ x → bad_total W ≡ y → bad_sums b t W ≡ z
      → ShareLimits P b t W (cond x (refuses 5 1) (cond y (refuses 5 2) (cond z (refuses 5 3) (answers (part P b t W)))))
  unfolding part
  by true y z p w s =
      let no : AmountWithin P → ⊥ = λ h. true≢false (sym p ∙ within_false _ _ P h) in
      record {
        part = λ x. (λ e. absurd (no_part e), λ h. absurd (no h.0));
        amount = (λ e. no, λ h. refl);
        total = (λ e. let z : ◌≡◌ {A = ℕ} 1 2 = ap refused_at e in absurd (omega arith), λ h. absurd (no h.0));
        sums = (λ e. let z : ◌≡◌ {A = ℕ} 1 3 = ap refused_at e in absurd (omega arith), λ h. absurd (no h.0));
      }
  by false true z p w s =
      let fine = outside_false _ _ P p in
      let no : TotalWithin W → ⊥ = λ h. true≢false (sym w ∙ within_false _ _ W h) in
      record {
        part = λ x. (λ e. absurd (no_part e), λ h. absurd (no h.1));
        amount = (λ e. let z : ◌≡◌ {A = ℕ} 2 1 = ap refused_at e in absurd (omega arith), λ h. absurd (h fine));
        total = (λ e. (fine, no), λ h. refl);
        sums = (λ e. let z : ◌≡◌ {A = ℕ} 2 3 = ap refused_at e in absurd (omega arith), λ h. absurd (no h.1));
      }
  by false false true p w s =
      let fine = outside_false _ _ P p in
      let some = outside_false _ _ W w in
      let no : SumsWithin b t W → ⊥ = λ h. true≢false (sym s ∙ within_sums h) in
      record {
        part = λ x. (λ e. absurd (no_part e), λ h. absurd (no h.2));
        amount = (λ e. let z : ◌≡◌ {A = ℕ} 3 1 = ap refused_at e in absurd (omega arith), λ h. absurd (h fine));
        total = (λ e. let z : ◌≡◌ {A = ℕ} 3 2 = ap refused_at e in absurd (omega arith), λ h. absurd (h.1 some));
        sums = (λ e. (fine, some, no), λ h. refl);
      }
  by false false false p w s =
      let fine = outside_false _ _ P p in
      let some = outside_false _ _ W w in
      let all = sums_within s in
      record {
        part = λ x. (λ e. (fine, some, all, sym (ap part_of e)), λ h. ap answers (sym h.3));
        amount = (λ e. absurd (no_refusal e), λ h. absurd (h fine));
        total = (λ e. absurd (no_refusal e), λ h. absurd (h.1 some));
        sums = (λ e. absurd (no_refusal e), λ h. absurd (h.2 all));
      }

  pub share_limits : ShareLimits P b t W (sharing P b t W)
  unfolding sharing
  share_limits = by (bad_amount P) (bad_total W) (bad_sums b t W) refl refl refl

-- ---- which case an answer stands for: so nothing of the code's answer is open
abbrev case_of : ShareAnswer → Result ℤ BadShare
case_of (answers x) = Ok x
case_of (refuses n k) = Err (cond (eqb k 1) Amount (cond (eqb k 2) Total Sums))

case_is : (r : Result ℤ BadShare) → case_of (answer_of r) ≡ r
case_is (Ok x) = refl
case_is (Err Amount) = refl
case_is (Err Total) = refl
case_is (Err Sums) = refl

pub one_answer : (r s : Result ℤ BadShare) → answer_of r ≡ answer_of s → r ≡ s
one_answer r s e = sym (case_is r) ∙ ap case_of e ∙ case_is s
