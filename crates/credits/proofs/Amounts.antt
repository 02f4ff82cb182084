-- Bounds of the numbers on the way to the credits, from no more than what the credits ask.
use Prim.Native.Nat.{ℕ, ◌≤◌}
use native.Mathlib.Omega.{arith}
use native.Mathlib.Nat.{le_trans}
use mathlib.Core.Path.{◌≡◌, refl, sym, ◌∙◌}
use mathlib.Core.List.{List, map}
use lib.Dec.{T, leb}
use lib.IntN.{ℤ}
use lib.ListN.{length, length-map}
use Rattle.ints.specs.Bridge.{za}
use Rattle.ints.specs.Bounds.{Word, word, word_abs, word_wide, word_sub, Words, words_nonneg, word_total, word_sum}
use Rattle.ints.specs.Sums.{sum_ℤ, Small}
use Rattle.ints.specs.Adding.{Summable}
use Rattle.share.specs.Filling.{Fillable}
use Rattle.share.proofs.Laws.{parts_small}
use Rattle.rules.specs.Most.{most_amount, most_balance, most_debits, most_own, most_parcels}
use Rattle.rules.specs.declared.Agent.{Agent}
use Rattle.rules.specs.declared.MonthLine.{MonthLine}
use Rattle.rules.specs.Ranges.{MonthAfter}
use Rattle.rules.specs.Charges.{pvs}
use Rattle.rules.specs.Credits.{own_credit, own_credits_from, SMSEFrom, pbs, VMANTsFrom}
use Rattle.rules.proofs.Cycle.{twelfths}
use Rattle.rules.proofs.BoundsAgent.{agent_bounds, amount}
use Rattle.rules.proofs.BoundsSums.{column}
use Rattle.credits.specs.Columns.{AgentLines}
use Rattle.credits.specs.Payable.{Payable}

small_of : {L H : ℕ} (K : ℕ) {xs : List ℤ} → Words L H xs → T (leb L K) → T (leb H K) → Small K xs
small_of K w l h = record { small = λ i k. word_abs (word_wide K K (w.at i k) l h) }

module _ {agents : List Agent} (l : AgentLines agents) where
  few : (f : Agent → ℤ) → length (map f agents) ≤ 256
  few f = rw length-map l.few

  pb_words : Words 0 most_amount (pbs agents)
  pb_words = column (λ (a : Agent). a.pb) agents (λ i h. amount (l.line i h).pb)

  summable : {L H : ℕ} (f : Agent → ℤ) → Words L H (map f agents) → T (leb L 400000000000) → T (leb H 400000000000) → Summable (map f agents)
  summable f w l h = let n = few f in record { largest = 400000000000; small = small_of 400000000000 w l h; room = omega arith }

  pub pb_summable : Summable (pbs agents)
  pb_summable = summable _ pb_words tt tt

  pub pb_total : Word 0 most_parcels (sum_ℤ (pbs agents))
  pb_total = word_sum most_amount 256 _ pb_words (few _) tt

  pub pv_summable : Summable (pvs agents)
  pv_summable = summable _ (column (λ (a : Agent). a.pv) agents (λ i h. amount (l.line i h).pv)) tt tt

  module _ (last : ℤ) (line : MonthLine) (m : MonthAfter last line.month) where
    own_words : Words 400000000000 400000000000 (own_credits_from last line agents)
    unfolding own_credits_from own_credit
    own_words = column _ agents (λ i h. (agent_bounds (twelfths m) (l.line i h)).own)

    pub own_small : Small 400000000000 (own_credits_from last line agents)
    own_small = small_of 400000000000 own_words tt tt

    pub own_summable : Summable (own_credits_from last line agents)
    unfolding own_credits_from
    own_summable = summable _ own_words tt tt

    pub own_total : Word most_own most_own (sum_ℤ (own_credits_from last line agents))
    unfolding own_credits_from
    own_total = word_total 400000000000 256 _ own_words (few _) tt

module _ {debits last : ℤ} {line : MonthLine} {agents : List Agent} (p : Payable debits last line agents) where
  pub owed : Word 0 most_debits debits
  owed = let w = p.owed in word (omega za) (omega za) tt

  pub balance : Word 102500000000000 most_balance (SMSEFrom debits last line agents)
  unfolding SMSEFrom
  balance = word_sub (word_sub owed (own_total p.lines last line p.months) tt) (amount p.fee) tt

  pub fillable : {parts : List ℤ} → length parts ≡ length agents → Fillable (SMSEFrom debits last line agents) (sum_ℤ (pbs agents)) (pbs agents) parts
  fillable e = record {
    amount = le_trans (word_abs (word_wide most_balance most_balance balance tt tt)) (omega arith);
    weights = words_nonneg (pb_words p.lines);
    sum = refl;
    some = let h = p.weighed in omega za;
    most = let h = pb_total p.lines in omega za;
    long = e ∙ sym (rw length-map refl);
  }

  pub parts_within : Small most_balance (VMANTsFrom debits last line agents)
  unfolding VMANTsFrom
  parts_within =
      let s = parts_small (SMSEFrom debits last line agents) _ (words_nonneg (pb_words p.lines)) p.weighed in
      record { small = λ i h. le_trans (s.small i h) (word_abs (word_wide most_balance most_balance balance tt tt)) }
