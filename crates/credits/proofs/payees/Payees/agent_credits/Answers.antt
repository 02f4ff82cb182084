-- Each call's answer as a definition of the month, in the order of the calls.
use Rattle.std.proofs.Common.{◌≡◌, List, [], ◌∷◌, length, get_or, ℤ, pos, ◌+ℤ◌, ◌-ℤ◌, refl, ap, ◌∙◌, arith, to_z-of_z}
use Rattle.std.proofs.lemmas.List.{length-map}
use Rattle.ints.specs.Bounds.{word_abs}
use Rattle.ints.specs.Adding.{Addable, sums, sum_at}
use Rattle.ints.specs.Bridge.{za, add#}
use Rattle.ints.specs.Sums.{sum_ℤ, Small}
use Rattle.ints.specs.Words.{back}
use Rattle.share.proofs.Laws.{length_share}
use Rattle.share.specs.Running.{running_share}
use Rattle.rules.specs.declared.MonthLine.{MonthLine}
use Rattle.rules.specs.declared.Agent.{Agent}
use Rattle.rules.specs.Credits.{own_credits_from, SMSEFrom, pbs, VMANTsFrom, agent_VCs_from}
use Rattle.rules.specs.Lists.{side_by_side}
use Rattle.rules.specs.Most.{most_balance}
use Rattle.rules.proofs.BoundsAgent.{amount}
use Rattle.credits.specs.Payable.{Payable}
use Rattle.credits.proofs.Amounts.{own_small, own_summable, own_total, pb_summable, pb_total, balance, fillable, parts_within, owed}
use Rattle.credits.proofs.payees.Payees.agent_credits.Goals as goal

module _ {debits last : ℤ} {line : MonthLine} {agents : List Agent} (p : Payable debits last line agents) where
  -- the debits fit, what the agents receive of their own, and ons
  balance_is :
      {own b : ℤ}
      → own ≡ sum_ℤ (own_credits_from last line agents)
      → b ≡ back debits -ℤ back own -ℤ back line.ons
      → b ≡ SMSEFrom debits last line agents
  unfolding SMSEFrom
  balance_is e h = rw (to_z-of_z (owed p).fits, e, to_z-of_z (own_total p.lines last line p.months).fits, to_z-of_z (amount p.fee).fits) at h

  parts_are :
      {b : ℤ} {pb parts : List ℤ}
      → b ≡ SMSEFrom debits last line agents
      → pb ≡ pbs agents
      → parts ≡ running_share (back b) pb
      → parts ≡ VMANTsFrom debits last line agents
  unfolding VMANTsFrom
  parts_are e w h = rw (e, to_z-of_z (balance p).fits, w) at h

  -- as many parts as agents
  long : length (VMANTsFrom debits last line agents) ≡ length (own_credits_from last line agents)
  unfolding VMANTsFrom own_credits_from
  long = length_share (SMSEFrom debits last line agents) (pbs agents) ∙ simp length-map

-- each agent's own credit and its part of the balance
sums_are : (own parts : List ℤ) → sums (λ (x : ℤ). x) own parts ≡ side_by_side ◌+ℤ◌ own parts
unfolding side_by_side
sums_are [] parts = refl
sums_are (x ∷ own) [] = refl
sums_are (x ∷ own) (y ∷ parts) = ap (λ (xs : List ℤ). (x +ℤ y) ∷ xs) (sums_are own parts)

addable : {own parts : List ℤ} → length parts ≡ length own → Small 400000000000 own → Small most_balance parts → Addable (λ (x : ℤ). x) own parts
addable {own} {parts} e s t = record {
  as_many = e;
  fits = λ i h.
      rw (sum_at (λ (x : ℤ). x) own parts e i (pos 0) h)
      (omega (za, s.small i h, t.small i (omega (arith, e)), add# (get_or own i (pos 0)) (get_or parts i (pos 0))));
}

pub total-requires : goal.total-requires
total-requires c =
    let p = c.args.self.now.payable in
    rw c.own_credits.ensures (own_summable p.lines _ _ p.months)

pub smse-balance-requires : goal.smse-balance-requires
smse-balance-requires c =
    let p = c.args.self.now.payable in
    let t = c.total.ensures ∙ ap sum_ℤ c.own_credits.ensures in
    let w = own_total p.lines c.args.self.now.last c.args.self.now.line p.months in
    rw (to_z-of_z (owed p).fits, t, to_z-of_z w.fits, to_z-of_z (amount p.fee).fits) (p.owed, word_abs w, p.fee)

pub fill-requires : goal.fill-requires
fill-requires c =
    let p = c.args.self.now.payable in
    let b = balance_is p (c.total.ensures ∙ ap sum_ℤ c.own_credits.ensures) c.smse-balance.ensures in
    rw (b, to_z-of_z (balance p).fits, c.pb_total.ensures, to_z-of_z (pb_total p.lines).fits, c.pbs.ensures) (fillable p c.requires.1)

pub add_each-requires : goal.add_each-requires
add_each-requires c =
    let p = c.args.self.now.payable in
    let b = balance_is p (c.total.ensures ∙ ap sum_ℤ c.own_credits.ensures) c.smse-balance.ensures in
    rw (parts_are p b c.pbs.ensures c.fill.ensures, c.own_credits.ensures) (addable (long p) (own_small p.lines _ _ p.months) (parts_within p))

pub returns : goal.returns
unfolding agent_VCs_from
returns c =
    let p = c.args.self.now.payable in
    let b = balance_is p (c.total.ensures ∙ ap sum_ℤ c.own_credits.ensures) c.smse-balance.ensures in
    let parts = parts_are p b c.pbs.ensures c.fill.ensures in
    record {
      SMSE = rw b (to_z-of_z (balance p).fits);
      weights = c.pbs.ensures;
      VMANTs = parts;
      VCs = (rw (parts, c.own_credits.ensures) at c.add_each.ensures) ∙ sums_are _ _;
    }

pub pb_total-requires : goal.pb_total-requires
pb_total-requires c = pb_summable c.args.self.now.payable.lines
