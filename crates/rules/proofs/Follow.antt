-- A list of closings beside the tally, from any state on which they agree, by induction over the list.
use Prim.Native.Nat.{ℕ, suc, ◌<◌}
use mathlib.Core.Path.{◌≡◌, refl, sym, ap, ap₂, ◌∙◌, subst}
use mathlib.Core.List.{List, [], ◌∷◌, map}
use lib.IntN.{ℤ, pos, ◌+ℤ◌}
use lib.ListN.{drop, get_or}
use Rattle.ints.specs.Bridge.{za, add#}
use Rattle.ints.specs.Sums.{Σ<}
use Rattle.rules.specs.declared.Ledger.{Ledger}
use Rattle.rules.specs.Verdict.{Verdict}
use Rattle.rules.specs.Table.{cell_at}
use Rattle.rules.specs.State.{State}
use Rattle.rules.specs.Answers.{verdict_of}
use Rattle.rules.specs.Tally.{judged, next, after, verdicts, counted, added, charges_less_compensation, payee_credit}
use Rattle.rules.specs.Demand.{Call, Chain, AllPromised, left_in, fed, last_ledger, last_credits, AllBeyond, billed, billed_to_user, billed_by_payee, AllNear}
use Rattle.rules.proofs.Lending.{kept}
use Rattle.rules.proofs.Steps.{Agree, Step, step}

-- what is carried through the list: demand 3 from the state s on, with the credits of s before and those after the list
pub record Follows (users agents : ℕ) (s : State) (g : Ledger) (credits : List ℤ) (cs : List Call) : Type 0 where
  pub answers : map (λ (c : Call). verdict_of c.outcome.answer) cs ≡ verdicts s (map fed cs)
  pub last : Agree users agents (after s (map fed cs)) (last_ledger g cs) (last_credits credits cs)
  pub beyond : AllBeyond users cs
  pub user :
      (j : ℕ)
      → j < users
      → billed_to_user users agents j cs +ℤ get_or s.credits j (pos 0)
      ≡ added (charges_less_compensation j) s (map fed cs) +ℤ get_or (after s (map fed cs)).credits j (pos 0)
  pub payee : (i : ℕ) → i < suc agents → billed_by_payee users i cs ≡ added (payee_credit i) s (map fed cs)
  pub near : AllNear s cs

-- one month's balance, then that of the months after it
joined :
    (x y b a before between behind : ℤ)
    → x +ℤ before ≡ y +ℤ between
    → b +ℤ between ≡ a +ℤ behind
    → x +ℤ b +ℤ before ≡ y +ℤ a +ℤ behind
joined x y b a before between behind e f =
    omega (
      za,
      add# x before,
      add# y between,
      add# b between,
      add# a behind,
      add# x b,
      add# (x +ℤ b) before,
      add# y a,
      add# (y +ℤ a) behind,
    )

pub follows :
    (users agents : ℕ) (s : State) (g : Ledger) (credits : List ℤ) (cs : List Call)
    → Agree users agents s g credits
    → Chain g credits cs
    → AllPromised cs
    → Follows users agents s g credits cs
unfolding Chain AllPromised last_ledger last_credits AllBeyond billed AllNear after verdicts added
follows users agents s g credits [] a h p = record { answers = refl; last = a; beyond = tt; user = λ j l. refl; payee = λ i l. refl; near = tt }
follows users agents s g credits (c ∷ cs) a h p =
    let b : Agree users agents s c.ledger credits = subst (λ (x : Ledger). Agree users agents s x credits) (sym h.0) a in
    let t : Step (judged s (fed c)) users agents s c credits = step users agents s c credits b h.1 p.0 in
    let r : Follows users agents (next s (fed c)) c.outcome.ledger (left_in credits c.held_left) cs =
    follows users agents (next s (fed c)) c.outcome.ledger (left_in credits c.held_left) cs t.agree h.2 p.1 in
    let k = kept c p.0 in
    let n : c.ledger.users ≡ users = ap (λ (x : State). x.users) b.state ∙ b.tally_users in
    record {
      answers = ap₂ (λ (v : Verdict) (vs : List Verdict). v ∷ vs) t.answer r.answers;
      last = r.last;
      beyond = (subst (λ (m : ℕ). drop m c.held_left ≡ drop m c.held) n k.0, k.1, r.beyond);
      user = λ j l.
          ap
          (λ (v : Verdict).
          counted v (Σ< (suc agents) (λ i. cell_at users c.cells_left i j)) +ℤ billed_to_user users agents j cs +ℤ get_or s.credits j (pos 0))
          t.answer
          ∙ joined (counted (judged s (fed c)) (Σ< (suc agents) (λ i. cell_at users c.cells_left i j)))
          (counted (judged s (fed c)) (charges_less_compensation j s c.lines))
          (billed_to_user users agents j cs)
          (added (charges_less_compensation j) (next s (fed c)) (map fed cs))
          (get_or s.credits j (pos 0))
          (get_or (next s (fed c)).credits j (pos 0))
          (get_or (after (next s (fed c)) (map fed cs)).credits j (pos 0))
          (t.user j l)
          (r.user j l);
      payee = λ i l.
          ap (λ (v : Verdict). counted v (Σ< users (λ j. cell_at users c.cells_left i j)) +ℤ billed_by_payee users i cs) t.answer
          ∙ ap₂ ◌+ℤ◌ (t.payee i l) (r.payee i l);
      near = (t.near, r.near);
    }
