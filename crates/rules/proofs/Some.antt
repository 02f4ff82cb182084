-- Demand 3 is not empty: whatever lines, cells and work slices a caller picks, and however it lends the held credits, there are calls with
-- these that keep their promises and follow each other. Assumes that an accepted month has a table (`Tables`), which paper 01 states and
-- the cells' search proves.
use Prim.Native.Nat.{ℕ, zero, suc, ◌*◌}
use mathlib.Core.Path.{◌≡◌, refl, sym, ap, ap₂, ◌∙◌, subst}
use mathlib.Core.List.{List, [], ◌∷◌, ◌++◌}
use native.Mathlib.Omega.{arith}
use lib.IntN.{ℤ, pos}
use Rattle.std.specs.Prelude.{Ok}
use lib.ListN.{length, take, drop, replicate, length-append, length-take}
use lib.Seq.{length-take-le, take_all, take-append_seam}
use Rattle.rules.specs.declared.Ledger.{Ledger}
use Rattle.rules.specs.declared.outcomes.Outcome.{Outcome}
use Rattle.rules.specs.Verdict.{Verdict, accepted, refused}
use Rattle.rules.specs.Lines.{Lines}
use Rattle.rules.specs.Charges.{VDs}
use Rattle.rules.specs.Credits.{VCs}
use Rattle.rules.specs.Table.{Table}
use Rattle.rules.specs.State.{State}
use Rattle.rules.specs.Refusals.{cells_needed, short_slices, refusal, opening_refusal}
use Rattle.rules.specs.Answers.{verdict_of}
use Rattle.rules.specs.Calls.{Opens, state_of, lengths_of, closing_refusal, Closes}
use Rattle.rules.specs.Demand.{Call, Promised, Lent, left_in, Chain, AllPromised}
use Rattle.rules.proofs.Passed.{Passed, slices, slices_accepted, passed}
use Rattle.rules.proofs.Sizes.{length_VDs, length_VCs}
use Rattle.rules.proofs.Direct.{month_table}
use Rattle.rules.proofs.Answers.{told_by}
use Rattle.rules.proofs.Told.{told_closing}
use Rattle.rules.proofs.Promise.{opens_accepted, closes_refused, closes_accepted}

-- a table always exists: of every month that nothing refuses
abbrev pub Tables : Type 0
Tables =
    (s : State) (l : Lines)
    → length s.credits ≡ s.users
    → (short : Verdict)
    → refusal s short l ≡ accepted
    → (cells : List ℤ) × Table (VCs s l) (VDs s l) cells

-- how a caller lends the held credits: all of them, in a slice that goes on beyond them with anything; or the first n alone
pub data Lending : Type 0 where
  whole : List ℤ → Lending
  short : ℕ → Lending

abbrev pub slice : List ℤ → Lending → List ℤ
slice credits (whole beyond) = credits ++ beyond
slice credits (short n) = take n credits

pub lent_so : (credits : List ℤ) (d : Lending) → Lent credits (slice credits d)
lent_so credits (whole beyond) =
    take_all (length (credits ++ beyond)) credits (omega (arith, length-append credits beyond)) ∙ sym (take-append_seam credits beyond)
lent_so credits (short n) =
    take_of_take n credits ∙ sym (take_all (length credits) (take n credits) (omega (arith, length-take n credits)))
  where
    take_of_take : (n : ℕ) (xs : List ℤ) → take (length (take n xs)) xs ≡ take n xs
    take_of_take zero xs = refl
    take_of_take (suc n) [] = refl
    take_of_take (suc n) (x ∷ xs) = ap (λ (r : List ℤ). x ∷ r) (take_of_take n xs)

-- what a caller picks for a closing, besides the ledger and the held credits that it has
pub record Input : Type 0 where
  pub lines : Lines
  pub lent : Lending
  pub cells : List ℤ
  pub work : List ℕ

-- what a closing is handed besides the ledger: a call was, and a caller with these credits hands for an input
pub record Handed : Type 0 where
  pub held : List ℤ
  pub lines : Lines
  pub cells : List ℤ
  pub work : List ℕ

abbrev pub handed : Call → Handed
handed c = record { held = c.held; lines = c.lines; cells = c.cells; work = c.work }

abbrev pub handing : List ℤ → Input → Handed
handing credits i = record { held = slice credits i.lent; lines = i.lines; cells = i.cells; work = i.work }

-- a promised closing of this input
pub record One (g : Ledger) (credits : List ℤ) (i : Input) : Type 0 where
  pub call : Call
  pub ledger : call.ledger ≡ g
  pub same : handed call ≡ handing credits i
  pub promised : Promised call

one_of :
    (g : Ledger) (credits : List ℤ) (i : Input) (r : Outcome) (held' cells' : List ℤ) (work' : List ℕ)
    → Closes g (slice credits i.lent) i.lines i.cells i.work r held' cells' work'
    → One g credits i
one_of g credits i r held' cells' work' c =
    record {
      call =
          record {
            ledger = g;
            held = slice credits i.lent;
            lines = i.lines;
            cells = i.cells;
            work = i.work;
            outcome = r;
            held_left = held';
            cells_left = cells';
            work_left = work';
          };
      ledger = refl;
      same = refl;
      promised = c;
    }

pub one : Tables → (g : Ledger) (credits : List ℤ) (i : Input) → One g credits i
one tables g credits i = go (closing_refusal g (slice credits i.lent) i.cells i.work i.lines) refl
  where
    go : (v : Verdict) → closing_refusal g (slice credits i.lent) i.cells i.work i.lines ≡ v → One g credits i
    go (refused n p) e =
        let held = slice credits i.lent in
        let t = told_by (told_closing g held i.cells i.work i.lines) e in
        one_of g credits i _ held i.cells i.work (closes_refused g held i.lines i.cells i.work t.0 t.1)
    go accepted e =
        let held = slice credits i.lent in
        let n = lengths_of held i.cells i.work in
        let s = state_of g held in
        let short = short_slices s n in
        let q : Passed s i.lines = passed s short i.lines e in
        let w : length (take g.users held) ≡ g.users = length-take-le g.users held (slices s n (slices_accepted s short i.lines e)).held in
        let t = tables s i.lines w short e in
        let rows : length (VCs s i.lines) ≡ suc g.agents = length_VCs s i.lines ∙ ap suc q.agents in
        let columns : length (VDs s i.lines) ≡ g.users = length_VDs s i.lines (w ∙ sym q.users) ∙ q.users in
        let needed : length (VCs s i.lines) * length (VDs s i.lines) ≡ cells_needed g.users g.agents = ap₂ ◌*◌ rows columns ∙ omega arith in
        let m = month_table s i.lines q.users t.0 (t.1.size ∙ needed) t.1 in
        one_of g credits i _ _ _ i.work (closes_accepted g held i.lines i.cells i.work _ i.work e m (m.size ∙ needed) refl)

-- these closings are of these inputs, each lent the credits that the one before left
unfoldable pub Of : List ℤ → List Call → List Input → Type 0
Of credits [] [] = Unit {0}
Of credits [] (i ∷ is) = ⊥
Of credits (c ∷ cs) [] = ⊥
Of credits (c ∷ cs) (i ∷ is) = (handed c ≡ handing credits i) × Of (left_in credits c.held_left) cs is

-- promised closings of these inputs that follow each other
pub record Run (g : Ledger) (credits : List ℤ) (inputs : List Input) : Type 0 where
  pub calls : List Call
  pub same : Of credits calls inputs
  pub chain : Chain g credits calls
  pub promised : AllPromised calls

pub run : Tables → (g : Ledger) (credits : List ℤ) (inputs : List Input) → Run g credits inputs
unfolding Chain AllPromised Of
run tables g credits [] = record { calls = []; same = tt; chain = tt; promised = tt }
run tables g credits (i ∷ is) =
    let o = one tables g credits i in
    let r = run tables o.call.outcome.ledger (left_in credits o.call.held_left) is in
    record {
      calls = o.call ∷ r.calls;
      same = (o.same, r.same);
      chain = (o.ledger, subst (Lent credits) (sym (ap (λ (h : Handed). h.held) o.same)) (lent_so credits i.lent), r.chain);
      promised = (o.promised, r.promised);
    }

-- all that demand 3 asks, for counts that opening takes and any inputs after it
pub record Some (users agents : ℕ) (held : List ℤ) (inputs : List Input) : Type 0 where
  pub outcome : Outcome
  pub held_left : List ℤ
  pub opens : Opens users agents held outcome held_left
  pub answer : verdict_of outcome.answer ≡ accepted
  pub run : Run outcome.ledger (take users held_left) inputs

pub some :
    Tables
    → (users agents : ℕ) (held : List ℤ) (inputs : List Input)
    → opening_refusal users agents (length held) ≡ accepted
    → Some users agents held inputs
some tables users agents held inputs e =
    record {
      outcome = record { answer = Ok tt; ledger = record { users = users; agents = agents; month = pos 0 } };
      held_left = replicate users (pos 0) ++ drop users held;
      opens = opens_accepted users agents held e;
      answer = refl;
      run = run tables _ _ inputs;
    }
