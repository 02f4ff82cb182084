-- Demand 3 is not empty: for counts that opening takes and whatever months a caller picks after it, however it lends the held credits,
-- there are an opening and closings with these that keep their contracts and follow each other, as proofs/Demand asks. Rests on the
-- cells' theorem that a table always exists. Assumes nothing.
use Prim.Native.Nat.{ℕ}
use mathlib.Core.Path.{◌≡◌, refl, subst}
use mathlib.Core.List.{List, [], ◌∷◌, ◌++◌}
use lib.IntN.{ℤ, pos}
use lib.ListN.{length, drop, replicate}
use contract.Lifetimes.{Lfts}
use denote.Ref.{Bor, MutBor}
use Rattle.ints.specs.Bridge.{za}
use Rattle.rules.specs.declared.Ledger.{Ledger}
use Rattle.rules.specs.declared.Agent.{Agent}
use Rattle.rules.specs.declared.MonthLine.{MonthLine}
use Rattle.rules.specs.declared.User.{User}
use Rattle.std.specs.Prelude.{Ok, Err}
use Rattle.rules.specs.declared.outcomes.Lent.TheVariants.{Held}
use Rattle.rules.specs.declared.outcomes.Refusal.TheVariants.{ShortSlice}
use Rattle.rules.specs.declared.outcomes.Outcome.{Outcome}
use Rattle.rules.specs.declared.Point.{Point}
use Rattle.rules.specs.Verdict.{accepted}
use Rattle.rules.specs.Lines.{agent_of, user_of}
use Rattle.rules.specs.Charges.{VDs}
use Rattle.rules.specs.Credits.{VCs}
use Rattle.rules.specs.Refusals.{bad_counts, short_slices, count_tests, refusal, opening_refusal}
use Rattle.rules.specs.Calls.{Closes}
use Rattle.rules.specs.Demand.{left_in, Chain as RulesChain}
use Rattle.rules.proofs.Passed.{passed}
use Rattle.rules.proofs.Bounds.{bounds}
use Rattle.rules.proofs.MonthTotals.{balanced}
use Rattle.rules.proofs.Promise.{opens_accepted, closes_refused}
use Rattle.rules.proofs.Some.{Tables, Lending, short, slice, lent_so, Input, Handed, One, one}
use Rattle.cells.specs.Exists.{a_table_exists}
use Rattle.ledger.proofs.Demand.{Called, Opened, held_at, credits_left, plain, Chain}

-- an accepted month's debits are not negative, and they total its credits and more than 0
tables : Tables
tables s l w v e =
    let p = passed s v l e in
    let b = balanced s l w p in
    let t =
    a_table_exists (VCs s l) (VDs s l) (record { above = (bounds s l w p).charges.VDs_nonneg.at }) (omega (za, b.some_debit)) b.credits_are_debits in
    (t.cells, t.holds)

-- what a caller picks for a closing, besides the ledger and the held credits that it has
pub record Month : Type 0 where
  pub line : MonthLine
  pub agents : List Agent
  pub users : List User
  pub points : List Point
  pub lent : Lending
  pub cells : List ℤ
  pub work : List ℕ

-- a call's month, with the credits lent so
abbrev pub picked : Lending → Called → Month
picked d c =
    let a = c.args.1.1 in
    let m = a.0 in
    record {
      line = m.line;
      agents = m.agents.now;
      users = m.users.now;
      points = m.points.now;
      lent = d;
      cells = a.1.0.now;
      work = a.1.1.0.now;
    }

abbrev input : Month → Input
input m = record { lines = record { line = m.line; agents = m.agents; users = m.users; points = m.points }; lent = m.lent; cells = m.cells; work = m.work }

-- these calls are of these months, each lent the credits that the one before left
unfoldable pub Of : List ℤ → List Called → List Month → Type 0
Of credits [] [] = Unit {0}
Of credits [] (m ∷ ms) = ⊥
Of credits (c ∷ cs) [] = ⊥
Of credits (c ∷ cs) (m ∷ ms) =
    (c.args.1.0.now ≡ slice credits m.lent) × (picked m.lent c ≡ m) × Of (left_in credits (plain c).held_left) cs ms

-- a reference to these values, wherever it points: a `&`, and a `&mut`, which has a ghost name too
abbrev lent : {X : Type 0} → X → Bor X
lent x = record { ref_ptr = (0, 0); now = x }

abbrev lent_mut : {X : Type 0} → X → MutBor X
lent_mut x = record { ref_ptr = (0, 0); ghost_name = 0; now = x }

module _ (κs : Lfts 4) where
  abbrev called :
      (g : Ledger) (held : List ℤ) (m : Month) (r : Outcome) (held' cells' : List ℤ) (work' : List ℕ)
      → Closes g held (input m).lines m.cells m.work r held' cells' work'
      → Called
  called g held m r held' cells' work' p =
      record {
        κs = κs;
        args = (
          g,
          (
            lent_mut held,
            (
              record { line = m.line; agents = lent m.agents; users = lent m.users; points = lent m.points },
              (lent_mut m.cells, (lent_mut m.work, tt)),
            ),
          ),
        );
        result = r;
        last = (tt, (held', (tt, (cells', (work', tt)))));
        learnt = p;
      }

  -- closings of these months that follow each other
  pub record Closings (g : Ledger) (credits : List ℤ) (months : List Month) : Type 0 where
    pub calls : List Called
    pub same : Of credits calls months
    pub chain : Chain g credits calls

  promised :
      (g : Ledger) (credits : List ℤ) (i : Input) (o : One g credits i)
      → Closes g (slice credits i.lent) i.lines i.cells i.work o.call.outcome o.call.held_left o.call.cells_left o.call.work_left
  promised g credits i o =
      let r = o.call.outcome in
      let held' = o.call.held_left in
      let cells' = o.call.cells_left in
      let work' = o.call.work_left in
      subst (λ (x : Handed). Closes g x.held x.lines x.cells x.work r held' cells' work') o.same
      (subst (λ (x : Ledger). Closes x o.call.held o.call.lines o.call.cells o.call.work r held' cells' work') o.ledger o.promised)

  pub closings : (g : Ledger) (credits : List ℤ) (months : List Month) → Closings g credits months
  unfolding RulesChain Of
  closings g credits [] = record { calls = []; same = tt; chain = tt }
  closings g credits (m ∷ ms) =
      let o = one tables g credits (input m) in
      let k = o.call in
      let rest = closings k.outcome.ledger (left_in credits k.held_left) ms in
      record {
        calls =
            called g (slice credits m.lent) m k.outcome k.held_left k.cells_left k.work_left (promised g credits (input m) o) ∷ rest.calls;
        same = (refl, refl, rest.same);
        chain = (refl, lent_so credits m.lent, rest.chain);
      }

-- an accepted opening with these counts and this held slice, and closings of these months after it
pub record Some (users agents : ℕ) (held : List ℤ) (months : List Month) : Type 0 where
  pub opened : Opened
  pub users_same : opened.args.0 ≡ users
  pub agents_same : opened.args.1.0 ≡ agents
  pub held_same : held_at opened ≡ held
  pub lifetimes : Lfts 4
  pub closings : Closings lifetimes opened.result.ledger (credits_left opened) months

pub some :
    (κ : Lfts 1) (κs : Lfts 4) (users agents : ℕ) (held : List ℤ) (months : List Month)
    → opening_refusal users agents (length held) ≡ accepted
    → Some users agents held months
some κ κs users agents held months e =
    record {
      opened =
          record {
            κs = κ;
            args = (users, (agents, (lent_mut held, tt)));
            result = record { answer = Ok tt; ledger = record { users = users; agents = agents; month = pos 0 } };
            last = (tt, (tt, (replicate users (pos 0) ++ drop users held, tt)));
            learnt = opens_accepted users agents held e;
            accepted = refl;
          };
      users_same = refl;
      agents_same = refl;
      held_same = refl;
      lifetimes = κs;
      closings = closings κs _ _ months;
    }

-- ---- a slice too short
-- one agent and one user without points, the credits lent in a slice of no entry
abbrev short_month : Month
short_month =
    record {
      line = record { month = pos 202407; ons = pos 0 };
      agents = agent_of [] ∷ [];
      users = user_of [] ∷ [];
      points = [];
      lent = short 0;
      cells = [];
      work = [];
    }

-- it is refused with 2 and the place 1, and whatever months come after it go on from the same credits
pub record ShortFirst (months : List Month) : Type 0 where
  pub opened : Opened
  pub first : Called
  pub month : picked (short 0) first ≡ short_month
  pub lent : first.args.1.0.now ≡ []
  pub answer : first.result.answer ≡ Err (ShortSlice Held)
  pub later : List Called
  pub same : Of (credits_left opened) later months
  pub chain : Chain opened.result.ledger (credits_left opened) (first ∷ later)

pub short_first : (κ : Lfts 1) (κs : Lfts 4) (months : List Month) → ShortFirst months
unfolding RulesChain refusal count_tests bad_counts short_slices opening_refusal some
short_first κ κs months =
    let s = some κ κs 1 1 (pos 0 ∷ []) months refl in
    let g : Ledger = record { users = 1; agents = 1; month = pos 0 } in
    let later = closings κs g (pos 0 ∷ []) months in
    record {
      opened = s.opened;
      first =
          called κs g [] short_month (record { answer = Err (ShortSlice Held); ledger = g }) [] [] []
          (closes_refused g [] (input short_month).lines [] [] (ShortSlice Held) refl);
      month = refl;
      lent = refl;
      answer = refl;
      later = later.calls;
      same = later.same;
      chain = (refl, refl, later.chain);
    }
