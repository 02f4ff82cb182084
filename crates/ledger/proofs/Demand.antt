-- DEMAND 3 (paper 01, "The tally of demand 3"), over the checked contracts of `open` and `close`. Whatever an accepted opening, and
-- whatever the list of closings after it, each handed the ledger and lent the held credits of the one before, in a slice of any length:
-- the whole list meets `Demand3`.
--
-- What is assumed of a call is what a caller learns from the contract that the program is proved to meet: `Reads.Learnt`, generated, of
-- `open`, and `Learnt`, made from the generated clauses, of `close`. No relation written in between: a contract that promises less is
-- refused here. What else is assumed:
--   * the opening was accepted (`accepted` of `Opened`);
--   * each closing gets the ledger that the call before it returned and is lent the credits that it left (`Chain`).
-- Nothing is assumed of the months, of the slices' lengths, of what lies beyond the credits, or of who calls. proofs/Some shows that
-- such lists exist, proofs/Machine that every list of runs of their routines on the machine is one.
use mathlib.Core.Path.{◌≡◌}
use mathlib.Core.List.{List, [], ◌∷◌, map}
use base.Logic.{ent, emp, id⊢}
use contract.Lifetimes.{Lfts}
use denote.Triple.Entry.{Args, Res}
use denote.Triple.Clauses.{Lasts, at_exit}
use borrow.Fn.World.{World}
use lib.IntN.{ℤ}
use lib.ListN.{take}
use Rattle.rules.specs.declared.Ledger.{Ledger}
use Rattle.rules.specs.Verdict.{accepted}
use Rattle.rules.specs.Lines.{lines_of}
use Rattle.rules.specs.Answers.{verdict_of}
use Rattle.rules.specs.Demand.{Call, AllPromised, Demand3, SliceLeft}
use Rattle.rules.specs.Demand as rules
use Rattle.rules.specs.NoDirect.{NoneDirect, AsBefore}
use Rattle.rules.proofs.Demand.{demand_3}
use Rattle.rules.proofs.OneSlice.{demand_3_same_slice}
use Rattle.rules.proofs.NoDirect.{as_before}
use Rattle.records.proofs.Learnt.{CallOf}
use Rattle.ledger.specs.contracts.open as open'
use Rattle.ledger.proofs.open.Reads as open_reads
use Rattle.ledger.specs.contracts.close as close
use Rattle.ledger.proofs.Learnt.{required, Learnt}

-- a call of close: lifetimes, arguments, result, the last value of each `&mut`, and what the contract tells of them
abbrev pub Called : Type 0
Called = CallOf close.ended Learnt

-- a call of open that was accepted
pub record Opened : Type 0 where
  pub κs : Lfts 1
  pub args : Args open'.signature κs
  pub result : Res open'.signature κs
  pub last : Lasts open'.ended κs args
  pub learnt : open_reads.Learnt κs args result (at_exit open'.ended κs args last)
  pub accepted : verdict_of result.answer ≡ accepted

-- neither has a `requires` that its caller would have to show first
pub asks_nothing :
    ((κs : Lfts 1) (a : Args open'.signature κs) → open_reads.Asked κs a)
    × ((κs : Lfts 4) (a : Args close.signature κs) (w : World) → ent w.𝓤 (emp w.𝓤) (required κs a w))
asks_nothing = (λ κs a. tt, λ κs a w. id⊢ w.𝓤 (emp w.𝓤))

-- open(users, agents, held): the held slice as it was handed in, and as it was left
abbrev pub held_at : Opened → List ℤ
held_at o = o.args.1.1.0.now

abbrev pub held_left : Opened → List ℤ
held_left o = o.last.1.1.0

-- the held credits in it, the first entry per user
abbrev pub credits_left : Opened → List ℤ
credits_left o = take o.args.0 (held_left o)

-- close(ledger, held, month, cells, work), its parts by name
abbrev pub plain : Called → Call
plain c =
    let a = c.args.1.1 in
    record {
      ledger = c.args.0;
      held = c.args.1.0.now;
      lines = lines_of a.0;
      cells = a.1.0.now;
      work = a.1.1.0.now;
      outcome = c.result;
      held_left = c.last.1.0;
      cells_left = c.last.1.1.1.0;
      work_left = c.last.1.1.1.1.0;
    }

-- the first closing gets the ledger and is lent the held credits of the opening, each later one those of the call before it
abbrev pub Chain : Ledger → List ℤ → List Called → Type 0
Chain g credits cs = rules.Chain g credits (map plain cs)

promised : (cs : List Called) → AllPromised (map plain cs)
unfolding AllPromised
promised [] = tt
promised (c ∷ cs) = (c.learnt, promised cs)

pub Demand_3 :
    (o : Opened) (cs : List Called)
    → Chain o.result.ledger (credits_left o) cs
    → Demand3 o.args.0 o.args.1.0 (held_at o) o.result.ledger (held_left o) (map plain cs)
Demand_3 o cs h =
    demand_3 o.args.0 o.args.1.0 (held_at o) o.result (held_left o) o.learnt o.accepted (map plain cs) h (promised cs)

-- of months without direct charges it says what it said before there were any (paper 02, Q-1)
pub Demand_3_as_before :
    (o : Opened) (cs : List Called)
    → Chain o.result.ledger (credits_left o) cs
    → NoneDirect (map plain cs)
    → AsBefore o.args.0 o.args.1.0 (map plain cs)
Demand_3_as_before o cs h z =
    as_before o.args.0 o.args.1.0 (held_at o) o.result.ledger (held_left o) (map plain cs) z (Demand_3 o cs h)

-- ---- the very same slice throughout
-- the first closing gets the ledger and the slice of the opening, each later one those of the call before it, tail and length included
abbrev pub SameSlice : Ledger → List ℤ → List Called → Type 0
SameSlice g held cs = rules.SameSlice g held (map plain cs)

-- then that slice holds the tally's credits in the end, and beyond the users what it held before the opening
pub Demand_3_same_slice :
    (o : Opened) (cs : List Called)
    → SameSlice o.result.ledger (held_left o) cs
    → Demand3 o.args.0 o.args.1.0 (held_at o) o.result.ledger (held_left o) (map plain cs)
    × SliceLeft o.args.0 o.args.1.0 (held_at o) o.result.ledger (held_left o) (map plain cs)
Demand_3_same_slice o cs h =
    demand_3_same_slice o.args.0 o.args.1.0 (held_at o) o.result (held_left o) o.learnt o.accepted (map plain cs) h (promised cs)
