-- DEMAND 1 of the statement (paper 01, "Why a month comes back"), over what a caller learns from the checked contract of
-- `state`: a contract that promises less is refused here. Nothing is assumed of the month, of the slices or of who calls.
use base.Logic.{ent, emp, id⊢}
use contract.Lifetimes.{Lfts}
use denote.Triple.Entry.{Args}
use borrow.Fn.World.{World}
use Rattle.rules.specs.Lines.{lines_of}
use Rattle.records.proofs.Learnt.{CallOf}
use Rattle.statement.specs.Demand1.{StateCall, Demand1Stating}
use Rattle.statement.proofs.Promised.{demand_1}
use Rattle.statement.proofs.Learnt.{required, Learnt}
use Rattle.statement.specs.contracts.state as state

-- a call: lifetimes, arguments, result, the last value of each `&mut`, and what the contract tells of them
abbrev pub Called : Type 0
Called = CallOf state.ended Learnt

-- it has no `requires` that its caller would have to show first
pub asks_nothing : (κs : Lfts (state.signature).lifetimes) (a : Args state.signature κs) (w : World) → ent w.𝓤 (emp w.𝓤) (required κs a w)
asks_nothing κs a w = id⊢ w.𝓤 (emp w.𝓤)

-- state(ledger, held, month, point_rows, user_rows, payee_rows), its parts by name
abbrev pub plain : Called → StateCall
plain c =
    let a = c.args.1.1 in
    let left = c.last.1.1.1 in
    record {
      ledger = c.args.0;
      held = c.args.1.0.now;
      lines = lines_of a.0;
      points = a.1.0.now;
      users = a.1.1.0.now;
      payees = a.1.1.1.0.now;
      answer = c.result;
      points_left = left.0;
      users_left = left.1.0;
      payees_left = left.1.1.0;
    }

pub Demand_1_stating : (c : Called) → Demand1Stating (plain c)
Demand_1_stating c = demand_1 (plain c) c.learnt
