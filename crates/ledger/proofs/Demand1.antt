-- DEMAND 1 (paper 01, "Why a month comes back" and "The ledger"), over the checked contracts of `open` and `close`. Of
-- every call, accepted or not: exactly the limits of rules/specs/Limits decide its answer; a refused call leaves the ledger and each slice
-- as they were, entry for entry; an accepted one leaves every entry beyond its work as it was.
--
-- What is assumed of a call is what a caller learns from the contract that the program is proved to meet, as for demand 3
-- (proofs/Demand). Nothing else is.
use Rattle.rules.specs.Demand1.{Demand1Opening, Demand1Closing}
use Rattle.rules.proofs.Demand1.{demand_1_opening, demand_1_closing}
use Rattle.records.proofs.Learnt.{CallOf}
use Rattle.ledger.specs.contracts.open as open'
use Rattle.ledger.proofs.open.Reads as open_reads
use Rattle.ledger.proofs.Demand.{Called, plain}

-- ---- opening
-- a call of open: lifetimes, arguments, result, the last value of the `&mut`, and what the contract tells of them
abbrev pub Opening : Type 0
Opening = CallOf open'.ended open_reads.Learnt

-- open(users, agents, held)
pub Demand_1_opening : (o : Opening) → Demand1Opening o.args.0 o.args.1.0 o.args.1.1.0.now o.result o.last.1.1.0
Demand_1_opening o = demand_1_opening o.args.0 o.args.1.0 o.args.1.1.0.now o.result o.last.1.1.0 o.learnt

-- ---- closing
pub Demand_1_closing : (c : Called) → Demand1Closing (plain c)
Demand_1_closing c = demand_1_closing (plain c) c.learnt
