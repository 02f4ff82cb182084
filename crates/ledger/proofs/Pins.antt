-- The contracts of `open` and `close`, written out, and that the functions' own routines meet them: no caller has to show
-- anything first, and what a caller gets goes by the verdict on the arguments, the answer and the slices' last values. Each holds by
-- computation, so a changed contract in src/lib.rt is refused here. Assumes nothing: it is shown at every model.
use seplogic.Ra.Ura.{Ura}
use base.Logic.{emp}
use prog.Model.{Model}
use types.Logic.{Logic}
use contract.Monad.{fact}
use contract.Running.{Running}
use prog.Wired.{Wired}
use lib.ListN.{length}
use denote.Triple.Spec.{Spec, Meets, exits}
use Rattle.rules.specs.Lines.{Lines}
use Rattle.rules.specs.Verdict.{ByVerdict}
use Rattle.rules.specs.Refusals.{short_slices, refusal, opening_refusal}
use Rattle.rules.specs.Calls.{state_of, lengths_of, Opened, NotOpened, Closed, NotClosed}
use Rattle.ledger.specs.contracts.open as open'
use Rattle.ledger.proofs.open.Symbol as open_code
use Rattle.ledger.proofs.open.Met as open_met
use Rattle.ledger.specs.contracts.close as close
use Rattle.ledger.proofs.close.Symbol as close_code
use Rattle.ledger.proofs.close.Met as close_met

module _ {M : Type 1} {𝓤 : Ura M} (𝓛 : Logic 𝓤) (𝓜 : Model 𝓤 𝓛.H) (𝓡 : Running 𝓤 𝓛.H 𝓜) where
  -- open(users, agents, held)
  abbrev pub open_promise : Spec 𝓤 open'.signature
  open_promise κs a =
      record {
        ghost = Unit {0};
        requires = λ g. emp 𝓤;
        ensures = λ g r.
            exits 𝓛 open'.signature (open'.ended).kept κs a
            (λ e.
            let held = a.1.1.0.now in
            let held' = e.1.1.0.now in
            fact 𝓤 (ByVerdict (opening_refusal a.0 a.1.0 (length held)) (Opened a.0 a.1.0 held r held') (NotOpened held r held')));
      }

  pub open_meets : Wired 𝓡.env open_code.code → Meets 𝓛 open'.signature (𝓡.run (𝓡.env open_code.name)) open_promise
  open_meets = open_met.met 𝓤 𝓛 𝓜 𝓡

  -- close(ledger, held, month, cells, work)
  abbrev pub close_promise : Spec 𝓤 close.signature
  close_promise κs a =
      let held = a.1.0.now in
      let m = a.1.1.0 in
      let l : Lines = record { line = m.line; agents = m.agents.now; users = m.users.now; points = m.points.now } in
      let cells = a.1.1.1.0.now in
      let work = a.1.1.1.1.0.now in
      record {
        ghost = Unit {0};
        requires = λ g. emp 𝓤;
        ensures = λ g r.
            exits 𝓛 close.signature (close.ended).kept κs a
            (λ e.
            let held' = e.1.0.now in
            let cells' = e.1.1.1.0.now in
            let work' = e.1.1.1.1.0.now in
            fact 𝓤
            (ByVerdict (refusal (state_of a.0 held) (short_slices (state_of a.0 held) (lengths_of held cells work)) l)
            (Closed a.0 held l cells work r held' cells' work')
            (NotClosed a.0 held cells work r held' cells' work')));
      }

  pub close_meets : Wired 𝓡.env close_code.code → Meets 𝓛 close.signature (𝓡.run (𝓡.env close_code.name)) close_promise
  close_meets = close_met.met 𝓤 𝓛 𝓜 𝓡
