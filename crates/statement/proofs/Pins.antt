-- The contract of `state`, written out, and that the function's own routine meets it: no caller has to show anything first, and what a
-- caller gets goes by the verdict on the arguments, the answer and the slices' last values. It holds by computation, so a changed contract
-- in src/lib.rt is refused here. Assumes nothing: it is shown at every model.
use seplogic.Ra.Ura.{Ura}
use base.Logic.{emp}
use prog.Model.{Model}
use types.Logic.{Logic}
use contract.Monad.{fact}
use contract.Running.{Running}
use prog.Wired.{Wired}
use denote.Triple.Spec.{Spec, Meets, exits}
use Rattle.rules.specs.Lines.{Lines}
use Rattle.rules.specs.Verdict.{ByVerdict}
use Rattle.statement.specs.Statement.{stating_refusal, StatedMonth, NotStated}
use Rattle.statement.specs.contracts.state as state
use Rattle.statement.proofs.state.Symbol as state_code
use Rattle.statement.proofs.state.Met as state_met

module _ {M : Type 1} {𝓤 : Ura M} (𝓛 : Logic 𝓤) (𝓜 : Model 𝓤 𝓛.H) (𝓡 : Running 𝓤 𝓛.H 𝓜) where
  -- state(ledger, held, month, point_rows, user_rows, payee_rows)
  abbrev pub state_promise : Spec 𝓤 state.signature
  state_promise κs a =
      let held = a.1.0.now in
      let m = a.1.1.0 in
      let l : Lines = record { line = m.line; agents = m.agents.now; users = m.users.now; points = m.points.now } in
      let rows = a.1.1.1 in
      let points = rows.0.now in
      let users = rows.1.0.now in
      let payees = rows.1.1.0.now in
      record {
        ghost = Unit {0};
        requires = λ g. emp 𝓤;
        ensures = λ g r.
            exits 𝓛 state.signature (state.ended).kept κs a
            (λ e.
            let left = e.1.1.1 in
            let points' = left.0.now in
            let users' = left.1.0.now in
            let payees' = left.1.1.0.now in
            fact 𝓤
            (ByVerdict (stating_refusal a.0 held points users payees l)
            (StatedMonth a.0 held l points users payees r points' users' payees')
            (NotStated points users payees r points' users' payees')));
      }

  pub state_meets : Wired 𝓡.env state_code.code → Meets 𝓛 state.signature (𝓡.run (𝓡.env state_code.name)) state_promise
  state_meets = state_met.met 𝓤 𝓛 𝓜 𝓡
