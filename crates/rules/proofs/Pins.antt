-- The contracts of `Refusal::number` and `Refusal::place`, written out, and that the functions' own routines meet them: no caller has to
-- show anything first, and number and place are paper 01's. Each holds by computation, so a changed contract in src/outcomes.rt is refused
-- here. Assumes nothing: it is shown at every model.
use seplogic.Ra.Ura.{Ura}
use base.Logic.{emp}
use prog.Model.{Model}
use types.Logic.{Logic}
use contract.Monad.{fact}
use contract.Running.{Running}
use prog.Wired.{Wired}
use denote.Triple.Spec.{Spec, Meets, exits}
use mathlib.Core.Path.{◌≡◌}
use Rattle.rules.specs.Answers.{number_of, place_of}
use Rattle.rules.specs.contracts.outcomes.Refusal.number as number
use Rattle.rules.proofs.outcomes.Refusal.number.Symbol as number_code
use Rattle.rules.proofs.outcomes.Refusal.number.Met as number_met
use Rattle.rules.specs.contracts.outcomes.Refusal.place as place
use Rattle.rules.proofs.outcomes.Refusal.place.Symbol as place_code
use Rattle.rules.proofs.outcomes.Refusal.place.Met as place_met

module _ {M : Type 1} {𝓤 : Ura M} (𝓛 : Logic 𝓤) (𝓜 : Model 𝓤 𝓛.H) (𝓡 : Running 𝓤 𝓛.H 𝓜) where
  -- number(self)
  abbrev pub number_promise : Spec 𝓤 number.signature
  number_promise κs a =
      record {
        ghost = Unit {0};
        requires = λ g. emp 𝓤;
        ensures = λ g r. exits 𝓛 number.signature (number.ended).kept κs a (λ e. fact 𝓤 (r ≡ number_of a.0));
      }

  pub number_meets : Wired 𝓡.env number_code.code → Meets 𝓛 number.signature (𝓡.run (𝓡.env number_code.name)) number_promise
  number_meets = number_met.met 𝓤 𝓛 𝓜 𝓡

  -- place(self)
  abbrev pub place_promise : Spec 𝓤 place.signature
  place_promise κs a =
      record {
        ghost = Unit {0};
        requires = λ g. emp 𝓤;
        ensures = λ g r. exits 𝓛 place.signature (place.ended).kept κs a (λ e. fact 𝓤 (r ≡ place_of a.0));
      }

  pub place_meets : Wired 𝓡.env place_code.code → Meets 𝓛 place.signature (𝓡.run (𝓡.env place_code.name)) place_promise
  place_meets = place_met.met 𝓤 𝓛 𝓜 𝓡
