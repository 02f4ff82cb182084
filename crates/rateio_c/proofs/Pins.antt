-- The contracts of `rateio_share` and `rateio_check`, written out, and that the functions' own routines meet them: no caller has to show
-- anything first, and the number is what the definitions give. Each holds by computation, so a changed contract in src/lib.rt is refused
-- here. Assumes nothing: it is shown at every model.
use seplogic.Ra.Ura.{Ura}
use base.Logic.{emp}
use prog.Model.{Model}
use types.Logic.{Logic}
use contract.Monad.{fact}
use contract.Running.{Running}
use prog.Wired.{Wired}
use denote.Triple.Spec.{Spec, Meets, exits}
use mathlib.Core.Path.{◌≡◌}
use Rattle.share.specs.Answer.{sharing, seen_by_c}
use Rattle.format.specs.Machine.{check_of}
use Rattle.rateio_c.specs.contracts.rateio_share as share
use Rattle.rateio_c.proofs.rateio_share.Symbol as share_code
use Rattle.rateio_c.proofs.rateio_share.Met as share_met
use Rattle.rateio_c.specs.contracts.rateio_check as check
use Rattle.rateio_c.proofs.rateio_check.Symbol as check_code
use Rattle.rateio_c.proofs.rateio_check.Met as check_met

module _ {M : Type 1} {𝓤 : Ura M} (𝓛 : Logic 𝓤) (𝓜 : Model 𝓤 𝓛.H) (𝓡 : Running 𝓤 𝓛.H 𝓜) where
  -- rateio_share(p, before, through, w)
  abbrev pub share_promise : Spec 𝓤 share.signature
  share_promise κs a =
      record {
        ghost = Unit {0};
        requires = λ g. emp 𝓤;
        ensures = λ g r.
            exits 𝓛 share.signature (share.ended).kept κs a
            (λ e. fact 𝓤 (r ≡ seen_by_c (sharing a.0 a.1.0 a.1.1.0 a.1.1.1.0)));
      }

  pub share_meets : Wired 𝓡.env share_code.code → Meets 𝓛 share.signature (𝓡.run (𝓡.env share_code.name)) share_promise
  share_meets = share_met.met 𝓤 𝓛 𝓜 𝓡

  -- rateio_check(text)
  abbrev pub check_promise : Spec 𝓤 check.signature
  check_promise κs a =
      record {
        ghost = Unit {0};
        requires = λ g. emp 𝓤;
        ensures = λ g r. exits 𝓛 check.signature (check.ended).kept κs a (λ e. fact 𝓤 (r ≡ check_of a.0.now));
      }

  pub check_meets : Wired 𝓡.env check_code.code → Meets 𝓛 check.signature (𝓡.run (𝓡.env check_code.name)) check_promise
  check_meets = check_met.met 𝓤 𝓛 𝓜 𝓡
