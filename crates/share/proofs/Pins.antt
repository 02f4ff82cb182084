-- The contract of `part`, written out, and that the function's own routine meets it: no caller has to show anything first, and the answer
-- stands for what `sharing` gives. It holds by computation, so a changed contract in src/lib.rt is refused here. Assumes nothing: it is
-- shown at every model.
use seplogic.Ra.Ura.{Ura}
use base.Logic.{emp}
use prog.Model.{Model}
use types.Logic.{Logic}
use contract.Monad.{fact}
use contract.Running.{Running}
use prog.Wired.{Wired}
use denote.Triple.Spec.{Spec, Meets, exits}
use Rattle.std.proofs.Common.{◌≡◌}
use Rattle.share.specs.Answer.{sharing, answer_of}
use Rattle.share.specs.contracts.part as part
use Rattle.share.proofs.part.Symbol as part_code
use Rattle.share.proofs.part.Met as part_met

module _ {M : Type 1} {𝓤 : Ura M} (𝓛 : Logic 𝓤) (𝓜 : Model 𝓤 𝓛.H) (𝓡 : Running 𝓤 𝓛.H 𝓜) where
  -- part(p, before, through, w)
  abbrev pub part_promise : Spec 𝓤 part.signature
  part_promise κs a =
      record {
        ghost = Unit {0};
        requires = λ g. emp 𝓤;
        ensures = λ g r.
            exits 𝓛 part.signature (part.ended).kept κs a
            (λ e. fact 𝓤 (answer_of r ≡ sharing a.0 a.1.0 a.1.1.0 a.1.1.1.0));
      }

  pub part_meets : Wired 𝓡.env part_code.code → Meets 𝓛 part.signature (𝓡.run (𝓡.env part_code.name)) part_promise
  part_meets = part_met.met 𝓤 𝓛 𝓜 𝓡
