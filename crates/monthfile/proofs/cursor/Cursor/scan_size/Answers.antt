-- Assumes nothing.
use Rattle.monthfile.proofs.Joining.{leads}
use Rattle.monthfile.proofs.ValueSteps.{lead_on, no_lead}
use Rattle.monthfile.proofs.cursor.Cursor.scan_size.Goals as goal

pub returns-then-not-lead_here : goal.returns-then-not-lead_here
returns-then-not-lead_here c k = record { found = λ f. no_lead k _ f _ (cc) }

pub returns : goal.returns
returns c k = leads c.digits.ensures.passed (λ f. lead_on k _ f _ (cc))
