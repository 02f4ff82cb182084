-- An accepted file is within its room, and the reader behind it.
use Rattle.std.proofs.Common.{◌≡◌, Err, rules, refl}
use Rattle.runs.proofs.Buffered.{advances, next_month, next_refused}
use Rattle.runs.proofs.months.Lines.read.Goals as goal

pub returns : goal.returns
returns c =
    let h = c.in_ok-file.ensures in
    let r = next_month _ _ h.text _ _ _ _ _ _ (search rules) (search rules) (search rules) _ h.reads h.position _ refl in
    record { reads = r; advances = advances _ _ h.text _ r }

pub returns-in_err-file : goal.returns-in_err-file
returns-in_err-file c =
    let h = c.in_err-file.ensures in
    let r = next_refused _ _ h.text _ _ _ _ _ _ (search rules) (search rules) (search rules) _ h.reads h.position in
    let same : c.from_residual.result ≡ Err c.in_err-file.field-0.0 = search rules in
    record { reads = rw same r; advances = rw same tt }
