-- What reading the next file of the input comes to, and the ledger for it. Assumes nothing.
use Rattle.std.specs.Prelude.{ℕ, zero, suc, ◌≤◌, ◌<◌, ◌≡◌, Result, Ok, Err, IsOk, IsErr, IsOkAnd, length}
use Rattle.format.specs.Grammar.{File}
use Rattle.format.specs.Reading.{ReadingAnswer, accepted, refused}
use Rattle.rules.specs.Verdict as Verdict
use Rattle.rules.specs.Answers.{verdict_of}
use Rattle.rules.specs.Lines.{Lines, lines_of}
use Rattle.rules.specs.Calls.{Opens}
use Rattle.rules.specs.declared.outcomes.Refusal.{Refusal}
use Rattle.monthfile.specs.Reads.{month_line, as_agents, as_users, as_points}
use Rattle.monthfile.specs.declared.reader.Reader.{Reader}
use Rattle.runs.specs.declared.books.Books.{Books}
use Rattle.runs.specs.declared.months.Month.{Month}
use Rattle.runs.specs.declared.report.Stop.{Stop}
use Rattle.runs.specs.declared.report.Stop.TheVariants.{Refused, Failed}

-- the lines of a file
abbrev pub lines_in : File → Lines
lines_in f = record { line = month_line f; agents = as_agents f; users = as_users f; points = as_points f }

-- the reader has gone on in its text
pub record Advances (before after : Reader) : Type 0 where
  pub text : after.text ≡ before.text
  pub further : before.at < after.at
  pub within : after.at ≤ length after.text.now

-- the month of the file at the reader, which goes on behind it; or paper 01's number and place, and the reader stays
abbrev pub ReadsNext : ReadingAnswer → Result Month Refusal → Reader → Reader → Type 0
ReadsNext (accepted f next) r before after =
    IsOkAnd r (λ m. lines_of m.lines ≡ lines_in f) × (after.text ≡ before.text) × (after.at ≡ next)
ReadsNext (refused n p) r before after =
    (verdict_of r ≡ Verdict.refused n p) × (after.text ≡ before.text) × (after.at ≡ before.at)

-- the ledger for a file that begins at this place: the first opens it, with its counts; a later one finds it open, and nothing changes
abbrev pub OpensBooks : ℕ → ℕ → ℕ → Books → Result (Unit {0}) Refusal → Books → Type 0
OpensBooks zero users agents books r books' =
    Opens users agents books.held (record { answer = r; ledger = books'.ledger }) books'.held
OpensBooks (suc at) users agents books r books' = (r ≡ Ok tt) × (books' ≡ books)

-- what the ledger's answer comes to: the month of the file, or the same refusal
abbrev pub BegunOn : File → Result (Unit {0}) Refusal → Result Month Refusal → Type 0
BegunOn f (Ok _) r = IsOkAnd r (λ m. lines_of m.lines ≡ lines_in f)
BegunOn f (Err e) r = r ≡ Err e

-- the next file read, and the ledger for it; nothing is opened for one that is refused, which comes back with paper 01's number and place
abbrev pub Begins : ReadingAnswer → Result Month Refusal → Reader → Reader → Books → Books → Type 0
Begins (accepted f next) r before after books books' =
    (opened : Result (Unit {0}) Refusal)
    × (OpensBooks before.at (length (as_users f)) (length (as_agents f)) books opened books'
    × (BegunOn f opened r × ((after.text ≡ before.text) × (after.at ≡ next))))
Begins (refused n p) r before after books books' =
    (verdict_of r ≡ Verdict.refused n p) × ((books' ≡ books) × ((after.text ≡ before.text) × (after.at ≡ before.at)))

-- where a run goes on after a month: a refusal is printed, a failure ends it
abbrev pub GoesOn : {E : Type 0} → Result (Unit {0}) Stop → Result (Unit {0}) E → Type 0
GoesOn (Ok _) r = IsOk r
GoesOn (Err (Failed error)) r = IsErr r
GoesOn (Err (Refused refusal)) r = Unit {0}
