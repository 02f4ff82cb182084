-- THE LAW OF THE SAVED FILE (paper 02, Q-3) of two calls: one reads a text, the other the same text with CRs added before LFs. Both answer
-- and write the same, but that every position and place has moved with the text (format's `Saved`, `moved`). Assumes nothing.
use Rattle.std.specs.Prelude.{◌≡◌, List, ℕ, Result, Ok, Err}
use Rattle.format.specs.Saved.{Saved, moved}
use Rattle.rules.specs.declared.outcomes.Refusal.{Refusal}
use Rattle.rules.specs.declared.outcomes.Refusal.TheVariants.{NotAFile, TooManyLines}
use Rattle.monthfile.specs.Demand1.{ReadCall}
use Rattle.monthfile.specs.declared.reading.Header.{Header}

-- a refusal whose place is a byte moves; reading has no other
abbrev pub moved_refusal : {t u : List ℕ} → Saved t u → Refusal → Refusal
moved_refusal s (NotAFile byte) = NotAFile (moved s byte)
moved_refusal s (TooManyLines byte) = TooManyLines (moved s byte)
moved_refusal s e = e

-- the same month line and counts, the next position moved; or the same refusal, its byte moved
abbrev pub moved_reading : {t u : List ℕ} → Saved t u → Result Header Refusal → Result Header Refusal
moved_reading s (Ok h) = Ok (record { line = h.line; agents = h.agents; users = h.users; points = h.points; next = moved s h.next })
moved_reading s (Err e) = Err (moved_refusal s e)

-- d reads c's text, saved, from where c's position has gone, into slices lent alike
pub record SavedCall (c d : ReadCall) : Type 0 where
  pub saved : Saved c.text d.text
  pub from : d.from ≡ moved saved c.from
  pub agents : d.agents ≡ c.agents
  pub users : d.users ≡ c.users
  pub points : d.points ≡ c.points

-- d answers and leaves what c does
pub record SameOfSaved (c d : ReadCall) (s : Saved c.text d.text) : Type 0 where
  pub answer : d.answer ≡ moved_reading s c.answer
  pub agents : d.agents_left ≡ c.agents_left
  pub users : d.users_left ≡ c.users_left
  pub points : d.points_left ≡ c.points_left
