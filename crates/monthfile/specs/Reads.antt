-- What reading one file answers and writes (format's `reading`). Assumes nothing.
use Rattle.std.specs.Prelude.{ℕ, ◌≡◌, List, ◌++◌, map, length, drop, Result, Ok, Err}
use Rattle.format.specs.Blocks.{slices}
use Rattle.format.specs.Grammar.{File}
use Rattle.format.specs.Reading.{reading, ReadingAnswer, accepted, refused}
use Rattle.rules.specs.Verdict as Verdict
use Rattle.rules.specs.Answers.{verdict_of}
use Rattle.rules.specs.Lines.{agent_of, user_of, point_of}
use Rattle.rules.specs.declared.Agent.{Agent}
use Rattle.rules.specs.declared.MonthLine.{MonthLine}
use Rattle.rules.specs.declared.Point.{Point}
use Rattle.rules.specs.declared.User.{User}
use Rattle.rules.specs.declared.outcomes.Refusal.{Refusal}
use Rattle.monthfile.specs.declared.reader.Reader.{Reader}
use Rattle.monthfile.specs.declared.reading.Header.{Header}

-- WHAT READING ANSWERS: of a file its month line, its counts and the position after it; of a refusal paper 01's number and place
abbrev pub month_line : File → MonthLine
month_line f = record { month = f.month; ons = f.ons }

abbrev pub header : File → ℕ → Header
header f next =
    record {
      line = month_line f;
      agents = length f.agents;
      users = length f.users;
      points = length f.points;
      next = next;
    }

abbrev pub Answers : ReadingAnswer → Result Header Refusal → Type 0
Answers (accepted f next) r = r ≡ Ok (header f next)
Answers (refused number place) r = verdict_of r ≡ Verdict.refused number place

-- what stands in a slice afterwards: the file's lines, and beyond them what was there; all as it was after a refusal
abbrev pub over : {A : Type 0} → List A → List A → List A
over xs ys = xs ++ drop (length xs) ys

abbrev pub after : {A : Type 0} → (File → List A) → ReadingAnswer → List A → List A
after lines (accepted f next) xs = over (lines f) xs
after lines (refused number place) xs = xs

-- where the position goes: after an accepted file, else nowhere
abbrev pub next_of : Result Header Refusal → ℕ → ℕ
next_of (Ok h) from = h.next
next_of (Err e) from = from

-- a file's lines as they stand in their slices
abbrev pub as_agents : File → List Agent
as_agents f = map agent_of f.agents

abbrev pub as_users : File → List User
as_users f = map user_of f.users

abbrev pub as_points : File → List Point
as_points f = map point_of f.points

-- what an answer comes with: what is told, and the slices afterwards
pub record Gives
    (x : ReadingAnswer)
    (agents : List Agent) (users : List User) (points : List Point)
    (agents' : List Agent) (users' : List User) (points' : List Point)
    (r : Result Header Refusal) : Type 0 where
  pub answer : Answers x r
  pub agents_are : agents' ≡ after as_agents x agents
  pub users_are : users' ≡ after as_users x users
  pub points_are : points' ≡ after as_points x points

-- READING: the answer and the slices afterwards, by format's reading of the text at the position, with the slices' lengths as room
abbrev pub Reads :
    List ℕ → ℕ
    → List Agent → List User → List Point
    → List Agent → List User → List Point
    → Result Header Refusal → Type 0
Reads t from agents users points agents' users' points' r =
    Gives (reading (slices (length agents) (length users) (length points)) t from) agents users points agents' users' points' r

-- the same by a reader, from its text and position: the text stays, and the position moves past an accepted file alone
pub record ReadsOn (old new : Reader)
    (agents : List Agent) (users : List User) (points : List Point)
    (agents' : List Agent) (users' : List User) (points' : List Point)
    (r : Result Header Refusal) : Type 0 where
  pub reads : Reads old.text.now old.at agents users points agents' users' points' r
  pub text : new.text ≡ old.text
  pub position : new.at ≡ next_of r old.at
