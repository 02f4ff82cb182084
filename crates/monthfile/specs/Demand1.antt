-- DEMAND 1 of one reading, in paper 01's words: exactly what stands at the position decides the answer; a refused reading changes nothing;
-- an accepted one answers and writes that file and leaves every entry beyond it as it was (paper 01, "Why a month comes back", 11 and 12,
-- and "The month file"). Neither the machine nor `reading` stands here. Assumes nothing.
use Rattle.std.specs.Prelude.{ℕ, ◌+◌, min, ◌≡◌, ◌↔◌, ◌⊎◌, List, map, length, take, drop, Result, Ok}
use Rattle.format.specs.Blocks.{Slices, slices}
use Rattle.format.specs.Language.{Stands, size}
use Rattle.format.specs.Reading.{Back}
use Rattle.rules.specs.Verdict.{refused}
use Rattle.rules.specs.Answers.{verdict_of}
use Rattle.rules.specs.Lines.{agent_of, user_of, point_of}
use Rattle.rules.specs.declared.Agent.{Agent}
use Rattle.rules.specs.declared.Point.{Point}
use Rattle.rules.specs.declared.User.{User}
use Rattle.rules.specs.declared.outcomes.Refusal.{Refusal}
use Rattle.monthfile.specs.declared.reading.Header.{Header}

-- one call of reading: text, position and the three slices lent to it; its answer, and the slices as it left them
pub record ReadCall : Type 0 where
  pub text : List ℕ
  pub from : ℕ
  pub agents : List Agent
  pub users : List User
  pub points : List Point
  pub answer : Result Header Refusal
  pub agents_left : List Agent
  pub users_left : List User
  pub points_left : List Point

-- it comes back with this number and place
abbrev pub ComesBack : ReadCall → ℕ → ℕ → Type 0
ComesBack c number place = verdict_of c.answer ≡ refused number place

module _ (c : ReadCall) where
  -- how many lines its slices take, and the text from its position on
  abbrev pub room : Slices
  room = slices (length c.agents) (length c.users) (length c.points)

  abbrev pub here : List ℕ
  here = drop c.from c.text

  -- every slice entry for entry as it was
  pub record Unchanged : Type 0 where
    pub agents : c.agents_left ≡ c.agents
    pub users : c.users_left ≡ c.users
    pub points : c.points_left ≡ c.points

-- a slice with these entries in front, every one beyond them as it was, and its length
pub record Front {A : Type 0} (entries before after : List A) : Type 0 where
  pub front : take (length entries) after ≡ entries
  pub beyond : drop (length entries) after ≡ drop (length entries) before
  pub same_length : length after ≡ length before

-- the file that stands at the position was read: the answer has its values, its counts and the first byte after it; its lines stand in the
-- slices
pub record Written (c : ReadCall) (s : Stands (room c) (here c)) : Type 0 where
  pub answer :
      c.answer
      ≡ Ok
      (record {
        line = record { month = s.file.month; ons = s.file.ons };
        agents = length s.file.agents;
        users = length s.file.users;
        points = length s.file.points;
        next = min c.from (length c.text) + size s;
      })
  pub agents : Front (map agent_of s.file.agents) c.agents c.agents_left
  pub users : Front (map user_of s.file.users) c.users c.users_left
  pub points : Front (map point_of s.file.points) c.points c.points_left

pub record Demand1Reading (c : ReadCall) : Type 0 where
  -- accepted exactly if a file that the slices take stands at the position
  pub accepted : ((h : Header) × (c.answer ≡ Ok h)) ↔ Stands (room c) (here c)
  -- refused with a number and a place exactly if paper 01 says so
  pub refused : (number place : ℕ) → ComesBack c number place ↔ Back (room c) c.text c.from number place
  pub eleven_or_twelve : (number place : ℕ) → ComesBack c number place → (number ≡ 11) ⊎ (number ≡ 12)
  pub unchanged : (number place : ℕ) → ComesBack c number place → Unchanged c
  pub written : (s : Stands (room c) (here c)) → Written c s

-- DEMAND 1 of the reader, which keeps text and position: the text stays; the position goes to the first byte after the file that stands
-- there, and stays after a refusal
pub record Demand1Reader (c : ReadCall) (text' : List ℕ) (position : ℕ) : Type 0 where
  pub reading : Demand1Reading c
  pub text : text' ≡ c.text
  pub moves : (s : Stands (room c) (here c)) → position ≡ min c.from (length c.text) + size s
  pub stays : (number place : ℕ) → ComesBack c number place → position ≡ c.from

-- two readings lent the same
pub record SameLent (c d : ReadCall) : Type 0 where
  pub text : c.text ≡ d.text
  pub from : c.from ≡ d.from
  pub agents : c.agents ≡ d.agents
  pub users : c.users ≡ d.users
  pub points : c.points ≡ d.points

-- that answer and leave the same
pub record SameLeft (c d : ReadCall) : Type 0 where
  pub answer : c.answer ≡ d.answer
  pub agents : c.agents_left ≡ d.agents_left
  pub users : c.users_left ≡ d.users_left
  pub points : c.points_left ≡ d.points_left

-- the reader's call c does what the call d on its text and position does: the same answer and slices; its text stays, and its position is
-- an accepted answer's next, or what it was after a refused one
pub record Joined (c d : ReadCall) (text' : List ℕ) (position : ℕ) : Type 0 where
  pub same : SameLeft c d
  pub text : text' ≡ c.text
  pub moves : (h : Header) → d.answer ≡ Ok h → position ≡ h.next
  pub stays : (number place : ℕ) → ComesBack d number place → position ≡ c.from
