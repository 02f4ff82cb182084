-- The contracts of the three calls of the month file, written out, and that the functions' own routines meet them: no caller has to show
-- anything first, and what a caller gets goes by format's `reading` and `check_of` alone, part by part. A contract in src/ that says less
-- is refused here, and so is a definition of specs/Reads or specs/Checked that does. Assumes nothing: it is shown at every model.
use mathlib.Core.Path.{◌≡◌, ap, ◌∙◌}
use Prim.Native.Nat.{ℕ}
use mathlib.Core.List.{List, ◌++◌, map}
use seplogic.Ra.Ura.{Ura}
use base.Logic.{emp}
use prog.Model.{Model}
use types.Logic.{Logic}
use contract.Fact.{fact_mono}
use contract.Lifetimes.{Lfts}
use contract.Monad.{fact}
use contract.Running.{Running}
use prog.Wired.{Wired}
use sound.Laws.{fm→mono}
use denote.Triple.Clauses.{AtExit}
use denote.Triple.Entry.{Args, Res}
use denote.Triple.Spec.{Spec, Meets, exits}
use denote.Triple.Table.{run_framed}
use denote.Triple.Weaken.{weaken}
use lib.ListN.{length, drop}
use lib.IntN.{pos, negsuc}
use Rattle.std.specs.Prelude.{Result, Ok, Err}
use Rattle.format.specs.Blocks.{slices}
use Rattle.format.specs.Machine.{check_of}
use Rattle.format.specs.Reading.{reading, ReadingAnswer, accepted, refused}
use Rattle.rules.specs.Answers.{verdict_of, number_of, place_of}
use Rattle.rules.specs.Lines.{agent_of, user_of, point_of}
use Rattle.rules.specs.Verdict as Verdict
use Rattle.rules.specs.declared.Agent.{Agent}
use Rattle.rules.specs.declared.Point.{Point}
use Rattle.rules.specs.declared.User.{User}
use Rattle.rules.specs.declared.outcomes.Refusal.{Refusal}
use Rattle.monthfile.specs.Checked.{seen}
use Rattle.monthfile.specs.Reads.{next_of, Gives}
use Rattle.monthfile.specs.declared.check.NotFiles.{NotFiles}
use Rattle.monthfile.specs.declared.check.NotFiles.TheVariants.{At, TooLong}
use Rattle.monthfile.specs.declared.reading.Header.{Header}
use Rattle.monthfile.proofs.Promised.{stays}
use Rattle.monthfile.specs.contracts.reader.Reader.read as read
use Rattle.monthfile.proofs.reader.Reader.read.Symbol as read_code
use Rattle.monthfile.proofs.reader.Reader.read.Met as read_met
use Rattle.monthfile.specs.contracts.points.read_at as read_at
use Rattle.monthfile.proofs.points.read_at.Symbol as read_at_code
use Rattle.monthfile.proofs.points.read_at.Met as read_at_met
use Rattle.monthfile.specs.contracts.check.file_check as file_check
use Rattle.monthfile.proofs.check.file_check.Symbol as file_check_code
use Rattle.monthfile.proofs.check.file_check.Met as file_check_met

-- that a call comes back with this number and place
abbrev pub ComesBack : Result Header Refusal → ℕ → ℕ → Type 0
ComesBack (Ok h) number place = ⊥
ComesBack (Err e) number place = (number_of e ≡ number) × (place_of e ≡ place)

-- what reading's answer comes with, part by part: what is told, and the slices of agents, users and points afterwards
abbrev pub Comes : ReadingAnswer
    → List Agent → List User → List Point
    → List Agent → List User → List Point
    → Result Header Refusal → Type 0
Comes (accepted f next) agents users points agents' users' points' r =
    (r ≡ Ok
    (record {
      line = record { month = f.month; ons = f.ons };
      agents = length f.agents;
      users = length f.users;
      points = length f.points;
      next = next;
    }))
    × (agents' ≡ map agent_of f.agents ++ drop (length (map agent_of f.agents)) agents)
    × (users' ≡ map user_of f.users ++ drop (length (map user_of f.users)) users)
    × (points' ≡ map point_of f.points ++ drop (length (map point_of f.points)) points)
Comes (refused number place) agents users points agents' users' points' r =
    ComesBack r number place × (agents' ≡ agents) × (users' ≡ users) × (points' ≡ points)

-- where the position goes
abbrev pub position : ReadingAnswer → ℕ → ℕ
position (accepted f next) at = next
position (refused number place) at = at

came_back : (r : Result Header Refusal) (n p : ℕ) → verdict_of r ≡ Verdict.refused n p → ComesBack r n p
came_back (Ok h) n p e = absurd (cc)
came_back (Err x) n p e = let h : number_of x ≡ n = cc in let k : place_of x ≡ p = cc in (h, k)

module _ (agents : List Agent) (users : List User) (points : List Point) (agents' : List Agent) (users' : List User) (points' : List Point)
    (r : Result Header Refusal) where
  comes : (x : ReadingAnswer) → Gives x agents users points agents' users' points' r → Comes x agents users points agents' users' points' r
  comes (accepted f next) g = (g.answer, g.agents_are, g.users_are, g.points_are)
  comes (refused number place) g = (came_back r number place g.answer, g.agents_are, g.users_are, g.points_are)

  moved : (x : ReadingAnswer) → Gives x agents users points agents' users' points' r → (at at' : ℕ) → at' ≡ next_of r at → at' ≡ position x at
  moved (accepted f next) g at at' n = n ∙ ap (λ (o : Result Header Refusal). next_of o at) g.answer
  moved (refused number place) g at at' n = n ∙ stays r at number place g.answer

-- the file check's answer: files on end, the byte of the 11, or too long a text, as the number is −1, a place or −2
abbrev pub Answered : List ℕ → Result Unit NotFiles → Type 0
Answered t (Ok u) = negsuc 0 ≡ check_of t
Answered t (Err (At p)) = pos p ≡ check_of t
Answered t (Err TooLong) = negsuc 1 ≡ check_of t

answered : (t : List ℕ) (r : Result Unit NotFiles) → seen r ≡ check_of t → Answered t r
answered t (Ok u) e = e
answered t (Err (At p)) e = e
answered t (Err TooLong) e = e

-- what each call tells of its arguments, its answer and the slices' last values
-- file_check(text)
abbrev pub file_check_tells : (κs : Lfts (file_check.signature).lifetimes) → Args file_check.signature κs → Res file_check.signature κs → Type 0
file_check_tells κs a r = Answered a.0.now r

-- read_at(text, from, agents, users, points)
abbrev pub read_at_tells : (κs : Lfts (read_at.signature).lifetimes)
    → Args read_at.signature κs → Res read_at.signature κs → AtExit read_at.ended κs → Type 0
read_at_tells κs a r e =
    let agents = a.1.1.0.now in
    let users = a.1.1.1.0.now in
    let points = a.1.1.1.1.0.now in
    Comes (reading (slices (length agents) (length users) (length points)) a.0.now a.1.0)
    agents users points e.1.1.0.now e.1.1.1.0.now e.1.1.1.1.0.now r

-- reader.read(agents, users, points): the same from the reader's text and position; the text stays, and the position moves past an
-- accepted file alone
abbrev pub read_tells : (κs : Lfts (read.signature).lifetimes) → Args read.signature κs → Res read.signature κs → AtExit read.ended κs → Type 0
read_tells κs a r e =
    let reader = a.0.now in
    let agents = a.1.0.now in
    let users = a.1.1.0.now in
    let points = a.1.1.1.0.now in
    let x = reading (slices (length agents) (length users) (length points)) reader.text.now reader.at in
    Comes x agents users points e.1.0.now e.1.1.0.now e.1.1.1.0.now r
    × (e.0.now.text ≡ reader.text)
    × (e.0.now.at ≡ position x reader.at)

module _ {M : Type 1} {𝓤 : Ura M} (𝓛 : Logic 𝓤) (𝓜 : Model 𝓤 𝓛.H) (𝓡 : Running 𝓤 𝓛.H 𝓜) where
  open 𝓛 use {H}

  abbrev pub file_check_promise : Spec 𝓤 file_check.signature
  file_check_promise κs a =
      record {
        ghost = Unit {0};
        requires = λ g. emp 𝓤;
        ensures = λ g r.
            exits 𝓛 file_check.signature (file_check.ended).kept κs a (λ e. fact 𝓤 (file_check_tells κs a r));
      }

  pub file_check_meets : Wired 𝓡.env file_check_code.code → Meets 𝓛 file_check.signature (𝓡.run (𝓡.env file_check_code.name)) file_check_promise
  file_check_meets wired =
      weaken 𝓛 file_check.ended (file_check.clauses 𝓛 𝓜.mem 𝓡.returns) (λ κs a g r e. fact 𝓤 (file_check_tells κs a r))
      (λ κs a g r ws. fact_mono 𝓤 _ _ (answered _ _))
      (𝓡.run (𝓡.env file_check_code.name)) (λ vs. fm→mono 𝓤 _ (run_framed 𝓤 H 𝓜 𝓡 (𝓡.env file_check_code.name) vs)) (file_check_met.met 𝓤 𝓛 𝓜 𝓡 wired)

  abbrev pub read_at_promise : Spec 𝓤 read_at.signature
  read_at_promise κs a =
      record {
        ghost = Unit {0};
        requires = λ g. emp 𝓤;
        ensures = λ g r. exits 𝓛 read_at.signature (read_at.ended).kept κs a (λ e. fact 𝓤 (read_at_tells κs a r e));
      }

  pub read_at_meets : Wired 𝓡.env read_at_code.code → Meets 𝓛 read_at.signature (𝓡.run (𝓡.env read_at_code.name)) read_at_promise
  read_at_meets wired =
      weaken 𝓛 read_at.ended (read_at.clauses 𝓛 𝓜.mem 𝓡.returns) (λ κs a g r e. fact 𝓤 (read_at_tells κs a r e))
      (λ κs a g r ws. fact_mono 𝓤 _ _ (comes _ _ _ _ _ _ _ _))
      (𝓡.run (𝓡.env read_at_code.name)) (λ vs. fm→mono 𝓤 _ (run_framed 𝓤 H 𝓜 𝓡 (𝓡.env read_at_code.name) vs)) (read_at_met.met 𝓤 𝓛 𝓜 𝓡 wired)

  abbrev pub read_promise : Spec 𝓤 read.signature
  read_promise κs a =
      record {
        ghost = Unit {0};
        requires = λ g. emp 𝓤;
        ensures = λ g r. exits 𝓛 read.signature (read.ended).kept κs a (λ e. fact 𝓤 (read_tells κs a r e));
      }

  pub read_meets : Wired 𝓡.env read_code.code → Meets 𝓛 read.signature (𝓡.run (𝓡.env read_code.name)) read_promise
  read_meets wired =
      weaken 𝓛 read.ended (read.clauses 𝓛 𝓜.mem 𝓡.returns) (λ κs a g r e. fact 𝓤 (read_tells κs a r e))
      (λ κs a g r ws. fact_mono 𝓤 _ _ (λ l. (comes _ _ _ _ _ _ _ _ l.reads, l.text, moved _ _ _ _ _ _ _ _ l.reads _ _ l.position)))
      (𝓡.run (𝓡.env read_code.name)) (λ vs. fm→mono 𝓤 _ (run_framed 𝓤 H 𝓜 𝓡 (𝓡.env read_code.name) vs)) (read_met.met 𝓤 𝓛 𝓜 𝓡 wired)
