-- The next file, read into the programs' room: the month is its lines, and the reader goes on behind it. Assumes nothing.
use Prim.Native.Nat.{ℕ, zero, suc, ◌<◌}
use mathlib.Core.Path.{◌≡◌, refl, ap, sym, ◌∙◌}
use mathlib.Core.List.{List}
use native.Mathlib.Omega.{arith}
use lib.ListN.{length, take, drop}
use lib.Seq.{take-append_seam}
use Rattle.std.specs.Prelude.{Ok, Err}
use Rattle.std.proofs.lemmas.List.{length-map}
use Rattle.format.specs.Blocks.{slices}
use Rattle.format.specs.Reading.{reading, ReadingAnswer, accepted, refused}
use Rattle.format.proofs.FileByFile.{next_within}
use Rattle.rules.specs.declared.Agent.{Agent}
use Rattle.rules.specs.declared.Point.{Point}
use Rattle.rules.specs.declared.User.{User}
use Rattle.rules.specs.declared.outcomes.Refusal.{Refusal}
use Rattle.rules.specs.Lines.{Lines, lines_of, agent_of, user_of, point_of}
use Rattle.monthfile.specs.Reads.{Gives, Reads, as_agents, as_users, as_points, header, month_line, over}
use Rattle.monthfile.specs.declared.reader.Reader.{Reader}
use Rattle.monthfile.specs.declared.reading.Header.{Header}
use Rattle.runs.specs.declared.months.Month.{Month}
use Rattle.rules.specs.Calls.{Opens}
use Rattle.runs.specs.declared.books.Books.{Books}
use Rattle.runs.specs.Runs.{Advances, lines_in, ReadsNext, OpensBooks, Begins}

-- what was read stands in front
front : {A : Type 0} (xs ys : List A) (n : ℕ) → n ≡ length xs → take n (over xs ys) ≡ xs
front xs ys n e = rw e (take-append_seam xs (drop (length xs) ys))

abbrev next_file : Reader → ReadingAnswer
next_file r = reading (slices 16 64 256) r.text.now r.at

module _ (before after : Reader) (text : after.text ≡ before.text) where
  -- the next one begins further on
  pub advances : (m : Month) → ReadsNext (next_file before) (Ok m) before after → Advances before after
  advances m r = by (next_file before) refl r
    where
      by : (x : ReadingAnswer) → next_file before ≡ x → ReadsNext x (Ok m) before after → Advances before after
      by (accepted f next) q s =
          let on = next_within (slices 16 64 256) before.text.now before.at next f q in
          record { text = text; further = omega (arith, on.0, s.2); within = rw (text, s.2) on.1 }
      by (refused n p) q s = cc

  module _
      (ags ags' : List Agent) (us us' : List User) (ps ps' : List Point)
      (a : length ags ≡ 16) (u : length us ≡ 64) (p : length ps ≡ 256) where
    on_month :
        (x : ReadingAnswer) (h : Header)
        → Gives x ags us ps ags' us' ps' (Ok h)
        → after.at ≡ h.next
        → (m : Month)
        → lines_of m.lines ≡ record { line = h.line; agents = take h.agents ags'; users = take h.users us'; points = take h.points ps' }
        → ReadsNext x (Ok m) before after
    on_month (accepted f next) h g at m e =
        let k : h ≡ header f next = cc in
        let i : h.agents ≡ length (as_agents f) = ap (λ (h : Header). h.agents) k ∙ sym (length-map f.agents agent_of) in
        let j : h.users ≡ length (as_users f) = ap (λ (h : Header). h.users) k ∙ sym (length-map f.users user_of) in
        let n : h.points ≡ length (as_points f) = ap (λ (h : Header). h.points) k ∙ sym (length-map f.points point_of) in
        let b : take h.agents ags' ≡ as_agents f = rw g.agents_are (front (as_agents f) ags h.agents i) in
        let c : take h.users us' ≡ as_users f = rw g.users_are (front (as_users f) us h.users j) in
        let d : take h.points ps' ≡ as_points f = rw g.points_are (front (as_points f) ps h.points n) in
        let l : h.line ≡ month_line f = ap (λ (h : Header). h.line) k in
        let front_lines : Lines = record { line = h.line; agents = take h.agents ags'; users = take h.users us'; points = take h.points ps' } in
        let w : front_lines ≡ lines_in f = cc in
        (e ∙ w, text, cc)
    on_month (refused n q) h g at m e = cc

    -- an accepted reading is of the month that its slices begin with
    pub next_month :
        (h : Header)
        → Reads before.text.now before.at ags us ps ags' us' ps' (Ok h)
        → after.at ≡ h.next
        → (m : Month)
        → lines_of m.lines ≡ record { line = h.line; agents = take h.agents ags'; users = take h.users us'; points = take h.points ps' }
        → ReadsNext (next_file before) (Ok m) before after
    next_month h g = on_month (next_file before) h (rw (a, u, p) at g)

    on_refused : (x : ReadingAnswer) (e : Refusal) → Gives x ags us ps ags' us' ps' (Err e) → after.at ≡ before.at → ReadsNext x (Err e) before after
    on_refused (accepted f next) e g at = cc
    on_refused (refused n q) e g at = (g.answer, text, at)

    -- a refused one leaves the reader where it was
    pub next_refused :
        (e : Refusal)
        → Reads before.text.now before.at ags us ps ags' us' ps' (Err e)
        → after.at ≡ before.at
        → ReadsNext (next_file before) (Err e) before after
    next_refused e g = on_refused (next_file before) e (rw (a, u, p) at g)

-- the month of a file that was read, on the ledger that its counts opened, or on the one that was open
module _ (m : Month) (before after : Reader) (books books' : Books) where
  opens_at : (x : ReadingAnswer)
      → ReadsNext x (Ok m) before after
      → OpensBooks before.at (length m.lines.users.now) (length m.lines.agents.now) books (Ok tt) books'
      → Begins x (Ok m) before after books books'
  opens_at (accepted f next) r o =
      let u : length m.lines.users.now ≡ length (as_users f) = ap (λ (l : Lines). length l.users) r.0 in
      let a : length m.lines.agents.now ≡ length (as_agents f) = ap (λ (l : Lines). length l.agents) r.0 in
      (Ok tt, (rw (sym u, sym a) o, (r.0, (r.1, r.2))))
  opens_at (refused n p) r o = cc

  pub begins_first : (x : ReadingAnswer)
      → ReadsNext x (Ok m) before after
      → before.at ≡ 0
      → Opens (length m.lines.users.now) (length m.lines.agents.now) books.held (record { answer = Ok tt; ledger = books'.ledger }) books'.held
      → Begins x (Ok m) before after books books'
  begins_first x r e o = opens_at x r (rw e o)

  pub begins_later : (x : ReadingAnswer)
      → ReadsNext x (Ok m) before after
      → 0 < before.at
      → books' ≡ books
      → Begins x (Ok m) before after books books'
  begins_later x r l e = opens_at x r (by before.at l)
    where
      by : (k : ℕ) → 0 < k → OpensBooks k (length m.lines.users.now) (length m.lines.agents.now) books (Ok tt) books'
      by zero l = absurd (omega (arith, l))
      by (suc k) l = (refl, e)
