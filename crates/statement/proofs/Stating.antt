-- A statement that was judged: refused, it changes nothing.
-- Accepted, it may write, and what it writes is what a statement promises.
use Prim.Native.Nat.{ℕ, ◌+◌, ◌≤◌}
use native.Mathlib.Omega.{arith}
use mathlib.Core.Path.{◌≡◌, refl, sym, ap, ◌∙◌}
use mathlib.Core.List.{List, ◌++◌}
use borrow.Author.Tests.{ltb-false}
use lib.IntN.{ℤ}
use lib.ListN.{length, take, drop}
use lib.Seq.{length-take-le}
use Rattle.std.specs.Prelude.{Result, Ok, IsErrAnd}
use Rattle.std.proofs.lemmas.Result.{err_from_is_err_and}
use Rattle.rules.specs.declared.Ledger.{Ledger}
use Rattle.rules.specs.declared.outcomes.Refusal.{Refusal}
use Rattle.rules.specs.Verdict.{Verdict, accepted}
use Rattle.rules.specs.Answers.{refused_by, verdict_of}
use Rattle.rules.specs.Lines.{Lines}
use Rattle.rules.specs.State.{State}
use Rattle.rules.specs.Refusals.{count_tests}
use Rattle.rules.specs.Calls.{state_of}
use Rattle.rules.proofs.Tests.{when_accepted, when_then}
use Rattle.rules.proofs.Passed.{Passed, passed, slices_accepted}
use Rattle.rules.proofs.Promise.{by_accepted, by_refused}
use Rattle.closing.specs.declared.judge.Judged.{Judged}
use Rattle.closing.specs.Judged.{Begun, Finds, Judges}
use Rattle.statement.specs.declared.PointRow.{PointRow}
use Rattle.statement.specs.declared.UserRow.{UserRow}
use Rattle.statement.specs.declared.PayeeRow.{PayeeRow}
use Rattle.statement.specs.declared.RowRooms.{RowRooms}
use Rattle.statement.specs.Statement.{short_rooms, short_of, stating_refusal, States}
use Rattle.statement.specs.Writes.{Statable, StatedRows}

-- 2 of a statement: no slice too short
record LongEnough (s : State) (n : RowRooms) (count : ℕ) : Type 0 where
  held : s.users ≤ n.held
  points : count ≤ n.points
  users : s.users ≤ n.users
  payees : s.agents + 1 ≤ n.payees

long_enough : (s : State) (n : RowRooms) (points : ℕ) → short_rooms s n points ≡ accepted → LongEnough s n points
unfolding short_rooms
long_enough s n points e =
    let a = when_then _ 2 1 _ e in
    let b = when_then _ 2 7 _ a.1 in
    let c = when_then _ 2 8 _ b.1 in
    record { held = ltb-false _ _ a.0; points = ltb-false _ _ b.0; users = ltb-false _ _ c.0; payees = ltb-false _ _ (when_accepted _ 2 9 c.1) }

module _ (g : Ledger) (held : List ℤ) (l : Lines) (xs : List PointRow) (ys : List UserRow) (zs : List PayeeRow) where
  abbrev short : Verdict
  short = short_of g held xs ys zs (length l.points)

  -- with 1 and 2 tested, the statement may be judged
  pub begun :
      {first : Result (Unit {0}) Refusal}
      → verdict_of first ≡ count_tests (state_of g held) short (length l.users) (length l.agents) (length l.points)
      → Begun g held l first short
  begun told = record { verdict = told; long_held = λ e. (long_enough _ _ _ e).held }

  -- refused, with everything as it was: what `?` hands on
  pub refused_states :
      (e : Refusal) (r : Result ℤ Refusal)
      → IsErrAnd r (λ (d : Refusal). d ≡ e)
      → refused_by e ≡ stating_refusal g held xs ys zs l
      → States g held l xs ys zs r xs ys zs
  refused_states e r h v =
      let p = err_from_is_err_and r h in
      by_refused (sym v) (record { answer = ap verdict_of p.1 ∙ ap refused_by p.2; rows_of_points = refl; rows_of_users = refl; rows_of_payees = refl })

  -- ---- judged so, it was accepted
  module _ {first : Result (Unit {0}) Refusal} {j : Judged}
      (told : verdict_of first ≡ count_tests (state_of g held) short (length l.users) (length l.agents) (length l.points))
      (judged : (s : Verdict) → Begun g held l first s → Judges g held s l (Ok j)) where
    passes : stating_refusal g held xs ys zs l ≡ accepted
    passes = sym (judged short (begun told)).verdict

    found : Finds (state_of g held) l j
    found = (judged short (begun told)).found

    p : Passed (state_of g held) l
    p = passed (state_of g held) short l passes

    room : LongEnough (state_of g held) (record { held = length held; points = length xs; users = length ys; payees = length zs }) (length l.points)
    room = long_enough _ _ _ (slices_accepted (state_of g held) short l passes)

    pub few_agents : length l.agents ≤ 256
    few_agents = omega (arith, p.agents, p.few_agents)

    -- every slice has the room, and the part of it that is lent is as long as its rows are many
    pub held_lent : length l.users ≡ length (take (length l.users) held)
    held_lent = sym (length-take-le _ held (omega (arith, p.users, room.held)))

    pub points_reach : length l.points ≤ length xs
    points_reach = room.points

    pub points_lent : length l.points ≡ length (take (length l.points) xs)
    points_lent = sym (length-take-le _ xs points_reach)

    pub users_reach : length l.users ≤ length ys
    users_reach = omega (arith, p.users, room.users)

    pub users_lent : length l.users ≡ length (take (length l.users) ys)
    users_lent = sym (length-take-le _ ys users_reach)

    pub payees_reach : length l.agents + 1 ≤ length zs
    payees_reach = omega (arith, p.agents, room.payees)

    pub payees_lent : length l.agents + 1 ≡ length (take (length l.agents + 1) zs)
    payees_lent = sym (length-take-le _ zs payees_reach)

    pub may_write :
        Statable g (take (length l.users) held) l j.sums j.bills
        (take (length l.points) xs) (take (length l.users) ys) (take (length l.agents + 1) zs) (state_of g held) short
    may_write = record {
      accepts = passes;
      one_each = length-take-le g.users held room.held;
      last_is = refl;
      held_are = ap (λ (k : ℕ). take k held) p.users;
      sums = found.sums;
      billed = found.bills;
      point_count = sym points_lent;
      user_count = sym users_lent;
      payee_count = sym payees_lent;
    }

    pub accepted_states :
        {balance : ℤ} {xs' : List PointRow} {ys' : List UserRow} {zs' : List PayeeRow}
        → StatedRows (state_of g held) l balance xs' ys' zs'
        → States g held l xs ys zs (Ok balance)
        (xs' ++ drop (length l.points) xs)
        (ys' ++ drop (length l.users) ys)
        (zs' ++ drop (length l.agents + 1) zs)
    accepted_states w =
        by_accepted passes
        (record { stated = ap Ok w.SMSE_is; rows_of_points = rw w.points; rows_of_users = rw w.users; rows_of_payees = rw w.payees })
