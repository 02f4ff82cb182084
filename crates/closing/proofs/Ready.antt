-- An accepted closing may write: its tests have shown all that writing the month asks.
use Prim.Native.Nat.{ℕ, ◌+◌, ◌*◌, ◌≤◌}
use native.Mathlib.Omega.{arith}
use native.Mathlib.Nat.{mul-le-mul}
use mathlib.Core.Path.{◌≡◌, refl, ap₂}
use mathlib.Core.List.{List}
use lib.IntN.{ℤ}
use lib.ListN.{length, take}
use lib.Seq.{length-take-le}
use Rattle.rules.specs.declared.Ledger.{Ledger}
use Rattle.rules.specs.Verdict.{Verdict, accepted}
use Rattle.rules.specs.Lines.{Lines}
use Rattle.rules.specs.Refusals.{cells_needed, short_slices}
use Rattle.rules.specs.Calls.{state_of, lengths_of, closing_refusal}
use Rattle.rules.proofs.Passed.{Passed, passed, Slices, slices, slices_accepted}
use Rattle.charges.specs.declared.month.Bills.{Bills}
use Rattle.charges.specs.Month.{Billed}
use Rattle.closing.specs.Written.{Writable}

module _ (g : Ledger) (held cells : List ℤ) (work : List ℕ) (l : Lines) where
  abbrev short : Verdict
  short = short_slices (state_of g held) (lengths_of held cells work)

  module _ (e : closing_refusal g held cells work l ≡ accepted) where
    p : Passed (state_of g held) l
    p = passed (state_of g held) short l e

    room : Slices (state_of g held) (lengths_of held cells work)
    room = slices (state_of g held) (lengths_of held cells work) (slices_accepted (state_of g held) short l e)

    -- as many lines as the ledger counts
    pub user_count : length l.users ≡ g.users
    user_count = p.users

    pub cell_count : (length l.agents + 1) * length l.users ≡ cells_needed g.users g.agents
    cell_count = ap₂ (λ (m n : ℕ). (m + 1) * n) p.agents p.users

    pub held_reach : length l.users ≤ length held
    held_reach = omega (arith, p.users, room.held)

    pub cells_reach : (length l.agents + 1) * length l.users ≤ length cells
    cells_reach = rw cell_count room.cells

    pub cells_few : (length l.agents + 1) * length l.users ≤ 257 * 512
    cells_few =
        let m : length l.agents + 1 ≤ 257 = omega (arith, p.agents, p.few_agents) in
        let n : length l.users ≤ 512 = omega (arith, p.users, p.few_users) in
        mul-le-mul m n

    pub writable :
        (bills : Bills)
        → Billed (length l.users) (state_of g held) l bills
        → Writable bills g l (take (length l.users) held) (take ((length l.agents + 1) * length l.users) cells) work (state_of g held) short
    writable bills b = record {
      accepts = e;
      one_each = length-take-le g.users held room.held;
      last_is = refl;
      bills_are = b;
      held_count = length-take-le _ held held_reach;
      cells_count = length-take-le _ cells cells_reach;
      work_count = rw cell_count (omega (arith, room.work));
    }
