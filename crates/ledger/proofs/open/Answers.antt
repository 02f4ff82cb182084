-- An accepted opening has an entry for each user, and leaves each at 0.
use Rattle.std.proofs.Common.{◌≡◌, ℕ, ◌≤◌, sym, rules}
use lib.Seq.{length-take-le}
use borrow.Author.Tests.{ltb-false}
use Rattle.rules.specs.Verdict.{accepted}
use Rattle.rules.specs.Refusals.{opening_refusal}
use Rattle.rules.proofs.Tests.{when_accepted, when_then}
use Rattle.rules.proofs.Promise.{opens_accepted}
use Rattle.ledger.proofs.open.Goals as goal

room : (users agents n : ℕ) → accepted ≡ opening_refusal users agents n → users ≤ n
unfolding opening_refusal
room users agents n e = ltb-false _ _ (when_accepted _ 2 1 (when_then _ 1 0 _ (sym e)).1)

pub slice_bounds-fill-end : goal.slice_bounds-fill-end
slice_bounds-fill-end c = room _ _ _ (c.in_default.ensures {u = tt})

pub slice_bounds-fill-end-2 : goal.slice_bounds-fill-end-2
slice_bounds-fill-end-2 c = sym (length-take-le _ _ (room _ _ _ (c.in_default.ensures {u = tt})))

pub returns : goal.returns
returns c =
    let e = c.in_default.ensures {u = tt} in
    rw (c.fill.ensures.after (λ y h. search rules), length-take-le c.args.users c.args.held.now (room _ _ _ e))
    (opens_accepted c.args.users c.args.agents c.args.held.now (sym e))
