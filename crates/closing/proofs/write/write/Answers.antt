-- The bills stand first in their arrays: the credits of the payees and the debits make the table, to whose last row the direct charges are
-- added, and the new held credits are copied.
use Rattle.std.proofs.Common.{◌∙◌, w64, SFits, rules}
use mir.Facts.{to_z-of_z}
use Rattle.closing.proofs.Writing.{few_users, payable, credits_are, first_debits, first_credits, first_payees, asked, may_add, written}
use Rattle.closing.proofs.write.write.Goals as goal

pub invariant_of-payees : goal.invariant_of-payees
invariant_of-payees c =
    let t : SFits w64 c.args.bills.now.total = search rules in
    let m : SFits w64 c.args.ledger.month = search rules in
    record { payable = rw (to_z-of_z t, to_z-of_z m) (payable c.requires.2) }

pub shared_ref_as_front-fill : goal.shared_ref_as_front-fill
shared_ref_as_front-fill c = few_users c.requires.2

pub fill-requires : goal.fill-requires
fill-requires c =
    let t : SFits w64 c.args.bills.now.total = search rules in
    let m : SFits w64 c.args.ledger.month = search rules in
    let w = c.requires.2 in
    let e = credits_are w (to_z-of_z t) (to_z-of_z m) c.vcs.ensures in
    asked w (first_payees w e _ ∙ e) (first_debits w)

pub add-requires : goal.add-requires
add-requires c =
    let t : SFits w64 c.args.bills.now.total = search rules in
    let m : SFits w64 c.args.ledger.month = search rules in
    let w = c.requires.2 in
    let e = credits_are w (to_z-of_z t) (to_z-of_z m) c.vcs.ensures in
    may_add w (first_payees w e _ ∙ e) (first_debits w) c.fill.ensures

pub returns : goal.returns
returns c st short w =
    let t : SFits w64 c.args.bills.now.total = search rules in
    let m : SFits w64 c.args.ledger.month = search rules in
    let e = credits_are w (to_z-of_z t) (to_z-of_z m) c.vcs.ensures in
    written w (first_payees w e _ ∙ e) (first_debits w) c.fill.ensures c.add.ensures (c.copy_from_slice.ensures.after ∙ first_credits w) c.fill.auto.work
