use Rattle.std.proofs.Common.{◌≡◌, ℕ, ◌<◌, List, [], get_or, length, sym, ◌∙◌, arith, rules, to_z-of_z, w64, SFits}
use Rattle.ints.specs.Bounds.{Word}
use Rattle.ints.specs.Fill.{filling_more, filling_all}
use Rattle.rules.specs.declared.User.{User}
use Rattle.rules.specs.Lines.{user_of}
use Rattle.rules.specs.Most.{most_amount, most_charged, most_held, most_parcels}
use Rattle.statement.specs.declared.UserRow.{UserRow}
use Rattle.statement.specs.declared.users.Columns.{Columns}
use Rattle.statement.specs.Statement.{at}
use Rattle.statement.specs.Columns.{ColumnsFit, user_rows_by}
use Rattle.statement.proofs.Entries.{length_user_rows, user_row, user_row_at}
use Rattle.statement.proofs.users.rows.Goals as goal

module _ {users : List User} {columns : Columns} {out : List UserRow} (r : ColumnsFit users columns out) where
  -- as many rows as entries
  count : length (user_rows_by users columns) ≡ length out
  count = length_user_rows users columns ∙ sym r.out_count

  -- what `net` takes
  words : (i : ℕ) → i < length users
      → Word most_amount most_charged (at columns.vme.now i) × Word 0 most_parcels (at columns.cpv.now i) × Word 0 most_held (at columns.held.now i)
  words i here =
      let h : i < length columns.vme.now = omega (arith, r.vme_count) in
      (r.amounts.charge.at i h, r.amounts.compensation.at i (omega (arith, r.amounts.cpv_count)), r.amounts.credit.at i (omega (arith, r.amounts.held_count)))

pub loop-i-preserved : goal.loop-i-preserved
loop-i-preserved c =
    let a = c.args.columns in
    let i = c.loop-i.i in
    let h = c.loop-i-test.true in
    let user = get_or c.args.users.now i (user_of []) in
    let w = words c.requires i h in
    let f₀ : SFits w64 (at a.uses.now i) = search rules in
    let f₁ : SFits w64 (at a.overruns.now i) = search rules in
    let f₂ : SFits w64 user.ret = search rules in
    let f₃ : SFits w64 c.net-due.result = search rules in
    let f₄ : SFits w64 (at a.debits.now i) = search rules in
    let f₅ : SFits w64 (at a.credits.now i) = search rules in
    let f₆ : SFits w64 user.ong = search rules in
    let n = to_z-of_z f₃ ∙ (rw (to_z-of_z w.0.fits, to_z-of_z w.1.fits, to_z-of_z w.2.fits) at c.net-due.ensures) in
    rw (to_z-of_z f₀, to_z-of_z f₁, to_z-of_z f₂)
    (rw (to_z-of_z w.0.fits, to_z-of_z w.1.fits, to_z-of_z w.2.fits, n, to_z-of_z f₄, to_z-of_z f₅, to_z-of_z f₆)
    (filling_more (count c.requires) c.loop-i.invariant (user_row user a i) (omega (arith, c.requires.out_count))
    (sym (user_row_at c.requires i h _))))

pub returns : goal.returns
returns c = filling_all (count c.requires) c.loop-i.invariant (omega (arith, c.requires.out_count))
