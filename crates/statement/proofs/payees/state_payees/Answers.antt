-- ONS's row is the one after those of the agents.
use Rattle.std.proofs.Common.{List, [], ◌∷◌, ◌++◌, ◌+ℤ◌, ap, ◌∙◌, arith, rules, to_z-of_z, w64, SFits, length-take-le}
use Rattle.ints.specs.Bridge.{za, add#}
use Rattle.ints.specs.Fill.{set_last}
use Rattle.statement.specs.declared.PayeeRow.{PayeeRow}
use Rattle.statement.specs.Statement.{ons_row, payee_rows_from}
use Rattle.statement.proofs.payees.state_payees.Goals as goal

pub returns : goal.returns
unfolding payee_rows_from
returns c =
    let p = c.args.payees.now in
    let b = c.agent_credits-balance.ensures in
    let balance : SFits w64 c.agent_credits-balance.result = search rules in
    let ons : SFits w64 p.line.ons = search rules in
    let vc : SFits w64 (p.line.ons +ℤ c.args.direct) = omega (za, p.payable.fee, c.requires.0, add# p.line.ons c.args.direct) in
    let rows = rw (b.VMANTs, b.VCs) at c.rows.ensures in
    let none = c.default.ensures in
    record {
      SMSE = to_z-of_z balance ∙ b.SMSE;
      rows_are =
          rw (none.0, none.1.0, none.1.1.0, none.1.1.1.0, to_z-of_z ons, to_z-of_z c.ranges.direct, to_z-of_z vc)
          (set_last c.rows.new.out c.args.out.now _ (ons_row p.line.ons c.args.direct) c.requires.1 (c.rows.auto.out ∙ length-take-le _ _ (omega arith))
          ∙ ap (λ (l : List PayeeRow). l ++ ons_row p.line.ons c.args.direct ∷ []) rows);
    }
