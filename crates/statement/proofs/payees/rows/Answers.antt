use Rattle.std.proofs.Common.{[], get_or, pos, sym, ◌∙◌, arith, rules, to_z-of_z, w64, SFits}
use Rattle.ints.specs.Fill.{filling_more, filling_all}
use Rattle.rules.specs.Lines.{agent_of}
use Rattle.rules.proofs.BoundsAgent.{correction}
use Rattle.statement.proofs.Entries.{length_agent_rows, agent_row, agent_row_at}
use Rattle.statement.proofs.payees.rows.Goals as goal

pub vmpa-requires : goal.vmpa-requires
vmpa-requires c =
    let pa = (c.args.payees.now.payable.lines.line c.loop-i.i c.loop-i-test.true).pa in
    rw (to_z-of_z (correction pa).fits) pa

pub loop-i-preserved : goal.loop-i-preserved
loop-i-preserved c =
    let p = c.args.payees.now in
    let a = c.args in
    let i = c.loop-i.i in
    let agent = get_or p.agents.now i (agent_of []) in
    let here = c.loop-i-test.true in
    let last : SFits w64 p.last = search rules in
    let month : SFits w64 p.line.month = search rules in
    let f₀ : SFits w64 c.vmst.result = search rules in
    let f₁ : SFits w64 c.vmpa.result = search rules in
    let f₂ : SFits w64 (get_or a.vmant.now i (pos 0)) = search rules in
    let f₃ : SFits w64 agent.ret = search rules in
    let f₄ : SFits w64 (get_or a.vc.now i (pos 0)) = search rules in
    let pa = to_z-of_z (correction (p.payable.lines.line i here).pa).fits in
    let vmst = to_z-of_z f₀ ∙ c.vmst.ensures in
    let vmpa = to_z-of_z f₁ ∙ (rw (c.of-due.ensures.after, c.of-due.ensures.upto, to_z-of_z last, to_z-of_z month) at (c.vmpa.ensures agent (sym pa))) in
    let same = length_agent_rows p.last p.line.month a.vmant.now a.vc.now p.agents.now ∙ sym c.requires.2 in
    rw (vmst, vmpa, to_z-of_z f₂, to_z-of_z f₃, to_z-of_z f₄)
    (filling_more same c.loop-i.invariant (agent_row p.last p.line.month a.vmant.now a.vc.now agent i) (omega (arith, c.requires.2))
    (sym (agent_row_at p.last p.line.month a.vmant.now a.vc.now p.agents.now i _ here)))

pub returns : goal.returns
returns c =
    let p = c.args.payees.now in
    let same = length_agent_rows p.last p.line.month c.args.vmant.now c.args.vc.now p.agents.now ∙ sym c.requires.2 in
    filling_all same c.loop-i.invariant (omega (arith, c.requires.2))
