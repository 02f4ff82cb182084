use Rattle.std.proofs.Common.{[], pos, sym, ◌∙◌, arith, to_z-of_z, w64, SFits, rules}
use Rattle.std.proofs.lemmas.List.{length-map}
use Rattle.ints.specs.Fill.{filling_more, filling_all}
use Rattle.rules.specs.Lists.{get_d_map}
use Rattle.rules.specs.Lines.{agent_of}
use Rattle.rules.specs.Credits.{own_credit, own_credits_from}
use Rattle.credits.proofs.payees.Payees.own_credits.Goals as goal

pub loop-i-preserved : goal.loop-i-preserved
loop-i-preserved c =
    let agents = c.args.self.now.agents.now in
    let f : SFits w64 c.own_credit.result = search rules in
    rw (to_z-of_z f)
    (filling_more (rw length-map (sym c.requires)) c.loop-i.invariant (pos 0) (omega (arith, c.requires))
    (c.own_credit.ensures ∙ sym (get_d_map (own_credit _ _) agents c.loop-i.i (agent_of []) (pos 0) c.loop-i-test.true)))

pub returns : goal.returns
unfolding own_credits_from
returns c =
    let last : SFits w64 c.args.self.now.last = search rules in
    let month : SFits w64 c.args.self.now.line.month = search rules in
    rw (c.of-due.ensures.after, c.of-due.ensures.upto, to_z-of_z last, to_z-of_z month) at
    (filling_all (rw length-map (sym c.requires)) c.loop-i.invariant (omega (arith, c.requires)))
