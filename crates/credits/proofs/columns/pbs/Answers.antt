use Rattle.std.proofs.Common.{[], get_or, pos, sym, arith, to_z-of_z, w64, SFits, rules}
use Rattle.std.proofs.lemmas.List.{length-map}
use Rattle.ints.specs.Fill.{filling_more}
use Rattle.rules.specs.Lists.{get_d_map}
use Rattle.rules.specs.Lines.{agent_of}
use Rattle.credits.proofs.columns.pbs.Goals as goal

pub loop-i-preserved : goal.loop-i-preserved
loop-i-preserved c =
    let agents = c.args.agents.now in
    let i = c.loop-i.i in
    let f : SFits w64 (get_or agents i (agent_of [])).pb = search rules in
    rw (to_z-of_z f)
    (filling_more (rw length-map (sym c.requires)) c.loop-i.invariant (pos 0) (omega (arith, c.requires))
    (sym (get_d_map _ agents i (agent_of []) (pos 0) c.loop-i-test.true)))
