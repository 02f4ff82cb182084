-- The visit begins with every row and every column open, so it finds a mark.
use Rattle.std.proofs.Common.{◌≡◌, ◌<◌, ◌∙◌, length, replicate, true, arith, rules}
use Rattle.cells.specs.Place.{kept_more, placing_on, still_lacks}
use Rattle.cells.specs.Searching.{height, width, opened_all}
use Rattle.cells.proofs.search.Search.place_row.Goals as goal

pub loop-preserved : goal.loop-preserved
loop-preserved c =
    let i = c.args.i in
    let l = c.loop in
    let W = c.requires.0 in
    let I = l.invariant in
    let P = I.2 in
    let v = c.visit_row in
    let k = v.ensures.0 in
    let h : i < length c.args.self.now.table.lacks.now = omega (arith, c.requires.1, W.tall) in
    let rows : c.fill.new.self ≡ replicate (height l.self) true = search rules in
    let columns : c.fill-in-loop.new.self ≡ replicate (width l.self) true = search rules in (
      k.rows ∙ c.fill.auto.self ∙ I.0,
      k.columns ∙ c.fill-in-loop.auto.self ∙ I.1,
      placing_on i h P k.lacks
          (kept_more P.kept W.feasible W.small c.requires.1 (omega (arith, h, P.kept.tall)) (still_lacks i h P c.loop-test.true)
          (opened_all _ _ (rw I.0 at rows)) (opened_all _ _ (rw I.1 at columns)) v.result
          (rw (c.fill.auto.self ∙ I.0, c.fill-in-loop.auto.self ∙ I.1) at v.ensures.1)
          k.cells k.wide),
    )
