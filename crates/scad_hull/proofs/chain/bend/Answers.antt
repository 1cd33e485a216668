-- One more point is taken off, or the way on turns to the left, or one point is left.
use Rattle.std.proofs.Common.{rules, arith, ◌-◌, sym, ◌∙◌}
use Rattle.scad_hull.proofs.Tops.{few, stays, goes}
use Rattle.scad_hull.proofs.chain.bend.Goals as goal

pub returns-after-tops : goal.returns-after-tops
returns-after-tops g c =
    sym (few (g.V.Plane.left c.args.plane.now) c.args.p.now c.tops.stack.items (omega arith)) ∙ c.tops.invariant

pub tops-preserved : goal.tops-preserved
tops-preserved g c =
    goes (g.V.Plane.left c.args.plane.now) c.args.p.now c.index-in-tops.result.now c.index.result.now
    c.tops.stack.items (c.len-in-tops.result - 1) (c.len-in-tops-2.result - 2) (omega arith) (omega arith)
    c.index.ensures c.index-in-tops.ensures c.turns_left.result c.turns_left.ensures c.pop.new.self.items _
    (search rules) c.pop.ensures.rest c.if-turns_left.false
    ∙ c.tops.invariant

pub returns-then-turns_left : goal.returns-then-turns_left
returns-then-turns_left g c =
    sym (stays (g.V.Plane.left c.args.plane.now) c.args.p.now c.index-in-tops.result.now c.index.result.now
    c.tops.stack.items (c.len-in-tops.result - 1) (c.len-in-tops-2.result - 2) (omega arith) (omega arith)
    c.index.ensures c.index-in-tops.ensures c.turns_left.result c.turns_left.ensures c.if-turns_left.true)
    ∙ c.tops.invariant
