-- The sides of outlines are balanced.
use Rattle.std.proofs.Common.{List, sym, subst, ◌∙◌}
use Rattle.scad_geom.specs.declared.point.Edge.{Edge}
use Rattle.scad_geom.specs.Segment.{segments}
use Rattle.scad_geom.specs.Balance.{IsBalanced}
use Rattle.plan_sides.proofs.Closure.{sides_balanced}
use Rattle.outline_samples.proofs.loops.are_joined.Goals as goal

pub join-requires : goal.join-requires
join-requires c = record {
  balanced = subst (λ (es : List Edge). IsBalanced (segments es)) (sym (c.deref-2.ensures.value ∙ c.in_ok-edges.ensures))
      (sides_balanced c.deref.result.now);
}
