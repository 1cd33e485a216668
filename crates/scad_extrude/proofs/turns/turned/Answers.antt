use Rattle.std.proofs.Common.{ap, ◌∙◌}
use Rattle.scad_solid.specs.Stack.{are_alike}
use Rattle.scad_extrude.proofs.Alike.{alike-turns}
use Rattle.scad_extrude.proofs.turns.turned.Goals as goal

pub solid-requires-clause-alike : goal.solid-requires-clause-alike
solid-requires-clause-alike c =
    ap are_alike (c.as_slice.ensures.value ∙ c.in_ok-rings.ensures.0) ∙ alike-turns c.args.ring.now c.args.n
    c.args.m.now
