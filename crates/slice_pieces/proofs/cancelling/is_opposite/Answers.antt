-- Edges that compare as equal are one.
use Rattle.std.proofs.Common.{sym, ap, ◌∙◌}
use Rattle.scad_geom.specs.declared.point.Edge.{Edge}
use Rattle.scad_geom.proofs.Places.{same_edge, same_edge_then_equal, same_edge_itself}
use Rattle.slice_pieces.proofs.cancelling.is_opposite.Goals as goal

pub returns : goal.returns
returns c =
    let f : Edge = c.args.f.now in
    let other : Edge = c.turned.result in (
      λ h. same_edge_then_equal f other (sym c.eq.ensures ∙ h) ∙ c.turned.ensures,
      λ h. c.eq.ensures ∙ ap (same_edge f) (c.turned.ensures ∙ sym h) ∙ same_edge_itself f,
    )
