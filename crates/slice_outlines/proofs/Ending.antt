-- The edges of pieces that end, one after another.
use Rattle.std.proofs.Common.{◌≡◌, List, [], ◌∷◌, ◌++◌, refl, sym, ap, ◌∙◌, append_assoc}
use Rattle.scad_geom.specs.declared.point.Pt.{Pt}
use Rattle.scad_geom.specs.declared.point.Edge.{Edge}
use Rattle.sweep_laws.specs.Edges.{edges_between}
use Rattle.slice_outlines.specs.declared.course.Course.{Course}
use Rattle.slice_outlines.specs.Passing.{edges_to}

pub edges_on : (at : Pt) (cs ds : List Course) → edges_to at (cs ++ ds) ≡ edges_to at cs ++ edges_to at ds
edges_on at [] ds = refl
edges_on at (c ∷ cs) ds =
    ap (λ (es : List Edge). edges_between c.forward c.from at ++ es) (edges_on at cs ds)
    ∙ sym (append_assoc (edges_between c.forward c.from at) (edges_to at cs) (edges_to at ds))
