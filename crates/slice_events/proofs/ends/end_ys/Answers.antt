-- Each edge gives the heights of its ends.
use Rattle.std.proofs.Common.{refl, ◌∷◌, [], ◌++◌, ◌+◌, ℤ, drop, get_or, ap, ◌∙◌, List}
use Rattle.std.proofs.lemmas.List.{at_drop_more}
use Rattle.scad_geom.specs.declared.level.LeafEdge.{LeafEdge}
use Rattle.slice_events.specs.Collection.{end_ys}
use Rattle.slice_events.specs.Stays.{no_edge}
use Rattle.slice_events.proofs.Loops.{put_step, last_step}
use Rattle.slice_events.proofs.ends.end_ys.Goals as goal

pub edges-preserved : goal.edges-preserved
edges-preserved c =
    let es : List LeafEdge = c.args.edges.now in
    let i = c.edges.e-index in
    let none : LeafEdge = record { leaf = 0; edge = no_edge } in
    let e : LeafEdge = get_or es i none in
    ap (λ (ys : List ℤ). ys ++ end_ys (drop (i + 1) es)) c.in_ok-push_both.ensures
    ∙ put_step c.edges.ends.items (e.edge.a.y ∷ (e.edge.b.y ∷ [])) _ _ _
    (at_drop_more end_ys es i none c.edges-test.true) c.edges.invariant

pub returns : goal.returns
returns c = last_step end_ys _ _ c.args.edges.now c.edges.e-index refl c.edges-test.false c.edges.invariant
