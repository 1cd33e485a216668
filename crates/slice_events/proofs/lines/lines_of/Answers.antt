-- Each edge gives its line.
use Rattle.std.proofs.Common.{◌∷◌, [], ◌++◌, take, get_or, sym, ap, ap₂, ◌∙◌, List}
use Rattle.std.proofs.lemmas.List.{take_all, take_more, map-append}
use Rattle.scad_geom.specs.declared.point.Edge.{Edge}
use Rattle.scad_geom.specs.declared.level.LeafEdge.{LeafEdge}
use Rattle.slice_events.specs.declared.line.Line.{Line}
use Rattle.slice_events.specs.Lines.{edges_in, edges_of_leaves}
use Rattle.slice_events.specs.Stays.{no_edge}
use Rattle.slice_events.proofs.lines.lines_of.Goals as goal

pub edges-preserved : goal.edges-preserved
edges-preserved c =
    let es : List LeafEdge = c.args.edges.now in
    let i = c.edges.e-index in
    let none : LeafEdge = record { leaf = 0; edge = no_edge } in
    ap edges_in c.in_ok-push.ensures.items
    ∙ map-append (λ (l : Line). l.edge) c.edges.lines.items (c.line_of.result ∷ [])
    ∙ ap₂ (λ (xs : List Edge) (e : Edge). xs ++ (e ∷ [])) c.edges.invariant c.line_of.ensures
    ∙ sym (ap edges_of_leaves (take_more es i none c.edges-test.true)
    ∙ map-append (λ (e : LeafEdge). e.edge) (take i es) (get_or es i none ∷ []))

pub returns : goal.returns
returns c = c.edges.invariant ∙ ap edges_of_leaves (take_all c.edges.e-index c.args.edges.now c.edges-test.false)
