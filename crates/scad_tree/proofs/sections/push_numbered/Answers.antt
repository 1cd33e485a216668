-- One edge more, and none left.
use Rattle.std.proofs.Common.{◌+◌, ◌++◌, ◌∷◌, [], List, map, drop, get_or, sym, ap, ◌∙◌, append_assoc, pos}
use Rattle.std.proofs.lemmas.List.{append-nil, at_drop_more, drop_all}
use Rattle.scad_geom.specs.declared.point.Edge.{Edge}
use Rattle.scad_geom.specs.declared.level.LeafEdge.{LeafEdge}
use Rattle.scad_tree.specs.Sections.{leaf_edge}
use Rattle.scad_tree.proofs.sections.push_numbered.Goals as goal

abbrev no_edge : Edge
no_edge = record { a = record { x = pos 0; y = pos 0 }; b = record { x = pos 0; y = pos 0 } }

pub edges-preserved : goal.edges-preserved
edges-preserved c =
    let all : List Edge = c.args.edges.now in
    let i = c.edges.edge-index in
    let leaf = c.args.leaf in
    let old : List LeafEdge = c.edges.out.items in
    let here : List LeafEdge = leaf_edge leaf (get_or all i no_edge) ∷ [] in
    let rest : List LeafEdge = map (leaf_edge leaf) (drop (i + 1) all) in
    ap (λ (es : List LeafEdge). es ++ rest) c.in_ok-push.ensures.items ∙ append_assoc old here rest
    ∙ ap (λ (es : List LeafEdge). old ++ es) (sym (at_drop_more (map (leaf_edge leaf)) all i no_edge c.edges-test.true))
    ∙ c.edges.invariant

pub returns : goal.returns
returns c =
    let old : List LeafEdge = c.edges.out.items in
    sym (append-nil old)
    ∙ ap (λ (es : List Edge). old ++ map (leaf_edge c.args.leaf) es)
    (sym (drop_all c.edges.edge-index c.args.edges.now c.edges-test.false))
    ∙ c.edges.invariant
