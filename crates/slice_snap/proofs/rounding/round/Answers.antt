-- The edges are those of all pieces.
use Rattle.std.proofs.Common.{◌≡◌, ◌∷◌, [], ◌++◌, All, sym, ap, ◌∙◌, subst}
use Rattle.std.proofs.lemmas.List.{take_all}
use Rattle.std.proofs.lemmas.List.Elements.{All-push}
use Rattle.scad_geom.specs.Limits.{coordinate_limit}
use Rattle.scad_geom.specs.Within.{IsEdgeWithin}
use Rattle.slice_snap.specs.Chains.{no_piece}
use Rattle.slice_pieces.specs.Rounding.{rounded_edges}
use Rattle.slice_pieces.proofs.Balance.{edges_balanced}
use Rattle.slice_snap.proofs.RoundedPieces.{with_length, without_length}
use Rattle.slice_snap.proofs.rounding.round.Goals as goal
use Rattle.slice_snap.proofs.rounding.round.Goals.{then-has_length+in_ok-push, else-has_length}

pub pieces-preserved : goal.pieces-preserved
pieces-preserved c =
    let qs = c.args.pieces.now in
    let i = c.pieces.piece-index in
    let edges = c.pieces.edges.items in
    let e = c.rounded_edge-edge.result in
    let long = sym c.has_length.ensures in
    elim c.if-has_length.branch [
      | then-has_length+in_ok-push w ↦
          let items : c.if-has_length.edges.items ≡ edges ++ (e ∷ []) = ap (λ v. v.items) w.edges-is
          ∙ w.in_ok-push.ensures.items in
          record {
            edges = items ∙ with_length qs i no_piece e c.pieces-test.true c.rounded_edge-edge.ensures.value edges
                c.pieces.invariant.edges (long ∙ w.if-has_length.true);
            within = subst (All (IsEdgeWithin coordinate_limit)) (sym items)
                (All-push (IsEdgeWithin coordinate_limit) edges e c.pieces.invariant.within
                c.rounded_edge-edge.ensures.within);
          }
      | else-has_length w ↦
          let items : c.if-has_length.edges.items ≡ edges = ap (λ v. v.items) w.edges-is in
          record {
            edges = items ∙ without_length qs i no_piece e c.pieces-test.true c.rounded_edge-edge.ensures.value
                edges c.pieces.invariant.edges (long ∙ w.if-has_length.false);
            within = subst (All (IsEdgeWithin coordinate_limit)) (sym items) c.pieces.invariant.within;
          }
    ]

pub returns-clause-edges : goal.returns-clause-edges
returns-clause-edges c = c.pieces.invariant.edges
    ∙ ap (λ ps. rounded_edges ps) (take_all c.pieces.piece-index c.args.pieces.now c.pieces-test.false)

pub returns-clause-balanced : goal.returns-clause-balanced
returns-clause-balanced c =
    let qs = c.args.pieces.now in
    edges_balanced coordinate_limit qs c.pieces.edges.items c.requires
    (c.pieces.invariant.edges ∙ ap (λ ps. rounded_edges ps) (take_all c.pieces.piece-index qs c.pieces-test.false))
