-- What holds of all pieces that meet the definition.
use Rattle.std.proofs.Common.{◌≡◌, List, All, subst, sym, arith}
use Rattle.scad_geom.specs.Limits.{coordinate_limit}
use Rattle.scad_geom.specs.Level.{IsLevelWithin}
use Rattle.scad_geom.specs.declared.level.Level.{Level}
use Rattle.scad_geom.specs.declared.level.LeafEdge.{LeafEdge}
use Rattle.scad_geom.specs.declared.shape.Shape.{Shape}
use Rattle.slice_events.specs.Levels.{AreLevels}
use Rattle.slice_pieces.specs.declared.piece.Piece.{Piece}
use Rattle.slice_border.specs.Pieces.{AreLevelPieces, ArePieces}
use Rattle.slice_border.proofs.Ends.{heights_have_one_level}
use Rattle.slice_border.proofs.Within.{spots_are_within}
use Rattle.slice_border.proofs.BalanceLevels.{pieces_are_balanced}
use Rattle.slice_border.proofs.Centre.{centres_are_wound_once}
use Rattle.slice_border.proofs.PieceNames.{pieces_are_named}
use Rattle.slice_bool.proofs.border.pieces.Goals as goal

abbrev all : (es : List LeafEdge) (shape : Shape) (ls ks : List Level) (pieces : List Piece) → AreLevels es ls → ks ≡ ls
    → AreLevelPieces es shape ks pieces → ArePieces es shape pieces
all es shape ls ks pieces a e h = record {
  levels = ls;
  are_levels = a;
  are_pieces = subst (λ (ls : List Level). AreLevelPieces es shape ls pieces) e h;
}

pub returns-in-Ok-all_pieces-clause-levels : goal.returns-in-Ok-all_pieces-clause-levels
returns-in-Ok-all_pieces-clause-levels c =
    let es = c.args.edges.now in
    let shape = c.args.shape.now in
    let pieces = c.in-Ok-all_pieces.pieces.items in
    heights_have_one_level es shape pieces
    (all es shape c.in-Ok.levels.items c.deref.result.now pieces c.in-Ok.ensures.levels c.deref.ensures.value
    c.in-Ok-all_pieces.ensures)

pub returns-in-Ok-all_pieces-clause-within : goal.returns-in-Ok-all_pieces-clause-within
returns-in-Ok-all_pieces-clause-within c =
    let es = c.args.edges.now in
    let shape = c.args.shape.now in
    let pieces = c.in-Ok-all_pieces.pieces.items in
    spots_are_within coordinate_limit (omega arith) es c.requires shape pieces
    (all es shape c.in-Ok.levels.items c.deref.result.now pieces c.in-Ok.ensures.levels c.deref.ensures.value
    c.in-Ok-all_pieces.ensures) c.in-Ok.ensures.within

pub returns-in-Ok-all_pieces-clause-balanced : goal.returns-in-Ok-all_pieces-clause-balanced
returns-in-Ok-all_pieces-clause-balanced c =
    let es = c.args.edges.now in
    let shape = c.args.shape.now in
    let pieces = c.in-Ok-all_pieces.pieces.items in
    λ b. pieces_are_balanced es shape pieces b
    (all es shape c.in-Ok.levels.items c.deref.result.now pieces c.in-Ok.ensures.levels c.deref.ensures.value
    c.in-Ok-all_pieces.ensures)

pub returns-in-Ok-all_pieces-clause-centres : goal.returns-in-Ok-all_pieces-clause-centres
returns-in-Ok-all_pieces-clause-centres c =
    let es = c.args.edges.now in
    let shape = c.args.shape.now in
    let pieces = c.in-Ok-all_pieces.pieces.items in
    centres_are_wound_once es shape pieces
    (all es shape c.in-Ok.levels.items c.deref.result.now pieces c.in-Ok.ensures.levels c.deref.ensures.value
    c.in-Ok-all_pieces.ensures)

pub returns-in-Ok-all_pieces-clause-named : goal.returns-in-Ok-all_pieces-clause-named
returns-in-Ok-all_pieces-clause-named c =
    let es = c.args.edges.now in
    let shape = c.args.shape.now in
    let pieces = c.in-Ok-all_pieces.pieces.items in
    pieces_are_named es shape pieces
    (all es shape c.in-Ok.levels.items c.deref.result.now pieces c.in-Ok.ensures.levels c.deref.ensures.value
    c.in-Ok-all_pieces.ensures)

pub returns-in-Ok-all_pieces-clause-pieces : goal.returns-in-Ok-all_pieces-clause-pieces
returns-in-Ok-all_pieces-clause-pieces c =
    all c.args.edges.now c.args.shape.now c.in-Ok.levels.items c.deref.result.now c.in-Ok-all_pieces.pieces.items
    c.in-Ok.ensures.levels c.deref.ensures.value c.in-Ok-all_pieces.ensures

pub returns-in-Ok-all_pieces-clause-accepted : goal.returns-in-Ok-all_pieces-clause-accepted
returns-in-Ok-all_pieces-clause-accepted c = c.in-Ok.ensures.accepted

pub returns-in-Ok-all_pieces-clause-few : goal.returns-in-Ok-all_pieces-clause-few
returns-in-Ok-all_pieces-clause-few c = c.if-count-limit.false

pub all_pieces-requires-clause-edges : goal.all_pieces-requires-clause-edges
all_pieces-requires-clause-edges c = c.requires

pub all_pieces-requires-clause-few : goal.all_pieces-requires-clause-few
all_pieces-requires-clause-few c = omega (arith, c.if-count-limit.false, c.ranges.limit)

pub all_pieces-requires-clause-within : goal.all_pieces-requires-clause-within
all_pieces-requires-clause-within c =
    subst (All (IsLevelWithin coordinate_limit)) (sym c.deref.ensures.value) c.in-Ok.ensures.within

pub all_pieces-requires-clause-levels : goal.all_pieces-requires-clause-levels
all_pieces-requires-clause-levels c =
    subst (AreLevels c.args.edges.now) (sym c.deref.ensures.value) c.in-Ok.ensures.levels
