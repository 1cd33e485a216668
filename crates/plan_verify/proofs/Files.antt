-- The coordinates of files that are read, and of the sides of their layers.
use Rattle.std.proofs.Common.{ℕ, [], ◌∷◌, List, subst}
use Rattle.std.specs.Prelude.{All, flat_map}
use Rattle.std.specs.List.{AllByRecursion, AllZip}
use Rattle.std.proofs.lemmas.List.Elements.{All-nil, All-cons, All-append}
use Rattle.scad_geom.specs.declared.point.Pt.{Pt}
use Rattle.scad_geom.specs.Limits.{coordinate_limit}
use Rattle.scad_geom.specs.Within.{IsWithin, IsEdgeWithin}
use Rattle.scad_geom.specs.Loop.{path, sides}
use Rattle.cli_text.specs.Cli.{Layer}
use Rattle.cli_read.specs.declared.layers.CliLayer.{CliLayer}
use Rattle.cli_read.specs.View.{seen}
use Rattle.cli_read.specs.Form.{SaysLayer, Drawn, Polyline, Hatching, IsDrawn, outlines_among}
use Rattle.plan_verify.specs.Stays.{AreWithin}
use Rattle.plan_verify.specs.Fields.{AreSidesWithin}
use Rattle.plan_verify.specs.Laws.{FilesAreWithin}

-- ---- files that are read
abbrev AreLoopsWithin : List (List Pt) → Type 0
AreLoopsWithin loops = AllByRecursion (λ points. AllByRecursion (IsWithin coordinate_limit) points) loops

outlines_within : (lines : List (List ℕ)) (drawn : List Drawn) → AllZip IsDrawn lines drawn
    → AreLoopsWithin (outlines_among drawn)
outlines_within [] [] h = tt
outlines_within [] (d ∷ drawn) h = absurd h
outlines_within (x ∷ lines) [] h = absurd h
outlines_within (x ∷ lines) (Polyline points ∷ drawn) h
    = (h.0.shape.near, outlines_within lines drawn h.1)
outlines_within (x ∷ lines) (Hatching some ∷ drawn) h = outlines_within lines drawn h.1

layers_within : (parts : List (List (List ℕ))) (layers : List Layer) → AllZip SaysLayer parts layers
    → AreWithin layers
layers_within [] [] h = tt
layers_within [] (l ∷ layers) h = absurd h
layers_within (x ∷ parts) [] h = absurd h
layers_within (x ∷ parts) (l ∷ layers) h = (
  subst AreLoopsWithin h.0.outlines (outlines_within h.0.behind h.0.drawn h.0.each),
  layers_within parts layers h.1,
)

pub files_are_within : FilesAreWithin
files_are_within bytes layers reads = layers_within reads.parts layers reads.each

-- ---- the sides of layers
path_within : (from : Pt) (ps : List Pt) (last : Pt) → IsWithin coordinate_limit from
    → IsWithin coordinate_limit last
    → AllByRecursion (IsWithin coordinate_limit) ps → All (IsEdgeWithin coordinate_limit) (path from ps last)
path_within from [] last f l h = All-cons (IsEdgeWithin coordinate_limit) (record { a = from; b = last }) []
    (record { a = f; b = l }) (All-nil (IsEdgeWithin coordinate_limit))
path_within from (p ∷ ps) last f l h = All-cons (IsEdgeWithin coordinate_limit) (record { a = from; b = p })
    (path p ps last)
    (record { a = f; b = h.0 }) (path_within p ps last h.0 l h.1)

sides_within : (points : List Pt) → AllByRecursion (IsWithin coordinate_limit) points
    → All (IsEdgeWithin coordinate_limit) (sides points)
sides_within [] h = All-nil (IsEdgeWithin coordinate_limit)
sides_within (p ∷ ps) h = path_within p ps p h.0 h.0 h.1

all_within : (loops : List (List Pt)) → AllByRecursion (λ points. AllByRecursion (IsWithin coordinate_limit) points)
    loops
    → All (IsEdgeWithin coordinate_limit) (flat_map sides loops)
all_within [] h = All-nil (IsEdgeWithin coordinate_limit)
all_within (l ∷ loops) h = All-append (IsEdgeWithin coordinate_limit) (sides l) (flat_map sides loops)
    (sides_within l h.0)
    (all_within loops h.1)

pub are_sides_within : (layers : List CliLayer) → AreWithin (seen layers) → AreSidesWithin layers
are_sides_within [] h = All-nil (λ l. All (IsEdgeWithin coordinate_limit) (flat_map sides l.loops))
are_sides_within (l ∷ layers) h = All-cons (λ l. All (IsEdgeWithin coordinate_limit) (flat_map sides l.loops)) l
    layers
    (all_within l.loops h.0) (are_sides_within layers h.1)
