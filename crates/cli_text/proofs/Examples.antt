-- Texts that the definition computes.
use Rattle.std.proofs.Common.{◌≡◌, [], ◌∷◌, ℤ, pos, negsuc, codes, refl}
use Rattle.std.specs.Fmt.{digits}
use Rattle.scad_geom.specs.declared.point.Edge.{Edge}
use Rattle.scad_geom.specs.Square.{square}
use Rattle.cli_text.specs.Cli.{outlined as layer, cli, head_start, head_end, layer_text, layer_start, polyline_text, polyline_start, geometry_end}
use Rattle.cli_text.specs.Cli.{hatches_start, hatches_text}

-- a cube of 1 mm in five layers of 0.2 mm
cli-cube : cli (layer 200 (square 1000 ∷ []) ∷ layer 400 (square 1000 ∷ []) ∷ layer 600 (square 1000 ∷ []) ∷ layer 800
    (square 1000 ∷ []) ∷ layer 1000 (square 1000 ∷ []) ∷ [])
    ≡ codes "$$HEADERSTART\n$$ASCII\n$$UNITS/0.001\n$$VERSION/200\n$$LAYERS/5\n$$HEADEREND\n$$GEOMETRYSTART\n$$LAYER/200\n$$POLYLINE/1,1,5,0,0,1000,0,1000,1000,0,1000,0,0\n$$LAYER/400\n$$POLYLINE/1,1,5,0,0,1000,0,1000,1000,0,1000,0,0\n$$LAYER/600\n$$POLYLINE/1,1,5,0,0,1000,0,1000,1000,0,1000,0,0\n$$LAYER/800\n$$POLYLINE/1,1,5,0,0,1000,0,1000,1000,0,1000,0,0\n$$LAYER/1000\n$$POLYLINE/1,1,5,0,0,1000,0,1000,1000,0,1000,0,0\n$$GEOMETRYEND\n"
unfolding head_start head_end layer_start polyline_start geometry_end digits
cli-cube = refl

cli-no_layers : cli [] ≡ codes "$$HEADERSTART\n$$ASCII\n$$UNITS/0.001\n$$VERSION/200\n$$LAYERS/0\n$$HEADEREND\n$$GEOMETRYSTART\n$$GEOMETRYEND\n"
unfolding head_start head_end geometry_end digits
cli-no_layers = refl

-- a hole, clockwise, at negative coordinates
polyline-hole : polyline_text (record { x = negsuc 9; y = negsuc 9 } ∷ record { x = negsuc 9; y = pos 5 } ∷ record
    { x = pos 5; y = negsuc 9 } ∷ [])
    ≡ codes "$$POLYLINE/1,0,4,-10,-10,-10,5,5,-10,-10,-10\n"
unfolding polyline_start digits
polyline-hole = refl

-- two points enclose no area
polyline-two_points : polyline_text (record { x = pos 0; y = pos 0 } ∷ record { x = pos 7; y = pos 3 } ∷ [])
    ≡ codes "$$POLYLINE/1,0,3,0,0,7,3,0,0\n"
unfolding polyline_start digits
polyline-two_points = refl

layer-empty : layer_text (layer 4294967295 []) ≡ codes "$$LAYER/4294967295\n"
unfolding layer_start digits
layer-empty = refl

-- ---- hatches

abbrev hatch : ℤ → ℤ → ℤ → ℤ → Edge
hatch ax ay bx by = record { a = record { x = ax; y = ay }; b = record { x = bx; y = by } }

-- a square of 3 mm, 0.2 mm thick, with one line of infill
cli-filled_square : cli (record {
  z = 200;
  loops = square 3000 ∷ [];
  hatches = hatch (pos 900) (pos 2000) (pos 2100) (pos 2000) ∷ [];
} ∷ [])
    ≡ codes "$$HEADERSTART\n$$ASCII\n$$UNITS/0.001\n$$VERSION/200\n$$LAYERS/1\n$$HEADEREND\n$$GEOMETRYSTART\n$$LAYER/200\n$$POLYLINE/1,1,5,0,0,3000,0,3000,3000,0,3000,0,0\n$$HATCHES/1,1,900,2000,2100,2000\n$$GEOMETRYEND\n"
unfolding head_start head_end layer_start polyline_start hatches_start geometry_end digits
cli-filled_square = refl

-- the second runs back, below zero
hatches-two : hatches_text (hatch (pos 0) (pos 0) (pos 5) (pos 0) ∷ hatch (pos 5) (negsuc 1) (pos 0) (negsuc 1) ∷ [])
    ≡ codes "$$HATCHES/1,2,0,0,5,0,5,-2,0,-2\n"
unfolding hatches_start digits
hatches-two = refl
