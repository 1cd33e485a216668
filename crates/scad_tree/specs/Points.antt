-- The points of a tree, and whether it is made by union alone.
use Rattle.std.specs.Prelude.{Bool, true, false, ◌&&◌, List, [], ◌∷◌}
use Rattle.std.specs.List.{flat_map}
use Rattle.scad_geom.specs.declared.point3.Pt3.{Pt3}
use Rattle.scad_solid.specs.declared.triangle.Triangle.{Triangle}
use Rattle.scad_tree.specs.Order.{surfaces, all_surfaces}
use Rattle.scad_tree.specs.Solid.{Solid, Solids, nothing, surface, union, intersection, difference, none, member}

-- no part of the tree is an intersection or a difference
abbrev mutual
  pub is_united : Solid → Bool
  is_united nothing = true
  is_united (surface ts) = true
  is_united (union ms) = are_united ms
  is_united (intersection ms) = false
  is_united (difference first rest) = false

  pub are_united : Solids → Bool
  are_united none = true
  are_united (member s rest) = is_united s && are_united rest

-- the corners of triangles, three of each
abbrev pub corners_of : Triangle → List Pt3
corners_of t = t.a ∷ t.b ∷ t.c ∷ []

abbrev pub corners : List Triangle → List Pt3
corners ts = flat_map corners_of ts

-- the corners of the surfaces of a tree, in tree order
abbrev pub points_of : Solid → List Pt3
points_of s = flat_map corners (surfaces s)

abbrev pub all_points : Solids → List Pt3
all_points ms = flat_map corners (all_surfaces ms)
