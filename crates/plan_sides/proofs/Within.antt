-- The sides of outlines are within the limit of their points.
use Rattle.std.proofs.Common.{ℕ, List, [], ◌∷◌, flat_map}
use Rattle.std.specs.Prelude.{All}
use Rattle.std.specs.List.{AllByRecursion}
use Rattle.std.proofs.lemmas.List.Elements.{recursion_from_All, All-from_recursion}
use Rattle.scad_base.proofs.Lists.{AllByRecursion-append}
use Rattle.scad_geom.specs.declared.point.Pt.{Pt}
use Rattle.scad_geom.specs.Within.{IsWithin, IsEdgeWithin}
use Rattle.scad_geom.specs.Loop.{path, sides}

path_within : (limit : ℕ) (from last : Pt) (ps : List Pt) → IsWithin limit from → IsWithin limit last
    → AllByRecursion (IsWithin limit) ps → AllByRecursion (IsEdgeWithin limit) (path from ps last)
path_within limit from last [] a b k = (record { a = a; b = b }, tt)
path_within limit from last (p ∷ ps) a b k = (record { a = a; b = k.0 }, path_within limit p last ps k.0 b k.1)

pub sides_within : (limit : ℕ) (l : List Pt) → AllByRecursion (IsWithin limit) l
    → AllByRecursion (IsEdgeWithin limit) (sides l)
sides_within limit [] k = tt
sides_within limit (p ∷ ps) k = path_within limit p p ps k.0 k.0 k.1

all_sides_within : (limit : ℕ) (ls : List (List Pt)) → AllByRecursion (λ l. All (IsWithin limit) l) ls
    → AllByRecursion (IsEdgeWithin limit) (flat_map sides ls)
all_sides_within limit [] k = tt
all_sides_within limit (l ∷ ls) k = AllByRecursion-append (IsEdgeWithin limit) (sides l) (flat_map sides ls)
    (sides_within limit l (recursion_from_All (IsWithin limit) l k.0)) (all_sides_within limit ls k.1)

pub outlines_within : (limit : ℕ) (ls : List (List Pt)) → All (λ l. All (IsWithin limit) l) ls
    → All (IsEdgeWithin limit) (flat_map sides ls)
outlines_within limit ls k = All-from_recursion (IsEdgeWithin limit) (flat_map sides ls)
    (all_sides_within limit ls (recursion_from_All (λ l. All (IsWithin limit) l) ls k))
