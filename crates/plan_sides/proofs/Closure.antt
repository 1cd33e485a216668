-- The sides of a closed way come back to where they start.
use Rattle.std.proofs.Common.{◌≡◌, ◌+◌, List, [], ◌∷◌, ◌++◌, refl, arith}
use Rattle.std.specs.Prelude.{flat_map}
use Rattle.scad_geom.specs.declared.point.Pt.{Pt}
use Rattle.scad_geom.specs.declared.point.Edge.{Edge}
use Rattle.scad_geom.specs.Point.{Point, whole, is_same_point}
use Rattle.scad_geom.specs.Segment.{segments}
use Rattle.scad_geom.specs.Loop.{path, sides}
use Rattle.scad_geom.specs.Balance.{starts_at, ends_at}
use Rattle.scad_geom.proofs.Balance.{once, starts-cons, ends-cons}
use Rattle.plan_sides.specs.Closure.{SidesAreBalanced}

-- along a way and what follows it, the ends but for the last are the starts but for the first
along : (q : Point) (from : Pt) (ps : List Pt) (last : Pt) (es : List Edge)
    → starts_at q (segments (path from ps last ++ es)) + once (is_same_point q (whole last)) + ends_at q (segments es)
    ≡ ends_at q (segments (path from ps last ++ es)) + once (is_same_point q (whole from)) + starts_at q (segments es)
along q from [] last es =
    let s = starts-cons q (record { from = whole from; to = whole last }) (segments es) in
    let e = ends-cons q (record { from = whole from; to = whole last }) (segments es) in
    omega (arith, s, e)
along q from (p ∷ ps) last es =
    let s = starts-cons q (record { from = whole from; to = whole p }) (segments (path p ps last ++ es)) in
    let e = ends-cons q (record { from = whole from; to = whole p }) (segments (path p ps last ++ es)) in
    let h = along q p ps last es in
    omega (arith, s, e, h)

round : (q : Point) (points : List Pt) (es : List Edge) → starts_at q (segments es) ≡ ends_at q (segments es)
    → starts_at q (segments (sides points ++ es)) ≡ ends_at q (segments (sides points ++ es))
round q [] es h = h
round q (p ∷ ps) es h = let a = along q p ps p es in omega (arith, a, h)

pub sides_balanced : SidesAreBalanced
sides_balanced outlines = record { each = λ q some. all q outlines }
  where
    all : (q : Point) (outlines : List (List Pt)) → starts_at q (segments (flat_map sides outlines))
        ≡ ends_at q (segments (flat_map sides outlines))
    all q [] = refl
    all q (l ∷ ls) = round q l (flat_map sides ls) (all q ls)
