-- The winding number of a leaf's edges, edge by edge of the whole list, and what a shape holds by such numbers.
use Rattle.std.proofs.Common.{◌≡◌, ℕ, Bool, true, false, cond, not, List, [], ◌∷◌, map, refl, sym, ap, ◌∙◌}
use mathlib.Core.Path.{fun_ext}
use lib.IntN.{ℤ, pos, ◌+ℤ◌, +ℤ_idl}
use Rattle.std.specs.Prelude.{if◌then◌else◌, ◌==◌, filter}
use Rattle.scad_geom.specs.declared.level.LeafEdge.{LeafEdge}
use Rattle.scad_geom.specs.declared.shape.Shape.{Shape}
use Rattle.scad_geom.specs.Point.{Point, whole}
use Rattle.scad_geom.specs.Segment.{segments}
use Rattle.scad_geom.specs.Winding.{turn, wind_by}
use Rattle.scad_geom.specs.Leaves.{edges_of}
use Rattle.scad_geom.specs.Sign.{is_zero}
use Rattle.scad_geom.specs.Shape.{shape_holds, is_in_by}

-- each edge's turn, where it is of the leaf
abbrev pub wind_leaf : Bool → Bool → Point → ℕ → List LeafEdge → ℤ
wind_leaf above right p leaf [] = pos 0
wind_leaf above right p leaf (e ∷ es) = (if e.leaf == leaf then turn above right p (whole e.edge.a) (whole e.edge.b)
    else pos 0) +ℤ wind_leaf above right p leaf es

pub wind_leaf-is : (above right : Bool) (p : Point) (leaf : ℕ) (es : List LeafEdge)
    → wind_by above right p (segments (edges_of leaf es)) ≡ wind_leaf above right p leaf es
wind_leaf-is above right p leaf [] = refl
wind_leaf-is above right p leaf (e ∷ es) = by_test (e.leaf == leaf) (wind_leaf-is above right p leaf es)
  where
    by_test : (t : Bool) → wind_by above right p (segments (edges_of leaf es)) ≡ wind_leaf above right p leaf es
        → wind_by above right p
        (segments (map (λ d. d.edge) (cond t (e ∷ filter (λ d. d.leaf == leaf) es)
        (filter (λ d. d.leaf == leaf) es))))
        ≡ (if t then turn above right p (whole e.edge.a) (whole e.edge.b) else pos 0) +ℤ wind_leaf above right p leaf es
    by_test true r = ap (λ (z : ℤ). turn above right p (whole e.edge.a) (whole e.edge.b) +ℤ z) r
    by_test false r = r ∙ sym (+ℤ_idl (wind_leaf above right p leaf es))

-- what a shape holds by its leaves' numbers
pub held_by_numbers : (above right : Bool) (p : Point) (es : List LeafEdge) (shape : Shape) (f : ℕ → ℤ)
    → ((leaf : ℕ) → wind_leaf above right p leaf es ≡ f leaf)
    → is_in_by above right es shape p ≡ shape_holds (λ leaf. not (is_zero (f leaf))) shape
unfolding is_in_by
held_by_numbers above right p es shape f h =
    ap (λ (g : ℕ → Bool). shape_holds g shape)
    (fun_ext (λ leaf. ap (λ (z : ℤ). not (is_zero z)) (wind_leaf-is above right p leaf es ∙ h leaf)))

-- hard by two points, or of two lists, with the same numbers it holds the same
pub held_alike : (above right : Bool) (p : Point) (es : List LeafEdge) (beyond to : Bool) (q : Point)
    (fs : List LeafEdge) (shape : Shape)
    → ((leaf : ℕ) → wind_leaf above right p leaf es ≡ wind_leaf beyond to q leaf fs) → is_in_by above right es shape p
    ≡ is_in_by beyond to fs shape q
held_alike above right p es beyond to q fs shape h =
    held_by_numbers above right p es shape (λ leaf. wind_leaf beyond to q leaf fs) h
    ∙ sym (held_by_numbers beyond to q fs shape (λ leaf. wind_leaf beyond to q leaf fs) (λ leaf. refl))
