-- The points of a tree by its parts, and that they are in range where those of its parts are.
use Rattle.std.proofs.Common.{◌≡◌, ℕ, zero, suc, arith, ◌+◌, ◌<◌, ◌≤◌, true, ◌&&◌, List, [], ◌∷◌, ◌++◌, length, get_or, drop, refl, sym, ap, ap₂, ◌∙◌, append_assoc}
use lib.IntN.{pos}
use Rattle.std.specs.List.{list_all}
use Rattle.std.proofs.lemmas.Bool.{and_parts}
use Rattle.std.proofs.lemmas.Grind.{flat_map-append}
use Rattle.std.proofs.lemmas.List.{append-nil, drop_more, drop_all}
use Rattle.std.proofs.lemmas.List.Folds.{list_all-append}
use Rattle.scad_geom.specs.PointRange.{is_in_range}
use Rattle.scad_geom.specs.declared.point3.Pt3.{Pt3}
use Rattle.scad_solid.specs.Range.{is_triangle_in_range}
use Rattle.scad_solid.specs.declared.triangle.Triangle.{Triangle}
use Rattle.scad_tree.specs.declared.node.Node.{Node}
use Rattle.scad_tree.specs.Order.{surfaces, all_surfaces}
use Rattle.scad_tree.specs.Points.{corners_of, corners, points_of, all_points}
use Rattle.scad_tree.specs.Solid.{Solid, Solids, surface, difference, member, members}
use Rattle.scad_tree.specs.View.{solid_of, solids}
use Rattle.scad_tree.proofs.Rows.{left-more, left-none}

-- ---- of a tree
pub points-surface : (ts : List Triangle) → points_of (surface ts) ≡ corners ts
points-surface ts = append-nil (corners ts)

pub points-difference : (first : Solid) (rest : Solids)
    → points_of (difference first rest) ≡ points_of first ++ all_points rest
points-difference first rest = flat_map-append corners (surfaces first) (all_surfaces rest)

pub points-member : (s : Solid) (rest : Solids) → all_points (member s rest) ≡ points_of s ++ all_points rest
points-member s rest = flat_map-append corners (surfaces s) (all_surfaces rest)

pub ruleset by_parts = (points-surface, points-difference, points-member)

-- one node more
pub points-more : (all : List Node) (i : ℕ) (n : Node) (old new whole : List Pt3) → i < length all → n ≡ get_or all i n
    → new ≡ old ++ points_of (solid_of n) → old ++ all_points (members (solids (drop i all))) ≡ whole
    → new ++ all_points (members (solids (drop (i + 1) all))) ≡ whole
points-more all i n old new whole below is pushed so_far =
    let rest = all_points (members (solids (drop (i + 1) all))) in
    ap (λ (l : List Pt3). l ++ rest) pushed ∙ append_assoc old (points_of (solid_of n)) rest
    ∙ ap (λ (l : List Pt3). old ++ l) (sym (points-member (solid_of n) (members (solids (drop (i + 1) all)))))
    ∙ ap (λ ms. old ++ all_points ms) (sym (left-more all i n below is)) ∙ so_far

pub points-end : (all : List Node) (i : ℕ) (out whole : List Pt3) → length all ≤ i
    → out ++ all_points (members (solids (drop i all))) ≡ whole → out ≡ whole
points-end all i out whole past so_far =
    sym (append-nil out) ∙ ap (λ ms. out ++ all_points ms) (sym (left-none all i past)) ∙ so_far

-- ---- of triangles
-- one more
pub corners-more : (all : List Triangle) (i : ℕ) (d : Triangle) (old new whole : List Pt3) → i < length all
    → new ≡ old ++ corners_of (get_or all i d) → old ++ corners (drop i all) ≡ whole
    → new ++ corners (drop (i + 1) all) ≡ whole
corners-more all i d old new whole below pushed so_far =
    let here = corners_of (get_or all i d) in
    let rest = corners (drop (i + 1) all) in
    ap (λ (l : List Pt3). l ++ rest) pushed ∙ append_assoc old here rest
    ∙ ap (λ (ts : List Triangle). old ++ corners ts) (sym (drop_more all i d below)) ∙ so_far

pub corners-end : (all : List Triangle) (i : ℕ) (out whole : List Pt3) → length all ≤ i
    → out ++ corners (drop i all) ≡ whole → out ≡ whole
corners-end all i out whole past so_far =
    sym (append-nil out) ∙ ap (λ (ts : List Triangle). out ++ corners ts) (sym (drop_all i all past)) ∙ so_far

-- its corners, one after another
pub three-pushed : (old first second third : List Pt3) (t : Triangle) → first ≡ old ++ t.a ∷ []
    → second ≡ first ++ t.b ∷ [] → third ≡ second ++ t.c ∷ [] → third ≡ old ++ corners_of t
three-pushed old first second third t a b c =
    c ∙ ap (λ (l : List Pt3). l ++ t.c ∷ []) (b ∙ ap (λ (l : List Pt3). l ++ t.b ∷ []) a
    ∙ append_assoc old (t.a ∷ []) (t.b ∷ [])) ∙ append_assoc old (t.a ∷ t.b ∷ []) (t.c ∷ [])

-- the corners of a triangle in range are in range
pub corners-range : (t : Triangle) → is_triangle_in_range t ≡ true → list_all is_in_range (corners_of t) ≡ true
corners-range t ranged =
    let a = and_parts (is_in_range t.a) (is_in_range t.b && is_in_range t.c) ranged in
    let b = and_parts (is_in_range t.b) (is_in_range t.c) a.1 in
    ap₂ (λ x y. x && y) a.0 (ap₂ (λ x y. x && y) b.0 (ap₂ (λ x y. x && y) b.1 refl))

pub range-both : (ps qs : List Pt3) → list_all is_in_range ps ≡ true → list_all is_in_range qs ≡ true
    → list_all is_in_range (ps ++ qs) ≡ true
range-both ps qs first rest = list_all-append is_in_range ps qs ∙ ap₂ (λ x y. x && y) first rest

-- one triangle of those in range
pub triangle-at : (all : List Triangle) (i : ℕ) (d : Triangle) → list_all is_triangle_in_range all ≡ true
    → i < length all → is_triangle_in_range (get_or all i d) ≡ true
triangle-at [] i d ranged below = absurd (omega (arith, below))
triangle-at (t ∷ all) zero d ranged below =
    (and_parts (is_triangle_in_range t) (list_all is_triangle_in_range all) ranged).0
triangle-at (t ∷ all) (suc i) d ranged below =
    triangle-at all i d (and_parts (is_triangle_in_range t) (list_all is_triangle_in_range all) ranged).1
    (omega (arith, below))

-- what a loop over triangles gives past their end
abbrev no_point : Pt3
no_point = record { x = pos 0; y = pos 0; z = pos 0 }

abbrev pub no_triangle : Triangle
no_triangle = record { a = no_point; b = no_point; c = no_point }

pub ruleset nodes_left = (points-more, points-end)

pub ruleset triangles_left = (corners-more, corners-end, corners-range, range-both, triangle-at)
