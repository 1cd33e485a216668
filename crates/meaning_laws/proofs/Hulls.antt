-- A hull is a solid, and is refused for what the source says alone.
use Rattle.std.proofs.Common.{◌≡◌, ℕ, Bool, true, false, ◌&&◌, List, [], ◌∷◌, ◌++◌, length, Option, Some, None, Result, Ok, Err, refl, ap₂, if◌then◌else◌}
use Rattle.std.specs.Prelude.{All, nat_lt}
use Rattle.std.specs.List.{flat_map, list_all}
use Rattle.std.proofs.lemmas.Bool.{and_parts}
use Rattle.std.proofs.lemmas.List.Elements.{All-head, All-tail}
use Rattle.scad_fault.specs.declared.place.Place.{Place}
use Rattle.scad_fault.specs.declared.fault.FaultKind.TheVariants.{LeftOut as IsLeftOut}
use Rattle.scad_geom.specs.PointRange.{is_in_range}
use Rattle.scad_geom.specs.declared.point3.Pt3.{Pt3}
use Rattle.scad_solid.specs.Range.{is_triangle_in_range}
use Rattle.scad_solid.specs.Solid.{IsSolid, fans}
use Rattle.scad_solid.specs.declared.triangle.Triangle.{Triangle}
use Rattle.scad_matrix.specs.declared.matrix.Matrix.{Matrix}
use Rattle.scad_hull.specs.declared.fault.HullFault.{HullFault}
use Rattle.scad_hull.specs.declared.fault.HullFault.TheVariants.{Points, Memory}
use Rattle.scad_hull.specs.Chain.{ring_round}
use Rattle.scad_hull.specs.Distinct.{distinct}
use Rattle.scad_hull.specs.Faces.{are_flat, faces_of, hull_of}
use Rattle.scad_hull.specs.Flat.{are_on_line, flat_cmp, flat_left, point_count_limit, ring_hull_of}
use Rattle.scad_hull.specs.Space.{space_cmp}
use Rattle.hull_laws.proofs.Solids.{hulls_are_solids}
use Rattle.scad_modules.specs.Outline.{Pair}
use Rattle.scad_tree.specs.Order.{surfaces}
use Rattle.scad_tree.specs.Points.{corners, points_of, is_united}
use Rattle.scad_tree.specs.Solid.{Solid, nothing, surface}
use Rattle.scad_tree.specs.Solids.{AreSolids}
use Rattle.scad_leaves.specs.declared.space.Space.{Space}
use Rattle.scad_leaves.specs.declared.space.Space.TheVariants.{Solid as Outside, Linear, Turned}
use Rattle.scad_leaves.specs.declared.space.Turning.{Turning}
use Rattle.scad_leaves.specs.declared.space.Where.{Where}
use Rattle.scad_leaves.specs.Hulls.{judge_united, hulled, hull_leaf, solid_hull, hull_profile, turned_hull, hull_in, hull_made}
use Rattle.meaning_laws.proofs.Keeping.{Any, Keeps, bind, either, keeps-pure, keeps-refuse, keeps-fault_of}
use Rattle.meaning_laws.proofs.Keeping.{keeps-count_leaf, keeps-count_triangles}
use Rattle.meaning_laws.proofs.Leaves.{keeps-judge_points, keeps-judge_sides, keeps-swept}
use Rattle.meaning_laws.proofs.Profiles.{keeps-profiles_from, keeps-replace_profiles}
use Rattle.meaning_laws.proofs.Trees.{solids-nothing, solids-surface}

-- ---- the corners of solids are in range
-- both parts of a list are, where each is
both-in : (ps qs : List Pt3) → list_all is_in_range ps ≡ true → list_all is_in_range qs ≡ true
    → list_all is_in_range (ps ++ qs) ≡ true
both-in [] qs first rest = rest
both-in (p ∷ ps) qs first rest =
    let parts = and_parts (is_in_range p) (list_all is_in_range ps) first in
    ap₂ (λ a b. a && b) parts.0 (both-in ps qs parts.1 rest)

corners-in : (ts : List Triangle) → list_all is_triangle_in_range ts ≡ true → list_all is_in_range (corners ts) ≡ true
corners-in [] all = refl
corners-in (t ∷ ts) all =
    let parts = and_parts (is_triangle_in_range t) (list_all is_triangle_in_range ts) all in
    let a = and_parts (is_in_range t.a) (is_in_range t.b && is_in_range t.c) parts.0 in
    let b = and_parts (is_in_range t.b) (is_in_range t.c) a.1 in
    ap₂ (λ x y. x && y) a.0 (ap₂ (λ x y. x && y) b.0 (ap₂ (λ x y. x && y) b.1 (corners-in ts parts.1)))

points-in : (surfaces : List (List Triangle)) → All IsSolid surfaces → list_all is_in_range (flat_map corners surfaces) ≡ true
points-in [] all = refl
points-in (ts ∷ more) all =
    both-in (corners ts) (flat_map corners more) (corners-in ts (All-head IsSolid ts more all).in_range)
    (points-in more (All-tail IsSolid ts more all))

-- ---- what the hulls of points are
-- a solid where there is one; and never a want of memory
abbrev IsSolidHull : Option (List Triangle) → Type 0
IsSolidHull None = Unit {0}
IsSolidHull (Some ts) = IsSolid ts

abbrev GivesSolid : Result (Option (List Triangle)) HullFault → Type 0
GivesSolid (Ok o) = IsSolidHull o
GivesSolid (Err (Points count)) = Unit {0}
GivesSolid (Err Memory) = ⊥

abbrev GivesAny : {A : Type 0} → Result (Option A) HullFault → Type 0
GivesAny (Ok o) = Unit {0}
GivesAny (Err (Points count)) = Unit {0}
GivesAny (Err Memory) = ⊥

limited : {A : Type 0} (b : Bool) (count : ℕ) (o : Option A) → GivesAny (if b then Err (Points count) else Ok o)
limited true count o = tt
limited false count o = tt

hull-any : (points : List Pt3) → GivesAny (hull_of points)
hull-any points =
    let ps = distinct space_cmp points in
    limited (nat_lt point_count_limit (length ps)) (length ps) (if are_flat ps then None else Some (fans (faces_of ps)))

ring-any : (points : List Pair) → GivesAny (ring_hull_of points)
ring-any points =
    let ps = distinct flat_cmp points in
    limited (nat_lt point_count_limit (length ps)) (length ps)
    (if are_on_line ps then None else Some (ring_round flat_left ps))

solid-given : (points : List Pt3) → list_all is_in_range points ≡ true → (r : Result (Option (List Triangle)) HullFault)
    → hull_of points ≡ r → GivesAny r → GivesSolid r
solid-given points range (Ok None) is any = tt
solid-given points range (Ok (Some ts)) is any = hulls_are_solids.each points ts range is
solid-given points range (Err (Points count)) is any = tt
solid-given points range (Err Memory) is any = any

-- ---- the rules
keeps-hulled : (at : Place) (r : Result (Option (List Triangle)) HullFault) → GivesSolid r
    → Keeps IsSolidHull (hulled at r)
unfolding hulled
keeps-hulled at (Ok o) given = keeps-pure o given
keeps-hulled at (Err (Points count)) given = keeps-refuse _ tt
keeps-hulled at (Err Memory) given = absurd given

keeps-ring : (at : Place) (r : Result (Option (List Pair)) HullFault) → GivesAny r → Keeps Any (hulled at r)
unfolding hulled
keeps-ring at (Ok o) given = keeps-pure o tt
keeps-ring at (Err (Points count)) given = keeps-refuse _ tt
keeps-ring at (Err Memory) given = absurd given

keeps-hull_leaf : (at : Place) (o : Option (List Triangle)) → IsSolidHull o → Keeps AreSolids (hull_leaf at o)
unfolding hull_leaf
keeps-hull_leaf at None solid = keeps-pure nothing solids-nothing
keeps-hull_leaf at (Some ts) solid =
    bind (keeps-count_leaf at) (λ _ _. bind (keeps-count_triangles (length ts) at) (λ _ _.
    keeps-pure (surface ts) (solids-surface ts solid)))

keeps-solid_hull : (at : Place) (t : Solid) → AreSolids t → Keeps AreSolids (solid_hull at t)
unfolding solid_hull
keeps-solid_hull at t solids =
    let points = points_of t in
    bind (keeps-hulled at (hull_of points) (solid-given points (points-in (surfaces t) solids) (hull_of points) refl
    (hull-any points))) (λ o solid. keeps-hull_leaf at o solid)

keeps-hull_profile : (at : Place) (from : ℕ) (t : Turning) (whole : Matrix) (o : Option (List Pair))
    → Keeps AreSolids (hull_profile at from t whole o)
unfolding hull_profile
keeps-hull_profile at from t whole None = keeps-pure nothing solids-nothing
keeps-hull_profile at from t whole (Some ring) =
    bind (keeps-count_leaf at) (λ _ _. bind (keeps-judge_points at (length ring)) (λ _ _.
    bind (keeps-judge_sides t.word ring) (λ _ _. bind (keeps-replace_profiles from ring) (λ _ _.
    keeps-swept at ring t whole))))

keeps-turned_hull : (at : Place) (from : ℕ) (t : Turning) (whole : Matrix)
    → Keeps AreSolids (turned_hull at from t whole)
unfolding turned_hull
keeps-turned_hull at from t whole =
    bind (keeps-profiles_from from) (λ points _. bind (keeps-ring at (ring_hull_of points) (ring-any points)) (λ o _.
    keeps-hull_profile at from t whole o))

keeps-hull_in : (at : Place) (from : ℕ) (whole : Matrix) (space : Space) (t : Solid) → AreSolids t
    → Keeps AreSolids (hull_in at from whole space t)
unfolding hull_in
keeps-hull_in at from whole Outside t solids = keeps-solid_hull at t solids
keeps-hull_in at from whole (Linear height center) t solids = keeps-solid_hull at t solids
keeps-hull_in at from whole (Turned turning) t solids = keeps-turned_hull at from turning whole

keeps-judge_united : (at : Place) (name : List ℕ) (t : Solid) → Keeps Any (judge_united at name t)
unfolding judge_united
keeps-judge_united at name t = either (is_united t) (keeps-pure (tt {0}) tt) (keeps-fault_of IsLeftOut at name)

pub keeps-hull_made : (at : Place) (name : List ℕ) (w : Where) (from : ℕ) (t : Solid) → AreSolids t
    → Keeps AreSolids (hull_made at name w from t)
unfolding hull_made
keeps-hull_made at name w from t solids =
    bind (keeps-judge_united at name t) (λ _ _. keeps-hull_in at from w.whole w.space t solids)
