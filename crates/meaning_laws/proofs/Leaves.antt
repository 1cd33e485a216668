-- The leaves that a program makes are solids, within their limits, and are refused for what the source says alone.
use Rattle.std.proofs.Common.{ℕ, ℤ, Bool, List, [], ◌∷◌, ◌++◌, length, codes, Result, Ok, Err}
use Rattle.std.specs.Prelude.{nat_lt}
use Rattle.std.proofs.lemmas.List.Elements.{All-nil, All-push}
use Rattle.scad_fault.specs.declared.place.Place.{Place}
use Rattle.scad_fault.specs.declared.fault.FaultKind.TheVariants.{BadArgument as IsBad, NumberRange as IsNumberRange}
use Rattle.scad_fault.specs.declared.fault.FaultKind.TheVariants.{NotClosed as IsNotClosed, CoordinateRange as IsFar}
use Rattle.scad_fault.specs.declared.fault.FaultKind.TheVariants.{MixedDimensions}
use Rattle.scad_fault.specs.declared.budget.BudgetKind.TheVariants.{Depth, Triangles}
use Rattle.scad_ast.specs.Tree.{Arguments}
use Rattle.scad_value.specs.Datum.{Datum}
use Rattle.scad_scope.specs.Env.{Env}
use Rattle.scad_solid.specs.declared.triangle.Triangle.{Triangle}
use Rattle.scad_matrix.specs.declared.matrix.Matrix.{Matrix}
use Rattle.scad_matrix.specs.declared.matrix.MatrixFault.{MatrixFault}
use Rattle.scad_matrix.specs.declared.matrix.MatrixFault.TheVariants.{Range}
use Rattle.scad_shapes.specs.declared.fault.ShapeFault.{ShapeFault}
use Rattle.scad_shapes.specs.declared.fault.ShapeFault.TheVariants.{CoordinateRange, NotClosed, Memory}
use Rattle.scad_shapes.specs.Rings.{solid_of_rings}
use Rattle.scad_extrude.specs.declared.count.FlatForm.TheVariants.{Linear as Prism, Turned as Sweep}
use Rattle.scad_extrude.specs.Count.{triangles_of}
use Rattle.scad_extrude.specs.Linear.{linear_rings}
use Rattle.scad_extrude.specs.Revolution.{turned_of}
use Rattle.scad_modules.specs.declared.fault.ArgumentFault.TheVariants.{BadArgument, LeftOut, NumberRange}
use Rattle.scad_modules.specs.declared.fault.ArgumentFault.TheVariants.{Memory as NoMemory}
use Rattle.scad_modules.specs.declared.module.Flat.{Flat}
use Rattle.scad_modules.specs.declared.module.Shape.{Shape}
use Rattle.scad_modules.specs.FlatShapes.{outlines_of}
use Rattle.scad_modules.specs.Outline.{Pair, Outline, points_in, ring_of}
use Rattle.scad_modules.specs.Primitive.{Primitive, solid_of}
use Rattle.scad_modules.specs.Primitive.{triangles_of as primitive_triangles}
use Rattle.scad_modules.specs.Profile.{profile_of, turns_of, crosses_axis}
use Rattle.scad_modules.specs.Reading.{Read}
use Rattle.scad_modules.specs.Shapes.{primitive_of}
use Rattle.scad_tree.specs.Nesting.{nesting}
use Rattle.scad_tree.specs.Normal.{subtracted}
use Rattle.scad_tree.specs.Solid.{Solid, surface}
use Rattle.scad_tree.specs.Solids.{AreSolids}
use Rattle.scad_shapes.specs.Limits.{triangle_limit}
use Rattle.scad_leaves.specs.declared.space.Space.{Space}
use Rattle.scad_leaves.specs.declared.space.Space.TheVariants.{Solid as Outside, Linear, Turned}
use Rattle.scad_leaves.specs.declared.space.Turning.{Turning}
use Rattle.scad_leaves.specs.declared.space.Where.{Where}
use Rattle.scad_leaves.specs.Fineness.{fineness}
use Rattle.scad_leaves.specs.FlatLeaves.{linear_leaf, judge_points, judge_sides, swept, profile_turned, turned_leaf, leaf_in, flat_leaves}
use Rattle.scad_leaves.specs.Products.{tree_limit, placed, leaf, argued, placed_by, judge_solid, judge_flat, judged}
use Rattle.scad_leaves.specs.Shapes.{primitive_made, first_without_others, flat_made}
use Rattle.meaning_laws.proofs.MemoryWants.{Reads}
use Rattle.meaning_laws.proofs.ReadFlat.{reads-profile, reads-outlines}
use Rattle.meaning_laws.proofs.ReadSolids.{reads-primitive}
use Rattle.meaning_laws.proofs.Surfaces.{IsSolidOr, solid-primitive, solid-linear, solid-turned}
use Rattle.meaning_laws.proofs.Trees.{AllSolids, solids-surface, solids-subtracted}
use Rattle.meaning_laws.proofs.Keeping.{Any, Keeps, bind, either, keeps-pure, keeps-refuse, keeps-fault, keeps-fault_of}
use Rattle.meaning_laws.proofs.Keeping.{keeps-over, keeps-count_leaf, keeps-count_triangles}
use Rattle.meaning_laws.proofs.Profiles.{keeps-keep_profile}

-- ---- judgements
pub keeps-argued : {A : Type 0} (at : Place) (name : List ℕ) (r : Read A) → Reads r → Keeps Any (argued at name r)
unfolding argued
keeps-argued at name (Ok a) reads = keeps-pure a tt
keeps-argued at name (Err BadArgument) reads = keeps-refuse _ tt
keeps-argued at name (Err LeftOut) reads = keeps-refuse _ tt
keeps-argued at name (Err NumberRange) reads = keeps-refuse _ tt
keeps-argued at name (Err NoMemory) reads = keeps-refuse _ reads.is

pub keeps-placed_by : (at : Place) (r : Result Where MatrixFault) → Keeps Any (placed_by at r)
unfolding placed_by
keeps-placed_by at (Ok w) = keeps-pure w tt
keeps-placed_by at (Err Range) = keeps-fault IsNumberRange at

pub keeps-judge_solid : (at : Place) (space : Space) → Keeps Any (judge_solid at space)
unfolding judge_solid
keeps-judge_solid at Outside = keeps-pure (tt {0}) tt
keeps-judge_solid at (Linear height center) = keeps-fault MixedDimensions at
keeps-judge_solid at (Turned t) = keeps-fault MixedDimensions at

pub keeps-judge_flat : (at : Place) (space : Space) → Keeps Any (judge_flat at space)
unfolding judge_flat
keeps-judge_flat at Outside = keeps-fault MixedDimensions at
keeps-judge_flat at (Linear height center) = keeps-pure (tt {0}) tt
keeps-judge_flat at (Turned t) = keeps-pure (tt {0}) tt

pub keeps-judged : (at : Place) (s : Solid) → AreSolids s → Keeps AreSolids (judged at s)
unfolding judged
keeps-judged at s solid = either (nat_lt tree_limit (nesting s)) (keeps-over Depth at) (keeps-pure s solid)

pub keeps-judge_points : (at : Place) (count : ℕ) → Keeps Any (judge_points at count)
unfolding judge_points
keeps-judge_points at count = either (nat_lt triangle_limit count) (keeps-over Triangles at) (keeps-pure (tt {0}) tt)

pub keeps-judge_sides : (word : Place) (ring : List Pair) → Keeps Any (judge_sides word ring)
unfolding judge_sides
keeps-judge_sides word ring =
    either (crosses_axis ring) (keeps-fault_of IsBad word (codes "rotate_extrude")) (keeps-pure (tt {0}) tt)

-- ---- primitives
keeps-placed : (at : Place) (r : Result (List Triangle) ShapeFault) → IsSolidOr r → Keeps AreSolids (placed at r)
unfolding placed
keeps-placed at (Ok ts) solid = keeps-pure (surface ts) (solids-surface ts solid)
keeps-placed at (Err CoordinateRange) solid = keeps-fault IsFar at
keeps-placed at (Err NotClosed) solid = keeps-fault IsNotClosed at
keeps-placed at (Err Memory) solid = keeps-refuse _ solid

keeps-leaf : (at : Place) (p : Primitive) (m : Matrix) → Keeps AreSolids (leaf at p m)
unfolding leaf
keeps-leaf at p m =
    bind (keeps-count_leaf at) (λ _ _. bind (keeps-count_triangles (primitive_triangles p) at) (λ _ _.
    keeps-placed at (solid_of p m) (solid-primitive p m)))

-- ---- inside extrusions
keeps-linear : (at : Place) (o : Outline) (height : ℤ) (center : Bool) (whole : Matrix)
    → Keeps AreSolids (linear_leaf at o height center whole)
unfolding linear_leaf
keeps-linear at o height center whole =
    bind (keeps-count_leaf at) (λ _ _. bind (keeps-count_triangles (triangles_of (Prism (points_in o))) at) (λ _ _.
    keeps-placed at (solid_of_rings (linear_rings (ring_of o) height center whole))
    (solid-linear (ring_of o) height center whole)))

pub keeps-swept : (at : Place) (ring : List Pair) (t : Turning) (whole : Matrix) → Keeps AreSolids (swept at ring t whole)
unfolding swept
keeps-swept at ring t whole =
    let turns = turns_of t.resolution ring in
    bind (keeps-count_triangles (triangles_of (Sweep (length ring) turns)) at) (λ _ _.
    keeps-placed at (turned_of ring turns whole) (solid-turned ring turns whole))

keeps-turned : (at : Place) (name : List ℕ) (o : Outline) (t : Turning) (whole : Matrix)
    → Keeps AreSolids (turned_leaf at name o t whole)
unfolding turned_leaf profile_turned
keeps-turned at name o t whole =
    bind (keeps-count_leaf at) (λ _ _. bind (keeps-judge_points at (points_in o)) (λ _ _.
    bind (keeps-argued at name (profile_of t.profile (ring_of o)) (reads-profile t.profile (ring_of o))) (λ ring _.
    bind (keeps-judge_sides t.word ring) (λ _ _. bind (keeps-keep_profile ring) (λ _ _.
    keeps-swept at ring t whole)))))

keeps-leaf_in : (at : Place) (name : List ℕ) (o : Outline) (whole : Matrix) (space : Space)
    → Keeps AreSolids (leaf_in at name o whole space)
unfolding leaf_in
keeps-leaf_in at name o whole Outside = keeps-fault MixedDimensions at
keeps-leaf_in at name o whole (Linear height center) = keeps-linear at o height center whole
keeps-leaf_in at name o whole (Turned t) = keeps-turned at name o t whole

keeps-flat : (at : Place) (name : List ℕ) (w : Where) (all : List Outline) (so_far : List Solid) → AllSolids so_far
    → Keeps AllSolids (flat_leaves at name w all so_far)
unfolding flat_leaves
keeps-flat at name w [] so_far solids = keeps-pure so_far solids
keeps-flat at name w (o ∷ more) so_far solids =
    bind (keeps-leaf_in at name o w.whole w.space) (λ s solid.
    keeps-flat at name w more (so_far ++ s ∷ []) (All-push AreSolids so_far s solids solid))

-- ---- calls of shapes
pub keeps-primitive : (s : Shape) (at : Place) (name : List ℕ) (w : Where) (env along : Env) (args : Arguments)
    (found : List Datum) → Keeps AreSolids (primitive_made s at name w env along args found)
unfolding primitive_made
keeps-primitive s at name w env along args found =
    let fine = fineness env along in
    bind (keeps-judge_solid at w.space) (λ _ _.
    bind (keeps-argued at name (primitive_of s fine args found) (reads-primitive s fine args found)) (λ p _.
    keeps-leaf at p w.whole))

keeps-first : (at : Place) (name : List ℕ) (w : Where) (os : List Outline)
    → Keeps AreSolids (first_without_others at name w os)
unfolding first_without_others
keeps-first at name w os =
    bind (keeps-flat at name w os [] (All-nil AreSolids)) (λ ss solids.
    keeps-judged at (subtracted ss) (solids-subtracted ss solids))

pub keeps-flat_made : (f : Flat) (at : Place) (name : List ℕ) (w : Where) (env along : Env) (args : Arguments)
    (found : List Datum) → Keeps AreSolids (flat_made f at name w env along args found)
unfolding flat_made
keeps-flat_made f at name w env along args found =
    let fine = fineness env along in
    bind (keeps-judge_flat at w.space) (λ _ _.
    bind (keeps-argued at name (outlines_of f fine args found) (reads-outlines f fine args found)) (λ os _.
    keeps-first at name w os))
