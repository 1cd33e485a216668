-- What the ends tell is so, and the sizes of what is handed on.
use Rattle.std.proofs.Common.{arith, subst, FitsSigned, ◌<ℤ◌}
use lib.Signed.{◌≤ℤ◌}
use Rattle.std.proofs.lemmas.Int.{ints, to_z-of_z}
use Rattle.scad_geom.specs.declared.point.Edge.{Edge}
use Rattle.scad_geom.proofs.Casts.{sizes, fits_by_size}
use Rattle.slice_bundles.proofs.Live.{reaches_is}
use Rattle.slice_sweep.specs.Strands.{head}
use Rattle.slice_sweep.proofs.Sides.{left_by_ends, right_by_ends}
use Rattle.slice_sweep.proofs.place.is_left.Goals as goal
use mir.Syntax.{w32, w128}

pub returns-then-lies_before : goal.returns-then-lies_before
returns-then-lies_before c =
    let f : Edge = head c.args.edges.now c.args.s.now.bundle in
    let at = c.args.at.now in
    let s = c.args.spot.now in
    let m = c.right_end.result in
    let m_fits : FitsSigned w32 m = record { sfits = c.right_end.type_inv } in
    let o : m <ℤ s.from = simp to_z-of_z at (c.lies_before.ensures c.if-lies_before.true) in
    let l = left_by_ends at c.requires.at.positive f (reaches_is f at at c.requires.reach) s.x s.up s.from s.to
    c.requires.between m (subst (λ (e : Edge). e.a.x ≤ℤ m) c.head-first.ensures.value c.right_end.ensures.a)
    (subst (λ (e : Edge). e.b.x ≤ℤ m) c.head-first.ensures.value c.right_end.ensures.b) o in
    omega (arith, ints, l)

pub returns-then-lies_behind : goal.returns-then-lies_behind
returns-then-lies_behind c =
    let f : Edge = head c.args.edges.now c.args.s.now.bundle in
    let at = c.args.at.now in
    let s = c.args.spot.now in
    let m = c.left_end.result in
    let m_fits : FitsSigned w32 m = record { sfits = c.left_end.type_inv } in
    let o : s.to <ℤ m = simp to_z-of_z at (c.lies_behind.ensures c.if-lies_behind.true) in
    let l = right_by_ends at c.requires.at.positive f (reaches_is f at at c.requires.reach) s.x s.up s.from s.to
    c.requires.between m (subst (λ (e : Edge). m ≤ℤ e.a.x) c.head-first.ensures.value c.left_end.ensures.a)
    (subst (λ (e : Edge). m ≤ℤ e.b.x) c.head-first.ensures.value c.left_end.ensures.b) o in
    omega (arith, ints, l)

pub is_left_of-requires-clause-x : goal.is_left_of-requires-clause-x
is_left_of-requires-clause-x c =
    let size = c.args.spot.now.x_size in
    omega (arith, sizes)

pub is_left_of-requires-clause-up : goal.is_left_of-requires-clause-up
is_left_of-requires-clause-up c =
    let size = c.args.spot.now.up_size in
    omega (arith, sizes)

pub is_left_of-requires-clause-within : goal.is_left_of-requires-clause-within
is_left_of-requires-clause-within c = c.requires.within

pub is_left_of-requires-clause-there : goal.is_left_of-requires-clause-there
is_left_of-requires-clause-there c = c.requires.there

pub is_left_of-requires-clause-at : goal.is_left_of-requires-clause-at
is_left_of-requires-clause-at c = c.requires.at

pub head-first-requires : goal.head-first-requires
head-first-requires c = record { there = c.requires.there }

pub returns : goal.returns
returns c =
    let s = c.args.spot.now in
    let x_size = s.x_size in
    let up_size = s.up_size in
    let x_fits : FitsSigned w128 s.x = fits_by_size w128 s.x (omega arith) in
    let up_fits : FitsSigned w128 s.up = fits_by_size w128 s.up (omega arith) in
    simp to_z-of_z at c.is_left_of.ensures
