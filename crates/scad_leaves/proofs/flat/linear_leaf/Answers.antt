-- A leaf inside `linear_extrude` is counted, then its triangles are, and then it is placed.
use Rattle.std.proofs.Common.{◌≡◌, ℕ, ℤ, Bool, List, ◌∙◌, subst}
use Rattle.scad_base.specs.Memory.{UnlessMemory}
use Rattle.scad_fault.specs.declared.place.Place.{Place}
use Rattle.scad_matrix.specs.declared.matrix.Matrix.{Matrix}
use Rattle.scad_shapes.specs.Faults.{is_memory}
use Rattle.scad_shapes.specs.Rings.{solid_of_rings}
use Rattle.scad_extrude.specs.declared.count.FlatForm.TheVariants.{Linear as Prism}
use Rattle.scad_extrude.specs.Count.{triangles_of}
use Rattle.scad_extrude.specs.Linear.{linear_rings}
use Rattle.scad_modules.specs.Outline.{Pair, Outline, points_in, ring_of}
use Rattle.scad_modules.specs.View.{outline}
use Rattle.scad_machine.specs.Machine.{state_of}
use Rattle.scad_machine.specs.State.{State, gives}
use Rattle.scad_leaves.specs.FlatLeaves.{linear_leaf}
use Rattle.scad_leaves.specs.Products.{count_leaf, count_triangles, placed}
use Rattle.scad_leaves.proofs.flat.linear_leaf.Goals as goal

prism-placed : (at : Place) (o : Outline) (height : ℤ) (center : Bool) (whole : Matrix) (s s1 s2 : State) (n : ℕ)
    → count_leaf at s ≡ gives tt s1 → count_triangles (triangles_of (Prism n)) at s1 ≡ gives tt s2 → n ≡ points_in o
    → linear_leaf at o height center whole s
    ≡ placed at (solid_of_rings (linear_rings (ring_of o) height center whole)) s2
unfolding linear_leaf
prism-placed at o height center whole s s1 s2 n counted prism is = rw (counted, ← is, prism)

pub returns-clause-does : goal.returns-clause-does
returns-clause-does c =
    let leaf = c.args.leaf in
    let after = state_of c.count_prism.new.m in
    rw (prism-placed leaf.at (outline leaf.shape.now) c.args.height c.args.center leaf.whole.now
    (state_of c.args.m.now) (state_of c.count_leaf.new.m) after _ c.in_ok-count_leaf.ensures.does
    c.in_ok-count_prism.ensures.does (cc))
    (c.placed.ensures (solid_of_rings (linear_rings (ring_of (outline leaf.shape.now)) c.args.height c.args.center
    leaf.whole.now)) after
    (subst (λ (ring : List Pair). UnlessMemory is_memory c.linear.result
    (c.linear.result ≡ solid_of_rings (linear_rings ring c.args.height c.args.center leaf.whole.now)))
    (c.deref.ensures.value ∙ c.in_ok-ring.ensures.ring) c.linear.ensures.solid))
