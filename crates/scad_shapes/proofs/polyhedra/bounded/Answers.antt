use Rattle.std.proofs.Common.{◌≡◌, Err, length, map, ap, subst, ◌∙◌}
use Rattle.scad_base.specs.Memory.{UnlessMemory}
use Rattle.scad_solid.specs.Solid.{fans, corners, solid_of, is_memory}
use Rattle.scad_shapes.proofs.Solids.{solid_of-named, closed_as, closed_only, open_as, never_far, never_bad}
use Rattle.scad_shapes.proofs.TriangleCount.{polyhedron_count}
use Rattle.scad_shapes.proofs.polyhedra.bounded.Goals as goal

pub returns-in-Ok-clause-solid : goal.returns-in-Ok-clause-solid
returns-in-Ok-clause-solid c =
    closed_as c.in-Ok.solid (fans (map (corners c.args.points.now) c.args.faces.now))
    (c.in-Ok.ensures ∙ solid_of-named c.args.points.now c.args.faces.now c.requires.in_range c.requires.named)

pub returns-in-Ok-clause-count : goal.returns-in-Ok-clause-count
returns-in-Ok-clause-count c =
    ap length
    (closed_only c.in-Ok.solid (fans (map (corners c.args.points.now) c.args.faces.now))
    (c.in-Ok.ensures ∙ solid_of-named c.args.points.now c.args.faces.now c.requires.in_range c.requires.named))
    ∙ polyhedron_count c.args.points.now c.args.faces.now

pub returns-in-Err-NotClosed-clause-solid : goal.returns-in-Err-NotClosed-clause-solid
returns-in-Err-NotClosed-clause-solid c =
    let told = subst (λ r. UnlessMemory is_memory r (r ≡ solid_of c.args.points.now c.args.faces.now))
    (c.in-Err-NotClosed.is ∙ ap (λ e. Err e) c.in-Err-NotClosed.field-0-is) c.from_faces.ensures in
    open_as (fans (map (corners c.args.points.now) c.args.faces.now)) (told ∙ solid_of-named c.args.points.now
    c.args.faces.now c.requires.in_range c.requires.named)

pub unreachable-requires : goal.unreachable-requires
unreachable-requires c =
    let told = subst (λ r. UnlessMemory is_memory r (r ≡ solid_of c.args.points.now c.args.faces.now))
    (c.in-Err-BadIndex.is ∙ ap (λ e. Err e) c.in-Err-BadIndex.field-0-is) c.from_faces.ensures in
    never_bad (fans (map (corners c.args.points.now) c.args.faces.now)) c.in-Err-BadIndex.field-0-0
    (told ∙ solid_of-named c.args.points.now c.args.faces.now c.requires.in_range c.requires.named)

pub unreachable-requires-in-Err-CoordinateRange : goal.unreachable-requires-in-Err-CoordinateRange
unreachable-requires-in-Err-CoordinateRange c =
    let told = subst (λ r. UnlessMemory is_memory r (r ≡ solid_of c.args.points.now c.args.faces.now))
    (c.in-Err-CoordinateRange.is ∙ ap (λ e. Err e) c.in-Err-CoordinateRange.field-0-is) c.from_faces.ensures in
    never_far (fans (map (corners c.args.points.now) c.args.faces.now)) (told ∙ solid_of-named c.args.points.now
    c.args.faces.now c.requires.in_range c.requires.named)
