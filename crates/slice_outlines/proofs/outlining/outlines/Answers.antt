-- What holds of all outlines that meet the definition.
use Rattle.std.proofs.Common.{ℕ, ◌<◌, ◌≤◌, refl, sym, subst, All, arith}
use Rattle.scad_geom.specs.Limits.{coordinate_limit}
use Rattle.scad_geom.specs.Level.{IsLevelWithin}
use Rattle.slice_events.specs.Levels.{AreLevels}
use Rattle.slice_border.proofs.Membership.{outlines_hold_centres}
use Rattle.slice_border.proofs.NearBorder.{outlines_are_near_border}
use Rattle.slice_outlines.proofs.outlining.outlines.Goals as goal

pub returns-in-Ok-joined-clause-centres : goal.returns-in-Ok-joined-clause-centres
returns-in-Ok-joined-clause-centres c =
    outlines_hold_centres c.args.edges.now c.args.shape.now c.in-Ok-joined.outlines.items c.requires.balanced
    c.in-Ok-joined.ensures

pub returns-in-Ok-joined-clause-near : goal.returns-in-Ok-joined-clause-near
returns-in-Ok-joined-clause-near c =
    outlines_are_near_border c.args.edges.now c.args.shape.now c.in-Ok-joined.outlines.items c.in-Ok-joined.ensures

pub levels-requires-clause-within : goal.levels-requires-clause-within
levels-requires-clause-within c = c.requires.within

pub joined-requires-clause-within : goal.joined-requires-clause-within
joined-requires-clause-within c = c.requires.within

pub joined-requires-clause-balanced : goal.joined-requires-clause-balanced
joined-requires-clause-balanced c = c.requires.balanced

pub returns-in-Ok-joined-clause-outlines : goal.returns-in-Ok-joined-clause-outlines
returns-in-Ok-joined-clause-outlines c = c.in-Ok-joined.ensures

pub joined-requires-clause-levels : goal.joined-requires-clause-levels
joined-requires-clause-levels c =
    subst (AreLevels c.args.edges.now) (sym c.deref.ensures.value) c.in-Ok.ensures.levels

pub joined-requires-clause-levels_within : goal.joined-requires-clause-levels_within
joined-requires-clause-levels_within c =
    subst (All (IsLevelWithin coordinate_limit)) (sym c.deref.ensures.value) c.in-Ok.ensures.within

-- the limit is of 32 bits
few_by : (n limit : ℕ) → limit < 4294967296 → n ≤ limit → n < 4294967296
few_by n limit h k = omega arith

pub levels-requires-clause-few : goal.levels-requires-clause-few
levels-requires-clause-few c = few_by _ c.args.limit c.ranges.limit.fits c.if-count-limit.false

pub joined-requires-clause-few : goal.joined-requires-clause-few
joined-requires-clause-few c = few_by _ c.args.limit c.ranges.limit.fits c.if-count-limit.false

pub returns-in-Ok-joined-clause-few : goal.returns-in-Ok-joined-clause-few
returns-in-Ok-joined-clause-few c = c.if-count-limit.false

pub returns-in-Ok-joined-clause-accepted : goal.returns-in-Ok-joined-clause-accepted
returns-in-Ok-joined-clause-accepted c = c.in-Ok.ensures.accepted

pub returns-in-Ok-joined-clause-refused : goal.returns-in-Ok-joined-clause-refused
returns-in-Ok-joined-clause-refused c = tt

pub returns-then-count-limit-clause-accepted : goal.returns-then-count-limit-clause-accepted
returns-then-count-limit-clause-accepted c = tt

pub returns-then-count-limit-clause-refused : goal.returns-then-count-limit-clause-refused
returns-then-count-limit-clause-refused c = (refl, c.if-count-limit.true)

pub returns-in-Ok-clause-refused : goal.returns-in-Ok-clause-refused
returns-in-Ok-clause-refused c = c.if-count-limit.false

pub returns-in-Err-Memory-clause-refused : goal.returns-in-Err-Memory-clause-refused
returns-in-Err-Memory-clause-refused c = c.if-count-limit.false
